use Rattle.std.proofs.Common.{sym, subst, ◌∙◌}
use Rattle.std.specs.Prelude.{Err, Ok}
use Rattle.dk_grammar.specs.Grammar.{Grown, GrowsTo}
use Rattle.dk_grammar.specs.Judging.{AreSpans}
use Rattle.dk_grammar.proofs.Spans.{spans_in}
use Rattle.dk_grammar.proofs.Built.{fault_told, want_told, is_tree}
use Rattle.dk_grammar.proofs.grower.tree.Goals as goal

-- the tokens lie in the text
pub first_fault-requires : goal.first_fault-requires
first_fault-requires c = record {
  is_short = c.requires.is_short;
  has_spans = subst (AreSpans c.args.text.now) (sym c.items-tokens.ensures) (spans_in c.args.text.now c.args.tokens.now c.requires.has_tokens);
}

pub grown-requires : goal.grown-requires
grown-requires c = subst (AreSpans c.args.text.now) (sym c.items-tokens.ensures) (spans_in c.args.text.now c.args.tokens.now c.requires.has_tokens)

-- the first fault is told, and want of memory where there is none
pub returns-in-Some : goal.returns-in-Some
returns-in-Some c = record {
  gives_outcome = subst (λ ts. Grown c.args.text.now ts (Err c.in-Some.fault)) c.items-tokens.ensures
      (fault_told c.args.text.now c.items-tokens.result.now c.in-Some.fault (sym c.in-Some.ensures));
}

pub returns-in_err-growth : goal.returns-in_err-growth
returns-in_err-growth c = record {
  gives_outcome = subst (λ ts. Grown c.args.text.now ts c.from_residual.result) c.items-tokens.ensures
      (want_told c.args.text.now c.items-tokens.result.now (sym c.first_fault.ensures ∙ c.in_default.is) c.from_residual.result c.from_residual.ensures.1);
}

-- and where there is none, the openings and items make the tree
pub returns : goal.returns
returns c = record {
  gives_outcome = subst (λ ts. GrowsTo c.args.text.now ts (Ok (record { blocks = c.of_vec.result; items = c.of_vec-2.result }))) c.items-tokens.ensures
      (is_tree c.args.text.now c.items-tokens.result.now c.in_ok-growth.growth c.in_ok-growth.ensures (record { blocks = c.of_vec.result; items = c.of_vec-2.result })
      (sym c.first_fault.ensures ∙ c.in_default.is) c.of_vec.ensures c.of_vec-2.ensures);
}
