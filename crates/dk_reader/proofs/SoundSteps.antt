-- What follows where no step has a fault.
use Rattle.std.proofs.Common.{◌≡◌, ℕ, ◌+◌, ◌*◌, ◌≤◌, false, List, [], ◌++◌, arith}
use Rattle.std.specs.Prelude.{◌||◌, nat_lt}
use Rattle.std.proofs.lemmas.Bool.{or_parts}
use Rattle.std.proofs.lemmas.Grind.{common_steps}
use Rattle.dk_reader.specs.declared.fault.StudyKind.TheVariants as kind
use Rattle.dk_reader.specs.declared.document.Document.{Document}
use Rattle.dk_reader.specs.Document.{AreNamed, variable_count, response_count}
use Rattle.dk_reader.specs.Study.{limit}
use Rattle.dk_reader.specs.Steps.{wrong_if, study_faults, step1, step2, step3, step4, step5, step6, step7, step8, step9, step10, step11, step12}
use Rattle.dk_reader.proofs.SoundLists.{empty_parts, unless_when}

-- each keyword has its own entry of the table, and no step has a fault
pub record Checked (d : Document) : Type 0 where
  pub named : AreNamed d.fields
  pub method : step1 d ≡ []
  pub variables : step2 d ≡ []
  pub responses : step3 d ≡ []
  pub driver : step4 d ≡ []
  pub values : step5 d ≡ []
  pub labels : step6 d ≡ []
  pub keywords : step7 d ≡ []
  pub rules : step8 d ≡ []
  pub bounds : step9 d ≡ []
  pub size : step10 d ≡ []
  pub units : step11 d ≡ []
  pub table : step12 d ≡ []

twelve : {X : Type 0} (a b c e f g h i j k l m : List X) → a ++ (b ++ (c ++ (e ++ (f ++ (g ++ (h ++ (i ++ (j ++ (k ++ (l ++ (m ++ []))))))))))) ≡ [] →
    (a ≡ []) × (b ≡ []) × (c ≡ []) × (e ≡ []) × (f ≡ []) × (g ≡ []) × (h ≡ []) × (i ≡ []) × (j ≡ []) × (k ≡ []) × (l ≡ []) × (m ≡ [])
twelve a b c e f g h i j k l m z =
    let pa = empty_parts a _ z in let pb = empty_parts b _ pa.1 in let pc = empty_parts c _ pb.1 in let pe = empty_parts e _ pc.1 in
    let pf = empty_parts f _ pe.1 in let pg = empty_parts g _ pf.1 in let ph = empty_parts h _ pg.1 in let pi = empty_parts i _ ph.1 in
    let pj = empty_parts j _ pi.1 in let pk = empty_parts k _ pj.1 in let pl = empty_parts l _ pk.1 in let pm = empty_parts m [] pl.1 in
    (pa.0, pb.0, pc.0, pe.0, pf.0, pg.0, ph.0, pi.0, pj.0, pk.0, pl.0, pm.0)

-- a document without faults has none in any step
pub checked : (d : Document) → AreNamed d.fields → study_faults d ≡ [] → Checked d
unfolding study_faults
checked d named e =
    let p = twelve (step1 d) (step2 d) (step3 d) (step4 d) (step5 d) (step6 d) (step7 d) (step8 d) (step9 d) (step10 d) (step11 d) (step12 d) e in
    record { named = named; method = p.0; variables = p.1; responses = p.2; driver = p.3; values = p.4; labels = p.5; keywords = p.6; rules = p.7; bounds = p.8; size = p.9; units = p.10; table = p.11 }

small : (low n : ℕ) → nat_lt low n ≡ false → n ≤ low
small low n e = grind (arith, common_steps)

sizes : (n m : ℕ) (span : _) → wrong_if (nat_lt 100000 n || nat_lt 4000000 (n * m)) kind.TooMany span ≡ [] → (n ≤ 100000) × (n * m ≤ 4000000)
sizes n m span e =
    let p = or_parts (nat_lt 100000 n) (nat_lt 4000000 (n * m)) (unless_when _ _ e) in
    (small 100000 n p.0, small 4000000 (n * m) p.1)

-- there are few rows, and few numbers in them
pub few_of_size : (d : Document) → step10 d ≡ [] → (limit d ≤ 100000) × (limit d * (variable_count d + response_count d) ≤ 4000000)
few_of_size d size = sizes (limit d) (variable_count d + response_count d) _ size

pub few_rows : (d : Document) → Checked d → (limit d ≤ 100000) × (limit d * (variable_count d + response_count d) ≤ 4000000)
few_rows d c = few_of_size d c.size
