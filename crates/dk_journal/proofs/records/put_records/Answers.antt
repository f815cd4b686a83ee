use Rattle.dk_journal.proofs.Walked.{begins, under_way_more, shorter, all_put}
use Rattle.dk_journal.proofs.records.put_records.Goals as goal

pub loop-behind-init : goal.loop-behind-init
loop-behind-init c = begins _ _ c.requires.is_empty

pub loop-behind-preserved : goal.loop-behind-preserved
loop-behind-preserved c =
    under_way_more _ _ _ _ _ _ _ c.loop-behind.invariant c.requires.has_room c.in-Some.ensures.puts c.put_next.ensures.keeps_width_of_points c.put_next.ensures.keeps_width_of_values

pub loop-behind-smaller : goal.loop-behind-smaller
loop-behind-smaller c = shorter _ _ _ _ _ _ _ c.loop-behind.invariant c.requires.has_room c.in-Some.ensures.puts

pub returns-clause-puts : goal.returns-clause-puts
returns-clause-puts c = all_put _ _ _ _ _ _ c.loop-behind.invariant c.in_default.ensures.puts
