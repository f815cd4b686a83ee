use Rattle.std.proofs.Common.{◌≡◌, ◌+◌, ◌∷◌, ◌++◌, [], List, ℕ, length, take, false, Ok, Err, refl, ap, subst, arith, length-append}
use Rattle.dk_types.specs.declared.entry.Entry.{Entry}
use Rattle.dk_types.specs.Entries.{kept}
use Rattle.dk_record.specs.Payloads.{payload, IsStored}
use Rattle.dk_record.proofs.Once.{length-payload}
use Rattle.dk_journal.specs.declared.fault.AppendFault.TheVariants.{Disk}
use Rattle.dk_journal.specs.Journals.{JournalState, Holds, ComesNext, Appends}
use Rattle.dk_journal.proofs.Appending.{first_ready, append_done, append_broke}
use Rattle.dk_journal.proofs.journal.Journal.append.Goals as goal

pub returns-in-Ok-clause-appends : goal.returns-in-Ok-clause-appends
returns-in-Ok-clause-appends g c entries holds next =
    let e : Entry = record { point = c.args.point.now; attempt = c.args.attempt; said = kept c.args.outcome } in
    let bytes : List ℕ = take c.write_record-size.result c.write_record-size.new.out ++ 0 ∷ [] in
    let are : bytes ≡ payload e ++ 0 ∷ [] = ap (λ (l : List ℕ). l ++ 0 ∷ []) c.write_record-size.ensures.is_payload in
    let long : c.write_record-size.result + 1 ≡ length bytes = omega (arith, c.write_record-size.ensures.has_size, length-payload e, ap length are, length-append (payload e) (0 ∷ [])) in
    let old : JournalState = record { told = g.K.Disk.told c.self.inside.disk; faults = g.K.Disk.faults c.self.inside.disk; shape = c.self.inside.shape; end = c.self.inside.end; entries = c.self.inside.entries; limit = c.self.inside.limit; whole = c.self.inside.whole } in
    let new : JournalState = record { told = g.K.Disk.told c.put_front.new.disk; faults = g.K.Disk.faults c.put_front.new.disk; shape = c.self.inside.shape; end = c.self.inside.end + (c.write_record-size.result + 1); entries = c.self.inside.entries + 1; limit = c.self.inside.limit; whole = c.self.inside.whole } in
    let stored : IsStored (length c.args.self.now.shape.variables) (length c.args.self.now.shape.responses) e = record { point_length = c.requires.ready.next.point; point = c.write_record-size.ensures.point_is_canonical; first = first_ready c.args.self.now e c.requires.ready; last = c.ranges.attempt.fits; values_length = c.requires.ready.next.values; values = c.write_record-size.ensures.values_are_canonical } in
    let end : new.end ≡ old.end + length bytes = ap (λ (n : ℕ). c.self.inside.end + n) long in
    subst (λ (j : JournalState). IsStored (length j.shape.variables) (length j.shape.responses) e → Holds j entries → ComesNext j.shape entries e → Appends j new entries e (Ok c.self.inside.entries)) c.self.view_is
    (append_done old new entries e bytes are c.in-Ok.ensures.puts refl end refl refl) stored holds next

pub returns-in-Err-clause-appends : goal.returns-in-Err-clause-appends
returns-in-Err-clause-appends g c entries holds next =
    let e : Entry = record { point = c.args.point.now; attempt = c.args.attempt; said = kept c.args.outcome } in
    let bytes : List ℕ = take c.write_record-size.result c.write_record-size.new.out ++ 0 ∷ [] in
    let are : bytes ≡ payload e ++ 0 ∷ [] = ap (λ (l : List ℕ). l ++ 0 ∷ []) c.write_record-size.ensures.is_payload in
    let old : JournalState = record { told = g.K.Disk.told c.self.inside.disk; faults = g.K.Disk.faults c.self.inside.disk; shape = c.self.inside.shape; end = c.self.inside.end; entries = c.self.inside.entries; limit = c.self.inside.limit; whole = c.self.inside.whole } in
    let new : JournalState = record { told = g.K.Disk.told c.put_front.new.disk; faults = g.K.Disk.faults c.put_front.new.disk; shape = c.self.inside.shape; end = c.self.inside.end; entries = c.self.inside.entries; limit = c.self.inside.limit; whole = false } in
    let stored : IsStored (length c.args.self.now.shape.variables) (length c.args.self.now.shape.responses) e = record { point_length = c.requires.ready.next.point; point = c.write_record-size.ensures.point_is_canonical; first = first_ready c.args.self.now e c.requires.ready; last = c.ranges.attempt.fits; values_length = c.requires.ready.next.values; values = c.write_record-size.ensures.values_are_canonical } in
    subst (λ (j : JournalState). IsStored (length j.shape.variables) (length j.shape.responses) e → Holds j entries → ComesNext j.shape entries e → Appends j new entries e (Err Disk)) c.self.view_is
    (append_broke old new entries e bytes are c.in-Err.ensures.puts refl (g.met.K.Disk.shows c.put_front.new.disk)) stored holds next
