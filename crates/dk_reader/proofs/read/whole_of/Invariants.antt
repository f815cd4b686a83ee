use Rattle.dk_reader.proofs.Wholes.{WholeSoFar}
use Rattle.dk_reader.proofs.read.whole_of.Given as goal

abbrev pub invariant-loop-byte : goal.invariant-loop-byte
invariant-loop-byte l = WholeSoFar l.bytes l.byte-index l.whole
