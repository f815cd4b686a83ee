use Rattle.dk_reader.proofs.TextReads.{document_named, document_read, sound_read}
use Rattle.dk_reader.proofs.reader.read_study.Goals as goal

pub returns-clause-says_study_or_fault : goal.returns-clause-says_study_or_fault
returns-clause-says_study_or_fault c = document_read c.args.text.now c.in_ok-document.document c.study_of.result c.in_ok-document.ensures c.study_of.ensures

pub returns-clause-is_sound : goal.returns-clause-is_sound
returns-clause-is_sound c = sound_read c.args.text.now c.in_ok-document.document c.study_of.result c.in_ok-document.ensures c.study_of.ensures

pub study_of-requires : goal.study_of-requires
study_of-requires c = document_named c.args.text.now c.in_ok-document.document c.in_ok-document.ensures
