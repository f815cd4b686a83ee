use Rattle.dk_types.proofs.CardEntries.{has_entries}
use Rattle.dk_types.proofs.laws.each_cards_have_entries.Goals as goal

pub returns : goal.returns
returns c = has_entries
