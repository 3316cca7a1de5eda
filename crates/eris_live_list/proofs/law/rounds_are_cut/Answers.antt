use Rattle.eris_live_list.proofs.Counts.{round_cut}
use Rattle.eris_live_list.proofs.law.rounds_are_cut.Goals as goal

pub returns : goal.returns
returns c = round_cut
