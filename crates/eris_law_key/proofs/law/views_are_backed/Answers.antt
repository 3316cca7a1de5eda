use Rattle.eris_law_key.proofs.Views.{above_zero}
use Rattle.eris_law_key.proofs.law.views_are_backed.Goals as goal

pub returns : goal.returns
returns c = record { backed = above_zero }
