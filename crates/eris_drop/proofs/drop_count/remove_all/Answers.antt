use Rattle.std.proofs.Common.{rules}
use Rattle.std.proofs.lemmas.Fn.{filter_same}
use Rattle.eris_drop.specs.Notes.{forget}
use Rattle.eris_drop.proofs.drop_count.remove_all.Goals as goal

pub returns : goal.returns
unfolding forget
returns c = filter_same _ _ _ (λ x b f' k. search rules) _ _ c.retain.ensures.filtered
