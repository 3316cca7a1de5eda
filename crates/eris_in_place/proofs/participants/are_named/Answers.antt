use Rattle.std.proofs.Common.{is_some, sym, ◌∙◌}
use Rattle.std.proofs.lemmas.List.Folds.{list_all-map}
use Rattle.eris_base.specs.Places.{number_in}
use Rattle.eris_txn.specs.declared.key.Key.{Key}
use Rattle.eris_in_place.proofs.participants.are_named.Goals as goal

pub returns : goal.returns
returns g c = c.each_is_named.ensures ∙ sym (list_all-map (λ (key : Key). is_some (number_in c.args.stamp.now.places key.shard)) g.T.OfKey.key_in c.args.items.now)
