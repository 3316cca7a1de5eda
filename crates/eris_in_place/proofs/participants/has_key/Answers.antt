use Rattle.std.proofs.Common.{◌==◌, sym, ◌∙◌}
use Rattle.eris_txn.specs.declared.key.Key.{Key}
use Rattle.eris_in_place.proofs.ExactShards.{list_any-map}
use Rattle.eris_in_place.proofs.participants.has_key.Goals as goal

pub returns : goal.returns
returns g c = c.any_is_on.ensures ∙ sym (list_any-map (λ (key : Key). key.shard.0 == c.args.shard.0) g.T.OfKey.key_in c.args.items.now)
