use Rattle.std.proofs.Common.{sym, ◌∙◌}
use Rattle.std.proofs.lemmas.List.Folds.{list_all-map}
use Rattle.eris_txn.specs.declared.key.Key.{Key}
use Rattle.eris_rules.specs.Known.{knows_shard, knows_keys}
use Rattle.eris_in_place.proofs.known.knows_keys.Goals as goal

pub returns : goal.returns
unfolding knows_keys
returns g c = c.are_known.ensures ∙ sym (list_all-map (λ (key : Key). knows_shard c.args.config.now key.shard) g.T.OfKey.key_in c.args.items.now)
