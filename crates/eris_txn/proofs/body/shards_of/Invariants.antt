use Rattle.std.proofs.Common.{◌≡◌, take, map}
use Rattle.eris_txn.specs.Bodies.{shards_of}
use Rattle.eris_txn.proofs.body.shards_of.Given as goal

abbrev pub invariant-loop-item : goal.invariant-loop-item
invariant-loop-item g l = l.shards ≡ shards_of (map g.T.OfKey.key_in (take l.item-index l.items))
