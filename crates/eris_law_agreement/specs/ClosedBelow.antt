-- The closed packets of the epochs below one.
use Rattle.std.specs.Prelude.{nat_lt, List}
use Rattle.std.specs.List.{filter}
use Rattle.eris_base.specs.declared.ids.Epoch.{Epoch}
use Rattle.eris_txn.specs.declared.packet.Packet.{Packet}

-- of these packets, those of the epochs below this one
unfoldable pub closed_below : Epoch → List Packet → List Packet
closed_below epoch closed = filter (λ packet. nat_lt packet.stamp.epoch.0 epoch.0) closed
