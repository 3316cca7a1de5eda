use Rattle.std.proofs.Common.{◌≡◌, ◌++◌, take}
use Rattle.std.specs.List.{flat_map}
use Rattle.eris_codec.specs.Fields as f
use Rattle.eris_codec.proofs.write_lists.put_all_packets.Given as goal

abbrev pub invariant-loop-packet : goal.invariant-loop-packet
invariant-loop-packet l = l.out ≡ l.fn.out ++ flat_map f.packet.spell (take l.packet-index l.packets)
