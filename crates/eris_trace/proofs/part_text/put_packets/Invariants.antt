use Rattle.std.proofs.Common.{◌≡◌, ◌++◌, map, take}
use Rattle.eris_trace.specs.PartText.{packet_word}
use Rattle.eris_words.specs.Words.{spaced}
use Rattle.eris_trace.proofs.part_text.put_packets.Given as goal

abbrev pub invariant-loop-packet : goal.invariant-loop-packet
invariant-loop-packet l = l.out ≡ l.fn.out ++ spaced (map packet_word (take l.packet-index l.packets))
