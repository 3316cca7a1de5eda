-- Packets by number.
use Rattle.std.specs.Prelude.{ℕ, Bool, ◌==◌, nat_lt, Option, List, find}
use Rattle.std.specs.List.{list_all}
use Rattle.std.specs.Option.{option_map}
use Rattle.std.specs.Ordering.{nat_cmp}
use Rattle.eris_txn.specs.declared.packet.Packet.{Packet}
use Rattle.eris_log.specs.Sorted.{ascends, with_item, union}

-- the numbers strictly ascend
abbrev pub numbers_ascend : List (ℕ × Packet) → Bool
numbers_ascend held = ascends (λ pair. pair.0) nat_cmp held

-- each number is at least 1
abbrev pub count_from_one : List (ℕ × Packet) → Bool
count_from_one held = list_all (λ pair. nat_lt 0 pair.0) held

-- the packet that is held at a number
unfoldable pub packet_at : List (ℕ × Packet) → ℕ → Option Packet
packet_at held number = option_map (λ pair. pair.1) (find (λ pair. pair.0 == number) held)

-- the packets with one more at its number; a number that is held keeps its packet
unfoldable pub with_packet : List (ℕ × Packet) → ℕ → Packet → List (ℕ × Packet)
with_packet held number packet = with_item (λ pair. pair.0) nat_cmp held (number, packet)

-- the packets with each of the others whose number isn't held
unfoldable pub with_packets : List (ℕ × Packet) → List (ℕ × Packet) → List (ℕ × Packet)
with_packets held others = union (λ pair. pair.0) nat_cmp held others
