-- What stands at a number of a part.
use Rattle.std.specs.Prelude.{◌≡◌, ◌≤◌, ℕ, zero, suc, ◌+◌, Bool, true, false, not, ◌&&◌, ◌||◌, Option, Some, None, is_some, List, length, find, if◌then◌else◌}
use Rattle.std.specs.List.{list_all}
use Rattle.std.specs.Option.{option_map}
use Rattle.eris_base.specs.declared.ids.Place.{Place}
use Rattle.eris_base.specs.declared.stamp.Stamp.{Stamp}
use Rattle.eris_base.specs.StampPlaces.{has_place}
use Rattle.eris_txn.specs.declared.packet.Packet.{Packet}
use Rattle.eris_log.specs.declared.entry.Entry.{Entry}
use Rattle.eris_log.specs.declared.entry.Entry.TheVariants.{Dropped, Txn, Gap}
use Rattle.eris_log.specs.Held.{packet_at}
use Rattle.eris_log.specs.PartValues.{PartValue}
use Rattle.eris_log.specs.Places.{contains_place, places_of, any_among}

-- the place of a number on the part's shard
abbrev pub own_place : PartValue → ℕ → Place
own_place part number = record { epoch = part.epoch; shard = part.shard; number = number }

-- each place of the stamp that is in the first list is in the second
unfoldable pub all_found : List Place → List Place → Stamp → Bool
all_found temp fnd stamp =
    list_all (λ place. not (contains_place temp place) || contains_place fnd place) (places_of stamp)

-- some place of the packet is dropped for good
abbrev pub is_lost : PartValue → Packet → Bool
is_lost part packet = any_among part.perm packet.stamp

-- each place of the packet that is dropped for a time is found
abbrev pub is_clear : PartValue → Packet → Bool
is_clear part packet = all_found part.temp part.fnd packet.stamp

-- there is a packet, and it passes the test
abbrev pub is_held_and : (Packet → Bool) → Option Packet → Bool
is_held_and test None = false
is_held_and test (Some packet) = test packet

-- the place is dropped for good, or the packet that is held there has such a place
unfoldable pub is_dropped : PartValue → ℕ → Bool
is_dropped part number =
    contains_place part.perm (own_place part number) || is_held_and (λ packet. is_lost part packet) (packet_at part.held number)

-- a packet is held there, none of its places is dropped for good, and each that is dropped for a time is found
unfoldable pub is_txn : PartValue → ℕ → Bool
is_txn part number =
    is_held_and (λ packet. not (is_lost part packet) && is_clear part packet) (packet_at part.held number)

unfoldable pub entry_of : PartValue → ℕ → Entry
entry_of part number = if is_dropped part number then Dropped else if is_txn part number then Txn else Gap

unfoldable pub is_gap : PartValue → ℕ → Bool
is_gap part number = not (is_dropped part number || is_txn part number)

-- an entry is a gap, whose place is dropped for good or not, and where this packet is held
abbrev pub is_gap_by : PartValue → Bool → Option Packet → Bool
is_gap_by part dropped found =
    not dropped && not (is_held_and (λ packet. is_lost part packet) found) && not (is_held_and (λ packet. is_clear part packet) found)

-- the greatest number to which no entry is a gap, where none is to this number, looking at so many more
unfoldable pub reach : PartValue → ℕ → ℕ → ℕ
reach part number zero = number
reach part number (suc more) = if is_gap part (number + 1) then number else reach part (number + 1) more

-- the greatest number to which no entry from 1 on is a gap. An entry that is none is held, or its place is
-- dropped for good, so there are no more of them than these.
unfoldable pub length_of : PartValue → ℕ
length_of part = reach part 0 (length part.held + length part.perm)

-- no entry from 1 to the number is a gap, and the next one is
pub record IsLength (part : PartValue) (number : ℕ) : Type 0 where
  pub whole : (n : ℕ) → 1 ≤ n → n ≤ number → is_gap part n ≡ false
  pub ends : is_gap part (number + 1) ≡ true

-- the place of the number is held or dropped for good
unfoldable pub is_covered : PartValue → ℕ → Bool
is_covered part number = is_some (packet_at part.held number) || contains_place part.perm (own_place part number)

-- each place from 1 to the number is held or dropped for good
unfoldable pub covers : PartValue → ℕ → Bool
covers part zero = true
covers part (suc number) = covers part number && is_covered part (number + 1)

-- the least held number whose packet has the place
unfoldable pub holder_of : PartValue → Place → Option ℕ
holder_of part place = option_map (λ pair. pair.0) (find (λ pair. has_place pair.1.stamp place) part.held)
