-- A PART THAT HAS EACH PACKET UP TO A NUMBER, and nothing dropped or found: every entry is open, and its length is
-- how many it has. Used where a replica gets the packets of its shard in their order.
use Rattle.std.proofs.Common.{◌≡◌, ◌≤◌, ◌<◌, ◌+◌, ◌-◌, ℕ, zero, suc, true, false, not, cond, ◌==◌, ◌||◌, ◌&&◌, Option, Some, None, is_some, List, [], ◌∷◌, ◌++◌, length, nat_le, refl, ap, sym, ◌∙◌, arith}
use Rattle.std.proofs.lemmas.Bool.{eq-eqb, lt-leb, ne_eqb}
use Rattle.std.proofs.lemmas.Cmp.{nat_cmp_total}
use Rattle.std.specs.Cmp.{nat_cmp_is}
use Rattle.std.specs.List.{list_all, list_any}
use Rattle.std.specs.Option.{option_map}
use Rattle.std.specs.Ordering.{is_lt, nat_cmp}
use Rattle.std.specs.Prelude.{find, slice_get}
use Rattle.std.specs.declared.cmp.Ordering.{Ordering}
use Rattle.std.specs.declared.cmp.Ordering.TheVariants.{Greater}
use Rattle.eris_base.specs.declared.ids.Place.{Place}
use Rattle.eris_base.specs.declared.ids.ShardId.{ShardId}
use Rattle.eris_base.specs.declared.stamp.Stamp.{Stamp}
use Rattle.eris_txn.specs.declared.packet.Packet.{Packet}
use Rattle.eris_log.specs.declared.entry.Entry.TheVariants.{Txn}
use Rattle.eris_log.specs.Entries.{all_found, entry_of, is_clear, is_dropped, is_gap, is_held_and, is_lost, is_txn, length_of}
use Rattle.eris_log.specs.Held.{packet_at, with_packet}
use Rattle.eris_log.specs.PartValues.{PartValue}
use Rattle.eris_log.specs.Places.{any_among, contains_place, places_of}
use Rattle.eris_log.specs.Sorted.{item_at, placed}
use Rattle.eris_log.specs.Laws.Entries.{entry_of-txn, length_of-unique}
use Rattle.eris_log.specs.Laws.Sorted.{with_item-absent}
use Rattle.eris_log.specs.Laws.Held.{packet_at-item_at}
use Rattle.eris_law_calm.specs.Received.{numbered, whole_part}

pub at_number : (from : ℕ) (packets : List Packet) (i k : ℕ) → k ≡ from + 1 + i → packet_at (numbered from packets) k ≡ slice_get packets i
unfolding packet_at
at_number from [] i k is = refl
at_number from (packet ∷ packets) zero k is =
    ap (λ b. option_map (λ (pair : ℕ × Packet). pair.1) (cond b (Some (from + 1, packet)) (find (λ pair. pair.0 == k) (numbered (from + 1) packets)))) (eq-eqb (from + 1) k (omega arith))
at_number from (packet ∷ packets) (suc i) k is =
    ap (λ b. option_map (λ (pair : ℕ × Packet). pair.1) (cond b (Some (from + 1, packet)) (find (λ pair. pair.0 == k) (numbered (from + 1) packets)))) (ne_eqb (from + 1) k (λ e. omega (arith, e, is)))
    ∙ at_number (from + 1) packets i k (omega arith)

pub beyond : (packets : List Packet) (i : ℕ) → length packets ≤ i → slice_get packets i ≡ None
beyond [] i past = refl
beyond (packet ∷ packets) zero past = absurd (omega arith)
beyond (packet ∷ packets) (suc i) past = beyond packets i (omega arith)

pub within : (packets : List Packet) (i : ℕ) → i < length packets → (packet : Packet) × (slice_get packets i ≡ Some packet)
within [] i low = absurd (omega arith)
within (packet ∷ packets) zero low = (packet, refl)
within (packet ∷ packets) (suc i) low = within packets i (omega arith)

placed_last : (from : ℕ) (packets : List Packet) (packet : Packet) (k : ℕ) → k ≡ from + length packets + 1
    → placed (λ (pair : ℕ × Packet). pair.0) nat_cmp (numbered from packets) (k, packet) ≡ numbered from (packets ++ packet ∷ [])
unfolding placed
placed_last from [] packet k is = let same : k ≡ from + 1 = omega arith in ap (λ (n : ℕ). (n, packet) ∷ []) same
placed_last from (first ∷ packets) packet k is =
    ap (λ (o : Ordering). cond (is_lt o) ((k, packet) ∷ (from + 1, first) ∷ numbered (from + 1) packets) ((from + 1, first) ∷ placed (λ (pair : ℕ × Packet). pair.0) nat_cmp (numbered (from + 1) packets) (k, packet)))
    (sym (nat_cmp_is k (from + 1) Greater (omega arith)))
    ∙ ap (λ (rest : List (ℕ × Packet)). (from + 1, first) ∷ rest) (placed_last (from + 1) packets packet k (omega arith))

none_by : (found : Option (ℕ × Packet)) → option_map (λ (pair : ℕ × Packet). pair.1) found ≡ None → is_some found ≡ false
none_by None h = refl
none_by (Some pair) h = absurd (cc)

-- one more goes to the end
pub one_more_held : (from : ℕ) (packets : List Packet) (packet : Packet) (k : ℕ) → k ≡ from + length packets + 1 → with_packet (numbered from packets) k packet ≡ numbered from (packets ++ packet ∷ [])
unfolding with_packet
one_more_held from packets packet k is =
    let absent = none_by (item_at (λ (pair : ℕ × Packet). pair.0) nat_cmp (numbered from packets) k)
    (sym (packet_at-item_at (numbered from packets) k) ∙ at_number from packets (length packets) k (omega arith) ∙ beyond packets (length packets) (omega arith)) in
    with_item-absent (λ (pair : ℕ × Packet). pair.0) nat_cmp_total (numbered from packets) (k, packet) absent ∙ placed_last from packets packet k is

-- the last of a list
pub last_of : (packets : List Packet) (packet : Packet) → slice_get (packets ++ packet ∷ []) (length packets) ≡ Some packet
last_of [] packet = refl
last_of (first ∷ packets) packet = last_of packets packet

module _ (shard : ShardId) (packets : List Packet) where
  abbrev own_part : PartValue
  own_part = whole_part shard packets

  none_in : (places : List Place) → list_any (λ place. contains_place [] place) places ≡ false
  unfolding contains_place
  none_in [] = refl
  none_in (place ∷ places) = none_in places

  none_lost : (stamp : Stamp) → any_among [] stamp ≡ false
  unfolding any_among
  none_lost stamp = none_in (places_of stamp)

  all_in : (places : List Place) → list_all (λ place. not (contains_place [] place) || contains_place [] place) places ≡ true
  unfolding contains_place
  all_in [] = refl
  all_in (place ∷ places) = all_in places

  all_clear : (stamp : Stamp) → all_found [] [] stamp ≡ true
  unfolding all_found
  all_clear stamp = all_in (places_of stamp)

  by_held : (found : Option Packet) → is_held_and (λ packet. is_lost own_part packet) found ≡ false
  by_held None = refl
  by_held (Some packet) = none_lost packet.stamp

  not_dropped : (k : ℕ) → is_dropped own_part k ≡ false
  unfolding is_dropped contains_place
  not_dropped k = by_held (packet_at (numbered 0 packets) k)

  there : (k : ℕ) (packet : Packet) → packet_at (numbered 0 packets) k ≡ Some packet → is_txn own_part k ≡ true
  unfolding is_txn
  there k packet is =
      ap (λ found. is_held_and (λ packet. not (is_lost own_part packet) && is_clear own_part packet) found) is
      ∙ ap (λ b. not b && is_clear own_part packet) (none_lost packet.stamp) ∙ all_clear packet.stamp

  gone : (k : ℕ) → packet_at (numbered 0 packets) k ≡ None → is_txn own_part k ≡ false
  unfolding is_txn
  gone k is = ap (λ found. is_held_and (λ packet. not (is_lost own_part packet) && is_clear own_part packet) found) is

  -- each number up to the last has its packet, and is open
  pub held_at : (k i : ℕ) → k ≡ i + 1 → packet_at (numbered 0 packets) k ≡ slice_get packets i
  held_at k i is = at_number 0 packets i k (omega arith)

  pub open_entry : (k i : ℕ) → k ≡ i + 1 → i < length packets → entry_of own_part k ≡ Txn
  open_entry k i is low = let found = within packets i low in entry_of-txn own_part k (not_dropped k) (there k found.0 (held_at k i is ∙ found.1))

  no_gap : (k i : ℕ) → k ≡ i + 1 → i < length packets → is_gap own_part k ≡ false
  unfolding is_gap
  no_gap k i is low =
      let found = within packets i low in
      ap (λ b. not (b || is_txn own_part k)) (not_dropped k) ∙ ap not (there k found.0 (held_at k i is ∙ found.1))

  a_gap : (k i : ℕ) → k ≡ i + 1 → length packets ≤ i → is_gap own_part k ≡ true
  unfolding is_gap
  a_gap k i is past = ap (λ b. not (b || is_txn own_part k)) (not_dropped k) ∙ ap not (gone k (held_at k i is ∙ beyond packets i past))

  -- THE LENGTH is how many there are
  pub whole_length : length_of own_part ≡ length packets
  whole_length = sym (length_of-unique own_part (length packets) (record {
    whole = λ n low high. no_gap n (n - 1) (omega arith) (omega arith);
    ends = a_gap (length packets + 1) (length packets) refl (omega arith);
  }))

-- no packet stands above the last number
pub none_above : (from : ℕ) (packets : List Packet) (k : ℕ) → from + length packets < k → list_any (λ pair. nat_le k pair.0) (numbered from packets) ≡ false
none_above from [] k high = refl
none_above from (packet ∷ packets) k high = ap (λ b. b || list_any (λ pair. nat_le k pair.0) (numbered (from + 1) packets)) (lt-leb k (from + 1) (omega arith)) ∙ none_above (from + 1) packets k (omega arith)
