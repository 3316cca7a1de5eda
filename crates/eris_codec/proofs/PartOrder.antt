-- The lists of a part that was read ascend, and its places are of its epoch.
use Rattle.std.proofs.Common.{◌≡◌, ℕ, zero, suc, ◌&&◌, ◌||◌, ◌==◌, Bool, true, false, cond, nat_lt, List, [], ◌∷◌, ◌++◌, Option, None, Some, Ok, refl, sym, subst}
use Rattle.std.specs.List.{list_all}
use Rattle.std.specs.Option.{option_map}
use Rattle.std.specs.Ordering.{nat_cmp, ordering_then, is_lt}
use Rattle.std.specs.declared.cmp.Ordering.{Ordering}
use Rattle.std.specs.declared.cmp.Ordering.TheVariants.{Less, Equal, Greater}
use Rattle.std.proofs.lemmas.Cmp.{nat_cmp_total, tied_itself}
use Rattle.std.proofs.lemmas.Bool.{and_from}
use Rattle.eris_base.specs.declared.ids.Epoch.{Epoch}
use Rattle.eris_base.specs.declared.ids.ShardId.{ShardId}
use Rattle.eris_txn.specs.declared.packet.Packet.{Packet}
use Rattle.eris_log.specs.PartFacts.{AreHeld, AreMarks}
use Rattle.eris_log.specs.Places.{place_cmp, place_at}
use Rattle.eris_log.specs.Sorted.{is_above, ascends_from}
use Rattle.eris_codec.specs.declared.fault.DecodeReason.TheVariants.{Order, Range}
use Rattle.eris_codec.specs.Codecs.{checked, ◌⊗◌, last_of, read_items}
use Rattle.eris_codec.specs.Fields as f
use Rattle.eris_codec.specs.Parts as p
use Rattle.eris_codec.proofs.LastItems.{last_added}
use Rattle.eris_codec.proofs.Laws.{bind_ok, ok_is, checked_holds, checked_reads, pair_reads, items_reads}
use Rattle.eris_codec.proofs.PartLaws.{at_epoch}

-- ---- places
pub by_tests : (t u v : Bool) (other : Ordering) → (t || (u && v)) ≡ true → is_lt (ordering_then (cond t Less (cond u Equal Greater)) (cond v Less other)) ≡ true
by_tests true u v other h = refl
by_tests false true true other h = refl
by_tests false true false other h = absurd cc
by_tests false false v other h = absurd cc

pub above_in_epoch : (e : Epoch) (before : Option (ShardId × ℕ)) (q : ShardId × ℕ) → p.is_after before q ≡ true → is_above place_cmp (option_map (place_at e) before) (place_at e q) ≡ true
above_in_epoch e None q h = refl
above_in_epoch e (Some before) q h =
    let less = by_tests (nat_lt before.0.0 q.0.0) (before.0.0 == q.0.0) (nat_lt before.1 q.1) (cond (before.1 == q.1) Equal Greater) h in
    subst (λ (o : Ordering). is_lt (ordering_then o (ordering_then (nat_cmp before.0.0 q.0.0) (nat_cmp before.1 q.1))) ≡ true) (sym (tied_itself nat_cmp_total e.0)) less

place_is_after : (before : List (ShardId × ℕ)) (bytes : List ℕ) (q : ShardId × ℕ) (rest : List ℕ) → (p.listed_place before).read bytes ≡ Ok (q, rest) → p.is_after (last_of before) q ≡ true
unfolding p.listed_place
place_is_after before bytes q rest e = checked_holds (λ q. p.is_after (last_of before) q) Order (f.shard ⊗ f.number) bytes q rest e

pairs_ascend : (e : Epoch) (n : ℕ) (before : List (ShardId × ℕ)) (bytes : List ℕ) (pairs : List (ShardId × ℕ)) (rest : List ℕ) → read_items p.listed_place before n bytes ≡ Ok (pairs, rest)
    → ascends_from (λ place. place) place_cmp (option_map (place_at e) (last_of before)) (p.places_at e pairs) ≡ true
unfolding p.places_at
pairs_ascend e zero before bytes pairs rest h =
    subst (λ (z : List (ShardId × ℕ) × List ℕ). ascends_from (λ place. place) place_cmp (option_map (place_at e) (last_of before)) (p.places_at e z.0) ≡ true) (ok_is ([], bytes) (pairs, rest) h) refl
pairs_ascend e (suc n) before bytes pairs rest h =
    let r = items_reads p.listed_place before n bytes pairs rest h in
    let more = pairs_ascend e n (before ++ r.first ∷ []) r.middle r.more rest r.then in
    let above = above_in_epoch e (last_of before) r.first (place_is_after before bytes r.first r.middle r.read) in
    let next : ascends_from (λ place. place) place_cmp (Some (place_at e r.first)) (p.places_at e r.more) ≡ true =
    subst (λ (z : Option (ShardId × ℕ)). ascends_from (λ place. place) place_cmp (option_map (place_at e) z) (p.places_at e r.more) ≡ true) (last_added before r.first) more in
    subst (λ (z : List (ShardId × ℕ)). ascends_from (λ place. place) place_cmp (option_map (place_at e) (last_of before)) (p.places_at e z) ≡ true) (sym r.is) (and_from _ _ above next)

pub marks_read : (bytes : List ℕ) (pairs : List (ShardId × ℕ)) (rest : List ℕ) → p.places.read bytes ≡ Ok (pairs, rest) → (e : Epoch) → AreMarks e (p.places_at e pairs)
unfolding p.places
marks_read bytes pairs rest h e =
    let a = bind_ok (f.word.read bytes) (λ n. read_items p.listed_place [] n.0 n.1) (pairs, rest) h in
    record { ascend = pairs_ascend e a.0.0 [] a.0.1 pairs rest a.2; of_epoch = at_epoch e pairs }

-- ---- packets
pub less_by_test : (t u : Bool) → t ≡ true → is_lt (cond t Less (cond u Equal Greater)) ≡ true
less_by_test true u h = refl
less_by_test false u h = absurd cc

pub above_number : (before : Option (ℕ × Packet)) (n : ℕ) → p.is_above before n ≡ true → is_above nat_cmp (option_map (λ pair. pair.0) before) n ≡ true
above_number None n h = refl
above_number (Some before) n h = less_by_test (nat_lt before.0 n) (before.0 == n) h

record HeldPacket (before : List (ℕ × Packet)) (x : ℕ × Packet) : Type 0 where
  above : p.is_above (last_of before) x.0 ≡ true
  from_one : nat_lt 0 x.0 ≡ true

held_packet_read : (before : List (ℕ × Packet)) (bytes : List ℕ) (x : ℕ × Packet) (rest : List ℕ) → (p.held_packet before).read bytes ≡ Ok (x, rest) → HeldPacket before x
unfolding p.held_packet f.number
held_packet_read before bytes x rest h =
    let r = pair_reads (checked (λ n. p.is_above (last_of before) n) Order f.number) f.packet bytes x rest h in
    record {
      above = checked_holds (λ n. p.is_above (last_of before) n) Order f.number bytes x.0 r.middle r.first;
      from_one = checked_holds (λ n. nat_lt 0 n) Range f.word bytes x.0 r.middle (checked_reads (λ n. p.is_above (last_of before) n) Order f.number bytes x.0 r.middle r.first);
    }

record HeldPackets (before : List (ℕ × Packet)) (held : List (ℕ × Packet)) : Type 0 where
  ascend : ascends_from (λ pair. pair.0) nat_cmp (option_map (λ pair. pair.0) (last_of before)) held ≡ true
  from_one : list_all (λ pair. nat_lt 0 pair.0) held ≡ true

held_ascend : (n : ℕ) (before : List (ℕ × Packet)) (bytes : List ℕ) (held : List (ℕ × Packet)) (rest : List ℕ) → read_items p.held_packet before n bytes ≡ Ok (held, rest) → HeldPackets before held
held_ascend zero before bytes held rest h =
    subst (λ (z : List (ℕ × Packet) × List ℕ). HeldPackets before z.0) (ok_is ([], bytes) (held, rest) h) (record { ascend = refl; from_one = refl })
held_ascend (suc n) before bytes held rest h =
    let r = items_reads p.held_packet before n bytes held rest h in
    let more = held_ascend n (before ++ r.first ∷ []) r.middle r.more rest r.then in
    let one = held_packet_read before bytes r.first r.middle r.read in
    let next : ascends_from (λ pair. pair.0) nat_cmp (Some r.first.0) r.more ≡ true =
    subst (λ (z : Option (ℕ × Packet)). ascends_from (λ pair. pair.0) nat_cmp (option_map (λ pair. pair.0) z) r.more ≡ true) (last_added before r.first) more.ascend in
    let found : HeldPackets before (r.first ∷ r.more) = record { ascend = and_from _ _ (above_number (last_of before) r.first.0 one.above) next; from_one = and_from _ _ one.from_one more.from_one } in
    subst (λ (z : List (ℕ × Packet)). HeldPackets before z) (sym r.is) found

pub held_read : (bytes : List ℕ) (held : List (ℕ × Packet)) (rest : List ℕ) → p.held.read bytes ≡ Ok (held, rest) → AreHeld held
unfolding p.held
held_read bytes held rest h =
    let a = bind_ok (f.word.read bytes) (λ n. read_items p.held_packet [] n.0 n.1) (held, rest) h in
    let k = held_ascend a.0.0 [] a.0.1 held rest a.2 in
    record { ascend = k.ascend; from_one = k.from_one }
