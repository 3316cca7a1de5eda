-- What the tallies say of quorums.
use Rattle.std.proofs.Common.{◌≡◌, ◌≤◌, ◌<◌, ℕ, Bool, true, false, nat_lt, cond, List, [], ◌∷◌, Some, max, refl, ap, sym, subst, arith, inl, inr}
use Rattle.std.proofs.lemmas.Bool.{and_parts, lt-ltb, ltb-true, eqb-true, leb-true}
use Rattle.std.proofs.lemmas.Cmp.{nat_cmp_total}
use Rattle.std.proofs.lemmas.List.Sums.{length-filter}
use Rattle.std.specs.List.{list_any}
use Rattle.std.specs.Ordering.{nat_cmp}
use Rattle.std.specs.Prelude.{nat_le, filter, map}
use Rattle.std.specs.declared.cmp.Ordering.TheVariants.{Less}
use Rattle.eris_base.specs.declared.ids.ReplicaId.{ReplicaId}
use Rattle.eris_base.specs.declared.ids.View.{View}
use Rattle.eris_base.specs.Each.{Each}
use Rattle.eris_base.specs.Quorums.{same_replica, different_replicas}
use Rattle.eris_log.specs.Growth.{OfOneShard}
use Rattle.eris_log.specs.PartValues.{PartValue}
use Rattle.eris_log.specs.Sorted.{ascends_from}
use Rattle.eris_log.specs.Laws.Sorted.{below_from, below_lower, ascends_tail, ascends_after}
use Rattle.eris_view.proofs.Acks.{Ack, not_le_from, IsSettled-settled}
use Rattle.eris_view.proofs.NotedParts.{replicas_ascend-with_part}
use Rattle.eris_view.proofs.Replicas.{number_of, IsBelow, less_when, less_else, different-new, in_order-filter, absent-filter}
use Rattle.eris_view.specs.AckTallies.{AckTallyValue, with_ack, how_many_have, quorum_has, settled}
use Rattle.eris_view.specs.Holders.{acks_ascend, holders, IsSharedByQuorum}
use Rattle.eris_view.specs.ViewTallies.{ViewTallyValue, no_parts, with_part, note_part, replicas_of, is_ready}
use Rattle.eris_view.specs.ViewTallyFacts.{IsViewTally, AreOfShard}

-- ---- the tally of a view
pub no_parts_is_tally : (view : View) (f : ℕ) → IsViewTally (no_parts view f)
unfolding no_parts
no_parts_is_tally view f = record { ascend = refl }

pub note_part_is_tally : (tally : ViewTallyValue) (replica : ReplicaId) (part : PartValue) → IsViewTally tally → IsViewTally (note_part tally replica part)
unfolding note_part
note_part_is_tally tally replica part facts = record { ascend = replicas_ascend-with_part tally.noted replica part facts.ascend }

-- what holds of each noted part and of one more holds after it is noted
pub each-with_part : (Said : ReplicaId → PartValue → Type 0) (noted : List (ReplicaId × PartValue)) (replica : ReplicaId) (part : PartValue)
    → Each (λ one. Said one.0 one.1) noted → Said replica part → Each (λ one. Said one.0 one.1) (with_part noted replica part)
unfolding with_part
each-with_part Said [] replica part all one = (one, tt)
each-with_part Said (other ∷ noted) replica part all one =
    by_tests (nat_lt replica.0 other.0.0) (same_replica replica other.0) (each-with_part Said noted replica part all.1 one)
  where
    by_tests : (t s : Bool) → Each (λ one. Said one.0 one.1) (with_part noted replica part)
        → Each (λ one. Said one.0 one.1) (cond t ((replica, part) ∷ other ∷ noted) (cond s ((replica, part) ∷ noted) (other ∷ with_part noted replica part)))
    by_tests true s more = (one, all)
    by_tests false true more = (one, all.1)
    by_tests false false more = (all.0, more)

-- noted parts of the part's epoch and shard, before and after one more is noted
pub AreOfShard-no_parts : (part : PartValue) (view : View) (f : ℕ) → AreOfShard part (no_parts view f).noted
unfolding no_parts
AreOfShard-no_parts part view f = tt

pub AreOfShard-note_part : (part : PartValue) (tally : ViewTallyValue) (replica : ReplicaId) (other : PartValue)
    → AreOfShard part tally.noted → OfOneShard part other → AreOfShard part (note_part tally replica other).noted
unfolding note_part
AreOfShard-note_part part tally replica other all one = each-with_part (λ replica noted. OfOneShard part noted) tally.noted replica other all one

pub AreOfShard-noted : (part : PartValue) (tally new : ViewTallyValue) (replica : ReplicaId) (other : PartValue) → new ≡ note_part tally replica other
    → AreOfShard part tally.noted → OfOneShard part other → AreOfShard part new.noted
AreOfShard-noted part tally new replica other is all one =
    subst (λ (made : ViewTallyValue). AreOfShard part made.noted) (sym is) (AreOfShard-note_part part tally replica other all one)

-- a ready tally has, with the own one, at least f+1 different replicas
pub ready_has_quorum : (tally : ViewTallyValue) (own : ReplicaId) → is_ready tally own ≡ true → tally.f < different_replicas (own ∷ replicas_of tally.noted)
unfolding is_ready
ready_has_quorum tally own ready = ltb-true _ _ ready

-- ---- the tally of acknowledgements
below-with_ack : (low : ℕ) (acks : List Ack) (replica : ReplicaId) (len : ℕ) → IsBelow low acks → nat_cmp low replica.0 ≡ Less → IsBelow low (with_ack acks replica len)
unfolding with_ack
below-with_ack low [] replica len below less = (less, tt)
below-with_ack low (ack ∷ acks) replica len below less =
    by_tests (nat_lt replica.0 ack.0.0) (same_replica replica ack.0) (below-with_ack low acks replica len below.1 less)
  where
    by_tests : (t s : Bool) → IsBelow low (with_ack acks replica len)
        → IsBelow low (cond t ((replica, len) ∷ ack ∷ acks) (cond s ((replica, max ack.1 len) ∷ acks) (ack ∷ with_ack acks replica len)))
    by_tests true s more = (less, below)
    by_tests false true more = (less, below.1)
    by_tests false false more = (below.0, more)

-- what holds of each acknowledged length and of one more holds after it is noted
pub each-with_ack : (Said : ReplicaId → ℕ → Type 0) (acks : List Ack) (replica : ReplicaId) (len : ℕ)
    → Each (λ ack. Said ack.0 ack.1) acks → Said replica len → Each (λ ack. Said ack.0 ack.1) (with_ack acks replica len)
unfolding with_ack
each-with_ack Said [] replica len all one = (one, tt)
each-with_ack Said (ack ∷ acks) replica len all one =
    by_tests (nat_lt replica.0 ack.0.0) (same_replica replica ack.0) refl (each-with_ack Said acks replica len all.1 one)
  where
    greater : (t : Bool) → nat_le ack.1 len ≡ t → Said replica ack.1 → Said replica (max ack.1 len)
    greater true le said = let low = leb-true ack.1 len le in let e : max ack.1 len ≡ len = omega arith in rw e one
    greater false gt said = let high = not_le_from ack.1 len gt in let e : max ack.1 len ≡ ack.1 = omega arith in rw e said

    by_tests : (t s : Bool) → same_replica replica ack.0 ≡ s → Each (λ ack. Said ack.0 ack.1) (with_ack acks replica len)
        → Each (λ ack. Said ack.0 ack.1) (cond t ((replica, len) ∷ ack ∷ acks) (cond s ((replica, max ack.1 len) ∷ acks) (ack ∷ with_ack acks replica len)))
    by_tests true s same more = (one, all)
    by_tests false true same more =
        let e : ack.0 ≡ replica = ap (λ (n : ℕ). record { 0 = n }) (sym (eqb-true replica.0 ack.0.0 same)) in
        (greater (nat_le ack.1 len) refl (subst (λ (r : ReplicaId). Said r ack.1) e all.0), all.1)
    by_tests false false same more = (all.0, more)

pub acks_ascend-with_ack : (acks : List Ack) (replica : ReplicaId) (len : ℕ) → acks_ascend acks ≡ true → acks_ascend (with_ack acks replica len) ≡ true
unfolding with_ack
acks_ascend-with_ack [] replica len h = refl
acks_ascend-with_ack (ack ∷ acks) replica len h =
    by_tests (nat_lt replica.0 ack.0.0) refl (same_replica replica ack.0) refl (acks_ascend-with_ack acks replica len (ascends_tail number_of nat_cmp_total ack acks h))
  where
    below : IsBelow ack.0.0 acks
    below = below_from number_of nat_cmp_total ack.0.0 acks h

    by_tests : (t : Bool) → nat_lt replica.0 ack.0.0 ≡ t → (s : Bool) → same_replica replica ack.0 ≡ s → acks_ascend (with_ack acks replica len) ≡ true
        → acks_ascend (cond t ((replica, len) ∷ ack ∷ acks) (cond s ((replica, max ack.1 len) ∷ acks) (ack ∷ with_ack acks replica len))) ≡ true
    by_tests true lt s same more =
        let less = less_when replica.0 ack.0.0 lt in
        ascends_after number_of nat_cmp_total replica.0 (ack ∷ acks) (less, below_lower number_of nat_cmp_total replica.0 ack.0.0 acks less below) h
    by_tests false lt true same more =
        let e : replica.0 ≡ ack.0.0 = eqb-true replica.0 ack.0.0 same in
        subst (λ (n : ℕ). ascends_from number_of nat_cmp (Some n) acks ≡ true) (sym e) h
    by_tests false lt false same more =
        ascends_after number_of nat_cmp_total ack.0.0 (with_ack acks replica len) (below-with_ack ack.0.0 acks replica len below (less_else ack.0.0 replica.0 lt same)) more

-- a settled number that isn't 0 is at most the own length and the lengths of others, with whom the own replica,
-- where it isn't among those that acknowledged, makes f+1 different ones
pub settled_is_shared_by_quorum : (tally : AckTallyValue) (own : ReplicaId) (own_length : ℕ) → acks_ascend tally.acks ≡ true
    → list_any (λ ack. same_replica own ack.0) tally.acks ≡ false → 0 < settled tally own_length → IsSharedByQuorum tally own own_length (settled tally own_length)
unfolding quorum_has how_many_have holders
settled_is_shared_by_quorum tally own own_length h absent some = elim (IsSettled-settled tally own_length).shared as (λ _. IsSharedByQuorum tally own own_length number) [
  | inl none ↦ absurd (omega arith)
  | inr has ↦ shared has
]
  where
    number : ℕ
    number = settled tally own_length

    have : List Ack
    have = filter (λ ack. nat_le number ack.1) tally.acks

    shared : quorum_has tally own_length number ≡ true → IsSharedByQuorum tally own own_length number
    shared has =
        let parts = and_parts _ _ has in
        let enough = leb-true tally.f _ parts.1 in
        let many = length-filter (λ (ack : Ack). nat_le number ack.1) tally.acks in
        let different = different-new have own (in_order-filter _ tally.acks h) (absent-filter _ own tally.acks absent) in
        record { own_has = leb-true number own_length parts.0; quorum = lt-ltb _ _ (omega arith) }

-- each of these others has a length of at least the number that it acknowledged, with all that holds of what
-- was acknowledged
pub each_holder_has : (Said : ReplicaId → ℕ → Type 0) (acks : List Ack) (number : ℕ) → Each (λ ack. Said ack.0 ack.1) acks
    → Each (λ replica. (len : ℕ) × ((number ≤ len) × Said replica len)) (holders acks number)
unfolding holders
each_holder_has Said [] number all = tt
each_holder_has Said (ack ∷ acks) number all = by_test (nat_le number ack.1) refl (each_holder_has Said acks number all.1)
  where
    by_test : (t : Bool) → nat_le number ack.1 ≡ t → Each (λ replica. (len : ℕ) × ((number ≤ len) × Said replica len)) (holders acks number)
        → Each (λ replica. (len : ℕ) × ((number ≤ len) × Said replica len)) (map (λ ack. ack.0) (cond t (ack ∷ filter (λ ack. nat_le number ack.1) acks) (filter (λ ack. nat_le number ack.1) acks)))
    by_test true has more = ((ack.1, (leb-true number ack.1 has, all.0)), more)
    by_test false has more = more
