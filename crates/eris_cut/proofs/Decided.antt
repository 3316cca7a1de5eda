-- Whether a cut is closed can be told: it speaks of finitely many packets and places.
use Rattle.std.proofs.Common.{◌≡◌, ◌≤◌, ◌<◌, ◌⊎◌, inl, inr, ℕ, zero, suc, Bool, true, false, not, List, [], ◌∷◌, length, take, get_or, refl, sym, subst, arith}
use Rattle.std.proofs.lemmas.Bool.{both_ways, cases_Bool, cases_lt, or_cases, or_left, or_right}
use Rattle.std.proofs.lemmas.List.{get_or_past}
use Rattle.std.specs.List.{list_any}
use Rattle.eris_base.specs.declared.ids.ShardId.{ShardId}
use Rattle.eris_base.specs.declared.ids.TxnId.{TxnId}
use Rattle.eris_base.specs.Each.{Each}
use Rattle.eris_base.specs.TxnIds.{same_id}
use Rattle.eris_base.proofs.TxnIdLaws.{same_id-true, same_id-from}
use Rattle.eris_txn.specs.declared.packet.Packet.{Packet}
use Rattle.eris_locks.specs.Shards.{names_shard}
use Rattle.eris_locks.specs.States.{is_conclusory, is_prelim}
use Rattle.eris_epoch.specs.SamePackets.{is_listed, same_packet}
use Rattle.eris_epoch.proofs.SameLaws.{same_packet-refl, same_packet-true}
use Rattle.eris_cut.specs.Cuts.{IsClosed, IsConcluded, length_of, log_of, prefix_of}
use Rattle.eris_cut.proofs.Stamps.{any_named, named_any}

-- it holds, or it doesn't
abbrev pub OrNot : Type 0 → Type 0
OrNot P = P ⊎ (P → ⊥)

both_told : (P Q : Type 0) → OrNot P → OrNot Q → OrNot (P × Q)
both_told P Q (inl p) (inl q) = inl (p, q)
both_told P Q (inl p) (inr n) = inr (λ h. n h.1)
both_told P Q (inr n) other = inr (λ h. n h.0)

each_told : {X : Type 0} (P : X → Type 0) → ((x : X) → OrNot (P x)) → (xs : List X) → OrNot (Each P xs)
each_told P tells [] = inl tt
each_told P tells (x ∷ xs) = both_told (P x) (Each P xs) (tells x) (each_told P tells xs)

-- of every number below one
abbrev Below : (ℕ → Type 0) → ℕ → Type 0
Below P n = (k : ℕ) → k < n → P k

below_told : (P : ℕ → Type 0) → ((k : ℕ) → OrNot (P k)) → (n : ℕ) → OrNot (Below P n)
below_told P tells zero = inl (λ k low. absurd (omega (arith, low)))
below_told P tells (suc n) = by_last (tells n) (below_told P tells n)
  where
    at_last : P n → Below P n → (k : ℕ) → k < suc n → (k < n) ⊎ (n ≤ k) → P k
    at_last last rest k low (inl less) = rest k less
    at_last last rest k low (inr least) = let is : n ≡ k = omega (arith, low, least) in subst P is last

    by_last : OrNot (P n) → OrNot (Below P n) → OrNot (Below P (suc n))
    by_last (inl last) (inl rest) = inl (λ k low. at_last last rest k low (cases_lt k n))
    by_last (inl last) (inr n_rest) = inr (λ all. n_rest (λ k low. all k (omega (arith, low))))
    by_last (inr n_last) other = inr (λ all. n_last (all n (omega arith)))

-- of some number below one
abbrev SomeBelow : (ℕ → Type 0) → ℕ → Type 0
SomeBelow P n = (k : ℕ) × (k < n) × P k

some_told : (P : ℕ → Type 0) → ((k : ℕ) → OrNot (P k)) → (n : ℕ) → OrNot (SomeBelow P n)
some_told P tells zero = inr (λ some. omega (arith, some.1))
some_told P tells (suc n) = by_last (tells n) (some_told P tells n)
  where
    not_there : (P n → ⊥) → (SomeBelow P n → ⊥) → (k : ℕ) → k < suc n → P k → (k < n) ⊎ (n ≤ k) → ⊥
    not_there n_last n_rest k low p (inl less) = n_rest (k, less, p)
    not_there n_last n_rest k low p (inr least) = let is : k ≡ n = omega (arith, low, least) in n_last (subst P is p)

    by_last : OrNot (P n) → OrNot (SomeBelow P n) → OrNot (SomeBelow P (suc n))
    by_last (inl last) other = inl (n, omega arith, last)
    by_last (inr n_last) (inl some) = inl (some.0, (let low = some.1 in omega (arith, low)), some.2)
    by_last (inr n_last) (inr n_rest) = inr (λ some. not_there n_last n_rest some.0 some.1 some.2 (cases_lt some.0 n))

test_told : (b : Bool) → OrNot (b ≡ true)
test_told true = inl refl
test_told false = inr (λ h. both_ways _ refl h)

-- ---- what is listed
pub each_listed : (P : Packet → Type 0) (packets : List Packet) (packet : Packet) → Each P packets → is_listed packets packet ≡ true → P packet
unfolding is_listed
each_listed P [] packet each there = absurd (both_ways _ refl there)
each_listed P (other ∷ packets) packet each there = by_place (or_cases _ _ there) (each_listed P packets packet each.1)
  where
    by_place : ((same_packet packet other ≡ true) ⊎ (list_any (λ one. same_packet packet one) packets ≡ true))
        → (list_any (λ one. same_packet packet one) packets ≡ true → P packet) → P packet
    by_place (inl here) rest = subst P (sym (same_packet-true packet other here)) each.0
    by_place (inr later) rest = rest later

pub each_from_listed : (P : Packet → Type 0) (packets : List Packet) → ((packet : Packet) → is_listed packets packet ≡ true → P packet) → Each P packets
unfolding is_listed
each_from_listed P [] holds = tt
each_from_listed P (packet ∷ packets) holds = (holds packet (or_left _ _ (same_packet-refl packet)), each_from_listed P packets (λ other there. holds other (or_right _ _ there)))

abbrev SomeOf : (Packet → Type 0) → List Packet → Type 0
SomeOf P packets = (packet : Packet) × (list_any (λ other. same_packet packet other) packets ≡ true) × P packet

listed_some : (P : Packet → Type 0) → ((packet : Packet) → OrNot (P packet)) → (packets : List Packet)
    → OrNot ((packet : Packet) × (is_listed packets packet ≡ true) × P packet)
unfolding is_listed
listed_some P tells [] = inr (λ some. both_ways _ refl some.1)
listed_some P tells (packet ∷ packets) = by_first (tells packet) (listed_some P tells packets)
  where
    not_there : (P packet → ⊥) → (SomeOf P packets → ⊥) → (one : Packet) → P one → ((same_packet one packet ≡ true) ⊎ (list_any (λ other. same_packet one other) packets ≡ true)) → ⊥
    not_there n_first n_rest one p (inl here) = n_first (subst P (same_packet-true one packet here) p)
    not_there n_first n_rest one p (inr later) = n_rest (one, later, p)

    by_first : OrNot (P packet) → OrNot (SomeOf P packets) → OrNot (SomeOf P (packet ∷ packets))
    by_first (inl first) other = inl (packet, or_left _ _ (same_packet-refl packet), first)
    by_first (inr n_first) (inl some) = inl (some.0, or_right _ _ some.1, some.2)
    by_first (inr n_first) (inr n_rest) = inr (λ some. not_there n_first n_rest some.0 some.2 (or_cases _ _ some.1))

module _ (logs : List (List Packet)) (lengths : List ℕ) where
  abbrev prefix : ℕ → List Packet
  prefix k = prefix_of logs lengths (record { 0 = k })

  -- a shard without a list has nothing
  has_list : (shard : ShardId) (packet : Packet) → is_listed (prefix_of logs lengths shard) packet ≡ true → shard.0 < length logs
  unfolding is_listed
  has_list shard packet there = by_size (cases_lt shard.0 (length logs))
    where
      nothing : (n : ℕ) → list_any (λ other. same_packet packet other) (take n []) ≡ true → ⊥
      nothing zero h = both_ways _ refl h
      nothing (suc n) h = both_ways _ refl h

      by_size : (shard.0 < length logs) ⊎ (length logs ≤ shard.0) → shard.0 < length logs
      by_size (inl low) = low
      by_size (inr past) =
          absurd (nothing (length_of lengths shard)
          (subst (λ (log : List Packet). list_any (λ other. same_packet packet other) (take (length_of lengths shard) log) ≡ true) (get_or_past logs shard.0 [] past) there))

  -- ---- a preliminary is concluded, or not
  abbrev Concludes : TxnId → Packet → Type 0
  Concludes id packet = (same_id packet.id id ≡ true) × (is_conclusory packet.body ≡ true)

  abbrev SomeConcludes : TxnId → Type 0
  SomeConcludes id = SomeBelow (λ k. (packet : Packet) × (is_listed (prefix k) packet ≡ true) × Concludes id packet) (length logs)

  concluded_told : (id : TxnId) → OrNot (IsConcluded logs lengths id)
  concluded_told id =
      turned (some_told (λ k. (packet : Packet) × (is_listed (prefix k) packet ≡ true) × Concludes id packet)
      (λ k. listed_some (Concludes id) (λ packet. both_told _ _ (test_told (same_id packet.id id)) (test_told (is_conclusory packet.body))) (prefix k)) (length logs))
    where
      turned : OrNot (SomeConcludes id) → OrNot (IsConcluded logs lengths id)
      turned (inl some) = inl (record {
        shard = record { 0 = some.0 };
        conclusory = some.2.0;
        there = some.2.1;
        of_id = same_id-true some.2.0.id id some.2.2.0;
        concludes = some.2.2.1;
      })
      turned (inr n_some) =
          inr (λ is. n_some (is.shard.0, has_list is.shard is.conclusory is.there, (is.conclusory, is.there, (same_id-from is.conclusory.id id is.of_id, is.concludes))))

  -- ---- what a closed cut owes of a packet that it has
  record IsFine (packet : Packet) : Type 0 where
    whole : (other : ShardId) → names_shard other packet ≡ true → is_listed (prefix_of logs lengths other) packet ≡ true
    concluded : is_prelim packet.body ≡ true → IsConcluded logs lengths packet.id

  abbrev HasAll : Packet → Type 0
  HasAll packet = (other : ShardId) → names_shard other packet ≡ true → is_listed (prefix_of logs lengths other) packet ≡ true

  whole_told : (packet : Packet) → OrNot (HasAll packet)
  whole_told packet =
      by_any (cases_Bool (list_any (λ place. is_missing place.0) packet.stamp.places))
    where
      is_missing : ShardId → Bool
      is_missing shard = not (is_listed (prefix_of logs lengths shard) packet)

      there : (b : Bool) → ((not b) ≡ false) → b ≡ true
      there true h = refl
      there false h = absurd (both_ways _ h refl)

      gone : (b : Bool) → ((not b) ≡ true) → b ≡ true → ⊥
      gone true h e = both_ways _ refl h
      gone false h e = both_ways _ refl e

      by_shard : list_any (λ (place : ShardId × ℕ). is_missing place.0) packet.stamp.places ≡ false → (other : ShardId) → names_shard other packet ≡ true
          → ((is_missing other ≡ true) ⊎ (is_missing other ≡ false)) → is_listed (prefix_of logs lengths other) packet ≡ true
      by_shard none other named (inl missing) = absurd (both_ways _ none (any_named is_missing other packet.stamp.places named missing))
      by_shard none other named (inr h) = there _ h

      by_any : ((list_any (λ (place : ShardId × ℕ). is_missing place.0) packet.stamp.places ≡ true) ⊎ (list_any (λ (place : ShardId × ℕ). is_missing place.0) packet.stamp.places ≡ false))
          → OrNot (HasAll packet)
      by_any (inl some) = let one = named_any is_missing packet.stamp.places some in inr (λ all. gone _ one.passes (all one.shard one.named))
      by_any (inr none) = inl (λ other named. by_shard none other named (cases_Bool (is_missing other)))

  prelim_told : (packet : Packet) (b : Bool) → is_prelim packet.body ≡ b → OrNot (IsConcluded logs lengths packet.id)
      → OrNot (is_prelim packet.body ≡ true → IsConcluded logs lengths packet.id)
  prelim_told packet true e (inl is) = inl (λ h. is)
  prelim_told packet true e (inr n) = inr (λ f. n (f e))
  prelim_told packet false e other = inl (λ h. absurd (both_ways _ e h))

  fine_told : (packet : Packet) → OrNot (IsFine packet)
  fine_told packet = turned (whole_told packet) (prelim_told packet (is_prelim packet.body) refl (concluded_told packet.id))
    where
      turned : OrNot (HasAll packet) → OrNot (is_prelim packet.body ≡ true → IsConcluded logs lengths packet.id) → OrNot (IsFine packet)
      turned (inl w) (inl c) = inl (record { whole = w; concluded = c })
      turned (inl w) (inr n) = inr (λ fine. n fine.concluded)
      turned (inr n) other = inr (λ fine. n fine.whole)

  -- A CUT IS CLOSED, OR NOT
  abbrev IsInside : ℕ → Type 0
  IsInside k = get_or lengths k 0 ≤ length (get_or logs k [])

  pub closed_told : OrNot (IsClosed logs lengths)
  closed_told = turned (number_told (length lengths) (length logs)) (below_told IsInside (λ k. least_told _ _) (length logs)) (below_told (λ k. Each IsFine (prefix k)) (λ k. each_told IsFine fine_told (prefix k)) (length logs))
    where
      least_told : (m n : ℕ) → OrNot (m ≤ n)
      least_told m n = elim (cases_lt n m) [ inl more ↦ inr (λ h. omega (arith, more, h)) | inr less ↦ inl less ]

      number_told : (m n : ℕ) → OrNot (m ≡ n)
      number_told m n = elim (cases_lt n m) [
        | inl more ↦ inr (λ h. omega (arith, more, h))
        | inr less ↦ elim (cases_lt m n) [ inl more ↦ inr (λ h. omega (arith, more, h)) | inr least ↦ inl (omega (arith, less, least)) ]
      ]

      within_all : length lengths ≡ length logs → Below IsInside (length logs) → (shard : ShardId) → length_of lengths shard ≤ length (log_of logs shard)
      within_all same inside shard = elim (cases_lt shard.0 (length logs)) [
        | inl low ↦ inside shard.0 low
        | inr past ↦ (let none = get_or_past lengths shard.0 0 (omega (arith, same, past)) in omega (arith, none))
      ]

      turned : OrNot (length lengths ≡ length logs) → OrNot (Below IsInside (length logs)) → OrNot (Below (λ k. Each IsFine (prefix k)) (length logs)) → OrNot (IsClosed logs lengths)
      turned (inr n) inside fine = inr (λ closed. n closed.one_each)
      turned (inl same) (inr n) fine = inr (λ closed. n (λ k low. closed.within (record { 0 = k })))
      turned (inl same) (inl inside) (inr n) = inr (λ closed. n (λ k low. each_from_listed IsFine (prefix k) (λ packet there. record {
        whole = λ other named. closed.whole (record { 0 = k }) other packet there named;
        concluded = λ prelim. closed.concluded (record { 0 = k }) packet there prelim;
      })))
      turned (inl same) (inl inside) (inl fine) = inl (record {
        one_each = same;
        within = within_all same inside;
        whole = λ shard other packet there named. (each_listed IsFine (prefix shard.0) packet (fine shard.0 (has_list shard packet there)) there).whole other named;
        concluded = λ shard packet there prelim. (each_listed IsFine (prefix shard.0) packet (fine shard.0 (has_list shard packet there)) there).concluded prelim;
      })
