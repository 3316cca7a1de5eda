-- The lengths of cuts: a longer prefix has the packets of a shorter one, and the greater of two cuts takes on each
-- shard what one of them takes.
use Rattle.std.proofs.Common.{◌≡◌, ◌≤◌, ◌⊎◌, inl, inr, ℕ, zero, suc, Bool, true, ◌||◌, List, [], ◌∷◌, length, max, take, get_or, refl, ap, sym, arith}
use Rattle.std.proofs.Math.Nat.{max-zero, zero-max}
use Rattle.std.proofs.lemmas.Bool.{both_ways, cases_lt, or_cases, or_left, or_right}
use Rattle.std.specs.List.{list_any}
use Rattle.eris_base.specs.declared.ids.ShardId.{ShardId}
use Rattle.eris_txn.specs.declared.packet.Packet.{Packet}
use Rattle.eris_cut.specs.Cuts.{greater, length_of, zeros}

pub taken_more : {X : Type 0} (test : X → Bool) (xs : List X) (n m : ℕ) → n ≤ m → list_any test (take n xs) ≡ true → list_any test (take m xs) ≡ true
taken_more test xs zero m le found = absurd (both_ways _ refl found)
taken_more test [] (suc n) m le found = absurd (both_ways _ refl found)
taken_more test (x ∷ xs) (suc n) zero le found = absurd (omega (arith, le))
taken_more test (x ∷ xs) (suc n) (suc m) le found =
    let less : n ≤ m = omega (arith, le) in
    by_place (or_cases (test x) (list_any test (take n xs)) found) (taken_more test xs n m less)
  where
    by_place : ((test x ≡ true) ⊎ (list_any test (take n xs) ≡ true)) → (list_any test (take n xs) ≡ true → list_any test (take m xs) ≡ true)
        → (test x || list_any test (take m xs)) ≡ true
    by_place (inl here) rest = or_left _ _ here
    by_place (inr there) rest = or_right _ _ (rest there)

-- on each shard the greater cut takes the greater length
greater-at : (some others : List ℕ) (i : ℕ) → get_or (greater some others) i 0 ≡ max (get_or some i 0) (get_or others i 0)
greater-at [] others i = sym (zero-max _)
greater-at (n ∷ some) [] i = sym (max-zero _)
greater-at (n ∷ some) (m ∷ others) zero = refl
greater-at (n ∷ some) (m ∷ others) (suc i) = greater-at some others i

-- which is that of one of the two
pub record TakesOne (taken mine yours : ℕ) : Type 0 where
  pub is : (taken ≡ mine) ⊎ (taken ≡ yours)
  pub mine_least : mine ≤ taken
  pub yours_least : yours ≤ taken

takes_one : (taken mine yours : ℕ) → taken ≡ max mine yours → TakesOne taken mine yours
takes_one taken mine yours is = record {
  is = elim (cases_lt mine yours) [ inl less ↦ inr (omega (arith, is, less)) | inr least ↦ inl (omega (arith, is, least)) ];
  mine_least = omega (arith, is);
  yours_least = omega (arith, is);
}

pub greater_takes_one : (some others : List ℕ) (shard : ShardId) → TakesOne (length_of (greater some others) shard) (length_of some shard) (length_of others shard)
greater_takes_one some others shard = takes_one _ _ _ (greater-at some others shard.0)

pub length-greater : (some others : List ℕ) (n : ℕ) → length some ≡ n → length others ≡ n → length (greater some others) ≡ n
length-greater [] others n e f = f
length-greater (k ∷ some) [] n e f = e
length-greater (k ∷ some) (m ∷ others) n e f =
    let same : length some ≡ length others = omega (arith, e, f) in
    let rest = length-greater some others (length others) same refl in
    omega (arith, rest, f)

pub zeros-at : (logs : List (List Packet)) (i : ℕ) → get_or (zeros logs) i 0 ≡ 0
zeros-at [] i = refl
zeros-at (log ∷ logs) zero = refl
zeros-at (log ∷ logs) (suc i) = zeros-at logs i

pub length-zeros : (logs : List (List Packet)) → length (zeros logs) ≡ length logs
length-zeros [] = refl
length-zeros (log ∷ logs) = ap (λ n. suc n) (length-zeros logs)
