-- How the waiting numbers change where one is added or taken, and which is the lowest. Used by each call on them.
use Rattle.std.proofs.Common.{◌≡◌, ◌<◌, ◌≤◌, ℕ, zero, suc, ◌+◌, ◌==◌, not, Bool, true, false, List, [], ◌∷◌, ◌++◌, length, Some, None, refl, ap, sym, ◌∙◌, arith, inl, inr, add-one}
use Rattle.std.specs.Prelude.{slice_get, slice_set}
use Rattle.std.specs.List.{filter, range_with_len}
use Rattle.std.proofs.lemmas.Bool.{eq-eqb, ne_eqb, cases_lt}
use Rattle.std.proofs.lemmas.List.{length-append, length-set, append_assoc, append-nil}
use Rattle.eris_network.specs.WaitingNumbers.{WaitingValue, waiting_from, value_of, with_more, without, IsLow}

pub waiting_from-push : (n : ℕ) (waits : List Bool) → waiting_from n (waits ++ true ∷ []) ≡ waiting_from n waits ++ (n + length waits) ∷ []
waiting_from-push n [] = ap (λ m. m ∷ []) (omega arith)
waiting_from-push n (true ∷ waits) =
    ap (λ ms. n ∷ ms) (waiting_from-push (n + 1) waits ∙ ap (λ m. waiting_from (n + 1) waits ++ m ∷ []) (omega arith))
waiting_from-push n (false ∷ waits) = waiting_from-push (n + 1) waits ∙ ap (λ m. waiting_from (n + 1) waits ++ m ∷ []) (omega arith)

-- a number below all of them isn't among them
none_below : (n k : ℕ) (waits : List Bool) → k < n → filter (λ other. not (other == k)) (waiting_from n waits) ≡ waiting_from n waits
none_below n k [] lt = refl
none_below n k (true ∷ waits) lt =
    let apart : (n == k) ≡ false = ne_eqb n k (λ e. absurd (omega (arith, e))) in
    rw apart (ap (λ ms. n ∷ ms) (none_below (n + 1) k waits (omega arith)))
none_below n k (false ∷ waits) lt = none_below (n + 1) k waits (omega arith)

pub waiting_from-take : (n k j : ℕ) (waits : List Bool) → j ≡ n + k → k < length waits
    → waiting_from n (slice_set waits k false) ≡ filter (λ other. not (other == j)) (waiting_from n waits)
waiting_from-take n k j [] e lt = absurd (omega (arith, lt))
waiting_from-take n zero j (true ∷ waits) e lt =
    let same : (n == j) ≡ true = eq-eqb n j (omega (arith, e)) in
    rw same (sym (none_below (n + 1) j waits (omega (arith, e))))
waiting_from-take n zero j (false ∷ waits) e lt = sym (none_below (n + 1) j waits (omega (arith, e)))
waiting_from-take n (suc k) j (true ∷ waits) e lt =
    let apart : (n == j) ≡ false = ne_eqb n j (λ h. absurd (omega (arith, e, h))) in
    rw apart (ap (λ ms. n ∷ ms) (waiting_from-take (n + 1) k j waits (omega (arith, e)) (omega (arith, lt))))
waiting_from-take n (suc k) j (false ∷ waits) e lt = waiting_from-take (n + 1) k j waits (omega (arith, e)) (omega (arith, lt))

first_from : (n low : ℕ) (waits : List Bool) → ((k : ℕ) → k < low → slice_get waits k ≡ Some false) → slice_get waits low ≡ Some true
    → slice_get (waiting_from n waits) 0 ≡ Some (n + low)
first_from n low [] below at = absurd cc
first_from n zero (true ∷ waits) below at = ap Some (omega arith)
first_from n zero (false ∷ waits) below at = absurd cc
first_from n (suc low) (true ∷ waits) below at = absurd (let first = below 0 (omega arith) in cc)
first_from n (suc low) (false ∷ waits) below at =
    first_from (n + 1) low waits (λ k lt. below (suc k) (omega (arith, lt))) at ∙ ap Some (omega arith)

-- the lowest that waits
pub first_waiting : (low : ℕ) (waits : List Bool) → ((k : ℕ) → k < low → slice_get waits k ≡ Some false) → slice_get waits low ≡ Some true
    → slice_get (waiting_from 0 waits) 0 ≡ Some low
first_waiting low waits below at = first_from 0 low waits below at ∙ ap Some (omega arith)

none_from : (n : ℕ) (waits : List Bool) → ((k : ℕ) → k < length waits → slice_get waits k ≡ Some false) → waiting_from n waits ≡ []
none_from n [] below = refl
none_from n (true ∷ waits) below = absurd (let first = below 0 (omega arith) in cc)
none_from n (false ∷ waits) below = none_from (n + 1) waits (λ k lt. below (suc k) (omega (arith, lt)))

pub none_waiting : (waits : List Bool) (low : ℕ) → length waits ≤ low → ((k : ℕ) → k < low → slice_get waits k ≡ Some false)
    → slice_get (waiting_from 0 waits) 0 ≡ None
none_waiting waits low le below = ap (λ ms. slice_get ms 0) (none_from 0 waits (λ k lt. below k (omega (arith, lt, le))))

-- ---- the flags below the lowest
slice_get-push : (waits : List Bool) (last : Bool) (k : ℕ) → k < length waits → slice_get (waits ++ last ∷ []) k ≡ slice_get waits k
slice_get-push [] last k lt = absurd (omega (arith, lt))
slice_get-push (first ∷ waits) last zero lt = refl
slice_get-push (first ∷ waits) last (suc k) lt = slice_get-push waits last k (omega (arith, lt))

slice_get-end : (waits : List Bool) (last : Bool) → slice_get (waits ++ last ∷ []) (length waits) ≡ Some last
slice_get-end [] last = refl
slice_get-end (first ∷ waits) last = slice_get-end waits last

-- ---- where one flag is cleared, a clear one stays clear
still_clear : (waits : List Bool) (j k : ℕ) → slice_get waits k ≡ Some false → slice_get (slice_set waits j false) k ≡ Some false
still_clear [] j k h = h
still_clear (first ∷ waits) zero zero h = refl
still_clear (first ∷ waits) zero (suc k) h = h
still_clear (first ∷ waits) (suc j) zero h = h
still_clear (first ∷ waits) (suc j) (suc k) h = still_clear waits j k h

pub low_pushed : (waits : List Bool) (low : ℕ) → IsLow waits low → IsLow (waits ++ true ∷ []) low
low_pushed waits low h =
    record {
      within = omega (arith, h.within, length-append waits (true ∷ []));
      below = λ k lt. slice_get-push waits true k (omega (arith, lt, h.within)) ∙ h.below k lt;
      at = λ lt. elim (cases_lt low (length waits)) [
        | inl more ↦ slice_get-push waits true low more ∙ h.at more
        | inr le ↦
            let end : low ≡ length waits = omega (arith, h.within, le) in
            ap (slice_get (waits ++ true ∷ [])) end ∙ slice_get-end waits true
      ];
    }

-- ---- the value
pub value-more : (waits : List Bool) → value_of (waits ++ true ∷ []) ≡ with_more (value_of waits) 1
value-more waits =
    let count : length (waits ++ true ∷ []) ≡ length waits + 1 = length-append waits (true ∷ []) in
    let numbers : waiting_from 0 (waits ++ true ∷ []) ≡ waiting_from 0 waits ++ length waits ∷ [] =
    waiting_from-push 0 waits ∙ ap (λ n. waiting_from 0 waits ++ n ∷ []) (omega arith) in
    λ i. record { count = count i; numbers = numbers i }

pub value-taken : (waits : List Bool) (number : ℕ) → number < length waits → value_of (slice_set waits number false) ≡ without (value_of waits) number
value-taken waits number lt =
    let count : length (slice_set waits number false) ≡ length waits = length-set waits number false in
    let numbers = waiting_from-take 0 number number waits (omega arith) lt in
    λ i. record { count = count i; numbers = numbers i }

pub low_taken : (waits : List Bool) (low number next : ℕ) → IsLow waits low → next ≤ length (slice_set waits number false)
    → ((k : ℕ) → low ≤ k → k < next → slice_get (slice_set waits number false) k ≡ Some false)
    → (next < length (slice_set waits number false) → slice_get (slice_set waits number false) next ≡ Some true)
    → IsLow (slice_set waits number false) next
low_taken waits low number next h within between at =
    record {
      within = within;
      below = λ k lt. elim (cases_lt k low) [
        | inl less ↦ still_clear waits number k (h.below k less)
        | inr le ↦ between k le lt
      ];
      at = at;
    }

range-last : (a n : ℕ) → range_with_len a (suc n) ≡ range_with_len a n ++ (a + n) ∷ []
range-last a zero = ap (λ m. m ∷ []) (omega arith)
range-last a (suc n) = ap (λ ms. a ∷ ms) (range-last (a + 1) n ∙ ap (λ m. range_with_len (a + 1) n ++ m ∷ []) (omega arith))

range-add : (a n : ℕ) → range_with_len a (n + 1) ≡ range_with_len a n ++ range_with_len (a + n) 1
range-add a n = rw add-one (range-last a n)

-- so many more, and one more
pub more_again : (value : WaitingValue) (count : ℕ) → with_more (with_more value count) 1 ≡ with_more value (count + 1)
more_again value count =
    let number : value.count + count + 1 ≡ value.count + (count + 1) = omega arith in
    let numbers : (value.numbers ++ range_with_len value.count count) ++ range_with_len (value.count + count) 1 ≡ value.numbers ++ range_with_len value.count (count + 1) =
    append_assoc value.numbers _ _ ∙ ap (λ ns. value.numbers ++ ns) (sym (range-add value.count count)) in
    λ i. record { count = number i; numbers = numbers i }

pub none_more : (value : WaitingValue) → value ≡ with_more value 0
none_more value =
    let number : value.count ≡ value.count + 0 = omega arith in
    let numbers : value.numbers ≡ value.numbers ++ [] = sym (append-nil value.numbers) in
    λ i. record { count = number i; numbers = numbers i }
