use Rattle.std.proofs.Common.{◌+◌, ◌≡◌, ℕ, suc, Bool, true, false, cond, nat_lt, Option, Some, None, List, [], ◌∷◌, ◌++◌, position, is_some, not, length, ◌||◌, arith, refl, ap, ◌∙◌}
use Rattle.std.proofs.lemmas.Bool.Decides.{nat_tests}
use Rattle.std.specs.List.{position_or_len}
use Rattle.std.specs.Map.{keys_of, lookup}
use Rattle.std.specs.Option.{option_map}
use Rattle.eris_base.specs.contracts.ids.TxnIdPartialEq.TheImpl as derived
use Rattle.eris_base.specs.declared.ids.TxnId.{TxnId}
use Rattle.eris_audit.specs.declared.outcome.Outcome.{Outcome}
use Rattle.eris_audit.specs.Lines.{Line, has_line, outcome_in}
use Rattle.eris_audit.specs.Tables.{lines_from, place_in}
use Rattle.eris_base.specs.TxnIds.{same_id}
use Rattle.eris_base.proofs.TxnIdLaws.{same_id-turned, same_id-derived}

-- What the tables of ids hold, in the words of the order and of the history.

-- the comparison that ids derive is the test of a line's id
pub derived-line : (id other : TxnId) → derived.eq-value.it id other ≡ same_id other id
derived-line id other = same_id-derived id other ∙ same_id-turned id other

place-test : (first : Bool) (n len : ℕ)
    → cond (nat_lt (cond (not first) (1 + n) 0) (suc len)) (Some (cond (not first) (1 + n) 0)) None
    ≡ cond first (Some 0) (option_map (λ place. suc place) (cond (nat_lt n len) (Some n) None))
place-test true n len = grind (arith, nat_tests)
place-test false n len = (λ i. cond (shifted i) (Some (more i)) None) ∙ by_test (nat_lt n len)
  where
    more : 1 + n ≡ suc n
    more = omega arith

    shifted : nat_lt (1 + n) (suc len) ≡ nat_lt n len
    shifted = grind (arith, nat_tests)

    by_test : (test : Bool) → cond test (Some (suc n)) None ≡ option_map (λ place. suc place) (cond test (Some n) None)
    by_test true = refl
    by_test false = refl

position-next : {X : Type 0} (p : X → Bool) (x : X) (xs : List X) → position p (x ∷ xs) ≡ cond (p x) (Some 0) (option_map (λ n. suc n) (position p xs))
position-next p x xs = place-test (p x) (position_or_len p xs) (length xs)

pub position-place : (entries : List (TxnId × Outcome)) (id : TxnId) → position (derived.eq-value.it id) (keys_of entries) ≡ place_in (lines_from entries) id
position-place [] id = refl
position-place (entry ∷ entries) id =
    position-next (derived.eq-value.it id) entry.0 (keys_of entries)
    ∙ ap (λ test. cond test (Some 0) (option_map (λ n. suc n) (position (derived.eq-value.it id) (keys_of entries)))) (derived-line id entry.0)
    ∙ ap (λ rest. cond (same_id entry.0 id) (Some 0) (option_map (λ n. suc n) rest)) (position-place entries id)

pub lookup-outcome : (entries : List (TxnId × Outcome)) (id : TxnId) → lookup (derived.eq-value.it id) entries ≡ outcome_in (lines_from entries) id
lookup-outcome [] id = refl
lookup-outcome (entry ∷ entries) id =
    ap (λ test. cond test (Some entry.1) (lookup (derived.eq-value.it id) entries)) (derived-line id entry.0)
    ∙ ap (λ rest. cond (same_id entry.0 id) (Some entry.1) rest) (lookup-outcome entries id)

pub is_some-outcome : (lines : List Line) (id : TxnId) → is_some (outcome_in lines id) ≡ has_line lines id
is_some-outcome [] id = refl
is_some-outcome (line ∷ lines) id = by_test (same_id line.id id) (is_some-outcome lines id)
  where
    by_test : (test : Bool) → is_some (outcome_in lines id) ≡ has_line lines id → is_some (cond test (Some line.outcome) (outcome_in lines id)) ≡ (test || has_line lines id)
    by_test true rest = refl
    by_test false rest = rest

pub is_some-place : (lines : List Line) (id : TxnId) → is_some (place_in lines id) ≡ has_line lines id
is_some-place [] id = refl
is_some-place (line ∷ lines) id = by_test (same_id line.id id) (place_in lines id) (is_some-place lines id)
  where
    by_test : (test : Bool) (rest : Option ℕ) → is_some rest ≡ has_line lines id → is_some (cond test (Some 0) (option_map (λ n. suc n) rest)) ≡ (test || has_line lines id)
    by_test true rest e = refl
    by_test false None e = e
    by_test false (Some place) e = e

pub lines_from-append : (some more : List (TxnId × Outcome)) → lines_from (some ++ more) ≡ lines_from some ++ lines_from more
lines_from-append [] more = refl
lines_from-append (entry ∷ some) more = ap (λ lines. record { id = entry.0; outcome = entry.1 } ∷ lines) (lines_from-append some more)

pub length-lines_from : (entries : List (TxnId × Outcome)) → length (lines_from entries) ≡ length entries
length-lines_from [] = refl
length-lines_from (entry ∷ entries) = ap (λ n. suc n) (length-lines_from entries)
