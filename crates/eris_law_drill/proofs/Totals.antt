-- THE TOTAL of a map is what the accounts have together, where no other key has a value.
use Rattle.std.proofs.Common.{◌≡◌, ◌<◌, ◌⊎◌, inl, inr, ◌+◌, ◌%◌, ◌^◌, ◌==◌, ℕ, zero, suc, Bool, true, false, cond, Option, Some, None, unwrap_or, List, [], ◌∷◌, map, refl, ap, sym, ◌∙◌, arith, subst}
use Rattle.std.proofs.lemmas.Bool.{cases_Bool, eq-eqb, eqb-true}
use Rattle.std.proofs.lemmas.List.Sums.{sum_by-cons}
use Rattle.std.proofs.lemmas.Map.Keys.{sorted_head, sorted_tail}
use Rattle.std.specs.List.{AllByRecursion}
use Rattle.std.specs.List.Sorted.{IsStrictlySortedBy}
use Rattle.std.specs.Ordering.{is_eq}
use Rattle.std.specs.Prelude.{sum_by}
use Rattle.std.specs.declared.cmp.Ordering.{Ordering}
use Rattle.std.specs.declared.cmp.Ordering.TheVariants.{Less}
use mathlib.Core.Path.{fun_ext}
use Rattle.eris_txn.specs.declared.key.Key.{Key}
use Rattle.eris_txn.specs.Keys.{Values, key_cmp, same_key, with_value}
use Rattle.eris_txn.specs.KeyValues.{values_of}
use Rattle.eris_txn.proofs.KeyLaws.{same_key-refl, same_key-symm, same_key-true}
use Rattle.eris_txn.proofs.ValueLaws.{with_value-other, with_value-same}
use Rattle.eris_drill.specs.DrillLines.{account}
use Rattle.eris_drill.specs.Summaries.{IsTotal}
use Rattle.eris_law_drill.specs.Banks.{OnlyAccounts, worth}
use Rattle.eris_law_drill.proofs.Worths.{worth_within}

abbrev keys_in : List (Key × ℕ) → List Key
keys_in entries = map (λ entry. entry.0) entries

-- an entry more is a value more
one_more : (key : Key) (value : ℕ) (entries : List (Key × ℕ)) → values_of ((key, value) ∷ entries) ≡ with_value key (Some value) (values_of entries)
unfolding same_key
one_more key value entries =
    fun_ext (λ other. ap (λ (test : Bool). cond test (Some value) (values_of entries other)) (same_key-symm other key))

missing : (key : Key) (entries : List (Key × ℕ)) → AllByRecursion (λ other. key_cmp key other ≡ Less) (keys_in entries) → values_of entries key ≡ None
missing key [] above = refl
missing key (entry ∷ entries) above =
    ap (λ (order : Ordering). cond (is_eq order) (Some entry.1) (values_of entries key)) above.0 ∙ missing key entries above.1

-- whether a key is an account
abbrev IsAccount : Key → ℕ → Type 0
IsAccount key n = ((number : ℕ) × (number < n) × (account number ≡ key)) ⊎ ((number : ℕ) → number < n → account number ≡ key → ⊥)

self_below : (n : ℕ) → n < suc n
self_below n = omega arith

one_below : (number n : ℕ) → number < n → number < suc n
one_below number n low = omega (arith, low)

below_last : (number n : ℕ) → number < suc n → (number ≡ n → ⊥) → number < n
below_last number n low apart = omega (arith, low, apart)

true_is_not : true ≡ false → ⊥
true_is_not h = cc

not_last : (key : Key) (n : ℕ) → same_key (account n) key ≡ false → account n ≡ key → ⊥
not_last key n apart same = true_is_not (sym (same_key-refl (account n)) ∙ ap (same_key (account n)) same ∙ apart)

none_more : (key : Key) (n : ℕ) → ((number : ℕ) → number < n → account number ≡ key → ⊥) → same_key (account n) key ≡ false →
    (number : ℕ) → number < suc n → account number ≡ key → ⊥
none_more key n none apart number low same = by_place (cases_Bool (number == n))
  where
    by_place : ((number == n) ≡ true) ⊎ ((number == n) ≡ false) → ⊥
    by_place (inl last) = not_last key n apart (subst (λ (place : ℕ). account place ≡ key) (eqb-true number n last) same)
    by_place (inr before) = none number (below_last number n low (λ is. true_is_not (sym (eq-eqb number n is) ∙ before))) same

by_last : (key : Key) (n : ℕ) → IsAccount key n → ((same_key (account n) key ≡ true) ⊎ (same_key (account n) key ≡ false)) → IsAccount key (suc n)
by_last key n earlier (inl same) = inl (n, self_below n, same_key-true (account n) key same)
by_last key n (inl found) (inr apart) = inl (found.0, one_below found.0 n found.1, found.2)
by_last key n (inr none) (inr apart) = inr (none_more key n none apart)

is_account : (key : Key) (n : ℕ) → IsAccount key n
is_account key zero = inr (λ number low same. absurd (omega (arith, low)))
is_account key (suc n) = by_last key n (is_account key n) (cases_Bool (same_key (account n) key))

some_is_none : (value : ℕ) → Some value ≡ None → ⊥
some_is_none value h = cc

-- the worth of one entry more, and the keys of the others
more_worth : (key : Key) (value : ℕ) (entries : List (Key × ℕ)) → OnlyAccounts (values_of ((key, value) ∷ entries)) → values_of entries key ≡ None →
    worth (values_of ((key, value) ∷ entries)) 16 ≡ value + worth (values_of entries) 16
more_worth key value entries only alone = by_account (is_account key 16)
  where
    by_account : IsAccount key 16 → worth (values_of ((key, value) ∷ entries)) 16 ≡ value + worth (values_of entries) 16
    by_account (inl found) =
        let set = worth_within (values_of entries) found.0 value 16 found.1 in
        let nothing : unwrap_or (values_of entries (account found.0)) 0 ≡ 0 =
        ap (λ (one : Key). unwrap_or (values_of entries one) 0) found.2 ∙ ap (λ (had : Option ℕ). unwrap_or had 0) alone in
        let same : worth (values_of ((key, value) ∷ entries)) 16 ≡ worth (with_value (account found.0) (Some value) (values_of entries)) 16 =
        ap (λ (all : Values). worth all 16) (one_more key value entries ∙ ap (λ (one : Key). with_value one (Some value) (values_of entries)) (sym found.2)) in
        omega (arith, set, nothing, same)
    by_account (inr none) =
        absurd (some_is_none value (sym (ap (λ (all : Values). all key) (one_more key value entries) ∙ with_value-same key (Some value) (values_of entries)) ∙ only key none))

fewer_only : (key : Key) (value : ℕ) (entries : List (Key × ℕ)) → OnlyAccounts (values_of ((key, value) ∷ entries)) → values_of entries key ≡ None → OnlyAccounts (values_of entries)
fewer_only key value entries only alone other none = by_test (cases_Bool (same_key key other))
  where
    by_test : ((same_key key other ≡ true) ⊎ (same_key key other ≡ false)) → values_of entries other ≡ None
    by_test (inl same) = ap (values_of entries) (sym (same_key-true key other same)) ∙ alone
    by_test (inr apart) =
        sym (ap (λ (all : Values). all other) (one_more key value entries) ∙ with_value-other key (Some value) (values_of entries) other apart) ∙ only other none

nobody : (n : ℕ) → worth (λ key. None) n ≡ 0
unfolding worth
nobody zero = refl
nobody (suc n) = let before = nobody n in omega (arith, before)

entries_worth : (entries : List (Key × ℕ)) → IsStrictlySortedBy key_cmp (keys_in entries) → OnlyAccounts (values_of entries) →
    sum_by (λ entry. entry.1) entries ≡ worth (values_of entries) 16
entries_worth [] sorted only = sym (nobody 16)
entries_worth ((key, value) ∷ entries) sorted only =
    let alone = missing key entries (sorted_head key_cmp key (keys_in entries) sorted) in
    sum_by-cons (λ (entry : Key × ℕ). entry.1) (key, value) entries
    ∙ ap (λ (sum : ℕ). value + sum) (entries_worth entries (sorted_tail key_cmp key (keys_in entries) sorted) (fewer_only key value entries only alone))
    ∙ sym (more_worth key value entries only alone)

-- THE TOTAL
pub total_is_worth : (values : Values) (total : ℕ) → OnlyAccounts values → IsTotal values total → total ≡ worth values 16 % 2 ^ 64
total_is_worth values total only whole =
    whole.sum
    ∙ ap (λ (sum : ℕ). sum % 2 ^ 64) (entries_worth whole.entries whole.ordered (subst OnlyAccounts (sym whole.are) only))
    ∙ ap (λ (all : Values). worth all 16 % 2 ^ 64) whole.are
