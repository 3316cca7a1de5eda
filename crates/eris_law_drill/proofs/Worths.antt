-- WHAT THE ACCOUNTS HAVE TOGETHER, where one of them gets another value: used for the puts and the transfers of a day.
use Rattle.std.proofs.Common.{◌≡◌, ◌≤◌, ◌<◌, ◌⊎◌, inl, inr, ◌+◌, ◌==◌, ℕ, zero, suc, true, false, Option, Some, unwrap_or, refl, ap, sym, ◌∙◌, arith}
use Rattle.std.proofs.lemmas.Bool.{cases_Bool, eq-eqb, eqb-true}
use Rattle.eris_txn.specs.Keys.{Values, with_value}
use Rattle.eris_txn.proofs.ValueLaws.{with_value-other, with_value-same}
use Rattle.eris_drill.specs.DrillLines.{account}
use Rattle.eris_drill.proofs.AccountKeys.{accounts_differ}
use Rattle.eris_law_drill.specs.Banks.{worth}

-- what an account has
abbrev pub has : Values → ℕ → ℕ
has values number = unwrap_or (values (account number)) 0

pub other_has : (values : Values) (number other : ℕ) (value : Option ℕ) → (number ≡ other → ⊥) →
    has (with_value (account number) value values) other ≡ has values other
other_has values number other value apart =
    ap (λ (found : Option ℕ). unwrap_or found 0) (with_value-other (account number) value values (account other) (accounts_differ number other apart))

pub itself_has : (values : Values) (number amount : ℕ) → has (with_value (account number) (Some amount) values) number ≡ amount
itself_has values number amount = ap (λ (found : Option ℕ). unwrap_or found 0) (with_value-same (account number) (Some amount) values)

pub worth_above : (values : Values) (number : ℕ) (value : Option ℕ) (n : ℕ) → n ≤ number → worth (with_value (account number) value values) n ≡ worth values n
unfolding worth
worth_above values number value zero above = refl
worth_above values number value (suc n) above =
    let before = worth_above values number value n (omega (arith, above)) in
    let last = other_has values number n value (λ same. omega (arith, above, same)) in
    omega (arith, before, last)

true_is_not : true ≡ false → ⊥
true_is_not h = cc

-- the sum changes by what the account has now and had before
pub worth_within : (values : Values) (number amount n : ℕ) → number < n →
    worth (with_value (account number) (Some amount) values) n + has values number ≡ worth values n + amount
unfolding worth
worth_within values number amount zero low = absurd (omega (arith, low))
worth_within values number amount (suc n) low = by_place (λ before. worth_within values number amount n before) (cases_Bool (number == n))
  where
    by_place : (number < n → worth (with_value (account number) (Some amount) values) n + has values number ≡ worth values n + amount)
        → ((number == n) ≡ true) ⊎ ((number == n) ≡ false)
        → worth (with_value (account number) (Some amount) values) (suc n) + has values number ≡ worth values (suc n) + amount
    by_place earlier (inl same) =
        let is : number ≡ n = eqb-true number n same in
        let before = worth_above values number (Some amount) n (omega (arith, is)) in
        let now : has (with_value (account number) (Some amount) values) n ≡ amount =
        ap (λ (place : ℕ). has (with_value (account number) (Some amount) values) place) (sym is) ∙ itself_has values number amount in
        let had : has values number ≡ has values n = ap (has values) is in
        omega (arith, before, now, had)
    by_place earlier (inr apart) =
        let differ : number ≡ n → ⊥ = λ is. true_is_not (sym (eq-eqb number n is) ∙ apart) in
        let before = earlier (omega (arith, low, differ)) in
        let last = other_has values number n (Some amount) differ in
        omega (arith, before, last)
