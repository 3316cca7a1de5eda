use Rattle.std.proofs.Common.{◌≡◌, ℕ, ◌^◌, ◌<◌, ◌≤◌, Bool, true, false, ◌&&◌, nat_le, List, [], ◌∷◌, length, get_or, Option, Some, None, inl, inr, if◌then◌else◌, arith, rules, refl, sym}
use Rattle.std.specs.Str.Parse.{digits_value}
use Rattle.std.proofs.lemmas.Bool.{cases_lt}
use Rattle.std.proofs.lemmas.Bool.Decides.{nat_tests}
use Rattle.std.proofs.lemmas.Fmt.{digits_decimal, digits_value-decimal, first_decimal, decimal_digit, decimal-digits_value}
use Rattle.std.proofs.lemmas.Option.{none-some, cond_some}
use Rattle.std.proofs.lemmas.Str.Parse.{IsDigitsTest, IsNumeralModel, numerals_by_value}
use Rattle.eris_words.specs.Decimal.{decimal, are_digits, begins_number, digits_up_to, read_decimal}

-- `are_digits` holds of just the texts of digits, whose number is `digits_value 10`
digits_test : IsDigitsTest (λ word. are_digits word ≡ true)
digits_test = search rules

digits_model : IsNumeralModel (λ word. are_digits word ≡ true) (digits_value 10)
digits_model = numerals_by_value _ digits_test

-- a word begins a number where its first byte is above `0`
begins_by_first : (word : List ℕ) → 48 < get_or word 0 0 → begins_number word ≡ true
begins_by_first [] above = absurd (omega arith)
begins_by_first (first ∷ more) above = grind (arith, nat_tests)

first_of_begun : (word : List ℕ) → begins_number word ≡ true →
    (0 < length word) × (get_or word 0 0 ≡ 48 → length word ≡ 1)
first_of_begun [] begun = absurd cc
first_of_begun (first ∷ more) begun = (omega arith, λ zero_first. grind (arith, nat_tests))

some_within : (test : Bool) (inner : Option ℕ) (n : ℕ) →
    (if test then inner else None) ≡ Some n → (test ≡ true) × (inner ≡ Some n)
some_within true inner n read = (refl, read)
some_within false inner n read = absurd (none-some n read)

both_within : (a b : Bool) → (a && b) ≡ true → (a ≡ true) × (b ≡ true)
both_within true b both = (refl, both)
both_within false b both = absurd cc

-- a written number doesn't begin with a zero before more digits
begins_decimal : (n : ℕ) → n < 2 ^ 64 → begins_number (decimal n) ≡ true
begins_decimal n small = elim (cases_lt n 10) [
  | inl one ↦ rw (decimal_digit n one)
  | inr more ↦ begins_by_first (decimal n) (first_decimal n (omega arith) small)
]

-- a number is read back from what it is written as
pub read_decimal-decimal : (limit n : ℕ) → limit < 2 ^ 64 → n ≤ limit → read_decimal limit (decimal n) ≡ Some n
read_decimal-decimal limit n small within =
    let fits : n < 2 ^ 64 = omega arith in
    let digits : are_digits (decimal n) ≡ true = digits_decimal digits_model n fits in
    let value : digits_value 10 (decimal n) ≡ n = digits_value-decimal digits_model n fits in
    rw (begins_decimal n fits) (rw digits (rw value (grind (arith, nat_tests))))

-- a number has one spelling, and none above the limit
pub read_decimal_only : (limit : ℕ) (word : List ℕ) (n : ℕ) → limit < 2 ^ 64 → read_decimal limit word ≡ Some n →
    (word ≡ decimal n) × (n ≤ limit)
read_decimal_only limit word n small read =
    let begun = some_within (begins_number word) (digits_up_to limit word) n read in
    let value = cond_some (are_digits word && nat_le (digits_value 10 word) limit) (digits_value 10 word) n begun.1 in
    let tests = both_within (are_digits word) (nat_le (digits_value 10 word) limit) value.0 in
    let first = first_of_begun word begun.0 in
    let within : digits_value 10 word ≤ limit = grind (arith, nat_tests, tests.1) in
    let spelled : decimal (digits_value 10 word) ≡ word =
    decimal-digits_value digits_model word tests.0 first.0 first.1 (omega arith) in
    (rw (← value.1) (sym spelled), rw value.1 at within)

-- a written number has digits alone
pub digits_of_decimal : (n : ℕ) → n < 2 ^ 64 → are_digits (decimal n) ≡ true
digits_of_decimal n small = digits_decimal digits_model n small
