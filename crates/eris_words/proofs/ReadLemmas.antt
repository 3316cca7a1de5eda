use Rattle.std.proofs.Common.{◌≡◌, ℕ, ◌+◌, ◌-◌, ◌*◌, ◌^◌, ◌<◌, ◌≤◌, true, false, List, length, get_or, take, None, Some, arith}
use Rattle.std.specs.Char.{digit_value, is_digit}
use Rattle.std.specs.Str.Parse.{digits_value}
use Rattle.std.proofs.lemmas.Bool.Decides.{nat_tests}
use Rattle.std.proofs.lemmas.Int.Digits.{digits_value_more}
use Rattle.std.proofs.lemmas.Str.Parse.{digits_value-take-le}
use Rattle.std.proofs.lemmas.List.{take_all}
use Rattle.std.proofs.lemmas.List.Folds.{list_all_more, list_all_at}
use Rattle.eris_words.specs.Decimal.{are_digits, digits_up_to}

-- one more digit
pub digits_of_more : (word : List ℕ) (i : ℕ) → i < length word → are_digits (take i word) ≡ true →
    digit_value (get_or word i 0) < 10 → are_digits (take (i + 1) word) ≡ true
digits_of_more word i within before digit =
    rw (list_all_more (λ byte. is_digit byte 10) word i 0 within) (rw before (grind (arith, nat_tests)))

-- a byte that is no digit
pub none_at_other : (word : List ℕ) (i : ℕ) → i < length word → 10 ≤ digit_value (get_or word i 0) →
    digits_up_to (2 ^ 64 - 1) word ≡ None
none_at_other word i within other =
    let no : are_digits word ≡ false =
    list_all_at (λ byte. is_digit byte 10) word i 0 within (grind (arith, nat_tests)) in
    rw no

-- a number that has grown past 64 bits stays past them
pub none_at_large : (word : List ℕ) (i : ℕ) → i < length word →
    2 ^ 64 ≤ digits_value 10 (take i word) * 10 + digit_value (get_or word i 0) →
    digits_up_to (2 ^ 64 - 1) word ≡ None
none_at_large word i within large =
    let more : digits_value 10 (take (i + 1) word) ≤ digits_value 10 word =
    digits_value-take-le 10 word (i + 1) (omega arith) in
    let is : digits_value 10 (take (i + 1) word) ≡ digits_value 10 (take i word) * 10 + digit_value (get_or word i 0) =
    digits_value_more 10 word i within in
    grind (arith, nat_tests)

-- all digits are read, into a number that fits 64 bits
pub some_at_end : (word : List ℕ) (i number : ℕ) → length word ≤ i → number ≡ digits_value 10 (take i word) →
    are_digits (take i word) ≡ true → number < 2 ^ 64 → Some number ≡ digits_up_to (2 ^ 64 - 1) word
some_at_end word i number end value digits small =
    let all : take i word ≡ word = take_all i word end in
    let fits : digits_value 10 word < 2 ^ 64 = rw (value, all) at small in
    rw value (rw all (rw (rw all at digits) (grind (arith, nat_tests))))

pub ruleset reading = (digits_value_more, digits_of_more, none_at_other, none_at_large, some_at_end)
