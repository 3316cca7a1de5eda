use Rattle.std.specs.Prelude.{ℕ, Bool, false, not, List, [], ◌∷◌, Option, Some, None, length, ◌==◌, ◌&&◌, ◌||◌, nat_le, if◌then◌else◌}
use Rattle.std.specs.Char.{is_digit}
use Rattle.std.specs.List.{list_all}
use Rattle.std.specs.Str.Parse.{digits_value}
-- what a number is written as: its decimal digits without a leading zero, and `0` for 0
pub use Rattle.std.specs.Fmt.{decimal}

-- whether each byte is a decimal digit
abbrev pub are_digits : List ℕ → Bool
are_digits word = list_all (λ byte. is_digit byte 10) word

-- the number that digits write; None where a byte is no digit, or the number is above the limit
abbrev pub digits_up_to : ℕ → List ℕ → Option ℕ
digits_up_to limit word =
    if are_digits word && nat_le (digits_value 10 word) limit then Some (digits_value 10 word) else None

-- whether there is a byte, and the first is no `0` before others
abbrev pub begins_number : List ℕ → Bool
begins_number [] = false
begins_number (first ∷ more) = length more == 0 || not (first == 48)

-- the number that a word writes; None where the word is no number, or one above the limit
abbrev pub read_decimal : ℕ → List ℕ → Option ℕ
read_decimal limit word = if begins_number word then digits_up_to limit word else None
