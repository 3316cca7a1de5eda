use Rattle.std.proofs.Common.{◌≡◌, ℕ, ◌+◌, ◌-◌, ◌/◌, ◌%◌, ◌^◌, ◌<◌, ◌≤◌, List, ◌++◌, length, drop, slice_set, arith}
use Rattle.std.specs.Fmt.{decimal}
use Rattle.std.proofs.lemmas.Fmt.{decimal_step, decimal_digit, decimal_nonempty, length-decimal-le}
use Rattle.std.proofs.lemmas.Grind.{common_steps}

-- a number of 64 bits has at most 20 digits
pub few_digits : (n : ℕ) → n < 2 ^ 64 → length (decimal n) ≤ 20
few_digits n small = length-decimal-le 20 n (omega arith) (omega arith) small

-- the number without its last digit has one digit fewer
pub fewer_digits : (n : ℕ) → 10 ≤ n → n < 2 ^ 64 → length (decimal (n / 10)) + 1 ≡ length (decimal n)
fewer_digits n large small = rw (decimal_step n large small) (grind (arith, common_steps))

-- nothing stands behind the digits as yet
pub none_written : (n : ℕ) (cells : List ℕ) → length cells ≡ 20 → decimal n ++ drop 20 cells ≡ decimal n
none_written n cells whole = grind (arith, common_steps)

-- the last digit stands before what stood behind all digits
pub last_digit_written : (n start : ℕ) (cells : List ℕ) → 10 ≤ n → n < 2 ^ 64 → 0 < start → start ≤ length cells →
    decimal (n / 10) ++ drop (start - 1) (slice_set cells (start - 1) (48 + n % 10)) ≡ decimal n ++ drop start cells
last_digit_written n start cells large small some within =
    rw (decimal_step n large small) (grind (arith, common_steps))

-- and so does the only digit that is left
pub first_digit_written : (n start : ℕ) (cells : List ℕ) → n < 10 → 0 < start → start ≤ length cells →
    drop (start - 1) (slice_set cells (start - 1) (48 + n)) ≡ decimal n ++ drop start cells
first_digit_written n start cells small some within = rw (decimal_digit n small) (grind (arith, common_steps))

pub ruleset digit_steps = (few_digits, fewer_digits, none_written, last_digit_written, first_digit_written, decimal_nonempty)
