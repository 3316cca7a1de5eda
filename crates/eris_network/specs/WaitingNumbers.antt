-- Numbers from 0 on, of which some wait.
use Rattle.std.specs.Prelude.{◌≡◌, ◌<◌, ◌≤◌, ℕ, ◌+◌, ◌==◌, not, Bool, true, false, Some, List, [], ◌∷◌, ◌++◌, length, slice_get, if◌then◌else◌}
use Rattle.std.specs.List.{filter, range_with_len}

-- how many numbers there are, and those that wait, ascending
pub record WaitingValue : Type 0 where
  pub count : ℕ
  pub numbers : List ℕ

-- the numbers that wait, of those from this number on
abbrev pub waiting_from : ℕ → List Bool → List ℕ
waiting_from number [] = []
waiting_from number (waits ∷ more) = if waits then number ∷ waiting_from (number + 1) more else waiting_from (number + 1) more

abbrev pub value_of : List Bool → WaitingValue
value_of waits = record { count = length waits; numbers = waiting_from 0 waits }

-- so many more numbers wait
abbrev pub with_more : WaitingValue → ℕ → WaitingValue
with_more value count = record { count = value.count + count; numbers = value.numbers ++ range_with_len value.count count }

-- a number waits no more
abbrev pub without : WaitingValue → ℕ → WaitingValue
without value number = record value { numbers = filter (λ other. not (other == number)) value.numbers }

-- none below it waits, and it waits itself, if it is a number
pub record IsLow (waits : List Bool) (low : ℕ) : Type 0 where
  pub within : low ≤ length waits
  pub below : (number : ℕ) → number < low → slice_get waits number ≡ Some false
  pub at : low < length waits → slice_get waits low ≡ Some true
