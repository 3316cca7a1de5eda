-- What the calls of a disk do to its content, and what a crash may leave of it.
use Rattle.std.specs.Prelude.{◌≡◌, ◌⊎◌, ℕ, ◌+◌, ◌<◌, ◌≤◌, min, max, List, ◌++◌, length, take, drop}

-- the bytes at their place, over what was there; those that go past the end are added
abbrev pub overwritten : List ℕ → ℕ → List ℕ → List ℕ
overwritten before at bytes = take at before ++ bytes ++ drop (at + length bytes) before

-- A write of `count` bytes at `at` that a crash cuts short. In the range, and behind the old end, any bytes stand; elsewhere all is
-- as before.
pub record IsTorn (before : List ℕ) (at count : ℕ) (bytes : List ℕ) : Type 0 where
  pub size : length bytes ≡ max (length before) (at + count)
  pub front : take (min at (length before)) bytes ≡ take at before
  pub back : drop (at + count) bytes ≡ drop (at + count) before

-- a list that was possible before the write, or one torn from it
abbrev pub OrTorn : (List ℕ → Type 0) → ℕ → ℕ → List ℕ → Type 0
OrTorn before at count bytes = before bytes ⊎ ((whole : List ℕ) × before whole × IsTorn whole at count bytes)

-- the same lists pass both tests
pub record AreSame (P Q : List ℕ → Type 0) : Type 0 where
  pub there : (bytes : List ℕ) → P bytes → Q bytes
  pub back : (bytes : List ℕ) → Q bytes → P bytes

-- nothing passes the test but this list, and it does
abbrev pub IsOnly : List ℕ → (List ℕ → Type 0) → Type 0
IsOnly only P = AreSame P (λ bytes. bytes ≡ only)

-- Time goes on. From each earlier time on, a crash may have left what it might have left before, or what it may leave from now on.
pub record GoesOn (before now : ℕ) (was is : ℕ → List ℕ → Type 0) (left : List ℕ → Type 0) : Type 0 where
  pub later : before < now
  pub adds : (time : ℕ) → time ≤ before → AreSame (is time) (λ bytes. was time bytes ⊎ left bytes)

-- no time goes by, and a crash may leave, and have left, what it might before
pub record StandsStill {D : Type 0} (clock : D → ℕ) (may_leave : D → List ℕ → Type 0) (may_have_left : D → ℕ → List ℕ → Type 0) (before after : D) : Type 0 where
  pub time : clock after ≡ clock before
  pub now : AreSame (may_leave after) (may_leave before)
  pub since : (time : ℕ) → AreSame (may_have_left after time) (may_have_left before time)
