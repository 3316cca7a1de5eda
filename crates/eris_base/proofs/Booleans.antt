-- What is known of the parts of a test, and the tests of two numbers and of an option. Used wherever a test is
-- taken apart.
use Rattle.std.proofs.Common.{◌≡◌, ℕ, Bool, true, false, ◌&&◌, ◌||◌, ◌==◌, Option, Some, None, is_some, refl, arith}
use Rattle.std.proofs.lemmas.Bool.{and_parts}
use Rattle.std.proofs.lemmas.Bool.Decides.{nat_tests}

-- both tests hold, so each does
pub left_of : (a b : Bool) → (a && b) ≡ true → a ≡ true
left_of a b h = (and_parts a b h).0

pub right_of : (a b : Bool) → (a && b) ≡ true → b ≡ true
right_of a b h = (and_parts a b h).1

pub or_none : (b : Bool) → (b || false) ≡ b
or_none true = refl
or_none false = refl

-- a number equals itself, and the sides may be turned
pub number_self : (n : ℕ) → (n == n) ≡ true
number_self n = grind (arith, nat_tests)

pub number_turned : (m n : ℕ) → (m == n) ≡ (n == m)
number_turned m n = grind (arith, nat_tests)

-- what isn't there
pub none_from : {X : Type 0} (found : Option X) → is_some found ≡ false → found ≡ None
none_from None h = refl
none_from (Some x) h = cc
