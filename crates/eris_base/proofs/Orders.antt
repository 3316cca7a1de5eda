-- What the tests of an order say of it.
use Rattle.std.proofs.Common.{◌≡◌, ◌==◌, ℕ, true, refl, arith}
use Rattle.std.proofs.lemmas.Bool.Decides.{nat_tests}
use Rattle.std.specs.Ordering.{nat_cmp, is_eq, is_lt}
use Rattle.std.specs.declared.cmp.Ordering.{Ordering}
use Rattle.std.specs.declared.cmp.Ordering.TheVariants.{Less, Equal, Greater}

pub less_from : (o : Ordering) → is_lt o ≡ true → o ≡ Less
less_from Less h = refl
less_from Equal h = cc
less_from Greater h = cc

pub equal_from : (o : Ordering) → is_eq o ≡ true → o ≡ Equal
equal_from Less h = cc
equal_from Equal h = refl
equal_from Greater h = cc

-- numbers are equal where their comparison ties
pub nat_tie : (m n : ℕ) → (m == n) ≡ is_eq (nat_cmp m n)
nat_tie m n = grind (arith, nat_tests)
