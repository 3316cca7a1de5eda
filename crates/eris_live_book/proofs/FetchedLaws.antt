-- Which numbers are among fetched packets.
use Rattle.std.proofs.Common.{◌≡◌, ◌||◌, ℕ, ◌<◌, eqb, Bool, true, false, true≢false, List, [], ◌∷◌, ◌++◌, refl, sym, ap, ◌∙◌, arith, eq-eqb, ne_eqb}
use Rattle.eris_base.specs.Each.{Each}
use Rattle.eris_journal.specs.Packets.{is_fetched}
use Rattle.eris_journal.specs.declared.fetched.Fetched.{Fetched}

pub not_fetched : (number : ℕ) (fetched : List Fetched) → Each (λ packet. packet.number < number) fetched → is_fetched number fetched ≡ false
not_fetched number [] each = refl
not_fetched number (packet ∷ packets) each =
    ap (λ (b : Bool). b || is_fetched number packets) (ne_eqb packet.number number (λ e. omega (arith, e, each.0))) ∙ not_fetched number packets each.1

or_right : (a b : Bool) → b ≡ true → (a || b) ≡ true
or_right true b e = refl
or_right false b e = e

pub fetched_more : (number : ℕ) (fetched : List Fetched) (packet : Fetched) → is_fetched number fetched ≡ true → is_fetched number (fetched ++ packet ∷ []) ≡ true
fetched_more number [] packet e = absurd (true≢false (sym e))
fetched_more number (first ∷ rest) packet e = step (eqb first.number number) (λ was. fetched_more number rest packet was) e
  where
    step : (b : Bool) → (is_fetched number rest ≡ true → is_fetched number (rest ++ packet ∷ []) ≡ true) → (b || is_fetched number rest) ≡ true → (b || is_fetched number (rest ++ packet ∷ [])) ≡ true
    step true more was = refl
    step false more was = more was

pub fetched_last : (number : ℕ) (fetched : List Fetched) (packet : Fetched) → packet.number ≡ number → is_fetched number (fetched ++ packet ∷ []) ≡ true
fetched_last number [] packet e = ap (λ (b : Bool). b || false) (eq-eqb packet.number number e)
fetched_last number (first ∷ rest) packet e = or_right (eqb first.number number) (is_fetched number (rest ++ packet ∷ [])) (fetched_last number rest packet e)
