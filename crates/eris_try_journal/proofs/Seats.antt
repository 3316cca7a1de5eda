-- Which seats were joined.
use Rattle.std.proofs.Common.{◌≡◌, ◌≢◌, ℕ, zero, suc, length, take, get_or, ◌++◌, ◌+◌, ◌-◌, ◌<◌, ◌≤◌, List, [], ◌∷◌, refl, sym, ap, ◌∙◌, subst, arith, inl, inr}
use Rattle.std.proofs.lemmas.List.{get_or-take}
use mathlib.Core.Logic.{dite}
use native.Mathlib.Decide.{ℕ_discrete}
use Rattle.eris_journal.specs.Lists.{Has}
use Rattle.eris_journal.specs.Seats.{HandValue, SeatValue, AllJoined, left_by_seat}
use Rattle.eris_journal.specs.declared.views.Joined.{Joined}
use Rattle.eris_journal.specs.declared.views.Part.{Part}

-- each node from the number on was joined
abbrev pub FromOn : {E : Type 0} → ℕ → ℕ → List (Joined (Part E)) → Type 0
FromOn {E} low count kept = (node : ℕ) → low ≤ node → node < count → (x : Joined (Part E)) × Has kept x × (x.node ≡ node)

pub from_none : {E : Type 0} (count : ℕ) (kept : List (Joined (Part E))) → FromOn count count kept
from_none count kept node above below = absurd (omega (arith, above, below))

pub all_back : {A : Type 0} (xs ys : List A) (n : ℕ) → length xs ≡ n → take n (xs ++ ys) ≡ xs
all_back [] ys zero e = refl
all_back [] ys (suc n) e = absurd (omega (arith, e))
all_back (x ∷ xs) ys zero e = absurd (omega (arith, e))
all_back (x ∷ xs) ys (suc n) e = ap (λ l. x ∷ l) (all_back xs ys n (omega (arith, e)))

-- what holds of each place of a list, after the last was taken off
pub one_off : {A : Type 0} (P : ℕ → A → Type 0) (xs ys : List A) (many few : ℕ) → many ≡ few + 1 → ys ≡ take (many - 1) xs → ((i : ℕ) (d : A) → i < many → P i (get_or xs i d)) → (i : ℕ) (d : A) → i < few → P i (get_or ys i d)
one_off {A} P xs ys many few next rest each i d low =
    subst (λ (l : List A). P i (get_or l i d)) (sym rest) (subst (P i) (sym (get_or-take (many - 1) xs i d (omega (arith, low, next)))) (each i d (omega (arith, low, next))))

module _ {L E : Type 0} where
  pub one_more : (low count : ℕ) (before after : List (Joined (Part E))) (seat : SeatValue L E) → after ≡ left_by_seat seat ∷ before → seat.node ≡ low → FromOn (low + 1) count before → FromOn low count after
  one_more low count before after seat is node from other above below = dite (ℕ_discrete other low)
      (λ (same : other ≡ low). (left_by_seat seat, subst (λ l. Has l (left_by_seat seat)) (sym is) (inl refl), node ∙ sym same))
      (λ (apart : other ≢ low). let old = from other (omega (arith, above, apart)) below in (old.0, subst (λ l. Has l old.0) (sym is) (inr old.1), old.2))

  pub two_joined : (hand : HandValue L E) (middle : List (Joined (Part E))) (first second : SeatValue L E) → hand.count ≡ 2 → middle ≡ left_by_seat first ∷ [] → hand.kept ≡ left_by_seat second ∷ middle → first.node ≡ 0 → second.node ≡ 1 → AllJoined hand
  two_joined hand middle first second count one two zero_th one_th node below = dite (ℕ_discrete node 0)
      (λ (same : node ≡ 0). (left_by_seat first, subst (λ l. Has l (left_by_seat first)) (sym two) (inr (subst (λ l. Has l (left_by_seat first)) (sym one) (inl refl))), zero_th ∙ sym same))
      (λ (apart : node ≢ 0). (left_by_seat second, subst (λ l. Has l (left_by_seat second)) (sym two) (inl refl), one_th ∙ omega (arith, below, count, apart)))
