-- Which packet is pending: the least that goes to the node and wasn't fetched.
use Rattle.std.proofs.Common.{◌≡◌, ◌≢◌, ◌&&◌, ℕ, zero, suc, ◌+◌, ◌<◌, ◌≤◌, le_antisymm, lt_of_not-le, eqb, Bool, true, false, true≢false, not, cond, List, [], ◌∷◌, refl, sym, ap, ◌∙◌, subst, arith, Some, None, Option, slice_get, MatchOption, eq-eqb, ne_eqb, eqb→eq, T}
use native.Mathlib.Decide.{dec_le}
use Rattle.eris_journal.specs.Packets.{Packet, is_fetched, pending_from, IsNothing, IsLeast}
use Rattle.eris_journal.specs.declared.fetched.Fetched.{Fetched}
use Rattle.eris_journal.proofs.Books.{none_is_not}
use Rattle.eris_journal.proofs.Calls.{some_same}

-- the same, of packets numbered from the base
abbrev NothingFrom : ℕ → ℕ → List Packet → List Fetched → Type 0
NothingFrom node base packets fetched = (place : ℕ) (packet : Packet) → slice_get packets place ≡ Some packet → packet.0 ≡ node → is_fetched (base + place) fetched ≡ true

abbrev LeastFrom : ℕ → ℕ → List Packet → List Fetched → ℕ → Type 0
LeastFrom node base packets fetched place =
    ((bytes : List ℕ) × (slice_get packets place ≡ Some (node, bytes)))
    × (is_fetched (base + place) fetched ≡ false)
    × ((other : ℕ) (packet : Packet) → other < place → slice_get packets other ≡ Some packet → packet.0 ≡ node → is_fetched (base + other) fetched ≡ true)

abbrev Says : ℕ → ℕ → List Packet → List Fetched → Option ℕ → Type 0
Says node base packets fetched answer = MatchOption answer (NothingFrom node base packets fetched) (λ number. (place : ℕ) × (number ≡ base + place) × LeastFrom node base packets fetched place)

says_more : (node base : ℕ) (first : Packet) (rest : List Packet) (fetched : List Fetched) (answer : Option ℕ) → (first.0 ≡ node → is_fetched base fetched ≡ true) → Says node (base + 1) rest fetched answer → Says node base (first ∷ rest) fetched answer
says_more node base first rest fetched None here says = all
  where
    all : NothingFrom node base (first ∷ rest) fetched
    all zero packet is goes = subst (λ (n : ℕ). is_fetched n fetched ≡ true) (omega arith) (here (ap (λ (p : Packet). p.0) (some_same first packet is) ∙ goes))
    all (suc place) packet is goes = subst (λ (n : ℕ). is_fetched n fetched ≡ true) (omega arith) (says place packet is goes)
says_more node base first rest fetched (Some number) here says = (
  suc says.0,
  omega (arith, says.1),
  (says.2.0, subst (λ (n : ℕ). is_fetched n fetched ≡ false) (omega arith) says.2.1, before),
)
  where
    before : (other : ℕ) (packet : Packet) → other < suc says.0 → slice_get (first ∷ rest) other ≡ Some packet → packet.0 ≡ node → is_fetched (base + other) fetched ≡ true
    before zero packet low is goes = subst (λ (n : ℕ). is_fetched n fetched ≡ true) (omega arith) (here (ap (λ (p : Packet). p.0) (some_same first packet is) ∙ goes))
    before (suc other) packet low is goes = subst (λ (n : ℕ). is_fetched n fetched ≡ true) (omega arith) (says.2.2 other packet (omega (arith, low)) is goes)

says_first : (node base : ℕ) (first : Packet) (rest : List Packet) (fetched : List Fetched) → first.0 ≡ node → is_fetched base fetched ≡ false → Says node base (first ∷ rest) fetched (Some base)
says_first node base first rest fetched goes not_yet = (
  0,
  omega arith,
  (
    (first.1, λ i. Some (goes i, first.1)),
    subst (λ (n : ℕ). is_fetched n fetched ≡ false) (omega arith) not_yet,
    λ other packet low is goes'. absurd (omega (arith, low)),
  ),
)

says_step : (node base : ℕ) (first : Packet) (rest : List Packet) (fetched : List Fetched) (goes is : Bool) → eqb first.0 node ≡ goes → is_fetched base fetched ≡ is → (answer : Option ℕ) → Says node (base + 1) rest fetched answer
    → Says node base (first ∷ rest) fetched (cond (goes && not is) (Some base) answer)
says_step node base first rest fetched false is e f answer says = says_more node base first rest fetched answer (λ goes. absurd (true≢false (sym (eq-eqb first.0 node goes) ∙ e))) says
says_step node base first rest fetched true true e f answer says = says_more node base first rest fetched answer (λ goes. f) says
says_step node base first rest fetched true false e f answer says = says_first node base first rest fetched (eqb→eq first.0 node (subst T (sym e) tt)) f

says_all : (node base : ℕ) (packets : List Packet) (fetched : List Fetched) → Says node base packets fetched (pending_from node base packets fetched)
says_all node base [] fetched = λ place packet is goes. absurd (none_is_not packet is)
says_all node base (first ∷ rest) fetched = says_step node base first rest fetched (eqb first.0 node) (is_fetched base fetched) refl refl (pending_from node (base + 1) rest fetched) (says_all node (base + 1) rest fetched)

from_zero : (node : ℕ) (packets : List Packet) (fetched : List Fetched) (answer : Option ℕ) → Says node 0 packets fetched answer → MatchOption answer (IsNothing node packets fetched) (λ number. IsLeast node packets fetched number)
from_zero node packets fetched None says = λ number packet is goes. subst (λ (n : ℕ). is_fetched n fetched ≡ true) (omega arith) (says number packet is goes)
from_zero node packets fetched (Some number) says = subst (IsLeast node packets fetched) (omega (arith, says.1)) (
  says.2.0,
  subst (λ (n : ℕ). is_fetched n fetched ≡ false) (omega arith) says.2.1,
  λ other packet low is goes. subst (λ (n : ℕ). is_fetched n fetched ≡ true) (omega arith) (says.2.2 other packet low is goes),
)

pub pending_says : (node : ℕ) (packets : List Packet) (fetched : List Fetched) → MatchOption (pending_from node 0 packets fetched) (IsNothing node packets fetched) (λ number. IsLeast node packets fetched number)
pending_says node packets fetched = from_zero node packets fetched (pending_from node 0 packets fetched) (says_all node 0 packets fetched)

-- and only that is
at_most : (a b : ℕ) → (a < b → ⊥) → b ≤ a
at_most a b above = not_below (dec_le b a)
  where
    not_below : Dec (b ≤ a) → b ≤ a
    not_below (yes le) = le
    not_below (no over) = absurd (above (lt_of_not-le over))

nothing_is : (node : ℕ) (packets : List Packet) (fetched : List Fetched) (answer : Option ℕ) → MatchOption answer (IsNothing node packets fetched) (λ number. IsLeast node packets fetched number) → IsNothing node packets fetched → answer ≡ None
nothing_is node packets fetched None says nothing = refl
nothing_is node packets fetched (Some number) says nothing = absurd (true≢false (sym (nothing number (node, says.0.0) says.0.1 refl) ∙ says.1))

least_is : (node : ℕ) (packets : List Packet) (fetched : List Fetched) (answer : Option ℕ) (number : ℕ) → MatchOption answer (IsNothing node packets fetched) (λ n. IsLeast node packets fetched n) → IsLeast node packets fetched number → answer ≡ Some number
least_is node packets fetched None number says least = absurd (true≢false (sym (says number (node, least.0.0) least.0.1 refl) ∙ least.1))
least_is node packets fetched (Some found) number says least = ap Some (le_antisymm
    (at_most number found (λ low. true≢false (sym (says.2 number (node, least.0.0) low least.0.1 refl) ∙ least.1)))
    (at_most found number (λ low. true≢false (sym (least.2 found (node, says.0.0) low says.0.1 refl) ∙ says.1))))

pub nothing_is_pending : (node : ℕ) (packets : List Packet) (fetched : List Fetched) → IsNothing node packets fetched → pending_from node 0 packets fetched ≡ None
nothing_is_pending node packets fetched nothing = nothing_is node packets fetched (pending_from node 0 packets fetched) (pending_says node packets fetched) nothing

pub least_is_pending : (node : ℕ) (packets : List Packet) (fetched : List Fetched) (number : ℕ) → IsLeast node packets fetched number → pending_from node 0 packets fetched ≡ Some number
least_is_pending node packets fetched number least = least_is node packets fetched (pending_from node 0 packets fetched) number (pending_says node packets fetched) least
