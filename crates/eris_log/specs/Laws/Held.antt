-- What holds of packets by number.
use Rattle.std.proofs.Common.{◌≡◌, ℕ, Bool, true, false, ◌==◌, nat_lt, cond, Option, Some, None, List, [], ◌∷◌, refl, ap, sym, ◌∙◌, subst}
use Rattle.std.proofs.lemmas.Bool.{and_parts, and_from, eqb-true}
use Rattle.std.proofs.lemmas.Cmp.{nat_cmp_total}
use Rattle.std.specs.List.{AllByRecursion}
use Rattle.std.specs.Option.{option_or, option_map}
use Rattle.std.specs.Ordering.{nat_cmp, is_eq}
use Rattle.std.specs.Prelude.{find}
use Rattle.eris_base.proofs.Orders.{nat_tie}
use Rattle.eris_txn.specs.declared.packet.Packet.{Packet}
use Rattle.eris_log.specs.Held.{numbers_ascend, count_from_one, packet_at, with_packet, with_packets}
use Rattle.eris_log.specs.PartFacts.{AreHeld}
use Rattle.eris_log.specs.Sorted.{item_at, with_item, union}
use Rattle.eris_log.specs.Laws.Sorted.{item_at-with_item, item_at-union, ascends-with_item, ascends-union, all-with_item, all-union, union-assoc, union-idem, union-comm}

pub item_at-find : (held : List (ℕ × Packet)) (number : ℕ) → item_at (λ pair. pair.0) nat_cmp held number ≡ find (λ pair. pair.0 == number) held
unfolding item_at
item_at-find [] number = refl
item_at-find (pair ∷ held) number =
    ap (λ b. cond b (Some pair) (item_at (λ p. p.0) nat_cmp held number)) (sym (nat_tie pair.0 number))
    ∙ ap (λ found. cond (pair.0 == number) (Some pair) found) (item_at-find held number)

-- the packet that a search by the order finds
pub packet_at-item_at : (held : List (ℕ × Packet)) (number : ℕ) → packet_at held number ≡ option_map (λ pair. pair.1) (item_at (λ pair. pair.0) nat_cmp held number)
unfolding packet_at
packet_at-item_at held number = ap (option_map (λ (pair : ℕ × Packet). pair.1)) (sym (item_at-find held number))

map_or : (a b : Option (ℕ × Packet)) → option_map (λ pair. pair.1) (option_or a b) ≡ option_or (option_map (λ pair. pair.1) a) (option_map (λ pair. pair.1) b)
map_or None b = refl
map_or (Some pair) b = refl

map_cond : (b : Bool) (number : ℕ) (packet : Packet) → option_map (λ (pair : ℕ × Packet). pair.1) (cond b (Some (number, packet)) None) ≡ cond b (Some packet) None
map_cond true number packet = refl
map_cond false number packet = refl

-- one more packet: what was held stays, and a number that wasn't held has it now
pub packet_at-with_packet : (held : List (ℕ × Packet)) (number : ℕ) (packet : Packet) (other : ℕ)
    → packet_at (with_packet held number packet) other ≡ option_or (packet_at held other) (cond (number == other) (Some packet) None)
unfolding with_packet
packet_at-with_packet held number packet other =
    packet_at-item_at (with_item (λ pair. pair.0) nat_cmp held (number, packet)) other
    ∙ ap (option_map (λ (pair : ℕ × Packet). pair.1)) (item_at-with_item (λ pair. pair.0) nat_cmp_total held (number, packet) other)
    ∙ map_or (item_at (λ pair. pair.0) nat_cmp held other) (cond (is_eq (nat_cmp number other)) (Some (number, packet)) None)
    ∙ ap (λ more. option_or (option_map (λ (pair : ℕ × Packet). pair.1) (item_at (λ pair. pair.0) nat_cmp held other)) more)
    (map_cond (is_eq (nat_cmp number other)) number packet ∙ ap (λ b. cond b (Some packet) None) (sym (nat_tie number other)))
    ∙ ap (λ found. option_or found (cond (number == other) (Some packet) None)) (sym (packet_at-item_at held other))

-- each number that either holds, with the first one's packet where it holds it
pub packet_at-with_packets : (held others : List (ℕ × Packet)) (number : ℕ)
    → packet_at (with_packets held others) number ≡ option_or (packet_at held number) (packet_at others number)
unfolding with_packets
packet_at-with_packets held others number =
    packet_at-item_at (union (λ pair. pair.0) nat_cmp held others) number
    ∙ ap (option_map (λ (pair : ℕ × Packet). pair.1)) (item_at-union (λ pair. pair.0) nat_cmp_total held others number)
    ∙ map_or (item_at (λ pair. pair.0) nat_cmp held number) (item_at (λ pair. pair.0) nat_cmp others number)
    ∙ ap (λ more. option_or (option_map (λ (pair : ℕ × Packet). pair.1) (item_at (λ pair. pair.0) nat_cmp held number)) more) (sym (packet_at-item_at others number))
    ∙ ap (λ found. option_or found (packet_at others number)) (sym (packet_at-item_at held number))

-- ---- order and numbers are kept
all_from : (held : List (ℕ × Packet)) → count_from_one held ≡ true → AllByRecursion (λ pair. nat_lt 0 pair.0 ≡ true) held
all_from [] h = tt
all_from (pair ∷ held) h = let parts = and_parts _ _ h in (parts.0, all_from held parts.1)

from_all : (held : List (ℕ × Packet)) → AllByRecursion (λ pair. nat_lt 0 pair.0 ≡ true) held → count_from_one held ≡ true
from_all [] h = refl
from_all (pair ∷ held) h = and_from _ _ h.0 (from_all held h.1)

pub AreHeld-with_packet : (held : List (ℕ × Packet)) (number : ℕ) (packet : Packet) → AreHeld held → nat_lt 0 number ≡ true → AreHeld (with_packet held number packet)
unfolding with_packet
AreHeld-with_packet held number packet facts some = record {
  ascend = ascends-with_item (λ pair. pair.0) nat_cmp_total held (number, packet) facts.ascend;
  from_one = from_all _ (all-with_item (λ pair. pair.0) nat_cmp (λ pair. nat_lt 0 pair.0 ≡ true) held (number, packet) (all_from held facts.from_one) some);
}

pub AreHeld-with_packets : (held others : List (ℕ × Packet)) → AreHeld held → AreHeld others → AreHeld (with_packets held others)
unfolding with_packets
AreHeld-with_packets held others facts more = record {
  ascend = ascends-union (λ pair. pair.0) nat_cmp_total held others facts.ascend;
  from_one = from_all _ (all-union (λ pair. pair.0) nat_cmp (λ pair. nat_lt 0 pair.0 ≡ true) held others (all_from held facts.from_one) (all_from others more.from_one));
}

-- ---- what holds of each packet
pub all-with_packet : (P : ℕ × Packet → Type 0) (held : List (ℕ × Packet)) (number : ℕ) (packet : Packet) → AllByRecursion P held → P (number, packet) → AllByRecursion P (with_packet held number packet)
unfolding with_packet
all-with_packet P held number packet all one = all-with_item (λ pair. pair.0) nat_cmp P held (number, packet) all one

pub all-with_packets : (P : ℕ × Packet → Type 0) (held others : List (ℕ × Packet)) → AllByRecursion P held → AllByRecursion P others → AllByRecursion P (with_packets held others)
unfolding with_packets
all-with_packets P held others all more = all-union (λ pair. pair.0) nat_cmp P held others all more

pub all-packet_at : (P : ℕ × Packet → Type 0) (held : List (ℕ × Packet)) (number : ℕ) (packet : Packet) → AllByRecursion P held → packet_at held number ≡ Some packet → P (number, packet)
unfolding packet_at
all-packet_at P [] number packet all h = cc
all-packet_at P (pair ∷ held) number packet all h = by_test (pair.0 == number) refl h (all-packet_at P held number packet all.1)
  where
    by_test : (b : Bool) → pair.0 == number ≡ b → option_map (λ (p : ℕ × Packet). p.1) (cond b (Some pair) (find (λ p. p.0 == number) held)) ≡ Some packet
        → (packet_at held number ≡ Some packet → P (number, packet)) → P (number, packet)
    by_test true e h more =
        let numbers : pair.0 ≡ number = eqb-true pair.0 number e in
        let packets : pair.1 ≡ packet = cc in
        subst P (λ i. (numbers i, packets i)) all.0
    by_test false e h more = more h

-- ---- unions of packets
pub with_packets-assoc : (some others more : List (ℕ × Packet)) → numbers_ascend some ≡ true → with_packets (with_packets some others) more ≡ with_packets some (with_packets others more)
unfolding with_packets
with_packets-assoc some others more h = union-assoc (λ pair. pair.0) nat_cmp_total some others more h

pub with_packets-idem : (held : List (ℕ × Packet)) → numbers_ascend held ≡ true → with_packets held held ≡ held
unfolding with_packets
with_packets-idem held h = union-idem (λ pair. pair.0) nat_cmp_total held h

-- the pair that is found has the number
found_number : (held : List (ℕ × Packet)) (number : ℕ) (pair : ℕ × Packet) → find (λ p. p.0 == number) held ≡ Some pair → pair.0 ≡ number
found_number [] number pair h = cc
found_number (other ∷ held) number pair h =
    by_test (other.0 == number) refl (find (λ p. p.0 == number) held) h (found_number held number pair)
  where
    by_test : (b : Bool) → other.0 == number ≡ b → (rest : Option (ℕ × Packet)) → cond b (Some other) rest ≡ Some pair → (rest ≡ Some pair → pair.0 ≡ number) → pair.0 ≡ number
    by_test true e rest h more = let same : other.0 ≡ number = eqb-true _ _ e in cc
    by_test false e rest h more = more h

pub with_packets-comm : (some others : List (ℕ × Packet)) → numbers_ascend some ≡ true → numbers_ascend others ≡ true
    → ((number : ℕ) (one other : Packet) → packet_at some number ≡ Some one → packet_at others number ≡ Some other → one ≡ other)
    → with_packets some others ≡ with_packets others some
unfolding with_packets packet_at
with_packets-comm some others g h agree =
    union-comm (λ pair. pair.0) nat_cmp_total some others g h
    (λ number one other e f.
    let e' = sym (item_at-find some number) ∙ e in
    let f' = sym (item_at-find others number) ∙ f in
    let numbers : one.0 ≡ other.0 = found_number some number one e' ∙ sym (found_number others number other f') in
    let packets : one.1 ≡ other.1 = agree number one.1 other.1 (ap (option_map (λ (pair : ℕ × Packet). pair.1)) e') (ap (option_map (λ (pair : ℕ × Packet). pair.1)) f') in
    λ i. (numbers i, packets i))

pub ruleset held_rules = (packet_at-item_at, AreHeld-with_packet, AreHeld-with_packets)
