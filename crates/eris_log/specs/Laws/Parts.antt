-- What the calls of a part keep, and how a part grows.
use Rattle.std.proofs.Common.{◌≡◌, ◌≤◌, ℕ, zero, suc, true, false, ◌||◌, ◌==◌, nat_lt, cond, Option, Some, None, is_some, List, refl, ap, sym, ◌∙◌, subst, arith, ◌⊎◌, inl, inr}
use Rattle.std.proofs.lemmas.Bool.{cond_both, cond-false, or_left, or_right, eqb-false, lt-ltb, ne_eqb}
use Rattle.std.specs.List.{AllByRecursion}
use Rattle.std.specs.Option.{option_or}
use Rattle.eris_base.specs.declared.ids.Epoch.{Epoch}
use Rattle.eris_base.specs.declared.ids.Place.{Place}
use Rattle.eris_base.specs.declared.ids.ShardId.{ShardId}
use Rattle.eris_base.specs.declared.stamp.Stamp.{Stamp}
use Rattle.eris_base.specs.Places.{are_stamp_places, number_in}
use Rattle.eris_txn.specs.declared.packet.Packet.{Packet}
use Rattle.eris_log.specs.Growth.{HasAll, HoldsAll, IsWithin, OfOneShard, Agree}
use Rattle.eris_log.specs.Held.{packet_at, with_packet, with_packets}
use Rattle.eris_log.specs.PartFacts.{AreHeld, AreMarks, IsPart}
use Rattle.eris_log.specs.PartValues.{PartValue}
use Rattle.eris_log.specs.Parts.{empty_part, hold_at, hold, mark_temp, mark_found, mark_dropped, merge, IsUnion}
use Rattle.eris_log.specs.Places.{same_place, contains_place, with_place, with_places, places_of}
use Rattle.eris_log.specs.Laws.Held.{packet_at-with_packet, packet_at-with_packets, AreHeld-with_packet, AreHeld-with_packets, all-with_packet, all-with_packets, with_packets-assoc, with_packets-idem, with_packets-comm}
use Rattle.eris_log.specs.Laws.Places.{contains_place-with_place, contains_place-with_places, AreMarks-with_place, AreMarks-with_places, AreMarks-places_of, with_places-assoc, with_places-idem, with_places-comm}

-- ---- the facts of a part are kept
pub IsPart-empty_part : (epoch : Epoch) (shard : ShardId) → IsPart (empty_part epoch shard)
unfolding empty_part
IsPart-empty_part epoch shard = record {
  held = record { ascend = refl; from_one = refl };
  temp = record { ascend = refl; of_epoch = refl };
  fnd = record { ascend = refl; of_epoch = refl };
  perm = record { ascend = refl; of_epoch = refl };
}

above_zero : (number : ℕ) → number == 0 ≡ false → nat_lt 0 number ≡ true
above_zero number h = let some : number ≡ 0 → ⊥ = eqb-false number 0 h in lt-ltb 0 number (omega arith)

IsPart-hold_at : (part : PartValue) (number : Option ℕ) (packet : Packet) → IsPart part → IsPart (hold_at part number packet)
unfolding hold_at
IsPart-hold_at part None packet facts = facts
IsPart-hold_at part (Some number) packet facts =
    cond_both (number == 0) part (record part { held = with_packet part.held number packet }) IsPart
    (λ e. facts)
    (λ some. record { held = AreHeld-with_packet part.held number packet facts.held (above_zero number some); temp = facts.temp; fnd = facts.fnd; perm = facts.perm })

pub IsPart-hold : (part : PartValue) (packet : Packet) → IsPart part → IsPart (hold part packet)
unfolding hold
IsPart-hold part packet facts = IsPart-hold_at part _ packet facts

pub IsPart-mark_temp : (part : PartValue) (place : Place) → IsPart part → place.epoch ≡ part.epoch → IsPart (mark_temp part place)
unfolding mark_temp
IsPart-mark_temp part place facts same =
    record { held = facts.held; temp = AreMarks-with_place part.epoch part.temp place facts.temp same; fnd = facts.fnd; perm = facts.perm }

pub IsPart-mark_found : (part : PartValue) (stamp : Stamp) → IsPart part → stamp.epoch ≡ part.epoch → are_stamp_places stamp.places ≡ true → IsPart (mark_found part stamp)
unfolding mark_found
IsPart-mark_found part stamp facts same fits =
    let named : AreMarks part.epoch (places_of stamp) = subst (λ (epoch : Epoch). AreMarks epoch (places_of stamp)) same (AreMarks-places_of stamp fits) in
    record { held = facts.held; temp = facts.temp; fnd = AreMarks-with_places part.epoch part.fnd (places_of stamp) facts.fnd named; perm = facts.perm }

pub IsPart-mark_dropped : (part : PartValue) (place : Place) → IsPart part → place.epoch ≡ part.epoch → IsPart (mark_dropped part place)
unfolding mark_dropped
IsPart-mark_dropped part place facts same =
    record { held = facts.held; temp = facts.temp; fnd = facts.fnd; perm = AreMarks-with_place part.epoch part.perm place facts.perm same }

pub IsPart-merge : (some other : PartValue) → IsPart some → IsPart other → other.epoch ≡ some.epoch → IsPart (merge some other)
unfolding merge
IsPart-merge some other facts more same =
    let moved : (places : List Place) → AreMarks other.epoch places → AreMarks some.epoch places = λ places marks. subst (λ (epoch : Epoch). AreMarks epoch places) same marks in
    record {
      held = AreHeld-with_packets some.held other.held facts.held more.held;
      temp = AreMarks-with_places some.epoch some.temp other.temp facts.temp (moved other.temp more.temp);
      fnd = AreMarks-with_places some.epoch some.fnd other.fnd facts.fnd (moved other.fnd more.fnd);
      perm = AreMarks-with_places some.epoch some.perm other.perm facts.perm (moved other.perm more.perm);
    }

-- ---- what a call adds
hold_at-others : (part : PartValue) (number : Option ℕ) (packet : Packet) → hold_at part number packet ≡ record part { held = (hold_at part number packet).held }
unfolding hold_at
hold_at-others part None packet = refl
hold_at-others part (Some number) packet =
    cond_both (number == 0) part (record part { held = with_packet part.held number packet }) (λ made. made ≡ record part { held = made.held }) (λ e. refl) (λ e. refl)

hold_at-none : (part : PartValue) (packet : Packet) → hold_at part None packet ≡ part
unfolding hold_at
hold_at-none part packet = refl

hold_at-zero : (part : PartValue) (number : ℕ) (packet : Packet) → number ≡ 0 → hold_at part (Some number) packet ≡ part
unfolding hold_at
hold_at-zero part number packet e = rw e refl

cases_zero : (number : ℕ) → (number ≡ 0) ⊎ (1 ≤ number)
cases_zero zero = inl refl
cases_zero (suc number) = inr (omega arith)

-- holding a packet changes the packets held alone
pub hold-others : (part : PartValue) (packet : Packet) → hold part packet ≡ record part { held = (hold part packet).held }
unfolding hold
hold-others part packet = hold_at-others part (number_in packet.stamp.places part.shard) packet

hold_at-held : (part : PartValue) (number : ℕ) (packet : Packet) → 1 ≤ number → hold_at part (Some number) packet ≡ record part { held = with_packet part.held number packet }
unfolding hold_at
hold_at-held part number packet some =
    cond-false (number == 0) part (record part { held = with_packet part.held number packet }) (ne_eqb number 0 (λ e. absurd (omega arith)))

-- and these by that one packet
pub hold-held : (part : PartValue) (packet : Packet) (number : ℕ) → number_in packet.stamp.places part.shard ≡ Some number → 1 ≤ number
    → hold part packet ≡ record part { held = with_packet part.held number packet }
unfolding hold
hold-held part packet number given some = ap (λ n. hold_at part n packet) given ∙ hold_at-held part number packet some

-- what was held stays, and the packet's number, if it was free, has the packet
pub packet_at-hold : (part : PartValue) (packet : Packet) (number other : ℕ) → number_in packet.stamp.places part.shard ≡ Some number → 1 ≤ number
    → packet_at (hold part packet).held other ≡ option_or (packet_at part.held other) (cond (number == other) (Some packet) None)
packet_at-hold part packet number other given some =
    ap (λ (made : PartValue). packet_at made.held other) (hold-held part packet number given some)
    ∙ packet_at-with_packet part.held number packet other

-- each packet that is held then was held, or is that one
pub all-hold : (P : ℕ × Packet → Type 0) (part : PartValue) (packet : Packet) → AllByRecursion P part.held
    → ((number : ℕ) → number_in packet.stamp.places part.shard ≡ Some number → 1 ≤ number → P (number, packet)) → AllByRecursion P (hold part packet).held
unfolding hold
all-hold P part packet all one = by_number (number_in packet.stamp.places part.shard) refl
  where
    by_number : (number : Option ℕ) → number_in packet.stamp.places part.shard ≡ number → AllByRecursion P (hold_at part number packet).held
    by_number None given = subst (λ (made : PartValue). AllByRecursion P made.held) (sym (hold_at-none part packet)) all
    by_number (Some number) given = by_test (cases_zero number)
      where
        by_test : ((number ≡ 0) ⊎ (1 ≤ number)) → AllByRecursion P (hold_at part (Some number) packet).held
        by_test (inl e) = subst (λ (made : PartValue). AllByRecursion P made.held) (sym (hold_at-zero part number packet e)) all
        by_test (inr some) =
            subst (λ (made : PartValue). AllByRecursion P made.held) (sym (hold_at-held part number packet some))
            (all-with_packet P part.held number packet all (one number given some))

pub contains_place-mark_temp : (part : PartValue) (place other : Place) → contains_place (mark_temp part place).temp other ≡ (contains_place part.temp other || same_place place other)
unfolding mark_temp
contains_place-mark_temp part place other = contains_place-with_place part.temp place other

pub contains_place-mark_dropped : (part : PartValue) (place other : Place) → contains_place (mark_dropped part place).perm other ≡ (contains_place part.perm other || same_place place other)
unfolding mark_dropped
contains_place-mark_dropped part place other = contains_place-with_place part.perm place other

pub contains_place-mark_found : (part : PartValue) (stamp : Stamp) (other : Place) → contains_place (mark_found part stamp).fnd other ≡ (contains_place part.fnd other || contains_place (places_of stamp) other)
unfolding mark_found
contains_place-mark_found part stamp other = contains_place-with_places part.fnd (places_of stamp) other

-- ---- the union of two parts
pub IsUnion-merge : (some other : PartValue) → IsUnion some other (merge some other)
unfolding merge
IsUnion-merge some other = record {
  epoch = refl;
  shard = refl;
  held = record { at = λ number. packet_at-with_packets some.held other.held number };
  temp = record { at = λ place. contains_place-with_places some.temp other.temp place };
  fnd = record { at = λ place. contains_place-with_places some.fnd other.fnd place };
  perm = record { at = λ place. contains_place-with_places some.perm other.perm place };
}

-- each packet that is held then was held by one of the two
pub all-merge : (P : ℕ × Packet → Type 0) (some other : PartValue) → AllByRecursion P some.held → AllByRecursion P other.held → AllByRecursion P (merge some other).held
unfolding merge
all-merge P some other all more = all-with_packets P some.held other.held all more

pub merge-assoc : (some other more : PartValue) → IsPart some → merge (merge some other) more ≡ merge some (merge other more)
unfolding merge
merge-assoc some other more facts =
    let held = with_packets-assoc some.held other.held more.held facts.held.ascend in
    let temp = with_places-assoc some.temp other.temp more.temp facts.temp.ascend in
    let fnd = with_places-assoc some.fnd other.fnd more.fnd facts.fnd.ascend in
    let perm = with_places-assoc some.perm other.perm more.perm facts.perm.ascend in
    λ i. record some { held = held i; temp = temp i; fnd = fnd i; perm = perm i }

pub merge-idem : (part : PartValue) → IsPart part → merge part part ≡ part
unfolding merge
merge-idem part facts =
    let held = with_packets-idem part.held facts.held.ascend in
    let temp = with_places-idem part.temp facts.temp.ascend in
    let fnd = with_places-idem part.fnd facts.fnd.ascend in
    let perm = with_places-idem part.perm facts.perm.ascend in
    λ i. record part { held = held i; temp = temp i; fnd = fnd i; perm = perm i }

pub merge-comm : (some other : PartValue) → IsPart some → IsPart other → OfOneShard some other → Agree some other → merge some other ≡ merge other some
unfolding merge
merge-comm some other facts more one agree =
    let held = with_packets-comm some.held other.held facts.held.ascend more.held.ascend agree.at in
    let temp = with_places-comm some.temp other.temp facts.temp.ascend more.temp.ascend in
    let fnd = with_places-comm some.fnd other.fnd facts.fnd.ascend more.fnd.ascend in
    let perm = with_places-comm some.perm other.perm facts.perm.ascend more.perm.ascend in
    λ i. record { epoch = sym one.epoch i; shard = sym one.shard i; held = held i; temp = temp i; fnd = fnd i; perm = perm i }

-- ---- growth
pub HasAll-refl : (places : List Place) → HasAll places places
HasAll-refl places = record { at = λ place h. h }

pub HoldsAll-refl : (held : List (ℕ × Packet)) → HoldsAll held held
HoldsAll-refl held = record { at = λ number packet h. h }

pub IsWithin-refl : (part : PartValue) → IsWithin part part
IsWithin-refl part = record { epoch = refl; shard = refl; held = HoldsAll-refl part.held; temp = HasAll-refl part.temp; fnd = HasAll-refl part.fnd; perm = HasAll-refl part.perm }

pub IsWithin-trans : (some more all : PartValue) → IsWithin some more → IsWithin more all → IsWithin some all
IsWithin-trans some more all f g = record {
  epoch = g.epoch ∙ f.epoch;
  shard = g.shard ∙ f.shard;
  held = record { at = λ number packet h. g.held.at number packet (f.held.at number packet h) };
  temp = record { at = λ place h. g.temp.at place (f.temp.at place h) };
  fnd = record { at = λ place h. g.fnd.at place (f.fnd.at place h) };
  perm = record { at = λ place h. g.perm.at place (f.perm.at place h) };
}

HasAll-with_place : (places : List Place) (place : Place) → HasAll places (with_place places place)
HasAll-with_place places place = record { at = λ other h. contains_place-with_place places place other ∙ or_left (contains_place places other) (same_place place other) h }

HasAll-first : (some others : List Place) → HasAll some (with_places some others)
HasAll-first some others = record { at = λ place h. contains_place-with_places some others place ∙ or_left (contains_place some place) (contains_place others place) h }

HasAll-second : (some others : List Place) → HasAll others (with_places some others)
HasAll-second some others = record { at = λ place h. contains_place-with_places some others place ∙ or_right (contains_place some place) (contains_place others place) h }

or_some : (a b : Option Packet) (packet : Packet) → a ≡ Some packet → option_or a b ≡ Some packet
or_some a b packet e = ap (λ o. option_or o b) e

HoldsAll-with_packet : (held : List (ℕ × Packet)) (number : ℕ) (packet : Packet) → HoldsAll held (with_packet held number packet)
HoldsAll-with_packet held number packet = record { at = λ other one h. packet_at-with_packet held number packet other ∙ or_some _ _ one h }

HoldsAll-first : (some others : List (ℕ × Packet)) → HoldsAll some (with_packets some others)
HoldsAll-first some others = record { at = λ number packet h. packet_at-with_packets some others number ∙ or_some _ _ packet h }

IsWithin-hold_at : (part : PartValue) (number : Option ℕ) (packet : Packet) → IsWithin part (hold_at part number packet)
unfolding hold_at
IsWithin-hold_at part None packet = IsWithin-refl part
IsWithin-hold_at part (Some number) packet =
    cond_both (number == 0) part (record part { held = with_packet part.held number packet }) (IsWithin part)
    (λ e. IsWithin-refl part)
    (λ some. record { epoch = refl; shard = refl; held = HoldsAll-with_packet part.held number packet; temp = HasAll-refl part.temp; fnd = HasAll-refl part.fnd; perm = HasAll-refl part.perm })

pub IsWithin-hold : (part : PartValue) (packet : Packet) → IsWithin part (hold part packet)
unfolding hold
IsWithin-hold part packet = IsWithin-hold_at part (number_in packet.stamp.places part.shard) packet

pub IsWithin-mark_temp : (part : PartValue) (place : Place) → IsWithin part (mark_temp part place)
unfolding mark_temp
IsWithin-mark_temp part place = record { epoch = refl; shard = refl; held = HoldsAll-refl part.held; temp = HasAll-with_place part.temp place; fnd = HasAll-refl part.fnd; perm = HasAll-refl part.perm }

pub IsWithin-mark_found : (part : PartValue) (stamp : Stamp) → IsWithin part (mark_found part stamp)
unfolding mark_found
IsWithin-mark_found part stamp = record { epoch = refl; shard = refl; held = HoldsAll-refl part.held; temp = HasAll-refl part.temp; fnd = HasAll-first part.fnd (places_of stamp); perm = HasAll-refl part.perm }

pub IsWithin-mark_dropped : (part : PartValue) (place : Place) → IsWithin part (mark_dropped part place)
unfolding mark_dropped
IsWithin-mark_dropped part place = record { epoch = refl; shard = refl; held = HoldsAll-refl part.held; temp = HasAll-refl part.temp; fnd = HasAll-refl part.fnd; perm = HasAll-with_place part.perm place }

-- a merge has all that the first part has
pub IsWithin-merge : (some other : PartValue) → IsWithin some (merge some other)
unfolding merge
IsWithin-merge some other = record {
  epoch = refl;
  shard = refl;
  held = HoldsAll-first some.held other.held;
  temp = HasAll-first some.temp other.temp;
  fnd = HasAll-first some.fnd other.fnd;
  perm = HasAll-first some.perm other.perm;
}

second_some : (a : Option Packet) (b : Option Packet) (packet : Packet) → b ≡ Some packet → ((one another : Packet) → a ≡ Some one → b ≡ Some another → one ≡ another) → option_or a b ≡ Some packet
second_some None b packet e agree = e
second_some (Some one) b packet e agree = ap Some (agree one packet refl e)

-- and all that the second has, where the two agree
pub IsWithin-merge_second : (some other : PartValue) → OfOneShard some other → Agree some other → IsWithin other (merge some other)
unfolding merge
IsWithin-merge_second some other one agree = record {
  epoch = sym one.epoch;
  shard = sym one.shard;
  held = record { at = λ number packet h. packet_at-with_packets some.held other.held number ∙ second_some _ _ packet h (agree.at number) };
  temp = HasAll-second some.temp other.temp;
  fnd = HasAll-second some.fnd other.fnd;
  perm = HasAll-second some.perm other.perm;
}

some_or : (a b : Option Packet) → is_some (option_or a b) ≡ (is_some a || is_some b)
some_or None b = refl
some_or (Some packet) b = refl

-- a number is held by a merge exactly where one of the two holds it, whether they agree or not
pub is_held-merge : (some other : PartValue) (number : ℕ) → is_some (packet_at (merge some other).held number) ≡ (is_some (packet_at some.held number) || is_some (packet_at other.held number))
unfolding merge
is_held-merge some other number = ap is_some (packet_at-with_packets some.held other.held number) ∙ some_or (packet_at some.held number) (packet_at other.held number)

-- places that either part has, a merge has
pub HasAll-merge_temp : (some other : PartValue) → HasAll other.temp (merge some other).temp
unfolding merge
HasAll-merge_temp some other = HasAll-second some.temp other.temp

pub HasAll-merge_fnd : (some other : PartValue) → HasAll other.fnd (merge some other).fnd
unfolding merge
HasAll-merge_fnd some other = HasAll-second some.fnd other.fnd

pub HasAll-merge_perm : (some other : PartValue) → HasAll other.perm (merge some other).perm
unfolding merge
HasAll-merge_perm some other = HasAll-second some.perm other.perm

-- what can be merged with two others can be merged with one after the other
pub merges_again : (some other more : PartValue) → OfOneShard some other → OfOneShard some more → OfOneShard (merge some other) more
unfolding merge
merges_again some other more one two = record { epoch = two.epoch; shard = two.shard }

pub ruleset part_rules = (IsUnion-merge, IsPart-merge)
