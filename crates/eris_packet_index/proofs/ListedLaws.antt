-- One more packet's first place is noted; and a packet that is found at a number of the list stands in it.
use Rattle.std.proofs.Common.{◌≡◌, ◌<◌, ◌≤◌, ◌+◌, ◌||◌, ℕ, Bool, true, false, cond, Option, Some, None, List, [], ◌∷◌, drop, length, get_or, refl, ap, sym, ◌∙◌}
use Rattle.std.specs.Ordering.{is_eq}
use Rattle.std.specs.BTreeMap.{is_at}
use Rattle.std.proofs.lemmas.Cmp.{tied_itself}
use Rattle.std.proofs.lemmas.List.{drop_all, drop_more}
use Rattle.std.proofs.lemmas.List.Folds.{list_any_at}
use Rattle.eris_base.specs.declared.ids.Place.{Place}
use Rattle.eris_txn.specs.declared.packet.Packet.{Packet}
use Rattle.eris_log.specs.Places.{place_cmp}
use Rattle.eris_log.specs.Laws.Places.{place_cmp-total}
use Rattle.eris_epoch.proofs.SameLaws.{same_packet-true, same_packet-refl}
use Rattle.eris_epoch.specs.SamePackets.{is_listed, same_packet}
use Rattle.eris_packet_index.specs.FirstPlaces.{LeavesToRest, at_first, first_place}

pub stands_listed : (packets : List Packet) (at : ℕ) (packet other : Packet) → at < length packets → other ≡ get_or packets at other → packet ≡ other → is_listed packets packet ≡ true
unfolding is_listed
stands_listed packets at packet other few found same =
    list_any_at (λ (it : Packet). same_packet packet it) packets at other few
    (ap (λ (it : Packet). same_packet packet it) (sym found ∙ sym same) ∙ same_packet-refl packet)

-- a packet isn't in a list whose first one is another, where it isn't behind it
passed : (packet item : Packet) (rest : List Packet) → same_packet packet item ≡ false → is_listed (item ∷ rest) packet ≡ is_listed rest packet
unfolding is_listed
passed packet item rest apart = ap (λ (t : Bool). t || is_listed rest packet) apart

-- nothing was there before
none_before : (t : Bool) (at : ℕ) (before : Option ℕ) → cond t (Some at) before ≡ None → before ≡ None
none_before true at before none = cc
none_before false at before none = none

pub noted_on : (packets : List Packet) (at : ℕ) (item : Packet) (old new : List (Place × ℕ)) (place : Place) → at < length packets
    → item ≡ get_or packets at item → place ≡ first_place item.stamp
    → ((other : Place) → at_first new other ≡ cond (is_at (place_cmp place) other) (Some at) (at_first old other))
    → LeavesToRest old packets (drop at packets) → LeavesToRest new packets (drop (at + 1) packets)
noted_on packets at item old new place few is named updates before packet none =
    before packet (none_before (is_at (place_cmp place) (first_place packet.stamp)) at (at_first old (first_place packet.stamp)) (sym (updates (first_place packet.stamp)) ∙ none))
    ∙ ap (λ (rest : List Packet). is_listed rest packet) (drop_more packets at item few ∙ ap (λ (one : Packet). one ∷ drop (at + 1) packets) (sym is))
    ∙ passed packet item (drop (at + 1) packets) (by_test (same_packet packet item) refl)
  where
    here : at_first new place ≡ Some at
    here = updates place ∙ ap (λ t. cond (is_eq t) (Some at) (at_first old place)) (tied_itself place_cmp-total place)

    by_test : (t : Bool) → same_packet packet item ≡ t → t ≡ false
    by_test false same = refl
    by_test true same =
        let there : at_first new (first_place packet.stamp) ≡ Some at =
        ap (λ (it : Packet). at_first new (first_place it.stamp)) (same_packet-true packet item same) ∙ ap (at_first new) (sym named) ∙ here in
        let clash : None ≡ Some at = sym none ∙ there in
        cc

-- at the list's end each packet whose first place isn't noted isn't listed
pub none_left : (packets : List Packet) (at : ℕ) (packet : Packet) → length packets ≤ at → is_listed packets packet ≡ is_listed (drop at packets) packet → is_listed packets packet ≡ false
unfolding is_listed
none_left packets at packet many same = same ∙ ap (λ (rest : List Packet). is_listed rest packet) (drop_all at packets many)
