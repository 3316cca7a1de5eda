-- From the order of stamping to the rule of real time: where what was answered before a submit stands in front of
-- what is submitted, the order's lines stand so too. Two forms: a beginning of the order that has the one and not the
-- other, and a sorted order. Used by a protocol.
use Rattle.std.proofs.Common.{◌≡◌, Bool, false, List, [], ◌∷◌, ◌++◌, refl, ap, sym, ◌∙◌, subst, append_assoc, ◌⊎◌, inl, inr}
use Rattle.std.specs.Prelude.{IsTrue}
use Rattle.eris_base.specs.declared.ids.TxnId.{TxnId}
use Rattle.eris_base.specs.Each.{Each, EachAfter}
use Rattle.eris_txn.specs.declared.history.HistoryEvent.{HistoryEvent}
use Rattle.eris_txn.specs.declared.history.HistoryEvent.TheVariants.{Submit, Read, Answer as Answered, Told}
use Rattle.eris_txn.specs.declared.packet.Packet.{Packet}
use Rattle.eris_txn.specs.declared.txn.Txn.{Txn}
use Rattle.eris_locks.specs.States.{is_conclusory}
use Rattle.eris_audit.proofs.Places.{Each-from, EachAfter-from}
use Rattle.eris_serial.specs.Evidence.{AnsweredFirst, HasOwn, IsIn, StandsBehind, SubmittedLater}
use Rattle.eris_serial.specs.Times.{EachAnswerFirst, IsOneWay, IsOrderedBy, IsOwn}

-- AN OWN PACKET
pub own_there : (id : TxnId) (packets : List Packet) (packet : Packet) → IsIn packet packets → IsOwn id packet → HasOwn id packets
own_there id [] packet there own = absurd there
own_there id (other ∷ packets) packet (inl same) own = inl (ap (λ (p : Packet). p.id) same ∙ own.of_id, ap (λ (p : Packet). is_conclusory p.body) same ∙ own.own)
own_there id (other ∷ packets) packet (inr there) own = inr (own_there id packets packet there own)

pub own_packet : (id : TxnId) (packets : List Packet) → HasOwn id packets → (packet : Packet) × IsIn packet packets × IsOwn id packet
own_packet id [] has = absurd has
own_packet id (packet ∷ packets) (inl here) = (packet, inl refl, record { of_id = here.0; own = here.1 })
own_packet id (packet ∷ packets) (inr later) =
    let found = own_packet id packets later in
    (found.0, inr found.1, found.2)

-- FROM THE ORDER OF STAMPING: where a beginning of the order has an own packet of the first id and none of the second,
-- the second stands behind the first
pub behind_old : (first second : TxnId) (old new : List Packet) → HasOwn first old → Each (λ packet. IsOwn second packet → ⊥) old → StandsBehind (old ++ new) first second
behind_old first second [] new has none front after packet split is own = absurd has
behind_old first second (other ∷ old) new has none [] after packet split is own =
    let same : other ≡ packet = cc in
    absurd (none.0 (record { of_id = ap (λ (p : Packet). p.id) same ∙ is; own = ap (λ (p : Packet). is_conclusory p.body) same ∙ own }))
behind_old first second (other ∷ old) new has none (before ∷ front) after packet split is own =
    let same : other ≡ before = cc in
    let rest : old ++ new ≡ front ++ packet ∷ after = cc in
    by_place same has (λ later. behind_old first second old new later none.1 front after packet rest is own)
  where
    by_place : other ≡ before → HasOwn first (other ∷ old) → (HasOwn first old → HasOwn first front) → HasOwn first (before ∷ front)
    by_place same (inl here) go = inl (subst (λ (p : Packet). (p.id ≡ first) × (is_conclusory p.body ≡ false)) same here)
    by_place same (inr later) go = inr (go later)

-- or where the order is sorted, and an own packet of the first id is below each one of the second
module _ {X : Type 0} (below_test : X → X → Bool) (apart : IsOneWay below_test) where
  in_part : (front after : List X) (item other : X) → IsIn other (front ++ item ∷ after) → IsIn other front ⊎ IsIn other (item ∷ after)
  in_part [] after item other there = inr there
  in_part (first ∷ front) after item other (inl is) = inl (inl is)
  in_part (first ∷ front) after item other (inr there) = by_part (in_part front after item other there)
    where
      by_part : (IsIn other front ⊎ IsIn other (item ∷ after)) → IsIn other (first ∷ front) ⊎ IsIn other (item ∷ after)
      by_part (inl before) = inl (inr before)
      by_part (inr behind) = inr behind

  sorted_rest : (front rest : List X) → IsOrderedBy below_test (front ++ rest) → IsOrderedBy below_test rest
  sorted_rest [] rest sorted = sorted
  sorted_rest (first ∷ front) rest sorted = sorted_rest front rest sorted.1

  -- in a sorted list what is below an item stands before it
  pub below_in_front : (front after : List X) (item other : X) → IsOrderedBy below_test (front ++ item ∷ after) → IsIn other (front ++ item ∷ after) → IsTrue (below_test other item) → IsIn other front
  below_in_front front after item other sorted there below = by_part (in_part front after item other there)
    where
      by_part : (IsIn other front ⊎ IsIn other (item ∷ after)) → IsIn other front
      by_part (inl before) = before
      by_part (inr (inl is)) =
          let self = subst (λ x. IsTrue (below_test x item)) (sym is) below in
          absurd (apart item item self self)
      by_part (inr (inr behind)) = absurd (apart other item below ((sorted_rest front (item ∷ after) sorted).0 other behind))

pub behind_below : (below_test : Packet → Packet → Bool) → IsOneWay below_test → (order : List Packet) → IsOrderedBy below_test order → (first second : TxnId) (packet : Packet) → IsIn packet order → IsOwn first packet
    → ((other : Packet) → IsIn other order → IsOwn second other → IsTrue (below_test packet other)) → StandsBehind order first second
behind_below below_test apart order ordered first second packet there own below front after other split same other_own =
    own_there first front packet
    (below_in_front below_test apart front after other packet (subst (IsOrderedBy below_test) split ordered) (subst (IsIn packet) split there)
    (below other (subst (IsIn other) (sym split) (stands_there front after other)) (record { of_id = same; own = other_own }))) own
  where
    stands_there : (front after : List Packet) (item : Packet) → IsIn item (front ++ item ∷ after)
    stands_there [] after item = inl refl
    stands_there (p ∷ front) after item = inr (stands_there front after item)

-- RULE 4's PREMISE, from each answer and each submit behind it
pub later_from : (history : List HistoryEvent) (order : List Packet) → EachAnswerFirst history order → EachAfter (SubmittedLater order) [] history
later_from history order first = EachAfter-from (SubmittedLater order) [] history at_event
  where
    at_answer : (front back : List HistoryEvent) (submitted : TxnId) (txn : Txn) → history ≡ front ++ Submit submitted txn ∷ back
        → (before between : List HistoryEvent) (event : HistoryEvent) → front ≡ before ++ event ∷ between → AnsweredFirst order submitted event
    at_answer front back submitted txn split before between (Answered answered answer) inner =
        first before between back answered submitted answer txn
        (split ∙ (ap (λ l. l ++ Submit submitted txn ∷ back) inner ∙ append_assoc before (Answered answered answer ∷ between) (Submit submitted txn ∷ back)))
    at_answer front back submitted txn split before between (Submit id other) inner = tt
    at_answer front back submitted txn split before between (Read id values) inner = tt
    at_answer front back submitted txn split before between (Told asker id answer) inner = tt

    at_event : (front back : List HistoryEvent) (event : HistoryEvent) → history ≡ front ++ event ∷ back → SubmittedLater order front event
    at_event front back (Submit id txn) split = Each-from (AnsweredFirst order id) front (at_answer front back id txn split)
    at_event front back (Read id values) split = tt
    at_event front back (Answered id answer) split = tt
    at_event front back (Told asker id answer) split = tt
