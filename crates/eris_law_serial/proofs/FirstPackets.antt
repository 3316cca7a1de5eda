-- The lines of an order in plain words: there is one for each id whose own packet stands in the order, in the order
-- of the first own packets, and its outcome is what that packet and the first conclusory packet say. Used by nothing
-- here: it says what the definition comes to.
use Rattle.std.proofs.Common.{◌≡◌, Bool, true, false, ◌||◌, Option, Some, is_some, List, [], ◌∷◌, ◌++◌, refl, ap, sym, ◌∙◌, ◌⊎◌, inl, inr}
use Rattle.std.proofs.lemmas.Bool.{both_ways, cases_Bool, cond-false, cond-true, or_cases, or_from}
use Rattle.std.specs.Prelude.{IsFalse, ⊤}
use Rattle.eris_base.specs.declared.ids.TxnId.{TxnId}
use Rattle.eris_base.specs.Each.{Each, EachAfter}
use Rattle.eris_base.specs.TxnIds.{is_among, same_id}
use Rattle.eris_base.proofs.TxnIdLaws.{same_id-apart, same_id-from, same_id-true}
use Rattle.eris_base.proofs.Booleans.{or_none}
use Rattle.eris_txn.specs.declared.answer.Answer.{Answer}
use Rattle.eris_txn.specs.declared.body.Body.{Body}
use Rattle.eris_txn.specs.declared.body.Body.TheVariants.{Abort, Commit, Independent, Prelim}
use Rattle.eris_txn.specs.declared.packet.Packet.{Packet}
use Rattle.eris_locks.specs.ShardRun.{outcome_by}
use Rattle.eris_locks.specs.States.{is_conclusory}
use Rattle.eris_audit.specs.Lines.{StandsOnce, has_line, outcome_in}
use Rattle.eris_order.specs.Orders.{lines, lines_from, outcome_at, outcome_of}
use Rattle.eris_serial.specs.Evidence.{HasOwn}
use Rattle.eris_law_serial.proofs.LineSteps.{by_packet}
use Rattle.eris_law_serial.proofs.OrderLines.{each_line, has_its_line, outcome-own}

-- a line is of an own packet
own_of_line : (id : TxnId) (packets : List Packet) (seen decided : List TxnId) → has_line (lines_from seen decided packets) id ≡ true → HasOwn id packets
own_of_line id [] seen decided = λ has. absurd (both_ways _ refl has)
own_of_line id (packet ∷ packets) seen decided = by_packet (λ some. has_line some id ≡ true → HasOwn id (packet ∷ packets)) seen decided packet packets
    (λ concludes has. inr (own_of_line id packets seen (packet.id ∷ decided) has))
    (λ own again has. inr (own_of_line id packets seen decided has))
    (λ own new has. by_place own (λ there. own_of_line id packets (packet.id ∷ seen) decided there) (or_cases _ _ has))
  where
    by_place : is_conclusory packet.body ≡ false → (has_line (lines_from (packet.id ∷ seen) decided packets) id ≡ true → HasOwn id packets)
        → ((same_id packet.id id ≡ true) ⊎ (has_line (lines_from (packet.id ∷ seen) decided packets) id ≡ true)) → HasOwn id (packet ∷ packets)
    by_place own rest (inl is) = inl (same_id-true packet.id id is, own)
    by_place own rest (inr later) = inr (rest later)

pub line_is_own : (order : List Packet) (id : TxnId) → has_line (lines order) id ≡ true → HasOwn id order
line_is_own order id = own_of_line id order [] []

pub own_has_line : (order : List Packet) (id : TxnId) → HasOwn id order → has_line (lines order) id ≡ true
own_has_line order id has = has_its_line id order [] [] has refl

no_property : (packets : List Packet) → Each (λ packet. ⊤) packets
no_property [] = tt
no_property (packet ∷ packets) = (tt, no_property packets)

-- no id has two
pub lines_once : (order : List Packet) → EachAfter StandsOnce [] (lines order)
lines_once order = each_line StandsOnce (λ packet. ⊤) (λ before packet decided later new any own. new) order [] [] [] (λ id unseen. refl) (no_property order)

-- decided before, or in front
still_decided : (body : Body) (here before : Bool) (later : Option Answer) → is_conclusory body ≡ true → ((here || before) || is_some later) ≡ (before || is_some (outcome_by body here later))
still_decided (Independent ops) here before later concludes = absurd (both_ways _ refl concludes)
still_decided (Prelim locks) here before later concludes = absurd (both_ways _ refl concludes)
still_decided (Commit keys writes) true true later concludes = refl
still_decided (Commit keys writes) true false later concludes = refl
still_decided (Commit keys writes) false before later concludes = refl
still_decided (Abort keys) true true later concludes = refl
still_decided (Abort keys) true false later concludes = refl
still_decided (Abort keys) false before later concludes = refl

outcome_from_place : (front after : List Packet) (packet : Packet) (seen decided : List TxnId) → (HasOwn packet.id front → ⊥) → is_conclusory packet.body ≡ false → is_among packet.id seen ≡ false
    → outcome_in (lines_from seen decided (front ++ packet ∷ after)) packet.id
    ≡ Some (outcome_of packet.body (is_among packet.id decided || is_some (outcome_at packet.id front)) (outcome_at packet.id after))
outcome_from_place [] after packet seen decided first own new =
    by_packet (λ some. outcome_in some packet.id ≡ Some (outcome_of packet.body (is_among packet.id decided || false) (outcome_at packet.id after))) seen decided packet after
    (λ concludes. absurd (both_ways _ own concludes)) (λ own' again. absurd (both_ways _ new again))
    (λ own' new'. cond-true _ _ _ (same_id-from packet.id packet.id refl) ∙ ap (λ test. Some (outcome_of packet.body test (outcome_at packet.id after))) (sym (or_none (is_among packet.id decided))))
outcome_from_place (other ∷ front) after packet seen decided first own new =
    by_packet (λ some. outcome_in some packet.id ≡ Some (outcome_of packet.body (is_among packet.id decided || is_some (outcome_at packet.id (other ∷ front))) (outcome_at packet.id after))) seen decided other (front ++ packet ∷ after)
    (λ concludes. outcome_from_place front after packet seen (other.id ∷ decided) (λ has. first (inr has)) own new
    ∙ ap (λ test. Some (outcome_of packet.body test (outcome_at packet.id after))) (still_decided other.body (same_id packet.id other.id) (is_among packet.id decided) (outcome_at packet.id front) concludes))
    (λ other_own again. outcome_from_place front after packet seen decided (λ has. first (inr has)) own new ∙ passed other_own)
    (λ other_own unseen. cond-false _ _ _ (same_id-apart packet.id other.id (apart other_own (cases_Bool (same_id packet.id other.id))))
    ∙ (outcome_from_place front after packet (other.id ∷ seen) decided (λ has. first (inr has)) own (or_from _ _ (apart other_own (cases_Bool (same_id packet.id other.id))) new) ∙ passed other_own))
  where
    passed : is_conclusory other.body ≡ false
        → Some (outcome_of packet.body (is_among packet.id decided || is_some (outcome_at packet.id front)) (outcome_at packet.id after))
        ≡ Some (outcome_of packet.body (is_among packet.id decided || is_some (outcome_at packet.id (other ∷ front))) (outcome_at packet.id after))
    passed other_own =
        ap (λ said. Some (outcome_of packet.body (is_among packet.id decided || is_some said) (outcome_at packet.id after)))
        (sym (outcome-own other.body (same_id packet.id other.id) (outcome_at packet.id front) other_own))

    apart : is_conclusory other.body ≡ false → ((same_id packet.id other.id ≡ true) ⊎ (same_id packet.id other.id ≡ false)) → same_id packet.id other.id ≡ false
    apart other_own (inl same) = absurd (first (inl (sym (same_id-true packet.id other.id same), other_own)))
    apart other_own (inr not_same) = not_same

-- THE OUTCOME OF A LINE, at the first own packet of its id
pub first_outcome : (front after : List Packet) (packet : Packet) → (HasOwn packet.id front → ⊥) → IsFalse (is_conclusory packet.body)
    → outcome_in (lines (front ++ packet ∷ after)) packet.id ≡ Some (outcome_of packet.body (is_some (outcome_at packet.id front)) (outcome_at packet.id after))
first_outcome front after packet first own = outcome_from_place front after packet [] [] first own refl
