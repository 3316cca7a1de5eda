-- The events of an id after one more event. Used where a client's history is cut to one transaction.
use Rattle.std.proofs.Common.{◌≡◌, Bool, true, false, cond, Option, Some, None, List, [], ◌∷◌, ◌++◌, refl, ap, sym, ◌∙◌, append-nil, inl, inr}
use Rattle.std.specs.Prelude.{⊤}
use Rattle.std.proofs.lemmas.List.Elements.{filter-append}
use Rattle.eris_base.specs.declared.ids.TxnId.{TxnId}
use Rattle.eris_base.specs.TxnIds.{same_id}
use Rattle.eris_base.proofs.TxnIdLaws.{same_id-from, same_id-refl}
use Rattle.eris_txn.specs.declared.history.HistoryEvent.{HistoryEvent}
use Rattle.eris_txn.specs.declared.history.HistoryEvent.TheVariants.{Submit, Read, Answer as Answered, Told}
use Rattle.eris_txn.specs.declared.txn.Txn.{Txn}
use Rattle.eris_audit.specs.Histories.{first_submit}
use Rattle.eris_rules.specs.Worlds.{with_event}
use Rattle.eris_serial.specs.Evidence.{IsIn}
use Rattle.eris_law_client.specs.Courses.{events_of, id_of}

-- a step's event, where it has one, is of this id
abbrev pub IsEventOf : TxnId → Option HistoryEvent → Type 0
IsEventOf id None = ⊤
IsEventOf id (Some event) = id_of event ≡ id

of_id : TxnId → HistoryEvent → Bool
of_id id event = same_id (id_of event) id

-- one more event of an id
pub events-own : (id : TxnId) (history : List HistoryEvent) (event : HistoryEvent) → id_of event ≡ id → events_of id (history ++ event ∷ []) ≡ events_of id history ++ event ∷ []
events-own id history event is =
    filter-append (λ (e : HistoryEvent). same_id (id_of e) id) history (event ∷ [])
    ∙ ap (λ (test : Bool). events_of id history ++ cond test (event ∷ []) []) (same_id-from (id_of event) id is)

-- an event of another id
pub events-other : (id other : TxnId) (history : List HistoryEvent) (event : Option HistoryEvent) → IsEventOf id event → same_id id other ≡ false → events_of other (with_event history event) ≡ events_of other history
events-other id other history None is apart = refl
events-other id other history (Some event) is apart =
    filter-append (λ (e : HistoryEvent). same_id (id_of e) other) history (event ∷ [])
    ∙ (ap (λ (test : Bool). events_of other history ++ cond test (event ∷ []) []) (ap (λ (one : TxnId). same_id one other) is ∙ apart) ∙ append-nil (events_of other history))

-- ---- what the events of an id say of the history
-- an event of an id stands in the history
pub event_there : (id : TxnId) (history : List HistoryEvent) (event : HistoryEvent) → IsIn event (events_of id history) → IsIn event history
event_there id [] event there = there
event_there id (other ∷ history) event there = by_test (same_id (id_of other) id) there (event_there id history event)
  where
    by_test : (test : Bool) → IsIn event (cond test (other ∷ events_of id history) (events_of id history)) → (IsIn event (events_of id history) → IsIn event history) → IsIn event (other ∷ history)
    by_test true (inl is) rest = inl is
    by_test true (inr behind) rest = inr (rest behind)
    by_test false behind rest = inr (rest behind)

-- the first submit of an id is that of its events
first_of_events : (id : TxnId) (history : List HistoryEvent) → first_submit history id ≡ first_submit (events_of id history) id
first_of_events id [] = refl
first_of_events id (Submit other txn ∷ history) = by_test (same_id other id) refl (first_of_events id history)
  where
    by_test : (test : Bool) → same_id other id ≡ test → first_submit history id ≡ first_submit (events_of id history) id
        → cond test (Some txn) (first_submit history id) ≡ first_submit (cond test (Submit other txn ∷ events_of id history) (events_of id history)) id
    by_test true same rest = ap (λ (t : Bool). cond t (Some txn) (first_submit (events_of id history) id)) (sym same)
    by_test false apart rest = rest
first_of_events id (Read other values ∷ history) = by_test (same_id other id) (first_of_events id history)
  where
    by_test : (test : Bool) → first_submit history id ≡ first_submit (events_of id history) id → first_submit history id ≡ first_submit (cond test (Read other values ∷ events_of id history) (events_of id history)) id
    by_test true rest = rest
    by_test false rest = rest
first_of_events id (Answered other answer ∷ history) = by_test (same_id other id) (first_of_events id history)
  where
    by_test : (test : Bool) → first_submit history id ≡ first_submit (events_of id history) id → first_submit history id ≡ first_submit (cond test (Answered other answer ∷ events_of id history) (events_of id history)) id
    by_test true rest = rest
    by_test false rest = rest
first_of_events id (Told asker other answer ∷ history) = by_test (same_id other id) (first_of_events id history)
  where
    by_test : (test : Bool) → first_submit history id ≡ first_submit (events_of id history) id → first_submit history id ≡ first_submit (cond test (Told asker other answer ∷ events_of id history) (events_of id history)) id
    by_test true rest = rest
    by_test false rest = rest

-- and so is its transaction
pub txn_by_events : (id : TxnId) (history events : List HistoryEvent) (txn : Txn) → events_of id history ≡ Submit id txn ∷ events → first_submit history id ≡ Some txn
txn_by_events id history events txn are =
    first_of_events id history ∙ (ap (λ (l : List HistoryEvent). first_submit l id) are ∙ ap (λ (t : Bool). cond t (Some txn) (first_submit events id)) (same_id-refl id))
