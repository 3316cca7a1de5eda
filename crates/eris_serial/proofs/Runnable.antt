-- A submitted transaction can be run, where each submit's can, as it can where it has its size; and a preliminary
-- speaks of its plan's keys. Used where evidence is made and where it is read.
use Rattle.std.proofs.Common.{◌≡◌, Bool, true, false, cond, Option, Some, None, is_some, unwrap_or, List, [], ◌∷◌, refl, ap, subst, inl, inr, ◌≤◌, is_none, length, arith}
use Rattle.std.proofs.lemmas.Bool.{both_ways}
use Rattle.std.specs.Prelude.{IsTrue}
use Rattle.eris_base.specs.declared.ids.TxnId.{TxnId}
use Rattle.eris_base.specs.Each.{Each}
use Rattle.eris_base.specs.TxnIds.{same_id}
use Rattle.eris_txn.specs.declared.body.Body.TheVariants.{Prelim}
use Rattle.eris_txn.specs.declared.history.HistoryEvent.{HistoryEvent}
use Rattle.eris_txn.specs.declared.history.HistoryEvent.TheVariants.{Submit, Read, Answer as Answered, Told}
use Rattle.eris_txn.specs.declared.txn.Txn.{Txn}
use Rattle.eris_txn.specs.declared.txn.Txn.TheVariants.{Whole, General}
use Rattle.eris_txn.specs.PlanValues.{PlanValue}
use Rattle.eris_txn.specs.Plans.{locks_of}
use Rattle.eris_audit.specs.Histories.{first_submit, is_submitted, txn_of}
use Rattle.eris_serial.specs.Evidence.{IsIn, SubmitsWell}
use Rattle.eris_serial.specs.Transactions.{CanRun, CanRunPlan, keys_in}
use Rattle.eris_txn.specs.declared.key.Key.{Key}
use Rattle.eris_txn.specs.declared.plan.PlanFault.{PlanFault}
use Rattle.eris_txn.specs.Bodies.{keys_of}
use Rattle.eris_txn.specs.PlanFaults.{plan_fault}
use Rattle.eris_txn.specs.Sizes.{event_has_size, txn_has_size}
use Rattle.eris_txn.proofs.PlanLaws.{IsPlan-no_fault, locked_keys}

-- a property of each item, of one that stands there
pub Each-in : {X : Type 0} (P : X → Type 0) (items : List X) (item : X) → Each P items → IsIn item items → P item
Each-in P [] item each there = absurd there
Each-in P (other ∷ items) item each (inl is) = subst P is each.0
Each-in P (other ∷ items) item each (inr there) = Each-in P items item each.1 there

pub Each-of : {X : Type 0} (P : X → Type 0) (items : List X) → ((item : X) → IsIn item items → P item) → Each P items
Each-of P [] all = tt
Each-of P (item ∷ items) all = (all item (inl refl), Each-of P items (λ other there. all other (inr there)))

-- a general transaction was submitted
general_submitted : (history : List HistoryEvent) (id : TxnId) (plan : PlanValue) → txn_of history id ≡ General plan → is_submitted history id ≡ true
general_submitted history id plan = by_first (first_submit history id)
  where
    by_first : (found : Option Txn) → unwrap_or found (Whole []) ≡ General plan → is_some found ≡ true
    by_first None is = cc
    by_first (Some txn) is = refl

-- a submitted transaction can be run
pub txn_can_run : (history : List HistoryEvent) (id : TxnId) → Each SubmitsWell history → is_submitted history id ≡ true → CanRun (txn_of history id)
txn_can_run [] id well submitted = absurd (both_ways _ refl submitted)
txn_can_run (Submit other txn ∷ history) id well submitted = by_test (same_id other id) submitted (txn_can_run history id well.1)
  where
    by_test : (test : Bool) → is_some (cond test (Some txn) (first_submit history id)) ≡ true → (is_submitted history id ≡ true → CanRun (txn_of history id))
        → CanRun (unwrap_or (cond test (Some txn) (first_submit history id)) (Whole []))
    by_test true there rest = well.0
    by_test false there rest = rest there
txn_can_run (Read other values ∷ history) id well submitted = txn_can_run history id well.1 submitted
txn_can_run (Answered other answer ∷ history) id well submitted = txn_can_run history id well.1 submitted
txn_can_run (Told asker other answer ∷ history) id well submitted = txn_can_run history id well.1 submitted

pub plan_can_run : (history : List HistoryEvent) (id : TxnId) (plan : PlanValue) → Each SubmitsWell history → txn_of history id ≡ General plan → CanRunPlan plan
plan_can_run history id plan well is = subst CanRun is (txn_can_run history id well (general_submitted history id plan is))

-- A TRANSACTION OF ITS SIZE CAN BE RUN
no_fault : (found : Option PlanFault) → is_none found ≡ true → found ≡ None
no_fault None none = refl
no_fault (Some fault) none = cc

some_key : (keys : List Key) → 1 ≤ length keys → keys ≡ [] → ⊥
some_key keys long is = absurd (omega (arith, long, ap (λ (l : List Key). length l) is))

pub sized_can_run : (txn : Txn) → IsTrue (txn_has_size txn) → CanRun txn
sized_can_run (Whole []) sized = absurd (both_ways _ refl sized)
sized_can_run (Whole (op ∷ ops)) sized = λ is. cc is
sized_can_run (General plan) sized =
    let facts = IsPlan-no_fault plan (no_fault (plan_fault plan.keys plan.guards plan.settings) sized) in
    record { some_key = some_key plan.keys facts.some_key; sets_once = facts.sets_once; names_locked = facts.names_locked }

pub sized_submits_well : (event : HistoryEvent) → IsTrue (event_has_size event) → SubmitsWell event
sized_submits_well (Submit id txn) sized = sized_can_run txn sized
sized_submits_well (Read id values) sized = tt
sized_submits_well (Answered id answer) sized = tt
sized_submits_well (Told asker id answer) sized = tt

pub prelim_keys : (plan : PlanValue) → keys_of (Prelim (locks_of plan)) ≡ keys_in (General plan)
prelim_keys plan = locked_keys plan.settings plan.keys
