-- AN EVENT IN THE RANGES OF EVENTS submits what can be run.
use Rattle.std.proofs.Common.{◌≡◌, ℕ, Bool, true, false, ◌&&◌, nat_le, is_none, length, List, [], ◌∷◌, refl}
use Rattle.std.specs.List.{list_all}
use Rattle.std.proofs.lemmas.Bool.{and_parts, both_ways}
use Rattle.eris_txn.specs.declared.op.Op.{Op}
use Rattle.eris_txn.specs.declared.txn.Txn.TheVariants.{Whole, General}
use Rattle.eris_txn.specs.PlanFaults.{plan_fault}
use Rattle.eris_txn.specs.PlanValues.{PlanValue}
use Rattle.eris_serial.specs.Transactions.{CanRun}
use Rattle.eris_serial.proofs.Runnable.{sized_can_run}
use Rattle.eris_event.specs.declared.event.Event.{Event}
use Rattle.eris_event.specs.declared.event.Event.TheVariants as event
use Rattle.eris_event.specs.EventRanges.{fits_event, are_ops, most, fits_guard, fits_setting, is_plan, fits_client, fits_key}
use Rattle.eris_law_course.specs.Accepted.{IsEventFit}

ops_fit : (version : ℕ) (ops : List Op) → are_ops version ops ≡ true → CanRun (Whole ops)
ops_fit version [] h = absurd (both_ways _ refl h)
ops_fit version (op ∷ ops) h = λ is. cc is

plan_fits : (version : ℕ) (plan : PlanValue) → is_plan version plan ≡ true → CanRun (General plan)
plan_fits version plan h =
    sized_can_run (General plan) (last (list_all (fits_key version) plan.keys) (list_all (fits_guard version) plan.guards) (list_all (fits_setting version) plan.settings) (nat_le (length plan.keys) (most version)) (nat_le (length plan.guards) (most version)) (is_none (plan_fault plan.keys plan.guards plan.settings)) h)
  where
    last : (a b c d e f : Bool) → (a && b && c && d && e && f) ≡ true → f ≡ true
    last true true true true true true h = refl
    last true true true true true false h = cc
    last true true true true false f h = absurd (cc)
    last true true true false e f h = absurd (cc)
    last true true false d e f h = absurd (cc)
    last true false c d e f h = absurd (cc)
    last false b c d e f h = absurd (cc)

-- an event in the grammar's ranges
pub ranged_fits : (version : ℕ) (one : Event) → fits_event version one ≡ true → IsEventFit one
ranged_fits version (event.Submit to ops) h = ops_fit version ops (and_parts (fits_client to) (are_ops version ops) h).1
ranged_fits version (event.General to plan) h = plan_fits version plan (and_parts (fits_client to) (is_plan version plan) h).1
ranged_fits version (event.Retry to number) h = tt
ranged_fits version (event.Abort asker id) h = tt
ranged_fits version (event.Deliver packet epoch) h = tt
ranged_fits version event.Flow h = tt
ranged_fits version event.Lose h = tt
ranged_fits version (event.Probe s r) h = tt
ranged_fits version (event.Suspect s r) h = tt
ranged_fits version (event.Sync s r) h = tt
ranged_fits version (event.Crash s r) h = tt
ranged_fits version event.Nudge h = tt
ranged_fits version event.Replace h = tt
ranged_fits version (event.Noise node bytes) h = tt
