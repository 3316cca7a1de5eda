use Rattle.std.specs.Prelude.{Bool, true, Option, Some, None, List, [], ◌∷◌, map, if◌then◌else◌}
use Rattle.eris_base.specs.declared.ids.TxnId.{TxnId}
use Rattle.eris_txn.specs.declared.answer.Answer.{Answer}
use Rattle.eris_txn.specs.declared.plan.Guard.{Guard}
use Rattle.eris_txn.specs.declared.txn.Txn.{Txn}
use Rattle.eris_txn.specs.declared.txn.Txn.TheVariants.{Whole, General}
use Rattle.eris_txn.specs.Keys.{Values}
use Rattle.eris_txn.specs.Operations.{after_all, answers}
use Rattle.eris_txn.specs.Plans.{guards_hold, settled}
use Rattle.eris_audit.specs.declared.outcome.Outcome.{Outcome}
use Rattle.eris_audit.specs.Lines.{Line}
use Rattle.eris_base.specs.TxnIds.{same_id}

-- a transaction's result at a map of values: the answers of its operations, or the values of its keys
abbrev pub result_of : Txn → Values → Answer
result_of (Whole operations) values = Answer.Ops (answers operations values)
result_of (General plan) values = Answer.Values (map values plan.keys)

-- the guards that must hold where it commits
abbrev pub guards_of : Txn → List Guard
guards_of (Whole operations) = []
guards_of (General plan) = plan.guards

-- the map that it leaves: operations are always executed, settings are made by a commit alone
abbrev pub left_by_txn : Txn → Outcome → Values → Values
left_by_txn (Whole operations) outcome values = after_all operations values
left_by_txn (General plan) Outcome.Committed values = settled plan.settings values
left_by_txn (General plan) outcome values = values

-- whether it may stand at a map with its outcome: a commit asks that the guards hold
abbrev pub may_stand : Txn → Outcome → Values → Bool
may_stand (Whole operations) outcome values = true
may_stand (General plan) Outcome.Committed values = guards_hold plan.guards values
may_stand (General plan) outcome values = true

-- one step of the serial run: its result, or None where it may not stand there
abbrev pub step_result : Txn → Outcome → Values → Option Answer
step_result txn outcome values = if may_stand txn outcome values then Some (result_of txn values) else None

-- and the map after it, which is the one before where it may not stand there
abbrev pub left_by_step : Txn → Outcome → Values → Values
left_by_step txn outcome values = if may_stand txn outcome values then left_by_txn txn outcome values else values

-- The serial run goes over the lines, one transaction after another: the map that it leaves
abbrev pub values_after : (TxnId → Txn) → List Line → Values → Values
values_after txn [] values = values
values_after txn (line ∷ lines) values = values_after txn lines (left_by_txn (txn line.id) line.outcome values)

-- the result that the serial run has for an id
abbrev pub result_in : (TxnId → Txn) → List Line → Values → TxnId → Option Answer
result_in txn [] values id = None
result_in txn (line ∷ lines) values id =
    if same_id line.id id then Some (result_of (txn line.id) values)
    else result_in txn lines (left_by_txn (txn line.id) line.outcome values) id

-- the results of all lines, in order
abbrev pub results_of : (TxnId → Txn) → List Line → Values → List Answer
results_of txn [] values = []
results_of txn (line ∷ lines) values =
    result_of (txn line.id) values ∷ results_of txn lines (left_by_txn (txn line.id) line.outcome values)
