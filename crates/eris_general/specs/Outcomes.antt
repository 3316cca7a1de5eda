use Rattle.std.specs.Prelude.{Bool, true, false, List, if◌then◌else◌}
use Rattle.std.specs.List.{list_any}
use Rattle.eris_txn.specs.declared.answer.Answer.{Answer}
use Rattle.eris_txn.specs.declared.answer.Answer.TheVariants.{Ops, Values, Committed, Aborted}
use Rattle.eris_txn.specs.declared.body.Body.{Body}
use Rattle.eris_txn.specs.declared.body.Body.TheVariants.{Commit, Abort}
use Rattle.eris_txn.specs.Keys as keys
use Rattle.eris_txn.specs.PlanValues.{PlanValue}
use Rattle.eris_txn.specs.Plans.{guards_hold, writes_from}

-- the second half of a plan whose keys have these values: it commits exactly where the guards hold
abbrev pub conclusion_of : PlanValue → keys.Values → Body
conclusion_of plan values =
    if guards_hold plan.guards values then Commit plan.keys (writes_from plan.settings values) else Abort plan.keys

abbrev pub is_aborted : Answer → Bool
is_aborted (Ops answers) = false
is_aborted (Values values) = false
is_aborted Committed = false
is_aborted Aborted = true

-- aborted exactly where some shard answers so
abbrev pub outcome_of : List Answer → Answer
outcome_of answers = if list_any is_aborted answers then Aborted else Committed
