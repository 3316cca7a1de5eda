use Rattle.std.specs.Prelude.{◌≡◌, ◌≤◌, true, false, length}
use Rattle.eris_txn.specs.PlanFaults.{repeats, sets_twice, all_locked}
use Rattle.eris_txn.specs.PlanValues.{PlanValue}

-- the facts that a plan keeps
pub record IsPlan (plan : PlanValue) : Type 0 where
  pub some_key : 1 ≤ length plan.keys
  pub few_keys : length plan.keys ≤ 32
  pub few_guards : length plan.guards ≤ 32
  pub locks_once : repeats plan.keys ≡ false
  pub sets_once : sets_twice plan.settings ≡ false
  pub names_locked : all_locked plan.keys plan.guards plan.settings ≡ true
