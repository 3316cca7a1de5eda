use Rattle.std.specs.Prelude.{List}
use Rattle.eris_txn.specs.declared.key.Key.{Key}
use Rattle.eris_txn.specs.declared.plan.Guard.{Guard}
use Rattle.eris_txn.specs.declared.plan.Setting.{Setting}

-- what a general transaction locks and reads, what decides whether it commits, and what it then sets
pub record PlanValue : Type 0 where
  pub keys : List Key
  pub guards : List Guard
  pub settings : List Setting
