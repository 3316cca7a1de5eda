use Rattle.std.specs.Prelude.{Bool}
use Rattle.eris_txn.specs.PlanValues.{PlanValue}

-- a general transaction under way, and whether its second half was made
pub record PendingValue : Type 0 where
  pub plan : PlanValue
  pub called : Bool
