use Rattle.std.specs.Prelude.{Option, Some, None, List, length, ◌==◌, nat_lt, if◌then◌else◌}
use Rattle.eris_txn.specs.declared.body.BodyFault.{BodyFault}
use Rattle.eris_txn.specs.declared.body.BodyFault.TheVariants.{Empty, TooMany}
use Rattle.eris_txn.specs.declared.op.Op.{Op}

-- why operations are no independent transaction
abbrev pub ops_fault : List Op → Option BodyFault
ops_fault ops = if length ops == 0 then Some Empty else if nat_lt 32 (length ops) then Some TooMany else None
