use mathlib.Core.Path.{fun_ext}
use Rattle.eris_txn.specs.Keys.{same_key}
use Rattle.eris_txn.proofs.values.KeyValues.put.Goals as goal

pub returns-clause-ok : goal.returns-clause-ok
unfolding same_key
returns-clause-ok c = rw (← c.self.view_is) (fun_ext c.in_ok-insert.ensures.updates.0)
