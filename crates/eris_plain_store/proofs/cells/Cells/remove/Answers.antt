use mathlib.Core.Path.{fun_ext}
use Rattle.eris_txn.specs.Keys.{same_key}
use Rattle.eris_plain_store.proofs.cells.Cells.remove.Goals as goal

pub returns : goal.returns
unfolding same_key
returns c = rw (← c.self.view_is) (fun_ext c.remove.ensures.updates.0)
