use Rattle.std.proofs.lemmas.Result.{IfOk-weaker}
use Rattle.eris_store.specs.MapValues.{map_state}
use Rattle.eris_store.proofs.AsIfAlone.{none_recorded}
use Rattle.eris_store.proofs.lock_store.LockStore.recorded.Goals as goal

pub returns-clause-outcomes : goal.returns-clause-outcomes
returns-clause-outcomes c =
    rw (← c.self.view_is)
    (IfOk-weaker c.recorded.result _ _ (λ found here packets is concludes.
    none_recorded packets (map_state c.self.inside.table) c.args.id c.args.phase found is concludes here)
    c.recorded.ensures)
