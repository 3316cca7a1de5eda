use Rattle.std.proofs.Common.{◌++◌, List, sym, subst}
use Rattle.std.proofs.lemmas.Result.{IfOk-weaker, on_ok_weaker}
use Rattle.eris_base.specs.Each.{Each}
use Rattle.eris_locks.specs.declared.done.Done.{Done}
use Rattle.eris_locks.specs.Law.{IsRightDone}
use Rattle.eris_locks.specs.Shards.{on_shard}
use Rattle.eris_store.specs.MapValues.{map_state}
use Rattle.eris_store.proofs.AsIfAlone.{right_now, right_in_part, plain_at_end}
use Rattle.eris_store.proofs.lock_store.LockStore.step_all.Goals as goal

pub returns-clause-answers : goal.returns-clause-answers
returns-clause-answers c =
    let old = map_state c.self.inside.table in
    let packets = on_shard c.self.inside.shard c.args.packets.now in
    rw (← c.self.view_is)
    (IfOk-weaker c.run_named-dones.result _ _ (λ dones made before is well.
    subst (λ (given : List Done). Each (IsRightDone (before ++ packets)) given) (sym made) (right_now before packets old is well))
    c.run_named-dones.ensures.dones)

pub returns-clause-beginning : goal.returns-clause-beginning
returns-clause-beginning c =
    let old = map_state c.self.inside.table in
    let packets = on_shard c.self.inside.shard c.args.packets.now in
    rw (← c.self.view_is)
    (IfOk-weaker c.run_named-dones.result _ _ (λ dones made before rest is well.
    subst (λ (given : List Done). Each (IsRightDone ((before ++ packets) ++ rest)) given) (sym made) (right_in_part before packets rest old is well))
    c.run_named-dones.ensures.dones)

pub returns-clause-values : goal.returns-clause-values
returns-clause-values c =
    let old = map_state c.self.inside.table in
    let new = map_state c.run_named-dones.new.table in
    let packets = on_shard c.self.inside.shard c.args.packets.now in
    rw (← c.self.view_is)
    (on_ok_weaker c.run_named-dones.result (λ ran before is none. plain_at_end before packets old new is ran none) c.run_named-dones.ensures.state)
