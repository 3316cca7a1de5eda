use Rattle.std.proofs.Common.{sym, subst}
use Rattle.eris_rules.specs.ReplicaAnswers.{log_upto}
use Rattle.eris_kept_store.specs.KeptStores.{KeptValue, IsAfter}
use Rattle.eris_kept_store.proofs.Kept.{goes_on, begun_right}
use Rattle.eris_kept_store.proofs.answering.store_upto.Goals as goal

pub loop-before-init : goal.loop-before-init
loop-before-init c =
    subst (λ (made : KeptValue). IsAfter c.args.shard (log_upto c.args.prior.now c.args.part.now made.number) made.store) (sym c.begun-2.view_is)
    (begun_right c.args.shard c.args.prior.now c.args.part.now c.args.kept c.in_ok-begun.begun c.requires.kept c.in_ok-begun.ensures)

pub loop-before-preserved : goal.loop-before-preserved
loop-before-preserved c =
    goes_on c.args.shard c.args.prior.now c.args.part.now c.loop-before.before _ _ c.loop-before.invariant
    c.step_open.ensures.shard c.in_ok-step_open.ensures.unspent c.in_ok-step_open.ensures.state
