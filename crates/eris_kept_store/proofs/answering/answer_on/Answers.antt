use Rattle.std.proofs.Common.{◌-◌, ℕ, Bool, Option, Some, None, cond, ap, sym, ◌∙◌, subst}
use Rattle.eris_base.specs.declared.ids.ShardId.{ShardId}
use Rattle.eris_locks.specs.LockTable.{step}
use Rattle.eris_locks.specs.Shards.{cut}
use Rattle.eris_rules.specs.ReplicaAnswers.{log_upto}
use Rattle.eris_store.specs.Stores.{state_of}
use Rattle.eris_kept_store.specs.KeptStores.{KeptValue, IsAfter, IfKept}
use Rattle.eris_kept_store.proofs.Kept.{kept_next}
use Rattle.eris_kept_store.proofs.answering.answer_on.Goals as goal

pub returns-clause-kept : goal.returns-clause-kept
returns-clause-kept c =
    let shard = c.args.shard in
    let prior = c.args.prior.now in
    let part = c.args.part.now in
    let number = c.args.number in
    let packet = c.args.packet.now in
    let old = c.in_ok-store.store in
    let new = c.step_answering.new.store in
    let after : IsAfter shard (log_upto prior part (number - 1)) old =
    subst (λ (before : ℕ). IsAfter shard (log_upto prior part before) old) c.saturating_sub-before.ensures c.in_ok-store.ensures in
    let next : Option KeptValue = Some (record { store = new; number = number }) in
    subst (λ (kept : Option KeptValue). IfKept shard prior part kept)
    (sym (c.kept_if.ensures ∙ ap (λ (t : Bool). cond t next None) c.is_next.ensures))
    (kept_next shard prior part number packet old new after c.requires.held
    (c.step_answering.ensures.shard ∙ after.of_shard)
    c.in_ok-answer.ensures.unspent
    (c.in_ok-answer.ensures.state ∙ ap (λ (on : ShardId). (step (state_of old) (cut on packet)).state) after.of_shard))
