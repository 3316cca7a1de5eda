use Rattle.std.proofs.Common.{◌≡◌, ◌++◌, map, ℕ}
use Rattle.std.specs.List.{range_with_len}
use Rattle.eris_base.specs.declared.ids.Node.TheVariants.{Replica}
use Rattle.eris_msg.specs.declared.message.Message.TheVariants.{Txn}
use Rattle.eris_sequencer.proofs.sends.send_to.Given as goal

abbrev pub invariant-loop-replica : goal.invariant-loop-replica
invariant-loop-replica l =
    l.sends ≡ l.fn.sends ++ map (λ (replica : ℕ). record { to = Replica l.shard (record { 0 = replica }); message = Txn l.packet }) (range_with_len 0 l.replica)
