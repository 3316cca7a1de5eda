use Rattle.std.proofs.Common.{◌≡◌, false, ap, sym, ◌∙◌}
use Rattle.eris_network.specs.Networks.{NetworkValue}
use Rattle.eris_world.specs.contracts.world.World.{the_view}
use Rattle.eris_world.specs.WorldValues.{WorldValue}
use Rattle.eris_nodes.specs.ReplicaRows.{replicas_step}
use Rattle.eris_world.proofs.Steps.{replica_crashed, replica_err, replica_ok}
use Rattle.eris_world.proofs.world.World.replica_takes.Goals as goal

pub returns-then-has_crashed-clause-ok : goal.returns-then-has_crashed-clause-ok
returns-then-has_crashed-clause-ok c =
    let unspent : c.self.inside.spent ≡ false = ap (λ (v : WorldValue). v.spent) c.self.view_is ∙ c.requires.unspent in
    let whole = c.self.invariant unspent in
    replica_crashed (the_view c.self.inside) c.args.self.now c.self.view_is c.args.shard c.args.replica c.args.input (sym c.if-has_crashed.ensures) whole.of_network.room

pub returns-in-Err-send-clause-err : goal.returns-in-Err-send-clause-err
returns-in-Err-send-clause-err c =
    let unspent : c.self.inside.spent ≡ false = ap (λ (v : WorldValue). v.spent) c.self.view_is ∙ c.requires.unspent in
    let whole = c.self.invariant unspent in
    replica_err (the_view c.self.inside) c.args.self.now c.self.view_is c.args.shard c.args.replica c.args.input c.step.new.self.rows c.in-Ok.sends c.as_slice.result.now c.in-Err-send.fault
    (sym c.has_crashed.ensures ∙ c.if-has_crashed.false)
    (c.in-Ok.ensures.ok ∙ ap (λ z. replicas_step z c.self.inside.replicas.rows c.args.shard c.args.replica c.args.input) whole.of_replicas.of_config) c.as_slice.ensures c.in-Err-send.ensures.err

pub returns-clause-ok : goal.returns-clause-ok
returns-clause-ok c =
    let unspent : c.self.inside.spent ≡ false = ap (λ (v : WorldValue). v.spent) c.self.view_is ∙ c.requires.unspent in
    let whole = c.self.invariant unspent in
    replica_ok (the_view c.self.inside) c.args.self.now c.self.view_is c.args.shard c.args.replica c.args.input c.step.new.self.rows c.in-Ok.sends c.as_slice.result.now c.send.new.self.sent c.send.new.self.waiting
    c.requires.unspent (sym c.has_crashed.ensures ∙ c.if-has_crashed.false)
    (c.in-Ok.ensures.ok ∙ ap (λ z. replicas_step z c.self.inside.replicas.rows c.args.shard c.args.replica c.args.input) whole.of_replicas.of_config) c.as_slice.ensures
    (ap (λ (n : NetworkValue). n.sent) c.in-Ok-send.ensures.ok) (ap (λ (n : NetworkValue). n.waiting) c.in-Ok-send.ensures.ok) c.in-Ok-send.ensures.room
