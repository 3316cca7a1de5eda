use Rattle.std.proofs.Common.{◌≡◌, false, ap, sym, ◌∙◌}
use Rattle.eris_network.specs.Networks.{NetworkValue}
use Rattle.eris_world.specs.contracts.world.World.{the_view}
use Rattle.eris_world.specs.WorldValues.{WorldValue}
use Rattle.eris_nodes.specs.ReplicaRows.{replicas_step}
use Rattle.eris_rules.specs.declared.replica_input.ReplicaInput.TheVariants as inputs
use Rattle.eris_world.proofs.Steps.{has_bytes, replica_crashed, replica_err, replica_ok, spelled_at}
use Rattle.eris_world.proofs.world.World.replica_hears.Goals as goal

pub returns-then-has_crashed-clause-ok : goal.returns-then-has_crashed-clause-ok
returns-then-has_crashed-clause-ok c =
    let unspent : c.self.inside.spent ≡ false = ap (λ (v : WorldValue). v.spent) c.self.view_is ∙ c.requires.unspent in
    let whole = c.self.invariant unspent in
    λ one is. replica_crashed (the_view c.self.inside) c.args.self.now c.self.view_is c.args.shard c.args.replica (inputs.Message one.message) (sym c.if-has_crashed.ensures) whole.of_network.room

pub unreachable-requires : goal.unreachable-requires
unreachable-requires c = has_bytes (the_view c.self.inside) c.args.self.now c.self.view_is c.args.number c.requires.sent c.in-None.ensures

pub returns-in-Err-send-clause-err : goal.returns-in-Err-send-clause-err
returns-in-Err-send-clause-err c =
    let unspent : c.self.inside.spent ≡ false = ap (λ (v : WorldValue). v.spent) c.self.view_is ∙ c.requires.unspent in
    let whole = c.self.invariant unspent in
    λ one is. replica_err (the_view c.self.inside) c.args.self.now c.self.view_is c.args.shard c.args.replica (inputs.Message one.message) c.receive.new.self.rows c.in-Ok.sends c.as_slice.result.now c.in-Err-send.fault
    (sym c.has_crashed.ensures ∙ c.if-has_crashed.false)
    (c.in-Ok.ensures.message one.message (spelled_at (the_view c.self.inside) c.args.self.now c.self.view_is c.args.number c.in-Some.bytes.now one c.in-Some.ensures is)
    ∙ ap (λ z. replicas_step z c.self.inside.replicas.rows c.args.shard c.args.replica (inputs.Message one.message)) whole.of_replicas.of_config) c.as_slice.ensures c.in-Err-send.ensures.err

pub returns-clause-ok : goal.returns-clause-ok
returns-clause-ok c =
    let unspent : c.self.inside.spent ≡ false = ap (λ (v : WorldValue). v.spent) c.self.view_is ∙ c.requires.unspent in
    let whole = c.self.invariant unspent in
    λ one is. replica_ok (the_view c.self.inside) c.args.self.now c.self.view_is c.args.shard c.args.replica (inputs.Message one.message) c.receive.new.self.rows c.in-Ok.sends c.as_slice.result.now c.send.new.self.sent c.send.new.self.waiting
    c.requires.unspent (sym c.has_crashed.ensures ∙ c.if-has_crashed.false)
    (c.in-Ok.ensures.message one.message (spelled_at (the_view c.self.inside) c.args.self.now c.self.view_is c.args.number c.in-Some.bytes.now one c.in-Some.ensures is)
    ∙ ap (λ z. replicas_step z c.self.inside.replicas.rows c.args.shard c.args.replica (inputs.Message one.message)) whole.of_replicas.of_config) c.as_slice.ensures
    (ap (λ (n : NetworkValue). n.sent) c.in-Ok-send.ensures.ok) (ap (λ (n : NetworkValue). n.waiting) c.in-Ok-send.ensures.ok) c.in-Ok-send.ensures.room
