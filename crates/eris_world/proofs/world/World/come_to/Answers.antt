use Rattle.std.proofs.Common.{sym, subst}
use Rattle.std.specs.Prelude.{IfErr, OnOk, slice_get}
use Rattle.eris_base.specs.declared.ids.Node.{Node}
use Rattle.eris_network.specs.Limits.{IsMetBy}
use Rattle.eris_rules.specs.Happenings.{comes_to}
use Rattle.eris_rules.specs.Worlds.{WorldState}
use Rattle.eris_world.specs.Becoming.{Becomes}
use Rattle.eris_world.proofs.Steps.{arrives_at}
use Rattle.eris_world.proofs.world.World.come_to.Goals as goal

pub returns-in-Coordinator-clause-ok : goal.returns-in-Coordinator-clause-ok
returns-in-Coordinator-clause-ok c =
    arrives_at c.args.self.now.config c.args.self.now.state c.args.epoch (slice_get c.args.self.now.state.sent c.args.number) c.args.to
    (λ (z : WorldState). OnOk c.coordinator_hears.result (Becomes c.args.self.now c.coordinator_hears.new.self z)) c.requires.to
    (λ one is. subst (λ (node : Node). OnOk c.coordinator_hears.result (Becomes c.args.self.now c.coordinator_hears.new.self (comes_to c.args.self.now.config c.args.self.now.state c.args.epoch node one.message)))
    (sym c.in-Coordinator.is) (c.coordinator_hears.ensures.ok one is))

pub returns-in-Coordinator-clause-err : goal.returns-in-Coordinator-clause-err
returns-in-Coordinator-clause-err c =
    arrives_at c.args.self.now.config c.args.self.now.state c.args.epoch (slice_get c.args.self.now.state.sent c.args.number) c.args.to
    (λ (z : WorldState). IfErr c.coordinator_hears.result (IsMetBy z.sent)) c.requires.to
    (λ one is. subst (λ (node : Node). IfErr c.coordinator_hears.result (IsMetBy (comes_to c.args.self.now.config c.args.self.now.state c.args.epoch node one.message).sent))
    (sym c.in-Coordinator.is) (c.coordinator_hears.ensures.err one is))

pub returns-in-Replica-clause-ok : goal.returns-in-Replica-clause-ok
returns-in-Replica-clause-ok c =
    arrives_at c.args.self.now.config c.args.self.now.state c.args.epoch (slice_get c.args.self.now.state.sent c.args.number) c.args.to
    (λ (z : WorldState). OnOk c.replica_hears.result (Becomes c.args.self.now c.replica_hears.new.self z)) c.requires.to
    (λ one is. subst (λ (node : Node). OnOk c.replica_hears.result (Becomes c.args.self.now c.replica_hears.new.self (comes_to c.args.self.now.config c.args.self.now.state c.args.epoch node one.message)))
    (sym c.in-Replica.is) (c.replica_hears.ensures.ok one is))

pub returns-in-Replica-clause-err : goal.returns-in-Replica-clause-err
returns-in-Replica-clause-err c =
    arrives_at c.args.self.now.config c.args.self.now.state c.args.epoch (slice_get c.args.self.now.state.sent c.args.number) c.args.to
    (λ (z : WorldState). IfErr c.replica_hears.result (IsMetBy z.sent)) c.requires.to
    (λ one is. subst (λ (node : Node). IfErr c.replica_hears.result (IsMetBy (comes_to c.args.self.now.config c.args.self.now.state c.args.epoch node one.message).sent))
    (sym c.in-Replica.is) (c.replica_hears.ensures.err one is))

pub returns-in-Client-clause-ok : goal.returns-in-Client-clause-ok
returns-in-Client-clause-ok c =
    arrives_at c.args.self.now.config c.args.self.now.state c.args.epoch (slice_get c.args.self.now.state.sent c.args.number) c.args.to
    (λ (z : WorldState). OnOk c.client_hears.result (Becomes c.args.self.now c.client_hears.new.self z)) c.requires.to
    (λ one is. subst (λ (node : Node). OnOk c.client_hears.result (Becomes c.args.self.now c.client_hears.new.self (comes_to c.args.self.now.config c.args.self.now.state c.args.epoch node one.message)))
    (sym c.in-Client.is) (c.client_hears.ensures.ok one is))

pub returns-in-Client-clause-err : goal.returns-in-Client-clause-err
returns-in-Client-clause-err c =
    arrives_at c.args.self.now.config c.args.self.now.state c.args.epoch (slice_get c.args.self.now.state.sent c.args.number) c.args.to
    (λ (z : WorldState). IfErr c.client_hears.result (IsMetBy z.sent)) c.requires.to
    (λ one is. subst (λ (node : Node). IfErr c.client_hears.result (IsMetBy (comes_to c.args.self.now.config c.args.self.now.state c.args.epoch node one.message).sent))
    (sym c.in-Client.is) (c.client_hears.ensures.err one is))
