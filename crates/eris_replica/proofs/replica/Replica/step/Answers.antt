use Rattle.std.proofs.Common.{ap, ◌∙◌}
use Rattle.eris_replica.specs.ReplicaValues.{ReplicaValue}
use Rattle.eris_replica.proofs.Keeping.{step_keeps, step_sends}
use Rattle.eris_replica.proofs.replica.Replica.step.Goals as goal

pub invariant_of-self-2 : goal.invariant_of-self-2
invariant_of-self-2 c = λ _.
    step_keeps c.self.inside.epochs c.step.new.self c.in_ok-sends.sends c.args.input c.in_ok-sends.ensures
    (c.self.invariant (ap (λ (value : ReplicaValue). value.spent) c.self.view_is ∙ c.requires.unspent)) c.requires.ranges

pub returns-clause-fits : goal.returns-clause-fits
returns-clause-fits c =
    step_sends c.self.inside.epochs c.step.new.self c.in_ok-sends.sends c.args.input c.in_ok-sends.ensures
    (c.self.invariant (ap (λ (value : ReplicaValue). value.spent) c.self.view_is ∙ c.requires.unspent)) c.requires.ranges
