use Rattle.std.proofs.Common.{ap, ◌∙◌}
use Rattle.eris_rules.specs.Clients.{client_step}
use Rattle.eris_client.specs.ClientRanges.{StateFits, StepFits}
use Rattle.eris_client.specs.ClientValues.{ClientValue}
use Rattle.eris_client.proofs.Fits.{left_fits, sent_fits, step-fits}
use Rattle.eris_client.proofs.client.Client.step.Goals as goal

pub invariant_of-self-2 : goal.invariant_of-self-2
invariant_of-self-2 c =
    let old = c.self.inside.state in
    let kept : StateFits old.me old.state = c.self.invariant (ap (λ (value : ClientValue). value.spent) c.self.view_is ∙ c.requires) in
    let fits : StepFits old.me (client_step old.me old.state c.args.message) = step-fits old.me old.state kept c.args.message in
    λ _. left_fits old c.step.new.self (client_step old.me old.state c.args.message) c.in_ok-out.out.0 c.in_ok-out.out.1 fits c.in_ok-out.ensures

pub returns-clause-fits : goal.returns-clause-fits
returns-clause-fits c =
    let old = c.self.inside.state in
    let kept : StateFits old.me old.state = c.self.invariant (ap (λ (value : ClientValue). value.spent) c.self.view_is ∙ c.requires) in
    let fits : StepFits old.me (client_step old.me old.state c.args.message) = step-fits old.me old.state kept c.args.message in
    sent_fits old c.step.new.self (client_step old.me old.state c.args.message) c.in_ok-out.out.0 c.in_ok-out.out.1 fits c.in_ok-out.ensures
