use Rattle.std.proofs.Common.{ap, ◌∙◌}
use Rattle.eris_rules.specs.Clients.{retry}
use Rattle.eris_client.specs.ClientRanges.{StateFits, StepFits}
use Rattle.eris_client.specs.ClientValues.{ClientValue}
use Rattle.eris_client.proofs.Fits.{asked_fits, retry-fits}
use Rattle.eris_client.proofs.client.Client.retry.Goals as goal

pub returns-clause-fits : goal.returns-clause-fits
returns-clause-fits c =
    let old = c.self.inside.state in
    let kept : StateFits old.me old.state = c.self.invariant (ap (λ (value : ClientValue). value.spent) c.self.view_is ∙ c.requires) in
    let fits : StepFits old.me (retry old.me old.state c.args.number) = retry-fits old.me old.state kept c.args.number in
    asked_fits old (retry old.me old.state c.args.number) c.in_ok-found.found c.in-Some.sends fits c.in_ok-found.ensures.exact c.in-Some.is
