use Rattle.std.proofs.Common.{ap, ◌∙◌, None}
use Rattle.eris_rules.specs.Clients.{abort}
use Rattle.eris_client.specs.ClientRanges.{StateFits, StepFits}
use Rattle.eris_client.specs.ClientValues.{ClientValue}
use Rattle.eris_client.proofs.Fits.{abort-fits, left_fits, sent_fits}
use Rattle.eris_client.proofs.client.Client.abort.Goals as goal

pub invariant_of-self-2 : goal.invariant_of-self-2
invariant_of-self-2 c =
    let old = c.self.inside.state in
    let kept : StateFits old.me old.state = c.self.invariant (ap (λ (value : ClientValue). value.spent) c.self.view_is ∙ c.requires.unspent) in
    let fits : StepFits old.me (abort old.me old.state c.args.id c.args.keys) = abort-fits old.me old.state kept c.args.id c.args.keys c.requires.id c.requires.keys in
    λ _. left_fits old c.abort.new.self (abort old.me old.state c.args.id c.args.keys) c.in_ok-sends.sends None fits c.in_ok-sends.ensures

pub returns-clause-fits : goal.returns-clause-fits
returns-clause-fits c =
    let old = c.self.inside.state in
    let kept : StateFits old.me old.state = c.self.invariant (ap (λ (value : ClientValue). value.spent) c.self.view_is ∙ c.requires.unspent) in
    let fits : StepFits old.me (abort old.me old.state c.args.id c.args.keys) = abort-fits old.me old.state kept c.args.id c.args.keys c.requires.id c.requires.keys in
    sent_fits old c.abort.new.self (abort old.me old.state c.args.id c.args.keys) c.in_ok-sends.sends None fits c.in_ok-sends.ensures
