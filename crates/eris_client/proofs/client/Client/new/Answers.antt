use Rattle.std.proofs.Common.{sym, subst}
use Rattle.eris_client.specs.ClientRanges.{StateFits}
use Rattle.eris_client.specs.ClientValues.{StateValue}
use Rattle.eris_client.proofs.Fits.{first-fits}
use Rattle.eris_client.proofs.client.Client.new.Goals as goal

pub invariant_of-result : goal.invariant_of-result
invariant_of-result c = λ _. subst (λ (made : StateValue). StateFits made.me made.state) (sym c.new.ensures) (first-fits c.args.config c.args.client c.requires c.clients-clients.ensures.fits)
