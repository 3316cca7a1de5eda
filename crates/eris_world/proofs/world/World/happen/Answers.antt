use Rattle.std.proofs.Common.{ap, sym, subst, ◌∙◌}
use Rattle.eris_msg.specs.Spellings.{IsSpelling}
use Rattle.eris_rules.specs.Refusals.{cause}
use Rattle.eris_world.specs.WorldValues.{EventFits}
use Rattle.eris_world.proofs.Events.{aborts_another, general_can, noise_is_none, submit_can, was_sent}
use Rattle.eris_world.proofs.world.World.happen.Goals as goal

pub client_acts-requires-clause-can : goal.client_acts-requires-clause-can
client_acts-requires-clause-can c =
    submit_can c.args.self.now.config c.args.self.now.state.clients c.in-Submit.client c.in-Submit.ops c.requires.room.clients (subst EventFits c.in-Submit.is c.requires.fits)

pub client_acts-requires-in-General-clause-can : goal.client_acts-requires-in-General-clause-can
client_acts-requires-in-General-clause-can c =
    general_can c.args.self.now.config c.args.self.now.state.clients c.in-General.client c.in-General.plan c.requires.room.clients (subst EventFits c.in-General.is c.requires.fits)

pub abort-requires-clause-another : goal.abort-requires-clause-another
abort-requires-clause-another c =
    aborts_another c.args.self.now.config c.args.self.now.state c.in-Abort.asker c.in-Abort.id
    (sym (ap (cause c.args.self.now.config c.args.self.now.state) c.in-Abort.is) ∙ c.requires.known)

pub deliver-requires-clause-sent : goal.deliver-requires-clause-sent
deliver-requires-clause-sent c =
    was_sent c.args.self.now.config c.args.self.now.state c.in-Deliver.packet c.in-Deliver.epoch
    (sym (ap (cause c.args.self.now.config c.args.self.now.state) c.in-Deliver.is) ∙ c.requires.known)

pub hear_noise-requires-clause-noise : goal.hear_noise-requires-clause-noise
hear_noise-requires-clause-noise c = λ message spelled.
    noise_is_none c.args.self.now.config c.args.self.now.state c.in-Noise.node c.in-Noise.bytes
    (sym (ap (cause c.args.self.now.config c.args.self.now.state) c.in-Noise.is) ∙ c.requires.known) message (subst (IsSpelling message) c.as_slice.ensures spelled)
