use Rattle.std.proofs.Common.{refl}
use Rattle.eris_world.proofs.Steps.{stays_so}
use Rattle.eris_world.proofs.world.World.hear_noise.Goals as goal

pub returns-in-Sequencer-clause-ok : goal.returns-in-Sequencer-clause-ok
returns-in-Sequencer-clause-ok c = stays_so c.args.self.now c.args.self.now.state refl c.stand.ensures
