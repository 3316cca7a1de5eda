use Rattle.eris_rules.specs.Refusals.{node_cause, noise_cause}
use Rattle.eris_world.proofs.Causes.{tells_first, tells_other}
use Rattle.eris_world.proofs.world.World.check_noise.Goals as goal

pub returns-in-Ok : goal.returns-in-Ok
returns-in-Ok c = tells_other (node_cause c.args.self.now.config c.args.self.now.state c.args.node) (noise_cause c.args.bytes.now) c.check_bytes.result c.in-Ok.ensures c.check_bytes.ensures

pub returns-in-Err : goal.returns-in-Err
returns-in-Err c = tells_first (node_cause c.args.self.now.config c.args.self.now.state c.args.node) (noise_cause c.args.bytes.now) c.in-Err.refusal c.in-Err.ensures
