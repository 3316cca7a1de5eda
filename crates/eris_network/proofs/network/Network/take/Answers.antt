use Rattle.std.proofs.Common.{length, ap, arith}
use Rattle.eris_network.specs.Networks.{NetworkValue}
use Rattle.eris_network.proofs.NetworkLaws.{numbered, one_taken}
use Rattle.eris_network.proofs.network.Network.take.Goals as goal

pub take-requires : goal.take-requires
take-requires c =
    omega (arith, c.requires.sent, numbered c.self.inside.frames c.self.inside.waiting c.args.self.now c.self.view_is c.requires.spent, ap (λ (v : NetworkValue). length v.sent) c.self.view_is)

pub returns : goal.returns
returns c = one_taken c.self.inside.frames c.self.inside.waiting c.take.new.self c.args.self.now c.args.number c.self.view_is c.take.ensures
