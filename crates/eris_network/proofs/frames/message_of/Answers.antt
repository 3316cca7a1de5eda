use Rattle.std.proofs.Common.{length}
use Rattle.eris_network.specs.KeptFrames.{outgoing_of}
use Rattle.eris_network.proofs.KeptLaws.{refuses_spelled, reads_spelled}
use Rattle.eris_network.proofs.frames.message_of.Goals as goal

pub unreachable-requires : goal.unreachable-requires
unreachable-requires c =
    refuses_spelled c.decode.result (outgoing_of c.args.kept.now).message (length c.bytes_of.result.now) _ _ c.in-Err-Bad.field-0 c.in-Err-Bad.is c.in-Err-Bad.field-0-is
    (c.decode.ensures.only (outgoing_of c.args.kept.now).message c.bytes_of.ensures)

pub returns-in-Ok-clause-exact : goal.returns-in-Ok-clause-exact
returns-in-Ok-clause-exact c =
    reads_spelled c.decode.result (outgoing_of c.args.kept.now).message c.in-Ok.message (length c.bytes_of.result.now) c.in-Ok.is
    (c.decode.ensures.only (outgoing_of c.args.kept.now).message c.bytes_of.ensures)
