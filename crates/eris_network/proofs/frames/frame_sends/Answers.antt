use Rattle.std.proofs.Common.{◌≤◌, ◌+◌, List, sym, subst, arith}
use Rattle.eris_msg.specs.declared.outgoing.Outgoing.{Outgoing}
use Rattle.eris_rules.specs.Refusals.{frame_sizes}
use Rattle.eris_network.specs.Limits.{byte_limit}
use Rattle.eris_network.proofs.KeptLaws.{nothing_sized}
use Rattle.eris_network.proofs.frames.frame_sends.Goals as goal

pub add_sends-requires-clause-bytes : goal.add_sends-requires-clause-bytes
add_sends-requires-clause-bytes c =
    subst (λ (sent : List Outgoing). c.args.before.bytes + frame_sizes sent ≤ byte_limit) (sym c.new-frames.ensures) (omega (arith, nothing_sized, c.requires.bytes))
