use Rattle.std.proofs.Common.{ap, ◌∙◌, length, drop, arith}
use Rattle.eris_network.proofs.KeptLaws.{four_at_least, behind_length}
use Rattle.eris_network.proofs.frames.bytes_of.Goals as goal

pub past_length-requires : goal.past_length-requires
past_length-requires c = omega (arith, four_at_least c.args.kept.now c.requires, ap length c.as_slice.ensures)

pub returns : goal.returns
returns c = behind_length c.args.kept.now c.past_length.result.now c.requires (c.past_length.ensures ∙ ap (drop 4) c.as_slice.ensures)
