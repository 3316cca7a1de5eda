use Rattle.std.proofs.Common.{◌∙◌}
use Rattle.std.proofs.lemmas.Result.{IfErr-weaker}
use Rattle.eris_network.proofs.KeptLaws.{long_spelled}
use Rattle.eris_network.proofs.frames.frame_of.Goals as goal

pub returns-in-Ok-clause-err : goal.returns-in-Ok-clause-err
returns-in-Ok-clause-err c =
    IfErr-weaker c.framed.result _ _ (λ fault. long_spelled c.args.message.now c.as_slice.result.now fault (c.as_slice.ensures ∙ c.in-Ok.ensures.exact)) c.framed.ensures.err
