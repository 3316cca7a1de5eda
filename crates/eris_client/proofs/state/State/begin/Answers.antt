use Rattle.std.proofs.Common.{sym, subst}
use Rattle.eris_client.specs.Answered.{IsAnswered}
use Rattle.eris_client.proofs.AnsweredLaws.{begun_is_answered}
use Rattle.eris_client.proofs.state.State.begin.Goals as goal

pub put-requires : goal.put-requires
put-requires c = subst IsAnswered (sym c.begun.ensures) (begun_is_answered c.args.course)
