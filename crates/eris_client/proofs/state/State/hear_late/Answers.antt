use Rattle.std.proofs.Common.{sym, subst}
use Rattle.eris_client.specs.Answered.{IsAnswered}
use Rattle.eris_client.proofs.AnsweredLaws.{late_is_answered}
use Rattle.eris_client.proofs.state.State.hear_late.Goals as goal

pub go_on-requires-clause-answered : goal.go_on-requires-clause-answered
go_on-requires-clause-answered c =
    subst IsAnswered (sym c.in_ok-add_late.ensures) (late_is_answered c.args.transaction c.args.shard c.args.answer c.requires (sym c.if-late_fits.ensures))
