use Rattle.std.proofs.Common.{sym, subst}
use Rattle.eris_client.specs.Answered.{IsAnswered}
use Rattle.eris_client.proofs.AnsweredLaws.{vote_is_answered}
use Rattle.eris_client.proofs.state.State.hear_vote.Goals as goal

pub go_on-requires-clause-answered : goal.go_on-requires-clause-answered
go_on-requires-clause-answered c =
    subst IsAnswered (sym c.in_ok-add_vote.ensures) (vote_is_answered c.f-f.result c.args.transaction c.args.vote c.requires (sym c.if-vote_fits.ensures))
