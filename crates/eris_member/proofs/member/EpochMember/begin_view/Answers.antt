use Rattle.eris_member.proofs.Told.{starts_now}
use Rattle.eris_member.proofs.member.EpochMember.begin_view.Goals as goal

pub returns : goal.returns
returns c = starts_now c.args.self.now _ _ _ c.in_ok-join_noted.ensures c.become_normal.ensures c.in_ok-sends.ensures
