use Rattle.std.proofs.Common.{◌≡◌, ◌++◌, [], List, ap, subst, arith, None}
use Rattle.eris_msg.specs.declared.outgoing.Outgoing.{Outgoing}
use Rattle.eris_rules.specs.Refusals.{limit_met}
use Rattle.eris_network.specs.Limits.{IsMetBy}
use Rattle.eris_network.specs.Networks.{NetworkValue}
use Rattle.eris_network.proofs.LimitLaws.{counts_of_none}
use Rattle.eris_network.proofs.NetworkLaws.{more_sent}
use Rattle.eris_network.proofs.network.Network.send.Goals as goal

pub add_sends-requires-clause-packets : goal.add_sends-requires-clause-packets
add_sends-requires-clause-packets c = omega (arith, c.len-sent.ensures.exact, c.len-sent.ensures.few)

pub add_sends-requires-clause-bytes : goal.add_sends-requires-clause-bytes
add_sends-requires-clause-bytes c = omega (arith, c.len-sent.ensures.small)

pub returns-in-Err-clause-err : goal.returns-in-Err-clause-err
returns-in-Err-clause-err c =
    subst (λ (sent : List Outgoing). IsMetBy (sent ++ c.args.sends.now) c.in-Err.fault) (ap (λ (value : NetworkValue). value.sent) c.self.view_is)
    (c.in-Err.ensures.err [] counts_of_none)

pub returns-clause-room : goal.returns-clause-room
returns-clause-room c =
    subst (λ (sent : List Outgoing). limit_met (sent ++ c.args.sends.now) ≡ None) (ap (λ (value : NetworkValue). value.sent) c.self.view_is)
    (c.in-Ok.ensures.room [] counts_of_none)

pub returns-clause-ok : goal.returns-clause-ok
returns-clause-ok c =
    more_sent c.self.inside.frames c.add_sends.new.self c.args.sends.now c.self.inside.waiting c.add_all.new.self c.args.self.now c.self.view_is c.requires.spent c.in-Ok.ensures.ok c.in_ok-add_all.ensures
