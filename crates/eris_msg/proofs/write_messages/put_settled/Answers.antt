use Rattle.std.proofs.Common.{rules, append_assoc}
use Rattle.std.proofs.lemmas.Result.{IfOk-equal}
use Rattle.eris_msg.specs.Messages as m
use Rattle.eris_msg.proofs.write_messages.put_settled.Goals as goal

pub returns : goal.returns
unfolding m.settled
returns c = search (rules, IfOk-equal, append_assoc)
