use Rattle.std.proofs.Common.{rules, append_assoc}
use Rattle.std.proofs.lemmas.Result.{IfOk-equal}
use Rattle.eris_msg.specs.Messages as m
use Rattle.eris_msg.proofs.write_messages.put_temp_dropped.Goals as goal

pub returns : goal.returns
unfolding m.temp_dropped
returns c = search (rules, IfOk-equal, append_assoc)
