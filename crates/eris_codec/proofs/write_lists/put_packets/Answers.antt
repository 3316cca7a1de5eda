use Rattle.std.proofs.Common.{rules, append_assoc}
use Rattle.std.proofs.lemmas.Result.{IfOk-equal}
use Rattle.eris_codec.specs.Fields as f
use Rattle.eris_codec.proofs.write_lists.put_packets.Goals as goal

pub returns : goal.returns
unfolding f.packets
returns c = search (rules, IfOk-equal, append_assoc)
