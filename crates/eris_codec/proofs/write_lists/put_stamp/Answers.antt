use Rattle.std.proofs.Common.{rules, append_assoc}
use Rattle.std.proofs.lemmas.Result.{IfOk-equal}
use Rattle.eris_codec.specs.Fields as f
use Rattle.eris_codec.proofs.write_lists.put_stamp.Goals as goal

pub returns : goal.returns
unfolding f.stamp f.from_to
returns c = search (rules, IfOk-equal, append_assoc)
