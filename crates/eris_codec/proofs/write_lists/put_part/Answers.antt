use Rattle.std.proofs.Common.{rules, append_assoc}
use Rattle.std.proofs.lemmas.Result.{IfOk-equal}
use Rattle.eris_codec.specs.Parts as p
use Rattle.eris_codec.proofs.write_lists.put_part.Goals as goal

pub returns : goal.returns
unfolding p.part
returns c = search (rules, IfOk-equal, append_assoc)
