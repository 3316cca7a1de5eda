use Rattle.std.proofs.Common.{rules, append_assoc}
use Rattle.std.proofs.lemmas.Result.{IfOk-equal}
use Rattle.eris_codec.specs.Fields as f
use Rattle.eris_codec.proofs.NameBytes.{name_spell, allowed_in}
use Rattle.eris_codec.proofs.write_fields.put_name.Goals as goal

pub returns : goal.returns
unfolding f.name f.from_to
returns c = rw (name_spell c.args.key.now.name (allowed_in c.args.key.now.name c.bytes-name.ensures.fits)) (search (rules, IfOk-equal, append_assoc))
