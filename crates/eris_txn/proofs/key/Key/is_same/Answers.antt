use Rattle.std.proofs.Common.{◌∙◌}
use Rattle.eris_txn.proofs.KeyLaws.{same_key-parts}
use Rattle.eris_txn.proofs.key.Key.is_same.Goals as goal

pub returns : goal.returns
returns c = c.eq.ensures ∙ same_key-parts _ _
