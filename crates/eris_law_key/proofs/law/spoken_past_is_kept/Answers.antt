use Rattle.eris_law_key.proofs.KeyLemma.{key}
use Rattle.eris_law_key.proofs.law.spoken_past_is_kept.Goals as goal

pub returns : goal.returns
returns c = record { key = key }
