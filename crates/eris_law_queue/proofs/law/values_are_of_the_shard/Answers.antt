use Rattle.eris_law_queue.proofs.Spared.{elsewhere_is_none}
use Rattle.eris_law_queue.proofs.law.values_are_of_the_shard.Goals as goal

pub returns : goal.returns
returns c = λ shard packets key elsewhere. elsewhere_is_none key shard elsewhere packets
