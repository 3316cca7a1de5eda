-- What a tally of an epoch keeps.
use Rattle.std.specs.Prelude.{Bool, IsTrue, List}
use Rattle.eris_log.specs.Sorted.{ascends}
use Rattle.eris_epoch.specs.declared.noted.NotedPart.{NotedPart}
use Rattle.eris_epoch.specs.EpochTallies.{EpochTallyValue, sender_of, sender_cmp}

-- the senders of the noted parts strictly ascend
abbrev pub senders_ascend : List NotedPart → Bool
senders_ascend noted = ascends sender_of sender_cmp noted

-- the facts that a tally keeps
pub record IsEpochTally (tally : EpochTallyValue) : Type 0 where
  pub ascend : IsTrue (senders_ascend tally.noted)
