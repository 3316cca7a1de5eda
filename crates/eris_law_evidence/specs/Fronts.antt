-- What is said once is said for good: over a log that is how the order begins on its shard, from a moment on.
use Rattle.std.specs.Prelude.{ℕ, ◌≤◌, List}
use Rattle.eris_base.specs.declared.ids.Epoch.{Epoch}
use Rattle.eris_base.specs.declared.ids.Phase.{Phase}
use Rattle.eris_base.specs.declared.ids.ShardId.{ShardId}
use Rattle.eris_base.specs.declared.ids.TxnId.{TxnId}
use Rattle.eris_base.specs.ConfigLimits.{ConfigValue}
use Rattle.eris_txn.specs.declared.answer.Answer.{Answer}
use Rattle.eris_txn.specs.declared.packet.Packet.{Packet}
use Rattle.eris_event.specs.declared.event.Event.{Event}
use Rattle.eris_rules.specs.Good.{BeginsWith}
use Rattle.eris_rules.specs.WorldOrders.{order_on}
use Rattle.eris_serial.specs.Evidence.{SaidOn}
use Rattle.eris_serial.specs.Times.{IsOwn}
use Rattle.eris_law_epoch.specs.Members.{In}
use Rattle.eris_law_agreement.specs.Alone.{stamping_of}
use Rattle.eris_law_agreement.specs.EpochRuns.{servers_at}
use Rattle.eris_law_agreement.specs.WorldMoments.{world_at}

-- SAID FROM A MOMENT ON: the shard's store gives the answer over a log, and at that moment and at every later one the
-- order begins with this log on the shard
pub record IsSaidFrom (config : ConfigValue) (events : List Event) (j : ℕ) (shard : ShardId) (id : TxnId) (phase : Phase) (answer : Answer) : Type 0 where
  pub log : List Packet
  pub said : SaidOn shard id phase answer log
  pub begins : (k : ℕ) → j ≤ k → BeginsWith (order_on shard (world_at config events k)) log

-- by this moment no own packet of the id was stamped, in whatever epoch
abbrev pub IsUnstamped : ConfigValue → List Event → ℕ → TxnId → Type 0
IsUnstamped config events j id = (epoch : Epoch) (packet : Packet) → In packet (stamping_of config (servers_at config events j).stampings epoch).stamped → IsOwn id packet → ⊥
