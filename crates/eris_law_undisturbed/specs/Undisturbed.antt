-- SCRIPTS THAT NOTHING DISTURBS: every packet is delivered once, in the order in which they were sent, and no
-- timer runs. Only whole transactions are submitted. A few replicas may crash, but no shard's first one, which is the
-- learner that answers.
use Rattle.std.specs.Prelude.{◌≡◌, ◌≤◌, ℕ, true, ◌+◌, List, [], ◌∷◌, ◌++◌, length, replicate}
use Rattle.std.specs.List.{filter, list_all}
use Rattle.eris_base.specs.declared.ids.ShardId.{ShardId}
use Rattle.eris_base.specs.declared.ids.TxnId.{TxnId}
use Rattle.eris_base.specs.ConfigLimits.{ConfigValue}
use Rattle.eris_txn.specs.declared.history.HistoryEvent.{HistoryEvent}
use Rattle.eris_txn.specs.declared.txn.Txn.{Txn}
use Rattle.eris_event.specs.declared.event.Event.{Event}
use Rattle.eris_law_epoch.specs.Members.{In}
use Rattle.eris_law_calm.specs.Calm.{IsAnswered}
use Rattle.eris_law_calm_step.specs.CalmEvents.{crashes_on, is_calm, packets_for}

-- how many crash on a shard
abbrev pub crashes : ShardId → List Event → ℕ
crashes shard events = length (filter (crashes_on shard) events)

-- how many packets they cause at most
abbrev pub packets_for_all : ConfigValue → List Event → ℕ
packets_for_all config [] = 0
packets_for_all config (event ∷ events) = packets_for config event + packets_for_all config events

-- AN UNDISTURBED LIST OF EVENTS: calm events, of which at most f crash a replica of one shard; and at its end as many
-- deliveries as its submissions can cause packets
pub record IsUndisturbed (config : ConfigValue) (events : List Event) : Type 0 where
  pub front : List Event
  pub flows : ℕ
  pub are : events ≡ front ++ replicate flows Event.Flow
  pub calm : list_all is_calm front ≡ true
  pub few : (shard : ShardId) → crashes shard front ≤ config.f
  pub enough : packets_for_all config front ≤ flows

-- EACH TRANSACTION that was submitted in one history is answered in another
pub record AreAnswered (asked history : List HistoryEvent) : Type 0 where
  pub at : (id : TxnId) (txn : Txn) → In (HistoryEvent.Submit id txn) asked → IsAnswered id history
