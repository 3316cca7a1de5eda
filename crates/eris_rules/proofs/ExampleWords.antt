-- Words for scripts and reports in examples.
use Rattle.std.specs.Prelude.{ℕ, Option, Some, None, List, [], ◌∷◌, map, replicate}
use Rattle.std.specs.Option.{option_map}
use Rattle.eris_base.specs.declared.ids.ClientId.{ClientId}
use Rattle.eris_base.specs.declared.ids.Epoch.{Epoch}
use Rattle.eris_base.specs.declared.ids.ReplicaId.{ReplicaId}
use Rattle.eris_base.specs.declared.ids.ShardId.{ShardId}
use Rattle.eris_base.specs.declared.ids.TxnId.{TxnId}
use Rattle.eris_base.specs.ConfigLimits.{ConfigValue}
use Rattle.eris_txn.specs.declared.key.Key.{Key}
use Rattle.eris_txn.specs.declared.op.Op.{Op}
use Rattle.eris_txn.specs.declared.plan.Guard.{Guard}
use Rattle.eris_txn.specs.declared.plan.How.TheVariants.{Put, Plus, Minus}
use Rattle.eris_txn.specs.declared.plan.Setting.{Setting}
use Rattle.eris_txn.specs.PlanValues.{PlanValue}
use Rattle.eris_audit.specs.declared.order_line.OrderLine.{OrderLine}
use Rattle.eris_audit.specs.declared.outcome.Outcome.{Outcome}
use Rattle.eris_event.specs.declared.event.Event.{Event}
use Rattle.eris_event.specs.declared.report.ReplicaLine.{ReplicaLine}
use Rattle.eris_event.specs.declared.report.ReplicaState.{ReplicaState}
use Rattle.eris_event.specs.declared.report.Report.{Report}
use Rattle.eris_rules.specs.Reports.{report_of}
use Rattle.eris_rules.specs.Runs.{run}

-- a system of so many shards, faults and clients
abbrev pub system : ℕ → ℕ → ℕ → ConfigValue
system shards f clients = record { shards = shards; f = f; clients = clients }

-- the report after the events, if none of them is refused
abbrev pub reported : ConfigValue → List Event → Option Report
reported config events = option_map (report_of config) (run config events)

abbrev pub shard : ℕ → ShardId
shard number = record { 0 = number }

abbrev pub replica : ℕ → ReplicaId
replica number = record { 0 = number }

abbrev pub client : ℕ → ClientId
client number = record { 0 = number }

abbrev pub epoch : ℕ → Epoch
epoch number = record { 0 = number }

-- a key of a shard whose name is one letter
abbrev pub key : ℕ → ℕ → Key
key number letter = record { shard = shard number; name = letter ∷ [] }

-- the keys 0/a and 1/b
abbrev pub a : Key
a = key 0 97

abbrev pub b : Key
b = key 1 98

abbrev pub txn : ℕ → ℕ → TxnId
txn owner number = record { client = client owner; number = number }

abbrev pub guard : Key → ℕ → Guard
guard key least = record { key = key; least = least }

abbrev pub set : Key → ℕ → Setting
set key value = record { key = key; how = Put value }

abbrev pub plus : Key → ℕ → Setting
plus key value = record { key = key; how = Plus value }

abbrev pub minus : Key → ℕ → Setting
minus key value = record { key = key; how = Minus value }

abbrev pub plan : List Key → List Guard → List Setting → PlanValue
plan keys guards settings = record { keys = keys; guards = guards; settings = settings }

abbrev pub submit : ℕ → List Op → Event
submit owner ops = Event.Submit (client owner) ops

abbrev pub general : ℕ → PlanValue → Event
general owner plan = Event.General (client owner) plan

abbrev pub retry : ℕ → ℕ → Event
retry owner number = Event.Retry (client owner) number

abbrev pub abort : ℕ → TxnId → Event
abort asker id = Event.Abort (client asker) id

abbrev pub deliver : ℕ → Event
deliver packet = Event.Deliver packet None

abbrev pub deliver_to : ℕ → ℕ → Event
deliver_to packet number = Event.Deliver packet (Some (epoch number))

abbrev pub flow : ℕ → List Event
flow count = replicate count Event.Flow

abbrev pub lose : ℕ → List Event
lose count = replicate count Event.Lose

abbrev pub suspect : ℕ → ℕ → Event
suspect number other = Event.Suspect (shard number) (replica other)

abbrev pub sync : ℕ → ℕ → Event
sync number other = Event.Sync (shard number) (replica other)

abbrev pub crash : ℕ → ℕ → Event
crash number other = Event.Crash (shard number) (replica other)

-- what a report tells of a replica: shard, number, what it is doing, epoch, view, held packets, length and
-- settled number
abbrev pub line : ℕ → ℕ → ReplicaState → ℕ → ℕ → ℕ → ℕ → ℕ → ReplicaLine
line number other state at view held length settled =
    record {
      shard = shard number;
      replica = replica other;
      state = state;
      epoch = epoch at;
      view = record { 0 = view };
      held = held;
      length = length;
      settled = settled;
    }

abbrev pub places : List (ℕ × ℕ) → List (ShardId × ℕ)
places pairs = map (λ pair. (shard pair.0, pair.1)) pairs

-- a line of the order: transaction, outcome, and the stamp's epoch and places
abbrev pub ordered : TxnId → Outcome → ℕ → List (ℕ × ℕ) → OrderLine
ordered id outcome at pairs =
    record { id = id; outcome = outcome; stamp = record { epoch = epoch at; places = places pairs } }
