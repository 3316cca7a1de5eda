-- WHAT HOLDS AT EVERY MOMENT of a run that nothing disturbs: what is sent waits in a queue; each replica that is up has
-- the first packets of its shard; and each transaction is answered, or what it still needs is on its way.
use Rattle.std.specs.Prelude.{◌≡◌, ◌≤◌, ◌<◌, ◌+◌, ◌*◌, ℕ, true, false, Option, Some, is_some, List, [], ◌∷◌, ◌++◌, map, length, ⊤}
use Rattle.std.specs.List.{range_with_len}
use Rattle.eris_base.specs.declared.ids.ClientId.{ClientId}
use Rattle.eris_base.specs.declared.ids.Node.TheVariants.{Sequencer, Client}
use Rattle.eris_base.specs.declared.ids.Phase.{Phase}
use Rattle.eris_base.specs.declared.ids.ReplicaId.{ReplicaId}
use Rattle.eris_base.specs.declared.ids.ShardId.{ShardId}
use Rattle.eris_base.specs.declared.ids.TxnId.{TxnId}
use Rattle.eris_base.specs.declared.stamp.Stamp.{Stamp}
use Rattle.eris_base.specs.ConfigLimits.{ConfigValue}
use Rattle.eris_base.specs.Each.{Each}
use Rattle.eris_base.specs.Places.{number_in}
use Rattle.eris_txn.specs.declared.answer.Answer.{Answer}
use Rattle.eris_txn.specs.declared.body.Body.TheVariants.{Independent}
use Rattle.eris_txn.specs.declared.history.HistoryEvent.{HistoryEvent}
use Rattle.eris_txn.specs.declared.op.Op.{Op}
use Rattle.eris_txn.specs.declared.packet.Packet.{Packet}
use Rattle.eris_txn.specs.declared.txn.Txn.{Txn}
use Rattle.eris_txn.specs.Bodies.{has_shard, participants_of}
use Rattle.eris_txn.specs.Operations.{key_of}
use Rattle.eris_law_client.specs.Counts.{message_of}
use Rattle.eris_msg.specs.declared.message.Message.{Message}
use Rattle.eris_msg.specs.declared.outgoing.Outgoing.{Outgoing}
use Rattle.eris_sequencer.specs.declared.stamping.Stamping.{Stamping}
use Rattle.eris_sequencer.specs.Stamps.{counter_of}
use Rattle.eris_rules.specs.declared.transaction.Course.TheVariants.{Executing}
use Rattle.eris_rules.specs.declared.transaction.Transaction.{Transaction}
use Rattle.eris_rules.specs.declared.transaction.Vote.{Vote}
use Rattle.eris_rules.specs.Addressees.{replica_count}
use Rattle.eris_rules.specs.ClientStates.{ClientState, transaction_at}
use Rattle.eris_rules.specs.InPlace.{names_exactly}
use Rattle.eris_rules.specs.Known.{knows_client, knows_keys, knows_replica, knows_shard, knows_stamp}
use Rattle.eris_rules.specs.ReplicaStates.{ReplicaState}
use Rattle.eris_rules.specs.Votes.{is_complete, vote_fits}
use Rattle.eris_rules.specs.Worlds.{WorldState, client_at, replica_at}
use Rattle.eris_law_epoch.specs.Members.{In}
use Rattle.eris_law_calm.specs.Carried.{carrying, coming}
use Rattle.eris_law_calm.specs.Crashes.{how_many_down, is_down}
use Rattle.eris_law_calm.specs.Packets.{IsWhole}
use Rattle.eris_law_calm.specs.Received.{state_after}
use Rattle.eris_law_calm.specs.Noted.{CountsAll, HasVote, vote_by}

-- ---- the messages
abbrev pub asking : TxnId → List Op → Outgoing
asking id ops = record { to = Sequencer; message = Message.Ask id.client id (Independent ops) }

abbrev pub packet_of : TxnId → List Op → Stamp → Packet
packet_of id ops stamp = record { stamp = stamp; id = id; asker = id.client; body = Independent ops }

abbrev pub voting : TxnId → Vote → Outgoing
voting id vote = record { to = Client id.client; message = message_of vote id Phase.Whole }

abbrev pub shards_of_ops : List Op → List ShardId
shards_of_ops ops = participants_of (Independent ops)

abbrev pub Submitted : List HistoryEvent → TxnId → List Op → Type 0
Submitted history id ops = In (HistoryEvent.Submit id (Txn.Whole ops)) history

-- it is answered
abbrev pub IsAnswered : TxnId → List HistoryEvent → Type 0
IsAnswered id history = (answer : Answer) × In (HistoryEvent.Answer id answer) history

-- a transaction that was submitted, of a client and on shards of the config
pub record IsJob (config : ConfigValue) (history : List HistoryEvent) (id : TxnId) (ops : List Op) : Type 0 where
  pub submitted : Submitted history id ops
  pub client : knows_client config id.client ≡ true
  pub keys : knows_keys config (map key_of ops) ≡ true
  pub some : 0 < length ops

-- its packet to a replica of a shard
pub record IsCarried (config : ConfigValue) (ops : List Op) (stamp : Stamp) (shard : ShardId) (replica : ℕ) : Type 0 where
  pub epoch : stamp.epoch ≡ record { 0 = 0 }
  pub named : has_shard (shards_of_ops ops) shard ≡ true
  pub names : names_exactly stamp (shards_of_ops ops) ≡ true
  pub known : knows_stamp config stamp ≡ true
  pub low : replica < replica_count config

-- a vote for it
pub record IsRight (config : ConfigValue) (ops : List Op) (vote : Vote) : Type 0 where
  pub fits : vote_fits config.f (Independent ops) vote ≡ true
  pub shard : knows_shard config vote.shard ≡ true
  pub replica : knows_replica config vote.replica ≡ true
  pub stamp : knows_stamp config vote.stamp ≡ true

-- EVERY MESSAGE on its way asks for a stamp, carries a packet, or is a vote
pub data Fine (config : ConfigValue) (history : List HistoryEvent) : Outgoing → Type 0 where
  Asks : (id : TxnId) (ops : List Op) → IsJob config history id ops → Fine config history (asking id ops)
  Carries : (id : TxnId) (ops : List Op) (stamp : Stamp) (shard : ShardId) (replica : ℕ) → IsJob config history id ops → IsCarried config ops stamp shard replica → Fine config history (carrying (packet_of id ops stamp) shard replica)
  Votes : (id : TxnId) (ops : List Op) (vote : Vote) → IsJob config history id ops → IsRight config ops vote → Fine config history (voting id vote)

-- how many packets each can still cause, itself counted
abbrev pub weight : ConfigValue → Message → ℕ
weight config (Message.Ask asker id body) = 1 + length (participants_of body) * (2 * replica_count config)
weight config (Message.Txn packet) = 2
weight config message = 1

abbrev pub weigh : ConfigValue → List Outgoing → ℕ
weigh config [] = 0
weigh config (one ∷ sent) = weight config one.message + weigh config sent

-- ---- the queue: what was delivered, and what waits
pub record IsQueue (sent : List Outgoing) (waiting : List ℕ) (done rest : List Outgoing) : Type 0 where
  pub sent_is : sent ≡ done ++ rest
  pub waiting_is : waiting ≡ range_with_len (length done) (length rest)

-- ---- a replica
-- packets whose numbers on the shard follow one
abbrev pub NumberedFrom : ShardId → ℕ → List Packet → Type 0
NumberedFrom shard from [] = ⊤
NumberedFrom shard from (packet ∷ packets) = (number_in packet.stamp.places shard ≡ Some (from + 1)) × NumberedFrom shard (from + 1) packets

-- it is up, and has so many
pub record Lives (replicas : List (List ReplicaState)) (history : List HistoryEvent) (shard : ShardId) (replica : ReplicaId) (count : ℕ) : Type 0 where
  pub packets : List Packet
  pub at : replica_at replicas shard replica ≡ Some (state_after shard packets)
  pub many : length packets ≡ count
  pub whole : Each (IsWhole (Submitted history)) packets

pub record IsCell (crashed : List (ShardId × ReplicaId)) (replicas : List (List ReplicaState)) (history : List HistoryEvent) (done : ℕ) (rest : List Outgoing) (counters : List ℕ) (shard : ShardId) (replica : ReplicaId) : Type 0 where
  pub taken : ℕ
  pub low : taken ≤ done
  pub counter : counter_of counters shard ≡ taken + length (coming shard replica rest)
  pub numbered : NumberedFrom shard taken (coming shard replica rest)
  pub lives : is_down crashed shard.0 replica.0 ≡ false → Lives replicas history shard replica taken

-- ---- a transaction
-- how far its packet is at a replica: on its way; lost with the replica; its vote on its way; or its vote noted
pub data Stage (crashed : List (ShardId × ReplicaId)) (rest : List Outgoing) (id : TxnId) (ops : List Op) (stamp : Stamp) (votes : List Vote) (shard : ShardId) (replica : ℕ) : Type 0 where
  Coming : In (carrying (packet_of id ops stamp) shard replica) rest → Stage crashed rest id ops stamp votes shard replica
  Down : is_down crashed shard.0 replica ≡ true → Stage crashed rest id ops stamp votes shard replica
  Said : (found : Option Answer) → (replica ≡ 0 → is_some found ≡ true) → In (voting id (vote_by shard (record { 0 = replica }) stamp found)) rest → Stage crashed rest id ops stamp votes shard replica
  Heard : HasVote votes shard (record { 0 = replica }) stamp → Stage crashed rest id ops stamp votes shard replica

-- and on its whole way: it isn't stamped yet, or it was sent to each replica of each participant
pub data Way (config : ConfigValue) (crashed : List (ShardId × ReplicaId)) (rest : List Outgoing) (id : TxnId) (ops : List Op) (votes : List Vote) : Type 0 where
  Unstamped : In (asking id ops) rest → Way config crashed rest id ops votes
  Spread : (stamp : Stamp) → ((shard : ShardId) (replica : ℕ) → has_shard (shards_of_ops ops) shard ≡ true → replica < replica_count config → Stage crashed rest id ops stamp votes shard replica) → Way config crashed rest id ops votes

pub record IsOpen (f : ℕ) (transaction : Transaction) : Type 0 where
  pub unfinished : transaction.finished ≡ false
  pub incomplete : is_complete transaction ≡ false
  pub counts : CountsAll f transaction.votes transaction.counted

-- it is answered, or it is open and on its way
pub data Progress (config : ConfigValue) (history : List HistoryEvent) (crashed : List (ShardId × ReplicaId)) (rest : List Outgoing) (id : TxnId) (ops : List Op) (transaction : Transaction) : Type 0 where
  Done : transaction.finished ≡ true → IsAnswered id history → Progress config history crashed rest id ops transaction
  Open : IsOpen config.f transaction → Way config crashed rest id ops transaction.votes → Progress config history crashed rest id ops transaction

pub record Job (config : ConfigValue) (history : List HistoryEvent) (clients : List ClientState) (crashed : List (ShardId × ReplicaId)) (rest : List Outgoing) (id : TxnId) (ops : List Op) : Type 0 where
  pub is_job : IsJob config history id ops
  pub state : ClientState
  pub there : client_at clients id.client ≡ Some state
  pub old : id.number ≤ state.submitted
  pub transaction : Transaction
  pub found : transaction_at state id ≡ Some transaction
  pub course : transaction.course ≡ Executing ops
  pub progress : Progress config history crashed rest id ops transaction

-- ---- the world
pub record IsCalmWorld (config : ConfigValue) (limits : ShardId → ℕ) (budget : ℕ) (world : WorldState) (done rest : List Outgoing) : Type 0 where
  pub queue : IsQueue world.sent world.waiting done rest
  pub few_sent : length world.sent ≤ 262144
  pub weighs : weigh config rest ≤ budget
  pub stamping : Stamping
  pub stampings : world.stampings ≡ stamping ∷ []
  pub epoch : stamping.sequencer.epoch ≡ record { 0 = 0 }
  pub counters : length stamping.sequencer.counters ≡ config.shards
  pub fine : Each (Fine config world.history) rest
  pub cells : (shard : ShardId) (replica : ReplicaId) → shard.0 < config.shards → replica.0 < replica_count config → IsCell world.crashed world.replicas world.history (length done) rest stamping.sequencer.counters shard replica
  pub few : (shard : ShardId) → how_many_down world.crashed shard.0 ≤ limits shard
  pub first_up : (shard : ShardId) → is_down world.crashed shard.0 0 ≡ false
  pub clients : (client : ClientId) → knows_client config client ≡ true → (state : ClientState) × (client_at world.clients client ≡ Some state)
  pub whole : (id : TxnId) (txn : Txn) → In (HistoryEvent.Submit id txn) world.history → (ops : List Op) × (txn ≡ Txn.Whole ops)
  pub jobs : (id : TxnId) (ops : List Op) → Submitted world.history id ops → Job config world.history world.clients world.crashed rest id ops

abbrev pub IsCalm : ConfigValue → (ShardId → ℕ) → ℕ → WorldState → Type 0
IsCalm config limits budget world = (done : List Outgoing) × (rest : List Outgoing) × IsCalmWorld config limits budget world done rest
