-- A NODE'S STEP IS NEVER REFUSED but for a limit.
use Rattle.std.proofs.Common.{◌≡◌, ℕ, ◌≤◌, ◌&&◌, not, nat_le, is_none, List, [], map, Bool, true, false, cond, Option, Some, None, option_map, refl, sym, ap, ◌∙◌, subst}
use Rattle.std.specs.Prelude.{slice_get}
use Rattle.std.specs.Option.{option_or}
use Rattle.std.proofs.lemmas.Bool.{le-leb}
use Rattle.std.proofs.lemmas.Option.{same_Some}
use Rattle.eris_base.specs.declared.ids.ClientId.{ClientId}
use Rattle.eris_base.specs.declared.ids.Epoch.{Epoch}
use Rattle.eris_base.specs.declared.ids.Node.{Node}
use Rattle.eris_base.specs.declared.ids.Node.TheVariants.{Sequencer, Coordinator, Replica, Client}
use Rattle.eris_base.specs.declared.ids.ReplicaId.{ReplicaId}
use Rattle.eris_base.specs.declared.ids.ShardId.{ShardId}
use Rattle.eris_base.specs.declared.ids.TxnId.{TxnId}
use Rattle.eris_txn.specs.declared.key.Key.{Key}
use Rattle.eris_txn.specs.Operations.{key_of}
use Rattle.eris_msg.specs.declared.outgoing.Outgoing.{Outgoing}
use Rattle.eris_sequencer.specs.Sequencers.{newest_of}
use Rattle.eris_event.specs.declared.event.Event.{Event}
use Rattle.eris_event.specs.declared.refusal.Refusal.{Refusal}
use Rattle.eris_event.specs.declared.refusal.Refusal.TheVariants.{NoSuchClient, NoSuchShard, NoSuchReplica, NoSuchTxn, Crashed}
use Rattle.eris_rules.specs.ClientStates.{ClientState}
use Rattle.eris_rules.specs.Happenings.{happens, submitted_at, transaction_of}
use Rattle.eris_rules.specs.Known.{knows_client, knows_keys, knows_replica, knows_shard}
use Rattle.eris_rules.specs.Refusals.{cause, deliver_cause, delivery_cause, is_crashed_node, is_sequencer, limit_met, names_sequencer, refusal, retry_cause, submit_cause, timer_cause}
use Rattle.eris_rules.specs.Worlds.{WorldState, client_at, has_crashed}
use Rattle.eris_journal.specs.Packets.{is_fetched}
use Rattle.eris_journal.specs.declared.fetched.Fetched.{Fetched}
use Rattle.eris_law_live.specs.LiveBooks.{WasFetched, is_live, node_of_event}
use Rattle.eris_law_live.specs.LiveNodes.{live_config}
use Rattle.eris_law_live.specs.LiveSteps.{MayDo, MayName}
use Rattle.eris_law_live.specs.OwnStates.{OwnState, SequencersAre, ClientIs, own_newest, own_state, own_transaction}
use Rattle.eris_law_live.proofs.Nodes.{IsOfSystem}
use Rattle.eris_law_live.proofs.OneStep.{none_crashed}

-- ---- what a node may do is of a live kind, and its own
pub may_live : (node : Node) (fetched : List Fetched) (state : OwnState) (event : Event) → MayDo node fetched state event → is_live event ≡ true
may_live node fetched state (Event.Submit client ops) may = refl
may_live node fetched state (Event.General client plan) may = refl
may_live node fetched state (Event.Retry client number) may = refl
may_live node fetched state (Event.Abort asker id) may = absurd may
may_live node fetched state (Event.Deliver number epoch) may = refl
may_live node fetched state Event.Flow may = absurd may
may_live node fetched state Event.Lose may = absurd may
may_live node fetched state (Event.Probe shard replica) may = refl
may_live node fetched state (Event.Suspect shard replica) may = refl
may_live node fetched state (Event.Sync shard replica) may = refl
may_live node fetched state (Event.Crash shard replica) may = absurd may
may_live node fetched state Event.Nudge may = refl
may_live node fetched state Event.Replace may = refl
may_live node fetched state (Event.Noise to bytes) may = absurd may

pub may_fetched : (node : Node) (fetched : List Fetched) (state : OwnState) (event : Event) → MayDo node fetched state event → WasFetched fetched event
may_fetched node fetched state (Event.Submit client ops) may = tt
may_fetched node fetched state (Event.General client plan) may = tt
may_fetched node fetched state (Event.Retry client number) may = tt
may_fetched node fetched state (Event.Abort asker id) may = tt
may_fetched node fetched state (Event.Deliver number epoch) may = may.0
may_fetched node fetched state Event.Flow may = tt
may_fetched node fetched state Event.Lose may = tt
may_fetched node fetched state (Event.Probe shard replica) may = tt
may_fetched node fetched state (Event.Suspect shard replica) may = tt
may_fetched node fetched state (Event.Sync shard replica) may = tt
may_fetched node fetched state (Event.Crash shard replica) may = tt
may_fetched node fetched state Event.Nudge may = tt
may_fetched node fetched state Event.Replace may = tt
may_fetched node fetched state (Event.Noise to bytes) may = tt

-- each fetched packet was sent to the node
abbrev pub FetchedFor : List Outgoing → Node → List Fetched → Type 0
FetchedFor sent node fetched = (number : ℕ) → is_fetched number fetched ≡ true → (one : Outgoing) × (slice_get sent number ≡ Some one) × (one.to ≡ node)

pub may_owned : (sent : List Outgoing) (node : Node) (fetched : List Fetched) (state : OwnState) (event : Event) → FetchedFor sent node fetched → MayDo node fetched state event → node_of_event sent event ≡ Some node
may_owned sent node fetched state (Event.Submit client ops) right may = ap Some (sym may.0)
may_owned sent node fetched state (Event.General client plan) right may = ap Some (sym may.0)
may_owned sent node fetched state (Event.Retry client number) right may = ap Some (sym may.0)
may_owned sent node fetched state (Event.Abort asker id) right may = absurd may
may_owned sent node fetched state (Event.Deliver number epoch) right may =
    let found = right number may.0 in
    ap (option_map (λ (one : Outgoing). one.to)) found.1 ∙ ap Some found.2
may_owned sent node fetched state Event.Flow right may = absurd may
may_owned sent node fetched state Event.Lose right may = absurd may
may_owned sent node fetched state (Event.Probe shard replica) right may = ap Some (sym may)
may_owned sent node fetched state (Event.Suspect shard replica) right may = ap Some (sym may)
may_owned sent node fetched state (Event.Sync shard replica) right may = ap Some (sym may)
may_owned sent node fetched state (Event.Crash shard replica) right may = absurd may
may_owned sent node fetched state Event.Nudge right may = ap Some (sym may)
may_owned sent node fetched state Event.Replace right may = ap Some (sym may.0)
may_owned sent node fetched state (Event.Noise to bytes) right may = absurd may

-- ---- tests that pass
two_pass : (a b : Bool) (x y : Refusal) → a ≡ true → b ≡ true → cond (not a) (Some x) (cond (not b) (Some y) None) ≡ None
two_pass true true x y one two = refl
two_pass true false x y one two = absurd (cc)
two_pass false b x y one two = absurd (cc)

-- ---- why a node's own event has no cause to be refused
client_known : (client : ClientId) (node : Node) → IsOfSystem node → node ≡ Client client → knows_client live_config client ≡ true
unfolding IsOfSystem
client_known client node known is = subst IsOfSystem is known

submit_free : (node : Node) (client : ClientId) (keys : List Key) → IsOfSystem node → node ≡ Client client → knows_keys live_config keys ≡ true → submit_cause live_config client keys ≡ None
unfolding submit_cause
submit_free node client keys known is fine = two_pass (knows_client live_config client) (knows_keys live_config keys) NoSuchClient NoSuchShard (client_known client node known is) fine

-- a client's transactions, as it knows them itself
own_has : (world : WorldState) (client : ClientId) (state : OwnState) (id : TxnId) → own_state world (Client client) ≡ Some state → own_transaction state id ≡ transaction_of (client_at world.clients client) id
unfolding own_state
own_has world client state id found = by_state (client_at world.clients client) found
  where
    by_state : (held : Option ClientState) → option_map ClientIs held ≡ Some state → own_transaction state id ≡ transaction_of held id
    by_state None h = absurd (cc)
    by_state (Some own) h = ap (λ (one : OwnState). own_transaction one id) (sym (same_Some (ClientIs own) state h))

is_there : (a b : Bool) → a ≡ true → b ≡ false → cond (not a) (Some NoSuchClient) (cond b (Some NoSuchTxn) None) ≡ None
is_there true true one two = absurd (cc)
is_there true false one two = refl
is_there false b one two = absurd (cc)

retry_free : (world : WorldState) (node : Node) (client : ClientId) (number : ℕ) (state : OwnState) → IsOfSystem node → node ≡ Client client → own_state world node ≡ Some state
    → is_none (own_transaction state (record { client = client; number = number })) ≡ false → retry_cause live_config world client number ≡ None
unfolding retry_cause submitted_at
retry_free world node client number state known is found has =
    is_there (knows_client live_config client) (is_none (transaction_of (client_at world.clients client) (record { client = client; number = number }))) (client_known client node known is)
    (ap is_none (sym (own_has world client state (record { client = client; number = number }) (subst (λ (n : Node). own_state world n ≡ Some state) is found))) ∙ has)

none_down : (world : WorldState) (node : Node) → world.crashed ≡ [] → is_crashed_node world node ≡ false
none_down world Sequencer calm = refl
none_down world Coordinator calm = refl
none_down world (Replica shard replica) calm = none_crashed world calm shard replica
none_down world (Client client) calm = refl

named_right : (world : WorldState) (node : Node) (state : OwnState) (epoch : Option Epoch) → own_state world node ≡ Some state → MayName node state epoch → names_sequencer world node epoch ≡ true
unfolding own_state
named_right world node state None found may = refl
named_right world node state (Some epoch) found may =
    let is : SequencersAre world.stampings ≡ state = same_Some (SequencersAre world.stampings) state (subst (λ (n : Node). own_state world n ≡ Some state) may.0 found) in
    let low : epoch.0 ≤ (newest_of world.stampings).0 = subst (λ (own : OwnState). epoch.0 ≤ (own_newest own).0) (sym is) may.1 in
    ap (λ (n : Node). is_sequencer n && nat_le epoch.0 (newest_of world.stampings).0) may.0 ∙ le-leb epoch.0 (newest_of world.stampings).0 low

not_down : (a b : Bool) → a ≡ false → b ≡ true → cond a (Some Crashed) (cond (not b) (Some Refusal.NoSuchSequencer) None) ≡ None
not_down true b one two = absurd (cc)
not_down false true one two = refl
not_down false false one two = absurd (cc)

deliver_free : (world : WorldState) (node : Node) (fetched : List Fetched) (state : OwnState) (number : ℕ) (epoch : Option Epoch) → world.crashed ≡ [] → own_state world node ≡ Some state
    → FetchedFor world.sent node fetched → is_fetched number fetched ≡ true → MayName node state epoch → deliver_cause world epoch (slice_get world.sent number) ≡ None
unfolding delivery_cause
deliver_free world node fetched state number epoch calm found right has may =
    let one = right number has in
    ap (deliver_cause world epoch) one.1
    ∙ ap (delivery_cause world epoch) one.2
    ∙ not_down (is_crashed_node world node) (names_sequencer world node epoch) (none_down world node calm) (named_right world node state epoch found may)

stands_up : (a b c : Bool) → a ≡ true → b ≡ true → c ≡ false → cond (not (a && b)) (Some NoSuchReplica) (cond c (Some Crashed) None) ≡ None
stands_up true true true one two three = absurd (cc)
stands_up true true false one two three = refl
stands_up true false c one two three = absurd (cc)
stands_up false b c one two three = absurd (cc)

timer_free : (world : WorldState) (node : Node) (shard : ShardId) (replica : ReplicaId) → world.crashed ≡ [] → IsOfSystem node → node ≡ Replica shard replica → timer_cause live_config world shard replica ≡ None
unfolding timer_cause IsOfSystem
timer_free world node shard replica calm known is =
    let both = subst IsOfSystem is known in
    stands_up (knows_shard live_config shard) (knows_replica live_config replica) (has_crashed world shard replica) both.0 both.1 (none_crashed world calm shard replica)

-- THERE IS NO CAUSE
pub no_cause : (world : WorldState) (node : Node) (fetched : List Fetched) (state : OwnState) (event : Event) → world.crashed ≡ [] → IsOfSystem node → own_state world node ≡ Some state
    → FetchedFor world.sent node fetched → MayDo node fetched state event → cause live_config world event ≡ None
unfolding cause
no_cause world node fetched state (Event.Submit client ops) calm known found right may = submit_free node client (map key_of ops) known may.0 may.1
no_cause world node fetched state (Event.General client plan) calm known found right may = submit_free node client plan.keys known may.0 may.1
no_cause world node fetched state (Event.Retry client number) calm known found right may = retry_free world node client number state known may.0 found may.1
no_cause world node fetched state (Event.Abort asker id) calm known found right may = absurd may
no_cause world node fetched state (Event.Deliver number epoch) calm known found right may = deliver_free world node fetched state number epoch calm found right may.0 may.1
no_cause world node fetched state Event.Flow calm known found right may = absurd may
no_cause world node fetched state Event.Lose calm known found right may = absurd may
no_cause world node fetched state (Event.Probe shard replica) calm known found right may = timer_free world node shard replica calm known may
no_cause world node fetched state (Event.Suspect shard replica) calm known found right may = timer_free world node shard replica calm known may
no_cause world node fetched state (Event.Sync shard replica) calm known found right may = timer_free world node shard replica calm known may
no_cause world node fetched state (Event.Crash shard replica) calm known found right may = absurd may
no_cause world node fetched state Event.Nudge calm known found right may = refl
no_cause world node fetched state Event.Replace calm known found right may = refl
no_cause world node fetched state (Event.Noise to bytes) calm known found right may = absurd may

pub only_limits : (world : WorldState) (event : Event) → cause live_config world event ≡ None → refusal live_config world event ≡ limit_met (happens live_config world event).sent
unfolding refusal
only_limits world event none = ap (λ (why : Option Refusal). option_or why (limit_met (happens live_config world event).sent)) none
