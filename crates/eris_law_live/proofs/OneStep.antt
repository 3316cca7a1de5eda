-- ONE EVENT of a live run, by the states of the nodes: it is a step of one node; that node is as the step leaves it,
-- and each other is as it was.
use Rattle.std.proofs.Common.{◌≡◌, ◌==◌, List, [], Bool, true, false, cond, Option, Some, None, option_map, refl, sym, ap, ◌∙◌, subst}
use Rattle.std.specs.Prelude.{slice_get}
use Rattle.std.specs.List.{list_any}
use Rattle.std.proofs.lemmas.Bool.{and_from, and_parts, eqb-true}
use Rattle.std.proofs.lemmas.Option.{same_Some}
use Rattle.eris_base.specs.declared.ids.ClientId.{ClientId}
use Rattle.eris_base.specs.declared.ids.Epoch.{Epoch}
use Rattle.eris_base.specs.declared.ids.Node.{Node}
use Rattle.eris_base.specs.declared.ids.Node.TheVariants.{Sequencer, Coordinator, Replica, Client}
use Rattle.eris_base.specs.declared.ids.ReplicaId.{ReplicaId}
use Rattle.eris_base.specs.declared.ids.ShardId.{ShardId}
use Rattle.eris_base.proofs.Booleans.{number_self}
use Rattle.eris_base.proofs.IdLaws.{client_equal, shard_equal}
use Rattle.eris_msg.specs.declared.message.Message.{Message}
use Rattle.eris_msg.specs.declared.outgoing.Outgoing.{Outgoing}
use Rattle.eris_sequencer.specs.declared.stamping.Stamping.{Stamping}
use Rattle.eris_event.specs.declared.event.Event.{Event}
use Rattle.eris_rules.specs.declared.coord_input.CoordInput.{CoordInput}
use Rattle.eris_rules.specs.declared.replica_input.ReplicaInput.{ReplicaInput}
use Rattle.eris_rules.specs.ClientStates.{ClientState}
use Rattle.eris_rules.specs.CoordStates.{CoordState}
use Rattle.eris_rules.specs.Happenings.{happens}
use Rattle.eris_rules.specs.ReplicaStates.{ReplicaState}
use Rattle.eris_rules.specs.Worlds.{WorldState, client_at, has_crashed, replica_at, same_replica_of}
use Rattle.eris_law_epoch.proofs.Frame.{replica_equal}
use Rattle.eris_law_agreement.specs.NodeSteps.{ClientAct, NodeStep, NoStep, OfReplica, OfCoordinator, OfSequencer, Replaces, OfClient, client_after, client_sends, coordinator_after, delivery_of, heard_by, replica_sends, sends_of_step, stampings_after, step_of}
use Rattle.eris_law_agreement.specs.OwnSteps.{after_input, brings, brought, input_of, is_it, replica_hears, hears}
use Rattle.eris_law_agreement.proofs.Locality.{one_event}
use Rattle.eris_law_agreement.proofs.NodeLocality.{client_one, coordinator_one, stampings_one}
use Rattle.eris_law_live.specs.LiveBooks.{is_live, node_of_event}
use Rattle.eris_law_live.specs.LiveNodes.{live_config}
use Rattle.eris_law_live.specs.OwnStates.{OwnState, SequencersAre, CoordinatorIs, ReplicaIs, ClientIs, own_after, own_sends, own_state}

-- the node whose step it is
abbrev pub node_of_step : NodeStep → Option Node
node_of_step NoStep = None
node_of_step (OfReplica shard replica input) = Some (Replica shard replica)
node_of_step (OfCoordinator input) = Some Coordinator
node_of_step (OfSequencer epoch message) = Some Sequencer
node_of_step Replaces = Some Sequencer
node_of_step (OfClient client act) = Some (Client client)

-- ---- the step of an event is of the event's node
heard_node : (epoch : Epoch) (node : Node) (message : Message) → node_of_step (heard_by epoch node message) ≡ Some node
heard_node epoch Sequencer message = refl
heard_node epoch Coordinator message = refl
heard_node epoch (Replica shard replica) message = refl
heard_node epoch (Client client) message = refl

delivered_node : (epoch : Epoch) (found : Option Outgoing) → node_of_step (delivery_of epoch found) ≡ option_map (λ one. one.to) found
delivered_node epoch None = refl
delivered_node epoch (Some one) = heard_node epoch one.to one.message

pub event_node : (world : WorldState) (event : Event) → is_live event ≡ true → node_of_step (step_of world event) ≡ node_of_event world.sent event
unfolding step_of
event_node world (Event.Submit client ops) live = refl
event_node world (Event.General client plan) live = refl
event_node world (Event.Retry client number) live = refl
event_node world (Event.Abort asker id) live = absurd (cc)
event_node world (Event.Deliver packet epoch) live = delivered_node _ (slice_get world.sent packet)
event_node world Event.Flow live = absurd (cc)
event_node world Event.Lose live = absurd (cc)
event_node world (Event.Probe shard replica) live = refl
event_node world (Event.Suspect shard replica) live = refl
event_node world (Event.Sync shard replica) live = refl
event_node world (Event.Crash shard replica) live = absurd (cc)
event_node world Event.Nudge live = refl
event_node world Event.Replace live = refl
event_node world (Event.Noise node bytes) live = absurd (cc)

-- ---- the input that an event is to a replica, by its step
input_in : ShardId → ReplicaId → NodeStep → Option ReplicaInput
input_in shard replica NoStep = None
input_in shard replica (OfReplica a b input) = brought shard replica a b input
input_in shard replica (OfCoordinator input) = None
input_in shard replica (OfSequencer epoch message) = None
input_in shard replica Replaces = None
input_in shard replica (OfClient client act) = None

heard_input : (shard : ShardId) (replica : ReplicaId) (epoch : Epoch) (node : Node) (message : Message) → replica_hears shard replica node message ≡ input_in shard replica (heard_by epoch node message)
unfolding input_in
heard_input shard replica epoch Sequencer message = refl
heard_input shard replica epoch Coordinator message = refl
heard_input shard replica epoch (Replica a b) message = refl
heard_input shard replica epoch (Client client) message = refl

delivered_input : (shard : ShardId) (replica : ReplicaId) (epoch : Epoch) (found : Option Outgoing) → hears shard replica found ≡ input_in shard replica (delivery_of epoch found)
unfolding input_in
delivered_input shard replica epoch None = refl
delivered_input shard replica epoch (Some one) = heard_input shard replica epoch one.to one.message

brought_input : (world : WorldState) (event : Event) (shard : ShardId) (replica : ReplicaId) → is_live event ≡ true → brings world event shard replica ≡ input_in shard replica (step_of world event)
unfolding step_of input_in
brought_input world (Event.Submit client ops) shard replica live = refl
brought_input world (Event.General client plan) shard replica live = refl
brought_input world (Event.Retry client number) shard replica live = refl
brought_input world (Event.Abort asker id) shard replica live = absurd (cc)
brought_input world (Event.Deliver packet epoch) shard replica live = delivered_input shard replica _ (slice_get world.sent packet)
brought_input world Event.Flow shard replica live = absurd (cc)
brought_input world Event.Lose shard replica live = absurd (cc)
brought_input world (Event.Probe a b) shard replica live = refl
brought_input world (Event.Suspect a b) shard replica live = refl
brought_input world (Event.Sync a b) shard replica live = refl
brought_input world (Event.Crash a b) shard replica live = absurd (cc)
brought_input world Event.Nudge shard replica live = refl
brought_input world Event.Replace shard replica live = refl
brought_input world (Event.Noise node bytes) shard replica live = absurd (cc)

-- where nobody crashed
pub none_crashed : (world : WorldState) → world.crashed ≡ [] → (shard : ShardId) (replica : ReplicaId) → has_crashed world shard replica ≡ false
unfolding has_crashed
none_crashed world calm shard replica = ap (λ (pairs : List (ShardId × ReplicaId)). list_any (same_replica_of shard replica) pairs) calm

same_input : (world : WorldState) (event : Event) (shard : ShardId) (replica : ReplicaId) → world.crashed ≡ [] → is_live event ≡ true → input_of world event shard replica ≡ input_in shard replica (step_of world event)
unfolding input_of
same_input world event shard replica calm live =
    ap (λ (crashed : Bool). cond crashed None (brings world event shard replica)) (none_crashed world calm shard replica) ∙ brought_input world event shard replica live

-- ---- the node of the step
map_map : {X Y Z W : Type 0} (f : X → Y) (g : Y → Z) (h : X → W) (k : W → Z) (found : Option X) → ((x : X) → g (f x) ≡ k (h x)) → option_map g (option_map f found) ≡ option_map k (option_map h found)
map_map f g h k None same = refl
map_map f g h k (Some x) same = ap Some (same x)

it_self : (shard : ShardId) (replica : ReplicaId) → is_it shard replica shard replica ≡ true
it_self shard replica = and_from _ _ (number_self shard.0) (number_self replica.0)

module _ (world : WorldState) (event : Event) (calm : world.crashed ≡ []) (live : is_live event ≡ true) where
  abbrev after : WorldState
  after = happens live_config world event

  -- a node's state is as the step leaves it
  abbrev LeftBy : NodeStep → Node → Type 0
  LeftBy step node = own_state after node ≡ option_map (own_after step) (own_state world node)

  replica_left : (shard : ShardId) (replica : ReplicaId) (input : ReplicaInput) → step_of world event ≡ OfReplica shard replica input → LeftBy (OfReplica shard replica input) (Replica shard replica)
  unfolding own_state own_after input_in
  replica_left shard replica input is =
      let came : input_of world event shard replica ≡ Some input =
      same_input world event shard replica calm live ∙ ap (input_in shard replica) is ∙ ap (λ (mine : Bool). cond mine (Some input) None) (it_self shard replica) in
      ap (option_map ReplicaIs) (one_event live_config shard replica world event ∙ ap (λ (got : Option ReplicaInput). option_map (after_input live_config shard replica got) (replica_at world.replicas shard replica)) came)
      ∙ map_map (after_input live_config shard replica (Some input)) ReplicaIs ReplicaIs (own_after (OfReplica shard replica input)) (replica_at world.replicas shard replica) (λ state. refl)

  coordinator_left : (input : CoordInput) → step_of world event ≡ OfCoordinator input → LeftBy (OfCoordinator input) Coordinator
  unfolding own_state own_after
  coordinator_left input is = ap (λ (state : CoordState). Some (CoordinatorIs state)) (coordinator_one live_config world event ∙ ap (coordinator_after live_config world.coordinator) is)

  sequencer_left : (epoch : Epoch) (message : Message) → step_of world event ≡ OfSequencer epoch message → LeftBy (OfSequencer epoch message) Sequencer
  unfolding own_state own_after
  sequencer_left epoch message is = ap (λ (stampings : List Stamping). Some (SequencersAre stampings)) (stampings_one live_config world event ∙ ap (stampings_after live_config world.stampings) is)

  replace_left : step_of world event ≡ Replaces → LeftBy Replaces Sequencer
  unfolding own_state own_after
  replace_left is = ap (λ (stampings : List Stamping). Some (SequencersAre stampings)) (stampings_one live_config world event ∙ ap (stampings_after live_config world.stampings) is)

  client_left : (client : ClientId) (act : ClientAct) → step_of world event ≡ OfClient client act → LeftBy (OfClient client act) (Client client)
  unfolding own_state own_after
  client_left client act is =
      ap (option_map ClientIs) (client_one live_config client world event ∙ ap (λ (step : NodeStep). option_map (client_after live_config client step) (client_at world.clients client)) is)
      ∙ map_map (client_after live_config client (OfClient client act)) ClientIs ClientIs (own_after (OfClient client act)) (client_at world.clients client)
      (λ state. ap (λ (mine : Bool). ClientIs (cond mine (act (record { config = live_config; client = client }) state).state state)) (number_self client.0))

  left_by : (step : NodeStep) (node : Node) → step_of world event ≡ step → node_of_step step ≡ Some node → LeftBy step node
  left_by NoStep node is of = absurd (cc)
  left_by (OfReplica shard replica input) node is of = subst (LeftBy (OfReplica shard replica input)) (same_Some _ node of) (replica_left shard replica input is)
  left_by (OfCoordinator input) node is of = subst (LeftBy (OfCoordinator input)) (same_Some _ node of) (coordinator_left input is)
  left_by (OfSequencer epoch message) node is of = subst (LeftBy (OfSequencer epoch message)) (same_Some _ node of) (sequencer_left epoch message is)
  left_by Replaces node is of = subst (LeftBy Replaces) (same_Some _ node of) (replace_left is)
  left_by (OfClient client act) node is of = subst (LeftBy (OfClient client act)) (same_Some _ node of) (client_left client act is)

  -- THE NODE is as its step leaves it
  pub node_left : (node : Node) (state : OwnState) → node_of_event world.sent event ≡ Some node → own_state world node ≡ Some state
      → own_state (happens live_config world event) node ≡ Some (own_after (step_of world event) state)
  node_left node state of found =
      left_by (step_of world event) node refl (event_node world event live ∙ of) ∙ ap (option_map (own_after (step_of world event))) found

  -- ---- what it sends
  SendsBy : NodeStep → Node → Type 0
  SendsBy step node = (state : OwnState) → own_state world node ≡ Some state → sends_of_step live_config world step ≡ own_sends step state

  replica_sent : (shard : ShardId) (replica : ReplicaId) (input : ReplicaInput) → SendsBy (OfReplica shard replica input) (Replica shard replica)
  unfolding SendsBy own_state own_sends sends_of_step
  replica_sent shard replica input state found =
      ap (λ (crashed : Bool). cond crashed [] (replica_sends live_config shard replica input (replica_at world.replicas shard replica))) (none_crashed world calm shard replica)
      ∙ by_state (replica_at world.replicas shard replica) found
    where
      by_state : (held : Option ReplicaState) → option_map ReplicaIs held ≡ Some state → replica_sends live_config shard replica input held ≡ own_sends (OfReplica shard replica input) state
      by_state None h = absurd (cc)
      by_state (Some own) h = ap (own_sends (OfReplica shard replica input)) (same_Some (ReplicaIs own) state h)

  coordinator_sent : (input : CoordInput) → SendsBy (OfCoordinator input) Coordinator
  unfolding SendsBy own_state own_sends sends_of_step
  coordinator_sent input state found = ap (own_sends (OfCoordinator input)) (same_Some (CoordinatorIs world.coordinator) state found)

  sequencer_sent : (epoch : Epoch) (message : Message) → SendsBy (OfSequencer epoch message) Sequencer
  unfolding SendsBy own_state own_sends sends_of_step
  sequencer_sent epoch message state found = ap (own_sends (OfSequencer epoch message)) (same_Some (SequencersAre world.stampings) state found)

  replace_sent : SendsBy Replaces Sequencer
  unfolding SendsBy own_state own_sends sends_of_step
  replace_sent state found = ap (own_sends Replaces) (same_Some (SequencersAre world.stampings) state found)

  client_sent : (client : ClientId) (act : ClientAct) → SendsBy (OfClient client act) (Client client)
  unfolding SendsBy own_state own_sends sends_of_step
  client_sent client act state found = by_state (client_at world.clients client) found
    where
      by_state : (held : Option ClientState) → option_map ClientIs held ≡ Some state → client_sends live_config client act held ≡ own_sends (OfClient client act) state
      by_state None h = absurd (cc)
      by_state (Some own) h = ap (own_sends (OfClient client act)) (same_Some (ClientIs own) state h)

  sends_by : (step : NodeStep) (node : Node) → node_of_step step ≡ Some node → SendsBy step node
  sends_by NoStep node of = absurd (cc)
  sends_by (OfReplica shard replica input) node of = subst (SendsBy (OfReplica shard replica input)) (same_Some _ node of) (replica_sent shard replica input)
  sends_by (OfCoordinator input) node of = subst (SendsBy (OfCoordinator input)) (same_Some _ node of) (coordinator_sent input)
  sends_by (OfSequencer epoch message) node of = subst (SendsBy (OfSequencer epoch message)) (same_Some _ node of) (sequencer_sent epoch message)
  sends_by Replaces node of = subst (SendsBy Replaces) (same_Some _ node of) replace_sent
  sends_by (OfClient client act) node of = subst (SendsBy (OfClient client act)) (same_Some _ node of) (client_sent client act)

  -- WHAT IT SENDS is what the node's step sends
  pub node_sends : (node : Node) (state : OwnState) → node_of_event world.sent event ≡ Some node → own_state world node ≡ Some state
      → sends_of_step live_config world (step_of world event) ≡ own_sends (step_of world event) state
  unfolding SendsBy
  node_sends node state of found = sends_by (step_of world event) node (event_node world event live ∙ of) state found

  -- ---- each other node
  abbrev IsOther : NodeStep → Node → Type 0
  IsOther step node = node_of_step step ≡ Some node → ⊥

  stampings_rest : (step : NodeStep) → IsOther step Sequencer → stampings_after live_config world.stampings step ≡ world.stampings
  stampings_rest NoStep other = refl
  stampings_rest (OfReplica shard replica input) other = refl
  stampings_rest (OfCoordinator input) other = refl
  stampings_rest (OfSequencer epoch message) other = absurd (other refl)
  stampings_rest Replaces other = absurd (other refl)
  stampings_rest (OfClient client act) other = refl

  coordinator_rests : (step : NodeStep) → IsOther step Coordinator → coordinator_after live_config world.coordinator step ≡ world.coordinator
  coordinator_rests NoStep other = refl
  coordinator_rests (OfReplica shard replica input) other = refl
  coordinator_rests (OfCoordinator input) other = absurd (other refl)
  coordinator_rests (OfSequencer epoch message) other = refl
  coordinator_rests Replaces other = refl
  coordinator_rests (OfClient client act) other = refl

  same_node : (shard a : ShardId) (replica b : ReplicaId) → is_it shard replica a b ≡ true → ◌≡◌ {A = Option Node} (Some (Replica a b)) (Some (Replica shard replica))
  same_node shard a replica b is =
      let s : a ≡ shard = shard_equal a shard (eqb-true a.0 shard.0 (and_parts (a.0 == shard.0) (b.0 == replica.0) is).0) in
      let r : b ≡ replica = replica_equal b replica (eqb-true b.0 replica.0 (and_parts (a.0 == shard.0) (b.0 == replica.0) is).1) in
      ap (λ (x : ShardId). Some (Replica x b)) s ∙ ap (λ (y : ReplicaId). Some (Replica shard y)) r

  no_input : (shard : ShardId) (replica : ReplicaId) (step : NodeStep) → IsOther step (Replica shard replica) → input_in shard replica step ≡ None
  unfolding input_in
  no_input shard replica NoStep other = refl
  no_input shard replica (OfReplica a b input) other = by_test (is_it shard replica a b) refl
    where
      by_test : (test : Bool) → is_it shard replica a b ≡ test → cond test (Some input) None ≡ None
      by_test true is = absurd (other (same_node shard a replica b is))
      by_test false is = refl
  no_input shard replica (OfCoordinator input) other = refl
  no_input shard replica (OfSequencer epoch message) other = refl
  no_input shard replica Replaces other = refl
  no_input shard replica (OfClient client act) other = refl

  client_rests : (client : ClientId) (step : NodeStep) (state : ClientState) → IsOther step (Client client) → client_after live_config client step state ≡ state
  client_rests client NoStep state other = refl
  client_rests client (OfReplica shard replica input) state other = refl
  client_rests client (OfCoordinator input) state other = refl
  client_rests client (OfSequencer epoch message) state other = refl
  client_rests client Replaces state other = refl
  client_rests client (OfClient another act) state other = by_test (another.0 == client.0) refl
    where
      by_test : (test : Bool) → (another.0 == client.0) ≡ test → cond test (act (record { config = live_config; client = client }) state).state state ≡ state
      by_test true is = absurd (other (ap (λ (c : ClientId). Some (Client c)) (client_equal another client (eqb-true another.0 client.0 is))))
      by_test false is = refl

  map_same : {X : Type 0} (f : X → X) (found : Option X) → ((x : X) → f x ≡ x) → option_map f found ≡ found
  map_same f None same = refl
  map_same f (Some x) same = ap Some (same x)

  rests : (node : Node) → IsOther (step_of world event) node → own_state after node ≡ own_state world node
  unfolding own_state
  rests Sequencer other = ap (λ (stampings : List Stamping). Some (SequencersAre stampings)) (stampings_one live_config world event ∙ stampings_rest (step_of world event) other)
  rests Coordinator other = ap (λ (state : CoordState). Some (CoordinatorIs state)) (coordinator_one live_config world event ∙ coordinator_rests (step_of world event) other)
  rests (Replica shard replica) other =
      ap (option_map ReplicaIs)
      (one_event live_config shard replica world event
      ∙ ap (λ (got : Option ReplicaInput). option_map (after_input live_config shard replica got) (replica_at world.replicas shard replica)) (same_input world event shard replica calm live ∙ no_input shard replica (step_of world event) other)
      ∙ map_same (after_input live_config shard replica None) (replica_at world.replicas shard replica) (λ state. refl))
  rests (Client client) other =
      ap (option_map ClientIs)
      (client_one live_config client world event
      ∙ map_same (client_after live_config client (step_of world event)) (client_at world.clients client) (λ state. client_rests client (step_of world event) state other))

  -- EACH OTHER NODE is as it was
  pub others_rest : (node other : Node) → node_of_event world.sent event ≡ Some node → (other ≡ node → ⊥) → own_state (happens live_config world event) other ≡ own_state world other
  others_rest node other of apart = rests other (λ same. apart (same_Some other node (sym same ∙ event_node world event live ∙ of)))
