-- What a step of a node makes of a world: the rules' own world after it. Used by each call that hands something to a
-- node.
use Rattle.std.proofs.Common.{◌≡◌, ◌<◌, ◌++◌, ◌==◌, not, ℕ, zero, suc, true, false, cond, List, [], ◌∷◌, length, arith, Option, Some, None, Result, Ok, Err, refl, ap, sym, subst, ◌∙◌}
use Rattle.std.specs.Prelude.{OnOk, option_map, slice_get}
use Rattle.std.specs.List.{filter, list_any, range_with_len}
use Rattle.std.proofs.lemmas.List.{append-nil}
use Rattle.eris_base.specs.declared.ids.ClientId.{ClientId}
use Rattle.eris_base.specs.declared.ids.Epoch.{Epoch}
use Rattle.eris_base.specs.declared.ids.Node.{Node}
use Rattle.eris_base.specs.declared.ids.TxnId.{TxnId}
use Rattle.eris_base.specs.declared.ids.ReplicaId.{ReplicaId}
use Rattle.eris_base.specs.declared.ids.ShardId.{ShardId}
use Rattle.eris_base.specs.ConfigLimits.{ConfigValue}
use Rattle.eris_txn.specs.declared.history.HistoryEvent.{HistoryEvent}
use Rattle.eris_txn.specs.declared.key.Key.{Key}
use Rattle.eris_txn.specs.PlanValues.{PlanValue}
use Rattle.eris_network.specs.declared.send_fault.SendFault.{SendFault}
use Rattle.eris_network.specs.Limits.{IsMetBy}
use Rattle.eris_network.specs.Networks.{IsSpelledBy}
use Rattle.eris_msg.specs.Spellings.{IsSpelling}
use Rattle.eris_msg.specs.declared.message.Message.{Message}
use Rattle.eris_msg.specs.declared.outgoing.Outgoing.{Outgoing}
use Rattle.eris_nodes.specs.ClientRows.{ClientsOut, clients_act, keys_in, one_acts, plan_keys}
use Rattle.eris_nodes.specs.declared.act.Act.{Act}
use Rattle.eris_nodes.specs.Acts.{acts}
use Rattle.eris_nodes.specs.ReplicaRows.{ReplicasOut, one_of_all_steps, replicas_step}
use Rattle.eris_rules.specs.declared.coord_input.CoordInput.{CoordInput}
use Rattle.eris_rules.specs.declared.replica_input.ReplicaInput.{ReplicaInput}
use Rattle.eris_rules.specs.ClientStates.{ClientIdentity, ClientOut, ClientState}
use Rattle.eris_rules.specs.Coordinators.{coord_step}
use Rattle.eris_rules.specs.CoordStates.{CoordOut, CoordState}
use Rattle.eris_rules.specs.Clients.{abort}
use Rattle.eris_rules.specs.Happenings.{aborts_plan, arrives, comes_to, delivers, plan_of_transaction, submitted_at, after_client, after_coordinator, after_replica, after_sequencer, client_acts, client_acts_by, coordinator_takes, replica_steps, replica_takes, sequencer_takes}
use Rattle.eris_rules.specs.Refusals.{frame_sizes, limit_met}
use Rattle.eris_rules.specs.ReplicaStates.{ReplicaState}
use Rattle.eris_rules.specs.Worlds.{WorldState, client_at, has_crashed, no_longer_waiting, replica_at, same_replica_of, with_event, with_sends}
use Rattle.eris_sequencer.specs.declared.stamping.Stamping.{Stamping}
use Rattle.eris_sequencer.specs.Asks.{Asked, ask}
use Rattle.eris_world.specs.Becoming.{Becomes, after_clients, after_replicas}
use Rattle.eris_world.specs.WorldValues.{WorldValue}

-- where nothing is sent nothing changes
pub nothing_sent : (world : WorldState) → with_sends world [] ≡ world
unfolding with_sends
nothing_sent world = λ i. record world { sent = append-nil world.sent i; waiting = append-nil world.waiting i }

-- what was sent stands behind what was sent before, and waits
pub sent_then : (world : WorldState) (sends sent : List Outgoing) (waiting : List ℕ) → sent ≡ world.sent ++ sends → waiting ≡ world.waiting ++ range_with_len (length world.sent) (length sends)
    → record world { sent = sent; waiting = waiting } ≡ with_sends world sends
unfolding with_sends
sent_then world sends sent waiting e h = λ i. record world { sent = e i; waiting = h i }

-- ---- replicas
replicas_by : (config : ConfigValue) (world : WorldState) (shard : ShardId) (replica : ReplicaId) (input : ReplicaInput) (o : Option ReplicaState)
    → after_replicas world (one_of_all_steps config world.replicas shard replica input o) ≡ replica_steps config world shard replica input o
unfolding after_replica
replicas_by config world shard replica input None = nothing_sent world
replicas_by config world shard replica input (Some state) = refl

pub replicas_take : (config : ConfigValue) (world : WorldState) (shard : ShardId) (replica : ReplicaId) (input : ReplicaInput) (out : ReplicasOut) → has_crashed world shard replica ≡ false
    → out ≡ replicas_step config world.replicas shard replica input → after_replicas world out ≡ replica_takes config world shard replica input
unfolding replica_takes replicas_step
replicas_take config world shard replica input out alive e =
    ap (after_replicas world) e ∙ replicas_by config world shard replica input (replica_at world.replicas shard replica)
    ∙ ap (λ crashed. cond crashed world (replica_steps config world shard replica input (replica_at world.replicas shard replica))) (sym alive)

pub crashed_takes_none : (config : ConfigValue) (world : WorldState) (shard : ShardId) (replica : ReplicaId) (input : ReplicaInput) → has_crashed world shard replica ≡ true
    → replica_takes config world shard replica input ≡ world
unfolding replica_takes
crashed_takes_none config world shard replica input crashed =
    ap (λ z. cond z world (replica_steps config world shard replica input (replica_at world.replicas shard replica))) crashed

-- ---- clients
clients_by : (config : ConfigValue) (world : WorldState) (client : ClientId) (act : ClientIdentity → ClientState → ClientOut) (o : Option ClientState)
    → after_clients world (one_acts config world.clients client act o) ≡ client_acts_by config world client act o
unfolding after_client
clients_by config world client act None = nothing_sent world
clients_by config world client act (Some state) = refl

pub clients_take : (config : ConfigValue) (world : WorldState) (client : ClientId) (act : ClientIdentity → ClientState → ClientOut) (out : ClientsOut)
    → out ≡ clients_act config world.clients client act → after_clients world out ≡ client_acts config world client act
unfolding client_acts clients_act
clients_take config world client act out e = ap (after_clients world) e ∙ clients_by config world client act (client_at world.clients client)

-- ---- the coordinator and the sequencers
pub coordinator_took : (config : ConfigValue) (world : WorldState) (input : CoordInput) (out : CoordOut) → out ≡ coord_step config world.coordinator input
    → with_sends (record world { coordinator = out.state }) out.sends ≡ coordinator_takes config world input
unfolding coordinator_takes after_coordinator
coordinator_took config world input out e = ap (λ (z : CoordOut). with_sends (record world { coordinator = z.state }) z.sends) e

pub sequencer_took : (config : ConfigValue) (world : WorldState) (epoch : Epoch) (message : Message) (out : Asked) → out ≡ ask config world.stampings epoch message
    → with_sends (record world { stampings = out.stampings }) out.sends ≡ sequencer_takes config world epoch message
unfolding sequencer_takes after_sequencer
sequencer_took config world epoch message out e = ap (λ (z : Asked). with_sends (record world { stampings = z.stampings }) z.sends) e

-- ---- becoming
pub becomes : (before : WorldValue) (made state : WorldState) → before.spent ≡ false → made ≡ state → limit_met made.sent ≡ None
    → Becomes before (record { config = before.config; state = made; spent = false }) state
becomes before made state unspent e room =
    record {
      world = λ i. record { config = before.config; state = e i; spent = sym unspent i };
      room = ap (λ (z : WorldState). limit_met z.sent) (sym e) ∙ room;
    }

pub becomes_then : (before middle after : WorldValue) (state next : WorldState) → Becomes before middle state → Becomes middle after next → Becomes before after next
becomes_then before middle after state next h k =
    record {
      world = k.world ∙ ap (λ (z : WorldValue). let made : WorldValue = record z { state = next } in made) h.world;
      room = k.room;
    }

pub stays_so : (before : WorldValue) (state : WorldState) → before.state ≡ state → limit_met before.state.sent ≡ None → Becomes before before state
stays_so before state e room =
    record {
      world = ap (λ (z : WorldState). let made : WorldValue = record before { state = z } in made) e;
      room = ap (λ (z : WorldState). limit_met z.sent) (sym e) ∙ room;
    }

-- ---- what each call shows: `view` says that the kept parts are the world as the call began
spent_too : (v old : WorldValue) → v ≡ old → old.spent ≡ false → v.spent ≡ false
spent_too v old view unspent = ap (λ (z : WorldValue). z.spent) view ∙ unspent

-- a node that hears noise stays as it was, and so does the world
pub noise_ok : (v old : WorldValue) → v ≡ old → (made : WorldState) → old.spent ≡ false → made ≡ v.state → limit_met v.state.sent ≡ None
    → Becomes old (record { config = v.config; state = made; spent = false }) old.state
noise_ok v old view made unspent e room =
    let new : WorldValue = record { config = v.config; state = made; spent = false } in
    subst (λ (z : WorldValue). Becomes z new z.state) view
    (becomes v made v.state (spent_too v old view unspent) e (ap (λ (z : WorldState). limit_met z.sent) e ∙ room))

pub replica_ok : (v old : WorldValue) → v ≡ old → (shard : ShardId) (replica : ReplicaId) (input : ReplicaInput) (rows : List (List ReplicaState)) (sends told sent : List Outgoing) (waiting : List ℕ)
    → old.spent ≡ false → has_crashed old.state shard replica ≡ false
    → ◌≡◌ {A = ReplicasOut} (record { rows = rows; sends = sends }) (replicas_step v.config v.state.replicas shard replica input) → told ≡ sends
    → sent ≡ v.state.sent ++ told → waiting ≡ v.state.waiting ++ range_with_len (length v.state.sent) (length told) → limit_met (v.state.sent ++ told) ≡ None
    → Becomes old (record { config = v.config; state = record v.state { replicas = rows; sent = sent; waiting = waiting }; spent = false }) (replica_takes old.config old.state shard replica input)
replica_ok v old view shard replica input rows sends told sent waiting unspent alive step same e h room =
    let alive_too : has_crashed v.state shard replica ≡ false = ap (λ (z : WorldValue). has_crashed z.state shard replica) view ∙ alive in
    let stepped : ◌≡◌ {A = ReplicasOut} (record { rows = rows; sends = told }) (replicas_step v.config v.state.replicas shard replica input) =
    ap (λ (z : List Outgoing). let out : ReplicasOut = record { rows = rows; sends = z } in out) same ∙ step in
    let made = sent_then (record v.state { replicas = rows }) told sent waiting e h ∙ replicas_take v.config v.state shard replica input (record { rows = rows; sends = told }) alive_too stepped in
    let new : WorldValue = record { config = v.config; state = record v.state { replicas = rows; sent = sent; waiting = waiting }; spent = false } in
    subst (λ (z : WorldValue). Becomes z new (replica_takes z.config z.state shard replica input)) view
    (becomes v (record v.state { replicas = rows; sent = sent; waiting = waiting }) (replica_takes v.config v.state shard replica input) (spent_too v old view unspent) made (ap limit_met e ∙ room))

pub replica_err : (v old : WorldValue) → v ≡ old → (shard : ShardId) (replica : ReplicaId) (input : ReplicaInput) (rows : List (List ReplicaState)) (sends told : List Outgoing) (fault : SendFault)
    → has_crashed old.state shard replica ≡ false
    → ◌≡◌ {A = ReplicasOut} (record { rows = rows; sends = sends }) (replicas_step v.config v.state.replicas shard replica input) → told ≡ sends
    → IsMetBy (v.state.sent ++ told) fault → IsMetBy (replica_takes old.config old.state shard replica input).sent fault
unfolding with_sends
replica_err v old view shard replica input rows sends told fault alive step same met =
    let alive_too : has_crashed v.state shard replica ≡ false = ap (λ (z : WorldValue). has_crashed z.state shard replica) view ∙ alive in
    let made : after_replicas v.state (record { rows = rows; sends = sends }) ≡ replica_takes v.config v.state shard replica input = replicas_take v.config v.state shard replica input (record { rows = rows; sends = sends }) alive_too step in
    subst (λ (z : WorldValue). IsMetBy (replica_takes z.config z.state shard replica input).sent fault) view
    (subst (λ (z : WorldState). IsMetBy z.sent fault) made (subst (λ (z : List Outgoing). IsMetBy (v.state.sent ++ z) fault) same met))

pub replica_crashed : (v old : WorldValue) → v ≡ old → (shard : ShardId) (replica : ReplicaId) (input : ReplicaInput) → has_crashed old.state shard replica ≡ true → limit_met v.state.sent ≡ None
    → Becomes old old (replica_takes old.config old.state shard replica input)
replica_crashed v old view shard replica input crashed room =
    stays_so old (replica_takes old.config old.state shard replica input) (sym (crashed_takes_none old.config old.state shard replica input crashed))
    (subst (λ (z : WorldValue). limit_met z.state.sent ≡ None) view room)

pub coordinator_ok : (v old : WorldValue) → v ≡ old → (input : CoordInput) (coordinator : CoordState) (sends told sent : List Outgoing) (waiting : List ℕ) → old.spent ≡ false
    → ◌≡◌ {A = CoordOut} (record { state = coordinator; sends = sends }) (coord_step v.config v.state.coordinator input) → told ≡ sends
    → sent ≡ v.state.sent ++ told → waiting ≡ v.state.waiting ++ range_with_len (length v.state.sent) (length told) → limit_met (v.state.sent ++ told) ≡ None
    → Becomes old (record { config = v.config; state = record v.state { coordinator = coordinator; sent = sent; waiting = waiting }; spent = false }) (coordinator_takes old.config old.state input)
coordinator_ok v old view input coordinator sends told sent waiting unspent step same e h room =
    let stepped : ◌≡◌ {A = CoordOut} (record { state = coordinator; sends = told }) (coord_step v.config v.state.coordinator input) =
    ap (λ (z : List Outgoing). let out : CoordOut = record { state = coordinator; sends = z } in out) same ∙ step in
    let made = sent_then (record v.state { coordinator = coordinator }) told sent waiting e h ∙ coordinator_took v.config v.state input (record { state = coordinator; sends = told }) stepped in
    let new : WorldValue = record { config = v.config; state = record v.state { coordinator = coordinator; sent = sent; waiting = waiting }; spent = false } in
    subst (λ (z : WorldValue). Becomes z new (coordinator_takes z.config z.state input)) view
    (becomes v (record v.state { coordinator = coordinator; sent = sent; waiting = waiting }) (coordinator_takes v.config v.state input) (spent_too v old view unspent) made (ap limit_met e ∙ room))

pub coordinator_err : (v old : WorldValue) → v ≡ old → (input : CoordInput) (coordinator : CoordState) (sends told : List Outgoing) (fault : SendFault)
    → ◌≡◌ {A = CoordOut} (record { state = coordinator; sends = sends }) (coord_step v.config v.state.coordinator input) → told ≡ sends
    → IsMetBy (v.state.sent ++ told) fault → IsMetBy (coordinator_takes old.config old.state input).sent fault
unfolding with_sends
coordinator_err v old view input coordinator sends told fault step same met =
    let made = coordinator_took v.config v.state input (record { state = coordinator; sends = sends }) step in
    subst (λ (z : WorldValue). IsMetBy (coordinator_takes z.config z.state input).sent fault) view
    (subst (λ (z : WorldState). IsMetBy z.sent fault) made (subst (λ (z : List Outgoing). IsMetBy (v.state.sent ++ z) fault) same met))

pub sequencer_ok : (v old : WorldValue) → v ≡ old → (epoch : Epoch) (message : Message) (stampings : List Stamping) (sends told sent : List Outgoing) (waiting : List ℕ) → old.spent ≡ false
    → ◌≡◌ {A = Asked} (record { stampings = stampings; sends = sends }) (ask v.config v.state.stampings epoch message) → told ≡ sends
    → sent ≡ v.state.sent ++ told → waiting ≡ v.state.waiting ++ range_with_len (length v.state.sent) (length told) → limit_met (v.state.sent ++ told) ≡ None
    → Becomes old (record { config = v.config; state = record v.state { stampings = stampings; sent = sent; waiting = waiting }; spent = false }) (sequencer_takes old.config old.state epoch message)
sequencer_ok v old view epoch message stampings sends told sent waiting unspent step same e h room =
    let stepped : ◌≡◌ {A = Asked} (record { stampings = stampings; sends = told }) (ask v.config v.state.stampings epoch message) =
    ap (λ (z : List Outgoing). let out : Asked = record { stampings = stampings; sends = z } in out) same ∙ step in
    let made = sent_then (record v.state { stampings = stampings }) told sent waiting e h ∙ sequencer_took v.config v.state epoch message (record { stampings = stampings; sends = told }) stepped in
    let new : WorldValue = record { config = v.config; state = record v.state { stampings = stampings; sent = sent; waiting = waiting }; spent = false } in
    subst (λ (z : WorldValue). Becomes z new (sequencer_takes z.config z.state epoch message)) view
    (becomes v (record v.state { stampings = stampings; sent = sent; waiting = waiting }) (sequencer_takes v.config v.state epoch message) (spent_too v old view unspent) made (ap limit_met e ∙ room))

pub sequencer_err : (v old : WorldValue) → v ≡ old → (epoch : Epoch) (message : Message) (stampings : List Stamping) (sends told : List Outgoing) (fault : SendFault)
    → ◌≡◌ {A = Asked} (record { stampings = stampings; sends = sends }) (ask v.config v.state.stampings epoch message) → told ≡ sends
    → IsMetBy (v.state.sent ++ told) fault → IsMetBy (sequencer_takes old.config old.state epoch message).sent fault
unfolding with_sends
sequencer_err v old view epoch message stampings sends told fault step same met =
    let made = sequencer_took v.config v.state epoch message (record { stampings = stampings; sends = sends }) step in
    subst (λ (z : WorldValue). IsMetBy (sequencer_takes z.config z.state epoch message).sent fault) view
    (subst (λ (z : WorldState). IsMetBy z.sent fault) made (subst (λ (z : List Outgoing). IsMetBy (v.state.sent ++ z) fault) same met))

pub client_ok : (v old : WorldValue) → v ≡ old → (client : ClientId) (act : ClientIdentity → ClientState → ClientOut) (states : List ClientState) (history : List HistoryEvent) (sends told sent : List Outgoing) (event : Option HistoryEvent) (waiting : List ℕ)
    → old.spent ≡ false → ◌≡◌ {A = ClientsOut} (record { states = states; sends = sends; event = event }) (clients_act v.config v.state.clients client act) → told ≡ sends
    → history ≡ with_event v.state.history event
    → sent ≡ v.state.sent ++ told → waiting ≡ v.state.waiting ++ range_with_len (length v.state.sent) (length told) → limit_met (v.state.sent ++ told) ≡ None
    → Becomes old (record { config = v.config; state = record v.state { clients = states; history = history; sent = sent; waiting = waiting }; spent = false }) (client_acts old.config old.state client act)
client_ok v old view client act states history sends told sent event waiting unspent step same noted e h room =
    let stepped : ◌≡◌ {A = ClientsOut} (record { states = states; sends = told; event = event }) (clients_act v.config v.state.clients client act) =
    ap (λ (z : List Outgoing). let out : ClientsOut = record { states = states; sends = z; event = event } in out) same ∙ step in
    let noted_state : record v.state { clients = states; history = history; sent = sent; waiting = waiting } ≡ record v.state { clients = states; history = with_event v.state.history event; sent = sent; waiting = waiting } =
    ap (λ (z : List HistoryEvent). record v.state { clients = states; history = z; sent = sent; waiting = waiting }) noted in
    let made = noted_state ∙ sent_then (record v.state { clients = states; history = with_event v.state.history event }) told sent waiting e h
    ∙ clients_take v.config v.state client act (record { states = states; sends = told; event = event }) stepped in
    let new : WorldValue = record { config = v.config; state = record v.state { clients = states; history = history; sent = sent; waiting = waiting }; spent = false } in
    subst (λ (z : WorldValue). Becomes z new (client_acts z.config z.state client act)) view
    (becomes v (record v.state { clients = states; history = history; sent = sent; waiting = waiting }) (client_acts v.config v.state client act) (spent_too v old view unspent) made (ap limit_met e ∙ room))

pub client_err : (v old : WorldValue) → v ≡ old → (client : ClientId) (act : ClientIdentity → ClientState → ClientOut) (states : List ClientState) (sends told : List Outgoing) (event : Option HistoryEvent) (fault : SendFault)
    → ◌≡◌ {A = ClientsOut} (record { states = states; sends = sends; event = event }) (clients_act v.config v.state.clients client act) → told ≡ sends
    → IsMetBy (v.state.sent ++ told) fault → IsMetBy (client_acts old.config old.state client act).sent fault
unfolding with_sends
client_err v old view client act states sends told event fault step same met =
    let made : after_clients v.state (record { states = states; sends = sends; event = event }) ≡ client_acts v.config v.state client act = clients_take v.config v.state client act (record { states = states; sends = sends; event = event }) step in
    subst (λ (z : WorldValue). IsMetBy (client_acts z.config z.state client act).sent fault) view
    (subst (λ (z : WorldState). IsMetBy z.sent fault) made (subst (λ (z : List Outgoing). IsMetBy (v.state.sent ++ z) fault) same met))

-- ---- the network
pub take_ok : (v old : WorldValue) → v ≡ old → (number : ℕ) (sent : List Outgoing) (waiting : List ℕ) → sent ≡ v.state.sent → waiting ≡ filter (λ other. not (other == number)) v.state.waiting → limit_met v.state.sent ≡ None
    → Becomes old (record v { state = record v.state { sent = sent; waiting = waiting } }) (no_longer_waiting old.state number)
unfolding no_longer_waiting
take_ok v old view number sent waiting e h room =
    let made : record v.state { sent = sent; waiting = waiting } ≡ no_longer_waiting v.state number = λ i. record v.state { sent = e i; waiting = h i } in
    let new : WorldValue = record v { state = record v.state { sent = sent; waiting = waiting } } in
    subst (λ (z : WorldValue). Becomes z new (no_longer_waiting z.state number)) view
    (record { world = ap (λ (z : WorldState). record v { state = z }) made; room = room })

pub taken_sent : (old middle : WorldValue) (number : ℕ) → Becomes old middle (no_longer_waiting old.state number) → middle.state.sent ≡ old.state.sent
unfolding no_longer_waiting
taken_sent old middle number taken = ap (λ (z : WorldValue). z.state.sent) taken.world

pub delivered : (old middle : WorldValue) (number : ℕ) (epoch : Option Epoch) → Becomes old middle (no_longer_waiting old.state number)
    → arrives middle.config middle.state epoch (slice_get middle.state.sent number) ≡ delivers old.config old.state number epoch
unfolding delivers no_longer_waiting
delivered old middle number epoch taken = ap (λ (z : WorldValue). arrives z.config z.state epoch (slice_get z.state.sent number)) taken.world

-- what holds of the world after a sent message has come to its node holds of the world after it has arrived
pub arrives_at : (config : ConfigValue) (world : WorldState) (epoch : Option Epoch) (o : Option Outgoing) (to : Node) (P : WorldState → Type 0) → Some to ≡ option_map (λ one. one.to) o
    → ((one : Outgoing) → o ≡ Some one → P (comes_to config world epoch to one.message)) → P (arrives config world epoch o)
arrives_at config world epoch None to P e f = absurd cc
arrives_at config world epoch (Some one) to P e f =
    let node : to ≡ one.to = cc in
    subst (λ (z : Node). P (comes_to config world epoch z one.message)) node (f one refl)

-- the bytes that the network has of a sent message are its spelling
pub spelled_at : (v old : WorldValue) → v ≡ old → (number : ℕ) (bytes : List ℕ) (one : Outgoing) → IsSpelledBy (slice_get v.state.sent number) (Some bytes) → slice_get old.state.sent number ≡ Some one
    → IsSpelling one.message bytes
spelled_at v old view number bytes one h is = subst (λ (o : Option Outgoing). IsSpelledBy o (Some bytes)) (ap (λ (z : WorldValue). slice_get z.state.sent number) view ∙ is) h

sent_has_bytes : (sent : List Outgoing) (number : ℕ) → number < length sent → IsSpelledBy (slice_get sent number) None → ⊥
sent_has_bytes [] number lt h = absurd (omega (arith, lt))
sent_has_bytes (one ∷ sent) zero lt h = h
sent_has_bytes (one ∷ sent) (suc number) lt h = sent_has_bytes sent number (omega (arith, lt)) h

pub has_bytes : (v old : WorldValue) → v ≡ old → (number : ℕ) → number < length old.state.sent → IsSpelledBy (slice_get v.state.sent number) None → ⊥
has_bytes v old view number lt h =
    sent_has_bytes old.state.sent number lt (subst (λ (z : WorldValue). IsSpelledBy (slice_get z.state.sent number) None) view h)

pub on_ok : {T E : Type 0} (r : Result T E) (P Q : Type 0) → (P → Q) → OnOk r P → OnOk r Q
on_ok (Ok x) P Q f h = f h
on_ok (Err e) P Q f h = tt

pub crashed_in : (world : WorldState) (crashed : List (ShardId × ReplicaId)) (shard : ShardId) (replica : ReplicaId) → crashed ≡ world.crashed → list_any (same_replica_of shard replica) crashed ≡ has_crashed world shard replica
unfolding has_crashed
crashed_in world crashed shard replica e = ap (list_any (same_replica_of shard replica)) e

pub empty_room : limit_met [] ≡ None
unfolding limit_met frame_sizes
empty_room = refl

-- ---- an abort
pub aborts_is : (config : ConfigValue) (world : WorldState) (asker : ClientId) (id : TxnId) (o : Option PlanValue) (keys : List Key) → keys_in o ≡ Some keys
    → client_acts config world asker (acts (Act.Abort id keys)) ≡ aborts_plan config world asker id o
aborts_is config world asker id None keys e = absurd cc
aborts_is config world asker id (Some plan) keys e =
    let same : plan.keys ≡ keys = cc in
    ap (λ (z : List Key). client_acts config world asker (λ me state. abort me state id z)) (sym same)

pub aborts_none : (config : ConfigValue) (world : WorldState) (asker : ClientId) (id : TxnId) (o : Option PlanValue) → keys_in o ≡ None → world ≡ aborts_plan config world asker id o
aborts_none config world asker id None e = refl
aborts_none config world asker id (Some plan) e = absurd cc

pub plan_at : (world : WorldState) (id : TxnId) → plan_keys world.clients id ≡ keys_in (plan_of_transaction (submitted_at world id))
unfolding submitted_at
plan_at world id = refl
