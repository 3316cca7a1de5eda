-- WHAT WAITS: after events of the live kinds nobody has crashed, and the numbers that wait are those that no event
-- delivered, ascending.
use Rattle.std.proofs.Common.{◌≡◌, inl, inr, ℕ, zero, suc, ◌<◌, ◌≤◌, ◌+◌, ◌==◌, ◌&&◌, ◌||◌, not, List, [], ◌∷◌, ◌++◌, length, length-append, append-nil, append_assoc, filter, Bool, true, false, cond, Option, Some, None, refl, sym, ap, ◌∙◌, subst, arith}
use Rattle.std.specs.Prelude.{slice_get}
use Rattle.std.specs.List.{list_any, range_with_len}
use Rattle.std.specs.Option.{option_or}
use Rattle.std.proofs.lemmas.Bool.{eqb-true, or_cases}
use Rattle.std.proofs.lemmas.Bool.Decides.{nat_tests}
use Rattle.std.proofs.lemmas.List.Elements.{filter-append, filter_agree}
use Rattle.std.proofs.lemmas.List.Folds.{list_any-append}
use Rattle.std.proofs.lemmas.Option.{slice_get_within}
use Rattle.eris_base.specs.declared.ids.ClientId.{ClientId}
use Rattle.eris_base.specs.declared.ids.Epoch.{Epoch}
use Rattle.eris_base.specs.declared.ids.Node.{Node}
use Rattle.eris_base.specs.declared.ids.Node.TheVariants.{Sequencer, Coordinator, Replica, Client}
use Rattle.eris_base.specs.declared.ids.ReplicaId.{ReplicaId}
use Rattle.eris_base.specs.declared.ids.ShardId.{ShardId}
use Rattle.eris_base.specs.Each.{Each}
use Rattle.eris_msg.specs.declared.message.Message.{Message}
use Rattle.eris_msg.specs.declared.outgoing.Outgoing.{Outgoing}
use Rattle.eris_sequencer.specs.Asks.{ask}
use Rattle.eris_event.specs.declared.event.Event.{Event}
use Rattle.eris_event.specs.declared.refusal.Refusal.{Refusal}
use Rattle.eris_rules.specs.declared.coord_input.CoordInput.{CoordInput}
use Rattle.eris_rules.specs.declared.replica_input.ReplicaInput.{ReplicaInput}
use Rattle.eris_rules.specs.ClientStates.{ClientState}
use Rattle.eris_rules.specs.Coordinators.{coord_step}
use Rattle.eris_rules.specs.Happenings.{after_client, after_coordinator, after_replica, after_sequencer, arrives, client_acts, client_acts_by, comes_to, coordinator_takes, delivers as delivers_to, happens, replica_steps, replica_takes, sequencer_takes}
use Rattle.eris_rules.specs.Refusals.{cause, deliver_cause, refusal}
use Rattle.eris_rules.specs.ReplicaStates.{ReplicaState}
use Rattle.eris_rules.specs.Replicas.{replica_step}
use Rattle.eris_rules.specs.Runs.{run, run_from}
use Rattle.eris_rules.specs.Worlds.{WorldState, client_at, first_world, has_crashed, no_longer_waiting, replica_at, with_sends}
use Rattle.eris_law_agreement.specs.NodeSteps.{ClientAct}
use Rattle.eris_law_live.specs.FirstDeliveries.{delivers, is_delivered, undelivered}
use Rattle.eris_law_live.specs.LiveBooks.{is_live}
use Rattle.eris_law_live.specs.LiveNodes.{live_config}
use Rattle.eris_law_live.proofs.LiveRuns.{run-cons, run-nil}

-- ---- what one event leaves of the network
record Sends (world after : WorldState) : Type 0 where
  more : List Outgoing
  sent : after.sent ≡ world.sent ++ more
  waiting : after.waiting ≡ world.waiting ++ range_with_len (length world.sent) (length more)
  crashed : after.crashed ≡ world.crashed

nothing : (world : WorldState) → Sends world world
nothing world = record { more = []; sent = sym (append-nil world.sent); waiting = sym (append-nil world.waiting); crashed = refl }

takes : (world : WorldState) (shard : ShardId) (replica : ReplicaId) (input : ReplicaInput) → Sends world (replica_takes live_config world shard replica input)
unfolding replica_takes after_replica with_sends
takes world shard replica input = by_crash (has_crashed world shard replica)
  where
    by_state : (found : Option ReplicaState) → Sends world (replica_steps live_config world shard replica input found)
    by_state None = nothing world
    by_state (Some state) = record { more = (replica_step (record { config = live_config; shard = shard; replica = replica }) state input).sends; sent = refl; waiting = refl; crashed = refl }

    by_crash : (crashed : Bool) → Sends world (cond crashed world (replica_steps live_config world shard replica input (replica_at world.replicas shard replica)))
    by_crash true = nothing world
    by_crash false = by_state (replica_at world.replicas shard replica)

coordinator_gets : (world : WorldState) (input : CoordInput) → Sends world (coordinator_takes live_config world input)
unfolding coordinator_takes after_coordinator with_sends
coordinator_gets world input = record { more = (coord_step live_config world.coordinator input).sends; sent = refl; waiting = refl; crashed = refl }

sequencer_gets : (world : WorldState) (epoch : Epoch) (message : Message) → Sends world (sequencer_takes live_config world epoch message)
unfolding sequencer_takes after_sequencer with_sends
sequencer_gets world epoch message = record { more = (ask live_config world.stampings epoch message).sends; sent = refl; waiting = refl; crashed = refl }

acts : (world : WorldState) (client : ClientId) (act : ClientAct) → Sends world (client_acts live_config world client act)
unfolding client_acts after_client with_sends
acts world client act = by_state (client_at world.clients client)
  where
    by_state : (found : Option ClientState) → Sends world (client_acts_by live_config world client act found)
    by_state None = nothing world
    by_state (Some state) = record { more = (act (record { config = live_config; client = client }) state).sends; sent = refl; waiting = refl; crashed = refl }

comes : (world : WorldState) (epoch : Option Epoch) (node : Node) (message : Message) → Sends world (comes_to live_config world epoch node message)
comes world epoch Sequencer message = sequencer_gets world _ message
comes world epoch Coordinator message = coordinator_gets world (CoordInput.Message message)
comes world epoch (Replica shard replica) message = takes world shard replica (ReplicaInput.Message message)
comes world epoch (Client client) message = acts world client _

arrived : (world : WorldState) (epoch : Option Epoch) (found : Option Outgoing) → Sends world (arrives live_config world epoch found)
arrived world epoch None = nothing world
arrived world epoch (Some one) = comes world epoch one.to one.message

-- the world, but what is delivered waits no more
abbrev taken_by : Event → WorldState → WorldState
taken_by (Event.Deliver packet epoch) world = no_longer_waiting world packet
taken_by event world = world

event_sends : (world : WorldState) (event : Event) → is_live event ≡ true → Sends (taken_by event world) (happens live_config world event)
unfolding happens delivers_to
event_sends world (Event.Submit client ops) live = acts world client _
event_sends world (Event.General client plan) live = acts world client _
event_sends world (Event.Retry client number) live = acts world client _
event_sends world (Event.Abort asker id) live = absurd (cc)
event_sends world (Event.Deliver packet epoch) live = arrived (no_longer_waiting world packet) epoch (slice_get world.sent packet)
event_sends world Event.Flow live = absurd (cc)
event_sends world Event.Lose live = absurd (cc)
event_sends world (Event.Probe shard replica) live = takes world shard replica ReplicaInput.Probe
event_sends world (Event.Suspect shard replica) live = takes world shard replica ReplicaInput.Suspect
event_sends world (Event.Sync shard replica) live = takes world shard replica ReplicaInput.Sync
event_sends world (Event.Crash shard replica) live = absurd (cc)
event_sends world Event.Nudge live = coordinator_gets world CoordInput.Nudge
event_sends world Event.Replace live = record { more = []; sent = sym (append-nil world.sent); waiting = sym (append-nil world.waiting); crashed = refl }
event_sends world (Event.Noise node bytes) live = absurd (cc)

-- ---- filters
filter-all : {X : Type 0} (p : X → Bool) (xs : List X) → Each (λ x. p x ≡ true) xs → filter p xs ≡ xs
filter-all p [] all = refl
filter-all p (x ∷ xs) all = ap (λ (test : Bool). cond test (x ∷ filter p xs) (filter p xs)) all.0 ∙ ap (λ (rest : List _). x ∷ rest) (filter-all p xs all.1)

filter-twice : {X : Type 0} (p q r : X → Bool) → ((x : X) → r x ≡ (p x && q x)) → (xs : List X) → filter q (filter p xs) ≡ filter r xs
filter-twice p q r both [] = refl
filter-twice p q r both (x ∷ xs) = by_tests (p x) (q x) (r x) refl refl (both x) (filter-twice p q r both xs)
  where
    by_tests : (a b c : Bool) → p x ≡ a → q x ≡ b → c ≡ (p x && q x) → filter q (filter p xs) ≡ filter r xs
        → filter q (cond a (x ∷ filter p xs) (filter p xs)) ≡ cond c (x ∷ filter r xs) (filter r xs)
    by_tests false b c one two joined rest =
        let off : c ≡ false = joined ∙ ap (λ (test : Bool). test && q x) one in
        rest ∙ sym (ap (λ (test : Bool). cond test (x ∷ filter r xs) (filter r xs)) off)
    by_tests true true c one two joined rest =
        let on : c ≡ true = joined ∙ ap (λ (test : Bool). test && q x) one ∙ two in
        ap (λ (test : Bool). cond test (x ∷ filter q (filter p xs)) (filter q (filter p xs))) two
        ∙ ap (λ (list : List _). x ∷ list) rest
        ∙ sym (ap (λ (test : Bool). cond test (x ∷ filter r xs) (filter r xs)) on)
    by_tests true false c one two joined rest =
        let off : c ≡ false = joined ∙ ap (λ (test : Bool). test && q x) one ∙ two in
        ap (λ (test : Bool). cond test (x ∷ filter q (filter p xs)) (filter q (filter p xs))) two
        ∙ rest
        ∙ sym (ap (λ (test : Bool). cond test (x ∷ filter r xs) (filter r xs)) off)

range-append : (first some more : ℕ) → range_with_len first (some + more) ≡ range_with_len first some ++ range_with_len (first + some) more
range-append first zero more =
    ap (range_with_len first) (let e : 0 + more ≡ more = omega arith in e)
    ∙ ap (λ (at : ℕ). range_with_len at more) (let e : first ≡ first + 0 = omega arith in e)
range-append first (suc some) more =
    ap (range_with_len first) (let e : suc some + more ≡ suc (some + more) = omega arith in e)
    ∙ ap (λ (rest : List ℕ). first ∷ rest)
    (range-append (first + 1) some more
    ∙ ap (λ (at : ℕ). range_with_len (first + 1) some ++ range_with_len at more) (let e : first + 1 + some ≡ first + suc some = omega arith in e))

each_range : (P : ℕ → Type 0) (first count : ℕ) → ((k : ℕ) → first ≤ k → P k) → Each P (range_with_len first count)
each_range P first zero h = tt
each_range P first (suc count) h = (h first (omega arith), each_range P (first + 1) count (λ k low. h k (omega (arith, low))))

-- ---- what was delivered
or_none : (test : Bool) → (test || false) ≡ test
or_none true = refl
or_none false = refl

pub delivered-more : (before : List Event) (event : Event) (number : ℕ) → is_delivered (before ++ event ∷ []) number ≡ (is_delivered before number || delivers number event)
unfolding is_delivered
delivered-more before event number =
    list_any-append (delivers number) before (event ∷ []) ∙ ap (λ (test : Bool). list_any (delivers number) before || test) (or_none (delivers number event))

-- a packet that is delivered was sent
found_by : (world : WorldState) (epoch : Option Epoch) (found : Option Outgoing) (limit : Option Refusal) → option_or (deliver_cause world epoch found) limit ≡ None → (one : Outgoing) × (found ≡ Some one)
found_by world epoch None limit h = absurd (cc)
found_by world epoch (Some one) limit h = (one, refl)

pub delivery_found : (world : WorldState) (number : ℕ) (epoch : Option Epoch) → refusal live_config world (Event.Deliver number epoch) ≡ None → (one : Outgoing) × (slice_get world.sent number ≡ Some one)
unfolding refusal cause
delivery_found world number epoch h = found_by world epoch (slice_get world.sent number) _ h

delivers_low : (world : WorldState) (event : Event) (number : ℕ) → refusal live_config world event ≡ None → delivers number event ≡ true → number < length world.sent
delivers_low world (Event.Deliver packet epoch) number free is =
    let found = delivery_found world packet epoch free in
    subst (λ (n : ℕ). n < length world.sent) (eqb-true packet number is) (slice_get_within world.sent packet found.0 found.1)
delivers_low world (Event.Submit client ops) number free is = absurd (cc)
delivers_low world (Event.General client plan) number free is = absurd (cc)
delivers_low world (Event.Retry client n) number free is = absurd (cc)
delivers_low world (Event.Abort asker id) number free is = absurd (cc)
delivers_low world Event.Flow number free is = absurd (cc)
delivers_low world Event.Lose number free is = absurd (cc)
delivers_low world (Event.Probe shard replica) number free is = absurd (cc)
delivers_low world (Event.Suspect shard replica) number free is = absurd (cc)
delivers_low world (Event.Sync shard replica) number free is = absurd (cc)
delivers_low world (Event.Crash shard replica) number free is = absurd (cc)
delivers_low world Event.Nudge number free is = absurd (cc)
delivers_low world Event.Replace number free is = absurd (cc)
delivers_low world (Event.Noise node bytes) number free is = absurd (cc)

-- what is delivered waits no more, and nothing else
turned : (a b : ℕ) → not (a == b) ≡ not (b == a)
turned a b = grind (arith, nat_tests)

every : (xs : List ℕ) → Each (λ x. not false ≡ true) xs
every [] = tt
every (x ∷ xs) = (refl, every xs)

taken_waits : (world : WorldState) (event : Event) → (taken_by event world).waiting ≡ filter (λ number. not (delivers number event)) world.waiting
unfolding no_longer_waiting
taken_waits world (Event.Deliver packet epoch) = filter_agree (λ other. not (other == packet)) (λ number. not (packet == number)) (λ number. turned number packet) world.waiting
taken_waits world (Event.Submit client ops) = sym (filter-all (λ number. not false) world.waiting (every world.waiting))
taken_waits world (Event.General client plan) = sym (filter-all (λ number. not false) world.waiting (every world.waiting))
taken_waits world (Event.Retry client n) = sym (filter-all (λ number. not false) world.waiting (every world.waiting))
taken_waits world (Event.Abort asker id) = sym (filter-all (λ number. not false) world.waiting (every world.waiting))
taken_waits world Event.Flow = sym (filter-all (λ number. not false) world.waiting (every world.waiting))
taken_waits world Event.Lose = sym (filter-all (λ number. not false) world.waiting (every world.waiting))
taken_waits world (Event.Probe shard replica) = sym (filter-all (λ number. not false) world.waiting (every world.waiting))
taken_waits world (Event.Suspect shard replica) = sym (filter-all (λ number. not false) world.waiting (every world.waiting))
taken_waits world (Event.Sync shard replica) = sym (filter-all (λ number. not false) world.waiting (every world.waiting))
taken_waits world (Event.Crash shard replica) = sym (filter-all (λ number. not false) world.waiting (every world.waiting))
taken_waits world Event.Nudge = sym (filter-all (λ number. not false) world.waiting (every world.waiting))
taken_waits world Event.Replace = sym (filter-all (λ number. not false) world.waiting (every world.waiting))
taken_waits world (Event.Noise node bytes) = sym (filter-all (λ number. not false) world.waiting (every world.waiting))

taken_sent : (world : WorldState) (event : Event) → ((taken_by event world).sent ≡ world.sent) × ((taken_by event world).crashed ≡ world.crashed)
unfolding no_longer_waiting
taken_sent world (Event.Deliver packet epoch) = (refl, refl)
taken_sent world (Event.Submit client ops) = (refl, refl)
taken_sent world (Event.General client plan) = (refl, refl)
taken_sent world (Event.Retry client n) = (refl, refl)
taken_sent world (Event.Abort asker id) = (refl, refl)
taken_sent world Event.Flow = (refl, refl)
taken_sent world Event.Lose = (refl, refl)
taken_sent world (Event.Probe shard replica) = (refl, refl)
taken_sent world (Event.Suspect shard replica) = (refl, refl)
taken_sent world (Event.Sync shard replica) = (refl, refl)
taken_sent world (Event.Crash shard replica) = (refl, refl)
taken_sent world Event.Nudge = (refl, refl)
taken_sent world Event.Replace = (refl, refl)
taken_sent world (Event.Noise node bytes) = (refl, refl)

-- ---- nobody crashes
pub calm_first : (first_world live_config).crashed ≡ []
unfolding first_world
calm_first = refl

pub calm_after : (world : WorldState) (event : Event) → is_live event ≡ true → world.crashed ≡ [] → (happens live_config world event).crashed ≡ []
calm_after world event live calm = (event_sends world event live).crashed ∙ (taken_sent world event).1 ∙ calm

-- ---- after some events
pub record IsWaiting (before : List Event) (world : WorldState) : Type 0 where
  pub calm : world.crashed ≡ []
  pub waits : world.waiting ≡ undelivered before (length world.sent)
  pub low : (number : ℕ) → is_delivered before number ≡ true → number < length world.sent

not_or : (a b : Bool) → not (a || b) ≡ (not a && not b)
not_or true b = refl
not_or false b = refl

pub one_waits : (before : List Event) (world : WorldState) (event : Event) → is_live event ≡ true → refusal live_config world event ≡ None → IsWaiting before world
    → IsWaiting (before ++ event ∷ []) (happens live_config world event)
unfolding undelivered
one_waits before world event live free is =
    let left = event_sends world event live in
    let taken = taken_sent world event in
    let count : ℕ = length world.sent in
    let more : ℕ = length left.more in
    let grown : length (happens live_config world event).sent ≡ count + more =
    ap length (left.sent ∙ ap (λ (sent : List Outgoing). sent ++ left.more) taken.0) ∙ length-append world.sent left.more in
    let test : (k : ℕ) → not (is_delivered (before ++ event ∷ []) k) ≡ (not (is_delivered before k) && not (delivers k event)) =
    λ k. ap not (delivered-more before event k) ∙ not_or (is_delivered before k) (delivers k event) in
    let low : (k : ℕ) → is_delivered (before ++ event ∷ []) k ≡ true → k < count =
    λ k h. elim (or_cases (is_delivered before k) (delivers k event) (sym (delivered-more before event k) ∙ h)) [
      | inl old ↦ is.low k old
      | inr new ↦ delivers_low world event k free new
    ] in
    record {
      calm = calm_after world event live is.calm;
      waits =
          left.waiting
          ∙ ap (λ (n : ℕ). (taken_by event world).waiting ++ range_with_len n more) (ap length taken.0)
          ∙ ap (λ (numbers : List ℕ). numbers ++ range_with_len count more)
          (taken_waits world event
          ∙ ap (filter (λ k. not (delivers k event))) is.waits
          ∙ filter-twice (λ k. not (is_delivered before k)) (λ k. not (delivers k event)) (λ k. not (is_delivered (before ++ event ∷ []) k)) test (range_with_len 0 count))
          ∙ ap (λ (numbers : List ℕ). filter (λ k. not (is_delivered (before ++ event ∷ []) k)) (range_with_len 0 count) ++ numbers)
          (sym (filter-all (λ k. not (is_delivered (before ++ event ∷ []) k)) (range_with_len count more)
          (each_range (λ k. not (is_delivered (before ++ event ∷ []) k) ≡ true) count more (λ k up. past (is_delivered (before ++ event ∷ []) k) k up (low k)))))
          ∙ sym (filter-append (λ k. not (is_delivered (before ++ event ∷ []) k)) (range_with_len 0 count) (range_with_len count more))
          ∙ ap (filter (λ k. not (is_delivered (before ++ event ∷ []) k)))
          (ap (λ (at : ℕ). range_with_len 0 count ++ range_with_len at more) (let e : count ≡ 0 + count = omega arith in e) ∙ sym (range-append 0 count more))
          ∙ ap (λ (n : ℕ). filter (λ k. not (is_delivered (before ++ event ∷ []) k)) (range_with_len 0 n)) (sym grown);
      low = λ k h. (let few = low k h in omega (arith, few, grown));
    }
  where
    past : (test : Bool) (k : ℕ) → length world.sent ≤ k → (test ≡ true → k < length world.sent) → not test ≡ true
    past true k up low = absurd (let few = low refl in omega (arith, up, few))
    past false k up low = refl

pub all_wait : (before events : List Event) (world last : WorldState) → Each (λ event. is_live event ≡ true) events → run_from live_config (Some world) events ≡ Some last
    → IsWaiting before world → IsWaiting (before ++ events) last
all_wait before [] world last live runs is =
    subst (λ (events : List Event). IsWaiting events last) (sym (append-nil before)) (subst (IsWaiting before) (run-nil live_config world last runs) is)
all_wait before (event ∷ events) world last live runs is =
    let parts = run-cons live_config world last event events runs in
    subst (λ (all : List Event). IsWaiting all last) (append_assoc before (event ∷ []) events)
    (all_wait (before ++ event ∷ []) events (happens live_config world event) last live.1 parts.1 (one_waits before world event live.0 parts.0 is))

pub first_waits : IsWaiting [] (first_world live_config)
unfolding first_world undelivered is_delivered
first_waits = record { calm = refl; waits = refl; low = λ number h. absurd (cc) }

-- AFTER A RUN of events of the live kinds
pub run_waits : (events : List Event) (world : WorldState) → Each (λ event. is_live event ≡ true) events → run live_config events ≡ Some world → IsWaiting events world
unfolding run
run_waits events world live runs = all_wait [] events (first_world live_config) world live runs first_waits
