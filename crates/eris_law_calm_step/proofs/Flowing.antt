-- THE LOWEST WAITING PACKET IS DELIVERED, whatever it is: what holds at every moment holds after it, and there is less
-- to come.
use Rattle.std.proofs.Common.{◌≡◌, ◌≤◌, ◌-◌, inl, inr, ℕ, Option, None, List, [], ◌∷◌, ◌++◌, length, ap, sym, ◌∙◌, subst, arith}
use Rattle.std.proofs.lemmas.Bool.{cases_Bool}
use Rattle.eris_base.specs.declared.ids.ShardId.{ShardId}
use Rattle.eris_base.specs.declared.ids.TxnId.{TxnId}
use Rattle.eris_base.specs.declared.stamp.Stamp.{Stamp}
use Rattle.eris_base.specs.ConfigLimits.{ConfigValue}
use Rattle.eris_txn.specs.declared.body.Body.TheVariants.{Independent}
use Rattle.eris_txn.specs.declared.op.Op.{Op}
use Rattle.eris_msg.specs.declared.message.Message.{Message}
use Rattle.eris_msg.specs.declared.outgoing.Outgoing.{Outgoing}
use Rattle.eris_sequencer.specs.declared.stamping.Stamping.{Stamping}
use Rattle.eris_sequencer.specs.Asks.{ask}
use Rattle.eris_sequencer.specs.Sequencers.{newest_of}
use Rattle.eris_event.specs.declared.event.Event.{Event}
use Rattle.eris_rules.specs.declared.transaction.Vote.{Vote}
use Rattle.eris_rules.specs.Happenings.{after_client, after_replica, after_sequencer, arrives, comes_to, delivers, flows, happens, sequencer_takes}
use Rattle.eris_rules.specs.Worlds.{WorldState, no_longer_waiting, with_sends}
use Rattle.eris_law_calm.specs.Calm.{Asks, Carries, Fine, IsCalm, IsCalmWorld, IsCarried, IsJob, IsRight, Votes, asking, packet_of, voting}
use Rattle.eris_law_calm.specs.Carried.{carrying}
use Rattle.eris_law_calm.specs.Crashes.{is_down}
use Rattle.eris_law_calm.proofs.Queues.{first_sent, first_waits, none_waits}
use Rattle.eris_law_calm_step.proofs.Answering.{answered_world, calm_answered, takes_vote}
use Rattle.eris_law_calm_step.proofs.Carrying.{calm_lost, calm_voted, takes_none, takes_packet, told, voted_world}
use Rattle.eris_law_calm_step.proofs.Stamping.{asked, calm_stamped, sends, stamped_world}

module _ (config : ConfigValue) (limits : ShardId → ℕ) (budget : ℕ) (world : WorldState) where
  -- what holds of the world that it is, holds after it
  abbrev After : WorldState → Type 0
  After next = length next.sent ≤ 262144 → IsCalm config limits (budget - 1) next

  by_world : (some next : WorldState) → some ≡ next → After next → After some
  by_world some next same after = subst After (sym same) after

  -- THE FIRST WAITING MESSAGE comes to its node
  flow_is : (done : List Outgoing) (one : Outgoing) (rest : List Outgoing) → IsCalmWorld config limits budget world done (one ∷ rest)
      → happens config world Event.Flow ≡ comes_to config (no_longer_waiting world (length done)) None one.to one.message
  unfolding happens delivers
  flow_is done one rest calm =
      ap (λ (waiting : List ℕ). flows config world waiting) (first_waits world.sent world.waiting done one rest calm.queue)
      ∙ ap (λ (found : Option Outgoing). arrives config (no_longer_waiting world (length done)) None found) (first_sent world.sent world.waiting done one rest calm.queue)

  asks_come : (done rest : List Outgoing) (id : TxnId) (ops : List Op) → IsJob config world.history id ops → IsCalmWorld config limits budget world done (asking id ops ∷ rest)
      → After (comes_to config (no_longer_waiting world (length done)) None (asking id ops).to (asking id ops).message)
  unfolding sequencer_takes after_sequencer with_sends no_longer_waiting newest_of
  asks_come done rest id ops job calm =
      by_world _ (stamped_world config limits budget world done rest id ops job calm)
      (ap (λ (stampings : List Stamping). after_sequencer (no_longer_waiting world (length done)) (ask config stampings (newest_of stampings) (Message.Ask id.client id (Independent ops)))) calm.stampings
      ∙ ap (λ one. after_sequencer (no_longer_waiting world (length done)) one) (asked config limits budget world done rest id ops job calm))
      (λ few. (done ++ asking id ops ∷ [], rest ++ sends config limits budget world done rest id ops job calm, calm_stamped config limits budget world done rest id ops job calm few))

  packets_come : (done rest : List Outgoing) (id : TxnId) (ops : List Op) (stamp : Stamp) (shard : ShardId) (replica : ℕ) → IsJob config world.history id ops → IsCarried config ops stamp shard replica
      → IsCalmWorld config limits budget world done (carrying (packet_of id ops stamp) shard replica ∷ rest)
      → After (comes_to config (no_longer_waiting world (length done)) None (carrying (packet_of id ops stamp) shard replica).to (carrying (packet_of id ops stamp) shard replica).message)
  unfolding after_replica with_sends no_longer_waiting
  packets_come done rest id ops stamp shard replica job carried calm = elim (cases_Bool (is_down world.crashed shard.0 replica)) [
    | inl down ↦
        by_world _ (no_longer_waiting world (length done)) (takes_none config limits budget world done rest id ops stamp shard replica job carried calm down)
        (λ few. (done ++ carrying (packet_of id ops stamp) shard replica ∷ [], rest, calm_lost config limits budget world done rest id ops stamp shard replica job carried calm down))
    | inr up ↦
        by_world _ (voted_world config limits budget world done rest id ops stamp shard replica job carried calm up) (takes_packet config limits budget world done rest id ops stamp shard replica job carried calm up)
        (λ few. (done ++ carrying (packet_of id ops stamp) shard replica ∷ [], rest ++ told config limits budget world done rest id ops stamp shard replica job carried calm up, calm_voted config limits budget world done rest id ops stamp shard replica job carried calm up few))
  ]

  votes_come : (done rest : List Outgoing) (id : TxnId) (ops : List Op) (vote : Vote) → IsJob config world.history id ops → IsRight config ops vote → IsCalmWorld config limits budget world done (voting id vote ∷ rest)
      → After (comes_to config (no_longer_waiting world (length done)) None (voting id vote).to (voting id vote).message)
  unfolding after_client with_sends no_longer_waiting
  votes_come done rest id ops vote job right calm =
      by_world _ (answered_world config limits budget world done rest id ops vote job right calm) (takes_vote config limits budget world done rest id ops vote job right calm)
      (λ few. (done ++ voting id vote ∷ [], rest, calm_answered config limits budget world done rest id ops vote job right calm few))

  one_comes : (done rest : List Outgoing) (one : Outgoing) → Fine config world.history one → IsCalmWorld config limits budget world done (one ∷ rest) → After (comes_to config (no_longer_waiting world (length done)) None one.to one.message)
  one_comes done rest _ (Asks id ops job) calm = asks_come done rest id ops job calm
  one_comes done rest _ (Carries id ops stamp shard replica job carried) calm = packets_come done rest id ops stamp shard replica job carried calm
  one_comes done rest _ (Votes id ops vote job right) calm = votes_come done rest id ops vote job right calm

  nothing_comes : (done : List Outgoing) → IsCalmWorld config limits budget world done [] → happens config world Event.Flow ≡ world
  unfolding happens
  nothing_comes done calm = ap (λ (waiting : List ℕ). flows config world waiting) (none_waits world.sent world.waiting done calm.queue)

  none_left : (done : List Outgoing) → IsCalmWorld config limits budget world done [] → IsCalmWorld config limits (budget - 1) world done []
  none_left done calm = record {
    queue = calm.queue;
    few_sent = calm.few_sent;
    weighs = omega arith;
    stamping = calm.stamping;
    stampings = calm.stampings;
    epoch = calm.epoch;
    counters = calm.counters;
    fine = calm.fine;
    cells = calm.cells;
    few = calm.few;
    first_up = calm.first_up;
    clients = calm.clients;
    whole = calm.whole;
    jobs = calm.jobs;
  }

  -- FLOW
  pub calm_flow : IsCalm config limits budget world → length (happens config world Event.Flow).sent ≤ 262144 → IsCalm config limits (budget - 1) (happens config world Event.Flow)
  calm_flow (done, [], calm) = by_world (happens config world Event.Flow) world (nothing_comes done calm) (λ few. (done, [], none_left done calm))
  calm_flow (done, one ∷ rest, calm) =
      by_world (happens config world Event.Flow) (comes_to config (no_longer_waiting world (length done)) None one.to one.message) (flow_is done one rest calm) (one_comes done rest one calm.fine.0 calm)
