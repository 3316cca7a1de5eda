-- What a step of a replica can be, seen from outside its epoch: nothing, a step within its epoch, a question for
-- an epoch's start, a promise, or the beginning of an epoch. The rows that speak of epochs are taken apart here
-- once, and every fact on epochs is one match on these five cases.
use Rattle.std.proofs.Common.{◌≡◌, ◌⊎◌, inl, inr, ◌<◌, ◌≤◌, List, Bool, true, false, ◌==◌, ◌&&◌, ◌||◌, nat_lt, Option, Some, None, refl, ap, ◌∙◌, arith}
use Rattle.std.specs.Prelude.{if◌then◌else◌}
use Rattle.std.proofs.lemmas.Bool.{cond_both, eqb-true, and_parts, or_cases, ltb-true, leb-true, not-true}
use Rattle.std.proofs.lemmas.Bool.Decides.{nat_tests}
use Rattle.eris_base.specs.declared.ids.Epoch.{Epoch}
use Rattle.eris_base.specs.declared.ids.ShardId.{ShardId}
use Rattle.eris_base.proofs.IdLaws.{epoch_equal}
use Rattle.eris_txn.specs.declared.packet.Packet.{Packet}
use Rattle.eris_msg.specs.declared.message.Message.{Message}
use Rattle.eris_rules.specs.declared.replica_input.ReplicaInput.{ReplicaInput}
use Rattle.eris_rules.specs.EpochMessages.{EpochMessage, Stamped, Instructs, Notifies, Exchanges, Responds}
use Rattle.eris_rules.specs.EpochReplicas.{EpochInput, Get, Probe, Suspect, Sync}
use Rattle.eris_rules.specs.InPlace.{is_in_place_at_replica}
use Rattle.eris_rules.specs.Outer.{Inner, inner_of}
use Rattle.eris_rules.specs.ReplicaStates.{Identity, ReplicaState, ReplicaOut, begun, is_stopped}
use Rattle.eris_rules.specs.Replicas.{still, steps, asks_start, later_txn, takes_other, takes_part_in, takes_inner, may_promise, promises, epoch_ask_row, may_begin, start_epoch_row, takes_outer, takes_said, takes, message_step, probe_step, timer_step, replica_step}

-- an input's meaning within the epoch: the message of the epoch in the message, which is in place; or the same timer
pub data Means (me : Identity) (epoch : Epoch) : ReplicaInput → EpochInput → Type 0 where
  Says : (message : Message) (inner : EpochMessage) → is_in_place_at_replica me.config message ≡ true → inner_of message ≡ Some (record { epoch = epoch; message = inner })
      → Means me epoch (ReplicaInput.Message message) (Get inner)
  Probes : Means me epoch ReplicaInput.Probe Probe
  Suspects : Means me epoch ReplicaInput.Suspect Suspect
  Syncs : Means me epoch ReplicaInput.Sync Sync

-- THE CASES of a replica's step
pub data ReplicaLeaf (me : Identity) (state : ReplicaState) : ReplicaInput → ReplicaOut → Type 0 where
  Nothing : (input : ReplicaInput) → ReplicaLeaf me state input (still state)
  Within : (input : ReplicaInput) (inner : EpochInput) → state.promised.0 ≤ state.epoch.0 → Means me state.epoch input inner
      → ReplicaLeaf me state input (steps me state inner)
  AsksStart : (input : ReplicaInput) (epoch : Epoch) → ReplicaLeaf me state input (asks_start me state epoch)
  Promises : (epoch : Epoch) → state.promised.0 ≤ epoch.0 → (state.promised.0 < epoch.0) ⊎ (state.epoch.0 < epoch.0)
      → ReplicaLeaf me state (ReplicaInput.Message (Message.EpochAsk epoch)) (promises me state epoch)
  Begins : (epoch : Epoch) (shard : ShardId) (packets : List Packet) → shard ≡ me.shard → state.epoch.0 < epoch.0 → state.promised.0 ≤ epoch.0
      → ReplicaLeaf me state (ReplicaInput.Message (Message.StartEpoch epoch shard packets)) (still (begun epoch me.shard packets))

module _ (me : Identity) (state : ReplicaState) where
  choose : (input : ReplicaInput) (b : Bool) (x y : ReplicaOut) → (b ≡ true → ReplicaLeaf me state input x) → (b ≡ false → ReplicaLeaf me state input y)
      → ReplicaLeaf me state input (if b then x else y)
  choose input b x y f g = cond_both b x y (ReplicaLeaf me state input) f g

  not_stopped : is_stopped state ≡ false → state.promised.0 ≤ state.epoch.0
  not_stopped h = grind (arith, nat_tests)

  leaf_later : (input : ReplicaInput) (epoch : Epoch) → ReplicaLeaf me state input (later_txn me state epoch)
  unfolding later_txn
  leaf_later input epoch = choose input _ _ _ (λ h. AsksStart input epoch) (λ h. Nothing input)

  leaf_other : (input : ReplicaInput) (epoch : Epoch) (message : EpochMessage) → ReplicaLeaf me state input (takes_other me state epoch message)
  leaf_other input epoch (Stamped packet) = leaf_later input epoch
  leaf_other input epoch (Instructs instruction) = Nothing input
  leaf_other input epoch (Notifies notice) = Nothing input
  leaf_other input epoch (Exchanges exchange) = Nothing input
  leaf_other input epoch (Responds response) = Nothing input

  leaf_inner : (message : Message) (inner : Inner) → is_in_place_at_replica me.config message ≡ true → inner_of message ≡ Some inner
      → ReplicaLeaf me state (ReplicaInput.Message message) (takes_inner me state inner)
  unfolding takes_inner
  leaf_inner message inner ok is = choose _ (takes_part_in state inner.epoch) _ _
      (λ h. let own : inner.epoch ≡ state.epoch = epoch_equal _ _ (eqb-true _ _ (and_parts _ _ h).0) in
      Within _ (Get inner.message) (not_stopped (not-true _ (and_parts _ _ h).1))
      (Says message inner.message ok (is ∙ ap (λ (e : Epoch). Some (record { epoch = e; message = inner.message })) own)))
      (λ h. leaf_other _ inner.epoch inner.message)

  leaf_ask : (epoch : Epoch) → ReplicaLeaf me state (ReplicaInput.Message (Message.EpochAsk epoch)) (epoch_ask_row me state epoch)
  unfolding epoch_ask_row may_promise
  leaf_ask epoch = choose _ (nat_lt state.promised.0 epoch.0 || (epoch.0 == state.promised.0 && nat_lt state.epoch.0 epoch.0)) _ _ by_test (λ h. Nothing _)
    where
      above : nat_lt state.promised.0 epoch.0 ≡ true → ReplicaLeaf me state (ReplicaInput.Message (Message.EpochAsk epoch)) (promises me state epoch)
      above h = let up : state.promised.0 < epoch.0 = ltb-true _ _ h in Promises epoch (omega (arith, up)) (inl up)

      again : (epoch.0 == state.promised.0 && nat_lt state.epoch.0 epoch.0) ≡ true → ReplicaLeaf me state (ReplicaInput.Message (Message.EpochAsk epoch)) (promises me state epoch)
      again h =
          let same : epoch.0 ≡ state.promised.0 = eqb-true _ _ (and_parts (epoch.0 == state.promised.0) (nat_lt state.epoch.0 epoch.0) h).0 in
          Promises epoch (omega (arith, same)) (inr (ltb-true _ _ (and_parts (epoch.0 == state.promised.0) (nat_lt state.epoch.0 epoch.0) h).1))

      by_test : (nat_lt state.promised.0 epoch.0 || (epoch.0 == state.promised.0 && nat_lt state.epoch.0 epoch.0)) ≡ true
          → ReplicaLeaf me state (ReplicaInput.Message (Message.EpochAsk epoch)) (promises me state epoch)
      by_test h = elim (or_cases (nat_lt state.promised.0 epoch.0) (epoch.0 == state.promised.0 && nat_lt state.epoch.0 epoch.0) h) [ inl x ↦ above x | inr x ↦ again x ]

  leaf_start : (epoch : Epoch) (shard : ShardId) (packets : List Packet) → ReplicaLeaf me state (ReplicaInput.Message (Message.StartEpoch epoch shard packets)) (start_epoch_row me state epoch shard packets)
  unfolding start_epoch_row may_begin
  leaf_start epoch shard packets = choose _ _ _ _
      (λ h. let rest = (and_parts _ _ h).1 in
      Begins epoch shard packets (λ i. record { 0 = eqb-true shard.0 me.shard.0 (and_parts _ _ h).0 i }) (ltb-true _ _ (and_parts _ _ rest).0) (leb-true _ _ (and_parts _ _ rest).1))
      (λ h. Nothing _)

  leaf_outer : (message : Message) → ReplicaLeaf me state (ReplicaInput.Message message) (takes_outer me state message)
  leaf_outer (Message.EpochAsk epoch) = leaf_ask epoch
  leaf_outer (Message.StartEpoch epoch shard packets) = leaf_start epoch shard packets
  leaf_outer message = Nothing _

  leaf_said : (message : Message) (said : Option Inner) → is_in_place_at_replica me.config message ≡ true → inner_of message ≡ said
      → ReplicaLeaf me state (ReplicaInput.Message message) (takes_said me state message said)
  leaf_said message None ok is = leaf_outer message
  leaf_said message (Some inner) ok is = leaf_inner message inner ok is

  leaf_takes : (message : Message) → is_in_place_at_replica me.config message ≡ true → ReplicaLeaf me state (ReplicaInput.Message message) (takes me state message)
  unfolding takes
  leaf_takes message ok = leaf_said message (inner_of message) ok refl

  leaf_message : (message : Message) → ReplicaLeaf me state (ReplicaInput.Message message) (message_step me state message)
  unfolding message_step
  leaf_message message = choose _ _ _ _ (λ h. leaf_takes message h) (λ h. Nothing _)

  leaf_probe : ReplicaLeaf me state ReplicaInput.Probe (probe_step me state)
  unfolding probe_step
  leaf_probe = choose _ _ _ _ (λ h. AsksStart _ state.promised) (λ h. Within _ Probe (not_stopped h) Probes)

  leaf_timer : (input : ReplicaInput) (inner : EpochInput) → Means me state.epoch input inner → ReplicaLeaf me state input (timer_step me state inner)
  unfolding timer_step
  leaf_timer input inner means = choose _ _ _ _ (λ h. Nothing _) (λ h. Within _ inner (not_stopped h) means)

  pub replica_leaf : (input : ReplicaInput) → ReplicaLeaf me state input (replica_step me state input)
  unfolding replica_step
  replica_leaf (ReplicaInput.Message message) = leaf_message message
  replica_leaf ReplicaInput.Probe = leaf_probe
  replica_leaf ReplicaInput.Suspect = leaf_timer _ Suspect Suspects
  replica_leaf ReplicaInput.Sync = leaf_timer _ Sync Syncs
