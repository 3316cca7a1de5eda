-- What a step of the coordinator can be, seen from outside the current epoch: nothing, a step within it, a start
-- of the current epoch for one replica, a higher target, a noted part, or the closing of the epochs below the
-- target. Every fact on the coordinator's epochs is one match on these cases.
use Rattle.std.proofs.Common.{◌≡◌, ◌<◌, ◌≤◌, Bool, true, false, ◌==◌, ◌&&◌, nat_lt, Option, Some, None, refl, sym, ap, ◌∙◌, subst, arith}
use Rattle.std.specs.Prelude.{if◌then◌else◌}
use Rattle.std.proofs.lemmas.Bool.{cond_both, eqb-true, and_parts, ltb-true, not-true}
use Rattle.std.proofs.lemmas.Bool.Decides.{nat_tests}
use Rattle.eris_base.specs.declared.ids.Epoch.{Epoch}
use Rattle.eris_base.specs.declared.ids.ReplicaId.{ReplicaId}
use Rattle.eris_base.specs.declared.ids.ShardId.{ShardId}
use Rattle.eris_base.specs.ConfigLimits.{ConfigValue}
use Rattle.eris_base.proofs.IdLaws.{epoch_equal}
use Rattle.eris_log.specs.PartValues.{PartValue}
use Rattle.eris_epoch.specs.EpochTallies.{with_noted, is_ready}
use Rattle.eris_msg.specs.declared.message.Message.{Message}
use Rattle.eris_rules.specs.Coordinators.{stays, coord_steps_in, starts, takes_older, takes_elsewhere, decides_in, coord_takes_inner, raises_target, new_epoch_above, new_epoch_row, epoch_tally, closes, tests_closing, notes_state, epoch_state_late, epoch_state_row, coord_takes_outer, coord_takes_said, coord_takes, coord_message_step}
use Rattle.eris_rules.specs.CoordStates.{CoordState, CoordOut, is_frozen}
use Rattle.eris_rules.specs.EpochCoords.{epoch_coord_step}
use Rattle.eris_rules.specs.EpochMessages.{EpochMessage, Stamped, Instructs, Notifies, Exchanges, Responds, Find, Has, TempDropped}
use Rattle.eris_rules.specs.InPlace.{is_in_place_at_coordinator}
use Rattle.eris_rules.specs.Outer.{Inner, inner_of}

-- with one more noted part
abbrev pub noting : CoordState → ReplicaId → PartValue → CoordState
noting state replica part = record state { noted = with_noted state.noted (record { replica = replica; part = part }) }

-- THE CASES of the coordinator's step by a message
pub data CoordLeaf (config : ConfigValue) (state : CoordState) : Message → CoordOut → Type 0 where
  Nothing : (message : Message) → CoordLeaf config state message (stays state)
  Within : (message : Message) (inner : EpochMessage) → is_in_place_at_coordinator config message ≡ true → inner_of message ≡ Some (record { epoch = state.current; message = inner })
      → state.target.0 ≤ state.current.0 → CoordLeaf config state message (coord_steps_in state (epoch_coord_step config state.inner inner))
  Starts : (message : Message) (shard : ShardId) (replica : ReplicaId) → CoordLeaf config state message (starts state shard replica)
  Raises : (shard : ShardId) (replica : ReplicaId) (epoch : Epoch) → state.target.0 < epoch.0
      → CoordLeaf config state (Message.NewEpoch shard replica epoch) (raises_target config state epoch)
  Notes : (replica : ReplicaId) (part : PartValue) → state.current.0 < state.target.0 → is_in_place_at_coordinator config (Message.EpochState replica state.target part) ≡ true
      → CoordLeaf config state (Message.EpochState replica state.target part) (stays (noting state replica part))
  Closes : (replica : ReplicaId) (part : PartValue) → state.current.0 < state.target.0 → is_in_place_at_coordinator config (Message.EpochState replica state.target part) ≡ true
      → is_ready (epoch_tally config (noting state replica part)) ≡ true
      → CoordLeaf config state (Message.EpochState replica state.target part) (closes config (noting state replica part))

module _ (config : ConfigValue) (state : CoordState) where
  choose : (message : Message) (b : Bool) (x y : CoordOut) → (b ≡ true → CoordLeaf config state message x) → (b ≡ false → CoordLeaf config state message y)
      → CoordLeaf config state message (if b then x else y)
  choose message b x y f g = cond_both b x y (CoordLeaf config state message) f g

  leaf_older : (message : Message) (inner : EpochMessage) → CoordLeaf config state message (takes_older state inner)
  leaf_older message (Stamped packet) = Nothing message
  leaf_older message (Instructs instruction) = Nothing message
  leaf_older message (Notifies (Find replica place)) = Starts message place.shard replica
  leaf_older message (Notifies (Has packet)) = Nothing message
  leaf_older message (Notifies (TempDropped place shard replica view)) = Nothing message
  leaf_older message (Exchanges exchange) = Nothing message
  leaf_older message (Responds response) = Nothing message

  leaf_elsewhere : (message : Message) (inner : Inner) → CoordLeaf config state message (takes_elsewhere state inner)
  unfolding takes_elsewhere
  leaf_elsewhere message inner = choose _ _ _ _ (λ h. leaf_older message inner.message) (λ h. Nothing message)

  not_frozen : is_frozen state ≡ false → state.target.0 ≤ state.current.0
  not_frozen h = grind (arith, nat_tests)

  leaf_inner : (message : Message) (inner : Inner) → is_in_place_at_coordinator config message ≡ true → inner_of message ≡ Some inner
      → CoordLeaf config state message (coord_takes_inner config state inner)
  unfolding coord_takes_inner
  leaf_inner message inner ok is = choose _ (decides_in state inner.epoch) _ _
      (λ h. let own : inner.epoch ≡ state.current = epoch_equal _ _ (eqb-true _ _ (and_parts _ _ h).0) in
      Within message inner.message ok (is ∙ ap (λ (e : Epoch). Some (record { epoch = e; message = inner.message })) own) (not_frozen (not-true _ (and_parts _ _ h).1)))
      (λ h. leaf_elsewhere message inner)

  leaf_above : (shard : ShardId) (replica : ReplicaId) (epoch : Epoch) → CoordLeaf config state (Message.NewEpoch shard replica epoch) (new_epoch_above config state epoch)
  unfolding new_epoch_above
  leaf_above shard replica epoch = choose _ _ _ _ (λ h. Raises shard replica epoch (ltb-true _ _ h)) (λ h. Nothing _)

  leaf_new_epoch : (shard : ShardId) (replica : ReplicaId) (epoch : Epoch) → CoordLeaf config state (Message.NewEpoch shard replica epoch) (new_epoch_row config state shard replica epoch)
  unfolding new_epoch_row
  leaf_new_epoch shard replica epoch = choose _ _ _ _ (λ h. Starts _ shard replica) (λ h. leaf_above shard replica epoch)

  leaf_tests : (replica : ReplicaId) (part : PartValue) → state.current.0 < state.target.0 → is_in_place_at_coordinator config (Message.EpochState replica state.target part) ≡ true
      → CoordLeaf config state (Message.EpochState replica state.target part) (notes_state config state replica part)
  unfolding notes_state tests_closing
  leaf_tests replica part up ok = choose _ _ _ _ (λ h. Closes replica part up ok h) (λ h. Notes replica part up ok)

  leaf_late : (replica : ReplicaId) (epoch : Epoch) (part : PartValue) → CoordLeaf config state (Message.EpochState replica epoch part) (epoch_state_late state replica epoch part)
  unfolding epoch_state_late
  leaf_late replica epoch part = choose _ _ _ _ (λ h. Starts _ part.shard replica) (λ h. Nothing _)

  leaf_noted : (replica : ReplicaId) (epoch : Epoch) (part : PartValue) → is_in_place_at_coordinator config (Message.EpochState replica epoch part) ≡ true
      → epoch ≡ state.target → state.current.0 < epoch.0 → CoordLeaf config state (Message.EpochState replica epoch part) (notes_state config state replica part)
  leaf_noted replica epoch part ok same up =
      subst (λ (e : Epoch). CoordLeaf config state (Message.EpochState replica e part) (notes_state config state replica part)) (sym same)
      (leaf_tests replica part (subst (λ (e : Epoch). state.current.0 < e.0) same up) (subst (λ (e : Epoch). is_in_place_at_coordinator config (Message.EpochState replica e part) ≡ true) same ok))

  leaf_state : (replica : ReplicaId) (epoch : Epoch) (part : PartValue) → is_in_place_at_coordinator config (Message.EpochState replica epoch part) ≡ true
      → CoordLeaf config state (Message.EpochState replica epoch part) (epoch_state_row config state replica epoch part)
  unfolding epoch_state_row
  leaf_state replica epoch part ok = choose _ (epoch.0 == state.target.0 && nat_lt state.current.0 epoch.0) _ _
      (λ h. leaf_noted replica epoch part ok (epoch_equal _ _ (eqb-true _ _ (and_parts _ _ h).0)) (ltb-true _ _ (and_parts _ _ h).1))
      (λ h. leaf_late replica epoch part)

  leaf_outer : (message : Message) → is_in_place_at_coordinator config message ≡ true → CoordLeaf config state message (coord_takes_outer config state message)
  leaf_outer (Message.NewEpoch shard replica epoch) ok = leaf_new_epoch shard replica epoch
  leaf_outer (Message.EpochState replica epoch part) ok = leaf_state replica epoch part ok
  leaf_outer message ok = Nothing _

  leaf_said : (message : Message) (said : Option Inner) → is_in_place_at_coordinator config message ≡ true → inner_of message ≡ said
      → CoordLeaf config state message (coord_takes_said config state message said)
  leaf_said message None ok is = leaf_outer message ok
  leaf_said message (Some inner) ok is = leaf_inner message inner ok is

  leaf_takes : (message : Message) → is_in_place_at_coordinator config message ≡ true → CoordLeaf config state message (coord_takes config state message)
  unfolding coord_takes
  leaf_takes message ok = leaf_said message (inner_of message) ok refl

  pub coord_leaf : (message : Message) → CoordLeaf config state message (coord_message_step config state message)
  unfolding coord_message_step
  coord_leaf message = choose _ _ _ _ (λ h. leaf_takes message h) (λ h. Nothing _)
