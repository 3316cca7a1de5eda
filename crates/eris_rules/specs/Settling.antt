-- How far a log is settled. The learner of a view asks the others how far they are; what f+1 replicas of the
-- view have without a gap can't be lost any more, so the learner settles it, gives the late answers up to
-- there, and tells the others, with all the places that it knows to be dropped for good.
use Rattle.std.specs.Prelude.{ℕ, Bool, not, ◌==◌, ◌&&◌, nat_lt, List, [], ◌∷◌, ◌++◌, map, if◌then◌else◌}
use Rattle.eris_base.specs.declared.ids.Node.TheVariants.{Client}
use Rattle.eris_base.specs.declared.ids.Place.{Place}
use Rattle.eris_base.specs.declared.ids.ReplicaId.{ReplicaId}
use Rattle.eris_base.specs.declared.ids.View.{View}
use Rattle.eris_base.specs.Quorums.{same_replica}
use Rattle.eris_log.specs.Entries.{length_of, covers}
use Rattle.eris_log.specs.PartValues.{PartValue}
use Rattle.eris_log.specs.Places.{with_places}
use Rattle.eris_locks.specs.declared.done.Done.{Done}
use Rattle.eris_view.specs.AckTallies.{AckTallyValue, with_ack, settled}
use Rattle.eris_rules.specs.EpochMessages.{EpochSend, send, send_each, Exchanges, Responds, SyncAsk, Ack, Settled, Late}
use Rattle.eris_rules.specs.ReplicaAnswers.{log_upto, late_answers}
use Rattle.eris_rules.specs.ReplicaStates.{Member, EpochReplica, EpochOut, quiet, is_normal, is_learner, learner_node, others}
use Rattle.eris_rules.specs.Views.{enters_view}

-- the lengths that it has noted, as the tally that counts them
abbrev pub ack_tally : Member → EpochReplica → AckTallyValue
ack_tally me state = record { f = me.config.f; acks = state.acks }

-- how far f+1 replicas have come, itself among them
unfoldable pub shared_number : Member → EpochReplica → ℕ
shared_number me state = settled (ack_tally me state) (length_of state.part)

abbrev pub late_for : Member → Done → EpochSend
late_for me done = send (Client done.asker) (Responds (Late me.shard me.replica done.id done.phase done.answer))

-- the late answers at places above the old settled number and up to the new one, each to its asker
unfoldable pub tells_late : Member → EpochReplica → ℕ → List EpochSend
tells_late me state number =
    map (λ done. late_for me done) (late_answers me.shard state.part.epoch (log_upto me.prior state.part number) state.settled)

-- the others hear how far the log is settled, and what is dropped for good
unfoldable pub tells_settled : Member → EpochReplica → ℕ → List EpochSend
tells_settled me state number = send_each (others me) (Exchanges (Settled state.view number state.part.perm))

unfoldable pub settles : Member → EpochReplica → ℕ → EpochOut
settles me state number =
    record {
      state = record state { settled = number };
      sends = tells_late me state number ++ tells_settled me state number;
    }

-- RAISING: where f+1 replicas have come further than is settled, that is settled. A late answer is given only
-- now: it rests on packets behind its own, and nobody vouches for it.
unfoldable pub raises : Member → EpochReplica → EpochOut
raises me state =
    if nat_lt state.settled (shared_number me state) then settles me state (shared_number me state) else quiet state

-- a replica that isn't the learner of a view above its own has missed that view's beginning: it enters it
unfoldable pub enters_above : Member → EpochReplica → View → EpochOut
enters_above me state view =
    if nat_lt state.view.0 view.0 && not (is_learner me view) then enters_view me state view else quiet state

-- it takes part in the view and isn't its learner
abbrev pub follows : Member → EpochReplica → Bool
follows me state = is_normal state.status && not (is_learner me state.view)

-- it takes part in the view as its learner
abbrev pub leads : Member → EpochReplica → Bool
leads me state = is_normal state.status && is_learner me state.view

unfoldable pub acknowledges : Member → EpochReplica → EpochOut
acknowledges me state =
    record {
      state = state;
      sends = send (learner_node me state.view) (Exchanges (Ack me.replica state.view (length_of state.part))) ∷ [];
    }

unfoldable pub sync_ask_same : Member → EpochReplica → EpochOut
sync_ask_same me state = if follows me state then acknowledges me state else quiet state

-- SYNC ASK: it tells the learner its length
unfoldable pub sync_ask_row : Member → EpochReplica → View → EpochOut
sync_ask_row me state view =
    if view.0 == state.view.0 then sync_ask_same me state else enters_above me state view

unfoldable pub notes_ack : Member → EpochReplica → ReplicaId → ℕ → EpochOut
notes_ack me state replica length = raises me (record state { acks = with_ack state.acks replica length })

-- ACK: the learner notes how far another replica is, and raises
unfoldable pub ack_row : Member → EpochReplica → ReplicaId → View → ℕ → EpochOut
ack_row me state replica view length =
    if view.0 == state.view.0 && (leads me state && not (same_replica replica me.replica))
    then notes_ack me state replica length
    else quiet state

-- the part in which these places are also dropped for good
unfoldable pub mark_all_dropped : PartValue → List Place → PartValue
mark_all_dropped part places = record part { perm = with_places part.perm places }

-- the number is settled where the part has all up to it, dropped places counted, and it isn't below what is
-- settled already
unfoldable pub learns : EpochReplica → ℕ → EpochReplica
learns state number =
    if covers state.part number && nat_lt state.settled number then record state { settled = number } else state

-- The learner's drops are joined in any case, and before the number is looked at: without them an entry that
-- the learner has left out would stand in this replica's settled log.
unfoldable pub hears_settled : EpochReplica → ℕ → List Place → EpochOut
hears_settled state number places =
    quiet (learns (record state { part = mark_all_dropped state.part places }) number)

unfoldable pub settled_same : Member → EpochReplica → ℕ → List Place → EpochOut
settled_same me state number places = if follows me state then hears_settled state number places else quiet state

-- SETTLED: a replica learns from its learner how far the log is settled
unfoldable pub settled_row : Member → EpochReplica → View → ℕ → List Place → EpochOut
settled_row me state view number places =
    if view.0 == state.view.0 then settled_same me state number places else enters_above me state view

-- it tells again how far the log is settled, for a replica that may have missed it
unfoldable pub repeats_settled : Member → EpochReplica → EpochOut
repeats_settled me state =
    if nat_lt 0 state.settled then record { state = state; sends = tells_settled me state state.settled } else quiet state

unfoldable pub raises_or_repeats : Member → EpochReplica → EpochOut
raises_or_repeats me state =
    if nat_lt state.settled (shared_number me state) then settles me state (shared_number me state)
    else repeats_settled me state

-- and asks the others how far they are
unfoldable pub also_asks : Member → EpochOut → EpochOut
also_asks me out = record out { sends = out.sends ++ send_each (others me) (Exchanges (SyncAsk out.state.view)) }

-- SYNC, the learner's timer
unfoldable pub sync_row : Member → EpochReplica → EpochOut
sync_row me state = if leads me state then also_asks me (raises_or_repeats me state) else quiet state
