-- How a replica goes from one view to the next. A view has one learner. The learner of a new view begins it
-- when f+1 replicas, itself among them, have given it what they know; each of them has by then left the views
-- below, so what was counted in such a view is in the union of their parts, and so are the temporary drops
-- that f+1 replicas made there.
use Rattle.std.specs.Prelude.{◌+◌, ◌-◌, ◌^◌, Bool, not, ◌==◌, ◌&&◌, ◌||◌, nat_lt, None, [], ◌∷◌, if◌then◌else◌}
use Rattle.eris_base.specs.declared.ids.ReplicaId.{ReplicaId}
use Rattle.eris_base.specs.declared.ids.View.{View}
use Rattle.eris_base.specs.declared.ids.Node.TheVariants.{Replica}
use Rattle.eris_base.specs.Quorums.{same_replica}
use Rattle.eris_log.specs.PartValues.{PartValue}
use Rattle.eris_log.specs.Parts.{merge}
use Rattle.eris_view.specs.ViewTallies.{ViewTallyValue, with_part, is_ready, union_of}
use Rattle.eris_rules.specs.declared.replica_status.ReplicaStatus.TheVariants.{Normal, Changing}
use Rattle.eris_rules.specs.EpochMessages.{send, send_each, Exchanges, ViewChange, StartView}
use Rattle.eris_rules.specs.ReplicaStates.{Member, EpochReplica, EpochOut, quiet, is_normal, is_learner, learner_node, others}

-- in a view that hasn't begun
unfoldable pub entered : EpochReplica → View → EpochReplica
entered state view = record state { view = view; status = Changing; noted = []; acks = [] }

-- BECOMING NORMAL: it speaks anew, in this view, for all that isn't settled
unfoldable pub became_normal : EpochReplica → EpochReplica
became_normal state = record state { status = Normal; spoken = state.settled; asked = None; noted = []; acks = [] }

-- it gives the learner of its view what it knows
unfoldable pub shows_part : Member → EpochReplica → EpochOut
shows_part me state =
    record {
      state = state;
      sends = send (learner_node me state.view) (Exchanges (ViewChange me.replica state.view state.part)) ∷ [];
    }

-- the parts that it has noted, as the tally that counts them
abbrev pub view_tally : Member → EpochReplica → ViewTallyValue
view_tally me state = record { view = state.view; f = me.config.f; noted = state.noted }

-- the learner joins what it noted to its own part, and begins the view
unfoldable pub starts_view : Member → EpochReplica → EpochOut
starts_view me state =
    record {
      state = became_normal (record state { part = union_of state.noted state.part });
      sends = send_each (others me) (Exchanges (StartView state.view (union_of state.noted state.part)));
    }

-- TESTING: it begins the view where it and the noted replicas are at least f+1
unfoldable pub tests_view : Member → EpochReplica → EpochOut
tests_view me state = if is_ready (view_tally me state) me.replica then starts_view me state else quiet state

-- ENTERING a view: its learner tests at once, since with f = 0 it needs nobody else; any other shows it its part
unfoldable pub enters_view : Member → EpochReplica → View → EpochOut
enters_view me state view =
    if is_learner me view then tests_view me (entered state view) else shows_part me (entered state view)

-- SUSPECT: it goes on to the next view, unless the number of views ends
unfoldable pub suspect_row : Member → EpochReplica → EpochOut
suspect_row me state =
    if nat_lt state.view.0 (2 ^ 32 - 1) then enters_view me state (record { 0 = state.view.0 + 1 }) else quiet state

-- it notes a part and tests
unfoldable pub notes_part : Member → EpochReplica → ReplicaId → PartValue → EpochOut
notes_part me state replica part = tests_view me (record state { noted = with_part state.noted replica part })

-- it tells a replica that comes late to the view what the view began with, and more
unfoldable pub tells_view : Member → EpochReplica → ReplicaId → EpochOut
tells_view me state replica =
    record {
      state = state;
      sends = send (Replica me.shard replica) (Exchanges (StartView state.view state.part)) ∷ [];
    }

unfoldable pub view_change_same : Member → EpochReplica → ReplicaId → PartValue → EpochOut
view_change_same me state replica part =
    if is_normal state.status then tells_view me state replica else notes_part me state replica part

unfoldable pub view_change_shown : Member → EpochReplica → ReplicaId → View → PartValue → EpochOut
view_change_shown me state replica view part =
    if nat_lt state.view.0 view.0 then notes_part me (entered state view) replica part
    else if view.0 == state.view.0 then view_change_same me state replica part
    else quiet state

-- the part is of the own shard, and it is shown to the learner of the view by another replica
abbrev pub is_shown_to : Member → ReplicaId → View → PartValue → Bool
is_shown_to me replica view part =
    part.shard.0 == me.shard.0 && (is_learner me view && not (same_replica replica me.replica))

-- VIEW CHANGE: another replica shows the learner of a view its part. A view above the own is entered first;
-- in one that hasn't begun the part is noted; one that has begun is told.
unfoldable pub view_change_row : Member → EpochReplica → ReplicaId → View → PartValue → EpochOut
view_change_row me state replica view part =
    if is_shown_to me replica view part then view_change_shown me state replica view part else quiet state

-- the view is above the own, or is the own and hasn't begun here
abbrev pub begins_here : EpochReplica → View → Bool
begins_here state view = nat_lt state.view.0 view.0 || (view.0 == state.view.0 && not (is_normal state.status))

unfoldable pub takes_view : EpochReplica → View → PartValue → EpochOut
takes_view state view part = quiet (became_normal (record state { view = view; part = merge state.part part }))

-- START VIEW: a replica that isn't the learner takes part from here on, with all that the learner knew
unfoldable pub start_view_row : Member → EpochReplica → View → PartValue → EpochOut
start_view_row me state view part =
    if part.shard.0 == me.shard.0 && (not (is_learner me view) && begins_here state view)
    then takes_view state view part
    else quiet state
