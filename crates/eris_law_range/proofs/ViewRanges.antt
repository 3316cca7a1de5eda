-- The rows for view changes keep to the messages' ranges.
use Rattle.std.proofs.Common.{◌≡◌, ◌<◌, ◌+◌, ◌-◌, ◌^◌, ◌&&◌, ◌==◌, ℕ, true, not, nat_lt, subst, arith}
use Rattle.std.specs.List.{AllByRecursion}
use Rattle.std.proofs.lemmas.Bool.{and_parts, cond_both, ltb-true, lt-ltb}
use Rattle.eris_base.specs.declared.ids.Epoch.{Epoch}
use Rattle.eris_base.specs.declared.ids.ReplicaId.{ReplicaId}
use Rattle.eris_base.specs.declared.ids.ShardId.{ShardId}
use Rattle.eris_base.specs.declared.ids.View.{View}
use Rattle.eris_base.specs.Quorums.{same_replica}
use Rattle.eris_base.proofs.IdLaws.{shard_by_test}
use Rattle.eris_log.specs.PartValues.{PartValue}
use Rattle.eris_log.specs.Parts.{merge}
use Rattle.eris_codec.specs.Fields as f
use Rattle.eris_rules.specs.EpochMessages.{Exchanges, StartView}
use Rattle.eris_rules.specs.ReplicaStates.{Member, EpochReplica, EpochOut, quiet, is_normal, is_learner, others}
use Rattle.eris_rules.specs.Views.{entered, became_normal, shows_part, view_tally, starts_view, tests_view, enters_view, suspect_row, notes_part, tells_view, view_change_same, view_change_shown, is_shown_to, view_change_row, begins_here, takes_view, start_view_row}
use Rattle.eris_in_place.proofs.SendLaws.{each_sent}
use Rattle.eris_view.specs.ViewTallies.{is_ready, union_of, with_part}
use Rattle.eris_law_range.specs.Fitting.{HeldIsRight, PartIsRight, PartCame, MemberFits, StateFits, RowFits}
use Rattle.eris_law_range.proofs.PartRanges.{merge-right, union_of-right, with_part-right}

view_from : (number : ℕ) → number < 2 ^ 32 → f.view.fits (record { 0 = number }) ≡ true
unfolding f.view f.word
view_from number few = lt-ltb number (2 ^ 32) few

-- a part that came, and is of the own shard
came_right : (epoch : Epoch) (shard : ShardId) (part : PartValue) → PartCame epoch part → (part.shard.0 == shard.0) ≡ true → PartIsRight epoch shard part
came_right epoch shard part h e =
    let own = shard_by_test part.shard shard e in
    record { own = record { in_epoch = h.of_epoch; on_shard = own }; fits = h.fits; held = subst (λ (s : ShardId). AllByRecursion (HeldIsRight s) part.held) own h.held }

module _ (me : Member) (epoch : Epoch) (fits : MemberFits me epoch) where
  abbrev pub Fits : EpochReplica → Type 0
  Fits state = StateFits epoch me.shard state

  abbrev pub Row : EpochOut → Type 0
  Row out = RowFits me epoch out

  pub quiet-fits : (state : EpochReplica) → Fits state → Row (quiet state)
  quiet-fits state h = record { state = h; sends = tt }

  entered-fits : (state : EpochReplica) (view : View) → Fits state → f.view.fits view ≡ true → Fits (entered state view)
  unfolding entered
  entered-fits state view h k = record { view = k; part = h.part; noted = tt; settled = h.settled }

  became_normal-fits : (state : EpochReplica) → Fits state → Fits (became_normal state)
  unfolding became_normal
  became_normal-fits state h = record { view = h.view; part = h.part; noted = tt; settled = h.settled }

  pub shows_part-fits : (state : EpochReplica) → Fits state → Row (shows_part me state)
  unfolding shows_part
  shows_part-fits state h = record { state = h; sends = ((fits.replica, h.view, h.part.fits), tt) }

  starts_view-fits : (state : EpochReplica) → Fits state → Row (starts_view me state)
  unfolding starts_view
  starts_view-fits state h =
      let joined = union_of-right epoch me.shard state.noted state.part h.noted h.part in
      record {
        state = became_normal-fits (record state { part = union_of state.noted state.part }) (record { view = h.view; part = joined; noted = h.noted; settled = h.settled });
        sends = each_sent epoch (others me) (Exchanges (StartView state.view (union_of state.noted state.part))) (h.view, joined.fits);
      }

  tests_view-fits : (state : EpochReplica) → Fits state → Row (tests_view me state)
  unfolding tests_view
  tests_view-fits state h =
      cond_both (is_ready (view_tally me state) me.replica) (starts_view me state) (quiet state) Row (λ _. starts_view-fits state h) (λ _. quiet-fits state h)

  pub enters_view-fits : (state : EpochReplica) (view : View) → Fits state → f.view.fits view ≡ true → Row (enters_view me state view)
  unfolding enters_view
  enters_view-fits state view h k =
      cond_both (is_learner me view) (tests_view me (entered state view)) (shows_part me (entered state view)) Row
      (λ _. tests_view-fits (entered state view) (entered-fits state view h k)) (λ _. shows_part-fits (entered state view) (entered-fits state view h k))

  pub suspect_row-fits : (state : EpochReplica) → Fits state → Row (suspect_row me state)
  unfolding suspect_row
  suspect_row-fits state h =
      cond_both (nat_lt state.view.0 (2 ^ 32 - 1)) (enters_view me state (record { 0 = state.view.0 + 1 })) (quiet state) Row
      (λ e. let lt = ltb-true state.view.0 (2 ^ 32 - 1) e in enters_view-fits state (record { 0 = state.view.0 + 1 }) h (view_from (state.view.0 + 1) (omega arith)))
      (λ _. quiet-fits state h)

  notes_part-fits : (state : EpochReplica) (replica : ReplicaId) (part : PartValue) → Fits state → PartIsRight epoch me.shard part → Row (notes_part me state replica part)
  unfolding notes_part
  notes_part-fits state replica part h k =
      tests_view-fits (record state { noted = with_part state.noted replica part })
      (record { view = h.view; part = h.part; noted = with_part-right epoch me.shard state.noted replica part h.noted k; settled = h.settled })

  tells_view-fits : (state : EpochReplica) (replica : ReplicaId) → Fits state → Row (tells_view me state replica)
  unfolding tells_view
  tells_view-fits state replica h = record { state = h; sends = ((h.view, h.part.fits), tt) }

  view_change_same-fits : (state : EpochReplica) (replica : ReplicaId) (part : PartValue) → Fits state → PartIsRight epoch me.shard part → Row (view_change_same me state replica part)
  unfolding view_change_same
  view_change_same-fits state replica part h k =
      cond_both (is_normal state.status) (tells_view me state replica) (notes_part me state replica part) Row
      (λ _. tells_view-fits state replica h) (λ _. notes_part-fits state replica part h k)

  view_change_shown-fits : (state : EpochReplica) (replica : ReplicaId) (view : View) (part : PartValue) → Fits state → f.view.fits view ≡ true → PartIsRight epoch me.shard part
      → Row (view_change_shown me state replica view part)
  unfolding view_change_shown
  view_change_shown-fits state replica view part h v k =
      cond_both (nat_lt state.view.0 view.0) (notes_part me (entered state view) replica part) _ Row
      (λ _. notes_part-fits (entered state view) replica part (entered-fits state view h v) k)
      (λ _. cond_both (view.0 == state.view.0) (view_change_same me state replica part) (quiet state) Row
      (λ _. view_change_same-fits state replica part h k) (λ _. quiet-fits state h))

  pub view_change_row-fits : (state : EpochReplica) (replica : ReplicaId) (view : View) (part : PartValue) → Fits state → f.view.fits view ≡ true → PartCame epoch part
      → Row (view_change_row me state replica view part)
  unfolding view_change_row
  view_change_row-fits state replica view part h v k =
      cond_both (is_shown_to me replica view part) (view_change_shown me state replica view part) (quiet state) Row
      (λ e. view_change_shown-fits state replica view part h v
      (came_right epoch me.shard part k (and_parts (part.shard.0 == me.shard.0) (is_learner me view && not (same_replica replica me.replica)) e).0))
      (λ _. quiet-fits state h)

  takes_view-fits : (state : EpochReplica) (view : View) (part : PartValue) → Fits state → f.view.fits view ≡ true → PartIsRight epoch me.shard part → Row (takes_view state view part)
  unfolding takes_view
  takes_view-fits state view part h v k =
      quiet-fits (became_normal (record state { view = view; part = merge state.part part }))
      (became_normal-fits (record state { view = view; part = merge state.part part })
      (record { view = v; part = merge-right epoch me.shard state.part part h.part k; noted = h.noted; settled = h.settled }))

  pub start_view_row-fits : (state : EpochReplica) (view : View) (part : PartValue) → Fits state → f.view.fits view ≡ true → PartCame epoch part → Row (start_view_row me state view part)
  unfolding start_view_row
  start_view_row-fits state view part h v k =
      cond_both (part.shard.0 == me.shard.0 && (not (is_learner me view) && begins_here state view)) (takes_view state view part) (quiet state) Row
      (λ e. takes_view-fits state view part h v
      (came_right epoch me.shard part k (and_parts (part.shard.0 == me.shard.0) (not (is_learner me view) && begins_here state view) e).0))
      (λ _. quiet-fits state h)
