-- Each row of a replica within an epoch, taken apart once: what a step can be, before the tail. Every fact on a
-- replica's steps is then one match on these cases.
use Rattle.std.proofs.Common.{◌≡◌, ◌⊎◌, inl, inr, ℕ, ◌+◌, ◌≤◌, ◌<◌, List, [], ◌∷◌, Bool, true, false, not, ◌==◌, ◌&&◌, ◌||◌, nat_lt, Option, Some, None, refl, sym, ap, ◌∙◌, subst, arith}
use Rattle.std.specs.Prelude.{if◌then◌else◌}
use Rattle.std.proofs.lemmas.Bool.{cond_both, eqb-true, and_parts, ltb-true, not-true}
use Rattle.eris_base.specs.declared.ids.Place.{Place}
use Rattle.eris_base.specs.declared.ids.ReplicaId.{ReplicaId}
use Rattle.eris_base.specs.declared.ids.View.{View}
use Rattle.eris_base.specs.Each.{Each}
use Rattle.eris_base.specs.Quorums.{same_replica}
use Rattle.eris_base.proofs.IdLaws.{shard_equal}
use Rattle.eris_txn.specs.declared.packet.Packet.{Packet}
use Rattle.eris_log.specs.Entries.{holder_of, covers}
use Rattle.eris_log.specs.Held.{packet_at}
use Rattle.eris_log.specs.PartValues.{PartValue}
use Rattle.eris_drop.specs.declared.request.RequestAnswer.{RequestAnswer}
use Rattle.eris_drop.specs.Requests.{is_known, answer_by, answer_request}
use Rattle.eris_view.proofs.TallyLaws.{each-with_part}
use Rattle.eris_view.specs.AckTallies.{with_ack}
use Rattle.eris_view.specs.ViewTallies.{with_part, is_ready}
use Rattle.eris_rules.specs.EpochMessages.{EpochMessage, Stamped, Instructs, Notifies, Exchanges, Responds, Instruction, Request, Found, Dropped, Exchange, ViewChange, StartView, SyncAsk, Ack, Settled}
use Rattle.eris_rules.specs.EpochReplicas.{EpochInput, Get, Probe, Suspect, Sync, has_spoken_for, speaks_again, holds_packet, txn_at, txn_named, txn_row, gives_packet, drops_for_a_time, answers_request, request_row, found_row, dropped_row, probe_normal, probe_changing, probe_row, instruction_row, exchange_row, message_row, row}
use Rattle.eris_rules.specs.ReplicaStates.{Member, EpochReplica, EpochOut, quiet, is_normal, is_learner}
use Rattle.eris_rules.specs.Settling.{shared_number, tells_settled, settles, raises, enters_above, acknowledges, sync_ask_same, sync_ask_row, notes_ack, ack_row, mark_all_dropped, learns, hears_settled, settled_same, settled_row, repeats_settled, raises_or_repeats, also_asks, sync_row}
use Rattle.eris_rules.specs.Speaking.{speaks_for, has_gap, find_gap}
use Rattle.eris_rules.specs.Views.{entered, shows_part, view_tally, starts_view, tests_view, enters_view, suspect_row, notes_part, tells_view, view_change_same, view_change_shown, view_change_row, begins_here, takes_view, start_view_row}
use Rattle.eris_law_epoch.proofs.Members.{Each-by_In}
use Rattle.eris_law_epoch.proofs.Frame.{view_equal}
use Rattle.eris_law_epoch.specs.Members.{In}

abbrev pub IsNormal : EpochReplica → Type 0
IsNormal state = is_normal state.status ≡ true

-- where a note for the view comes from: it was there for this view, or a replica of the own shard shows it now
abbrev pub ComesFrom : Member → EpochReplica → EpochInput → View → ReplicaId × PartValue → Type 0
ComesFrom me state input view one =
    (In one state.noted × (view ≡ state.view))
    ⊎ ((input ≡ Get (Exchanges (ViewChange one.0 view one.1))) × (one.1.shard ≡ me.shard))

-- a state in which a view hasn't begun, with the part and the settled number as they were
pub record IsChanging (me : Member) (state : EpochReplica) (input : EpochInput) (made : EpochReplica) : Type 0 where
  pub part : made.part ≡ state.part
  pub settled : made.settled ≡ state.settled
  pub status : is_normal made.status ≡ false
  pub view : state.view.0 ≤ made.view.0
  pub noted : Each (ComesFrom me state input made.view) made.noted
  pub acks : (made.acks ≡ []) ⊎ ((made.acks ≡ state.acks) × (made.view ≡ state.view))

-- where an acknowledgement comes from: the acknowledgements are as they were, or one came now from another
abbrev pub AcksFrom : Member → EpochReplica → EpochInput → List (ReplicaId × ℕ) → Type 0
AcksFrom me state input acks =
    (acks ≡ state.acks)
    ⊎ ((replica : ReplicaId) × (length : ℕ) × (input ≡ Get (Exchanges (Ack replica state.view length))) × (same_replica replica me.replica ≡ false) × (acks ≡ with_ack state.acks replica length))

-- the state of a view's learner, perhaps with one more acknowledgement
pub record IsCounting (me : Member) (state : EpochReplica) (input : EpochInput) (made : EpochReplica) : Type 0 where
  pub part : made.part ≡ state.part
  pub settled : made.settled ≡ state.settled
  pub status : made.status ≡ state.status
  pub normal : IsNormal state
  pub view : made.view ≡ state.view
  pub learner : is_learner me state.view ≡ true
  pub noted : made.noted ≡ state.noted
  pub acks : AcksFrom me state input made.acks

-- THE CASES of a row
pub data Leaf (me : Member) (state : EpochReplica) : EpochInput → EpochOut → Type 0 where
  Nothing : (input : EpochInput) → Leaf me state input (quiet state)
  Holds : (packet : Packet) → Leaf me state (Get (Stamped packet)) (holds_packet state packet)
  SpeaksAgain : (packet : Packet) (number : ℕ) → has_spoken_for state number ≡ true
      → Leaf me state (Get (Stamped packet)) (record { state = state; sends = speaks_for me state number })
  Gives : (place : Place) (number : ℕ) → IsNormal state → holder_of state.part place ≡ Some number
      → Leaf me state (Get (Instructs (Request place))) (gives_packet state (packet_at state.part.held number))
  Drops : (place : Place) → IsNormal state → holder_of state.part place ≡ None
      → Leaf me state (Get (Instructs (Request place))) (drops_for_a_time me state place)
  Finds : (packet : Packet) → Leaf me state (Get (Instructs (Found packet))) (found_row state packet)
  Loses : (place : Place) → Leaf me state (Get (Instructs (Dropped place))) (dropped_row state place)
  Shows : (input : EpochInput) (made : EpochReplica) → IsChanging me state input made → Leaf me state input (shows_part me made)
  Starts : (input : EpochInput) (made : EpochReplica) → IsChanging me state input made → is_learner me made.view ≡ true
      → is_ready (view_tally me made) me.replica ≡ true → Leaf me state input (starts_view me made)
  Waits : (input : EpochInput) (made : EpochReplica) → IsChanging me state input made → Leaf me state input (quiet made)
  Tells : (input : EpochInput) (replica : ReplicaId) → IsNormal state → is_learner me state.view ≡ true → Leaf me state input (tells_view me state replica)
  Takes : (view : View) (part : PartValue) → state.view.0 ≤ view.0 → part.shard ≡ me.shard → is_learner me view ≡ false
      → Leaf me state (Get (Exchanges (StartView view part))) (takes_view state view part)
  Acknowledges : (input : EpochInput) → IsNormal state → is_learner me state.view ≡ false → Leaf me state input (acknowledges me state)
  Settles : (input : EpochInput) (made : EpochReplica) → IsCounting me state input made → made.settled < shared_number me made
      → Leaf me state input (settles me made (shared_number me made))
  Counts : (input : EpochInput) (made : EpochReplica) → IsCounting me state input made → Leaf me state input (quiet made)
  Hears : (view : View) (number : ℕ) (places : List Place)
      → Leaf me state (Get (Exchanges (Settled view number places))) (quiet (record state { part = mark_all_dropped state.part places }))
  Learns : (view : View) (number : ℕ) (places : List Place) → view ≡ state.view → covers (mark_all_dropped state.part places) number ≡ true → state.settled < number
      → Leaf me state (Get (Exchanges (Settled view number places))) (quiet (record state { part = mark_all_dropped state.part places; settled = number }))
  Repeats : (input : EpochInput) → IsNormal state → is_learner me state.view ≡ true
      → Leaf me state input (record { state = state; sends = tells_settled me state state.settled })
  AsksHowFar : (input : EpochInput) (out : EpochOut) → IsNormal out.state → is_learner me out.state.view ≡ true → Leaf me state input out → Leaf me state input (also_asks me out)
  AsksGap : (input : EpochInput) → IsNormal state → has_gap state.part ≡ true
      → Leaf me state input (record { state = state; sends = find_gap me state.part ∷ [] })

module _ (me : Member) (state : EpochReplica) where
  choose : (input : EpochInput) (b : Bool) (x y : EpochOut) → (b ≡ true → Leaf me state input x) → (b ≡ false → Leaf me state input y) → Leaf me state input (if b then x else y)
  choose input b x y f g = cond_both b x y (Leaf me state input) f g

  -- ---- packets
  l_again : (packet : Packet) (number : ℕ) → Leaf me state (Get (Stamped packet)) (speaks_again me state number)
  unfolding speaks_again
  l_again packet number = choose _ _ _ _ (λ h. SpeaksAgain packet number h) (λ h. Nothing _)

  l_txn_at : (packet : Packet) (number : ℕ) → Leaf me state (Get (Stamped packet)) (txn_at me state packet number)
  unfolding txn_at
  l_txn_at packet number = choose _ _ _ _ (λ h. l_again packet number) (λ h. Holds packet)

  l_txn_named : (packet : Packet) (found : Option ℕ) → Leaf me state (Get (Stamped packet)) (txn_named me state packet found)
  l_txn_named packet None = Nothing _
  l_txn_named packet (Some number) = l_txn_at packet number

  l_txn : (packet : Packet) → Leaf me state (Get (Stamped packet)) (txn_row me state packet)
  unfolding txn_row
  l_txn packet = l_txn_named packet _

  -- ---- instructions
  l_answered : (place : Place) (holder : Option ℕ) → IsNormal state → holder_of state.part place ≡ holder
      → Leaf me state (Get (Instructs (Request place))) (answers_request me state place (answer_by state.part place holder))
  unfolding answer_by
  l_answered place (Some number) normal e = Gives place number normal e
  l_answered place None normal e =
      cond_both (is_known state.part place) RequestAnswer.Silent RequestAnswer.Temp
      (λ answer. Leaf me state (Get (Instructs (Request place))) (answers_request me state place answer))
      (λ known. Nothing _) (λ unknown. Drops place normal e)

  l_request : (place : Place) → Leaf me state (Get (Instructs (Request place))) (request_row me state place)
  unfolding request_row answer_request
  l_request place = choose _ _ _ _ (λ normal. l_answered place _ normal refl) (λ h. Nothing _)

  -- ---- views
  l_tests : (input : EpochInput) (made : EpochReplica) → IsChanging me state input made → is_learner me made.view ≡ true → Leaf me state input (tests_view me made)
  unfolding tests_view
  l_tests input made h learner = choose _ _ _ _ (λ ready. Starts input made h learner ready) (λ early. Waits input made h)

  changing-entered : (input : EpochInput) (view : View) → state.view.0 ≤ view.0 → IsChanging me state input (entered state view)
  unfolding entered
  changing-entered input view le = record { part = refl; settled = refl; status = refl; view = le; noted = tt; acks = inl refl }

  entered-view : (view : View) → (entered state view).view ≡ view
  unfolding entered
  entered-view view = refl

  l_enters : (input : EpochInput) (view : View) → state.view.0 ≤ view.0 → Leaf me state input (enters_view me state view)
  unfolding enters_view
  l_enters input view le =
      choose _ _ _ _
      (λ learner. l_tests input _ (changing-entered input view le) (ap (is_learner me) (entered-view view) ∙ learner))
      (λ other. Shows input _ (changing-entered input view le))

  l_suspect : Leaf me state Suspect (suspect_row me state)
  unfolding suspect_row
  l_suspect = choose _ _ _ _ (λ h. l_enters Suspect (record { 0 = state.view.0 + 1 }) (omega arith)) (λ h. Nothing _)

  each-noted : (input : EpochInput) (view : View) (noted : List (ReplicaId × PartValue)) → ((one : ReplicaId × PartValue) → In one noted → In one state.noted × (view ≡ state.view))
      → Each (ComesFrom me state input view) noted
  each-noted input view noted f = Each-by_In _ noted (λ one i. inl (f one i))

  kept-noted : (input : EpochInput) (view : View) → view ≡ state.view → Each (ComesFrom me state input view) state.noted
  kept-noted input view e = each-noted input view state.noted (λ one i. (i, e))

  came : (replica : ReplicaId) (view : View) (part : PartValue) → part.shard ≡ me.shard → ComesFrom me state (Get (Exchanges (ViewChange replica view part))) view (replica, part)
  came replica view part e = inr (refl, e)

  l_notes_entered : (replica : ReplicaId) (view : View) (part : PartValue) → part.shard ≡ me.shard → state.view.0 < view.0 → is_learner me view ≡ true
      → Leaf me state (Get (Exchanges (ViewChange replica view part))) (notes_part me (entered state view) replica part)
  unfolding notes_part entered with_part
  l_notes_entered replica view part e lt learner =
      l_tests _ _
      (record { part = refl; settled = refl; status = refl; view = omega arith; noted = (came replica view part e, tt); acks = inl refl })
      learner

  l_notes_here : (replica : ReplicaId) (view : View) (part : PartValue) → part.shard ≡ me.shard → view ≡ state.view → is_normal state.status ≡ false → is_learner me view ≡ true
      → Leaf me state (Get (Exchanges (ViewChange replica view part))) (notes_part me state replica part)
  unfolding notes_part
  l_notes_here replica view part e same changing learner =
      l_tests _ _
      (record {
        part = refl;
        settled = refl;
        status = changing;
        view = omega arith;
        noted = each-with_part (λ r p. ComesFrom me state (Get (Exchanges (ViewChange replica view part))) state.view (r, p)) state.noted replica part
            (kept-noted _ state.view refl)
            (subst (λ v. ComesFrom me state (Get (Exchanges (ViewChange replica view part))) v (replica, part)) same (came replica view part e));
        acks = inr (refl, refl);
      })
      (ap (is_learner me) (sym same) ∙ learner)

  l_change_same : (replica : ReplicaId) (view : View) (part : PartValue) → part.shard ≡ me.shard → view ≡ state.view → is_learner me view ≡ true
      → Leaf me state (Get (Exchanges (ViewChange replica view part))) (view_change_same me state replica part)
  unfolding view_change_same
  l_change_same replica view part e same learner =
      choose _ _ _ _ (λ normal. Tells _ replica normal (ap (is_learner me) (sym same) ∙ learner)) (λ changing. l_notes_here replica view part e same changing learner)

  l_change_here : (replica : ReplicaId) (view : View) (part : PartValue) → part.shard ≡ me.shard → is_learner me view ≡ true
      → Leaf me state (Get (Exchanges (ViewChange replica view part))) (if view.0 == state.view.0 then view_change_same me state replica part else quiet state)
  l_change_here replica view part e learner =
      choose _ _ _ _ (λ same. l_change_same replica view part e (view_equal view state.view (eqb-true _ _ same)) learner) (λ h. Nothing _)

  l_change_shown : (replica : ReplicaId) (view : View) (part : PartValue) → part.shard ≡ me.shard → is_learner me view ≡ true
      → Leaf me state (Get (Exchanges (ViewChange replica view part))) (view_change_shown me state replica view part)
  unfolding view_change_shown
  l_change_shown replica view part e learner =
      choose _ (nat_lt state.view.0 view.0) _ _ (λ lt. l_notes_entered replica view part e (ltb-true _ _ lt) learner) (λ h. l_change_here replica view part e learner)

  l_view_change : (replica : ReplicaId) (view : View) (part : PartValue) → Leaf me state (Get (Exchanges (ViewChange replica view part))) (view_change_row me state replica view part)
  unfolding view_change_row
  l_view_change replica view part =
      choose _ (part.shard.0 == me.shard.0 && (is_learner me view && not (same_replica replica me.replica))) _ _
      (λ h. let parts = and_parts _ _ h in let rest = and_parts _ _ parts.1 in l_change_shown replica view part (shard_equal _ _ (eqb-true _ _ parts.0)) rest.0)
      (λ h. Nothing _)

  no_lower : (a b c : Bool) (m n : ℕ) → (a || (b && c)) ≡ true → (a ≡ true → m ≤ n) → (b ≡ true → m ≤ n) → m ≤ n
  no_lower a b c m n h f g = grind arith

  l_start_view : (view : View) (part : PartValue) → Leaf me state (Get (Exchanges (StartView view part))) (start_view_row me state view part)
  unfolding start_view_row
  l_start_view view part =
      choose _ (part.shard.0 == me.shard.0 && (not (is_learner me view) && begins_here state view)) _ _
      (λ h. let parts = and_parts _ _ h in let rest = and_parts _ _ parts.1 in
      Takes view part
      (no_lower (nat_lt state.view.0 view.0) (view.0 == state.view.0) (not (is_normal state.status)) state.view.0 view.0 rest.1
      (λ lt. let below = ltb-true state.view.0 view.0 lt in omega arith)
      (λ same. let equal = eqb-true view.0 state.view.0 same in omega arith))
      (shard_equal _ _ (eqb-true _ _ parts.0)) (not-true _ rest.0))
      (λ h. Nothing _)

  -- ---- settling
  l_above : (input : EpochInput) (view : View) → Leaf me state input (enters_above me state view)
  unfolding enters_above
  l_above input view =
      choose _ (nat_lt state.view.0 view.0 && not (is_learner me view)) _ _
      (λ h. let below = ltb-true state.view.0 view.0 (and_parts _ _ h).0 in l_enters input view (omega arith)) (λ h. Nothing _)

  l_sync_ask_same : (input : EpochInput) → Leaf me state input (sync_ask_same me state)
  unfolding sync_ask_same
  l_sync_ask_same input =
      choose _ (is_normal state.status && not (is_learner me state.view)) _ _
      (λ h. let parts = and_parts _ _ h in Acknowledges input parts.0 (not-true _ parts.1)) (λ h. Nothing _)

  l_sync_ask : (view : View) → Leaf me state (Get (Exchanges (SyncAsk view))) (sync_ask_row me state view)
  unfolding sync_ask_row
  l_sync_ask view = choose _ (view.0 == state.view.0) _ _ (λ h. l_sync_ask_same _) (λ h. l_above _ view)

  l_raises : (input : EpochInput) (made : EpochReplica) → IsCounting me state input made → Leaf me state input (raises me made)
  unfolding raises
  l_raises input made h = choose _ _ _ _ (λ lt. Settles input made h (ltb-true _ _ lt)) (λ not_more. Counts input made h)

  l_ack : (replica : ReplicaId) (view : View) (length : ℕ) → Leaf me state (Get (Exchanges (Ack replica view length))) (ack_row me state replica view length)
  unfolding ack_row notes_ack
  l_ack replica view length =
      choose _ (view.0 == state.view.0 && ((is_normal state.status && is_learner me state.view) && not (same_replica replica me.replica))) _ _
      (λ h. let parts = and_parts _ _ h in let rest = and_parts _ _ parts.1 in let leading = and_parts _ _ rest.0 in
      l_raises _ _ (counting (view_equal view state.view (eqb-true _ _ parts.0)) leading.0 leading.1 (not-true _ rest.1)))
      (λ h. Nothing _)
    where
      counting : view ≡ state.view → IsNormal state → is_learner me state.view ≡ true → same_replica replica me.replica ≡ false
          → IsCounting me state (Get (Exchanges (Ack replica view length))) (record state { acks = with_ack state.acks replica length })
      counting e normal learner other = record {
        part = refl;
        settled = refl;
        status = refl;
        normal = normal;
        view = refl;
        learner = learner;
        noted = refl;
        acks = inr (replica, length, ap (λ v. Get (Exchanges (Ack replica v length))) e, other, refl);
      }

  l_learns : (view : View) (number : ℕ) (places : List Place) → view ≡ state.view → Leaf me state (Get (Exchanges (Settled view number places))) (hears_settled state number places)
  unfolding hears_settled learns
  l_learns view number places e =
      cond_both (covers (mark_all_dropped state.part places) number && nat_lt state.settled number)
      (record state { part = mark_all_dropped state.part places; settled = number }) (record state { part = mark_all_dropped state.part places })
      (λ made. Leaf me state (Get (Exchanges (Settled view number places))) (quiet made))
      (λ h. let parts = and_parts _ _ h in Learns view number places e parts.0 (ltb-true _ _ parts.1)) (λ h. Hears view number places)

  l_settled_same : (view : View) (number : ℕ) (places : List Place) → view ≡ state.view → Leaf me state (Get (Exchanges (Settled view number places))) (settled_same me state number places)
  unfolding settled_same
  l_settled_same view number places e = choose _ _ _ _ (λ h. l_learns view number places e) (λ h. Nothing _)

  l_settled : (view : View) (number : ℕ) (places : List Place) → Leaf me state (Get (Exchanges (Settled view number places))) (settled_row me state view number places)
  unfolding settled_row
  l_settled view number places =
      choose _ (view.0 == state.view.0) _ _ (λ h. l_settled_same view number places (view_equal view state.view (eqb-true _ _ h))) (λ h. l_above _ view)

  -- what leads stays leading
  record IsLeading (out : EpochOut) : Type 0 where
    leaf : Leaf me state Sync out
    normal : IsNormal out.state
    learner : is_learner me out.state.view ≡ true

  counting-itself : (input : EpochInput) → IsNormal state → is_learner me state.view ≡ true → IsCounting me state input state
  counting-itself input normal learner =
      record { part = refl; settled = refl; status = refl; normal = normal; view = refl; learner = learner; noted = refl; acks = inl refl }

  l_repeats : IsNormal state → is_learner me state.view ≡ true → IsLeading (repeats_settled me state)
  unfolding repeats_settled
  l_repeats normal learner =
      cond_both (nat_lt 0 state.settled) (record { state = state; sends = tells_settled me state state.settled }) (quiet state) IsLeading
      (λ h. record { leaf = Repeats Sync normal learner; normal = normal; learner = learner })
      (λ h. record { leaf = Nothing Sync; normal = normal; learner = learner })

  leading-settles : IsNormal state → is_learner me state.view ≡ true → state.settled < shared_number me state → IsLeading (settles me state (shared_number me state))
  unfolding settles
  leading-settles normal learner lt = record { leaf = settled_leaf; normal = normal; learner = learner }
    where
      settled_leaf : Leaf me state Sync (settles me state (shared_number me state))
      settled_leaf = Settles Sync state (counting-itself Sync normal learner) lt

  l_raises_or_repeats : IsNormal state → is_learner me state.view ≡ true → IsLeading (raises_or_repeats me state)
  unfolding raises_or_repeats
  l_raises_or_repeats normal learner =
      cond_both (nat_lt state.settled (shared_number me state)) (settles me state (shared_number me state)) (repeats_settled me state) IsLeading
      (λ lt. leading-settles normal learner (ltb-true _ _ lt)) (λ h. l_repeats normal learner)

  l_sync : Leaf me state Sync (sync_row me state)
  unfolding sync_row
  l_sync =
      choose _ (is_normal state.status && is_learner me state.view) _ _
      (λ h. let parts = and_parts _ _ h in let led = l_raises_or_repeats parts.0 parts.1 in AsksHowFar Sync _ led.normal led.learner led.leaf)
      (λ h. Nothing _)

  -- ---- probe
  l_probe_normal : IsNormal state → Leaf me state Probe (probe_normal me state)
  unfolding probe_normal
  l_probe_normal normal = choose _ _ _ _ (λ h. AsksGap Probe normal h) (λ h. Nothing _)

  l_probe_changing : is_normal state.status ≡ false → Leaf me state Probe (probe_changing me state)
  unfolding probe_changing
  l_probe_changing changing =
      choose _ _ _ _ (λ h. Nothing _)
      (λ h. Shows Probe state (record { part = refl; settled = refl; status = changing; view = omega arith; noted = kept-noted Probe state.view refl; acks = inr (refl, refl) }))

  l_probe : Leaf me state Probe (probe_row me state)
  unfolding probe_row
  l_probe = choose _ _ _ _ (λ h. l_probe_normal h) (λ h. l_probe_changing h)

  l_exchange : (exchange : Exchange) → Leaf me state (Get (Exchanges exchange)) (exchange_row me state exchange)
  l_exchange (ViewChange replica view part) = l_view_change replica view part
  l_exchange (StartView view part) = l_start_view view part
  l_exchange (SyncAsk view) = l_sync_ask view
  l_exchange (Ack replica view length) = l_ack replica view length
  l_exchange (Settled view number places) = l_settled view number places

  l_instruction : (instruction : Instruction) → Leaf me state (Get (Instructs instruction)) (instruction_row me state instruction)
  l_instruction (Request place) = l_request place
  l_instruction (Found packet) = Finds packet
  l_instruction (Dropped place) = Loses place

  l_message : (message : EpochMessage) → Leaf me state (Get message) (message_row me state message)
  l_message (Stamped packet) = l_txn packet
  l_message (Instructs instruction) = l_instruction instruction
  l_message (Notifies notice) = Nothing _
  l_message (Exchanges exchange) = l_exchange exchange
  l_message (Responds response) = Nothing _

  -- every row is one of the cases
  pub leaf : (input : EpochInput) → Leaf me state input (row me state input)
  leaf (Get message) = l_message message
  leaf Probe = l_probe
  leaf Suspect = l_suspect
  leaf Sync = l_sync
