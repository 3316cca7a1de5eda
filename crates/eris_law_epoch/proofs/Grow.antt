-- What a replica's step leaves, and what it says: nothing is undone, and each message that it sends tells the
-- truth of its sender. One match on the rows' cases, and one lemma for each piece of the tail.
use Rattle.std.proofs.Common.{◌≡◌, ℕ, zero, suc, ◌+◌, ◌-◌, ◌≤◌, ◌<◌, List, [], ◌∷◌, true, not, ◌&&◌, Option, Some, None, refl, sym, ap, ◌∙◌, subst, arith}
use Rattle.std.proofs.lemmas.Bool.{cond_both, and_parts, leb-true, or_left, or_right}
use Rattle.eris_base.specs.declared.ids.Place.{Place}
use Rattle.eris_base.specs.declared.ids.ReplicaId.{ReplicaId}
use Rattle.eris_base.specs.declared.ids.View.{View}
use Rattle.eris_base.specs.Each.{Each}
use Rattle.eris_base.specs.StampPlaces.{is_number}
use Rattle.eris_base.proofs.Each.{Each-append, Each-any}
use Rattle.eris_txn.specs.declared.answer.Answer.{Answer}
use Rattle.eris_txn.specs.declared.packet.Packet.{Packet}
use Rattle.eris_log.specs.declared.entry.Entry.{Entry}
use Rattle.eris_log.specs.Entries.{entry_of, length_of}
use Rattle.eris_log.specs.Growth.{IsWithin}
use Rattle.eris_log.specs.Held.{packet_at}
use Rattle.eris_log.specs.Laws.Entries.{NoGap, NoGap-length_of}
use Rattle.eris_log.specs.Laws.Parts.{HasAll-refl, HoldsAll-refl, IsWithin-refl, IsWithin-trans, IsWithin-hold, IsWithin-mark_temp, IsWithin-mark_found, IsWithin-mark_dropped, IsWithin-merge, contains_place-mark_temp}
use Rattle.eris_log.specs.Laws.Places.{contains_place-with_places, same_place-refl}
use Rattle.eris_log.specs.PartValues.{PartValue}
use Rattle.eris_log.specs.Parts.{hold, merge}
use Rattle.eris_view.specs.ViewTallies.{union_of}
use Rattle.eris_rules.specs.Addressees.{other_replicas, replica_node}
use Rattle.eris_rules.specs.EpochMessages.{EpochMessage, Exchanges, send_each, StartView, SyncAsk, Settled}
use Rattle.eris_rules.specs.EpochReplicas.{EpochInput, has_spoken_for, holds_packet, gives_packet, drops_for_a_time, found_row, dropped_row, row, epoch_step}
use Rattle.eris_rules.specs.ReplicaAnswers.{is_open, log_upto, answer_after, late_answers}
use Rattle.eris_rules.specs.ReplicaStates.{Member, EpochReplica, EpochOut, quiet, is_normal, is_learner, others}
use Rattle.eris_rules.specs.Settling.{late_for, tells_late, tells_settled, settles, acknowledges, mark_all_dropped, also_asks}
use Rattle.eris_rules.specs.Speaking.{replies_with, speaks_of, speaks_of_held, speaks_for, speaks_at, speaks_after, speaks_on, has_gap, asks_gap, asks_once, tail}
use Rattle.eris_rules.specs.Views.{shows_part, starts_view, became_normal, tells_view, takes_view}
use Rattle.eris_law_epoch.specs.Causes.{IsLater, AsksFor, Says, IsHome, Spoke}
use Rattle.eris_law_epoch.specs.Members.{In}
use Rattle.eris_law_epoch.proofs.Leaves.{IsNormal, IsChanging, IsCounting, Leaf, Nothing, Holds, SpeaksAgain, Gives, Drops, Finds, Loses, Shows, Starts, Waits, Tells, Takes, Acknowledges, Settles, Counts, Hears, Learns, Repeats, AsksHowFar, AsksGap, leaf}
use Rattle.eris_law_epoch.proofs.Members.{OfMessage, Each-by_In, Each-send_each, Each-map, Each-told}

-- ---- later states
pub IsLater-refl : (state : EpochReplica) → IsLater state state
IsLater-refl state = record { part = IsWithin-refl state.part; view = omega arith; settled = omega arith }

pub IsLater-trans : (some more all : EpochReplica) → IsLater some more → IsLater more all → IsLater some all
IsLater-trans some more all f g = record {
  part = IsWithin-trans some.part more.part all.part f.part g.part;
  view = let one = f.view in let two = g.view in omega arith;
  settled = let one = f.settled in let two = g.settled in omega arith;
}

-- where only the part changes
only_part : (some other : EpochReplica) → IsWithin some.part other.part → other.view ≡ some.view → other.settled ≡ some.settled → IsLater some other
only_part some other within view settled = record { part = within; view = omega (arith, ap (λ (v : View). v.0) view); settled = omega (arith, settled) }

same_part : (some other : PartValue) → other ≡ some → IsWithin some other
same_part some other e = subst (IsWithin some) (sym e) (IsWithin-refl some)

pub IsWithin-mark_all : (part : PartValue) (places : List Place) → IsWithin part (mark_all_dropped part places)
unfolding mark_all_dropped
IsWithin-mark_all part places = record {
  epoch = refl;
  shard = refl;
  held = HoldsAll-refl part.held;
  temp = HasAll-refl part.temp;
  fnd = HasAll-refl part.fnd;
  perm = record { at = λ place h. contains_place-with_places part.perm places place ∙ or_left _ _ h };
}

pub IsWithin-union : (noted : List (ReplicaId × PartValue)) (part : PartValue) → IsWithin part (union_of noted part)
unfolding union_of
IsWithin-union [] part = IsWithin-refl part
IsWithin-union (one ∷ noted) part = IsWithin-trans part (merge part one.1) (union_of noted (merge part one.1)) (IsWithin-merge part one.1) (IsWithin-union noted (merge part one.1))

-- ---- nothing is a gap up to less than the length
pub NoGap-less : (part : PartValue) (number less : ℕ) → less ≤ number → NoGap part number → NoGap part less
NoGap-less part number less le whole = record { at = λ n low high. whole.at n low (omega arith) }

pub NoGap-within : (part : PartValue) (number : ℕ) → number ≤ length_of part → NoGap part number
NoGap-within part number le = NoGap-less part (length_of part) number le (NoGap-length_of part)

pub is_open-txn : (entry : Entry) → is_open entry ≡ true → entry ≡ Entry.Txn
is_open-txn Entry.Txn h = refl
is_open-txn Entry.Dropped h = absurd (cc)
is_open-txn Entry.Gap h = absurd (cc)

-- ---- the others are of the own shard
home_others : (me : Member) (message : EpochMessage) → Each (λ one. IsHome me.shard one.to) (send_each (others me) message)
unfolding other_replicas
home_others me message =
    Each-send_each (λ one. IsHome me.shard one.to) (others me) message
    (Each-map (λ node. IsHome me.shard node) (λ number. replica_node me.shard number) _ (Each-any (λ number. me.shard ≡ me.shard) (λ number. refl) _))

-- ALL THAT IS KEPT of a step's output
pub record IsRight (me : Member) (state : EpochReplica) (out : EpochOut) : Type 0 where
  pub later : IsLater state out.state
  pub says : Each (OfMessage (Says me state out.state)) out.sends
  pub home : Each (λ one. IsHome me.shard one.to) out.sends

quietly : (me : Member) (state made : EpochReplica) → IsLater state made → IsRight me state (quiet made)
quietly me state made h = record { later = h; says = tt; home = tt }

-- ---- speaking
module _ (me : Member) (before state : EpochReplica) (number : ℕ) (normal : IsNormal state) (entry : entry_of state.part number ≡ Entry.Txn) (whole : NoGap state.part number) where
  abbrev spoke : (packet : Packet) → packet_at state.part.held number ≡ Some packet → Spoke me state.view state.status state.part state.view me.shard me.replica packet.stamp packet.id (Rattle.eris_locks.specs.States.phase_of packet.body)
  spoke packet held = record {
    number = number;
    packet = packet;
    own_shard = refl;
    own = refl;
    in_view = refl;
    normal = normal;
    held = held;
    entry = entry;
    whole = whole;
    of_stamp = refl;
    of_id = refl;
    of_phase = refl;
  }

  said_reply : (packet : Packet) (answer : Option Answer) → packet_at state.part.held number ≡ Some packet → is_learner me state.view ≡ true
      → answer_after me.shard (log_upto me.prior state.part (number - 1)) packet ≡ answer → Each (OfMessage (Says me before state)) (replies_with me state packet answer)
  said_reply packet None held learner e = tt
  said_reply packet (Some answer) held learner e = (record { spoke = spoke packet held; learner = learner; is_answer = e }, tt)

  said_of : (packet : Packet) → packet_at state.part.held number ≡ Some packet → Each (OfMessage (Says me before state)) (speaks_of me state number packet)
  unfolding speaks_of
  said_of packet held =
      cond_both (is_learner me state.view) _ _ (Each (OfMessage (Says me before state)))
      (λ learner. said_reply packet _ held learner refl) (λ follows. (record { spoke = spoke packet held; follows = follows }, tt))

  said_held : (packet : Option Packet) → packet_at state.part.held number ≡ packet → Each (OfMessage (Says me before state)) (speaks_of_held me state number packet)
  said_held None held = tt
  said_held (Some packet) held = said_of packet held

  said_for : Each (OfMessage (Says me before state)) (speaks_for me state number)
  unfolding speaks_for
  said_for = said_held _ refl

home_of : (me : Member) (state : EpochReplica) (number : ℕ) (packet : Packet) → Each (λ one. IsHome me.shard one.to) (speaks_of me state number packet)
unfolding speaks_of
home_of me state number packet =
    cond_both (is_learner me state.view) _ _ (Each (λ one. IsHome me.shard one.to)) (λ learner. home_reply (answer_after me.shard (log_upto me.prior state.part (number - 1)) packet)) (λ follows. (tt, tt))
  where
    home_reply : (answer : Option Answer) → Each (λ one. IsHome me.shard one.to) (replies_with me state packet answer)
    home_reply None = tt
    home_reply (Some answer) = (tt, tt)

home_for : (me : Member) (state : EpochReplica) (number : ℕ) → Each (λ one. IsHome me.shard one.to) (speaks_for me state number)
unfolding speaks_for
home_for me state number = by_held (packet_at state.part.held number)
  where
    by_held : (packet : Option Packet) → Each (λ one. IsHome me.shard one.to) (speaks_of_held me state number packet)
    by_held None = tt
    by_held (Some packet) = home_of me state number packet

said_at : (me : Member) (before state : EpochReplica) (number : ℕ) → IsNormal state → number ≤ length_of state.part → Each (OfMessage (Says me before state)) (speaks_at me state number)
unfolding speaks_at
said_at me before state number normal le =
    cond_both (is_open (entry_of state.part number)) _ _ (Each (OfMessage (Says me before state)))
    (λ opened. said_for me before state number normal (is_open-txn _ opened) (NoGap-within state.part number le)) (λ closed. tt)

home_at : (me : Member) (state : EpochReplica) (number : ℕ) → Each (λ one. IsHome me.shard one.to) (speaks_at me state number)
unfolding speaks_at
home_at me state number = cond_both (is_open (entry_of state.part number)) _ _ (Each (λ one. IsHome me.shard one.to)) (λ opened. home_for me state number) (λ closed. tt)

said_after : (me : Member) (before state : EpochReplica) (number count : ℕ) → IsNormal state → ((n : ℕ) → n < count → number + n + 1 ≤ length_of state.part)
    → Each (OfMessage (Says me before state)) (speaks_after me state number count)
unfolding speaks_after
said_after me before state number zero normal few = tt
said_after me before state number (suc count) normal few =
    Each-append _ (speaks_after me state number count) (speaks_at me state (number + count + 1))
    (said_after me before state number count normal (λ n lt. few n (omega arith)))
    (said_at me before state (number + count + 1) normal (few count (omega arith)))

home_after : (me : Member) (state : EpochReplica) (number count : ℕ) → Each (λ one. IsHome me.shard one.to) (speaks_after me state number count)
unfolding speaks_after
home_after me state number zero = tt
home_after me state number (suc count) = Each-append _ (speaks_after me state number count) (speaks_at me state (number + count + 1)) (home_after me state number count) (home_at me state (number + count + 1))

-- ---- settling
said_late : (me : Member) (state made : EpochReplica) (input : EpochInput) (number : ℕ) → IsCounting me state input made → made.settled < number
    → Each (OfMessage (Says me state (record made { settled = number }))) (tells_late me made number)
unfolding tells_late
said_late me state made input number counting lt =
    Each-map (OfMessage (Says me state (record made { settled = number }))) (λ done. late_for me done) _
    (Each-by_In _ _ (λ done among. record {
      done = done;
      own_shard = refl;
      own = refl;
      leads = record { in_view = refl; normal = ap is_normal counting.status ∙ counting.normal; learner = ap (is_learner me) counting.view ∙ counting.learner };
      raised = subst (λ n. n < number) counting.settled lt;
      among = subst (λ n. In done (late_answers me.shard made.part.epoch (log_upto me.prior made.part number) n)) counting.settled among;
      of_id = refl;
      of_phase = refl;
      is_answer = refl;
    }))

home_late : (me : Member) (made : EpochReplica) (number : ℕ) → Each (λ one. IsHome me.shard one.to) (tells_late me made number)
unfolding tells_late
home_late me made number = Each-map (λ one. IsHome me.shard one.to) (λ done. late_for me done) _ (Each-any (λ done. Unit {0}) (λ done. tt) _)

said_settled : (me : Member) (before made : EpochReplica) (number : ℕ) → is_normal made.status ≡ true → is_learner me made.view ≡ true
    → Each (OfMessage (Says me before (record made { settled = number }))) (tells_settled me made number)
unfolding tells_settled
said_settled me before made number normal learner =
    Each-told (Says me before (record made { settled = number })) (others me) _
    (record { leads = record { in_view = refl; normal = normal; learner = learner }; is_settled = refl; are_perm = refl })

home_settled : (me : Member) (made : EpochReplica) (number : ℕ) → Each (λ one. IsHome me.shard one.to) (tells_settled me made number)
unfolding tells_settled
home_settled me made number = home_others me (Exchanges (Settled made.view number made.part.perm))

-- ---- the cases
changing-later : (me : Member) (state : EpochReplica) (input : EpochInput) (made : EpochReplica) → IsChanging me state input made → IsLater state made
changing-later me state input made h = record { part = same_part _ _ h.part; view = h.view; settled = omega (arith, h.settled) }

counting-later : (me : Member) (state : EpochReplica) (input : EpochInput) (made : EpochReplica) → IsCounting me state input made → IsLater state made
counting-later me state input made h = only_part state made (same_part _ _ h.part) h.view h.settled

right_starts : (me : Member) (state : EpochReplica) (input : EpochInput) (made : EpochReplica) → IsChanging me state input made → is_learner me made.view ≡ true → IsRight me state (starts_view me made)
unfolding starts_view became_normal
right_starts me state input made h learner = record {
  later = record { part = IsWithin-trans state.part made.part (union_of made.noted made.part) (same_part _ _ h.part) (IsWithin-union made.noted made.part); view = h.view; settled = omega (arith, h.settled) };
  says = Each-told (Says me state (became_normal (record made { part = union_of made.noted made.part }))) (others me) (Exchanges (StartView made.view (union_of made.noted made.part)))
      (record { in_view = refl; normal = refl; learner = learner; same = refl });
  home = home_others me _;
}

right_settles : (me : Member) (state : EpochReplica) (input : EpochInput) (made : EpochReplica) (number : ℕ) → IsCounting me state input made → made.settled < number → IsRight me state (settles me made number)
unfolding settles
right_settles me state input made number h lt = record {
  later = record { part = same_part _ _ h.part; view = omega (arith, ap (λ (v : View). v.0) h.view); settled = omega (arith, h.settled) };
  says = Each-append _ (tells_late me made number) (tells_settled me made number) (said_late me state made input number h lt)
      (said_settled me state made number (ap is_normal h.status ∙ h.normal) (ap (is_learner me) h.view ∙ h.learner));
  home = Each-append _ (tells_late me made number) (tells_settled me made number) (home_late me made number) (home_settled me made number);
}

right_gives : (me : Member) (state : EpochReplica) (number : ℕ) (packet : Option Packet) → packet_at state.part.held number ≡ packet → IsRight me state (gives_packet state packet)
right_gives me state number None e = quietly me state state (IsLater-refl state)
right_gives me state number (Some packet) e = record { later = IsLater-refl state; says = (record { number = number; held = e }, tt); home = (tt, tt) }

right_drops : (me : Member) (state : EpochReplica) (place : Place) → IsNormal state → Rattle.eris_log.specs.Entries.holder_of state.part place ≡ None → IsRight me state (drops_for_a_time me state place)
unfolding drops_for_a_time
right_drops me state place normal none = record {
  later = only_part state _ (IsWithin-mark_temp state.part place) refl refl;
  says = (record { own_shard = refl; own = refl; in_view = refl; normal = normal; none = none; temp = contains_place-mark_temp state.part place place ∙ or_right _ _ (same_place-refl place) }, tt);
  home = (tt, tt);
}

asks_for : (me : Member) (state : EpochReplica) → IsNormal state → has_gap state.part ≡ true → AsksFor me state.status state.part me.replica (Rattle.eris_log.specs.Entries.own_place state.part (length_of state.part + 1))
asks_for me state normal gap = record { own = refl; normal = normal; behind = refl; gap = gap }

spoken_parts : (me : Member) (before state : EpochReplica) (number : ℕ) → has_spoken_for state number ≡ true → Each (OfMessage (Says me before state)) (speaks_for me state number)
unfolding has_spoken_for
spoken_parts me before state number h =
    let one = and_parts _ _ h in let two = and_parts _ _ one.1 in let three = and_parts _ _ two.1 in
    said_for me before state number one.0 (is_open-txn _ three.1) (NoGap-within state.part number (leb-true number (length_of state.part) three.0))

right_leaf : (me : Member) (state : EpochReplica) (input : EpochInput) (out : EpochOut) → Leaf me state input out → IsRight me state out
unfolding holds_packet found_row dropped_row shows_part tells_view takes_view became_normal acknowledges also_asks
right_leaf me state input _ (Nothing i) = quietly me state state (IsLater-refl state)
right_leaf me state _ _ (Holds packet) = quietly me state _ (only_part state _ (IsWithin-hold state.part packet) refl refl)
right_leaf me state _ _ (SpeaksAgain packet number h) = record { later = IsLater-refl state; says = spoken_parts me state state number h; home = home_for me state number }
right_leaf me state _ _ (Gives place number normal e) = right_gives me state number _ refl
right_leaf me state _ _ (Drops place normal none) = right_drops me state place normal none
right_leaf me state _ _ (Finds packet) = quietly me state _ (only_part state _ (IsWithin-trans state.part (hold state.part packet) _ (IsWithin-hold state.part packet) (IsWithin-mark_found _ packet.stamp)) refl refl)
right_leaf me state _ _ (Loses place) = quietly me state _ (only_part state _ (IsWithin-mark_dropped state.part place) refl refl)
right_leaf me state input _ (Shows i made h) =
    record { later = changing-later me state input made h; says = (record { own = refl; in_view = refl; changing = h.status; same = refl }, tt); home = (refl, tt) }
right_leaf me state input _ (Starts i made h learner ready) = right_starts me state input made h learner
right_leaf me state input _ (Waits i made h) = quietly me state made (changing-later me state input made h)
right_leaf me state input _ (Tells i replica normal learner) =
    record { later = IsLater-refl state; says = (record { in_view = refl; normal = normal; learner = learner; same = refl }, tt); home = (refl, tt) }
right_leaf me state _ _ (Takes view part le own follows) = quietly me state _ (record { part = IsWithin-merge state.part part; view = le; settled = omega arith })
right_leaf me state input _ (Acknowledges i normal follows) =
    record { later = IsLater-refl state; says = (record { own = refl; in_view = refl; normal = normal; follows = follows; whole = NoGap-length_of state.part }, tt); home = (refl, tt) }
right_leaf me state input _ (Settles i made h lt) = right_settles me state input made _ h lt
right_leaf me state input _ (Counts i made h) = quietly me state made (counting-later me state input made h)
right_leaf me state _ _ (Hears view number places) = quietly me state _ (only_part state _ (IsWithin-mark_all state.part places) refl refl)
right_leaf me state _ _ (Learns view number places e covered lt) = quietly me state _ (record { part = IsWithin-mark_all state.part places; view = omega arith; settled = omega arith })
right_leaf me state input _ (Repeats i normal learner) =
    record { later = IsLater-refl state; says = said_settled me state state state.settled normal learner; home = home_settled me state state.settled }
right_leaf me state input _ (AsksHowFar i out normal learner l) =
    let right = right_leaf me state input out l in
    record {
      later = right.later;
      says = Each-append _ out.sends (send_each (others me) (Exchanges (SyncAsk out.state.view))) right.says
          (Each-told (Says me state out.state) (others me) (Exchanges (SyncAsk out.state.view)) (record { in_view = refl; normal = normal; learner = learner }));
      home = Each-append _ out.sends (send_each (others me) (Exchanges (SyncAsk out.state.view))) right.home (home_others me _);
    }
right_leaf me state input _ (AsksGap i normal gap) = record { later = IsLater-refl state; says = (asks_for me state normal gap, tt); home = (tt, tt) }

-- ---- the tail
right_speaks : (me : Member) (state : EpochReplica) (out : EpochOut) → IsNormal out.state → IsRight me state out → IsRight me state (speaks_on me out)
unfolding speaks_on
right_speaks me state out normal right = record {
  later = record { part = right.later.part; view = right.later.view; settled = right.later.settled };
  says = Each-append _ out.sends _ right.says
      (said_after me state out.state out.state.spoken (length_of out.state.part - out.state.spoken) normal (λ n lt. omega arith));
  home = Each-append _ out.sends _ right.home (home_after me out.state out.state.spoken (length_of out.state.part - out.state.spoken));
}

right_asks : (me : Member) (state : EpochReplica) (out : EpochOut) → IsNormal out.state → has_gap out.state.part ≡ true → IsRight me state out → IsRight me state (asks_gap me out)
unfolding asks_gap
right_asks me state out normal gap right = record {
  later = record { part = right.later.part; view = right.later.view; settled = right.later.settled };
  says = Each-append _ out.sends _ right.says (asks_for me out.state normal gap, tt);
  home = Each-append _ out.sends _ right.home (tt, tt);
}

right_once : (me : Member) (state : EpochReplica) (out : EpochOut) → IsNormal out.state → IsRight me state out → IsRight me state (asks_once me out)
unfolding asks_once
right_once me state out normal right =
    cond_both (has_gap out.state.part && not (is_number out.state.asked (length_of out.state.part + 1))) _ _ (IsRight me state)
    (λ h. right_asks me state out normal (and_parts _ _ h).0 right) (λ h. right)

spoken-normal : (me : Member) (out : EpochOut) → IsNormal out.state → IsNormal (speaks_on me out).state
unfolding speaks_on
spoken-normal me out normal = normal

right_tail : (me : Member) (state : EpochReplica) (out : EpochOut) → IsRight me state out → IsRight me state (tail me out)
unfolding tail
right_tail me state out right =
    cond_both (is_normal out.state.status) _ _ (IsRight me state)
    (λ normal. right_once me state (speaks_on me out) (spoken-normal me out normal) (right_speaks me state out normal right)) (λ h. right)

-- each step of a replica grows, and says what is so
pub right_step : (me : Member) (state : EpochReplica) (input : EpochInput) → IsRight me state (epoch_step me state input)
unfolding epoch_step
right_step me state input = right_tail me state (row me state input) (right_leaf me state input _ (leaf me state input))
