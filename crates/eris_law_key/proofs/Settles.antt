-- Settled numbers: where a number is settled at a replica, a quorum spoke past it in some view, and what that view's
-- learner knew to be dropped then is dropped here. So up to its settled number a replica's entry is dropped exactly
-- where its packet is dropped by the coordinator, by then or ever after.
use Rattle.std.proofs.Common.{◌≡◌, ◌⊎◌, inl, inr, ℕ, zero, suc, ◌+◌, ◌*◌, ◌≤◌, ◌<◌, List, [], ◌∷◌, Bool, true, false, ◌||◌, ◌==◌, Option, Some, None, is_some, refl, sym, ap, ◌∙◌, subst, arith}
use Rattle.std.specs.List.{list_any}
use Rattle.std.proofs.lemmas.Bool.{or_cases, or_left, or_right, eqb-true, eqb-false, ne_eqb, cases_eq, cases_Bool, both_ways}
use Rattle.eris_base.specs.declared.ids.Node.TheVariants.{Replica}
use Rattle.eris_base.specs.declared.ids.Place.{Place}
use Rattle.eris_base.specs.declared.ids.ReplicaId.{ReplicaId}
use Rattle.eris_base.specs.declared.ids.ShardId.{ShardId}
use Rattle.eris_base.specs.declared.ids.View.{View}
use Rattle.eris_base.specs.Each.{Each}
use Rattle.eris_base.specs.Quorums.{has_replica, learner_of, same_replica}
use Rattle.eris_base.proofs.Each.{Each-weaker}
use Rattle.eris_txn.specs.declared.packet.Packet.{Packet}
use Rattle.eris_log.specs.Entries.{covers, is_covered, is_dropped, is_held_and, is_lost, length_of}
use Rattle.eris_log.specs.Growth.{HasAll, IsWithin}
use Rattle.eris_log.specs.Held.{packet_at}
use Rattle.eris_log.specs.Laws.Entries.{NoGap, any_among-within, covers-at, covers-from, covers-within, covers-length_of}
use Rattle.eris_log.specs.Laws.Parts.{HasAll-refl, IsWithin-refl}
use Rattle.eris_log.specs.PartValues.{PartValue}
use Rattle.eris_log.specs.Places.{contains_place, any_among}
use Rattle.eris_view.specs.AckTallies.{settled}
use Rattle.eris_view.specs.Holders.{acks_ascend, holders, IsSharedByQuorum}
use Rattle.eris_view.proofs.TallyLaws.{each-with_ack, acks_ascend-with_ack, settled_is_shared_by_quorum, each_holder_has}
use Rattle.eris_rules.specs.EpochMessages.{Exchanges, Ack, Settled}
use Rattle.eris_rules.specs.EpochReplicas.{EpochInput}
use Rattle.eris_rules.specs.ReplicaStates.{EpochReplica, fresh, is_normal, is_learner}
use Rattle.eris_law_epoch.specs.Causes.{Cause, ByReplica, ByCoordinator, BySequencer, Acknowledged, ToldSettled}
use Rattle.eris_law_epoch.specs.EpochWorlds.{EpochSystem, EpochWorld, EpochEvent, member_of, moment}
use Rattle.eris_law_epoch.specs.Members.{In}
use Rattle.eris_law_key.specs.Quorums.{Reached, SpokePast, IsSettledBy}
use Rattle.eris_law_epoch.specs.Reading.{replica_then}
use Rattle.eris_law_epoch.specs.Stamped.{HasNumber}
use Rattle.eris_law_epoch.proofs.Frame.{replica_equal}
use Rattle.eris_law_epoch.proofs.Grow.{NoGap-less, NoGap-within}
use Rattle.eris_law_key.proofs.KeyLemma.{no_gap, grows, is_packet, dropped_means, dropped_by, key}
use Rattle.eris_law_epoch.proofs.Leaves.{AcksFrom}
use Rattle.eris_law_epoch.proofs.Members.{Each-at}
use Rattle.eris_law_epoch.proofs.Moments.{cause}
use Rattle.eris_law_epoch.proofs.Moves.{Came}
use Rattle.eris_law_epoch.proofs.StampList.{stamps}
use Rattle.eris_law_key.proofs.Turns.{AcksTurn, Raised, Learned, IsTurned}
use Rattle.eris_law_key.proofs.Views.{turn_at, fresh_then, same_replica_then}

listed_In : (replicas : List ReplicaId) (x : ReplicaId) → has_replica replicas x ≡ true → In x replicas
listed_In [] x h = absurd (cc)
listed_In (one ∷ replicas) x h = elim (or_cases (x.0 == one.0) (has_replica replicas x) h) [ inl e ↦ inl (replica_equal x one (eqb-true _ _ e)) | inr later ↦ inr (listed_In replicas x later) ]

none_of : (own : ReplicaId) (acks : List (ReplicaId × ℕ)) → Each (λ ack. same_replica own ack.0 ≡ false) acks → list_any (λ ack. same_replica own ack.0) acks ≡ false
none_of own [] h = refl
none_of own (ack ∷ acks) h = both_false (same_replica own ack.0) _ h.0 (none_of own acks h.1)
  where
    both_false : (a b : Bool) → a ≡ false → b ≡ false → (a || b) ≡ false
    both_false a b e g = grind arith

module _ (system : EpochSystem) (events : List EpochEvent) where
  abbrev at : ℕ → EpochWorld
  at k = moment system events k

  abbrev then : ℕ → ShardId → ReplicaId → EpochReplica
  then k shard x = replica_then system events k shard x

  -- ---- what stays true later
  abbrev pub reached_more : (k l : ℕ) (s : ShardId) (v : View) (m n : ℕ) (x : ReplicaId) → k ≤ l → n ≤ m → Reached system events k s v m x → Reached system events l s v n x
  reached_more k l s v m n x le lm r = record { moment = r.moment; by = up r.by; there = r.there; in_view = r.in_view; normal = r.normal; whole = NoGap-less _ m n lm r.whole }
    where
      up : {i : ℕ} → i ≤ k → i ≤ l
      up b = omega arith

  abbrev pub past_more : (k l : ℕ) (s : ShardId) (v : View) (m n : ℕ) → k ≤ l → n ≤ m → SpokePast system events k s v m → SpokePast system events l s v n
  past_more k l s v m n le lm past =
      record { who = past.who; quorum = past.quorum; each = λ x h. reached_more k l s v m n x le lm (past.each x h); learner = reached_more k l s v m n (learner_of v system.config.f) le lm past.learner }

  settled_more : (k l : ℕ) (s : ShardId) (number : ℕ) (part more : PartValue) → k ≤ l → IsWithin part more → IsSettledBy system events k s number part → IsSettledBy system events l s number more
  settled_more k l s number part more le within b = record {
    view = b.view;
    past = past_more k l s b.view number number le (omega arith) b.past;
    perm = record { at = λ place h. within.perm.at place (b.perm.at place h) };
    covered = covers-within part more number within b.covered;
  }

  -- ---- who acknowledged a length had come so far
  sent_ack : (k : ℕ) (s : ShardId) (r x : ReplicaId) (v : View) (length : ℕ) → In (record { to = Replica s r; message = Exchanges (Ack x v length) }) (at k).sent → Reached system events k s v length x
  sent_ack k s r x v length i = let c = cause system events k _ i in of_cause c.0 c.1 c.2
    where
      named : (j : ℕ) → j < k → (a : ShardId) (b : ReplicaId) → b.0 < 2 * system.config.f + 1 → s ≡ a
          → Acknowledged (member_of system a b) (then (suc j) a b).view (then (suc j) a b).status (then (suc j) a b).part x v length → Reached system events k s v length x
      named j lt a b range home said =
          let same = same_replica_then system events (suc j) s a x b home said.own in
          record {
            moment = suc j;
            by = omega arith;
            there = subst (λ (z : ReplicaId). z.0 < 2 * system.config.f + 1) (sym said.own) range;
            in_view = ap (λ (state : EpochReplica). state.view) same ∙ sym said.in_view;
            normal = ap (λ (state : EpochReplica). is_normal state.status) same ∙ said.normal;
            whole = subst (λ (state : EpochReplica). NoGap state.part length) (sym same) said.whole;
          }

      of_cause : (j : ℕ) → j < k → Cause system (at j) (at (suc j)) (record { to = Replica s r; message = Exchanges (Ack x v length) }) → Reached system events k s v length x
      of_cause j lt (ByReplica a b range there said home) = named j lt a b there home said
      of_cause j lt (ByCoordinator said) = absurd said
      of_cause j lt (BySequencer packet p e) = absurd (cc)

  -- WHAT IS SOUND of one replica's acknowledgements and settled number at one moment
  pub record IsSettledSound (k : ℕ) (s : ShardId) (r : ReplicaId) : Type 0 where
    pub acks : Each (λ ack. Reached system events k s (then k s r).view ack.1 ack.0) (then k s r).acks
    pub others : Each (λ ack. same_replica r ack.0 ≡ false) (then k s r).acks
    pub ascend : acks_ascend (then k s r).acks ≡ true
    pub settled : 0 < (then k s r).settled → IsSettledBy system events k s (then k s r).settled (then k s r).part

  record AreAcksSound (k : ℕ) (s : ShardId) (r : ReplicaId) (v : View) (acks : List (ReplicaId × ℕ)) : Type 0 where
    reached : Each (λ ack. Reached system events k s v ack.1 ack.0) acks
    others : Each (λ ack. same_replica r ack.0 ≡ false) acks
    ascend : acks_ascend acks ≡ true

  no_acks : (k : ℕ) (s : ShardId) (r : ReplicaId) (v : View) → AreAcksSound k s r v []
  no_acks k s r v = record { reached = tt; others = tt; ascend = refl }

  -- who told that a number is settled had settled it
  sent_settled : (k : ℕ) (s : ShardId) (r : ReplicaId) (v : View) (number : ℕ) (places : List Place) (part : PartValue) → ((j : ℕ) (a : ShardId) (b : ReplicaId) → j ≤ k → IsSettledSound j a b)
      → In (record { to = Replica s r; message = Exchanges (Settled v number places) }) (at k).sent → 0 < number → HasAll places part.perm → covers part number ≡ true → IsSettledBy system events k s number part
  sent_settled k s r v number places part ih i some has covered = let c = cause system events k _ i in of_cause c.0 c.1 c.2
    where
      named : (j : ℕ) → j < k → (a : ShardId) (b : ReplicaId) → s ≡ a
          → ToldSettled (member_of system a b) (then (suc j) a b).view (then (suc j) a b).status (then (suc j) a b).part (then (suc j) a b).settled v number places → IsSettledBy system events k s number part
      named j lt a b home said =
          let q : IsSettledBy system events (suc j) a number (then (suc j) a b).part =
          subst (λ n. IsSettledBy system events (suc j) a n (then (suc j) a b).part) (sym said.is_settled) ((ih (suc j) a b (omega arith)).settled (subst (λ n. 0 < n) said.is_settled some)) in
          let p : IsSettledBy system events (suc j) s number (then (suc j) a b).part = subst (λ z. IsSettledBy system events (suc j) z number (then (suc j) a b).part) (sym home) q in
          record {
            view = p.view;
            past = past_more (suc j) k s p.view number number (omega arith) (omega arith) p.past;
            perm = record { at = λ place h. has.at place (subst (λ all. contains_place all place ≡ true) (sym said.are_perm) (p.perm.at place h)) };
            covered = covered;
          }

      of_cause : (j : ℕ) → j < k → Cause system (at j) (at (suc j)) (record { to = Replica s r; message = Exchanges (Settled v number places) }) → IsSettledBy system events k s number part
      of_cause j lt (ByReplica a b range there said home) = named j lt a b home said
      of_cause j lt (ByCoordinator said) = absurd said
      of_cause j lt (BySequencer packet p e) = absurd (cc)

  -- what a learner's tally says has a quorum
  module _ (k : ℕ) (s : ShardId) (r : ReplicaId) (range : r.0 < 2 * system.config.f + 1) (sound : AreAcksSound k s r (then k s r).view (then k s r).acks) (normal : is_normal (then k s r).status ≡ true)
      (leads : is_learner (member_of system s r) (then k s r).view ≡ true) where
    abbrev shared : ℕ
    shared = settled (record { f = system.config.f; acks = (then k s r).acks }) (length_of (then k s r).part)

    abbrev itself : (n : ℕ) → n ≤ length_of (then k s r).part → Reached system events k s (then k s r).view n r
    itself n le = record { moment = k; by = omega arith; there = range; in_view = refl; normal = normal; whole = NoGap-within (then k s r).part n le }

    own_learner : r ≡ learner_of (then k s r).view system.config.f
    own_learner = replica_equal r _ (eqb-true _ _ leads)

    quorum_of : 0 < shared → IsSharedByQuorum (record { f = system.config.f; acks = (then k s r).acks }) r (length_of (then k s r).part) shared
    quorum_of some = settled_is_shared_by_quorum (record { f = system.config.f; acks = (then k s r).acks }) r (length_of (then k s r).part) sound.ascend (none_of r (then k s r).acks sound.others) some

    up : {i n m : ℕ} → i ≤ n → n ≤ m → i ≤ m
    up b c = omega arith

    -- its state is the learner's
    abbrev at_learner : shared ≤ length_of (then k s r).part → Reached system events k s (then k s r).view shared (learner_of (then k s r).view system.config.f)
    at_learner le = record {
      moment = k;
      by = omega arith;
      there = subst (λ (x : ReplicaId). x.0 < 2 * system.config.f + 1) own_learner range;
      in_view = ap (λ x. (then k s x).view) (sym own_learner);
      normal = ap (λ x. is_normal (then k s x).status) (sym own_learner) ∙ normal;
      whole = subst (λ x. NoGap (then k s x).part shared) own_learner (NoGap-within (then k s r).part shared le);
    }

    learner-perm : HasAll (then k s (learner_of (then k s r).view system.config.f)).part.perm (then k s r).part.perm
    learner-perm = subst (λ x. HasAll (then k s x).part.perm (then k s r).part.perm) own_learner (HasAll-refl _)

    held : Each (λ x. (len : ℕ) × ((shared ≤ len) × Reached system events k s (then k s r).view len x)) (holders (then k s r).acks shared)
    held = each_holder_has (λ x len. Reached system events k s (then k s r).view len x) (then k s r).acks shared sound.reached

    below : Each (λ (x : ReplicaId). x.0 < 2 * system.config.f + 1) (holders (then k s r).acks shared)
    below = Each-weaker (λ x. (len : ℕ) × ((shared ≤ len) × Reached system events k s (then k s r).view len x)) (λ (x : ReplicaId). x.0 < 2 * system.config.f + 1) (λ x h. h.1.1.there) _ held

    of_holder : (x : ReplicaId) → In x (holders (then k s r).acks shared) → Reached system events k s (then k s r).view shared x
    of_holder x i = let h = Each-at _ (holders (then k s r).acks shared) x held i in reached_more k k s (then k s r).view h.0 shared x (omega arith) h.1.0 h.1.1

    of_listed : shared ≤ length_of (then k s r).part → (x : ReplicaId) → has_replica (r ∷ holders (then k s r).acks shared) x ≡ true → Reached system events k s (then k s r).view shared x
    of_listed le x listed = elim (or_cases (x.0 == r.0) (has_replica (holders (then k s r).acks shared) x) listed) [
      | inl own ↦ subst (Reached system events k s (then k s r).view shared) (sym (replica_equal x r (eqb-true _ _ own))) (itself shared le)
      | inr other ↦ of_holder x (listed_In _ x other)
    ]

    by_quorum : IsSharedByQuorum (record { f = system.config.f; acks = (then k s r).acks }) r (length_of (then k s r).part) shared → IsSettledBy system events k s shared (then k s r).part
    by_quorum q = record {
      view = (then k s r).view;
      past = record {
        who = r ∷ holders (then k s r).acks shared;
        quorum = record { below = (range, below); many = q.quorum };
        each = of_listed q.own_has;
        learner = at_learner q.own_has;
      };
      perm = learner-perm;
      covered = covers-from (then k s r).part shared (λ i low high. covers-at (then k s r).part (length_of (then k s r).part) i (covers-length_of (then k s r).part) low (up high q.own_has));
    }

    raised_by : 0 < shared → IsSettledBy system events k s shared (then k s r).part
    raised_by some = by_quorum (quorum_of some)

  -- ---- from moment to moment
  acks_more : (k l : ℕ) (s : ShardId) (r : ReplicaId) (v : View) (acks : List (ReplicaId × ℕ)) → k ≤ l → AreAcksSound k s r v acks → AreAcksSound l s r v acks
  acks_more k l s r v acks le h = record {
    reached = Each-weaker (λ ack. Reached system events k s v ack.1 ack.0) (λ ack. Reached system events l s v ack.1 ack.0) (λ ack g. reached_more k l s v ack.1 ack.1 ack.0 le (omega arith) g) acks h.reached;
    others = h.others;
    ascend = h.ascend;
  }

  acks_turn : (k : ℕ) (s : ShardId) (r : ReplicaId) (input : EpochInput) (acks : List (ReplicaId × ℕ)) → IsSettledSound k s r → Came (at k) s r input
      → AcksFrom (member_of system s r) (then k s r) input acks → AreAcksSound k s r (then k s r).view acks
  acks_turn k s r input acks h came (inl same) = subst (AreAcksSound k s r (then k s r).view) (sym same) (record { reached = h.acks; others = h.others; ascend = h.ascend })
  acks_turn k s r input acks h came (inr new) = subst (AreAcksSound k s r (then k s r).view) (sym new.4) (record {
    reached = each-with_ack (λ x length. Reached system events k s (then k s r).view length x) (then k s r).acks new.0 new.1 h.acks (sent_ack k s r new.0 (then k s r).view new.1 (subst (λ y. Came (at k) s r y) new.2 came));
    others = each-with_ack (λ x length. same_replica r x ≡ false) (then k s r).acks new.0 new.1 h.others (ne_eqb r.0 new.0.0 (λ e. eqb-false new.0.0 r.0 new.3 (sym e)));
    ascend = acks_ascend-with_ack (then k s r).acks new.0 new.1 h.ascend;
  })

  acks_next : (k : ℕ) (s : ShardId) (r : ReplicaId) (input : EpochInput) → IsSettledSound k s r → Came (at k) s r input
      → AcksTurn (member_of system s r) (then k s r) input (then (suc k) s r).view (then (suc k) s r).acks → AreAcksSound (suc k) s r (then (suc k) s r).view (then (suc k) s r).acks
  acks_next k s r input h came (inl none) = subst (AreAcksSound (suc k) s r (then (suc k) s r).view) (sym none) (no_acks (suc k) s r _)
  acks_next k s r input h came (inr kept) =
      subst (λ v. AreAcksSound (suc k) s r v (then (suc k) s r).acks) (sym kept.0) (acks_more k (suc k) s r _ _ (omega arith) (acks_turn k s r input (then (suc k) s r).acks h came kept.1))

  settled_turn : (k : ℕ) (s : ShardId) (r : ReplicaId) (input : EpochInput) → ((j : ℕ) (a : ShardId) (b : ReplicaId) → j ≤ k → IsSettledSound j a b) → r.0 < 2 * system.config.f + 1 → Came (at k) s r input
      → IsTurned (member_of system s r) (then k s r) input (then (suc k) s r) → IsSettledSound (suc k) s r
  settled_turn k s r input ih range came t = record { acks = sound.reached; others = sound.others; ascend = sound.ascend; settled = by_turn t.settled }
    where
      h : IsSettledSound k s r
      h = ih k s r (omega arith)

      sound : AreAcksSound (suc k) s r (then (suc k) s r).view (then (suc k) s r).acks
      sound = acks_next k s r input h came t.acks

      by_turn : ((then (suc k) s r).settled ≡ (then k s r).settled)
          ⊎ (Raised (member_of system s r) (then (suc k) s r).view (then (suc k) s r).status (then (suc k) s r).part (then (suc k) s r).acks (then (suc k) s r).settled ⊎ Learned input (then (suc k) s r).view (then (suc k) s r).part (then (suc k) s r).settled)
          → 0 < (then (suc k) s r).settled → IsSettledBy system events (suc k) s (then (suc k) s r).settled (then (suc k) s r).part
      by_turn (inl same) some =
          subst (λ n. IsSettledBy system events (suc k) s n (then (suc k) s r).part) (sym same)
          (settled_more k (suc k) s _ _ _ (omega arith) (grows system events k (suc k) s r (omega arith)).part (h.settled (subst (λ n. 0 < n) same some)))
      by_turn (inr (inl raised)) some =
          subst (λ n. IsSettledBy system events (suc k) s n (then (suc k) s r).part) (sym raised.shared)
          (raised_by (suc k) s r range sound raised.normal raised.learner (subst (λ n. 0 < n) raised.shared some))
      by_turn (inr (inr learned)) some =
          settled_more k (suc k) s _ _ _ (omega arith) (IsWithin-refl _)
          (sent_settled k s r _ _ learned.places _ ih (subst (λ y. Came (at k) s r y) learned.came came) some learned.has learned.covered)

  fresh_settled : (s : ShardId) (r : ReplicaId) → then 0 s r ≡ fresh system.epoch s → IsSettledSound 0 s r
  unfolding fresh
  fresh_settled s r e =
      let none : AreAcksSound 0 s r (then 0 s r).view (then 0 s r).acks = subst (AreAcksSound 0 s r (then 0 s r).view) (sym (ap (λ (state : EpochReplica). state.acks) e)) (no_acks 0 s r (then 0 s r).view) in
      record { acks = none.reached; others = none.others; ascend = none.ascend; settled = λ some. absurd (let zero_settled : (then 0 s r).settled ≡ 0 = ap (λ (state : EpochReplica). state.settled) e in omega arith) }

  settled_next : (k : ℕ) (s : ShardId) (r : ReplicaId) → ((j : ℕ) (a : ShardId) (b : ReplicaId) → j ≤ k → IsSettledSound j a b) → IsSettledSound (suc k) s r
  settled_next k s r ih = elim (turn_at system events k s r) [ inl e ↦ unchanged e | inr t ↦ settled_turn k s r t.0 ih t.1 t.2 t.3 ]
    where
      unchanged : then (suc k) s r ≡ then k s r → IsSettledSound (suc k) s r
      unchanged e =
          let h = ih k s r (omega arith) in
          let before : AreAcksSound k s r (then k s r).view (then k s r).acks = record { reached = h.acks; others = h.others; ascend = h.ascend } in
          let after : AreAcksSound (suc k) s r (then (suc k) s r).view (then (suc k) s r).acks =
          subst (λ (state : EpochReplica). AreAcksSound (suc k) s r state.view state.acks) (sym e) (acks_more k (suc k) s r _ _ (omega arith) before) in
          record {
            acks = after.reached;
            others = after.others;
            ascend = after.ascend;
            settled = subst (λ (state : EpochReplica). 0 < state.settled → IsSettledBy system events (suc k) s state.settled state.part) (sym e) (λ some. settled_more k (suc k) s _ _ _ (omega arith) (IsWithin-refl _) (h.settled some));
          }

  settled_to : (k j : ℕ) (s : ShardId) (r : ReplicaId) → j ≤ k → IsSettledSound j s r
  settled_to zero j s r le = let e : 0 ≡ j = omega arith in subst (λ n. IsSettledSound n s r) e (fresh_settled s r (fresh_then system events s r))
  settled_to (suc k) j s r le = elim (cases_eq j (suc k)) [ inr differ ↦ settled_to k j s r (omega arith) | inl e ↦ subst (λ n. IsSettledSound n s r) (sym e) (settled_next k s r (λ i a b h. settled_to k i a b h)) ]

  -- WHY A NUMBER IS SETTLED, at every moment and replica
  pub settled_by : (k : ℕ) (s : ShardId) (r : ReplicaId) → 0 < (then k s r).settled → IsSettledBy system events k s (then k s r).settled (then k s r).part
  settled_by k s r = (settled_to k k s r (omega arith)).settled

  -- ---- a packet at a settled number, stamped by moment k; the replica's moment j is no later
  module _ (k j : ℕ) (s : ShardId) (r : ReplicaId) (n : ℕ) (t : Packet) (le : j ≤ k) (stamped : In t (at k).stamping.stamped) (number : HasNumber t s n) (high : n ≤ (then j s r).settled) where
    low : 1 ≤ n
    low = (stamps system events k).low t s n stamped number

    by : IsSettledBy system events j s (then j s r).settled (then j s r).part
    by = settled_by j s r (let one = low in omega arith)

    -- where a place of the packet is dropped for good here, the entry is dropped
    lost_entry : any_among (then j s r).part.perm t.stamp ≡ true → is_dropped (then j s r).part n ≡ true
    unfolding is_covered is_dropped
    lost_entry lost = elim (or_cases _ _ (covers-at (then j s r).part (then j s r).settled n by.covered low high)) [
      | inr place ↦ or_left _ _ place
      | inl held ↦ or_right _ _ (by_held (packet_at (then j s r).part.held n) refl held)
    ]
      where
        by_held : (found : Option Packet) → packet_at (then j s r).part.held n ≡ found → is_some found ≡ true → is_held_and (λ packet. is_lost (then j s r).part packet) found ≡ true
        by_held None e g = absurd (cc)
        by_held (Some u) e g = subst (λ (p : Packet). any_among (then j s r).part.perm p.stamp ≡ true) (sym (is_packet system events k s n t stamped number j r u le e)) lost

    -- SETTLED AND NOT DROPPED HERE: dropped nowhere, at any later moment
    pub settled_kept : is_dropped (then j s r).part n ≡ false → any_among (at k).coordinator.dropped t.stamp ≡ false
    settled_kept kept = by_learner by
      where
        by_learner : IsSettledBy system events j s (then j s r).settled (then j s r).part → any_among (at k).coordinator.dropped t.stamp ≡ false
        by_learner b = elim (no_gap (then b.past.learner.moment s (learner_of b.view system.config.f)).part n (b.past.learner.whole.at n low high)) [
          | inl lost ↦ absurd (both_ways _ kept (lost_entry
              (any_among-within (then b.past.learner.moment s (learner_of b.view system.config.f)).part.perm (then j s r).part.perm t.stamp b.perm
              (dropped_means system events k s n t stamped number b.past.learner.moment (learner_of b.view system.config.f) (let early = b.past.learner.by in omega arith) lost))))
          | inr counts ↦ key system events k s n t stamped number b.view (past_more j k s b.view (then j s r).settled n le high b.past) counts
        ]

    -- SETTLED AND DROPPED HERE: dropped by the coordinator
    pub settled_dropped : is_dropped (then j s r).part n ≡ true → any_among (at k).coordinator.dropped t.stamp ≡ true
    settled_dropped lost = dropped_by system events k s n t stamped number j k r le le lost

    -- and where it isn't dropped here, it is held here
    pub settled_held : is_dropped (then j s r).part n ≡ false → packet_at (then j s r).part.held n ≡ Some t
    unfolding is_covered is_dropped
    settled_held kept = elim (or_cases _ _ (covers-at (then j s r).part (then j s r).settled n by.covered low high)) [
      | inr place ↦ absurd (both_ways _ kept (or_left _ _ place))
      | inl held ↦ by_found (packet_at (then j s r).part.held n) refl held
    ]
      where
        by_found : (found : Option Packet) → packet_at (then j s r).part.held n ≡ found → is_some found ≡ true → packet_at (then j s r).part.held n ≡ Some t
        by_found None e g = absurd (cc)
        by_found (Some u) e g = e ∙ ap Some (is_packet system events k s n t stamped number j r u le e)

    -- both ways at once
    pub settled_same : is_dropped (then j s r).part n ≡ any_among (at k).coordinator.dropped t.stamp
    settled_same = elim (cases_Bool (is_dropped (then j s r).part n)) [ inl lost ↦ lost ∙ sym (settled_dropped lost) | inr kept ↦ kept ∙ sym (settled_kept kept) ]
