-- A replica that takes part in a view above 0 has in its part all that a quorum of its shard had in that view.
-- This is why a view's learner can't have missed what f+1 replicas did in a lower view.
use Rattle.std.proofs.Common.{◌≡◌, ◌⊎◌, inl, inr, ℕ, zero, suc, ◌+◌, ◌*◌, ◌≤◌, ◌<◌, List, [], ◌∷◌, true, ◌==◌, Some, refl, sym, ap, ◌∙◌, subst, arith}
use Rattle.std.proofs.lemmas.Bool.{or_cases, eqb-true}
use Rattle.eris_base.specs.declared.ids.Node.TheVariants.{Replica}
use Rattle.eris_base.specs.declared.ids.ReplicaId.{ReplicaId}
use Rattle.eris_base.specs.declared.ids.ShardId.{ShardId}
use Rattle.eris_base.specs.declared.ids.View.{View}
use Rattle.eris_base.specs.Each.{Each}
use Rattle.eris_base.specs.Quorums.{has_replica}
use Rattle.eris_base.proofs.Each.{Each-weaker}
use Rattle.eris_base.proofs.Numbers.{last_or}
use Rattle.eris_log.specs.Growth.{IsWithin, Agree, OfOneShard}
use Rattle.eris_log.specs.Laws.Parts.{IsWithin-refl, IsWithin-trans, IsWithin-merge_second, IsUnion-merge}
use Rattle.eris_log.specs.PartValues.{PartValue}
use Rattle.eris_log.specs.Parts.{merge}
use Rattle.eris_view.specs.ViewTallies.{is_ready, replicas_of, union_of}
use Rattle.eris_rules.specs.EpochMessages.{Exchanges, ViewChange, StartView}
use Rattle.eris_rules.specs.EpochReplicas.{EpochInput, epoch_step}
use Rattle.eris_rules.specs.ReplicaStates.{EpochReplica, is_normal, fresh}
use Rattle.eris_rules.specs.Worlds.{replica_at, with_replica}
use Rattle.eris_law_epoch.specs.Causes.{Cause, ByReplica, ByCoordinator, BySequencer, ShowedPart, BeganView}
use Rattle.eris_law_epoch.specs.EpochWorlds.{EpochSystem, EpochWorld, EpochEvent, member_of, after_stamping, after_replica, after_coordinator, moment}
use Rattle.eris_law_epoch.specs.Fine.{known_in, IsFine, IsFineNote}
use Rattle.eris_law_epoch.specs.Members.{In}
use Rattle.eris_law_key.specs.Quorums.{Had, IsBacked}
use Rattle.eris_law_epoch.specs.Reading.{read, replica_then}
use Rattle.eris_law_epoch.proofs.FineParts.{held_fine, fine_merge}
use Rattle.eris_law_epoch.proofs.FineWorlds.{all_fine}
use Rattle.eris_law_epoch.proofs.Frame.{IsWritten, read-some, written, first_fresh, replica_equal}
use Rattle.eris_law_epoch.proofs.Grow.{IsWithin-union}
use Rattle.eris_law_epoch.proofs.Leaves.{ComesFrom}
use Rattle.eris_law_epoch.proofs.Members.{Each-at, Each-by_In}
use Rattle.eris_law_epoch.proofs.Moments.{full_at, next, later, cause}
use Rattle.eris_law_epoch.proofs.Moves.{Came, Move, Rests, ReplicaMoves, CoordMoves, NudgeMoves, Stamps, moved}
use Rattle.eris_law_epoch.proofs.StampList.{stamps}
use Rattle.eris_law_key.proofs.Turns.{Turn, Same, Stays, Begins, Joins, IsTurned, turned}

-- the note of a listed replica
note_of : (replica : ReplicaId) (noted : List (ReplicaId × PartValue)) → has_replica (replicas_of noted) replica ≡ true → (one : ReplicaId × PartValue) × In one noted × (one.0 ≡ replica)
note_of replica [] h = absurd (cc)
note_of replica (one ∷ noted) h = elim (or_cases (replica.0 == one.0.0) (has_replica (replicas_of noted) replica) h) [
  | inl here ↦ (one, inl refl, replica_equal one.0 replica (sym (eqb-true _ _ here)))
  | inr later ↦ (let found = note_of replica noted later in (found.0, inr found.1, found.2))
]

module _ (system : EpochSystem) (events : List EpochEvent) where
  abbrev at : ℕ → EpochWorld
  at k = moment system events k

  abbrev then : ℕ → ShardId → ReplicaId → EpochReplica
  then k shard replica = replica_then system events k shard replica

  -- ---- parts of one shard agree, so a union has all that each of them has
  pub fine_agree : (k : ℕ) (some other : PartValue) → IsFine system.epoch (known_in (at k)) some → IsFine system.epoch (known_in (at k)) other → other.shard ≡ some.shard → Agree some other
  fine_agree k some other f g own = record {
    at = λ number one another h i.
        let p = held_fine system.epoch (known_in (at k)) some number one f h in
        let q = held_fine system.epoch (known_in (at k)) other number another g i in
        (stamps system events k).one one another some.shard number p.packet.stamped q.packet.stamped p.number (subst (λ s. Rattle.eris_law_epoch.specs.Stamped.HasNumber another s number) own q.number);
  }

  one_shard : (k : ℕ) (some other : PartValue) → IsFine system.epoch (known_in (at k)) some → IsFine system.epoch (known_in (at k)) other → other.shard ≡ some.shard → OfOneShard some other
  one_shard k some other f g own = record { epoch = g.epoch_is ∙ sym f.epoch_is; shard = own }

  -- the second part is within a merge
  second_within : (k : ℕ) (some other : PartValue) → IsFine system.epoch (known_in (at k)) some → IsFine system.epoch (known_in (at k)) other → other.shard ≡ some.shard → IsWithin other (merge some other)
  second_within k some other f g own = IsWithin-merge_second some other (one_shard k some other f g own) (fine_agree k some other f g own)

  in_union : (k : ℕ) (shard : ShardId) (noted : List (ReplicaId × PartValue)) (part : PartValue) → IsFine system.epoch (known_in (at k)) part → part.shard ≡ shard → Each (IsFineNote system.epoch (known_in (at k)) shard) noted
      → (one : ReplicaId × PartValue) → In one noted → IsWithin one.1 (union_of noted part)
  unfolding union_of
  in_union k shard [] part f own h one i = absurd i
  in_union k shard (x ∷ noted) part f own h one (inl e) =
      subst (λ (y : ReplicaId × PartValue). IsWithin y.1 (union_of noted (merge part x.1))) (sym e)
      (IsWithin-trans x.1 (merge part x.1) _ (second_within k part x.1 f h.0.part (h.0.own ∙ sym own)) (IsWithin-union noted (merge part x.1)))
  in_union k shard (x ∷ noted) part f own h one (inr i) =
      in_union k shard noted (merge part x.1) (fine_merge system.epoch (known_in (at k)) part x.1 f h.0.part (h.0.own ∙ sym own)) ((IsUnion-merge part x.1).shard ∙ own) h.1 one i

  -- ---- what stays true later
  had_more : (k l : ℕ) (shard : ShardId) (view : View) (part more : PartValue) (replica : ReplicaId) → k ≤ l → IsWithin part more → Had system events k shard view part replica → Had system events l shard view more replica
  had_more k l shard view part more replica le within h =
      record { moment = h.moment; by = (let by = h.by in omega arith); there = h.there; in_view = h.in_view; within = IsWithin-trans _ part more h.within within }

  pub backed_more : (k l : ℕ) (shard : ShardId) (view : View) (part more : PartValue) → k ≤ l → IsWithin part more → IsBacked system events k shard view part → IsBacked system events l shard view more
  backed_more k l shard view part more le within b =
      record { who = b.who; quorum = b.quorum; each = λ replica h. had_more k l shard view part more replica le within (b.each replica h) }

  -- a replica stays as it was, or it is there and turns
  abbrev pub Turns : ℕ → ShardId → ReplicaId → Type 0
  Turns k s r = (input : EpochInput) × (r.0 < 2 * system.config.f + 1) × Came (at k) s r input × IsTurned (member_of system s r) (then k s r) input (then (suc k) s r)

  pub turn_at : (k : ℕ) (s : ShardId) (r : ReplicaId) → (then (suc k) s r ≡ then k s r) ⊎ Turns k s r
  unfolding after_replica after_coordinator after_stamping
  turn_at k s r = of_move (at k) (at (suc k)) (λ shard replica state h. ((full_at system events k).at shard replica state h).1) (moved system events k)
    where
      of_written : (world : EpochWorld) (a : ShardId) (b : ReplicaId) (state made : EpochReplica) (input : EpochInput) → b.0 < 2 * system.config.f + 1 → Came world a b input → read system world.replicas a b ≡ state → IsTurned (member_of system a b) state input made
          → IsWritten system world.replicas a b made s r
          → (read system (with_replica world.replicas a b made) s r ≡ read system world.replicas s r)
          ⊎ ((input : EpochInput) × (r.0 < 2 * system.config.f + 1) × Came world s r input × IsTurned (member_of system s r) (read system world.replicas s r) input (read system (with_replica world.replicas a b made) s r))
      of_written world a b state made input range came e t (inr h) = inl h
      of_written world a b state made input range came e t (inl h) =
          let was : read system world.replicas s r ≡ state = ap (λ z. read system world.replicas z r) h.0 ∙ ap (λ z. read system world.replicas a z) h.1 ∙ e in
          inr (
            input,
            subst (λ (z : ReplicaId). z.0 < 2 * system.config.f + 1) (sym h.1) range,
            subst (λ z. Came world z r input) (sym h.0) (subst (λ z. Came world a z input) (sym h.1) came),
            subst (λ z. IsTurned (member_of system z r) (read system world.replicas s r) input (read system (with_replica world.replicas a b made) s r)) (sym h.0)
                (subst (λ z. IsTurned (member_of system a z) (read system world.replicas s r) input (read system (with_replica world.replicas a b made) s r)) (sym h.1)
                (subst (λ z. IsTurned (member_of system a b) z input (read system (with_replica world.replicas a b made) s r)) (sym was)
                (subst (λ z. IsTurned (member_of system a b) state input z) (sym h.2) t))),
          )

      of_move : (world after : EpochWorld) → ((shard : ShardId) (replica : ReplicaId) (state : EpochReplica) → replica_at world.replicas shard replica ≡ Some state → replica.0 < 2 * system.config.f + 1) → Move system world after
          → (read system after.replicas s r ≡ read system world.replicas s r)
          ⊎ ((input : EpochInput) × (r.0 < 2 * system.config.f + 1) × Came world s r input × IsTurned (member_of system s r) (read system world.replicas s r) input (read system after.replicas s r))
      of_move world _ full Rests = inl refl
      of_move world _ full (ReplicaMoves a b state input h came) =
          of_written world a b state _ input (full a b state h) came (read-some system world.replicas a b state h) (turned (member_of system a b) state input)
          (written system world.replicas a b state (epoch_step (member_of system a b) state input).state h s r)
      of_move world _ full (CoordMoves message i) = inl refl
      of_move world _ full NudgeMoves = inl refl
      of_move world _ full (Stamps asker id body fits free) = inl refl

  -- the state of a replica by its name
  pub same_replica_then : (k : ℕ) (s a : ShardId) (x b : ReplicaId) → s ≡ a → x ≡ b → then k s x ≡ then k a b
  same_replica_then k s a x b e d = ap (λ z. then k z x) e ∙ ap (λ z. then k a z) d

  -- who sent a part on the way to a view had it in that view
  sent_part : (k : ℕ) (s : ShardId) (r x : ReplicaId) (view : View) (part : PartValue) → In (record { to = Replica s r; message = Exchanges (ViewChange x view part) }) (at k).sent → Had system events k s view part x
  sent_part k s r x view part i = let c = cause system events k _ i in of_cause c.0 c.1 c.2
    where
      named : (j : ℕ) → j < k → (a : ShardId) (b : ReplicaId) → b.0 < 2 * system.config.f + 1 → s ≡ a
          → ShowedPart (member_of system a b) (then (suc j) a b).view (then (suc j) a b).status (then (suc j) a b).part x view part → Had system events k s view part x
      named j lt a b range home said =
          let same = same_replica_then (suc j) s a x b home said.own in
          record {
            moment = suc j;
            by = omega arith;
            there = subst (λ (z : ReplicaId). z.0 < 2 * system.config.f + 1) (sym said.own) range;
            in_view = ap (λ (state : EpochReplica). state.view) same ∙ sym said.in_view;
            within = subst (λ p. IsWithin p part) (said.same ∙ sym (ap (λ (state : EpochReplica). state.part) same)) (IsWithin-refl part);
          }

      of_cause : (j : ℕ) → j < k → Cause system (at j) (at (suc j)) (record { to = Replica s r; message = Exchanges (ViewChange x view part) }) → Had system events k s view part x
      of_cause j lt (ByReplica a b range there said home) = named j lt a b there home said
      of_cause j lt (ByCoordinator said) = absurd said
      of_cause j lt (BySequencer packet p e) = absurd (cc)

  -- WHAT IS SOUND of one replica at one moment
  pub record IsSound (k : ℕ) (s : ShardId) (r : ReplicaId) : Type 0 where
    pub normal : is_normal (then k s r).status ≡ true → ((then k s r).view.0 ≡ 0) ⊎ IsBacked system events k s (then k s r).view (then k s r).part
    pub noted : Each (λ one. Had system events k s (then k s r).view one.1 one.0) (then k s r).noted

  -- the learner that began a view was sound
  sent_start : (k : ℕ) (s : ShardId) (r : ReplicaId) (view : View) (part : PartValue) → ((j : ℕ) (a : ShardId) (b : ReplicaId) → j ≤ k → IsSound j a b)
      → In (record { to = Replica s r; message = Exchanges (StartView view part) }) (at k).sent → (view.0 ≡ 0) ⊎ IsBacked system events k s view part
  sent_start k s r view part ih i = let c = cause system events k _ i in of_cause c.0 c.1 c.2
    where
      named : (j : ℕ) → j < k → (a : ShardId) (b : ReplicaId) → s ≡ a
          → BeganView (member_of system a b) (then (suc j) a b).view (then (suc j) a b).status (then (suc j) a b).part view part → (view.0 ≡ 0) ⊎ IsBacked system events k s view part
      named j lt a b home said = elim ((ih (suc j) a b (omega arith)).normal said.normal) [
        | inl zero_view ↦ inl (ap (λ (v : View). v.0) said.in_view ∙ zero_view)
        | inr backed ↦ inr (backed_more (suc j) k s view part part (omega arith) (IsWithin-refl part)
            (subst (λ z. IsBacked system events (suc j) z view part) (sym home)
            (subst (λ z. IsBacked system events (suc j) a z part) (sym said.in_view)
            (subst (λ z. IsBacked system events (suc j) a (then (suc j) a b).view z) (sym said.same) backed))))
      ]

      of_cause : (j : ℕ) → j < k → Cause system (at j) (at (suc j)) (record { to = Replica s r; message = Exchanges (StartView view part) }) → (view.0 ≡ 0) ⊎ IsBacked system events k s view part
      of_cause j lt (ByReplica a b range there said home) = named j lt a b home said
      of_cause j lt (ByCoordinator said) = absurd said
      of_cause j lt (BySequencer packet p e) = absurd (cc)

  up : (k : ℕ) (s : ShardId) (r : ReplicaId) → IsWithin (then k s r).part (then (suc k) s r).part
  up k s r = ((next system events k).later.replicas s r).part

  own_part : (k : ℕ) (s : ShardId) (r : ReplicaId) → (then k s r).part.shard ≡ s
  own_part k s r = ((all_fine system events k).replicas s r).own

  -- each note that a turn leaves or uses was had
  comes_had : (k : ℕ) (s : ShardId) (r : ReplicaId) (input : EpochInput) (view : View) (one : ReplicaId × PartValue) → IsSound k s r → Came (at k) s r input → ComesFrom (member_of system s r) (then k s r) input view one
      → Had system events k s view one.1 one.0
  comes_had k s r input view one h came (inl old) = subst (λ v. Had system events k s v one.1 one.0) (sym old.1) (Each-at _ (then k s r).noted one h.noted old.0)
  comes_had k s r input view one h came (inr new) = sent_part k s r one.0 view one.1 (subst (λ y. Came (at k) s r y) new.0 came)

  -- each note that a turn uses is a fine part of the shard
  comes_fine : (k : ℕ) (s : ShardId) (r : ReplicaId) (input : EpochInput) (view : View) (one : ReplicaId × PartValue) → Came (at k) s r input → ComesFrom (member_of system s r) (then k s r) input view one
      → IsFineNote system.epoch (known_in (at k)) s one
  comes_fine k s r input view one came (inl old) = Each-at _ (then k s r).noted one ((all_fine system events k).replicas s r).noted old.0
  comes_fine k s r input view one came (inr new) = record { part = Each-at _ (at k).sent _ (all_fine system events k).sent (subst (λ y. Came (at k) s r y) new.0 came); own = new.1 }

  no_notes : (k : ℕ) (s : ShardId) (r : ReplicaId) → (then k s r).noted ≡ [] → Each (λ one. Had system events k s (then k s r).view one.1 one.0) (then k s r).noted
  no_notes k s r e = subst (λ noted. Each (λ one. Had system events k s (then k s r).view one.1 one.0) noted) (sym e) tt

  -- the quorum of a view that begins
  begun_quorum : (k : ℕ) (s : ShardId) (r : ReplicaId) (input : EpochInput) (ones : List (ReplicaId × PartValue)) → IsSound k s r → r.0 < 2 * system.config.f + 1 → Came (at k) s r input
      → Each (ComesFrom (member_of system s r) (then k s r) input (then (suc k) s r).view) ones → is_ready (record { view = (then (suc k) s r).view; f = system.config.f; noted = ones }) r ≡ true
      → (then (suc k) s r).part ≡ union_of ones (then k s r).part → IsBacked system events (suc k) s (then (suc k) s r).view (then (suc k) s r).part
  unfolding is_ready
  begun_quorum k s r input ones h range came from ready made = record {
    who = r ∷ replicas_of ones;
    quorum = record { below = (range, below ones had); many = ready };
    each = λ x listed. elim (or_cases (x.0 == r.0) (has_replica (replicas_of ones) x) listed) [ inl own ↦ itself x (replica_equal x r (eqb-true _ _ own)) | inr other ↦ of_note x (note_of x ones other) ];
  }
    where
      had : (one : ReplicaId × PartValue) → In one ones → Had system events k s (then (suc k) s r).view one.1 one.0
      had one i = comes_had k s r input (then (suc k) s r).view one h came (Each-at _ ones one from i)

      below : (noted : List (ReplicaId × PartValue)) → ((one : ReplicaId × PartValue) → In one noted → Had system events k s (then (suc k) s r).view one.1 one.0) → Each (λ (x : ReplicaId). x.0 < 2 * system.config.f + 1) (replicas_of noted)
      below [] f = tt
      below (one ∷ noted) f = ((f one (inl refl)).there, below noted (λ other i. f other (inr i)))

      itself : (x : ReplicaId) → x ≡ r → Had system events (suc k) s (then (suc k) s r).view (then (suc k) s r).part x
      itself x e = subst (Had system events (suc k) s (then (suc k) s r).view (then (suc k) s r).part) (sym e)
          (record { moment = suc k; by = omega arith; there = range; in_view = refl; within = IsWithin-refl _ })

      of_note : (x : ReplicaId) → (one : ReplicaId × PartValue) × In one ones × (one.0 ≡ x) → Had system events (suc k) s (then (suc k) s r).view (then (suc k) s r).part x
      of_note x found =
          let f = (all_fine system events k).replicas s r in
          let within = in_union k s ones (then k s r).part f.part f.own (Each-by_In _ ones (λ one i. comes_fine k s r input _ one came (Each-at _ ones one from i))) found.0 found.1 in
          subst (Had system events (suc k) s (then (suc k) s r).view (then (suc k) s r).part) found.2
          (had_more k (suc k) s _ found.0.1 _ found.0.0 (omega arith) (subst (λ p. IsWithin found.0.1 p) (sym made) within) (had found.0 found.1))

  sound_turn : (k : ℕ) (s : ShardId) (r : ReplicaId) (input : EpochInput) → ((j : ℕ) (a : ShardId) (b : ReplicaId) → j ≤ k → IsSound j a b) → r.0 < 2 * system.config.f + 1 → Came (at k) s r input
      → Turn (member_of system s r) (then k s r) input (then (suc k) s r).view (then (suc k) s r).status (then (suc k) s r).part (then (suc k) s r).noted → IsSound (suc k) s r
  sound_turn k s r input ih range came (Same v n t) =
      let h = ih k s r (omega arith) in
      record {
        normal = λ m. elim (h.normal (sym n ∙ m)) [
          | inl zero_view ↦ inl (ap (λ (w : View). w.0) v ∙ zero_view)
          | inr b ↦ inr (subst (λ w. IsBacked system events (suc k) s w (then (suc k) s r).part) (sym v) (backed_more k (suc k) s _ _ _ (omega arith) (up k s r) b))
        ];
        noted = subst (λ w. Each (λ one. Had system events (suc k) s w one.1 one.0) (then (suc k) s r).noted) (sym v)
            (subst (λ noted. Each (λ one. Had system events (suc k) s (then k s r).view one.1 one.0) noted) (sym t)
            (Each-weaker _ _ (λ one d. had_more k (suc k) s _ _ _ one.0 (omega arith) (IsWithin-refl _) d) (then k s r).noted h.noted));
      }
  sound_turn k s r input ih range came (Stays n t) = record {
    normal = λ m. absurd (cc);
    noted = Each-weaker _ _ (λ one d. had_more k (suc k) s _ _ _ one.0 (omega arith) (IsWithin-refl _) (comes_had k s r input _ one (ih k s r (omega arith)) came d)) (then (suc k) s r).noted t;
  }
  sound_turn k s r input ih range came (Begins ones t ready made n) = record {
    normal = λ m. inr (begun_quorum k s r input ones (ih k s r (omega arith)) range came t ready made);
    noted = no_notes (suc k) s r n;
  }
  sound_turn k s r input ih range came (Joins other d own made n) = record {
    normal = λ m. elim (sent_start k s r (then (suc k) s r).view other ih (subst (λ y. Came (at k) s r y) d came)) [
      | inl zero_view ↦ inl zero_view
      | inr b ↦ inr (backed_more k (suc k) s _ other _ (omega arith) (subst (λ p. IsWithin other p) (sym made) joined) b)
    ];
    noted = no_notes (suc k) s r n;
  }
    where
      joined : IsWithin other (merge (then k s r).part other)
      joined =
          let f = (all_fine system events k).replicas s r in
          second_within k (then k s r).part other f.part (Each-at _ (at k).sent _ (all_fine system events k).sent (subst (λ y. Came (at k) s r y) d came)) (own ∙ sym f.own)

  fresh_sound : (s : ShardId) (r : ReplicaId) → then 0 s r ≡ fresh system.epoch s → IsSound 0 s r
  unfolding fresh
  fresh_sound s r e = record { normal = λ m. inl (ap (λ (state : EpochReplica). state.view.0) e); noted = no_notes 0 s r (ap (λ (state : EpochReplica). state.noted) e) }

  pub fresh_then : (s : ShardId) (r : ReplicaId) → then 0 s r ≡ fresh system.epoch s
  unfolding moment
  fresh_then s r = first_fresh system s r

  sound_next : (k : ℕ) (s : ShardId) (r : ReplicaId) → ((j : ℕ) (a : ShardId) (b : ReplicaId) → j ≤ k → IsSound j a b) → IsSound (suc k) s r
  sound_next k s r ih = elim (turn_at k s r) [
    | inl e ↦ unchanged e
    | inr t ↦ sound_turn k s r t.0 ih t.1 t.2 t.3.turn
  ]
    where
      unchanged : then (suc k) s r ≡ then k s r → IsSound (suc k) s r
      unchanged e =
          let h = ih k s r (omega arith) in
          record {
            normal = λ m. elim (h.normal (ap (λ (state : EpochReplica). is_normal state.status) (sym e) ∙ m)) [
              | inl zero_view ↦ inl (ap (λ (state : EpochReplica). state.view.0) e ∙ zero_view)
              | inr b ↦ inr (subst (λ (state : EpochReplica). IsBacked system events (suc k) s state.view state.part) (sym e) (backed_more k (suc k) s _ _ _ (omega arith) (IsWithin-refl _) b))
            ];
            noted = subst (λ (state : EpochReplica). Each (λ one. Had system events (suc k) s state.view one.1 one.0) state.noted) (sym e)
                (Each-weaker _ _ (λ one d. had_more k (suc k) s _ _ _ one.0 (omega arith) (IsWithin-refl _) d) (then k s r).noted h.noted);
          }

  sound_to : (k j : ℕ) (s : ShardId) (r : ReplicaId) → j ≤ k → IsSound j s r
  sound_to zero j s r le = let e : 0 ≡ j = omega arith in subst (λ n. IsSound n s r) e (fresh_sound s r (fresh_then s r))
  sound_to (suc k) j s r le = elim (last_or j k le) [ inl l ↦ sound_to k j s r l | inr e ↦ subst (λ n. IsSound n s r) (sym e) (sound_next k s r (λ i a b h. sound_to k i a b h)) ]

  -- VIEW CHANGES ARE SOUND at every moment
  pub sound : (k : ℕ) (s : ShardId) (r : ReplicaId) → IsSound k s r
  sound k s r = sound_to k k s r (omega arith)

  pub above_zero : (k : ℕ) (s : ShardId) (r : ReplicaId) → is_normal (then k s r).status ≡ true → 0 < (then k s r).view.0 → IsBacked system events k s (then k s r).view (then k s r).part
  above_zero k s r normal above = elim ((sound k s r).normal normal) [ inl zero_view ↦ absurd (omega arith) | inr backed ↦ backed ]
