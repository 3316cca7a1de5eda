-- A run by its moments: over any two moments nothing is undone; and each message that was sent has a cause at an
-- earlier moment. Every argument on what a replica knew when it spoke rests on these two.
use Rattle.std.proofs.Common.{◌≡◌, ◌⊎◌, inl, inr, ℕ, zero, suc, ◌≤◌, ◌<◌, List, [], ◌∷◌, Option, Some, refl, sym, ap, ◌∙◌, subst, arith}
use Rattle.eris_base.specs.declared.ids.ClientId.{ClientId}
use Rattle.eris_base.specs.declared.ids.ReplicaId.{ReplicaId}
use Rattle.eris_base.specs.declared.ids.ShardId.{ShardId}
use Rattle.eris_base.specs.declared.ids.TxnId.{TxnId}
use Rattle.eris_base.specs.Each.{Each}
use Rattle.eris_base.proofs.Numbers.{last_or}
use Rattle.eris_base.proofs.Each.{Each-any}
use Rattle.eris_txn.specs.declared.body.Body.{Body}
use Rattle.eris_txn.specs.declared.packet.Packet.{Packet}
use Rattle.eris_txn.specs.Bodies.{participants_of}
use Rattle.eris_sequencer.specs.Stamps.{next_packet, stamped_next}
use Rattle.eris_rules.specs.Addressees.{replica_count, shard_replicas}
use Rattle.eris_rules.specs.CoordStates.{EpochCoordOut}
use Rattle.eris_rules.specs.EpochMessages.{EpochMessage, EpochSend, Notice, Stamped, send_each}
use Rattle.eris_rules.specs.ReplicaStates.{Member, EpochReplica, EpochOut}
use Rattle.eris_rules.specs.Worlds.{replica_at, with_replica}
use Rattle.eris_law_epoch.specs.Causes.{IsLater, Says, IsHome, Cause, ByReplica, ByCoordinator, BySequencer, IsWorldLater}
use Rattle.eris_law_epoch.specs.EpochWorlds.{EpochSystem, EpochWorld, EpochEvent, member_of, first_epoch_world, packet_sends, after_stamping, after_replica, after_coordinator, moment}
use Rattle.eris_law_epoch.specs.Members.{In}
use Rattle.eris_law_epoch.specs.Reading.{read}
use Rattle.eris_law_epoch.proofs.Members.{Each-at, Each-flat_map, Each-told, In-append, In-left, In-right, OfMessage}
use Rattle.eris_law_epoch.proofs.Frame.{IsWritten, IsGrid, IsGrid-written, first_grid, read-some, written, written-same}
use Rattle.eris_law_epoch.proofs.Grow.{IsLater-refl, IsLater-trans, IsRight, right_step}
use Rattle.eris_law_epoch.proofs.Coords.{IsCoordLater-refl, IsCoordLater-trans, IsCoordRight, right_coord, right_nudge}
use Rattle.eris_law_epoch.proofs.Moves.{Move, Rests, ReplicaMoves, CoordMoves, NudgeMoves, Stamps, moved}

pub IsWorldLater-refl : (system : EpochSystem) (world : EpochWorld) → IsWorldLater system world world
IsWorldLater-refl system world =
    record { replicas = λ shard replica. IsLater-refl _; coordinator = IsCoordLater-refl world.coordinator; stamped = λ packet i. i; sent = λ one i. i }

pub IsWorldLater-trans : (system : EpochSystem) (some more all : EpochWorld) → IsWorldLater system some more → IsWorldLater system more all → IsWorldLater system some all
IsWorldLater-trans system some more all f g = record {
  replicas = λ shard replica. IsLater-trans _ _ _ (f.replicas shard replica) (g.replicas shard replica);
  coordinator = IsCoordLater-trans some.coordinator more.coordinator all.coordinator f.coordinator g.coordinator;
  stamped = λ packet i. g.stamped packet (f.stamped packet i);
  sent = λ one i. g.sent one (f.sent one i);
}

-- ALL THAT IS KEPT of a step of the epoch
pub record IsStepped (system : EpochSystem) (before after : EpochWorld) : Type 0 where
  pub later : IsWorldLater system before after
  pub new : (one : EpochSend) → In one after.sent → In one before.sent ⊎ Cause system before after one

-- there are as many replicas as the config says
abbrev pub IsFull : EpochSystem → EpochWorld → Type 0
IsFull system world = IsGrid system.config.shards (replica_count system.config) world.replicas

at_states : (me : Member) (a b c d : EpochReplica) (message : EpochMessage) → a ≡ c → b ≡ d → Says me c d message → Says me a b message
at_states me a b c d message p q h = subst (λ x. Says me x b message) (sym p) (subst (λ x. Says me c x message) (sym q) h)

stepped_replica : (system : EpochSystem) (world : EpochWorld) (shard : ShardId) (replica : ReplicaId) (state : EpochReplica) (out : EpochOut) → IsFull system world
    → replica_at world.replicas shard replica ≡ Some state → IsRight (member_of system shard replica) state out → IsStepped system world (after_replica world shard replica out)
unfolding after_replica
stepped_replica system world shard replica state out full h right =
    let was : read system world.replicas shard replica ≡ state = read-some system world.replicas shard replica state h in
    let now : read system (with_replica world.replicas shard replica out.state) shard replica ≡ out.state = written-same system world.replicas shard replica state out.state h in
    let range = full.at shard replica state h in
    record {
      later = record {
        replicas = λ a b. grows was a b (written system world.replicas shard replica state out.state h a b);
        coordinator = IsCoordLater-refl world.coordinator;
        stamped = λ packet i. i;
        sent = λ one i. In-left one world.sent out.sends i;
      };
      new = λ one i. elim (In-append one world.sent out.sends i) [
        | inl old ↦ inl old
        | inr new ↦ inr (ByReplica shard replica range.0 range.1
            (at_states (member_of system shard replica) _ _ state out.state one.message was now (Each-at _ out.sends one right.says new))
            (Each-at (λ (o : EpochSend). IsHome shard o.to) out.sends one right.home new))
      ];
    }
  where
    grows : read system world.replicas shard replica ≡ state → (a : ShardId) (b : ReplicaId) → IsWritten system world.replicas shard replica out.state a b
        → IsLater (read system world.replicas a b) (read system (with_replica world.replicas shard replica out.state) a b)
    grows was a b (inl e) =
        let old : read system world.replicas a b ≡ state = ap (λ x. read system world.replicas x b) e.0 ∙ ap (λ x. read system world.replicas shard x) e.1 ∙ was in
        subst (λ x. IsLater (read system world.replicas a b) x) (sym e.2) (subst (λ x. IsLater x out.state) (sym old) right.later)
    grows was a b (inr e) = subst (λ x. IsLater (read system world.replicas a b) x) (sym e) (IsLater-refl _)

stepped_coord : (system : EpochSystem) (world : EpochWorld) (notice : Option Notice) (out : EpochCoordOut) → IsCoordRight system.config notice world.coordinator out → IsStepped system world (after_coordinator world out)
unfolding after_coordinator
stepped_coord system world notice out right = record {
  later = record { replicas = λ shard replica. IsLater-refl _; coordinator = right.later; stamped = λ packet i. i; sent = λ one i. In-left one world.sent out.sends i };
  new = λ one i. elim (In-append one world.sent out.sends i) [ inl old ↦ inl old | inr new ↦ inr (ByCoordinator (Each-at _ out.sends one right.says new)) ];
}

-- each packet that goes out with a stamping is the stamped one
pub sends_packet : (system : EpochSystem) (packet : Packet) (P : EpochMessage → Type 0) → P (Stamped packet) → Each (OfMessage P) (packet_sends system.config packet)
unfolding packet_sends
sends_packet system packet P h =
    Each-flat_map (OfMessage P) (λ shard. send_each (shard_replicas system.config shard) (Stamped packet)) (participants_of packet.body)
    (Each-any (λ shard. Each (OfMessage P) (send_each (shard_replicas system.config shard) (Stamped packet))) (λ shard. Each-told P (shard_replicas system.config shard) (Stamped packet) h) _)

-- the packet of a stamping is the last one stamped
pub is_stamped : (world : EpochWorld) (asker : ClientId) (id : TxnId) (body : Body) → In (next_packet world.stamping.sequencer id asker body) (stamped_next world.stamping id asker body).stamped
unfolding stamped_next
is_stamped world asker id body = In-right _ world.stamping.stamped (next_packet world.stamping.sequencer id asker body ∷ []) (inl refl)

still_stamped : (world : EpochWorld) (asker : ClientId) (id : TxnId) (body : Body) (packet : Packet) → In packet world.stamping.stamped → In packet (stamped_next world.stamping id asker body).stamped
unfolding stamped_next
still_stamped world asker id body packet i = In-left packet world.stamping.stamped _ i

stepped_stamps : (system : EpochSystem) (world : EpochWorld) (asker : ClientId) (id : TxnId) (body : Body) → IsStepped system world (after_stamping system world asker id body)
unfolding after_stamping
stepped_stamps system world asker id body =
    let packet : Packet = next_packet world.stamping.sequencer id asker body in
    record {
      later = record { replicas = λ shard replica. IsLater-refl _; coordinator = IsCoordLater-refl world.coordinator; stamped = still_stamped world asker id body; sent = λ one i. In-left one world.sent _ i };
      new = λ one i. elim (In-append one world.sent (packet_sends system.config packet) i) [
        | inl old ↦ inl old
        | inr new ↦ inr (BySequencer packet (is_stamped world asker id body) (Each-at _ _ one (sends_packet system packet (λ message. message ≡ Stamped packet) refl) new))
      ];
    }

pub stepped : (system : EpochSystem) (world after : EpochWorld) → IsFull system world → Move system world after → IsStepped system world after
stepped system world _ full Rests = record { later = IsWorldLater-refl system world; new = λ one i. inl i }
stepped system world _ full (ReplicaMoves shard replica state input h came) = stepped_replica system world shard replica state _ full h (right_step (member_of system shard replica) state input)
stepped system world _ full (CoordMoves message i) = stepped_coord system world _ _ (right_coord system.config world.coordinator message)
stepped system world _ full NudgeMoves = stepped_coord system world _ _ (right_nudge system.config world.coordinator)
stepped system world _ full (Stamps asker id body fits free) = stepped_stamps system world asker id body

full_move : (system : EpochSystem) (world after : EpochWorld) → Move system world after → IsFull system world → IsFull system after
unfolding after_replica after_coordinator after_stamping
full_move system world _ Rests full = full
full_move system world _ (ReplicaMoves shard replica state input h came) full = IsGrid-written _ _ world.replicas shard replica _ full
full_move system world _ (CoordMoves message i) full = full
full_move system world _ NudgeMoves full = full
full_move system world _ (Stamps asker id body fits free) full = full

module _ (system : EpochSystem) (events : List EpochEvent) where
  abbrev pub at : ℕ → EpochWorld
  at k = moment system events k

  pub full_at : (k : ℕ) → IsFull system (at k)
  unfolding moment
  full_at zero = first_grid system
  full_at (suc k) = full_move system _ _ (moved system events k) (full_at k)

  pub next : (k : ℕ) → IsStepped system (at k) (at (suc k))
  next k = stepped system (at k) (at (suc k)) (full_at k) (moved system events k)

  -- GROWTH: nothing is undone between two moments
  pub later : (j k : ℕ) → j ≤ k → IsWorldLater system (at j) (at k)
  later j zero h = let e : 0 ≡ j = omega arith in subst (λ n. IsWorldLater system (at n) (at 0)) e (IsWorldLater-refl system _)
  later j (suc k) h = elim (last_or j k h) [
    | inl le ↦ IsWorldLater-trans system (at j) (at k) (at (suc k)) (later j k le) (next k).later
    | inr e ↦ subst (λ n. IsWorldLater system (at n) (at (suc k))) (sym e) (IsWorldLater-refl system _)
  ]

  nothing_sent : (one : EpochSend) → In one (at 0).sent → ⊥
  unfolding moment first_epoch_world
  nothing_sent one i = i

  -- CAUSE: each message that was sent has one, at an earlier moment
  pub cause : (k : ℕ) (one : EpochSend) → In one (at k).sent → (j : ℕ) × (j < k) × Cause system (at j) (at (suc j)) one
  cause zero one i = absurd (nothing_sent one i)
  cause (suc k) one i = elim ((next k).new one i) [ inl old ↦ (let c = cause k one old in (c.0, omega (arith, c.1), c.2)) | inr new ↦ (k, omega arith, new) ]
