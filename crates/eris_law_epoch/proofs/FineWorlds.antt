-- At each moment of an epoch every part, message and found packet is fine, and what is found is apart from what is
-- asked and dropped. Every law that compares packets of two replicas rests on it.
use Rattle.std.proofs.Common.{◌≡◌, inl, inr, ℕ, zero, suc, List, [], ◌∷◌, true, Option, Some, None, sym, subst}
use Rattle.eris_base.specs.declared.ids.ClientId.{ClientId}
use Rattle.eris_base.specs.declared.ids.Place.{Place}
use Rattle.eris_base.specs.declared.ids.ReplicaId.{ReplicaId}
use Rattle.eris_base.specs.declared.ids.ShardId.{ShardId}
use Rattle.eris_base.specs.declared.ids.TxnId.{TxnId}
use Rattle.eris_base.specs.Each.{Each}
use Rattle.eris_base.proofs.Each.{Each-append, Each-weaker}
use Rattle.eris_txn.specs.declared.body.Body.{Body}
use Rattle.eris_txn.specs.declared.packet.Packet.{Packet}
use Rattle.eris_log.specs.Laws.Parts.{HasAll-refl}
use Rattle.eris_log.specs.Places.{contains_place}
use Rattle.eris_sequencer.specs.Stamps.{next_packet, stamped_next}
use Rattle.eris_rules.specs.CoordStates.{EpochCoordOut, nothing_asked}
use Rattle.eris_rules.specs.EpochMessages.{EpochMessage, Stamped, Instructs, Notifies, Exchanges, Responds, Instruction, Request, Found, Dropped, Notice, Find, Has}
use Rattle.eris_rules.specs.EpochReplicas.{EpochInput, Get, Probe, Suspect, Sync, epoch_step}
use Rattle.eris_rules.specs.ReplicaStates.{EpochReplica, EpochOut}
use Rattle.eris_rules.specs.Worlds.{replica_at, with_replica}
use Rattle.eris_law_epoch.specs.Causes.{CoordSays, Says}
use Rattle.eris_law_epoch.specs.EpochWorlds.{EpochSystem, EpochWorld, EpochEvent, member_of, first_epoch_world, packet_sends, after_stamping, after_replica, after_coordinator, moment}
use Rattle.eris_law_epoch.specs.Fine.{known_in, IsFinePacket, IsFineReplica, IsFineMessage, IsFineInstruction, IsFineNotice}
use Rattle.eris_law_epoch.specs.Members.{In}
use Rattle.eris_law_epoch.specs.Reading.{read}
use Rattle.eris_law_epoch.specs.Stamped.{IsStampingOf}
use Rattle.eris_law_epoch.proofs.Coords.{IsApart, IsCoordRight, notice_in, right_coord, right_nudge}
use Rattle.eris_law_epoch.proofs.FineParts.{IsMore, IsFineMessage-more, IsFineReplica-more, packet-more, IsFineInput, fine_fresh, fine_step, said_fine}
use Rattle.eris_law_epoch.proofs.Frame.{IsWritten, read-some, written, first_fresh}
use Rattle.eris_law_epoch.proofs.Grow.{right_step}
use Rattle.eris_law_epoch.proofs.Members.{Each-at, In-left, OfMessage}
use Rattle.eris_law_epoch.proofs.Moments.{sends_packet, is_stamped}
use Rattle.eris_law_epoch.proofs.Moves.{Came, Move, Rests, ReplicaMoves, CoordMoves, NudgeMoves, Stamps, moved}
use Rattle.eris_law_epoch.proofs.StampList.{stamps}

pub record IsFineWorld (system : EpochSystem) (world : EpochWorld) : Type 0 where
  pub sent : Each (OfMessage (IsFineMessage system.epoch (known_in world))) world.sent
  pub replicas : (shard : ShardId) (replica : ReplicaId) → IsFineReplica system.epoch (known_in world) shard (read system world.replicas shard replica)
  pub found : (packet : Packet) → In packet world.coordinator.found → IsFinePacket system.epoch (known_in world) packet
  pub asked : (place : Place) → contains_place world.coordinator.asked place ≡ true → place.epoch ≡ system.epoch
  pub dropped : (place : Place) → contains_place world.coordinator.dropped place ≡ true → place.epoch ≡ system.epoch
  pub apart : IsApart world.coordinator

module _ (system : EpochSystem) (world : EpochWorld) (fine : IsFineWorld system world) where
  came_fine : (shard : ShardId) (replica : ReplicaId) (input : EpochInput) → Came world shard replica input → IsFineInput system.epoch (known_in world) input
  came_fine shard replica (Get message) came = Each-at _ world.sent _ fine.sent came
  came_fine shard replica Probe came = tt
  came_fine shard replica Suspect came = tt
  came_fine shard replica Sync came = tt

  replica_fine : (shard : ShardId) (replica : ReplicaId) (state : EpochReplica) (input : EpochInput) → replica_at world.replicas shard replica ≡ Some state → Came world shard replica input
      → IsFineWorld system (after_replica world shard replica (epoch_step (member_of system shard replica) state input))
  unfolding after_replica
  replica_fine shard replica state input h came =
      let out : EpochOut = epoch_step (member_of system shard replica) state input in
      let was : IsFineReplica system.epoch (known_in world) shard state = subst (IsFineReplica system.epoch (known_in world) shard) (read-some system world.replicas shard replica state h) (fine.replicas shard replica) in
      let now : IsFineReplica system.epoch (known_in world) shard out.state = fine_step system.epoch (known_in world) (member_of system shard replica) state input was (came_fine shard replica input came) in
      record {
        sent = Each-append _ world.sent out.sends fine.sent
            (Each-weaker (OfMessage (Says (member_of system shard replica) state out.state)) (OfMessage (IsFineMessage system.epoch (known_in world)))
            (λ one s. said_fine system.epoch (known_in world) (member_of system shard replica) state out.state one.message was.part now.part s) out.sends (right_step (member_of system shard replica) state input).says);
        replicas = λ a b. by_place now a b (written system world.replicas shard replica state out.state h a b);
        found = fine.found;
        asked = fine.asked;
        dropped = fine.dropped;
        apart = fine.apart;
      }
    where
      by_place : IsFineReplica system.epoch (known_in world) shard (epoch_step (member_of system shard replica) state input).state → (a : ShardId) (b : ReplicaId)
          → IsWritten system world.replicas shard replica (epoch_step (member_of system shard replica) state input).state a b
          → IsFineReplica system.epoch (known_in world) a (read system (with_replica world.replicas shard replica (epoch_step (member_of system shard replica) state input).state) a b)
      by_place now a b (inl e) =
          subst (IsFineReplica system.epoch (known_in world) a) (sym e.2)
          (subst (λ s. IsFineReplica system.epoch (known_in world) s (epoch_step (member_of system shard replica) state input).state) (sym e.0) now)
      by_place now a b (inr e) = subst (IsFineReplica system.epoch (known_in world) a) (sym e) (fine.replicas a b)

  -- the coordinator's step, by a fine notice or by none
  coord_fine : (notice : Option Notice) (out : EpochCoordOut) → ((one : Notice) → notice ≡ Some one → IsFineNotice system.epoch (known_in world) one)
      → IsCoordRight system.config notice world.coordinator out → IsFineWorld system (after_coordinator world out)
  unfolding after_coordinator
  coord_fine notice out fits right =
      let more : IsMore (known_in world) (known_in (record world { coordinator = out.state })) = record { stamped = λ packet i. i; found = right.later.found; dropped = right.later.dropped } in
      record {
        sent = Each-append _ world.sent out.sends
            (Each-weaker (OfMessage (IsFineMessage system.epoch (known_in world))) (OfMessage (IsFineMessage system.epoch (known_in (record world { coordinator = out.state }))))
            (λ one f. IsFineMessage-more system.epoch _ _ more one.message f) world.sent fine.sent)
            (Each-weaker (OfMessage (CoordSays out.state)) (OfMessage (IsFineMessage system.epoch (known_in (record world { coordinator = out.state }))))
            (λ one s. said_by one.message s) out.sends right.says);
        replicas = λ a b. IsFineReplica-more system.epoch _ _ more a _ (fine.replicas a b);
        found = λ packet i. packet-more system.epoch _ _ more packet (found packet i);
        asked = asked;
        dropped = dropped;
        apart = right.apart (λ packet e. (fits (Has packet) e).of_epoch.places) fine.apart;
      }
    where
      found : (packet : Packet) → In packet out.state.found → IsFinePacket system.epoch (known_in world) packet
      found packet i = elim (right.new packet i) [ inl old ↦ fine.found packet old | inr new ↦ fits (Has packet) new ]

      asked : (place : Place) → contains_place out.state.asked place ≡ true → place.epoch ≡ system.epoch
      asked place h = elim (right.asks place h) [ inl old ↦ fine.asked place old | inr new ↦ fits (Find new.0 place) new.1 ]

      dropped : (place : Place) → contains_place out.state.dropped place ≡ true → place.epoch ≡ system.epoch
      dropped place h = elim (right.were_asked place h) [ inl old ↦ fine.dropped place old | inr was ↦ fine.asked place was ]

      said_instruction : (instruction : Instruction) → CoordSays out.state (Instructs instruction) → IsFineInstruction system.epoch (known_in (record world { coordinator = out.state })) instruction
      said_instruction (Request place) s = asked place s
      said_instruction (Found packet) s = record { packet_is = (let f = found packet s in record { of_epoch = f.of_epoch; stamped = f.stamped }); found = s }
      said_instruction (Dropped place) s = record { epoch_is = dropped place s; dropped = s }

      said_by : (message : EpochMessage) → CoordSays out.state message → IsFineMessage system.epoch (known_in (record world { coordinator = out.state })) message
      said_by (Stamped packet) s = absurd s
      said_by (Instructs instruction) s = said_instruction instruction s
      said_by (Notifies notice') s = absurd s
      said_by (Exchanges exchange) s = absurd s
      said_by (Responds response) s = absurd s

  notice_fine : (message : EpochMessage) → IsFineMessage system.epoch (known_in world) message → (one : Notice) → notice_in message ≡ Some one → IsFineNotice system.epoch (known_in world) one
  notice_fine (Stamped packet) f one e = absurd (cc)
  notice_fine (Instructs instruction) f one e = absurd (cc)
  notice_fine (Notifies notice) f one e = let same : notice ≡ one = cc in subst (IsFineNotice system.epoch (known_in world)) same f
  notice_fine (Exchanges exchange) f one e = absurd (cc)
  notice_fine (Responds response) f one e = absurd (cc)

  stamps_fine : (asker : ClientId) (id : TxnId) (body : Body) → IsStampingOf system (stamped_next world.stamping id asker body) → IsFineWorld system (after_stamping system world asker id body)
  unfolding after_stamping stamped_next
  stamps_fine asker id body facts =
      let packet : Packet = next_packet world.stamping.sequencer id asker body in
      let after : EpochWorld = record world { stamping = stamped_next world.stamping id asker body } in
      let more : IsMore (known_in world) (known_in after) = record { stamped = λ other i. In-left other world.stamping.stamped (packet ∷ []) i; found = λ other i. i; dropped = HasAll-refl world.coordinator.dropped } in
      let new : In packet (stamped_next world.stamping id asker body).stamped = is_stamped world asker id body in
      record {
        sent = Each-append _ world.sent (packet_sends system.config packet)
            (Each-weaker (OfMessage (IsFineMessage system.epoch (known_in world))) (OfMessage (IsFineMessage system.epoch (known_in after))) (λ one f. IsFineMessage-more system.epoch _ _ more one.message f) world.sent fine.sent)
            (sends_packet system packet (IsFineMessage system.epoch (known_in after)) (record { of_epoch = facts.each packet new; stamped = new }));
        replicas = λ a b. IsFineReplica-more system.epoch _ _ more a _ (fine.replicas a b);
        found = λ other i. packet-more system.epoch _ _ more other (fine.found other i);
        asked = fine.asked;
        dropped = fine.dropped;
        apart = fine.apart;
      }

fine_move : (system : EpochSystem) (world after : EpochWorld) → Move system world after → IsStampingOf system after.stamping → IsFineWorld system world → IsFineWorld system after
unfolding after_stamping
fine_move system world _ Rests facts fine = fine
fine_move system world _ (ReplicaMoves shard replica state input h came) facts fine = replica_fine system world fine shard replica state input h came
fine_move system world _ (CoordMoves message i) facts fine =
    coord_fine system world fine (notice_in message) _ (notice_fine system world fine message (Each-at _ world.sent _ fine.sent i)) (right_coord system.config world.coordinator message)
fine_move system world _ NudgeMoves facts fine = coord_fine system world fine None _ (λ one e. absurd (cc)) (right_nudge system.config world.coordinator)
fine_move system world _ (Stamps asker id body fits free) facts fine = stamps_fine system world fine asker id body facts

first_fine : (system : EpochSystem) → IsFineWorld system (first_epoch_world system)
unfolding first_epoch_world nothing_asked contains_place
first_fine system = record {
  sent = tt;
  replicas = λ shard replica. subst (IsFineReplica system.epoch _ shard) (sym (first_fresh system shard replica)) (fine_fresh system.epoch _ shard);
  found = λ packet i. absurd i;
  asked = λ place h. absurd (cc);
  dropped = λ place h. absurd (cc);
  apart = record { asked = λ place packet h i. absurd i; dropped = λ place packet h i. absurd i };
}

-- FINE AT EVERY MOMENT
pub all_fine : (system : EpochSystem) (events : List EpochEvent) (k : ℕ) → IsFineWorld system (moment system events k)
unfolding moment
all_fine system events zero = first_fine system
all_fine system events (suc k) = fine_move system _ _ (moved system events k) (stamps system events (suc k)) (all_fine system events k)
