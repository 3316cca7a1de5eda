-- The first dropped place of a packet was dropped by quorums of every shard. A place that is dropped with a packet
-- is never the packet's first, so each packet that is dropped was once dropped by quorums.
use Rattle.std.proofs.Common.{◌≡◌, inl, inr, ℕ, zero, suc, ◌≤◌, ◌<◌, List, [], true, false, Option, Some, None, refl, sym, ap, ◌∙◌, subst, arith}
use Rattle.std.proofs.lemmas.Bool.{and_parts, and_from, eqb-true, eq-eqb, cases_Bool, both_ways}
use Rattle.eris_base.specs.declared.ids.Epoch.{Epoch}
use Rattle.eris_base.specs.declared.ids.Node.{Node}
use Rattle.eris_base.specs.declared.ids.Node.TheVariants.{Coordinator}
use Rattle.eris_base.specs.declared.ids.Place.{Place}
use Rattle.eris_base.specs.declared.ids.ReplicaId.{ReplicaId}
use Rattle.eris_base.specs.declared.ids.ShardId.{ShardId}
use Rattle.eris_base.specs.declared.ids.View.{View}
use Rattle.eris_base.specs.Places.{number_in}
use Rattle.eris_base.specs.StampPlaces.{has_place, is_number}
use Rattle.eris_base.proofs.IdLaws.{shard_equal}
use Rattle.eris_txn.specs.declared.packet.Packet.{Packet}
use Rattle.eris_log.specs.Laws.Entries.{any_among-none, any_among-some}
use Rattle.eris_log.specs.Laws.Places.{contains_place-places_of, same_place-true}
use Rattle.eris_log.specs.Places.{contains_place, places_of, any_among}
use Rattle.eris_drop.specs.declared.drop_note.DropNote.{DropNote}
use Rattle.eris_drop.specs.Notes.{same_note, has_note, noted_replicas, HasDropQuorum}
use Rattle.eris_drop.proofs.DropLaws.{note_of, noted-below, noted-has_note, IsDecided-from_test}
use Rattle.eris_rules.specs.CoordStates.{nothing_asked}
use Rattle.eris_rules.specs.EpochCoords.{nudge_row}
use Rattle.eris_rules.specs.EpochMessages.{EpochMessage, Stamped, Instructs, Notifies, Exchanges, Responds, Notice, Has, TempDropped}
use Rattle.eris_law_epoch.specs.Causes.{Cause, ByReplica, ByCoordinator, BySequencer, DroppedForATime}
use Rattle.eris_law_epoch.specs.EpochWorlds.{EpochSystem, EpochWorld, EpochEvent, member_of, first_epoch_world, after_stamping, after_replica, after_coordinator, moment}
use Rattle.eris_law_epoch.specs.Fine.{known_in, IsFinePacket}
use Rattle.eris_law_epoch.specs.Members.{In}
use Rattle.eris_law_key.specs.Quorums.{DroppedThen, IsAgreed}
use Rattle.eris_law_epoch.specs.Reading.{replica_then}
use Rattle.eris_law_epoch.specs.Stamped.{HasNumber, IsStampedIn}
use Rattle.eris_law_epoch.proofs.Coords.{told, IsByQuorums, IsWithPacket, notice_in, right_coord}
use Rattle.eris_law_epoch.proofs.Frame.{replica_equal, view_equal}
use Rattle.eris_law_epoch.proofs.FineWorlds.{all_fine}
use Rattle.eris_law_epoch.proofs.Members.{Each-at, In-left, any_witness}
use Rattle.eris_law_epoch.proofs.Moments.{later, cause}
use Rattle.eris_law_epoch.proofs.Moves.{Move, Rests, ReplicaMoves, CoordMoves, NudgeMoves, Stamps, moved}
use Rattle.eris_law_epoch.proofs.StampList.{stamps}

-- notes that the test takes for the same are equal
same_note-true : (some other : DropNote) → same_note some other ≡ true → some ≡ other
unfolding same_note
same_note-true some other h =
    let one = and_parts _ _ h in let two = and_parts _ _ one.1 in let three = and_parts _ _ two.1 in
    let places : some.place ≡ other.place = same_place-true some.place other.place one.0 in
    let shards : some.shard ≡ other.shard = shard_equal _ _ (eqb-true _ _ two.0) in
    let replicas : some.replica ≡ other.replica = replica_equal _ _ (eqb-true _ _ three.0) in
    let views : some.view ≡ other.view = view_equal _ _ (eqb-true _ _ three.1) in
    λ i. record { place = places i; shard = shards i; replica = replicas i; view = views i }

note-In : (notes : List DropNote) (one : DropNote) → has_note notes one ≡ true → In one notes
unfolding has_note
note-In notes one h =
    let w = any_witness (λ other. same_note other one) notes h in
    subst (λ n. In n notes) (same_note-true w.0 one w.2) w.1

-- a packet's place and its number
pub place-number : (packet : Packet) (place : Place) → has_place packet.stamp place ≡ true → HasNumber packet place.shard place.number
place-number packet place h = by_number (number_in packet.stamp.places place.shard) (and_parts _ _ h).1
  where
    by_number : (given : Option ℕ) → is_number given place.number ≡ true → given ≡ Some place.number
    by_number None k = absurd (cc)
    by_number (Some n) k = ap Some (eqb-true n place.number k)

pub number-place : (packet : Packet) (epoch : Epoch) (shard : ShardId) (number : ℕ) → packet.stamp.epoch ≡ epoch → HasNumber packet shard number
    → has_place packet.stamp (record { epoch = epoch; shard = shard; number = number }) ≡ true
number-place packet epoch shard number e h =
    and_from _ _ (eq-eqb packet.stamp.epoch.0 epoch.0 (ap (λ (p : Epoch). p.0) e)) (ap (λ given. is_number given number) h ∙ eq-eqb number number refl)

notice-message : (message : EpochMessage) (notice : Notice) → notice_in message ≡ Some notice → message ≡ Notifies notice
notice-message (Stamped packet) notice e = absurd (cc)
notice-message (Instructs instruction) notice e = absurd (cc)
notice-message (Notifies one) notice e = let same : one ≡ notice = cc in ap Notifies same
notice-message (Exchanges exchange) notice e = absurd (cc)
notice-message (Responds response) notice e = absurd (cc)

module _ (system : EpochSystem) (events : List EpochEvent) where
  abbrev at : ℕ → EpochWorld
  at k = moment system events k

  abbrev sent_to_coordinator : ℕ → EpochMessage → Type 0
  sent_to_coordinator k message = In (record { to = Coordinator; message = message }) (at k).sent

  note_move : (world after : EpochWorld) → Move system world after → ((one : DropNote) → In one world.coordinator.notes → In (record { to = Coordinator; message = Notifies (told one) }) world.sent)
      → (one : DropNote) → In one after.coordinator.notes → In (record { to = Coordinator; message = Notifies (told one) }) after.sent
  unfolding after_replica after_coordinator after_stamping nudge_row
  note_move world _ Rests f = f
  note_move world _ (ReplicaMoves shard replica state input h came) f = λ one i. In-left _ world.sent _ (f one i)
  note_move world _ (CoordMoves message c) f = λ one i. elim ((right_coord system.config world.coordinator message).notes one i) [
    | inl old ↦ In-left _ world.sent _ (f one old)
    | inr new ↦ In-left _ world.sent _ (subst (λ m. In (record { to = Coordinator; message = m }) world.sent) (notice-message message (told one) new) c)
  ]
  note_move world _ NudgeMoves f = λ one i. In-left _ world.sent _ (f one i)
  note_move world _ (Stamps asker id body fits free) f = λ one i. In-left _ world.sent _ (f one i)

  -- each note was sent
  noted_sent : (k : ℕ) (one : DropNote) → In one (at k).coordinator.notes → sent_to_coordinator k (Notifies (told one))
  unfolding moment first_epoch_world nothing_asked
  noted_sent zero one i = absurd i
  noted_sent (suc k) one i = note_move _ _ (moved system events k) (noted_sent k) one i

  -- who said so did drop the place for a time
  pub dropped_then : (k : ℕ) (to : Node) (place : Place) (shard : ShardId) (replica : ReplicaId) (view : View) → In (record { to = to; message = Notifies (TempDropped place shard replica view) }) (at k).sent → DroppedThen system events k shard view place replica
  dropped_then k to place shard replica view i = let c = cause system events k _ i in of_cause c.0 c.1 c.2
    where
      named : (j : ℕ) → j < k → (a : ShardId) (b : ReplicaId) → DroppedForATime (member_of system a b) (replica_then system events j a b) (replica_then system events (suc j) a b).part place shard replica view → DroppedThen system events k shard view place replica
      named j lt a b said = record {
        moment = j;
        by = lt;
        dropped = subst (λ z. DroppedForATime (member_of system shard z) (replica_then system events j shard z) (replica_then system events (suc j) shard z).part place shard replica view) (sym said.own)
            (subst (λ z. DroppedForATime (member_of system z b) (replica_then system events j z b) (replica_then system events (suc j) z b).part place shard replica view) (sym said.own_shard) said);
      }

      of_cause : (j : ℕ) → j < k → Cause system (at j) (at (suc j)) (record { to = to; message = Notifies (TempDropped place shard replica view) }) → DroppedThen system events k shard view place replica
      of_cause j lt (ByReplica a b range there said home) = named j lt a b said
      of_cause j lt (ByCoordinator said) = absurd said
      of_cause j lt (BySequencer packet p e) = absurd (cc)

  -- a decision rests on a quorum of each shard
  agreed : (j : ℕ) (shard : ShardId) (place : Place) (notice : Option Notice) → ((one : Notice) → notice ≡ Some one → sent_to_coordinator j (Notifies one)) → shard.0 < system.config.shards
      → IsByQuorums system.config (at j).coordinator notice place → IsAgreed system events j shard place
  agreed j shard place notice came lt b = of_quorum ((IsDecided-from_test system.config b.notes place b.is_decided).at shard lt)
    where
      sent : (one : DropNote) → In one b.notes → sent_to_coordinator j (Notifies (told one))
      sent one i = elim (b.known one i) [ inl old ↦ noted_sent j one old | inr new ↦ came (told one) new ]

      of_quorum : HasDropQuorum system.config.f b.notes place shard → IsAgreed system events j shard place
      of_quorum q = record {
        view = q.view;
        who = noted_replicas system.config.f b.notes place shard q.view;
        quorum = record { below = noted-below system.config.f place shard q.view b.notes; many = q.quorum };
        each = λ replica h. dropped_then j Coordinator place shard replica q.view
            (sent (note_of place shard replica q.view) (note-In b.notes _ (noted-has_note system.config.f place shard q.view b.notes replica h)));
        learner = q.learner;
      }

  -- THE FIRST DROPPED PLACE of a packet
  pub first_dropped : (j k : ℕ) (shard : ShardId) (packet : Packet) (place : Place) → suc j ≤ k → In packet (at k).stamping.stamped → has_place packet.stamp place ≡ true
      → any_among (at j).coordinator.dropped packet.stamp ≡ false → contains_place (at (suc j)).coordinator.dropped place ≡ true → shard.0 < system.config.shards → IsAgreed system events j shard place
  unfolding after_replica after_coordinator after_stamping nudge_row
  first_dropped j k shard packet place le stamped has none dropped lt = of_move (at (suc j)) (moved system events j) dropped
    where
      fits : IsStampedIn system.epoch packet
      fits = (stamps system events k).each packet stamped

      before : contains_place (at j).coordinator.dropped place ≡ true → IsAgreed system events j shard place
      before d = absurd (both_ways _ (any_among-none (at j).coordinator.dropped packet.stamp place none (contains_place-places_of packet.stamp place fits.places ∙ has)) d)

      -- the packet that took the place along is the packet itself
      with_packet : (message : EpochMessage) → sent_to_coordinator j message → IsWithPacket (at j).coordinator (notice_in message) place → IsAgreed system events j shard place
      with_packet message c w =
          let fine : IsFinePacket system.epoch (known_in (at j)) w.packet = Each-at _ (at j).sent _ (all_fine system events j).sent (subst (λ m. sent_to_coordinator j m) (notice-message message (Has w.packet) w.comes) c) in
          let there = (later system events j k (omega arith)).stamped w.packet fine.stamped in
          let same : w.packet ≡ packet = (stamps system events k).one w.packet packet place.shard place.number there stamped (place-number w.packet place w.has) (place-number packet place has) in
          absurd (both_ways _ none (subst (λ (p : Packet). any_among (at j).coordinator.dropped p.stamp ≡ true) same w.lost))

      of_move : (after : EpochWorld) → Move system (at j) after → contains_place after.coordinator.dropped place ≡ true → IsAgreed system events j shard place
      of_move _ Rests d = before d
      of_move _ (ReplicaMoves a b state input h came) d = before d
      of_move _ (CoordMoves message c) d = elim ((right_coord system.config (at j).coordinator message).drops place d) [
        | inl old ↦ before old
        | inr new ↦ elim new [
          | inl q ↦ agreed j shard place (notice_in message) (λ one e. subst (λ m. sent_to_coordinator j m) (notice-message message one e) c) lt q
          | inr w ↦ with_packet message c w
        ]
      ]
      of_move _ NudgeMoves d = before d
      of_move _ (Stamps asker id body free room) d = before d

  -- a packet with a dropped place had a first one
  pub record HasFirst (k : ℕ) (packet : Packet) : Type 0 where
    pub moment_before : ℕ
    pub place : Place
    pub by : suc moment_before ≤ k
    pub has : contains_place (places_of packet.stamp) place ≡ true
    pub none : any_among (at moment_before).coordinator.dropped packet.stamp ≡ false
    pub dropped : contains_place (at (suc moment_before)).coordinator.dropped place ≡ true

  nothing_dropped : (packet : Packet) → any_among (at 0).coordinator.dropped packet.stamp ≡ true → ⊥
  unfolding moment first_epoch_world nothing_asked contains_place
  nothing_dropped packet h = let found = any_among-some [] packet.stamp h in absurd (let e = found.2 in cc)

  pub has_first : (k : ℕ) (packet : Packet) → any_among (at k).coordinator.dropped packet.stamp ≡ true → HasFirst k packet
  has_first zero packet h = absurd (nothing_dropped packet h)
  has_first (suc k) packet h = elim (cases_Bool (any_among (at k).coordinator.dropped packet.stamp)) [
    | inl already ↦ (let f = has_first k packet already in record { moment_before = f.moment_before; place = f.place; by = (let by = f.by in omega arith); has = f.has; none = f.none; dropped = f.dropped })
    | inr not_yet ↦ (let found = any_among-some (at (suc k)).coordinator.dropped packet.stamp h in record { moment_before = k; place = found.0; by = omega arith; has = found.1; none = not_yet; dropped = found.2 })
  ]
