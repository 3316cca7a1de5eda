-- A REPLICA THAT GETS THE PACKETS OF ITS SHARD IN THEIR ORDER speaks for each at once: the learner of view 0 answers,
-- and any other vouches. Used where a packet comes to a replica that is up.
use Rattle.std.proofs.Common.{◌≡◌, ◌≤◌, ◌<◌, ◌+◌, ◌-◌, max, ℕ, zero, suc, true, false, not, cond, ◌==◌, ◌&&◌, Option, Some, None, List, [], ◌∷◌, ◌++◌, length, is_some, nat_lt, take, refl, ap, ap₂, sym, ◌∙◌, arith, length-append}
use Rattle.std.proofs.lemmas.Bool.{and_left, cond-false, cond-true, ne_eqb}
use Rattle.std.specs.Prelude.{slice_get}
use Rattle.eris_base.specs.declared.ids.Epoch.{Epoch}
use Rattle.eris_base.specs.declared.ids.Node.TheVariants.{Client}
use Rattle.eris_base.specs.declared.ids.ReplicaId.{ReplicaId}
use Rattle.eris_base.specs.declared.ids.ShardId.{ShardId}
use Rattle.eris_base.specs.Places.{number_in}
use Rattle.eris_base.specs.Quorums.{learner_of, same_replica}
use Rattle.eris_base.specs.ConfigLimits.{ConfigValue}
use Rattle.eris_txn.specs.declared.answer.Answer.{Answer}
use Rattle.eris_txn.specs.declared.packet.Packet.{Packet}
use Rattle.eris_log.specs.Entries.{length_of}
use Rattle.eris_log.specs.Held.{packet_at}
use Rattle.eris_log.specs.PartValues.{PartValue}
use Rattle.eris_log.specs.Parts.{hold, hold_at}
use Rattle.eris_locks.specs.States.{phase_of}
use Rattle.eris_msg.specs.declared.message.Message.{Message}
use Rattle.eris_rules.specs.declared.replica_input.ReplicaInput.{ReplicaInput}
use Rattle.eris_rules.specs.EpochMessages.{EpochSend, Stamped}
use Rattle.eris_rules.specs.EpochReplicas.{Get, epoch_step, holds_packet, txn_at, txn_named, txn_row}
use Rattle.eris_rules.specs.InPlace.{is_in_place_at_replica}
use Rattle.eris_rules.specs.Outer.{outer_sends}
use Rattle.eris_rules.specs.ReplicaAnswers.{answer_after, is_open, log_upto, open_at, open_packet, open_upto}
use Rattle.eris_rules.specs.ReplicaStates.{EpochOut, EpochReplica, Identity, Member, ReplicaOut, is_learner, quiet}
use Rattle.eris_rules.specs.Replicas.{message_step, replica_step, steps, steps_in, takes, takes_inner}
use Rattle.eris_rules.specs.Speaking.{asks_once, has_gap, holds_from, replies_with, speaks_after, speaks_at, speaks_for, speaks_of, speaks_of_held, speaks_on, tail, vouch_for}
use Rattle.eris_law_calm.specs.Received.{inner_after, numbered, state_after, whole_part}
use Rattle.eris_law_calm.proofs.Numbered.{beyond, held_at, last_of, none_above, one_more_held, open_entry, whole_length, within}

-- ---- the log
take_one : (packets : List Packet) (i : ℕ) (packet : Packet) → slice_get packets i ≡ Some packet → take (suc i) packets ≡ take i packets ++ packet ∷ []
take_one [] i packet is = absurd (cc)
take_one (first ∷ packets) zero packet is = let same : first ≡ packet = cc in ap (λ (p : Packet). p ∷ []) same
take_one (first ∷ packets) (suc i) packet is = ap (λ (rest : List Packet). first ∷ rest) (take_one packets i packet is)

take_front : (front back : List Packet) → take (length front) (front ++ back) ≡ front
take_front [] back = refl
take_front (first ∷ front) back = ap (λ (rest : List Packet). first ∷ rest) (take_front front back)

module _ (shard : ShardId) where
  open_step : (packets : List Packet) (i : ℕ) (packet : Packet) → slice_get packets i ≡ Some packet → i < length packets → open_at (whole_part shard packets) (i + 1) ≡ packet ∷ []
  unfolding open_at
  open_step packets i packet is low =
      ap (λ entry. open_packet (is_open entry) (packet_at (numbered 0 packets) (i + 1))) (open_entry shard packets (i + 1) i refl low)
      ∙ ap (λ found. open_packet true found) (held_at shard packets (i + 1) i refl ∙ is)

  first_few : (packets : List Packet) (count : ℕ) → count ≤ length packets → open_upto (whole_part shard packets) count ≡ take count packets
  unfolding open_upto
  first_few packets zero low = refl
  first_few packets (suc count) low =
      let found = within packets count (omega arith) in
      ap₂ ◌++◌ (first_few packets count (omega arith)) (open_step packets count found.0 found.1 (omega arith)) ∙ sym (take_one packets count found.0 found.1)

  -- what stands before the last packet
  log_before : (packets : List Packet) (packet : Packet) → open_upto (whole_part shard (packets ++ packet ∷ [])) (length packets) ≡ packets
  log_before packets packet =
      first_few (packets ++ packet ∷ []) (length packets) (let long = length-append packets (packet ∷ []) in omega arith) ∙ take_front packets (packet ∷ [])

-- ---- one more packet
module _ (config : ConfigValue) (shard : ShardId) (replica : ReplicaId) (packets : List Packet) (packet : Packet) (named : number_in packet.stamp.places shard ≡ Some (length packets + 1)) where
  abbrev me : Member
  me = record { config = config; shard = shard; replica = replica; prior = [] }

  abbrev before : EpochReplica
  before = inner_after shard packets

  abbrev all : List Packet
  all = packets ++ packet ∷ []

  -- with the packet, before it speaks
  abbrev held : EpochReplica
  held = record before { part = whole_part shard all }

  more : length all ≡ length packets + 1
  more = length-append packets (packet ∷ [])

  absent : packet_at (numbered 0 packets) (length packets + 1) ≡ None
  absent = held_at shard packets (length packets + 1) (length packets) refl ∙ beyond packets (length packets) (omega arith)

  holds_it : hold (whole_part shard packets) packet ≡ whole_part shard all
  unfolding hold hold_at
  holds_it =
      ap (λ number. hold_at (whole_part shard packets) number packet) named
      ∙ cond-false _ _ _ (ne_eqb (length packets + 1) 0 (λ e. omega (arith, e)))
      ∙ ap (λ (list : List (ℕ × Packet)). record (whole_part shard packets) { held = list }) (one_more_held 0 packets packet (length packets + 1) (omega arith))

  takes_it : txn_row me before packet ≡ quiet held
  unfolding txn_row txn_at holds_packet
  takes_it =
      ap (λ number. txn_named me before packet number) named
      ∙ cond-false _ _ _ (ap is_some absent)
      ∙ ap (λ (part : PartValue). quiet (record before { part = part })) holds_it

  stands : packet_at (numbered 0 all) (length packets + 0 + 1) ≡ Some packet
  stands = held_at shard all (length packets + 0 + 1) (length packets) (omega arith) ∙ last_of packets packet

  abbrev says : List EpochSend
  says = cond (is_learner me (record { 0 = 0 })) (replies_with me held packet (answer_after shard packets packet)) (vouch_for me held packet ∷ [])

  the_log : log_upto [] (whole_part shard all) ((length packets + 0 + 1) - 1) ≡ packets
  unfolding log_upto
  the_log = let same : (length packets + 0 + 1) - 1 ≡ length packets = omega arith in ap (λ n. open_upto (whole_part shard all) n) same ∙ log_before shard packets packet

  speaks_once : speaks_at me held (length packets + 0 + 1) ≡ says
  unfolding speaks_at speaks_for speaks_of
  speaks_once =
      cond-true _ _ _ (ap is_open (open_entry shard all (length packets + 0 + 1) (length packets) (omega arith) (omega (arith, more))))
      ∙ ap (λ found. speaks_of_held me held (length packets + 0 + 1) found) stands
      ∙ ap (λ log. cond (is_learner me (record { 0 = 0 })) (replies_with me held packet (answer_after shard log packet)) (vouch_for me held packet ∷ [])) the_log

  top : max (length packets) (length_of (whole_part shard all)) ≡ length all
  top = let long = whole_length shard all in omega (arith, long, more)

  new : length_of (whole_part shard all) - length packets ≡ 1
  new = let long = whole_length shard all in omega (arith, long, more)

  speaks_all : speaks_on me (quiet held) ≡ record { state = inner_after shard all; sends = says }
  unfolding speaks_on speaks_after
  speaks_all =
      ap (λ (n : ℕ). record { state = record held { spoken = n }; sends = [] ++ speaks_after me held (length packets) (length_of (whole_part shard all) - length packets) }) top
      ∙ ap (λ (n : ℕ). record { state = inner_after shard all; sends = speaks_after me held (length packets) n }) new
      ∙ ap (λ (sends : List EpochSend). record { state = inner_after shard all; sends = sends }) speaks_once

  no_gap_left : has_gap (whole_part shard all) ≡ false
  unfolding has_gap holds_from
  no_gap_left = none_above 0 all (length_of (whole_part shard all) + 1) (let long = whole_length shard all in omega (arith, long))

  steps_on : epoch_step me before (Get (Stamped packet)) ≡ record { state = inner_after shard all; sends = says }
  unfolding epoch_step tail asks_once
  steps_on =
      ap (λ out. tail me out) takes_it
      ∙ ap (λ out. asks_once me out) speaks_all
      ∙ cond-false _ _ _ (and_left _ _ no_gap_left)

  abbrev now : Identity
  now = record { config = config; shard = shard; replica = replica }

  -- A PACKET COMES in its order, in place and of epoch 0
  receives : packet.stamp.epoch ≡ record { 0 = 0 } → is_in_place_at_replica config (Message.Txn packet) ≡ true
      → replica_step now (state_after shard packets) (ReplicaInput.Message (Message.Txn packet)) ≡ record { state = state_after shard all; sends = outer_sends (record { 0 = 0 }) says }
  unfolding replica_step message_step takes takes_inner steps steps_in
  receives epoch_is in_place =
      cond-true _ _ _ in_place
      ∙ cond-true _ _ _ (ap (λ (e : Epoch). (e.0 == 0) && not (nat_lt 0 0)) epoch_is)
      ∙ ap (λ (out : EpochOut). record { state = record (state_after shard packets) { inner = out.state }; sends = outer_sends (record { 0 = 0 }) out.sends }) steps_on

  -- a replica that isn't the learner vouches for it, and the learner answers what the store does
  abbrev told : Message → ReplicaOut
  told message = record { state = state_after shard all; sends = record { to = Client packet.asker; message = message } ∷ [] }

  pub vouches : packet.stamp.epoch ≡ record { 0 = 0 } → is_in_place_at_replica config (Message.Txn packet) ≡ true → same_replica replica (learner_of (record { 0 = 0 }) config.f) ≡ false
      → replica_step now (state_after shard packets) (ReplicaInput.Message (Message.Txn packet)) ≡ told (Message.Vouch (record { 0 = 0 }) shard replica packet.stamp packet.id (phase_of packet.body))
  vouches epoch_is in_place other =
      receives epoch_is in_place
      ∙ ap (λ (sends : List EpochSend). record { state = state_after shard all; sends = outer_sends (record { 0 = 0 }) sends }) (cond-false _ _ _ other)

  pub replies : packet.stamp.epoch ≡ record { 0 = 0 } → is_in_place_at_replica config (Message.Txn packet) ≡ true → same_replica replica (learner_of (record { 0 = 0 }) config.f) ≡ true
      → (answer : Answer) → answer_after shard packets packet ≡ Some answer
      → replica_step now (state_after shard packets) (ReplicaInput.Message (Message.Txn packet)) ≡ told (Message.Reply (record { 0 = 0 }) shard replica packet.stamp packet.id (phase_of packet.body) answer)
  replies epoch_is in_place own answer given =
      receives epoch_is in_place
      ∙ ap (λ (sends : List EpochSend). record { state = state_after shard all; sends = outer_sends (record { 0 = 0 }) sends }) (cond-true _ _ _ own)
      ∙ ap (λ (found : Option Answer). record { state = state_after shard all; sends = outer_sends (record { 0 = 0 }) (replies_with me held packet found) }) given
