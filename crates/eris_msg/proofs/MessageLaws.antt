-- Messages are read as they are spelled, and nothing else is.
use Rattle.std.proofs.Common.{◌≡◌, ℕ, ◌==◌, true, List, ◌∷◌, Ok, lit<, refl, ap}
use Rattle.std.proofs.lemmas.Bool.{eqb-true}
use Rattle.eris_base.proofs.Booleans.{right_of}
use Rattle.eris_msg.specs.declared.message.Message.{Message}
use Rattle.eris_msg.specs.declared.message.Message.TheVariants as v
use Rattle.eris_codec.specs.Codecs.{Codec, tagged}
use Rattle.eris_codec.specs.Fields as f
use Rattle.eris_msg.specs.Messages as m
use Rattle.eris_codec.specs.Parts as p
use Rattle.eris_codec.proofs.BodyLaws.{is_body, is_packet, is_packets, is_answer}
use Rattle.eris_codec.proofs.FieldLaws.{is_byte, is_word, is_number, byte_single, checked_single, tag_fits, is_shard, is_replica, is_client, is_epoch, is_view, is_phase, is_id, is_place, is_stamp}
use Rattle.eris_codec.proofs.Laws.{IsBytes, IsCodec, Takes, is_checked, is_pair}
use Rattle.eris_codec.proofs.PartLaws.{is_places, is_part}
use Rattle.eris_codec.proofs.TagLaws.{pick, arm_takes, Tags, is_tagged}

is_ask : IsCodec m.ask
unfolding m.ask
is_ask = is_pair _ _ is_client (is_pair _ _ is_id is_body)

is_vouch : IsCodec m.vouch
unfolding m.vouch
is_vouch = is_pair _ _ is_view (is_pair _ _ is_shard (is_pair _ _ is_replica (is_pair _ _ is_stamp (is_pair _ _ is_id is_phase))))

is_reply : IsCodec m.reply
unfolding m.reply
is_reply = is_pair _ _ is_view (is_pair _ _ is_shard (is_pair _ _ is_replica (is_pair _ _ is_stamp (is_pair _ _ is_id (is_pair _ _ is_phase is_answer)))))

is_late : IsCodec m.late
unfolding m.late
is_late = is_pair _ _ is_shard (is_pair _ _ is_replica (is_pair _ _ is_id (is_pair _ _ is_phase is_answer)))

is_find : IsCodec m.find
unfolding m.find
is_find = is_pair _ _ is_replica is_place

is_temp_dropped : IsCodec m.temp_dropped
unfolding m.temp_dropped
is_temp_dropped = is_pair _ _ is_place (is_pair _ _ is_shard (is_pair _ _ is_replica is_view))

is_view_change : IsCodec m.view_change
unfolding m.view_change
is_view_change = is_pair _ _ is_replica (is_pair _ _ is_view is_part)

is_start_view : IsCodec m.start_view
unfolding m.start_view
is_start_view = is_pair _ _ is_view is_part

is_sync_ask : IsCodec m.sync_ask
unfolding m.sync_ask
is_sync_ask = is_pair _ _ is_epoch is_view

is_ack : IsCodec m.ack
unfolding m.ack
is_ack = is_pair _ _ is_replica (is_pair _ _ is_epoch (is_pair _ _ is_view is_word))

is_settled : IsCodec m.settled
unfolding m.settled
is_settled = is_pair _ _ is_epoch (is_pair _ _ is_view (is_pair _ _ is_number is_places))

is_new_epoch : IsCodec m.new_epoch
unfolding m.new_epoch
is_new_epoch = is_pair _ _ is_shard (is_pair _ _ is_replica is_epoch)

is_epoch_state : IsCodec m.epoch_state
unfolding m.epoch_state
is_epoch_state = is_pair _ _ is_replica (is_pair _ _ is_epoch is_part)

is_start_epoch : IsCodec m.start_epoch
unfolding m.start_epoch
is_start_epoch = is_pair _ _ is_epoch (is_pair _ _ is_shard is_packets)

abbrev behind_version : Codec Message
behind_version = tagged m.kind m.spell_kind m.kind_fits m.kind_behind

kind_takes : (t : ℕ) (bytes : List ℕ) (x : Message) (rest : List ℕ) → IsBytes bytes → m.kind_behind t bytes ≡ Ok (x, rest) → Takes behind_version (t ∷ bytes) x rest
unfolding m.kind_behind m.spell_kind m.kind_fits
kind_takes t bytes x rest fine e =
    let G : ℕ → Type 0 = λ n. Takes behind_version (n ∷ bytes) x rest in
    pick t 1 _ _ (x, rest) G (arm_takes m.ask behind_version (λ p. v.Ask p.0 p.1.0 p.1.1) 1 is_ask (λ a. refl) (λ a. refl) bytes x rest fine)
    (pick t 2 _ _ (x, rest) G (arm_takes f.packet behind_version v.Txn 2 is_packet (λ a. refl) (λ a. refl) bytes x rest fine)
    (pick t 3 _ _ (x, rest) G (arm_takes m.vouch behind_version (λ p. v.Vouch p.0 p.1.0 p.1.1.0 p.1.1.1.0 p.1.1.1.1.0 p.1.1.1.1.1) 3 is_vouch (λ a. refl) (λ a. refl) bytes x rest fine)
    (pick t 4 _ _ (x, rest) G (arm_takes m.reply behind_version (λ p. v.Reply p.0 p.1.0 p.1.1.0 p.1.1.1.0 p.1.1.1.1.0 p.1.1.1.1.1.0 p.1.1.1.1.1.1) 4 is_reply (λ a. refl) (λ a. refl) bytes x rest fine)
    (pick t 5 _ _ (x, rest) G (arm_takes m.late behind_version (λ p. v.Late p.0 p.1.0 p.1.1.0 p.1.1.1.0 p.1.1.1.1) 5 is_late (λ a. refl) (λ a. refl) bytes x rest fine)
    (pick t 6 _ _ (x, rest) G (arm_takes m.find behind_version (λ p. v.Find p.0 p.1) 6 is_find (λ a. refl) (λ a. refl) bytes x rest fine)
    (pick t 7 _ _ (x, rest) G (arm_takes f.place behind_version v.Request 7 is_place (λ a. refl) (λ a. refl) bytes x rest fine)
    (pick t 8 _ _ (x, rest) G (arm_takes f.packet behind_version v.Has 8 is_packet (λ a. refl) (λ a. refl) bytes x rest fine)
    (pick t 9 _ _ (x, rest) G (arm_takes m.temp_dropped behind_version (λ p. v.TempDropped p.0 p.1.0 p.1.1.0 p.1.1.1) 9 is_temp_dropped (λ a. refl) (λ a. refl) bytes x rest fine)
    (pick t 10 _ _ (x, rest) G (arm_takes f.packet behind_version v.Found 10 is_packet (λ a. refl) (λ a. refl) bytes x rest fine)
    (pick t 11 _ _ (x, rest) G (arm_takes f.place behind_version v.Dropped 11 is_place (λ a. refl) (λ a. refl) bytes x rest fine)
    (pick t 12 _ _ (x, rest) G (arm_takes m.view_change behind_version (λ p. v.ViewChange p.0 p.1.0 p.1.1) 12 is_view_change (λ a. refl) (λ a. refl) bytes x rest fine)
    (pick t 13 _ _ (x, rest) G (arm_takes m.start_view behind_version (λ p. v.StartView p.0 p.1) 13 is_start_view (λ a. refl) (λ a. refl) bytes x rest fine)
    (pick t 14 _ _ (x, rest) G (arm_takes m.sync_ask behind_version (λ p. v.SyncAsk p.0 p.1) 14 is_sync_ask (λ a. refl) (λ a. refl) bytes x rest fine)
    (pick t 15 _ _ (x, rest) G (arm_takes m.ack behind_version (λ p. v.Ack p.0 p.1.0 p.1.1.0 p.1.1.1) 15 is_ack (λ a. refl) (λ a. refl) bytes x rest fine)
    (pick t 16 _ _ (x, rest) G (arm_takes m.settled behind_version (λ p. v.Settled p.0 p.1.0 p.1.1.0 p.1.1.1) 16 is_settled (λ a. refl) (λ a. refl) bytes x rest fine)
    (pick t 17 _ _ (x, rest) G (arm_takes m.new_epoch behind_version (λ p. v.NewEpoch p.0 p.1.0 p.1.1) 17 is_new_epoch (λ a. refl) (λ a. refl) bytes x rest fine)
    (pick t 18 _ _ (x, rest) G (arm_takes f.epoch behind_version v.EpochAsk 18 is_epoch (λ a. refl) (λ a. refl) bytes x rest fine)
    (pick t 19 _ _ (x, rest) G (arm_takes m.epoch_state behind_version (λ p. v.EpochState p.0 p.1.0 p.1.1) 19 is_epoch_state (λ a. refl) (λ a. refl) bytes x rest fine)
    (pick t 20 _ _ (x, rest) G (arm_takes m.start_epoch behind_version (λ p. v.StartEpoch p.0 p.1.0 p.1.1) 20 is_start_epoch (λ a. refl) (λ a. refl) bytes x rest fine)
    (λ wrong. absurd cc)))))))))))))))))))) e

kind_tags : (x : Message) → m.kind_fits x ≡ true → Tags m.kind behind_version m.kind_behind x
unfolding m.kind_behind m.spell_kind m.kind_fits
kind_tags (v.Ask a i b) fine = record { t = 1; payload = m.ask.spell (a, (i, b)); spelled = refl; single = byte_single 1 (lit< tt); fits = rw (tag_fits 1 refl) refl; read = λ rest. rw (is_ask.again (a, (i, b)) rest fine) refl }
kind_tags (v.Txn k) fine = record { t = 2; payload = f.packet.spell k; spelled = refl; single = byte_single 2 (lit< tt); fits = rw (tag_fits 2 refl) refl; read = λ rest. rw (is_packet.again k rest fine) refl }
kind_tags (v.Vouch v s r t i h) fine = record { t = 3; payload = m.vouch.spell (v, (s, (r, (t, (i, h))))); spelled = refl; single = byte_single 3 (lit< tt); fits = rw (tag_fits 3 refl) refl; read = λ rest. rw (is_vouch.again (v, (s, (r, (t, (i, h))))) rest fine) refl }
kind_tags (v.Reply v s r t i h w) fine = record { t = 4; payload = m.reply.spell (v, (s, (r, (t, (i, (h, w)))))); spelled = refl; single = byte_single 4 (lit< tt); fits = rw (tag_fits 4 refl) refl; read = λ rest. rw (is_reply.again (v, (s, (r, (t, (i, (h, w)))))) rest fine) refl }
kind_tags (v.Late s r i h w) fine = record { t = 5; payload = m.late.spell (s, (r, (i, (h, w)))); spelled = refl; single = byte_single 5 (lit< tt); fits = rw (tag_fits 5 refl) refl; read = λ rest. rw (is_late.again (s, (r, (i, (h, w)))) rest fine) refl }
kind_tags (v.Find r p) fine = record { t = 6; payload = m.find.spell (r, p); spelled = refl; single = byte_single 6 (lit< tt); fits = rw (tag_fits 6 refl) refl; read = λ rest. rw (is_find.again (r, p) rest fine) refl }
kind_tags (v.Request p) fine = record { t = 7; payload = f.place.spell p; spelled = refl; single = byte_single 7 (lit< tt); fits = rw (tag_fits 7 refl) refl; read = λ rest. rw (is_place.again p rest fine) refl }
kind_tags (v.Has k) fine = record { t = 8; payload = f.packet.spell k; spelled = refl; single = byte_single 8 (lit< tt); fits = rw (tag_fits 8 refl) refl; read = λ rest. rw (is_packet.again k rest fine) refl }
kind_tags (v.TempDropped p s r v) fine = record { t = 9; payload = m.temp_dropped.spell (p, (s, (r, v))); spelled = refl; single = byte_single 9 (lit< tt); fits = rw (tag_fits 9 refl) refl; read = λ rest. rw (is_temp_dropped.again (p, (s, (r, v))) rest fine) refl }
kind_tags (v.Found k) fine = record { t = 10; payload = f.packet.spell k; spelled = refl; single = byte_single 10 (lit< tt); fits = rw (tag_fits 10 refl) refl; read = λ rest. rw (is_packet.again k rest fine) refl }
kind_tags (v.Dropped p) fine = record { t = 11; payload = f.place.spell p; spelled = refl; single = byte_single 11 (lit< tt); fits = rw (tag_fits 11 refl) refl; read = λ rest. rw (is_place.again p rest fine) refl }
kind_tags (v.ViewChange r v x) fine = record { t = 12; payload = m.view_change.spell (r, (v, x)); spelled = refl; single = byte_single 12 (lit< tt); fits = rw (tag_fits 12 refl) refl; read = λ rest. rw (is_view_change.again (r, (v, x)) rest fine) refl }
kind_tags (v.StartView v x) fine = record { t = 13; payload = m.start_view.spell (v, x); spelled = refl; single = byte_single 13 (lit< tt); fits = rw (tag_fits 13 refl) refl; read = λ rest. rw (is_start_view.again (v, x) rest fine) refl }
kind_tags (v.SyncAsk e v) fine = record { t = 14; payload = m.sync_ask.spell (e, v); spelled = refl; single = byte_single 14 (lit< tt); fits = rw (tag_fits 14 refl) refl; read = λ rest. rw (is_sync_ask.again (e, v) rest fine) refl }
kind_tags (v.Ack r e v n) fine = record { t = 15; payload = m.ack.spell (r, (e, (v, n))); spelled = refl; single = byte_single 15 (lit< tt); fits = rw (tag_fits 15 refl) refl; read = λ rest. rw (is_ack.again (r, (e, (v, n))) rest fine) refl }
kind_tags (v.Settled e v n l) fine = record { t = 16; payload = m.settled.spell (e, (v, (n, l))); spelled = refl; single = byte_single 16 (lit< tt); fits = rw (tag_fits 16 refl) refl; read = λ rest. rw (is_settled.again (e, (v, (n, l))) rest fine) refl }
kind_tags (v.NewEpoch s r e) fine = record { t = 17; payload = m.new_epoch.spell (s, (r, e)); spelled = refl; single = byte_single 17 (lit< tt); fits = rw (tag_fits 17 refl) refl; read = λ rest. rw (is_new_epoch.again (s, (r, e)) rest fine) refl }
kind_tags (v.EpochAsk e) fine = record { t = 18; payload = f.epoch.spell e; spelled = refl; single = byte_single 18 (lit< tt); fits = rw (tag_fits 18 refl) refl; read = λ rest. rw (is_epoch.again e rest fine) refl }
kind_tags (v.EpochState r e x) fine = record { t = 19; payload = m.epoch_state.spell (r, (e, x)); spelled = refl; single = byte_single 19 (lit< tt); fits = rw (tag_fits 19 refl) refl; read = λ rest. rw (is_epoch_state.again (r, (e, x)) rest fine) refl }
kind_tags (v.StartEpoch e s l) fine = record { t = 20; payload = m.start_epoch.spell (e, (s, l)); spelled = refl; single = byte_single 20 (lit< tt); fits = rw (tag_fits 20 refl) refl; read = λ rest. rw (is_start_epoch.again (e, (s, l)) rest fine) refl }

is_kind : IsCodec behind_version
is_kind = is_tagged m.kind m.spell_kind m.kind_fits m.kind_behind (is_checked _ _ f.byte is_byte) (checked_single _) (λ t bytes x rest ok. kind_takes t bytes x rest) kind_tags

version_takes : (t : ℕ) (bytes : List ℕ) (x : Message) (rest : List ℕ) → m.version.fits t ≡ true → IsBytes bytes → behind_version.read bytes ≡ Ok (x, rest) → Takes m.message (t ∷ bytes) x rest
unfolding m.message
version_takes t bytes x rest one fine e =
    let same : t ≡ 2 = eqb-true t 2 (right_of (f.byte.fits t) (t == 2) one) in
    let u = is_kind.takes bytes x rest fine e in
    record { parts = rw same (ap (λ (z : List ℕ). 2 ∷ z) u.parts); fits = u.fits }

pub is_message : IsCodec m.message
unfolding m.message
is_message = is_tagged m.version (λ x. 2 ∷ m.spell_kind x) m.kind_fits (λ _. behind_version.read) (is_checked _ _ f.byte is_byte) (checked_single _) version_takes
    (λ x fine. record { t = 2; payload = m.spell_kind x; spelled = refl; single = byte_single 2 (lit< tt); fits = rw (tag_fits 2 refl) refl; read = λ rest. is_kind.again x rest fine })
