-- The messages: a version, a kind, and the kind's fields in order, with nothing between and nothing after.
use Rattle.std.specs.Prelude.{ℕ, Bool, ◌&&◌, ◌==◌, nat_le, List, ◌∷◌, if◌then◌else◌}
use Rattle.eris_base.specs.declared.ids.ClientId.{ClientId}
use Rattle.eris_base.specs.declared.ids.Epoch.{Epoch}
use Rattle.eris_base.specs.declared.ids.Phase.{Phase}
use Rattle.eris_base.specs.declared.ids.Place.{Place}
use Rattle.eris_base.specs.declared.ids.ReplicaId.{ReplicaId}
use Rattle.eris_base.specs.declared.ids.ShardId.{ShardId}
use Rattle.eris_base.specs.declared.ids.TxnId.{TxnId}
use Rattle.eris_base.specs.declared.ids.View.{View}
use Rattle.eris_base.specs.Stamps.{StampValue}
use Rattle.eris_txn.specs.declared.answer.Answer.{Answer}
use Rattle.eris_txn.specs.declared.body.Body.{Body}
use Rattle.eris_txn.specs.declared.packet.Packet.{Packet}
use Rattle.eris_log.specs.PartValues.{PartValue}
use Rattle.eris_codec.specs.declared.fault.DecodeReason.TheVariants.{Kind}
use Rattle.eris_msg.specs.declared.message.Message.{Message}
use Rattle.eris_msg.specs.declared.message.Message.TheVariants as m
use Rattle.eris_codec.specs.Codecs.{Codec, Read, bad, checked, ◌⊗◌, tagged, arm}
use Rattle.eris_codec.specs.Fields.{byte, word, number, shard, replica, client, epoch, view, phase, id, place, stamp, body, packet, packets, answer}
use Rattle.eris_codec.specs.Parts.{places, part}

-- ---- the fields of each kind that has more than one
unfoldable pub ask : Codec (ClientId × (TxnId × Body))
ask = client ⊗ id ⊗ body

unfoldable pub vouch : Codec (View × (ShardId × (ReplicaId × (StampValue × (TxnId × Phase)))))
vouch = view ⊗ shard ⊗ replica ⊗ stamp ⊗ id ⊗ phase

unfoldable pub reply : Codec (View × (ShardId × (ReplicaId × (StampValue × (TxnId × (Phase × Answer))))))
reply = view ⊗ shard ⊗ replica ⊗ stamp ⊗ id ⊗ phase ⊗ answer

unfoldable pub late : Codec (ShardId × (ReplicaId × (TxnId × (Phase × Answer))))
late = shard ⊗ replica ⊗ id ⊗ phase ⊗ answer

unfoldable pub find : Codec (ReplicaId × Place)
find = replica ⊗ place

unfoldable pub temp_dropped : Codec (Place × (ShardId × (ReplicaId × View)))
temp_dropped = place ⊗ shard ⊗ replica ⊗ view

unfoldable pub view_change : Codec (ReplicaId × (View × PartValue))
view_change = replica ⊗ view ⊗ part

unfoldable pub start_view : Codec (View × PartValue)
start_view = view ⊗ part

unfoldable pub sync_ask : Codec (Epoch × View)
sync_ask = epoch ⊗ view

unfoldable pub ack : Codec (ReplicaId × (Epoch × (View × ℕ)))
ack = replica ⊗ epoch ⊗ view ⊗ word

unfoldable pub settled : Codec (Epoch × (View × (ℕ × List (ShardId × ℕ))))
settled = epoch ⊗ view ⊗ number ⊗ places

unfoldable pub new_epoch : Codec (ShardId × (ReplicaId × Epoch))
new_epoch = shard ⊗ replica ⊗ epoch

unfoldable pub epoch_state : Codec (ReplicaId × (Epoch × PartValue))
epoch_state = replica ⊗ epoch ⊗ part

unfoldable pub start_epoch : Codec (Epoch × (ShardId × List Packet))
start_epoch = epoch ⊗ shard ⊗ packets

-- ---- a kind, and its fields
unfoldable pub spell_kind : Message → List ℕ
spell_kind (m.Ask a i b) = 1 ∷ ask.spell (a, (i, b))
spell_kind (m.Txn k) = 2 ∷ packet.spell k
spell_kind (m.Vouch v s r t i h) = 3 ∷ vouch.spell (v, (s, (r, (t, (i, h)))))
spell_kind (m.Reply v s r t i h w) = 4 ∷ reply.spell (v, (s, (r, (t, (i, (h, w))))))
spell_kind (m.Late s r i h w) = 5 ∷ late.spell (s, (r, (i, (h, w))))
spell_kind (m.Find r p) = 6 ∷ find.spell (r, p)
spell_kind (m.Request p) = 7 ∷ place.spell p
spell_kind (m.Has k) = 8 ∷ packet.spell k
spell_kind (m.TempDropped p s r v) = 9 ∷ temp_dropped.spell (p, (s, (r, v)))
spell_kind (m.Found k) = 10 ∷ packet.spell k
spell_kind (m.Dropped p) = 11 ∷ place.spell p
spell_kind (m.ViewChange r v x) = 12 ∷ view_change.spell (r, (v, x))
spell_kind (m.StartView v x) = 13 ∷ start_view.spell (v, x)
spell_kind (m.SyncAsk e v) = 14 ∷ sync_ask.spell (e, v)
spell_kind (m.Ack r e v n) = 15 ∷ ack.spell (r, (e, (v, n)))
spell_kind (m.Settled e v n l) = 16 ∷ settled.spell (e, (v, (n, l)))
spell_kind (m.NewEpoch s r e) = 17 ∷ new_epoch.spell (s, (r, e))
spell_kind (m.EpochAsk e) = 18 ∷ epoch.spell e
spell_kind (m.EpochState r e x) = 19 ∷ epoch_state.spell (r, (e, x))
spell_kind (m.StartEpoch e s l) = 20 ∷ start_epoch.spell (e, (s, l))

-- whether the fields are in their ranges
unfoldable pub kind_fits : Message → Bool
kind_fits (m.Ask a i b) = ask.fits (a, (i, b))
kind_fits (m.Txn k) = packet.fits k
kind_fits (m.Vouch v s r t i h) = vouch.fits (v, (s, (r, (t, (i, h)))))
kind_fits (m.Reply v s r t i h w) = reply.fits (v, (s, (r, (t, (i, (h, w))))))
kind_fits (m.Late s r i h w) = late.fits (s, (r, (i, (h, w))))
kind_fits (m.Find r p) = find.fits (r, p)
kind_fits (m.Request p) = place.fits p
kind_fits (m.Has k) = packet.fits k
kind_fits (m.TempDropped p s r v) = temp_dropped.fits (p, (s, (r, v)))
kind_fits (m.Found k) = packet.fits k
kind_fits (m.Dropped p) = place.fits p
kind_fits (m.ViewChange r v x) = view_change.fits (r, (v, x))
kind_fits (m.StartView v x) = start_view.fits (v, x)
kind_fits (m.SyncAsk e v) = sync_ask.fits (e, v)
kind_fits (m.Ack r e v n) = ack.fits (r, (e, (v, n)))
kind_fits (m.Settled e v n l) = settled.fits (e, (v, (n, l)))
kind_fits (m.NewEpoch s r e) = new_epoch.fits (s, (r, e))
kind_fits (m.EpochAsk e) = epoch.fits e
kind_fits (m.EpochState r e x) = epoch_state.fits (r, (e, x))
kind_fits (m.StartEpoch e s l) = start_epoch.fits (e, (s, l))

unfoldable pub kind_behind : ℕ → List ℕ → Read Message
kind_behind t bytes =
    if t == 1 then arm (λ p. m.Ask p.0 p.1.0 p.1.1) ask bytes
    else if t == 2 then arm m.Txn packet bytes
    else if t == 3 then arm (λ p. m.Vouch p.0 p.1.0 p.1.1.0 p.1.1.1.0 p.1.1.1.1.0 p.1.1.1.1.1) vouch bytes
    else if t == 4 then arm (λ p. m.Reply p.0 p.1.0 p.1.1.0 p.1.1.1.0 p.1.1.1.1.0 p.1.1.1.1.1.0 p.1.1.1.1.1.1) reply bytes
    else if t == 5 then arm (λ p. m.Late p.0 p.1.0 p.1.1.0 p.1.1.1.0 p.1.1.1.1) late bytes
    else if t == 6 then arm (λ p. m.Find p.0 p.1) find bytes
    else if t == 7 then arm m.Request place bytes
    else if t == 8 then arm m.Has packet bytes
    else if t == 9 then arm (λ p. m.TempDropped p.0 p.1.0 p.1.1.0 p.1.1.1) temp_dropped bytes
    else if t == 10 then arm m.Found packet bytes
    else if t == 11 then arm m.Dropped place bytes
    else if t == 12 then arm (λ p. m.ViewChange p.0 p.1.0 p.1.1) view_change bytes
    else if t == 13 then arm (λ p. m.StartView p.0 p.1) start_view bytes
    else if t == 14 then arm (λ p. m.SyncAsk p.0 p.1) sync_ask bytes
    else if t == 15 then arm (λ p. m.Ack p.0 p.1.0 p.1.1.0 p.1.1.1) ack bytes
    else if t == 16 then arm (λ p. m.Settled p.0 p.1.0 p.1.1.0 p.1.1.1) settled bytes
    else if t == 17 then arm (λ p. m.NewEpoch p.0 p.1.0 p.1.1) new_epoch bytes
    else if t == 18 then arm m.EpochAsk epoch bytes
    else if t == 19 then arm (λ p. m.EpochState p.0 p.1.0 p.1.1) epoch_state bytes
    else if t == 20 then arm (λ p. m.StartEpoch p.0 p.1.0 p.1.1) start_epoch bytes
    else bad 0 Kind

abbrev pub kind : Codec ℕ
kind = checked (λ n. nat_le 1 n && nat_le n 20) Kind byte

abbrev pub version : Codec ℕ
version = checked (λ n. n == 2) Kind byte

unfoldable pub message : Codec Message
message = tagged version (λ x. 2 ∷ spell_kind x) kind_fits (λ _. (tagged kind spell_kind kind_fits kind_behind).read)
