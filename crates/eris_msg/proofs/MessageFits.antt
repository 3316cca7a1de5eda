-- Whether a message fits is whether each of its fields does.
use Rattle.std.proofs.Common.{◌≡◌, ℕ, ◌&&◌, List, refl}
use Rattle.eris_base.specs.declared.ids.ClientId.{ClientId}
use Rattle.eris_base.specs.declared.ids.Epoch.{Epoch}
use Rattle.eris_base.specs.declared.ids.Phase.{Phase}
use Rattle.eris_base.specs.declared.ids.Place.{Place}
use Rattle.eris_base.specs.declared.ids.ReplicaId.{ReplicaId}
use Rattle.eris_base.specs.declared.ids.ShardId.{ShardId}
use Rattle.eris_base.specs.declared.ids.TxnId.{TxnId}
use Rattle.eris_base.specs.declared.ids.View.{View}
use Rattle.eris_base.specs.Stamps.{StampValue}
use Rattle.eris_txn.specs.declared.answer.Answer.{Answer}
use Rattle.eris_txn.specs.declared.body.Body.{Body}
use Rattle.eris_txn.specs.declared.packet.Packet.{Packet}
use Rattle.eris_log.specs.PartValues.{PartValue}
use Rattle.eris_msg.specs.declared.message.Message.TheVariants as kinds
use Rattle.eris_codec.specs.Fields as f
use Rattle.eris_msg.specs.Messages as m
use Rattle.eris_codec.specs.Parts as p
use Rattle.eris_msg.specs.Spellings.{message_fits}

pub ask_fits : (a : ClientId) (i : TxnId) (b : Body) → message_fits (kinds.Ask a i b) ≡ (f.client.fits a && (f.id.fits i && f.body.fits b))
unfolding m.message m.kind_fits m.ask
ask_fits a i b = refl

pub txn_fits : (k : Packet) → message_fits (kinds.Txn k) ≡ f.packet.fits k
unfolding m.message m.kind_fits
txn_fits k = refl

pub vouch_fits : (v : View) (s : ShardId) (r : ReplicaId) (t : StampValue) (i : TxnId) (h : Phase) → message_fits (kinds.Vouch v s r t i h) ≡ (f.view.fits v && (f.shard.fits s && (f.replica.fits r && (f.stamp.fits t && (f.id.fits i && f.phase.fits h)))))
unfolding m.message m.kind_fits m.vouch
vouch_fits v s r t i h = refl

pub reply_fits : (v : View) (s : ShardId) (r : ReplicaId) (t : StampValue) (i : TxnId) (h : Phase) (w : Answer) → message_fits (kinds.Reply v s r t i h w) ≡ (f.view.fits v && (f.shard.fits s && (f.replica.fits r && (f.stamp.fits t && (f.id.fits i && (f.phase.fits h && f.answer.fits w))))))
unfolding m.message m.kind_fits m.reply
reply_fits v s r t i h w = refl

pub late_fits : (s : ShardId) (r : ReplicaId) (i : TxnId) (h : Phase) (w : Answer) → message_fits (kinds.Late s r i h w) ≡ (f.shard.fits s && (f.replica.fits r && (f.id.fits i && (f.phase.fits h && f.answer.fits w))))
unfolding m.message m.kind_fits m.late
late_fits s r i h w = refl

pub find_fits : (r : ReplicaId) (q : Place) → message_fits (kinds.Find r q) ≡ (f.replica.fits r && f.place.fits q)
unfolding m.message m.kind_fits m.find
find_fits r q = refl

pub request_fits : (q : Place) → message_fits (kinds.Request q) ≡ f.place.fits q
unfolding m.message m.kind_fits
request_fits q = refl

pub has_fits : (k : Packet) → message_fits (kinds.Has k) ≡ f.packet.fits k
unfolding m.message m.kind_fits
has_fits k = refl

pub temp_dropped_fits : (q : Place) (s : ShardId) (r : ReplicaId) (v : View) → message_fits (kinds.TempDropped q s r v) ≡ (f.place.fits q && (f.shard.fits s && (f.replica.fits r && f.view.fits v)))
unfolding m.message m.kind_fits m.temp_dropped
temp_dropped_fits q s r v = refl

pub found_fits : (k : Packet) → message_fits (kinds.Found k) ≡ f.packet.fits k
unfolding m.message m.kind_fits
found_fits k = refl

pub dropped_fits : (q : Place) → message_fits (kinds.Dropped q) ≡ f.place.fits q
unfolding m.message m.kind_fits
dropped_fits q = refl

pub view_change_fits : (r : ReplicaId) (v : View) (x : PartValue) → message_fits (kinds.ViewChange r v x) ≡ (f.replica.fits r && (f.view.fits v && p.part.fits x))
unfolding m.message m.kind_fits m.view_change
view_change_fits r v x = refl

pub start_view_fits : (v : View) (x : PartValue) → message_fits (kinds.StartView v x) ≡ (f.view.fits v && p.part.fits x)
unfolding m.message m.kind_fits m.start_view
start_view_fits v x = refl

pub sync_ask_fits : (e : Epoch) (v : View) → message_fits (kinds.SyncAsk e v) ≡ (f.epoch.fits e && f.view.fits v)
unfolding m.message m.kind_fits m.sync_ask
sync_ask_fits e v = refl

pub ack_fits : (r : ReplicaId) (e : Epoch) (v : View) (n : ℕ) → message_fits (kinds.Ack r e v n) ≡ (f.replica.fits r && (f.epoch.fits e && (f.view.fits v && f.word.fits n)))
unfolding m.message m.kind_fits m.ack
ack_fits r e v n = refl

pub settled_fits : (e : Epoch) (v : View) (n : ℕ) (l : List (ShardId × ℕ)) → message_fits (kinds.Settled e v n l) ≡ (f.epoch.fits e && (f.view.fits v && (f.number.fits n && p.places.fits l)))
unfolding m.message m.kind_fits m.settled
settled_fits e v n l = refl

pub new_epoch_fits : (s : ShardId) (r : ReplicaId) (e : Epoch) → message_fits (kinds.NewEpoch s r e) ≡ (f.shard.fits s && (f.replica.fits r && f.epoch.fits e))
unfolding m.message m.kind_fits m.new_epoch
new_epoch_fits s r e = refl

pub epoch_ask_fits : (e : Epoch) → message_fits (kinds.EpochAsk e) ≡ f.epoch.fits e
unfolding m.message m.kind_fits
epoch_ask_fits e = refl

pub epoch_state_fits : (r : ReplicaId) (e : Epoch) (x : PartValue) → message_fits (kinds.EpochState r e x) ≡ (f.replica.fits r && (f.epoch.fits e && p.part.fits x))
unfolding m.message m.kind_fits m.epoch_state
epoch_state_fits r e x = refl

pub start_epoch_fits : (e : Epoch) (s : ShardId) (l : List Packet) → message_fits (kinds.StartEpoch e s l) ≡ (f.epoch.fits e && (f.shard.fits s && f.packets.fits l))
unfolding m.message m.kind_fits m.start_epoch
start_epoch_fits e s l = refl
