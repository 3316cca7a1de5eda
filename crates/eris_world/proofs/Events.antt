-- What is known of an event that isn't refused and whose fields are in the ranges of a script's lines. Used where events
-- happen.
use Rattle.std.proofs.Common.{◌≡◌, ◌<◌, ◌-◌, ◌==◌, ◌||◌, ◌&&◌, ◌⊎◌, ℕ, zero, suc, Bool, true, false, cond, not, length, map, nat_lt, List, [], ◌∷◌, Option, Some, None, refl, ap, subst, inl, inr}
use Rattle.std.specs.Prelude.{Result, Ok, Err, is_ok, slice_get}
use Rattle.std.specs.Option.{option_or}
use Rattle.std.specs.List.{list_all}
use Rattle.std.proofs.lemmas.Bool.{and_parts}
use Rattle.std.proofs.lemmas.Option.{slice_get_within}
use Rattle.eris_base.specs.declared.ids.ClientId.{ClientId}
use Rattle.eris_base.specs.declared.ids.Epoch.{Epoch}
use Rattle.eris_base.specs.declared.ids.Node.{Node}
use Rattle.eris_base.specs.declared.ids.TxnId.{TxnId}
use Rattle.eris_base.specs.ConfigLimits.{ConfigValue}
use Rattle.eris_base.specs.Each.{Each}
use Rattle.eris_txn.specs.declared.op.Op.{Op}
use Rattle.eris_txn.specs.declared.txn.Txn.TheVariants as txns
use Rattle.eris_txn.specs.Operations.{key_of}
use Rattle.eris_txn.specs.PlanValues.{PlanValue}
use Rattle.eris_codec.specs.declared.fault.DecodeFault.TheVariants as faults
use Rattle.eris_codec.specs.declared.fault.Wrong.{Wrong}
use Rattle.eris_msg.specs.declared.message.Message.{Message}
use Rattle.eris_msg.specs.declared.outgoing.Outgoing.{Outgoing}
use Rattle.eris_codec.specs.Codecs.{whole}
use Rattle.eris_msg.specs.Messages.{message}
use Rattle.eris_msg.specs.Spellings.{IsSpelling}
use Rattle.eris_msg.proofs.Decodes.{is_only}
use Rattle.eris_client.specs.ClientRanges.{TxnFits}
use Rattle.eris_law_event_range.proofs.EventRanges.{ops_are_in_range, plan_is_in_range}
use Rattle.eris_nodes.specs.declared.act.Act.{Act}
use Rattle.eris_nodes.specs.Allowed.{CanActAt}
use Rattle.eris_event.specs.declared.refusal.Refusal.{Refusal}
use Rattle.eris_event.specs.declared.refusal.Refusal.TheVariants as refusals
use Rattle.eris_rules.specs.ClientStates.{ClientState}
use Rattle.eris_rules.specs.Happenings.{submitted_at}
use Rattle.eris_rules.specs.Known.{knows_client, knows_keys}
use Rattle.eris_rules.specs.Refusals.{abort_cause, cause, deliver_cause, general_cause, is_message, node_cause, noise_cause}
use Rattle.eris_rules.specs.Worlds.{WorldState, client_at}
use Rattle.eris_event.specs.declared.event.Event.{Event}
use Rattle.eris_event.specs.EventRanges.{fits_event}
use Rattle.eris_world.specs.WorldValues.{EventFits, HasRoom}

either : (a b : Bool) → (a || b) ≡ true → (a ≡ true) ⊎ (b ≡ true)
either true b h = inl refl
either false b h = inr h

submit_fits : (client : ClientId) (ops : List Op) → EventFits (Event.Submit client ops) → TxnFits (txns.Whole ops)
submit_fits client ops h =
    elim (either (fits_event 1 (Event.Submit client ops)) (fits_event 2 (Event.Submit client ops)) h) [
      | inl one ↦ ops_are_in_range 1 ops (and_parts _ _ one).1
      | inr two ↦ ops_are_in_range 2 ops (and_parts _ _ two).1
    ]

general_fits : (client : ClientId) (plan : PlanValue) → EventFits (Event.General client plan) → TxnFits (txns.General plan)
general_fits client plan h =
    elim (either (fits_event 1 (Event.General client plan)) (fits_event 2 (Event.General client plan)) h) [
      | inl one ↦ plan_is_in_range 1 plan (and_parts _ _ one).1
      | inr two ↦ plan_is_in_range 2 plan (and_parts _ _ two).1
    ]

room_in : (clients : List ClientState) (i : ℕ) (state : ClientState) → Each HasRoom clients → slice_get clients i ≡ Some state → HasRoom state
room_in [] i state h e = absurd cc
room_in (first ∷ clients) zero state h e = let same : first ≡ state = cc in subst HasRoom same h.0
room_in (first ∷ clients) (suc i) state h e = room_in clients i state h.1 e

room_at : (clients : List ClientState) (client : ClientId) (state : ClientState) → Each HasRoom clients → client_at clients client ≡ Some state → HasRoom state
unfolding client_at
room_at clients client state h e = room_in clients client.0 state h e

pub submit_can : (config : ConfigValue) (clients : List ClientState) (client : ClientId) (ops : List Op) → Each HasRoom clients → EventFits (Event.Submit client ops)
    → CanActAt config clients client (Act.Submit (txns.Whole ops))
submit_can config clients client ops room fits state found = record { room = room_at clients client state room found; ranges = submit_fits client ops fits }

pub general_can : (config : ConfigValue) (clients : List ClientState) (client : ClientId) (plan : PlanValue) → Each HasRoom clients → EventFits (Event.General client plan)
    → CanActAt config clients client (Act.Submit (txns.General plan))
general_can config clients client plan room fits state found = record { room = room_at clients client state room found; ranges = general_fits client plan fits }

-- ---- what isn't refused
not_own : (a b : Bool) (rest : Option Refusal) → cond a (Some refusals.NoSuchClient) (cond b (Some refusals.OwnTxn) rest) ≡ None → b ≡ false
not_own true b rest h = absurd cc
not_own false true rest h = absurd cc
not_own false false rest h = refl

pub aborts_another : (config : ConfigValue) (world : WorldState) (asker : ClientId) (id : TxnId) → cause config world (Event.Abort asker id) ≡ None → (asker.0 == id.client.0) ≡ false
unfolding cause abort_cause
aborts_another config world asker id h =
    not_own (not (knows_client config asker && knows_client config id.client)) (asker.0 == id.client.0) (general_cause (submitted_at world id)) h

sent_by : (world : WorldState) (number : ℕ) (epoch : Option Epoch) (o : Option Outgoing) → slice_get world.sent number ≡ o → deliver_cause world epoch o ≡ None → number < length world.sent
sent_by world number epoch None e h = absurd cc
sent_by world number epoch (Some one) e h = slice_get_within world.sent number one e

pub was_sent : (config : ConfigValue) (world : WorldState) (number : ℕ) (epoch : Option Epoch) → cause config world (Event.Deliver number epoch) ≡ None → number < length world.sent
unfolding cause
was_sent config world number epoch h = sent_by world number epoch (slice_get world.sent number) refl h

pub ops_known : (config : ConfigValue) (ops : List Op) → list_all (λ op. nat_lt (key_of op).shard.0 config.shards) ops ≡ knows_keys config (map key_of ops)
unfolding knows_keys
ops_known config [] = refl
ops_known config (op ∷ ops) = ap (λ z. nat_lt (key_of op).shard.0 config.shards && z) (ops_known config ops)

-- ---- noise
pub second_none : (one other : Option Refusal) → option_or one other ≡ None → other ≡ None
second_none None other h = h
second_none (Some told) other h = absurd cc

not_spelled : (one : Message) (bytes : List ℕ) (read : Result Message Wrong) → whole message bytes ≡ read → cond (is_ok read) (Some refusals.IsMessage) None ≡ None → IsSpelling one bytes → ⊥
not_spelled one bytes (Ok other) e h spelled = absurd cc
not_spelled one bytes (Err wrong) e h spelled =
    let told = is_only one bytes (Err (faults.Bad (length bytes - wrong.left) wrong.reason)) spelled (wrong.left, e, refl) in
    let apart = told.1 in
    cc

pub noise_is_none : (config : ConfigValue) (world : WorldState) (node : Node) (bytes : List ℕ) → cause config world (Event.Noise node bytes) ≡ None → (one : Message) → IsSpelling one bytes → ⊥
unfolding cause noise_cause is_message
noise_is_none config world node bytes h one spelled =
    not_spelled one bytes (whole message bytes) refl (second_none (node_cause config world node) (noise_cause bytes) h) spelled
