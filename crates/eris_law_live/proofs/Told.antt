-- A NODE'S STEP IS TOLD BY WHAT THE NODE KNOWS: its own state, and the packets that it fetched, of which each is one
-- that was sent.
use Rattle.std.proofs.Common.{◌≡◌, ℕ, ◌==◌, ◌-◌, ◌||◌, length, List, [], ◌∷◌, Bool, true, false, cond, Option, Some, None, option_map, unwrap_or, Result, Ok, Err, refl, sym, ap, ◌∙◌}
use Rattle.std.specs.Prelude.{slice_get}
use Rattle.std.proofs.lemmas.Bool.{eqb-true}
use Rattle.std.proofs.lemmas.Option.{same_Some}
use Rattle.eris_base.specs.declared.ids.Epoch.{Epoch}
use Rattle.eris_base.specs.declared.ids.Node.{Node}
use Rattle.eris_base.specs.declared.ids.Node.TheVariants.{Sequencer, Coordinator, Replica, Client}
use Rattle.eris_base.specs.Each.{Each}
use Rattle.eris_codec.specs.declared.fault.DecodeFault.TheVariants as decoding
use Rattle.eris_codec.specs.declared.fault.Wrong.{Wrong}
use Rattle.eris_codec.specs.Codecs.{whole}
use Rattle.eris_msg.specs.declared.message.Message.{Message}
use Rattle.eris_msg.specs.declared.outgoing.Outgoing.{Outgoing}
use Rattle.eris_msg.specs.Messages.{message}
use Rattle.eris_msg.specs.Spellings.{IsSpelling}
use Rattle.eris_msg.proofs.Decodes.{is_only}
use Rattle.eris_sequencer.specs.Sequencers.{newest_of}
use Rattle.eris_event.specs.declared.event.Event.{Event}
use Rattle.eris_rules.specs.Worlds.{WorldState}
use Rattle.eris_law_agreement.specs.NodeSteps.{delivery_of, heard_by, step_of}
use Rattle.eris_journal.specs.Packets.{is_fetched}
use Rattle.eris_journal.specs.declared.fetched.Fetched.{Fetched}
use Rattle.eris_law_live.specs.LiveBooks.{WasFetched, is_live, node_of_event}
use Rattle.eris_law_live.specs.LiveSteps.{fetched_message, hears, own_step, read_of}
use Rattle.eris_law_live.specs.OwnStates.{OwnState, SequencersAre, own_newest, own_state}

-- ---- a spelling is read as its message
read_by : (x : Message) (bytes : List ℕ) → IsSpelling x bytes → (read : Result Message Wrong) → whole message bytes ≡ read → read_of read ≡ Some x
read_by x bytes spelled (Ok y) e =
    let same : ◌≡◌ {A = Result Message Wrong} (Ok x) (Ok y) = is_only x bytes (Ok y) spelled e in
    let equal : y ≡ x = cc in
    ap Some equal
read_by x bytes spelled (Err wrong) e =
    let told = is_only x bytes (Err (decoding.Bad (length bytes - wrong.left) wrong.reason)) spelled (wrong.left, e, refl) in
    absurd (let apart = told.1 in cc)

pub read_spelled : (x : Message) (bytes : List ℕ) → IsSpelling x bytes → read_of (whole message bytes) ≡ Some x
read_spelled x bytes spelled = read_by x bytes spelled (whole message bytes) refl

-- ---- a fetched packet is one that was sent
pub record IsSentAs (sent : List Outgoing) (packet : Fetched) : Type 0 where
  pub one : Outgoing
  pub found : slice_get sent packet.number ≡ Some one
  pub spelled : IsSpelling one.message packet.message

pub message_found : (sent : List Outgoing) (fetched : List Fetched) (number : ℕ) (one : Outgoing) → Each (IsSentAs sent) fetched → is_fetched number fetched ≡ true
    → slice_get sent number ≡ Some one → fetched_message number fetched ≡ Some one.message
message_found sent [] number one right has found = absurd (cc)
message_found sent (packet ∷ fetched) number one right has found = by_test (packet.number == number) refl has (λ more. message_found sent fetched number one right.1 more found)
  where
    by_test : (test : Bool) → (packet.number == number) ≡ test → (test || is_fetched number fetched) ≡ true → (is_fetched number fetched ≡ true → fetched_message number fetched ≡ Some one.message)
        → cond test (read_of (whole message packet.message)) (fetched_message number fetched) ≡ Some one.message
    by_test true is here more =
        let same : right.0.one ≡ one = same_Some right.0.one one (sym right.0.found ∙ ap (slice_get sent) (eqb-true packet.number number is) ∙ found) in
        read_spelled right.0.one.message packet.message right.0.spelled ∙ ap (λ (x : Outgoing). Some x.message) same
    by_test false is later more = more later

-- a fetched packet was sent
pub one_found : (sent : List Outgoing) (fetched : List Fetched) (number : ℕ) → Each (IsSentAs sent) fetched → is_fetched number fetched ≡ true
    → (packet : Fetched) × (packet.number ≡ number) × IsSentAs sent packet
one_found sent [] number right has = absurd (cc)
one_found sent (packet ∷ fetched) number right has = by_test (packet.number == number) refl has (λ more. one_found sent fetched number right.1 more)
  where
    by_test : (test : Bool) → (packet.number == number) ≡ test → (test || is_fetched number fetched) ≡ true
        → (is_fetched number fetched ≡ true → (other : Fetched) × (other.number ≡ number) × IsSentAs sent other) → (other : Fetched) × (other.number ≡ number) × IsSentAs sent other
    by_test true is here more = (packet, eqb-true packet.number number is, right.0)
    by_test false is later more = more later

-- ---- the step of a delivery
-- the newest epoch is of matter to the sequencers alone
heard_same : (world : WorldState) (node : Node) (state : OwnState) (epoch : Option Epoch) (heard : Message) → own_state world node ≡ Some state
    → heard_by (unwrap_or epoch (newest_of world.stampings)) node heard ≡ heard_by (unwrap_or epoch (own_newest state)) node heard
unfolding own_state
heard_same world Sequencer state epoch heard found =
    ap (λ (own : OwnState). heard_by (unwrap_or epoch (own_newest own)) Sequencer heard) (same_Some (SequencersAre world.stampings) state found)
heard_same world Coordinator state epoch heard found = refl
heard_same world (Replica shard replica) state epoch heard found = refl
heard_same world (Client client) state epoch heard found = refl

deliver_same : (world : WorldState) (last : List Outgoing) (node : Node) (fetched : List Fetched) (state : OwnState) (number : ℕ) (epoch : Option Epoch) (found : Option Outgoing)
    → own_state world node ≡ Some state → option_map (λ one. one.to) found ≡ Some node → ((one : Outgoing) → found ≡ Some one → fetched_message number fetched ≡ Some one.message)
    → delivery_of (unwrap_or epoch (newest_of world.stampings)) found ≡ hears (unwrap_or epoch (own_newest state)) node (fetched_message number fetched)
deliver_same world last node fetched state number epoch None own of known = absurd (cc)
deliver_same world last node fetched state number epoch (Some one) own of known =
    ap (λ (to : Node). heard_by (unwrap_or epoch (newest_of world.stampings)) to one.message) (same_Some one.to node of)
    ∙ heard_same world node state epoch one.message own
    ∙ sym (ap (hears (unwrap_or epoch (own_newest state)) node) (known one refl))

-- THE STEP
pub step_told : (world : WorldState) (last : List Outgoing) (node : Node) (fetched : List Fetched) (state : OwnState) (event : Event)
    → is_live event ≡ true → own_state world node ≡ Some state → node_of_event world.sent event ≡ Some node
    → Each (IsSentAs last) fetched → ((number : ℕ) (one : Outgoing) → slice_get world.sent number ≡ Some one → slice_get last number ≡ Some one)
    → WasFetched fetched event → step_of world event ≡ own_step node fetched state event
unfolding step_of own_step
step_told world last node fetched state (Event.Submit client ops) live own of right kept has = refl
step_told world last node fetched state (Event.General client plan) live own of right kept has = refl
step_told world last node fetched state (Event.Retry client number) live own of right kept has = refl
step_told world last node fetched state (Event.Abort asker id) live own of right kept has = absurd (cc)
step_told world last node fetched state (Event.Deliver number epoch) live own of right kept has =
    deliver_same world last node fetched state number epoch (slice_get world.sent number) own of
    (λ one found. message_found last fetched number one right has (kept number one found))
step_told world last node fetched state Event.Flow live own of right kept has = absurd (cc)
step_told world last node fetched state Event.Lose live own of right kept has = absurd (cc)
step_told world last node fetched state (Event.Probe shard replica) live own of right kept has = refl
step_told world last node fetched state (Event.Suspect shard replica) live own of right kept has = refl
step_told world last node fetched state (Event.Sync shard replica) live own of right kept has = refl
step_told world last node fetched state (Event.Crash shard replica) live own of right kept has = absurd (cc)
step_told world last node fetched state Event.Nudge live own of right kept has = refl
step_told world last node fetched state Event.Replace live own of right kept has = refl
step_told world last node fetched state (Event.Noise to bytes) live own of right kept has = absurd (cc)
