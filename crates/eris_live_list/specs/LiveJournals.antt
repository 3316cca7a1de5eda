-- THE JOURNAL OF A LIVE RUN: which lists of events are one, how its marks cut it into rounds, and
-- what is counted in it.
use Rattle.std.specs.Prelude.{◌≡◌, ◌≤◌, ◌<◌, ℕ, zero, suc, ◌+◌, ◌*◌, ◌==◌, Bool, true, false, Option, Some, List, [], ◌∷◌, ◌++◌, length, take, drop, slice_get, unwrap_or, if◌then◌else◌}
use Rattle.std.specs.List.{filter}
use Rattle.eris_base.specs.declared.ids.ClientId.{ClientId}
use Rattle.eris_base.specs.declared.ids.Epoch.{Epoch}
use Rattle.eris_base.specs.declared.ids.Node.{Node}
use Rattle.eris_base.specs.Each.{Each}
use Rattle.eris_msg.specs.declared.outgoing.Outgoing.{Outgoing}
use Rattle.eris_event.specs.declared.event.Event.{Event}
use Rattle.eris_rules.specs.Runs.{run}
use Rattle.eris_rules.specs.Worlds.{WorldState}
use Rattle.eris_law_live.specs.FirstDeliveries.{is_delivered, is_first}
use Rattle.eris_law_live.specs.LiveBooks.{is_live}
use Rattle.eris_law_live.specs.LiveNodes.{live_config}

-- A LIVE JOURNAL: its events are of the kinds of a live run, and they run
abbrev pub IsLiveJournal : List Event → WorldState → Type 0
IsLiveJournal journal world = Each (λ event. is_live event ≡ true) journal × (run live_config journal ≡ Some world)

-- ---- what is counted
-- the client submits
abbrev pub is_submission_of : ClientId → Event → Bool
is_submission_of client (Event.Submit submitter ops) = submitter.0 == client.0
is_submission_of client (Event.General submitter plan) = submitter.0 == client.0
is_submission_of client event = false

-- a client's submissions, in order
unfoldable pub submissions_of : ClientId → List Event → List Event
submissions_of client events = filter (is_submission_of client) events

-- a replica is to suspect its learner, or another epoch begins
abbrev pub is_alarm : Event → Bool
is_alarm (Event.Suspect shard replica) = true
is_alarm Event.Replace = true
is_alarm event = false

unfoldable pub alarms : List Event → ℕ
alarms events = length (filter is_alarm events)

-- how many of the later events are no first delivery of a packet
unfoldable pub others : List Event → List Event → ℕ
others before [] = 0
others before (event ∷ events) = (if is_first before event then 0 else 1) + others (before ++ event ∷ []) events

-- A JOURNAL WITHIN THE BOUNDS of a run of so many rounds
pub record IsBounded (rounds : ℕ) (journal : List Event) : Type 0 where
  pub few_others : others [] journal ≤ 20 * rounds
  pub few_alarms : alarms journal ≤ rounds

-- ---- rounds, counted from 0
-- where a round begins: at the mark of the one before it, and the first at 0
abbrev pub begin_of : List ℕ → ℕ → ℕ
begin_of marks zero = 0
begin_of marks (suc round) = unwrap_or (slice_get marks round) 0

-- the events before a round
abbrev pub before_round : List ℕ → ℕ → List Event → List Event
before_round marks round journal = take (begin_of marks round) journal

-- THE EVENTS OF A ROUND
abbrev pub round_of : List ℕ → ℕ → List Event → List Event
round_of marks round journal = drop (begin_of marks round) (before_round marks (suc round) journal)

-- THE MARKS of so many rounds: one for each, none less than the one before, and the last is the
-- number of events
pub record AreMarks (rounds events : ℕ) (marks : List ℕ) : Type 0 where
  pub each_round : length marks ≡ rounds
  pub rise : (round : ℕ) → round < rounds → begin_of marks round ≤ begin_of marks (suc round)
  pub last : begin_of marks rounds ≡ events

-- a packet that was sent to the node, and that no event before delivered
abbrev pub IsOpenTo : List Outgoing → List Event → Node → ℕ → Type 0
IsOpenTo sent before node number =
    ((one : Outgoing) × (slice_get sent number ≡ Some one) × (one.to ≡ node)) × (is_delivered before number ≡ false)

-- of the events behind those, one is the first delivery of a packet to the node
abbrev pub HasFirstDelivery : List Outgoing → List Event → List Event → Node → Type 0
HasFirstDelivery sent before events node =
    (some more : List Event) × (number : ℕ) × (epoch : Option Epoch)
    × (events ≡ some ++ Event.Deliver number epoch ∷ more)
    × IsOpenTo sent (before ++ some) node number

-- A ROUND SERVES a node: if a packet to the node is open before the round, then one is delivered in
-- it for the first time. Sent is what the events of the journal sent.
abbrev pub Serves : List Outgoing → List Outgoing → List Event → List Event → Node → Type 0
Serves sent_before sent before events node =
    (number : ℕ) → IsOpenTo sent_before before node number → HasFirstDelivery sent before events node
