-- HOW A BOOK GROWS: by an entry that is a step of its node, by one that a limit refuses, and by a packet that a node
-- fetches.
use Rattle.std.proofs.Common.{◌≡◌, inl, inr, ℕ, ◌==◌, ◌||◌, List, [], ◌∷◌, ◌++◌, map, Bool, true, false, cond, Option, Some, None, option_map, refl, sym, ap, ◌∙◌, subst, append_assoc, append-nil}
use Rattle.std.specs.Prelude.{slice_get}
use Rattle.std.proofs.lemmas.Bool.{cases_eq, eqb-true}
use Rattle.std.proofs.lemmas.List.{map-append}
use Rattle.std.proofs.lemmas.Option.{same_Some, slice_get-map}
use Rattle.eris_base.specs.declared.ids.Node.{Node}
use Rattle.eris_base.specs.Each.{Each}
use Rattle.eris_base.proofs.Each.{Each-append, Each-weaker}
use Rattle.eris_msg.specs.declared.outgoing.Outgoing.{Outgoing}
use Rattle.eris_msg.specs.Spellings.{message_fits}
use Rattle.eris_event.specs.declared.event.Event.{Event}
use Rattle.eris_rules.specs.Happenings.{happens}
use Rattle.eris_rules.specs.Refusals.{cause, limit_met, refusal}
use Rattle.eris_rules.specs.Runs.{run, run_from}
use Rattle.eris_rules.specs.Worlds.{WorldState, first_world}
use Rattle.eris_law_agreement.specs.NodeSteps.{NodeStep, sends_of_step, step_of}
use Rattle.eris_law_agreement.proofs.NodeLocality.{sent_one}
use Rattle.eris_journal.specs.Lists.{own}
use Rattle.eris_journal.specs.Packets.{Packet, is_fetched, sent}
use Rattle.eris_journal.specs.Parts.{Refused}
use Rattle.eris_journal.specs.declared.add_fault.AddFault.{AddFault}
use Rattle.eris_journal.specs.declared.fetched.Fetched.{Fetched}
use Rattle.eris_journal.proofs.Lists.{own_here, own_else}
use Rattle.eris_law_live.specs.declared.entry.LiveEntry.{LiveEntry}
use Rattle.eris_law_live.specs.LiveBooks.{IsLiveBook, IsRefused, LiveEntries, Stand, Stands, WasFetched, WasSent, all_events, all_sent, is_live, live_sends, node_of_event, packet_of, refusal_of}
use Rattle.eris_law_live.specs.LiveNodes.{live_config, node_of}
use Rattle.eris_law_live.specs.LiveSteps.{IsLiveStep, own_step, replay}
use Rattle.eris_law_live.specs.OwnStates.{OwnState, own_sends, own_state}
use Rattle.eris_law_live.proofs.LiveRuns.{get-front, run-cons, run-nil, run-snoc}
use Rattle.eris_law_live.proofs.Nodes.{node_by_number, node_known}
use Rattle.eris_law_live.proofs.OneStep.{node_sends}
use Rattle.eris_law_live.proofs.Replays.{book_replays, book_right, book_sent, each_own}
use Rattle.eris_law_live.proofs.Taken.{FetchedFor, may_fetched, may_live, may_owned, no_cause, only_limits}
use Rattle.eris_law_live.proofs.Told.{step_told}
use Rattle.eris_law_live.proofs.Waiting.{calm_after, calm_first}

-- ---- nobody has crashed
calm_from : (fetches : List (ℕ × Fetched)) (entries : LiveEntries) (world last : WorldState) → Stand fetches world entries → run_from live_config (Some world) (all_events entries) ≡ Some last
    → world.crashed ≡ [] → last.crashed ≡ []
unfolding Stand all_events
calm_from fetches [] world last stand runs calm = ap (λ (w : WorldState). w.crashed) (sym (run-nil live_config world last runs)) ∙ calm
calm_from fetches (x ∷ entries) world last stand runs calm =
    calm_from fetches entries (happens live_config world x.1.event) last stand.1 (run-cons live_config world last x.1.event (all_events entries) runs).1
    (calm_after world x.1.event stand.0.kind calm)

pub book_calm : (entries : LiveEntries) (fetches : List (ℕ × Fetched)) (refused : Option (Refused LiveEntry)) → (book : IsLiveBook entries fetches refused) → book.world.crashed ≡ []
unfolding run
book_calm entries fetches refused book = calm_from fetches entries (first_world live_config) book.world book.stand book.runs calm_first

-- ---- the packets that a node fetched were sent to it
own_sent : (packets : List Outgoing) (number : ℕ) (node : Node) (fetches : List (ℕ × Fetched)) → node_of number ≡ Some node → Each (WasSent packets) fetches → FetchedFor packets node (own number fetches)
own_sent packets number node [] seated right at has = absurd (cc)
own_sent packets number node (x ∷ fetches) seated right at has = by_seat (x.0 == number) refl has (λ more. own_sent packets number node fetches seated right.1 at more)
  where
    by_packet : (test : Bool) → (x.1.number == at) ≡ test → x.0 ≡ number → (test || is_fetched at (own number fetches)) ≡ true
        → (is_fetched at (own number fetches) ≡ true → (one : Outgoing) × (slice_get packets at ≡ Some one) × (one.to ≡ node)) → (one : Outgoing) × (slice_get packets at ≡ Some one) × (one.to ≡ node)
    by_packet true is same here more = (
      right.0.one,
      ap (slice_get packets) (sym (eqb-true x.1.number at is)) ∙ right.0.found,
      node_by_number number node right.0.one.to seated (right.0.to ∙ same),
    )
    by_packet false is same later more = more later

    by_seat : (test : Bool) → (x.0 == number) ≡ test → is_fetched at (cond test (x.1 ∷ own number fetches) (own number fetches)) ≡ true
        → (is_fetched at (own number fetches) ≡ true → (one : Outgoing) × (slice_get packets at ≡ Some one) × (one.to ≡ node)) → (one : Outgoing) × (slice_get packets at ≡ Some one) × (one.to ≡ node)
    by_seat true is here more = by_packet (x.1.number == at) refl (eqb-true x.0 number is) here more
    by_seat false is later more = more later

-- ---- A STEP OF A NODE, after a book
module _ (entries : LiveEntries) (fetches : List (ℕ × Fetched)) (refused : Option (Refused LiveEntry)) (book : IsLiveBook entries fetches refused) (number : ℕ) (entry : LiveEntry) (step : IsLiveStep number (own number entries) (own number fetches) entry) where
  abbrev fetched : List Fetched
  fetched = own number fetches

  abbrev state : OwnState
  state = replay step.node (own number fetches) (own number entries)

  fetched_for : FetchedFor book.world.sent step.node (own number fetches)
  fetched_for = own_sent book.world.sent number step.node fetches step.seated (book_right entries fetches refused book)

  found : own_state book.world step.node ≡ Some (replay step.node (own number fetches) (own number entries))
  found = book_replays entries fetches refused book number step.node step.seated

  owned : node_of_event book.world.sent entry.event ≡ Some step.node
  owned = may_owned book.world.sent step.node (own number fetches) state entry.event fetched_for step.may

  kind : is_live entry.event ≡ true
  kind = may_live step.node (own number fetches) state entry.event step.may

  -- the world's step is the one that the node knows
  pub step_is : step_of book.world entry.event ≡ own_step step.node (own number fetches) (replay step.node (own number fetches) (own number entries)) entry.event
  step_is =
      step_told book.world book.world.sent step.node (own number fetches) state entry.event kind found owned
      (each_own book.world.sent number fetches (book_right entries fetches refused book)) (λ at one is. is)
      (may_fetched step.node (own number fetches) state entry.event step.may)

  sends_are : entry.sent ≡ sends_of_step live_config book.world (step_of book.world entry.event)
  sends_are =
      step.sent ∙ ap (λ (own : NodeStep). own_sends own state) (sym step_is)
      ∙ sym (node_sends book.world entry.event (book_calm entries fetches refused book) kind step.node state owned found)

  pub stands : Stands fetches book.world (number, entry)
  stands = record {
    node = step.node;
    seated = step.seated;
    owned = owned;
    kind = kind;
    ranged = step.ranged;
    sent = sends_are;
    fetched = may_fetched step.node (own number fetches) state entry.event step.may;
  }

  -- it has no cause to be refused
  pub step_has_no_cause : cause live_config book.world entry.event ≡ None
  step_has_no_cause =
      no_cause book.world step.node (own number fetches) state entry.event (book_calm entries fetches refused book) (node_known number step.node step.seated) found fetched_for step.may

  -- what was sent after it
  pub sent_after : (happens live_config book.world entry.event).sent ≡ all_sent entries ++ entry.sent
  sent_after =
      sent_one live_config book.world entry.event ∙ ap (λ (sends : List Outgoing). book.world.sent ++ sends) (sym sends_are)
      ∙ ap (λ (before : List Outgoing). before ++ entry.sent) (book_sent entries fetches refused book)

  -- so it is refused for a limit alone
  pub step_refusal : refusal live_config book.world entry.event ≡ limit_met (all_sent entries ++ entry.sent)
  step_refusal = only_limits book.world entry.event step_has_no_cause ∙ ap limit_met sent_after

-- ---- one more entry
stand-snoc : (fetches : List (ℕ × Fetched)) (entries : LiveEntries) (world last : WorldState) (x : ℕ × LiveEntry) → Stand fetches world entries → run_from live_config (Some world) (all_events entries) ≡ Some last
    → Stands fetches last x → Stand fetches world (entries ++ x ∷ [])
unfolding Stand all_events
stand-snoc fetches [] world last x stand runs one = (subst (λ (w : WorldState). Stands fetches w x) (sym (run-nil live_config world last runs)) one, tt)
stand-snoc fetches (y ∷ entries) world last x stand runs one = (
  stand.0,
  stand-snoc fetches entries (happens live_config world y.1.event) last x stand.1 (run-cons live_config world last y.1.event (all_events entries) runs).1 one,
)

events-snoc : (entries : LiveEntries) (x : ℕ × LiveEntry) → all_events (entries ++ x ∷ []) ≡ all_events entries ++ x.1.event ∷ []
unfolding all_events
events-snoc entries x = map-append (λ (y : ℕ × LiveEntry). y.1.event) entries (x ∷ [])

sent-snoc : (entries : LiveEntries) (x : ℕ × LiveEntry) → all_sent (entries ++ x ∷ []) ≡ all_sent entries ++ x.1.sent
unfolding all_sent
sent-snoc [] x = append-nil x.1.sent
sent-snoc (y ∷ entries) x = ap (λ (rest : List Outgoing). y.1.sent ++ rest) (sent-snoc entries x) ∙ sym (append_assoc y.1.sent (all_sent entries) x.1.sent)

was_sent-more : (packets more : List Outgoing) (y : ℕ × Fetched) → WasSent packets y → WasSent (packets ++ more) y
was_sent-more packets more y was = record { one = was.one; found = get-front packets more y.1.number was.one was.found; to = was.to; spelled = was.spelled }

-- AN ENTRY that no limit refuses
pub book_adds : (entries : LiveEntries) (fetches : List (ℕ × Fetched)) (number : ℕ) (entry : LiveEntry) → IsLiveBook entries fetches None
    → IsLiveStep number (own number entries) (own number fetches) entry → limit_met (all_sent entries ++ entry.sent) ≡ None → IsLiveBook (entries ++ (number, entry) ∷ []) fetches None
unfolding run
book_adds entries fetches number entry book step free = record {
  world = happens live_config book.world entry.event;
  runs =
      ap (run_from live_config (Some (first_world live_config))) (events-snoc entries (number, entry))
      ∙ run-snoc live_config (first_world live_config) book.world (all_events entries) entry.event book.runs (step_refusal entries fetches None book number entry step ∙ free);
  stand = stand-snoc fetches entries (first_world live_config) book.world (number, entry) book.stand book.runs (stands entries fetches None book number entry step);
  sent = subst (λ (packets : List Outgoing). Each (WasSent packets) fetches) (sym (sent-snoc entries (number, entry)))
      (Each-weaker (WasSent (all_sent entries)) (WasSent (all_sent entries ++ entry.sent)) (λ y was. was_sent-more (all_sent entries) entry.sent y was) fetches book.sent);
  refuses = tt;
}

-- AN ENTRY that a limit refuses
pub book_refuses : (entries : LiveEntries) (fetches : List (ℕ × Fetched)) (number : ℕ) (entry : LiveEntry) (fault : AddFault) → IsLiveBook entries fetches None
    → IsLiveStep number (own number entries) (own number fetches) entry → limit_met (all_sent entries ++ entry.sent) ≡ Some (refusal_of fault)
    → IsLiveBook entries fetches (Some (number, (entry, fault)))
book_refuses entries fetches number entry fault book step met = record {
  world = book.world;
  runs = book.runs;
  stand = book.stand;
  sent = book.sent;
  refuses = (stands entries fetches None book number entry step, step_refusal entries fetches None book number entry step ∙ met);
}

-- ---- one more fetched packet
is_fetched-more : (at : ℕ) (packets : List Fetched) (more : Fetched) → is_fetched at packets ≡ true → is_fetched at (packets ++ more ∷ []) ≡ true
is_fetched-more at [] more has = absurd (cc)
is_fetched-more at (packet ∷ packets) more has = by_test (packet.number == at) has (λ later. is_fetched-more at packets more later)
  where
    by_test : (test : Bool) → (test || is_fetched at packets) ≡ true → (is_fetched at packets ≡ true → is_fetched at (packets ++ more ∷ []) ≡ true) → (test || is_fetched at (packets ++ more ∷ [])) ≡ true
    by_test true here rest = refl
    by_test false later rest = rest later

own_fetched-more : (at number : ℕ) (fetches : List (ℕ × Fetched)) (y : ℕ × Fetched) → is_fetched at (own number fetches) ≡ true → is_fetched at (own number (fetches ++ y ∷ [])) ≡ true
own_fetched-more at number fetches y has = elim (cases_eq y.0 number) [
  | inl same ↦ ap (is_fetched at) (own_here number y.0 y.1 fetches same) ∙ is_fetched-more at (own number fetches) y.1 has
  | inr apart ↦ ap (is_fetched at) (own_else number y.0 y.1 fetches apart) ∙ has
]

was_fetched-more : (event : Event) (number : ℕ) (fetches : List (ℕ × Fetched)) (y : ℕ × Fetched) → WasFetched (own number fetches) event → WasFetched (own number (fetches ++ y ∷ [])) event
was_fetched-more (Event.Deliver packet epoch) number fetches y was = own_fetched-more packet number fetches y was
was_fetched-more (Event.Submit client ops) number fetches y was = tt
was_fetched-more (Event.General client plan) number fetches y was = tt
was_fetched-more (Event.Retry client n) number fetches y was = tt
was_fetched-more (Event.Abort asker id) number fetches y was = tt
was_fetched-more Event.Flow number fetches y was = tt
was_fetched-more Event.Lose number fetches y was = tt
was_fetched-more (Event.Probe shard replica) number fetches y was = tt
was_fetched-more (Event.Suspect shard replica) number fetches y was = tt
was_fetched-more (Event.Sync shard replica) number fetches y was = tt
was_fetched-more (Event.Crash shard replica) number fetches y was = tt
was_fetched-more Event.Nudge number fetches y was = tt
was_fetched-more Event.Replace number fetches y was = tt
was_fetched-more (Event.Noise to bytes) number fetches y was = tt

stands-more : (fetches : List (ℕ × Fetched)) (y : ℕ × Fetched) (world : WorldState) (x : ℕ × LiveEntry) → Stands fetches world x → Stands (fetches ++ y ∷ []) world x
stands-more fetches y world x one = record {
  node = one.node;
  seated = one.seated;
  owned = one.owned;
  kind = one.kind;
  ranged = one.ranged;
  sent = one.sent;
  fetched = was_fetched-more x.1.event x.0 fetches y one.fetched;
}

stand-more : (fetches : List (ℕ × Fetched)) (y : ℕ × Fetched) (world : WorldState) (entries : LiveEntries) → Stand fetches world entries → Stand (fetches ++ y ∷ []) world entries
unfolding Stand
stand-more fetches y world [] stand = tt
stand-more fetches y world (x ∷ entries) stand = (stands-more fetches y world x stand.0, stand-more fetches y (happens live_config world x.1.event) entries stand.1)

refused-more : (fetches : List (ℕ × Fetched)) (y : ℕ × Fetched) (world : WorldState) (refused : Option (Refused LiveEntry)) → IsRefused fetches world refused → IsRefused (fetches ++ y ∷ []) world refused
refused-more fetches y world None is = tt
refused-more fetches y world (Some r) is = (stands-more fetches y world (r.0, r.1.0) is.0, is.1)

-- A FETCHED PACKET, which was sent to its node
pub book_fetches : (entries : LiveEntries) (fetches : List (ℕ × Fetched)) (refused : Option (Refused LiveEntry)) (y : ℕ × Fetched) → IsLiveBook entries fetches refused
    → WasSent (all_sent entries) y → IsLiveBook entries (fetches ++ y ∷ []) refused
book_fetches entries fetches refused y book was = record {
  world = book.world;
  runs = book.runs;
  stand = stand-more fetches y (first_world live_config) entries book.stand;
  sent = Each-append (WasSent (all_sent entries)) fetches (y ∷ []) book.sent (was, tt);
  refuses = refused-more fetches y book.world refused book.refuses;
}

-- THE EMPTY BOOK
pub book_begins : IsLiveBook [] [] None
unfolding run run_from all_events Stand
book_begins = record { world = first_world live_config; runs = refl; stand = tt; sent = tt; refuses = tt }

-- ---- what a journal sees of it: the packets that were sent
pub packets_sent : (entries : LiveEntries) → sent live_sends entries ≡ map packet_of (all_sent entries)
unfolding all_sent
packets_sent [] = refl
packets_sent (x ∷ entries) =
    ap (λ (rest : List Packet). map packet_of x.1.sent ++ rest) (packets_sent entries) ∙ sym (map-append packet_of x.1.sent (all_sent entries))

-- what was sent to a node, and has a spelling, was sent to it
pub sent_to : (entries : LiveEntries) (y : ℕ × Fetched) (one : Outgoing) → slice_get (all_sent entries) y.1.number ≡ Some one → message_fits one.message ≡ true
    → slice_get (sent live_sends entries) y.1.number ≡ Some (y.0, y.1.message) → WasSent (all_sent entries) y
sent_to entries y one found fits packet =
    let same : packet_of one ≡ (y.0, y.1.message) =
    same_Some (packet_of one) (y.0, y.1.message)
    (sym (ap (option_map packet_of) found) ∙ sym (slice_get-map packet_of (all_sent entries) y.1.number) ∙ ap (λ (packets : List Packet). slice_get packets y.1.number) (sym (packets_sent entries)) ∙ packet) in
    record {
      one = one;
      found = found;
      to = ap (λ (p : Packet). p.0) same;
      spelled = record { fits = fits; spelled = ap (λ (p : Packet). p.1) (sym same) };
    }
