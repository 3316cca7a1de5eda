-- A NODE IS THE REPLAY of its own entries over its own fetched packets, whatever the others did in between.
use Rattle.std.proofs.Common.{◌≡◌, ◌≢◌, inl, inr, ℕ, ◌==◌, List, [], ◌∷◌, ◌++◌, Bool, true, false, cond, Option, Some, refl, sym, ap, ◌∙◌, subst, append_assoc, append-nil}
use Rattle.std.proofs.lemmas.Bool.{cases_eq}
use Rattle.std.proofs.lemmas.List.{map-append}
use Rattle.std.proofs.lemmas.Option.{same_Some}
use Rattle.eris_base.specs.declared.ids.Node.{Node}
use Rattle.eris_base.specs.Each.{Each}
use Rattle.eris_msg.specs.declared.outgoing.Outgoing.{Outgoing}
use Rattle.eris_event.specs.declared.event.Event.{Event}
use Rattle.eris_rules.specs.Happenings.{happens}
use Rattle.eris_rules.specs.Runs.{run, run_from}
use Rattle.eris_rules.specs.Worlds.{WorldState, first_world}
use Rattle.eris_law_agreement.specs.NodeSteps.{NodeStep, sends_of_step, step_of}
use Rattle.eris_law_agreement.proofs.NodeLocality.{sent_one}
use Rattle.eris_journal.specs.Lists.{own}
use Rattle.eris_journal.specs.Parts.{Refused}
use Rattle.eris_journal.specs.declared.fetched.Fetched.{Fetched}
use Rattle.eris_journal.proofs.Lists.{own_here, own_else}
use Rattle.eris_law_live.specs.declared.entry.LiveEntry.{LiveEntry}
use Rattle.eris_law_live.specs.LiveBooks.{IsLiveBook, LiveEntries, Stand, Stands, WasFetched, WasSent, all_events, all_sent, node_of_event}
use Rattle.eris_law_live.specs.LiveNodes.{live_config, node_of, number_of}
use Rattle.eris_law_live.specs.LiveSteps.{events_of, own_step, replay, replay_from}
use Rattle.eris_law_live.specs.OwnStates.{OwnState, first_own, own_after, own_state}
use Rattle.eris_law_live.proofs.LiveRuns.{continues_on, get-on, run-cons, run-nil, run-sent}
use Rattle.eris_law_live.proofs.Nodes.{node_begins, number_back}
use Rattle.eris_law_live.proofs.OneStep.{node_left, others_rest}
use Rattle.eris_law_live.proofs.Told.{IsSentAs, step_told}
use Rattle.eris_law_live.proofs.Waiting.{calm_after, calm_first}

-- ---- one more event of a replay
pub replay-snoc : (node : Node) (fetched : List Fetched) (state : OwnState) (events : List Event) (event : Event)
    → replay_from node fetched state (events ++ event ∷ []) ≡ own_after (own_step node fetched (replay_from node fetched state events) event) (replay_from node fetched state events)
unfolding replay_from
replay-snoc node fetched state [] event = refl
replay-snoc node fetched state (first ∷ events) event = replay-snoc node fetched (own_after (own_step node fetched state first) state) events event

pub replay-more : (node : Node) (fetched : List Fetched) (entries : List LiveEntry) (entry : LiveEntry)
    → replay node fetched (entries ++ entry ∷ []) ≡ own_after (own_step node fetched (replay node fetched entries) entry.event) (replay node fetched entries)
replay-more node fetched entries entry =
    ap (replay_from node fetched (first_own node)) (map-append (λ (one : LiveEntry). one.event) entries (entry ∷ []))
    ∙ replay-snoc node fetched (first_own node) (events_of entries) entry.event

-- ---- fetched packets, of all nodes and of one
pub each_own : (sent : List Outgoing) (number : ℕ) (fetches : List (ℕ × Fetched)) → Each (WasSent sent) fetches → Each (IsSentAs sent) (own number fetches)
each_own sent number [] right = tt
each_own sent number (x ∷ fetches) right = by_test (x.0 == number) (each_own sent number fetches right.1)
  where
    by_test : (test : Bool) → Each (IsSentAs sent) (own number fetches) → Each (IsSentAs sent) (cond test (x.1 ∷ own number fetches) (own number fetches))
    by_test true more = (record { one = right.0.one; found = right.0.found; spelled = right.0.spelled }, more)
    by_test false more = more

-- ---- along the entries of a book
pub same_seat : (number : ℕ) (node other : Node) → node_of number ≡ Some node → node_of number ≡ Some other → node ≡ other
same_seat number node other one two = same_Some node other (sym one ∙ two)

-- two nodes with their numbers: where the numbers differ, so do the nodes
pub seats_apart : (number at : ℕ) (node other : Node) → node_of number ≡ Some node → node_of at ≡ Some other → at ≢ number → node ≡ other → ⊥
seats_apart number at node other one two apart same =
    apart (sym (number_back at other two).0 ∙ ap number_of (sym same) ∙ (number_back number node one).0)

module _ (fetches : List (ℕ × Fetched)) (last : WorldState) (right : Each (WasSent last.sent) fetches) (number : ℕ) (node : Node) (seated : node_of number ≡ Some node) where
  -- nobody crashed, and the node is the replay of these entries of its own
  record IsReplay (before : LiveEntries) (world : WorldState) : Type 0 where
    calm : world.crashed ≡ []
    replayed : own_state world node ≡ Some (replay node (own number fetches) (own number before))

  mine : (before : LiveEntries) (world : WorldState) (x : ℕ × LiveEntry) (events : List Event) → Stands fetches world x → x.0 ≡ number
      → run_from live_config (Some (happens live_config world x.1.event)) events ≡ Some last → IsReplay before world
      → own_state (happens live_config world x.1.event) node ≡ Some (replay node (own number fetches) (own number (before ++ x ∷ [])))
  mine before world x events stands same rest is =
      let same_node : stands.node ≡ node = same_seat x.0 stands.node node stands.seated (ap node_of same ∙ seated) in
      let owned : node_of_event world.sent x.1.event ≡ Some node = stands.owned ∙ ap Some same_node in
      let state : OwnState = replay node (own number fetches) (own number before) in
      let grown = continues_on world.sent (happens live_config world x.1.event).sent last.sent
      (record { more = sends_of_step live_config world (step_of world x.1.event); is = sent_one live_config world x.1.event })
      (run-sent live_config (happens live_config world x.1.event) last events rest) in
      let told = step_told world last.sent node (own number fetches) state x.1.event stands.kind is.replayed owned
      (each_own last.sent number fetches right) (λ at one found. get-on world.sent last.sent at one grown found)
      (subst (λ (n : ℕ). WasFetched (own n fetches) x.1.event) same stands.fetched) in
      node_left world x.1.event is.calm stands.kind node state owned is.replayed
      ∙ ap (λ (step : NodeStep). Some (own_after step state)) told
      ∙ ap Some (sym (replay-more node (own number fetches) (own number before) x.1))
      ∙ ap (λ (entries : List LiveEntry). Some (replay node (own number fetches) entries)) (sym (own_here number x.0 x.1 before same))

  one_more : (before : LiveEntries) (world : WorldState) (x : ℕ × LiveEntry) (events : List Event) → Stands fetches world x
      → run_from live_config (Some (happens live_config world x.1.event)) events ≡ Some last → IsReplay before world → IsReplay (before ++ x ∷ []) (happens live_config world x.1.event)
  one_more before world x events stands rest is = record {
    calm = calm_after world x.1.event stands.kind is.calm;
    replayed = elim (cases_eq x.0 number) [
      | inl same ↦ mine before world x events stands same rest is
      | inr apart ↦
          others_rest world x.1.event is.calm stands.kind stands.node node stands.owned (seats_apart number x.0 node stands.node seated stands.seated apart)
          ∙ is.replayed
          ∙ ap (λ (entries : List LiveEntry). Some (replay node (own number fetches) entries)) (sym (own_else number x.0 x.1 before apart))
    ];
  }

  along : (before entries : LiveEntries) (world : WorldState) → Stand fetches world entries → run_from live_config (Some world) (all_events entries) ≡ Some last
      → IsReplay before world → IsReplay (before ++ entries) last
  unfolding Stand all_events
  along before [] world stand runs is =
      subst (λ (entries : LiveEntries). IsReplay entries last) (sym (append-nil before)) (subst (IsReplay before) (run-nil live_config world last runs) is)
  along before (x ∷ entries) world stand runs is =
      let rest = (run-cons live_config world last x.1.event (all_events entries) runs).1 in
      subst (λ (all : LiveEntries). IsReplay all last) (append_assoc before (x ∷ []) entries)
      (along (before ++ x ∷ []) entries (happens live_config world x.1.event) stand.1 rest (one_more before world x (all_events entries) stand.0 rest is))

  -- THE NODE is the replay of its own
  pub node_replayed : (entries : LiveEntries) → Stand fetches (first_world live_config) entries → run live_config (all_events entries) ≡ Some last
      → own_state last node ≡ Some (replay node (own number fetches) (own number entries))
  unfolding run replay_from
  node_replayed entries stand runs =
      (along [] entries (first_world live_config) stand runs (record { calm = calm_first; replayed = node_begins number node seated })).replayed

-- ---- what was sent
sent_from : (fetches : List (ℕ × Fetched)) (entries : LiveEntries) (world last : WorldState) → Stand fetches world entries → run_from live_config (Some world) (all_events entries) ≡ Some last
    → last.sent ≡ world.sent ++ all_sent entries
unfolding Stand all_events all_sent
sent_from fetches [] world last stand runs = ap (λ (w : WorldState). w.sent) (sym (run-nil live_config world last runs)) ∙ sym (append-nil world.sent)
sent_from fetches (x ∷ entries) world last stand runs =
    sent_from fetches entries (happens live_config world x.1.event) last stand.1 (run-cons live_config world last x.1.event (all_events entries) runs).1
    ∙ ap (λ (sent : List Outgoing). sent ++ all_sent entries) (sent_one live_config world x.1.event ∙ ap (λ (sends : List Outgoing). world.sent ++ sends) (sym stand.0.sent))
    ∙ append_assoc world.sent x.1.sent (all_sent entries)

-- a book's world sent what its entries sent
pub book_sent : (entries : LiveEntries) (fetches : List (ℕ × Fetched)) (refused : Option (Refused LiveEntry)) → (book : IsLiveBook entries fetches refused) → book.world.sent ≡ all_sent entries
unfolding run first_world
book_sent entries fetches refused book = sent_from fetches entries (first_world live_config) book.world book.stand book.runs

pub book_right : (entries : LiveEntries) (fetches : List (ℕ × Fetched)) (refused : Option (Refused LiveEntry)) → (book : IsLiveBook entries fetches refused) → Each (WasSent book.world.sent) fetches
book_right entries fetches refused book = subst (λ (sent : List Outgoing). Each (WasSent sent) fetches) (sym (book_sent entries fetches refused book)) book.sent

-- IN A BOOK each node is the replay of its own
pub book_replays : (entries : LiveEntries) (fetches : List (ℕ × Fetched)) (refused : Option (Refused LiveEntry)) → (book : IsLiveBook entries fetches refused) → (number : ℕ) (node : Node) → node_of number ≡ Some node
    → own_state book.world node ≡ Some (replay node (own number fetches) (own number entries))
book_replays entries fetches refused book number node seated =
    node_replayed fetches book.world (book_right entries fetches refused book) number node seated entries book.stand book.runs
