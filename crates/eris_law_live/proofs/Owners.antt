-- OF THE EVENTS OF A BOOK: they are of the live kinds and in the ranges of a script, and a packet is delivered by the
-- node that it went to.
use Rattle.std.proofs.Common.{◌≡◌, true, List, Option, Some, None, [], ◌∷◌, option_map, ℕ, refl, ap, ◌∙◌}
use Rattle.std.specs.Prelude.{slice_get}
use Rattle.std.proofs.lemmas.Option.{same_Some}
use Rattle.eris_base.specs.declared.ids.Node.{Node}
use Rattle.eris_base.specs.Each.{Each}
use Rattle.eris_msg.specs.declared.outgoing.Outgoing.{Outgoing}
use Rattle.eris_event.specs.declared.event.Event.{Event}
use Rattle.eris_event.specs.EventRanges.{fits_event}
use Rattle.eris_rules.specs.Happenings.{happens}
use Rattle.eris_rules.specs.Runs.{run, run_from}
use Rattle.eris_rules.specs.Worlds.{WorldState, first_world}
use Rattle.eris_law_agreement.specs.Continuing.{Continues}
use Rattle.eris_journal.specs.Parts.{Refused}
use Rattle.eris_journal.specs.declared.fetched.Fetched.{Fetched}
use Rattle.eris_law_live.specs.declared.entry.LiveEntry.{LiveEntry}
use Rattle.eris_law_live.specs.FirstDeliveries.{IsOwnDelivery}
use Rattle.eris_law_live.specs.LiveBooks.{IsLiveBook, LiveEntries, Stand, all_events, is_live, node_of_event}
use Rattle.eris_law_live.specs.LiveNodes.{live_config, node_of, number_of}
use Rattle.eris_law_live.proofs.LiveRuns.{get-on, run-cons, run-sent}
use Rattle.eris_law_live.proofs.Nodes.{number_back}

went_to : (sent last : List Outgoing) (number : ℕ) (node : Node) (event : Event) → Continues sent last → node_of number ≡ Some node → node_of_event sent event ≡ Some node → IsOwnDelivery last number event
went_to sent last number node (Event.Deliver packet epoch) on seated owned = by_found (slice_get sent packet) refl owned
  where
    by_found : (found : Option Outgoing) → slice_get sent packet ≡ found → option_map (λ one. one.to) found ≡ Some node → (one : Outgoing) × (slice_get last packet ≡ Some one) × (number_of one.to ≡ number)
    by_found None is to = absurd (cc)
    by_found (Some one) is to = (one, get-on sent last packet one on is, ap number_of (same_Some one.to node to) ∙ (number_back number node seated).0)
went_to sent last number node (Event.Submit client ops) on seated owned = tt
went_to sent last number node (Event.General client plan) on seated owned = tt
went_to sent last number node (Event.Retry client n) on seated owned = tt
went_to sent last number node (Event.Abort asker id) on seated owned = tt
went_to sent last number node Event.Flow on seated owned = tt
went_to sent last number node Event.Lose on seated owned = tt
went_to sent last number node (Event.Probe shard replica) on seated owned = tt
went_to sent last number node (Event.Suspect shard replica) on seated owned = tt
went_to sent last number node (Event.Sync shard replica) on seated owned = tt
went_to sent last number node (Event.Crash shard replica) on seated owned = tt
went_to sent last number node Event.Nudge on seated owned = tt
went_to sent last number node Event.Replace on seated owned = tt
went_to sent last number node (Event.Noise to bytes) on seated owned = tt

owned_from : (fetches : List (ℕ × Fetched)) (entries : LiveEntries) (world last : WorldState) → Stand fetches world entries → run_from live_config (Some world) (all_events entries) ≡ Some last
    → Each (λ x. IsOwnDelivery last.sent x.0 x.1.event) entries
unfolding Stand all_events
owned_from fetches [] world last stand runs = tt
owned_from fetches (x ∷ entries) world last stand runs = (
  went_to world.sent last.sent x.0 stand.0.node x.1.event (run-sent live_config world last (all_events (x ∷ entries)) runs) stand.0.seated stand.0.owned,
  owned_from fetches entries (happens live_config world x.1.event) last stand.1 (run-cons live_config world last x.1.event (all_events entries) runs).1,
)

pub book_owned : (entries : LiveEntries) (fetches : List (ℕ × Fetched)) (refused : Option (Refused LiveEntry)) → (book : IsLiveBook entries fetches refused) → Each (λ x. IsOwnDelivery book.world.sent x.0 x.1.event) entries
unfolding run
book_owned entries fetches refused book = owned_from fetches entries (first_world live_config) book.world book.stand book.runs

-- ---- kinds and ranges
kinds_from : (fetches : List (ℕ × Fetched)) (entries : LiveEntries) (world : WorldState) → Stand fetches world entries → Each (λ event. is_live event ≡ true) (all_events entries)
unfolding Stand all_events
kinds_from fetches [] world stand = tt
kinds_from fetches (x ∷ entries) world stand = (stand.0.kind, kinds_from fetches entries (happens live_config world x.1.event) stand.1)

ranges_from : (fetches : List (ℕ × Fetched)) (entries : LiveEntries) (world : WorldState) → Stand fetches world entries → Each (λ event. fits_event 1 event ≡ true) (all_events entries)
unfolding Stand all_events
ranges_from fetches [] world stand = tt
ranges_from fetches (x ∷ entries) world stand = (stand.0.ranged, ranges_from fetches entries (happens live_config world x.1.event) stand.1)

pub book_live : (entries : LiveEntries) (fetches : List (ℕ × Fetched)) (refused : Option (Refused LiveEntry)) → (book : IsLiveBook entries fetches refused) → Each (λ event. is_live event ≡ true) (all_events entries)
book_live entries fetches refused book = kinds_from fetches entries (first_world live_config) book.stand

pub book_ranged : (entries : LiveEntries) (fetches : List (ℕ × Fetched)) (refused : Option (Refused LiveEntry)) → (book : IsLiveBook entries fetches refused) → Each (λ event. fits_event 1 event ≡ true) (all_events entries)
book_ranged entries fetches refused book = ranges_from fetches entries (first_world live_config) book.stand
