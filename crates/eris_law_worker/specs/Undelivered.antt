-- Which of the packets that a node fetched it hasn't delivered.
use Rattle.std.specs.Prelude.{not, List}
use Rattle.std.specs.List.{filter}
use Rattle.eris_base.specs.Each.{Each}
use Rattle.eris_event.specs.declared.event.Event.{Event}
use Rattle.eris_journal.specs.declared.fetched.Fetched.{Fetched}
use Rattle.eris_law_live.specs.FirstDeliveries.{is_delivered}
use Rattle.eris_law_live.specs.LiveBooks.{WasFetched}

-- the fetched packets that no event of the node delivered, in the order in which they were fetched
abbrev pub undelivered_of : List Fetched → List Event → List Fetched
undelivered_of fetched events = filter (λ packet. not (is_delivered events packet.number)) fetched

-- what the node's events deliver it has fetched
abbrev pub AreFetched : List Fetched → List Event → Type 0
AreFetched fetched events = Each (WasFetched fetched) events
