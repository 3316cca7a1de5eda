-- What contracts see of the book of a live run, and how it finds what is pending.
use Rattle.std.specs.Prelude.{◌≡◌, ◌<◌, ◌≤◌, ℕ, true, Option, Some, None, List, [], map, length, slice_get}
use Rattle.eris_base.specs.Each.{Each}
use Rattle.eris_msg.specs.declared.outgoing.Outgoing.{Outgoing}
use Rattle.eris_msg.specs.Spellings.{spelling}
use Rattle.eris_in_place.specs.MessageRanges.{SendsFit}
use Rattle.eris_network.specs.Limits.{AreCountsOf, byte_limit, packet_limit}
use Rattle.eris_network.specs.declared.sent_counts.SentCounts.{SentCounts}
use Rattle.eris_journal.specs.Lists.{own}
use Rattle.eris_journal.specs.Packets.{is_fetched}
use Rattle.eris_journal.specs.Parts.{Refused}
use Rattle.eris_journal.specs.declared.fetched.Fetched.{Fetched}
use Rattle.eris_law_live.specs.LiveBooks.{IsLiveBook, LiveEntries}
use Rattle.eris_law_live.specs.LiveNodes.{number_of}
use Rattle.eris_law_live.specs.LiveSteps.{IsLiveStep}
use Rattle.eris_law_live.specs.declared.entry.LiveEntry.{LiveEntry}
use Rattle.eris_live_book.specs.Places.{IsPlaceIn, sent_by}
use Rattle.eris_live_book.specs.declared.fetch.Fetch.{Fetch}
use Rattle.eris_live_book.specs.declared.place.Place.{Place}
use Rattle.eris_live_book.specs.declared.post.Post.{Post}

-- the entries with their nodes' numbers, the fetched packets with theirs, and the refused entry
pub record LiveBookValue : Type 0 where
  pub entries : LiveEntries
  pub fetches : List (ℕ × Fetched)
  pub refused : Option (Refused LiveEntry)

-- A LEGAL BOOK is that of a live run
abbrev pub IsLegal : LiveBookValue → Type 0
IsLegal book = IsLiveBook book.entries book.fetches book.refused

-- WHAT MAY BE ADDED: a step of its node, whose messages' fields are in their ranges
abbrev pub IsRangedStep : ℕ → List LiveEntry → List Fetched → LiveEntry → Type 0
IsRangedStep node entries fetched entry = IsLiveStep node entries fetched entry × SendsFit entry.sent

-- ---- what the posts stand for
abbrev pub entry_of : Post → ℕ × LiveEntry
entry_of post = (post.node, record { event = post.event; sent = post.sent })

abbrev pub entries_of : List Post → LiveEntries
entries_of posts = map entry_of posts

-- the bytes of a packet, if there is one
abbrev pub bytes_of : Option Outgoing → List ℕ
bytes_of None = []
bytes_of (Some one) = spelling one.message

abbrev pub fetched_of : List Outgoing → Fetch → ℕ × Fetched
fetched_of sent fetch = (fetch.node, record { number = fetch.number; message = bytes_of (slice_get sent fetch.number) })

abbrev pub fetches_of : List Outgoing → List Fetch → List (ℕ × Fetched)
fetches_of sent fetched = map (fetched_of sent) fetched

-- ---- how the book finds what is pending
-- A NODE'S FETCHED PACKETS ARE THE FIRST OF THOSE SENT TO IT: all those below a number, and none from it on
pub record AreFirst (sent : List Outgoing) (node low : ℕ) (fetched : List Fetched) : Type 0 where
  pub below : (number : ℕ) (one : Outgoing) → number < low → slice_get sent number ≡ Some one → number_of one.to ≡ node → is_fetched number fetched ≡ true
  pub above : Each (λ packet. packet.number < low) fetched

-- each node's place is where its next packet is looked for
pub record IsKeptBook (posts : List Post) (counts : SentCounts) (fetched : List Fetch) (places : List Place) : Type 0 where
  pub counted : AreCountsOf (sent_by posts) counts
  pub few : counts.packets ≤ packet_limit
  pub small : counts.bytes ≤ byte_limit
  pub were_sent : Each (λ fetch. fetch.number < length (sent_by posts)) fetched
  pub sized : length places ≡ 11
  pub placed : (node : ℕ) (place : Place) → slice_get places node ≡ Some place
      → IsPlaceIn posts place × AreFirst (sent_by posts) node place.number (own node (fetches_of (sent_by posts) fetched))
