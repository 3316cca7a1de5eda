-- What contracts see of a small book, and how it finds what is pending.
use Rattle.std.specs.Prelude.{◌≡◌, ℕ, ◌<◌, ◌≤◌, ◌^◌, true, List, map, length, Option, Some, slice_get, slice_index}
use Rattle.eris_base.specs.Each.{Each}
use Rattle.eris_journal.specs.Lists.{own}
use Rattle.eris_journal.specs.Packets.{Packet, sent, is_fetched}
use Rattle.eris_journal.specs.Parts.{Refused}
use Rattle.eris_journal.specs.declared.fetched.Fetched.{Fetched}
use Rattle.eris_try_journal.specs.Bytes.{packet_of, sends, GoesBelow}

-- the most packets that it takes, its entries, the fetched packets, and the refused entry
pub record SmallBookValue : Type 0 where
  pub most : ℕ
  pub entries : List (ℕ × List (ℕ × ℕ))
  pub fetches : List (ℕ × Fetched)
  pub refused : Option (Refused (List (ℕ × ℕ)))

-- a node's cursor: it has fetched what was sent to it below the cursor, and nothing else
pub record IsCursor (node cursor : ℕ) (packets : List Packet) (fetched : List Fetched) : Type 0 where
  pub within : cursor ≤ length packets
  pub below : (number : ℕ) (packet : Packet) → number < cursor → slice_get packets number ≡ Some packet → packet.0 ≡ node → is_fetched number fetched ≡ true
  pub above : Each (λ packet. packet.number < cursor) fetched

-- the pairs of all entries, and the nodes' cursors
pub record IsIndex (entries : List (ℕ × List (ℕ × ℕ))) (fetches : List (ℕ × Fetched)) (pairs : List (ℕ × ℕ)) (cursors : List ℕ) : Type 0 where
  pub all_sent : sent sends entries ≡ map packet_of pairs
  pub few : length pairs < 2 ^ 32
  pub goes_below : GoesBelow 16 pairs
  pub sized : length cursors ≡ 16
  pub cursor : (node : ℕ) → node < 16 → IsCursor node (slice_index cursors node) (map packet_of pairs) (own node fetches)
