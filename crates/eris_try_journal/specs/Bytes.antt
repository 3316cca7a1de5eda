-- A small book's entry is a list of pairs of a node and a byte. Each pair sends one packet of that
-- byte.
use Rattle.std.specs.Prelude.{◌≡◌, ◌≢◌, ℕ, ◌+◌, ◌≤◌, ◌<◌, List, [], ◌∷◌, map, length, Option, None, Some, nat_le, if◌then◌else◌, slice_get, MatchOption}
use Rattle.eris_base.specs.Each.{Each}
use Rattle.eris_journal.specs.Packets.{Packet, sent}
use Rattle.eris_journal.specs.declared.add_fault.AddFault.{AddFault}
use Rattle.eris_journal.specs.declared.add_fault.AddFault.TheVariants.{Packets}

-- a pair as a packet
abbrev pub packet_of : ℕ × ℕ → Packet
packet_of pair = (pair.0, pair.1 ∷ [])

abbrev pub sends : List (ℕ × ℕ) → List Packet
sends entry = map packet_of entry

-- an entry is a step where all its packets go to nodes below 16
abbrev pub GoesBelow : ℕ → List (ℕ × ℕ) → Type 0
GoesBelow nodes entry = Each (λ pair. pair.0 < nodes) entry

-- the entry would pass the limit of packets
abbrev pub limit : ℕ → List (ℕ × List (ℕ × ℕ)) → List (ℕ × ℕ) → Option AddFault
limit most entries entry = if nat_le (length (sent sends entries) + length entry) most then None else Some Packets

-- where the next packet for the node stands, from a place on
abbrev pub IsNext : List (ℕ × ℕ) → ℕ → ℕ → Option ℕ → Type 0
IsNext pairs node from answer = MatchOption answer
    ((place : ℕ) (pair : ℕ × ℕ) → from ≤ place → slice_get pairs place ≡ Some pair → pair.0 ≢ node)
    (λ number. (from ≤ number) × ((byte : ℕ) × (slice_get pairs number ≡ Some (node, byte)))
    × ((place : ℕ) (pair : ℕ × ℕ) → from ≤ place → place < number → slice_get pairs place ≡ Some pair → pair.0 ≢ node))
