-- What a book's entries have sent, and which packet is pending for a node.
use Rattle.std.specs.Prelude.{◌≡◌, ◌==◌, ◌&&◌, ◌||◌, ℕ, ◌+◌, ◌<◌, Bool, false, true, not, List, [], ◌∷◌, ◌++◌, Option, None, Some, if◌then◌else◌, slice_get}
use Rattle.eris_journal.specs.declared.fetched.Fetched.{Fetched}
use Rattle.eris_journal.specs.Lists.{own}

-- a packet: the node that it goes to, and its bytes
abbrev pub Packet : Type 0
Packet = ℕ × List ℕ

-- all packets that the entries send, in order. A packet's number is its place, from 0.
abbrev pub sent : {E : Type 0} → (E → List Packet) → List (ℕ × E) → List Packet
sent sends [] = []
sent sends (x ∷ xs) = sends x.1 ++ sent sends xs

-- a packet of this number is among the fetched ones
abbrev pub is_fetched : ℕ → List Fetched → Bool
is_fetched number [] = false
is_fetched number (packet ∷ packets) = (packet.number == number) || is_fetched number packets

-- of packets numbered from the one given: the least number that goes to the node and isn't fetched
abbrev pub pending_from : ℕ → ℕ → List Packet → List Fetched → Option ℕ
pending_from node number [] fetched = None
pending_from node number (packet ∷ packets) fetched =
    if (packet.0 == node) && not (is_fetched number fetched) then Some number else pending_from node (number + 1) packets fetched

-- the least number that was sent to the node and that the node hasn't fetched
abbrev pub pending : {E : Type 0} → (E → List Packet) → List (ℕ × E) → List (ℕ × Fetched) → ℕ → Option ℕ
pending sends entries fetches node = pending_from node 0 (sent sends entries) (own node fetches)

-- nothing is pending: each packet that goes to the node was fetched
abbrev pub IsNothing : ℕ → List Packet → List Fetched → Type 0
IsNothing node packets fetched = (number : ℕ) (packet : Packet) → slice_get packets number ≡ Some packet → packet.0 ≡ node → is_fetched number fetched ≡ true

-- the number is the least of a packet that goes to the node and wasn't fetched
abbrev pub IsLeast : ℕ → List Packet → List Fetched → ℕ → Type 0
IsLeast node packets fetched number =
    ((bytes : List ℕ) × (slice_get packets number ≡ Some (node, bytes)))
    × (is_fetched number fetched ≡ false)
    × ((other : ℕ) (packet : Packet) → other < number → slice_get packets other ≡ Some packet → packet.0 ≡ node → is_fetched other fetched ≡ true)
