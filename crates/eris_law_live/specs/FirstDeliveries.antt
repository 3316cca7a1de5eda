-- Which events deliver a packet for the first time.
use Rattle.std.specs.Prelude.{◌≡◌, ⊤, Some, slice_get, ℕ, ◌+◌, ◌==◌, not, Bool, false, List, [], ◌∷◌, ◌++◌, if◌then◌else◌}
use Rattle.std.specs.List.{filter, list_any, range_with_len}
use Rattle.eris_msg.specs.declared.outgoing.Outgoing.{Outgoing}
use Rattle.eris_event.specs.declared.event.Event.{Event}
use Rattle.eris_law_live.specs.LiveNodes.{number_of}

-- the event delivers the packet of this number
abbrev pub delivers : ℕ → Event → Bool
delivers number (Event.Deliver packet epoch) = packet == number
delivers number event = false

unfoldable pub is_delivered : List Event → ℕ → Bool
is_delivered events number = list_any (delivers number) events

-- of so many sent packets, the numbers of those that no event delivered, ascending
unfoldable pub undelivered : List Event → ℕ → List ℕ
undelivered events count = filter (λ number. not (is_delivered events number)) (range_with_len 0 count)

-- A FIRST DELIVERY: it delivers a packet that no event before it did
abbrev pub is_first : List Event → Event → Bool
is_first before (Event.Deliver packet epoch) = not (is_delivered before packet)
is_first before event = false

-- how many of the later events are first deliveries
unfoldable pub firsts : List Event → List Event → ℕ
firsts before [] = 0
firsts before (event ∷ events) = (if is_first before event then 1 else 0) + firsts (before ++ event ∷ []) events

-- a packet that the node of this number delivers went to it
abbrev pub IsOwnDelivery : List Outgoing → ℕ → Event → Type 0
IsOwnDelivery sent node (Event.Deliver packet epoch) = (one : Outgoing) × (slice_get sent packet ≡ Some one) × (number_of one.to ≡ node)
IsOwnDelivery sent node event = ⊤
