-- What a network is to contracts.
use Rattle.std.specs.Prelude.{⊤, ℕ, ◌==◌, not, Bool, Option, Some, None, List, length, option_map, slice_get}
use Rattle.eris_msg.specs.declared.outgoing.Outgoing.{Outgoing}
use Rattle.eris_frame.specs.Frames.{frame}
use Rattle.eris_msg.specs.Spellings.{IsSpelling, spelling}
use Rattle.eris_network.specs.WaitingNumbers.{WaitingValue}

-- every message that was ever sent, in order of sending; the numbers of those that wait, ascending; and whether
-- it is spent
pub record NetworkValue : Type 0 where
  pub sent : List Outgoing
  pub waiting : List ℕ
  pub spent : Bool

-- it is spent where it doesn't have a number for each message
abbrev pub network_of : List Outgoing → WaitingValue → NetworkValue
network_of sent waiting = record { sent = sent; waiting = waiting.numbers; spent = not (waiting.count == length sent) }

-- the frame of the spelling of the sent message of a number
abbrev pub frame_at : List Outgoing → ℕ → Option (List ℕ)
frame_at sent number = option_map (λ one. frame (spelling one.message)) (slice_get sent number)

-- a sent message has a spelling, which is these bytes; what wasn't sent has none
abbrev pub IsSpelledBy : Option Outgoing → Option (List ℕ) → Type 0
IsSpelledBy None None = ⊤
IsSpelledBy None (Some bytes) = ⊥
IsSpelledBy (Some one) None = ⊥
IsSpelledBy (Some one) (Some bytes) = IsSpelling one.message bytes
