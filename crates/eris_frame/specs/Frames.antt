-- Messages on a stream: of each its length in four bytes, and then its bytes.
use Rattle.std.specs.Prelude.{◌≡◌, ◌≤◌, ◌+◌, ℕ, Bool, true, false, ◌&&◌, nat_lt, nat_le, Option, Some, None, List, [], ◌∷◌, ◌++◌, length, take, drop, Result, Ok, Err, if◌then◌else◌}
use Rattle.std.specs.Int.{w32, from_be_bytes}
use Rattle.std.specs.List.{flat_map, AllByRecursion}
use Rattle.eris_frame.specs.declared.framing.FrameFault.{FrameFault}
use Rattle.eris_frame.specs.declared.framing.FrameFault.TheVariants as faults
use Rattle.eris_codec.specs.Fields.{word}

-- the length of the longest message
abbrev pub longest : ℕ
longest = 67108860

unfoldable pub frame : List ℕ → List ℕ
frame message = word.spell (length message) ++ message

abbrev pub is_message : List ℕ → Type 0
is_message message = length message ≤ longest

-- the length that stands at the front, where all of its four bytes are there
unfoldable pub length_told : List ℕ → Option ℕ
length_told bytes = if nat_lt (length bytes) 4 then None else Some (from_be_bytes w32 (take 4 bytes))

abbrev pub is_too_long : Option ℕ → Bool
is_too_long None = false
is_too_long (Some n) = nat_lt longest n

-- a length above the limit stands at the front
unfoldable pub is_long : List ℕ → Bool
is_long bytes = is_too_long (length_told bytes)

abbrev pub is_whole : Option ℕ → ℕ → Bool
is_whole None len = false
is_whole (Some n) len = nat_le n longest && nat_le (4 + n) len

-- a whole frame, its length within the limit, stands at the front
unfoldable pub has_frame : List ℕ → Bool
has_frame bytes = is_whole (length_told bytes) (length bytes)

-- where the whole frame ends that begins at this place, if one does
abbrev pub end_told : Option ℕ → ℕ → ℕ → Option ℕ
end_told None at len = None
end_told (Some n) at len = if is_whole (Some n) len then Some (at + 4 + n) else None

unfoldable pub frame_end : List ℕ → ℕ → Option ℕ
frame_end bytes at = end_told (length_told (drop at bytes)) at (length (drop at bytes))

-- the messages whose frames end before a place at which no further frame stands
pub record IsCut (stream : List ℕ) (messages : List (List ℕ)) (at : ℕ) : Type 0 where
  pub within : at ≤ length stream
  pub front : take at stream ≡ flat_map frame messages
  pub each : AllByRecursion is_message messages
  pub ends : has_frame (drop at stream) ≡ false

-- the stream is the frames of these messages, and then a rest, at the front of which no whole frame stands: it
-- is less than one, or a length above the limit comes
pub record Splits (stream : List ℕ) (messages : List (List ℕ)) (rest : List ℕ) : Type 0 where
  pub whole : stream ≡ flat_map frame messages ++ rest
  pub each : AllByRecursion is_message messages
  pub ends : has_frame rest ≡ false

-- what a feed keeps of a rest: all of it, or the length above the limit
unfoldable pub kept : List ℕ → List ℕ
kept rest = if is_long rest then take 4 rest else rest

-- a feed that kept some bytes takes a piece, which completes these messages, and keeps what is left
pub record Feeds (old piece : List ℕ) (messages : List (List ℕ)) (new : List ℕ) : Type 0 where
  pub rest : List ℕ
  pub splits : Splits (old ++ piece) messages rest
  pub keeps : new ≡ kept rest

-- What a feed answers to a piece: the messages that are whole now; or that a length above the limit has come, and
-- no message before it was completed by this piece. Where memory ran out the feed is as before.
abbrev pub Tells : Result (List (List ℕ)) FrameFault → List ℕ → List ℕ → List ℕ → Type 0
Tells (Ok messages) old piece new = Feeds old piece messages new × (messages ≡ [] → is_long new ≡ false)
Tells (Err faults.Long) old piece new = Feeds old piece [] new × (is_long new ≡ true)
Tells (Err faults.NoMemory) old piece new = new ≡ old

-- a feed takes pieces one after the other, and answers this to each
abbrev pub Run : List ℕ → List (List ℕ) → List (Result (List (List ℕ)) FrameFault) → List ℕ → Type 0
Run old [] [] new = new ≡ old
Run old (piece ∷ pieces) (result ∷ results) new = (middle : List ℕ) × Tells result old piece middle × Run middle pieces results new
Run old [] (result ∷ results) new = ⊥
Run old (piece ∷ pieces) [] new = ⊥

-- all messages that were answered
abbrev pub messages_in : List (Result (List (List ℕ)) FrameFault) → List (List ℕ)
messages_in [] = []
messages_in (Ok messages ∷ results) = messages ++ messages_in results
messages_in (Err fault ∷ results) = messages_in results

-- the pieces joined, but for those for which memory ran out
abbrev pub joined : List (List ℕ) → List (Result (List (List ℕ)) FrameFault) → List ℕ
joined (piece ∷ pieces) (Err faults.NoMemory ∷ results) = joined pieces results
joined (piece ∷ pieces) (Err faults.Long ∷ results) = piece ++ joined pieces results
joined (piece ∷ pieces) (Ok messages ∷ results) = piece ++ joined pieces results
joined [] results = []
joined (piece ∷ pieces) [] = []

-- the messages that were answered are those of the joined pieces, and of no other way to split them
pub record AreOfJoined (pieces : List (List ℕ)) (results : List (Result (List (List ℕ)) FrameFault)) : Type 0 where
  pub rest : List ℕ
  pub splits : Splits (joined pieces results) (messages_in results) rest
  pub only : (others : List (List ℕ)) (more : List ℕ) → Splits (joined pieces results) others more → messages_in results ≡ others

abbrev pub PiecesJoin : Type 0
PiecesJoin = (pieces : List (List ℕ)) (results : List (Result (List (List ℕ)) FrameFault)) (new : List ℕ) → Run [] pieces results new → AreOfJoined pieces results
