-- What the kept frames spell.
use Rattle.std.specs.Prelude.{◌≡◌, ◌≤◌, ℕ, true, Option, Some, None, List, map, drop, length, Result, Ok, Err}
use Rattle.eris_base.specs.declared.ids.Node.{Node}
use Rattle.eris_base.specs.Each.{Each}
use Rattle.eris_codec.specs.declared.fault.Wrong.{Wrong}
use Rattle.eris_msg.specs.declared.message.Message.{Message}
use Rattle.eris_msg.specs.declared.outgoing.Outgoing.{Outgoing}
use Rattle.eris_codec.specs.Codecs.{whole}
use Rattle.eris_frame.specs.Frames.{frame}
use Rattle.eris_msg.specs.Messages.{message}
use Rattle.eris_msg.specs.Spellings.{message_fits, spelling}
use Rattle.eris_rules.specs.Refusals.{frame_sizes}
use Rattle.eris_network.specs.declared.kept.Kept.{Kept}
use Rattle.eris_network.specs.Limits.{byte_limit, packet_limit}

-- what was read; where that is no message, any
abbrev pub read_or_any : Result Message Wrong → Message
read_or_any (Ok read) = read
read_or_any (Err wrong) = Message.EpochAsk (record { 0 = 0 })

-- the message of a frame
unfoldable pub message_in : List ℕ → Message
message_in bytes = read_or_any (whole message (drop 4 bytes))

unfoldable pub outgoing_of : Kept → Outgoing
outgoing_of kept = record { to = kept.to; message = message_in kept.frame }

abbrev pub frame_in : Option Kept → Option (List ℕ)
frame_in None = None
frame_in (Some kept) = Some kept.frame

abbrev pub addressee_in : Option Kept → Option Node
addressee_in None = None
addressee_in (Some kept) = Some kept.to

-- THE SENT MESSAGES
abbrev pub sent_of : List Kept → List Outgoing
sent_of kept = map outgoing_of kept

-- a frame is that of the spelling of its message
pub record IsKept (kept : Kept) : Type 0 where
  pub fits : message_fits (message_in kept.frame) ≡ true
  pub framed : kept.frame ≡ frame (spelling (message_in kept.frame))

-- each is, and they are as few and as small as may be
pub record AreFrames (kept : List Kept) (bytes : ℕ) : Type 0 where
  pub each : Each IsKept kept
  pub counted : bytes ≡ frame_sizes (sent_of kept)
  pub few : length kept ≤ packet_limit
  pub small : bytes ≤ byte_limit
