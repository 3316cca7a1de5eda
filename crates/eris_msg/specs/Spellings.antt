-- The one spelling of a message, and which messages, packets and parts have one.
use Rattle.std.specs.Prelude.{◌≡◌, ℕ, Bool, true, List}
use Rattle.eris_msg.specs.declared.message.Message.{Message}
use Rattle.eris_msg.specs.Messages as m

-- the bytes of a message
abbrev pub spelling : Message → List ℕ
spelling x = m.message.spell x

-- whether the fields of a message, packet, part .. are in their ranges
abbrev pub message_fits : Message → Bool
message_fits x = m.message.fits x

-- the bytes are the spelling of the message
pub record IsSpelling (x : Message) (bytes : List ℕ) : Type 0 where
  pub fits : message_fits x ≡ true
  pub spelled : bytes ≡ spelling x
