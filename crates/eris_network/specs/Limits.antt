-- How much may be sent.
use Rattle.std.specs.Prelude.{◌≡◌, ◌<◌, ◌+◌, ⊤, ℕ, Some, List, length}
use Rattle.eris_msg.specs.declared.message.Message.{Message}
use Rattle.eris_msg.specs.declared.outgoing.Outgoing.{Outgoing}
use Rattle.eris_event.specs.declared.refusal.Refusal.TheVariants as refusals
use Rattle.eris_rules.specs.Refusals.{frame_size, frame_sizes, limit_met}
use Rattle.eris_network.specs.declared.send_fault.SendFault.{SendFault}
use Rattle.eris_network.specs.declared.send_fault.SendFault.TheVariants.{Packets, Bytes, NoMemory}
use Rattle.eris_network.specs.declared.sent_counts.SentCounts.{SentCounts}

-- how many packets may be sent
abbrev pub packet_limit : ℕ
packet_limit = 262144

-- how many bytes their frames may have
abbrev pub byte_limit : ℕ
byte_limit = 67108864

-- so many bytes are too many for one frame, or memory is out
abbrev pub IsTooLongSpelled : List ℕ → SendFault → Type 0
IsTooLongSpelled spelled Packets = ⊥
IsTooLongSpelled spelled Bytes = byte_limit < 4 + length spelled
IsTooLongSpelled spelled NoMemory = ⊤

-- the frame of one message alone has too many bytes, or memory is out
abbrev pub IsTooLong : Message → SendFault → Type 0
IsTooLong message Packets = ⊥
IsTooLong message Bytes = byte_limit < frame_size message
IsTooLong message NoMemory = ⊤

-- the frames of the messages have more bytes than there is room for, or memory is out
abbrev pub IsTooMuch : ℕ → List Outgoing → SendFault → Type 0
IsTooMuch room sent Packets = ⊥
IsTooMuch room sent Bytes = room < frame_sizes sent
IsTooMuch room sent NoMemory = ⊤

-- so many packets were sent, and their frames have so many bytes
abbrev pub AreCountsOf : List Outgoing → SentCounts → Type 0
AreCountsOf sent counts = (counts.packets ≡ length sent) × (counts.bytes ≡ frame_sizes sent)

-- these sent messages meet the limit that a fault tells of, or memory is out
abbrev pub IsMetBy : List Outgoing → SendFault → Type 0
IsMetBy sent Packets = limit_met sent ≡ Some refusals.Packets
IsMetBy sent Bytes = limit_met sent ≡ Some refusals.Bytes
IsMetBy sent NoMemory = ⊤
