-- Packets that a shard's store takes, and what it answers, in the messages' ranges.
use Rattle.std.specs.Prelude.{◌≡◌, true, Option, Some, None, ⊤}
use Rattle.eris_txn.specs.declared.answer.Answer.{Answer}
use Rattle.eris_txn.specs.declared.packet.Packet.{Packet}
use Rattle.eris_locks.specs.declared.done.Done.{Done}
use Rattle.eris_in_place.specs.MessageRanges.{PacketFits}
use Rattle.eris_codec.specs.Fields as f
use Rattle.eris_rules.specs.InPlace.{names_participants}

-- a packet that is in its ranges, and names exactly its participants
pub record PacketIsRight (packet : Packet) : Type 0 where
  pub fits : PacketFits packet
  pub exact : names_participants packet ≡ true

abbrev pub AnswerFits : Answer → Type 0
AnswerFits answer = f.answer.fits answer ≡ true

-- the answer fits, where there is one
abbrev pub KeptFits : Option Answer → Type 0
KeptFits None = ⊤
KeptFits (Some answer) = AnswerFits answer

-- what a late answer is sent with
pub record DoneFits (done : Done) : Type 0 where
  pub id : f.id.fits done.id ≡ true
  pub answer : AnswerFits done.answer
