-- Lists in messages that four bytes can count.
use Rattle.std.specs.Prelude.{ℕ, ◌^◌, Bool, true, ◌&&◌, nat_lt, length}
use Rattle.eris_log.specs.PartValues.{PartValue}
use Rattle.eris_msg.specs.declared.message.Message.{Message}

abbrev pub is_short : ℕ → Bool
is_short len = nat_lt len (2 ^ 32)

abbrev pub is_part_counted : PartValue → Bool
is_part_counted part = is_short (length part.held) && is_short (length part.temp) && is_short (length part.fnd) && is_short (length part.perm)

-- each list of packets and places in the message
abbrev pub is_counted : Message → Bool
is_counted (Message.ViewChange replica view part) = is_part_counted part
is_counted (Message.StartView view part) = is_part_counted part
is_counted (Message.EpochState replica epoch part) = is_part_counted part
is_counted (Message.Settled epoch view number places) = is_short (length places)
is_counted (Message.StartEpoch epoch shard packets) = is_short (length packets)
is_counted message = true
