-- Which limit sent messages meet. Used where messages are sent.
use Rattle.std.proofs.Common.{◌≡◌, ◌<◌, ◌≤◌, ◌+◌, ◌-◌, ◌++◌, [], List, length, Some, None, Result, Ok, Err, OnOk, refl, ap, arith}
use Rattle.std.proofs.lemmas.List.{length-append}
use Rattle.std.proofs.lemmas.Bool.{lt-ltb, le-ltb}
use Rattle.eris_msg.specs.declared.outgoing.Outgoing.{Outgoing}
use Rattle.eris_event.specs.declared.refusal.Refusal.TheVariants as refusals
use Rattle.eris_rules.specs.Refusals.{frame_sizes, limit_met}
use Rattle.eris_network.specs.declared.send_fault.SendFault.{SendFault}
use Rattle.eris_network.specs.declared.send_fault.SendFault.TheVariants as faults
use Rattle.eris_network.specs.declared.sent_counts.SentCounts.{SentCounts}
use Rattle.eris_network.specs.Limits.{byte_limit, packet_limit, AreCountsOf, IsTooMuch, IsMetBy}
use Rattle.eris_network.proofs.KeptLaws.{frame_sizes-append}

pub too_many_packets : (sent : List Outgoing) → packet_limit < length sent → limit_met sent ≡ Some refusals.Packets
unfolding limit_met
too_many_packets sent lt = rw (lt-ltb packet_limit (length sent) lt) refl

pub too_many_bytes : (sent : List Outgoing) → length sent ≤ packet_limit → byte_limit < frame_sizes sent → limit_met sent ≡ Some refusals.Bytes
unfolding limit_met
too_many_bytes sent le lt = rw (le-ltb packet_limit (length sent) le, lt-ltb byte_limit (frame_sizes sent) lt) refl

pub no_limit : (sent : List Outgoing) → length sent ≤ packet_limit → frame_sizes sent ≤ byte_limit → limit_met sent ≡ None
unfolding limit_met
no_limit sent le few = rw (le-ltb packet_limit (length sent) le, le-ltb byte_limit (frame_sizes sent) few) refl

-- what stands behind so much that was sent
pub met_by : (sent more : List Outgoing) (before : SentCounts) (fault : SendFault) → AreCountsOf sent before → before.packets + length more ≤ packet_limit → before.bytes ≤ byte_limit
    → IsTooMuch (byte_limit - before.bytes) more fault → IsMetBy (sent ++ more) fault
met_by sent more before faults.Packets counts few small h = absurd h
met_by sent more before faults.Bytes counts few small h = too_many_bytes (sent ++ more) (omega (arith, few, counts.0, length-append sent more)) (omega (arith, h, small, counts.1, frame_sizes-append sent more))
met_by sent more before faults.NoMemory counts few small h = tt

pub met_packets : (sent more : List Outgoing) (before : SentCounts) → AreCountsOf sent before → packet_limit < before.packets + length more → IsMetBy (sent ++ more) faults.Packets
met_packets sent more before counts lt = too_many_packets (sent ++ more) (omega (arith, lt, counts.0, length-append sent more))

pub none_met : (sent more : List Outgoing) (before : SentCounts) → AreCountsOf sent before → before.packets + length more ≤ packet_limit → before.bytes + frame_sizes more ≤ byte_limit → limit_met (sent ++ more) ≡ None
none_met sent more before counts few small = no_limit (sent ++ more) (omega (arith, few, counts.0, length-append sent more)) (omega (arith, small, counts.1, frame_sizes-append sent more))

pub counts_of_none : AreCountsOf [] (record { packets = 0; bytes = 0 })
unfolding frame_sizes
counts_of_none = (refl, refl)

-- more were added, and all of it is within the limits
pub all_within : (sent old more now : List Outgoing) (before : SentCounts) → AreCountsOf sent before → before.bytes + frame_sizes old ≤ byte_limit → before.packets + length old + length more ≤ packet_limit
    → (answer : Result (Unit {0}) SendFault) → OnOk answer (now ≡ old ++ more) → OnOk answer (frame_sizes now ≤ byte_limit - before.bytes) → OnOk answer (limit_met (sent ++ (old ++ more)) ≡ None)
all_within sent old more now before counts small few (Err fault) is within = tt
all_within sent old more now before counts small few (Ok done) is within =
    none_met sent (old ++ more) before counts (omega (arith, few, length-append old more)) (omega (arith, within, ap frame_sizes is, small))
