-- Why a run stops at a line whose event the world refuses.
use Rattle.std.specs.Prelude.{ℕ, Option, Some, None}
use Rattle.eris_words.specs.declared.reason.Reason.TheVariants as reason
use Rattle.eris_event.specs.declared.refusal.Refusal.{Refusal}
use Rattle.eris_event.specs.declared.refusal.Refusal.TheVariants as refusals
use Rattle.eris_event.specs.declared.limit.Limit.TheVariants as limit
use Rattle.eris_status.specs.declared.refused.Stop.{Stop}
use Rattle.eris_status.specs.declared.refused.Stop.TheVariants as stop
use Rattle.eris_status.specs.declared.refused.Why.{Why}
use Rattle.eris_status.specs.declared.refused.Why.TheVariants as why

-- why a line is refused whose event the world refuses; None for want of memory, which is no cause of a line's refusal
abbrev pub why_of : Refusal → Option Why
why_of refusals.NoSuchClient = Some (why.Reason reason.NoSuchClient)
why_of refusals.NoSuchShard = Some (why.Reason reason.NoSuchShard)
why_of refusals.NoSuchTxn = Some (why.Reason reason.NoSuchTxn)
why_of refusals.OwnTxn = Some (why.Reason reason.OwnTxn)
why_of refusals.NotGeneral = Some (why.Reason reason.NotGeneral)
why_of refusals.NoSuchPacket = Some (why.Reason reason.NoSuchPacket)
why_of refusals.NoSuchSequencer = Some (why.Reason reason.NoSuchSequencer)
why_of refusals.NoSuchReplica = Some (why.Reason reason.NoSuchReplica)
why_of refusals.Crashed = Some (why.Reason reason.Crashed)
why_of refusals.IsMessage = Some (why.Reason reason.IsMessage)
why_of refusals.NoMemory = None
why_of refusals.Packets = Some (why.Limit limit.Packets)
why_of refusals.Bytes = Some (why.Limit limit.Bytes)

-- the run stops at this line, which is refused where there is a cause of that
abbrev pub stop_for : ℕ → Option Why → Stop
stop_for number None = stop.NoMemory
stop_for number (Some found) = stop.Refused (record { line = number; why = found })

-- the run stops at this line, since the world refused its event
abbrev pub stop_at : ℕ → Refusal → Stop
stop_at number cause = stop_for number (why_of cause)
