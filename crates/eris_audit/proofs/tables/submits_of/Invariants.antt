use Rattle.std.proofs.Common.{take}
use Rattle.eris_audit.specs.Tables.{AreSubmits}
use Rattle.eris_audit.proofs.tables.submits_of.Given as goal

abbrev pub invariant-loop-event : goal.invariant-loop-event
invariant-loop-event l = AreSubmits (take l.event-index l.events) l.txns.entries
