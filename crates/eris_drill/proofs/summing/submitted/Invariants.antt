use Rattle.std.proofs.Common.{◌≡◌, drop}
use Rattle.std.specs.Option.{option_or}
use Rattle.eris_base.specs.declared.ids.TxnId.{TxnId}
use Rattle.eris_audit.specs.Histories.{first_submit}
use Rattle.eris_drill.specs.Submitted.{kept_of}
use Rattle.eris_drill.proofs.summing.submitted.Given as goal

abbrev pub invariant-loop-event : goal.invariant-loop-event
invariant-loop-event l = (id : TxnId) → option_or (kept_of l.kept.entries id) (first_submit (drop l.event-index l.history) id) ≡ first_submit l.history id
