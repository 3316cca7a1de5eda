use Rattle.std.proofs.Common.{◌≡◌, drop}
use Rattle.eris_plain_store.specs.Ledgers.{recorded_in}
use Rattle.eris_plain_store.proofs.ledger.find_recorded.Given as goal

abbrev pub invariant-loop-entry : goal.invariant-loop-entry
invariant-loop-entry l = recorded_in (drop l.entry-index l.recorded) l.id l.phase ≡ recorded_in l.recorded l.id l.phase
