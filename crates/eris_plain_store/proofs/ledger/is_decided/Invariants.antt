use Rattle.std.proofs.Common.{◌≡◌, drop}
use Rattle.eris_locks.specs.States.{is_decided}
use Rattle.eris_plain_store.specs.Ledgers.{decided_in}
use Rattle.eris_plain_store.proofs.ledger.is_decided.Given as goal

abbrev pub invariant-loop-entry : goal.invariant-loop-entry
invariant-loop-entry l = is_decided (decided_in (drop l.entry-index l.decided) l.id) ≡ is_decided (decided_in l.decided l.id)
