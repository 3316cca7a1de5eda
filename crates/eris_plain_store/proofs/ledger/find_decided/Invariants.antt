use Rattle.std.proofs.Common.{◌≡◌, drop}
use Rattle.eris_plain_store.specs.Ledgers.{decided_in}
use Rattle.eris_plain_store.proofs.ledger.find_decided.Given as goal

abbrev pub invariant-loop-entry : goal.invariant-loop-entry
invariant-loop-entry l = decided_in (drop l.entry-index l.decided) l.id ≡ decided_in l.decided l.id
