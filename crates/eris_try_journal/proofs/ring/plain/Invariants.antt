use Rattle.std.proofs.Common.{◌≤◌, length}
use Rattle.eris_journal.specs.Packets.{sent}
use Rattle.eris_try_journal.specs.Bytes.{sends}
use Rattle.eris_try_journal.proofs.ring.plain.Given as goal

abbrev pub invariant-loop-number : goal.invariant-loop-number
invariant-loop-number l = length (sent sends l.book.entries) ≤ l.book.most
