use Rattle.std.proofs.Common.{◌≤◌, length}
use Rattle.eris_journal.specs.Packets.{sent}
use Rattle.eris_try_journal.specs.Bytes.{sends}
use Rattle.eris_try_journal.proofs.ring.round.Given as goal

abbrev pub invariant-loop-node : goal.invariant-loop-node
invariant-loop-node l = length (sent sends l.book.entries) ≤ l.book.most
