use Rattle.std.proofs.Common.{◌≡◌, drop}
use Rattle.eris_locks.specs.LockTable.{aborted_late}
use Rattle.eris_plain_store.proofs.packets.add_aborted_late.Given as goal

abbrev pub invariant-loop-packet : goal.invariant-loop-packet
invariant-loop-packet l = (aborted_late l.at l.id (drop l.packet-index l.waiting) ≡ aborted_late l.at l.id l.waiting) × (l.dones ≡ l.fn.dones)
