-- An order is a list of stamped packets, each as it was stamped. What it says of transactions and of shards.
use Rattle.std.specs.Prelude.{Bool, true, false, Option, Some, None, List, [], ◌∷◌, if◌then◌else◌}
use Rattle.std.specs.List.{filter}
use Rattle.eris_base.specs.declared.ids.ShardId.{ShardId}
use Rattle.eris_base.specs.declared.ids.TxnId.{TxnId}
use Rattle.eris_txn.specs.declared.answer.Answer.{Answer}
use Rattle.eris_txn.specs.declared.body.Body.{Body}
use Rattle.eris_txn.specs.declared.body.Body.TheVariants.{Independent, Prelim}
use Rattle.eris_txn.specs.declared.packet.Packet.{Packet}
use Rattle.eris_locks.specs.Shards.{names_shard}
use Rattle.eris_locks.specs.ShardRun.{outcome_by}
use Rattle.eris_locks.specs.States.{is_conclusory}
use Rattle.eris_audit.specs.declared.order_line.OrderLine.{OrderLine}
use Rattle.eris_audit.specs.declared.outcome.Outcome.{Outcome}
use Rattle.eris_audit.specs.Lines.{Line, lines_of}
use Rattle.eris_base.specs.TxnIds.{same_id, is_among}

-- THE PACKETS ON A SHARD: those whose stamps name it, in order, whole as they were stamped
abbrev pub packets_on : ShardId → List Packet → List Packet
packets_on shard packets = filter (λ packet. names_shard shard packet) packets

-- what the first conclusory packet of an id says: Committed or Aborted, or None where there is none
abbrev pub outcome_at : TxnId → List Packet → Option Answer
outcome_at id [] = None
outcome_at id (packet ∷ packets) = outcome_by packet.body (same_id id packet.id) (outcome_at id packets)

-- that, as the outcome of a preliminary which no conclusory packet of its id stands before
abbrev pub outcome_from : Option Answer → Outcome
outcome_from None = Outcome.Pending
outcome_from (Some Answer.Committed) = Outcome.Committed
outcome_from (Some answer) = Outcome.Aborted

-- what becomes of the transaction of a first packet: whether a conclusory packet of its id stands before
-- it, and what the first one after it says
abbrev pub outcome_of : Body → Bool → Option Answer → Outcome
outcome_of (Independent operations) decided later = Outcome.Done
outcome_of (Prelim locks) decided later = if decided then Outcome.Aborted else outcome_from later
outcome_of body decided later = Outcome.Aborted

-- the line of a first packet, of the ids decided before it and of the packets after it
abbrev pub order_line : Packet → List TxnId → List Packet → OrderLine
order_line packet decided later = record {
  id = packet.id;
  outcome = outcome_of packet.body (is_among packet.id decided) (outcome_at packet.id later);
  stamp = packet.stamp;
}

-- the lines of a list's rest: `seen` are the ids whose transactions came, `decided` those of which a
-- conclusory packet came
abbrev pub order_lines_from : List TxnId → List TxnId → List Packet → List OrderLine
order_lines_from seen decided [] = []
order_lines_from seen decided (packet ∷ packets) =
    elim (is_conclusory packet.body) [
      | true ↦ order_lines_from seen (packet.id ∷ decided) packets
      | false ↦ elim (is_among packet.id seen) [
        | true ↦ order_lines_from seen decided packets
        | false ↦ order_line packet decided packets ∷ order_lines_from (packet.id ∷ seen) decided packets
      ]
    ]

-- THE LINES OF AN ORDER: one for the first packet of each independent transaction and of each preliminary,
-- in order, with its stamp. An independent one is done. A preliminary has the outcome of the first
-- conclusory packet of its id: pending where there is none, aborted where it stands before the preliminary
-- or is an Abort, else committed.
abbrev pub order_lines : List Packet → List OrderLine
order_lines packets = order_lines_from [] [] packets

-- the same, without the stamps
abbrev pub lines_from : List TxnId → List TxnId → List Packet → List Line
lines_from seen decided packets = lines_of (order_lines_from seen decided packets)

abbrev pub lines : List Packet → List Line
lines packets = lines_from [] [] packets
