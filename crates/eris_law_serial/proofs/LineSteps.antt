-- The lines of an order, by the tests of its first packet. No other file opens the lines. All that is said of lines
-- uses it.
use Rattle.std.proofs.Common.{◌≡◌, Bool, true, false, List, ◌∷◌, refl}
use Rattle.eris_base.specs.declared.ids.TxnId.{TxnId}
use Rattle.eris_base.specs.TxnIds.{is_among}
use Rattle.eris_txn.specs.declared.packet.Packet.{Packet}
use Rattle.eris_locks.specs.States.{is_conclusory}
use Rattle.eris_audit.specs.Lines.{Line, lines_of, line_of}
use Rattle.eris_order.specs.Orders.{order_line, order_lines_from, lines_from}

-- the line of a transaction's first packet
abbrev pub first_line : Packet → List TxnId → List Packet → Line
first_line packet decided later = line_of (order_line packet decided later)

-- a property of lists of lines, by the three kinds of a packet: a conclusory one, one of a transaction that came, and
-- a first one
pub by_packet : (P : List Line → Type 0) (seen decided : List TxnId) (packet : Packet) (packets : List Packet)
    → (is_conclusory packet.body ≡ true → P (lines_from seen (packet.id ∷ decided) packets))
    → (is_conclusory packet.body ≡ false → is_among packet.id seen ≡ true → P (lines_from seen decided packets))
    → (is_conclusory packet.body ≡ false → is_among packet.id seen ≡ false → P (first_line packet decided packets ∷ lines_from (packet.id ∷ seen) decided packets))
    → P (lines_from seen decided (packet ∷ packets))
by_packet P seen decided packet packets concludes repeats acts = by_tests (is_conclusory packet.body) (is_among packet.id seen) refl refl
  where
    by_tests : (test again : Bool) → is_conclusory packet.body ≡ test → is_among packet.id seen ≡ again
        → P (lines_of (elim test [
          | true ↦ order_lines_from seen (packet.id ∷ decided) packets
          | false ↦ elim again [
            | true ↦ order_lines_from seen decided packets
            | false ↦ order_line packet decided packets ∷ order_lines_from (packet.id ∷ seen) decided packets
          ]
        ]))
    by_tests true again is is_again = concludes is
    by_tests false true is is_again = repeats is is_again
    by_tests false false is is_again = acts is is_again
