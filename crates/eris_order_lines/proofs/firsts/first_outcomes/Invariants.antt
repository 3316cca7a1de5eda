use Rattle.std.proofs.Common.{◌≡◌, drop}
use Rattle.std.specs.Option.{unwrap_or}
use Rattle.eris_base.specs.declared.ids.TxnId.{TxnId}
use Rattle.eris_order.specs.Orders.{outcome_at, outcome_from}
use Rattle.eris_order_lines.specs.Noted.{noted_in}
use Rattle.eris_order_lines.proofs.firsts.first_outcomes.Given as goal

abbrev pub invariant-loop-packet : goal.invariant-loop-packet
invariant-loop-packet l = (id : TxnId) → outcome_from (outcome_at id l.packets) ≡ unwrap_or (noted_in l.firsts id) (outcome_from (outcome_at id (drop l.packet-index l.packets)))
