use Rattle.std.specs.Prelude.{◌≡◌, false, List, ◌++◌}
use Rattle.eris_base.specs.declared.ids.TxnId.{TxnId}
use Rattle.eris_base.specs.TxnIds.{is_among}
use Rattle.eris_txn.specs.declared.packet.Packet.{Packet}
use Rattle.eris_audit.specs.declared.order_line.OrderLine.{OrderLine}
use Rattle.eris_order.specs.Orders.{order_lines, order_lines_from, outcome_at}

-- Where the rest of an order's packets is still to come: the lines of the others are made, `seen` are the ids whose
-- transactions came, `decided` those of which a conclusory packet came. Of an id that isn't decided, the first
-- conclusory packet is still to come.
pub record LinesSoFar (packets rest : List Packet) (seen decided : List TxnId) (made : List OrderLine) : Type 0 where
  pub lines : order_lines packets ≡ made ++ order_lines_from seen decided rest
  pub undecided : (id : TxnId) → is_among id decided ≡ false → outcome_at id packets ≡ outcome_at id rest
