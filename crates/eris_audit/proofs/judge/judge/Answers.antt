use Rattle.std.proofs.Common.{List, subst}
use Rattle.eris_txn.specs.declared.history.HistoryEvent.{HistoryEvent}
use Rattle.eris_audit.specs.IsSerial.{IsOrderLine}
use Rattle.eris_audit.specs.Lines.{lines_of}
use Rattle.eris_audit.specs.Verdicts.{FromRule2, IsVerdict}
use Rattle.eris_audit.proofs.Verdicts.{found_none}
use Rattle.eris_audit.proofs.judge.judge.Goals as goal

pub returns : goal.returns
returns c =
    let history = c.in_ok-submits.submits in
    let lines = lines_of c.args.order.now in
    let verdict = c.in_ok-verdict-in-None.verdict in
    subst (λ (events : List HistoryEvent). IsVerdict events lines verdict) c.in_ok-submits.ensures
    (found_none 1 (IsOrderLine history) lines (FromRule2 history lines) c.in_ok-line.field-0 verdict c.in_ok-line.ensures.found c.in-None.is c.in_ok-verdict-in-None.ensures)
