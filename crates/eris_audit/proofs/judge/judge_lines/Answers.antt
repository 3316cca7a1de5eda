use Rattle.std.proofs.Common.{List, subst}
use Rattle.eris_txn.specs.declared.history.HistoryEvent.{HistoryEvent}
use Rattle.eris_audit.specs.IsSerial.{HasItsLine}
use Rattle.eris_audit.specs.Lines.{Line, lines_of}
use Rattle.eris_audit.specs.Verdicts.{Finds, FromGuards, alone}
use Rattle.eris_audit.proofs.Verdicts.{found_line, found_none}
use Rattle.eris_audit.proofs.judge.judge_lines.Goals as goal

pub returns-in-Some : goal.returns-in-Some
returns-in-Some c =
    let history = c.args.submits.now in
    let lines = lines_of c.args.order.now in
    found_line 2 (alone (HasItsLine lines)) history (FromGuards history lines) c.first_without_line.result c.in-Some.line
    (subst (λ (some : List Line). Finds (alone (HasItsLine some)) history c.first_without_line.result) c.requires.lines
    (subst (λ (events : List HistoryEvent). Finds (alone (HasItsLine c.args.table.now)) events c.first_without_line.result) c.events.ensures c.first_without_line.ensures))
    c.in-Some.is

pub returns-in_ok-verdict-in-None : goal.returns-in_ok-verdict-in-None
returns-in_ok-verdict-in-None c =
    let history = c.args.submits.now in
    let lines = lines_of c.args.order.now in
    found_none 2 (alone (HasItsLine lines)) history (FromGuards history lines) c.first_without_line.result c.in_ok-verdict-in-None.verdict
    (subst (λ (some : List Line). Finds (alone (HasItsLine some)) history c.first_without_line.result) c.requires.lines
    (subst (λ (events : List HistoryEvent). Finds (alone (HasItsLine c.args.table.now)) events c.first_without_line.result) c.events.ensures c.first_without_line.ensures))
    c.in-None.is c.in_ok-verdict-in-None.ensures
