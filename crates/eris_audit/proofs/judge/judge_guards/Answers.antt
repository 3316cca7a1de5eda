use Rattle.std.proofs.Common.{List, [], sym, subst}
use Rattle.eris_base.specs.Each.{EachAfter}
use Rattle.eris_audit.specs.IsSerial.{GuardsHold}
use Rattle.eris_audit.specs.Lines.{Line, StandsOnce, lines_of}
use Rattle.eris_audit.specs.Verdicts.{FromEvents}
use Rattle.eris_audit.proofs.Turns.{order_lines-once}
use Rattle.eris_audit.proofs.Verdicts.{found_none}
use Rattle.eris_audit.proofs.judge.judge_guards.Goals as goal

pub judge_events-requires-clause-once : goal.judge_events-requires-clause-once
judge_events-requires-clause-once c =
    subst (EachAfter StandsOnce []) (sym c.requires.lines) (order_lines-once c.args.submits.now [] (lines_of c.args.order.now) c.requires.order_lines)

pub returns : goal.returns
returns c =
    let history = c.args.submits.now in
    let lines = lines_of c.args.order.now in
    let verdict = c.judge_events.result in
    found_none 3 (GuardsHold history) lines (FromEvents history lines) c.in_ok-line.field-0 verdict c.in_ok-line.ensures.found c.in-None.is
    (subst (λ (some : List Line). FromEvents history some verdict) c.requires.lines c.judge_events.ensures)
