use Rattle.std.proofs.Common.{sym}
use Rattle.eris_run.proofs.LineRuns.{IsFirst, behind_header, script_refused_so, script_taken_so, without_header}
use Rattle.eris_run.proofs.script_run.run_text.Goals as goal

pub returns-in-Err-clause-bad : goal.returns-in-Err-clause-bad
returns-in-Err-clause-bad c =
    let first : IsFirst c.args.text.now c.first_line.result.0.now c.first_line.result.1.now = record { some = c.first_line.ensures.lines; none = c.first_line.ensures.none } in
    without_header first (sym c.in-Err.ensures.exact)

pub returns-in-Ok-clause-bad : goal.returns-in-Ok-clause-bad
returns-in-Ok-clause-bad c =
    let first : IsFirst c.args.text.now c.first_line.result.0.now c.first_line.result.1.now = record { some = c.first_line.ensures.lines; none = c.first_line.ensures.none } in
    script_refused_so _ _ _ _ (behind_header first (sym c.in-Ok.ensures.exact)) c.run_behind.ensures.bad

pub returns-in-Ok-clause-ok : goal.returns-in-Ok-clause-ok
returns-in-Ok-clause-ok c =
    let first : IsFirst c.args.text.now c.first_line.result.0.now c.first_line.result.1.now = record { some = c.first_line.ensures.lines; none = c.first_line.ensures.none } in
    script_taken_so _ _ _ _ (behind_header first (sym c.in-Ok.ensures.exact)) c.run_behind.ensures.ok
