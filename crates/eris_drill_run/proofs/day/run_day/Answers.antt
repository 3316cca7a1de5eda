use Rattle.eris_drill_run.proofs.Telling.{days_due, lines_due}
use Rattle.eris_drill_run.proofs.day.run_day.Goals as goal

pub close_day-requires-clause-bank : goal.close_day-requires-clause-bank
close_day-requires-clause-bank c = (c.drills_end.ensures.ran c.args.number c.requires.few (record { config = c.in-Ok.world.config; world = c.in-Ok.world.state }) (rw c.requires.script at c.in-Ok.ensures.ok.ran)).0

pub returns-in-Ok : goal.returns-in-Ok
returns-in-Ok c = days_due c.requires.few c.drills_end.ensures.ran c.drills_keep_their_money.ensures.count c.drills_keep_their_money.ensures.good c.drills_keep_their_money.ensures.total
    (record { config = c.in-Ok.world.config; world = c.in-Ok.world.state }) c.close_day.result (rw c.requires.script at c.in-Ok.ensures.ok.ran) c.close_day.ensures

pub returns-in-Err-Refused : goal.returns-in-Err-Refused
returns-in-Err-Refused c = lines_due c.requires.few c.drills_end.ensures.limit c.drills_end.ensures.accepted
    c.in-Err-Refused.refused c.refuse_line.result (rw (c.in-Err-Refused.field-0-is, c.requires.script) at c.in-Err-Refused.ensures.bad) c.refuse_line.ensures
