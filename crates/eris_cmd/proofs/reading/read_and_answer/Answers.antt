use Rattle.eris_cmd.proofs.InputsDue.{due_for_all, due_for_whole}
use Rattle.eris_cmd.proofs.reading.read_and_answer.Goals as goal

pub returns-in_ok-due_for-in-Ok-clause-ok : goal.returns-in_ok-due_for-in-Ok-clause-ok
returns-in_ok-due_for-in-Ok-clause-ok g c =
    due_for_whole c.args.command c.args.limit _ _ c.requires c.in-Ok.ensures.ok (rw c.as_slice.ensures at c.in_ok-due_for-in-Ok.ensures)

pub returns-in_ok-due_for-in-Ok-clause-all : goal.returns-in_ok-due_for-in-Ok-clause-all
returns-in_ok-due_for-in-Ok-clause-all g c =
    due_for_all c.args.command _ c.args.limit _ _ c.in-Ok.ensures.all (rw c.as_slice.ensures at c.in_ok-due_for-in-Ok.ensures)
