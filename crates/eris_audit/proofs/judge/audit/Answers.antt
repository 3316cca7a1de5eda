use Rattle.eris_audit.specs.Lines.{lines_of}
use Rattle.eris_audit.proofs.Verdicts.{verdict-serial}
use Rattle.eris_audit.proofs.judge.audit.Goals as goal

pub returns-clause-serial : goal.returns-clause-serial
returns-clause-serial c = verdict-serial c.args.history.now (lines_of c.args.order.now) c.in_ok-verdict.verdict c.in_ok-verdict.ensures
