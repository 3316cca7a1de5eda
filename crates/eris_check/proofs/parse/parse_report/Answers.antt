use Rattle.eris_check.proofs.MisfitLaws.{read_err, read_ok}
use Rattle.eris_check.proofs.parse.parse_report.Goals as goal

pub returns-clause-ok : goal.returns-clause-ok
returns-clause-ok c = read_ok _ _ c.read_text.ensures

pub returns-clause-err : goal.returns-clause-err
returns-clause-err c = read_err _ _ c.read_text.ensures
