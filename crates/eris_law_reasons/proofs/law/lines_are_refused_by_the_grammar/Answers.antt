use Rattle.eris_law_reasons.proofs.GrammarReasons.{header_refused, line_refused}
use Rattle.eris_law_reasons.proofs.law.lines_are_refused_by_the_grammar.Goals as goal

pub returns : goal.returns
returns c = record { headers = header_refused; lines = line_refused }
