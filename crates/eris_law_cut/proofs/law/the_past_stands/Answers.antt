use Rattle.eris_law_cut.proofs.Settled.{past_answers, past_decided, past_lines, past_reads, past_results}
use Rattle.eris_law_cut.proofs.law.the_past_stands.Goals as goal

pub returns-clause-lines : goal.returns-clause-lines
returns-clause-lines c = past_lines

pub returns-clause-decided : goal.returns-clause-decided
returns-clause-decided c = past_decided

pub returns-clause-results : goal.returns-clause-results
returns-clause-results c = past_results

pub returns-clause-reads : goal.returns-clause-reads
returns-clause-reads c = past_reads

pub returns-clause-answers : goal.returns-clause-answers
returns-clause-answers c = past_answers
