use Rattle.eris_law_drill.proofs.ReadLines.{drill_read, header_read}
use Rattle.eris_law_drill.proofs.law.drills_are_read.Goals as goal

pub returns-clause-header : goal.returns-clause-header
returns-clause-header c = header_read

pub returns-clause-lines : goal.returns-clause-lines
returns-clause-lines c = drill_read
