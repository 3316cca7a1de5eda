use Rattle.std.proofs.Common.{[], refl}
use Rattle.eris_law_serial.proofs.FirstPackets.{first_outcome, line_is_own, lines_once, own_has_line}
use Rattle.eris_law_serial.proofs.OrderLines.{lines_before}
use Rattle.eris_law_serial.proofs.law.lines_follow_the_order.Goals as goal

pub returns-clause-once : goal.returns-clause-once
returns-clause-once c = lines_once

pub returns-clause-own : goal.returns-clause-own
returns-clause-own c = own_has_line

pub returns-clause-of_own : goal.returns-clause-of_own
returns-clause-of_own c = line_is_own

pub returns-clause-behind : goal.returns-clause-behind
returns-clause-behind c = λ order first second behind has. lines_before first second order [] [] behind refl has

pub returns-clause-outcome : goal.returns-clause-outcome
returns-clause-outcome c = first_outcome
