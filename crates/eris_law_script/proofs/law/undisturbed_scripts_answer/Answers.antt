use Rattle.eris_law_script.proofs.Lines.{script_answers, script_front_answers, undisturbed_lines}
use Rattle.eris_law_script.proofs.law.undisturbed_scripts_answer.Goals as goal

pub returns-clause-lines : goal.returns-clause-lines
returns-clause-lines c = undisturbed_lines

pub returns-clause-script : goal.returns-clause-script
returns-clause-script c = script_answers

pub returns-clause-script_front : goal.returns-clause-script_front
returns-clause-script_front c = script_front_answers
