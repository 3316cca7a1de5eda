use Rattle.std.proofs.Common.{◌≡◌, ◌++◌, map, take}
use Rattle.eris_report.specs.HistoryText.{op_answer_word}
use Rattle.eris_words.specs.Words.{spaced}
use Rattle.eris_trace.proofs.happened_text.put_op_answers.Given as goal

abbrev pub invariant-loop-answer : goal.invariant-loop-answer
invariant-loop-answer l = l.out ≡ l.fn.out ++ spaced (map op_answer_word (take l.answer-index l.answers))
