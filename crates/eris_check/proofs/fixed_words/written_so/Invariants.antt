use Rattle.std.proofs.Common.{◌≡◌, length}
use Rattle.eris_grammar.specs.FixedWords.{spelled_so}
use Rattle.eris_check.proofs.fixed_words.written_so.Given as goal

abbrev pub invariant-loop-rest : goal.invariant-loop-rest
invariant-loop-rest g l = spelled_so g.T.FixedWord.written l.rest l.word ≡ spelled_so g.T.FixedWord.written l.fn.all l.word

abbrev pub decreases-loop-rest : goal.decreases-loop-rest
decreases-loop-rest g l = length l.rest
