use Rattle.eris_grammar.proofs.HeaderLaws.{header_only, header_read}
use Rattle.eris_grammar.proofs.SpellingLaws.{read_as_spelled}
use Rattle.eris_grammar.proofs.grammar.every_line_is_read_as_spelled.Goals as goal

pub returns-clause-headers : goal.returns-clause-headers
returns-clause-headers c = λ line header. (header_only line header, header_read line header)

pub returns-clause-lines : goal.returns-clause-lines
returns-clause-lines c = read_as_spelled
