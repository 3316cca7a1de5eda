use Rattle.std.proofs.Common.{refl}
use Rattle.eris_cmd.proofs.CommandNames.{unknown}
use Rattle.eris_cmd.proofs.command.Command.from_words.Goals as goal

pub returns-in-None-clause-none : goal.returns-in-None-clause-none
returns-in-None-clause-none c = λ none. unknown (c.reader_of.ensures.none none) (c.in-None.ensures.none refl)
