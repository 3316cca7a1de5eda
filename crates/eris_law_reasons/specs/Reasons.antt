-- WHICH REASONS THE GRAMMAR GIVES: a line is of no form, or its words make no transaction. The state of a system gives the others, and
-- reading a line gives none of those.
use Rattle.std.specs.Prelude.{⊤}
use Rattle.eris_words.specs.declared.reason.Reason.{Reason}
use Rattle.eris_words.specs.declared.reason.Reason.TheVariants.{Header, Word, Number, Key, Hex, End, TooMany, RepeatedKey, UnlockedKey, NoSuchClient, NoSuchShard, NoSuchTxn, OwnTxn, NotGeneral, NoSuchPacket, NoSuchSequencer, NoSuchReplica, Crashed, IsMessage}

abbrev pub IsOfGrammar : Reason → Type 0
IsOfGrammar Header = ⊤
IsOfGrammar Word = ⊤
IsOfGrammar Number = ⊤
IsOfGrammar Key = ⊤
IsOfGrammar Hex = ⊤
IsOfGrammar End = ⊤
IsOfGrammar TooMany = ⊤
IsOfGrammar RepeatedKey = ⊤
IsOfGrammar UnlockedKey = ⊤
IsOfGrammar NoSuchClient = ⊥
IsOfGrammar NoSuchShard = ⊥
IsOfGrammar NoSuchTxn = ⊥
IsOfGrammar OwnTxn = ⊥
IsOfGrammar NotGeneral = ⊥
IsOfGrammar NoSuchPacket = ⊥
IsOfGrammar NoSuchSequencer = ⊥
IsOfGrammar NoSuchReplica = ⊥
IsOfGrammar Crashed = ⊥
IsOfGrammar IsMessage = ⊥
