-- The words of which one has to stand at a place.
use Rattle.std.specs.Prelude.{ℕ, true, Option, List, [], ◌∷◌, bytes_eq, codes, find}
use Rattle.eris_grammar.specs.declared.fixed_words.ClauseWord.{ClauseWord}
use Rattle.eris_grammar.specs.declared.fixed_words.ClauseWord.TheVariants as clause
use Rattle.eris_grammar.specs.declared.fixed_words.LineWord.{LineWord}
use Rattle.eris_grammar.specs.declared.fixed_words.LineWord.TheVariants as line
use Rattle.eris_grammar.specs.declared.fixed_words.NodeWord.{NodeWord}
use Rattle.eris_grammar.specs.declared.fixed_words.NodeWord.TheVariants as node
use Rattle.eris_grammar.specs.declared.fixed_words.OpWord.{OpWord}
use Rattle.eris_grammar.specs.declared.fixed_words.OpWord.TheVariants as op
use Rattle.eris_words.specs.declared.reason.Reason.TheVariants.{Word}
use Rattle.eris_words.specs.Forms.{Form, one_word}

-- the entry of a table that a word spells
abbrev pub spelled_so : {X : Type 0} → (X → List ℕ) → List X → List ℕ → Option X
spelled_so text all word = find (λ known. bytes_eq (text known) word) all

-- one of the words that a table gives
abbrev pub of_table : {X : Type 0} → (X → List ℕ) → List X → Form X
of_table text all = one_word Word text (spelled_so text all) (λ known. true)

-- what a line asks
abbrev pub line_word_text : LineWord → List ℕ
line_word_text line.Submit = codes "submit"
line_word_text line.General = codes "general"
line_word_text line.Retry = codes "retry"
line_word_text line.Abort = codes "abort"
line_word_text line.Deliver = codes "deliver"
line_word_text line.Flow = codes "flow"
line_word_text line.Lose = codes "lose"
line_word_text line.Probe = codes "probe"
line_word_text line.Suspect = codes "suspect"
line_word_text line.Sync = codes "sync"
line_word_text line.Crash = codes "crash"
line_word_text line.Nudge = codes "nudge"
line_word_text line.Replace = codes "replace"
line_word_text line.Noise = codes "noise"

abbrev pub all_line_words : List LineWord
all_line_words =
    line.Submit ∷ line.General ∷ line.Retry ∷ line.Abort ∷ line.Deliver ∷ line.Flow ∷ line.Lose ∷ line.Probe ∷ line.Suspect
    ∷ line.Sync ∷ line.Crash ∷ line.Nudge ∷ line.Replace ∷ line.Noise ∷ []

unfoldable pub line_word : Form LineWord
line_word = of_table line_word_text all_line_words

-- what an operation does
abbrev pub op_word_text : OpWord → List ℕ
op_word_text op.Get = codes "get"
op_word_text op.Put = codes "put"
op_word_text op.Del = codes "del"
op_word_text op.Add = codes "add"
op_word_text op.Cas = codes "cas"

abbrev pub all_op_words : List OpWord
all_op_words =
    op.Get ∷ op.Put ∷ op.Del ∷ op.Add ∷ op.Cas ∷ []

unfoldable pub op_word : Form OpWord
op_word = of_table op_word_text all_op_words

-- what a clause of a plan asks or does
abbrev pub clause_word_text : ClauseWord → List ℕ
clause_word_text clause.Guard = codes "guard"
clause_word_text clause.Set = codes "set"
clause_word_text clause.Plus = codes "plus"
clause_word_text clause.Minus = codes "minus"

abbrev pub all_clause_words : List ClauseWord
all_clause_words =
    clause.Guard ∷ clause.Set ∷ clause.Plus ∷ clause.Minus ∷ []

unfoldable pub clause_word : Form ClauseWord
clause_word = of_table clause_word_text all_clause_words

-- which kind of node gets noise
abbrev pub node_word_text : NodeWord → List ℕ
node_word_text node.Sequencer = codes "seq"
node_word_text node.Coordinator = codes "coord"
node_word_text node.Replica = codes "rep"
node_word_text node.Client = codes "cli"

abbrev pub all_node_words : List NodeWord
all_node_words =
    node.Sequencer ∷ node.Coordinator ∷ node.Replica ∷ node.Client ∷ []

unfoldable pub node_word : Form NodeWord
node_word = of_table node_word_text all_node_words
