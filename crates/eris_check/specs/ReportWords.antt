-- The words that tell what a line of a report is, what became of a transaction, and what a replica does.
use Rattle.std.specs.Prelude.{ℕ, List, [], ◌∷◌, codes}
use Rattle.eris_audit.specs.declared.outcome.Outcome.{Outcome}
use Rattle.eris_audit.specs.declared.outcome.Outcome.TheVariants.{Done, Committed, Aborted, Pending}
use Rattle.eris_event.specs.declared.report.ReplicaState.{ReplicaState}
use Rattle.eris_event.specs.declared.report.ReplicaState.TheVariants.{Crashed, Stopped, Normal, Changing}
use Rattle.eris_grammar.specs.FixedWords.{of_table}
use Rattle.eris_report.specs.OrderText.{outcome_word}
use Rattle.eris_report.specs.ReplicaText.{state_word}
use Rattle.eris_words.specs.Forms.{Form}
use Rattle.eris_check.specs.declared.fixed_words.LineWord.{LineWord}
use Rattle.eris_check.specs.declared.fixed_words.LineWord.TheVariants as line

abbrev pub line_word_text : LineWord → List ℕ
line_word_text line.Submit = codes "submit"
line_word_text line.General = codes "general"
line_word_text line.Read = codes "read"
line_word_text line.Answer = codes "answer"
line_word_text line.Told = codes "told"
line_word_text line.Order = codes "order"
line_word_text line.Replica = codes "replica"
line_word_text line.Coordinator = codes "coordinator"
line_word_text line.Sent = codes "sent"
line_word_text line.End = codes "end"

abbrev pub all_line_words : List LineWord
all_line_words =
    line.Submit ∷ line.General ∷ line.Read ∷ line.Answer ∷ line.Told ∷ line.Order ∷ line.Replica ∷ line.Coordinator ∷ line.Sent
    ∷ line.End ∷ []

unfoldable pub line_word : Form LineWord
line_word = of_table line_word_text all_line_words

abbrev pub all_outcomes : List Outcome
all_outcomes = Done ∷ Committed ∷ Aborted ∷ Pending ∷ []

unfoldable pub outcome : Form Outcome
outcome = of_table outcome_word all_outcomes

abbrev pub all_states : List ReplicaState
all_states = Crashed ∷ Stopped ∷ Normal ∷ Changing ∷ []

unfoldable pub state : Form ReplicaState
state = of_table state_word all_states
