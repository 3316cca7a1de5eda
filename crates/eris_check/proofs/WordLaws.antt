-- A word of a table is read as just the entry that it spells.
use Rattle.std.proofs.Common.{◌≡◌, ℕ, Bool, true, false, cond, bytes_eq, Some, List, [], ◌∷◌, refl, sym, ap, ◌∙◌}
use Rattle.std.proofs.lemmas.Slice.Eq.{bytes_eq-Decides}
use Rattle.eris_audit.specs.declared.outcome.Outcome.{Outcome}
use Rattle.eris_audit.specs.declared.outcome.Outcome.TheVariants.{Done, Committed, Aborted, Pending}
use Rattle.eris_event.specs.declared.report.ReplicaState.{ReplicaState}
use Rattle.eris_event.specs.declared.report.ReplicaState.TheVariants.{Crashed, Stopped, Normal, Changing}
use Rattle.eris_grammar.specs.FixedWords.{of_table, spelled_so}
use Rattle.eris_report.specs.OrderText.{outcome_word}
use Rattle.eris_report.specs.ReplicaText.{state_word}
use Rattle.eris_words.specs.declared.reason.Reason.TheVariants.{Word}
use Rattle.eris_words.proofs.FormLaws.{is_plain, IsForm, is_one_word}
use Rattle.eris_check.specs.declared.fixed_words.LineWord.{LineWord}
use Rattle.eris_check.specs.declared.fixed_words.LineWord.TheVariants as line
use Rattle.eris_check.specs.ReportWords.{all_line_words, all_outcomes, all_states, line_word, line_word_text, outcome, state}

spelled_only : {X : Type 0} (text : X → List ℕ) (all : List X) (word : List ℕ) (x : X) → spelled_so text all word ≡ Some x → word ≡ text x
spelled_only text [] word x found = absurd cc
spelled_only {X = X} text (known ∷ all) word x found = of_test (bytes_eq (text known) word) refl (spelled_only text all word x) found
  where
    of_test : (test : Bool) → test ≡ bytes_eq (text known) word → (spelled_so text all word ≡ Some x → word ≡ text x) →
        cond test (Some known) (spelled_so text all word) ≡ Some x → word ≡ text x
    of_test true is rest found =
        let same : known ≡ x = cc in
        sym ((bytes_eq-Decides (text known) word).0 (sym is)) ∙ ap text same
    of_test false is rest found = rest found

is_table : {X : Type 0} (text : X → List ℕ) (all : List X) → ((x : X) → spelled_so text all (text x) ≡ Some x) → ((x : X) → is_plain (text x) ≡ true) →
    IsForm (of_table text all)
is_table text all again plain = is_one_word Word text (spelled_so text all) (λ _. true) (record {
  takes = λ word x found. (spelled_only text all word x found, refl);
  again = λ x fine. again x;
  plain = λ x fine. plain x;
})

line_again : (word : LineWord) → spelled_so line_word_text all_line_words (line_word_text word) ≡ Some word
line_again line.Submit = refl
line_again line.General = refl
line_again line.Read = refl
line_again line.Answer = refl
line_again line.Told = refl
line_again line.Order = refl
line_again line.Replica = refl
line_again line.Coordinator = refl
line_again line.Sent = refl
line_again line.End = refl

line_plain : (word : LineWord) → is_plain (line_word_text word) ≡ true
line_plain line.Submit = refl
line_plain line.General = refl
line_plain line.Read = refl
line_plain line.Answer = refl
line_plain line.Told = refl
line_plain line.Order = refl
line_plain line.Replica = refl
line_plain line.Coordinator = refl
line_plain line.Sent = refl
line_plain line.End = refl

pub is_line_word : IsForm line_word
unfolding line_word
is_line_word = is_table line_word_text all_line_words line_again line_plain

outcome_again : (word : Outcome) → spelled_so outcome_word all_outcomes (outcome_word word) ≡ Some word
outcome_again Done = refl
outcome_again Committed = refl
outcome_again Aborted = refl
outcome_again Pending = refl

outcome_plain : (word : Outcome) → is_plain (outcome_word word) ≡ true
outcome_plain Done = refl
outcome_plain Committed = refl
outcome_plain Aborted = refl
outcome_plain Pending = refl

pub is_outcome : IsForm outcome
unfolding outcome
is_outcome = is_table outcome_word all_outcomes outcome_again outcome_plain

state_again : (word : ReplicaState) → spelled_so state_word all_states (state_word word) ≡ Some word
state_again Crashed = refl
state_again Stopped = refl
state_again Normal = refl
state_again Changing = refl

state_plain : (word : ReplicaState) → is_plain (state_word word) ≡ true
state_plain Crashed = refl
state_plain Stopped = refl
state_plain Normal = refl
state_plain Changing = refl

pub is_state : IsForm state
unfolding state
is_state = is_table state_word all_states state_again state_plain
