-- A word of a table is read as just the entry that it spells.
use Rattle.std.proofs.Common.{◌≡◌, ℕ, Bool, true, false, cond, bytes_eq, Some, List, [], ◌∷◌, refl, sym, ap, ◌∙◌}
use Rattle.std.proofs.lemmas.Slice.Eq.{bytes_eq-Decides}
use Rattle.eris_grammar.specs.declared.fixed_words.ClauseWord.{ClauseWord}
use Rattle.eris_grammar.specs.declared.fixed_words.ClauseWord.TheVariants as clause
use Rattle.eris_grammar.specs.declared.fixed_words.LineWord.{LineWord}
use Rattle.eris_grammar.specs.declared.fixed_words.LineWord.TheVariants as line
use Rattle.eris_grammar.specs.declared.fixed_words.NodeWord.{NodeWord}
use Rattle.eris_grammar.specs.declared.fixed_words.NodeWord.TheVariants as node
use Rattle.eris_grammar.specs.declared.fixed_words.OpWord.{OpWord}
use Rattle.eris_grammar.specs.declared.fixed_words.OpWord.TheVariants as op
use Rattle.eris_words.specs.declared.reason.Reason.TheVariants.{Word}
use Rattle.eris_grammar.specs.FixedWords.{spelled_so, of_table, line_word_text, all_line_words, line_word, op_word_text, all_op_words, op_word, clause_word_text, all_clause_words, clause_word, node_word_text, all_node_words, node_word}
use Rattle.eris_words.proofs.FormLaws.{is_plain, IsForm, is_one_word}

spelled_only : {X : Type 0} (text : X → List ℕ) (all : List X) (word : List ℕ) (x : X) → spelled_so text all word ≡ Some x → word ≡ text x
spelled_only text [] word x found = absurd cc
spelled_only {X = X} text (known ∷ all) word x found = of_test (bytes_eq (text known) word) refl (spelled_only text all word x) found
  where
    of_test : (test : Bool) → test ≡ bytes_eq (text known) word → (spelled_so text all word ≡ Some x → word ≡ text x) →
        cond test (Some known) (spelled_so text all word) ≡ Some x → word ≡ text x
    of_test true is rest found =
        let same : known ≡ x = cc in
        sym ((bytes_eq-Decides (text known) word).0 (sym is)) ∙ ap text same
    of_test false is rest found = rest found

is_table : {X : Type 0} (text : X → List ℕ) (all : List X) → ((x : X) → spelled_so text all (text x) ≡ Some x) → ((x : X) → is_plain (text x) ≡ true) →
    IsForm (of_table text all)
is_table text all again plain = is_one_word Word text (spelled_so text all) (λ _. true) (record {
  takes = λ word x found. (spelled_only text all word x found, refl);
  again = λ x fine. again x;
  plain = λ x fine. plain x;
})

line_again : (word : LineWord) → spelled_so line_word_text all_line_words (line_word_text word) ≡ Some word
line_again line.Submit = refl
line_again line.General = refl
line_again line.Retry = refl
line_again line.Abort = refl
line_again line.Deliver = refl
line_again line.Flow = refl
line_again line.Lose = refl
line_again line.Probe = refl
line_again line.Suspect = refl
line_again line.Sync = refl
line_again line.Crash = refl
line_again line.Nudge = refl
line_again line.Replace = refl
line_again line.Noise = refl

line_plain : (word : LineWord) → is_plain (line_word_text word) ≡ true
line_plain line.Submit = refl
line_plain line.General = refl
line_plain line.Retry = refl
line_plain line.Abort = refl
line_plain line.Deliver = refl
line_plain line.Flow = refl
line_plain line.Lose = refl
line_plain line.Probe = refl
line_plain line.Suspect = refl
line_plain line.Sync = refl
line_plain line.Crash = refl
line_plain line.Nudge = refl
line_plain line.Replace = refl
line_plain line.Noise = refl

pub is_line_word : IsForm line_word
unfolding line_word
is_line_word = is_table line_word_text all_line_words line_again line_plain

op_again : (word : OpWord) → spelled_so op_word_text all_op_words (op_word_text word) ≡ Some word
op_again op.Get = refl
op_again op.Put = refl
op_again op.Del = refl
op_again op.Add = refl
op_again op.Cas = refl

op_plain : (word : OpWord) → is_plain (op_word_text word) ≡ true
op_plain op.Get = refl
op_plain op.Put = refl
op_plain op.Del = refl
op_plain op.Add = refl
op_plain op.Cas = refl

pub is_op_word : IsForm op_word
unfolding op_word
is_op_word = is_table op_word_text all_op_words op_again op_plain

clause_again : (word : ClauseWord) → spelled_so clause_word_text all_clause_words (clause_word_text word) ≡ Some word
clause_again clause.Guard = refl
clause_again clause.Set = refl
clause_again clause.Plus = refl
clause_again clause.Minus = refl

clause_plain : (word : ClauseWord) → is_plain (clause_word_text word) ≡ true
clause_plain clause.Guard = refl
clause_plain clause.Set = refl
clause_plain clause.Plus = refl
clause_plain clause.Minus = refl

pub is_clause_word : IsForm clause_word
unfolding clause_word
is_clause_word = is_table clause_word_text all_clause_words clause_again clause_plain

node_again : (word : NodeWord) → spelled_so node_word_text all_node_words (node_word_text word) ≡ Some word
node_again node.Sequencer = refl
node_again node.Coordinator = refl
node_again node.Replica = refl
node_again node.Client = refl

node_plain : (word : NodeWord) → is_plain (node_word_text word) ≡ true
node_plain node.Sequencer = refl
node_plain node.Coordinator = refl
node_plain node.Replica = refl
node_plain node.Client = refl

pub is_node_word : IsForm node_word
unfolding node_word
is_node_word = is_table node_word_text all_node_words node_again node_plain
