-- A clause of a plan is read as just what it spells.
use Rattle.std.proofs.Common.{◌≡◌, ℕ, true, List, [], ◌∷◌, codes, Ok, refl}
use Rattle.eris_txn.specs.declared.key.Key.{Key}
use Rattle.eris_txn.specs.declared.plan.How.{How}
use Rattle.eris_txn.specs.declared.plan.How.TheVariants.{Put, Plus, Minus}
use Rattle.eris_grammar.specs.declared.clause.Clause.{Clause}
use Rattle.eris_grammar.specs.declared.clause.Clause.TheVariants as clause
use Rattle.eris_grammar.specs.declared.fixed_words.ClauseWord.{ClauseWord}
use Rattle.eris_grammar.specs.declared.fixed_words.ClauseWord.TheVariants as w
use Rattle.eris_grammar.specs.Fields.{number, value, key}
use Rattle.eris_grammar.specs.FixedWords.{clause_word}
use Rattle.eris_words.specs.Forms.{pair}
use Rattle.eris_grammar.specs.PlanForms.{clause_words, set_to, clause_behind, fits_clause, clause_form}
use Rattle.eris_grammar.proofs.FieldLaws.{is_key, is_value}
use Rattle.eris_words.proofs.FormLaws.{IsForm, Behind, Led, arm_led, arm_takes, is_led, is_pair}
use Rattle.eris_grammar.proofs.TableLaws.{is_clause_word}

is_key_and_value : (version : ℕ) → IsForm (pair (key version) value)
is_key_and_value version = is_pair (key version) value (is_key version) is_value

clause_takes : (version : ℕ) (word : ClauseWord) (words : List (List ℕ)) (x : Clause) (rest : List (List ℕ)) → clause_behind version word words ≡ Ok (x, rest) →
    Behind clause_words (fits_clause version) (clause_word.spell word) words x rest
unfolding clause_behind clause_word key value number
clause_takes version w.Guard = arm_takes (pair (key version) value) (λ p. clause.Guard (record { key = p.0; least = p.1 })) clause_words (fits_clause version)
    (codes "guard" ∷ []) (is_key_and_value version) (λ _. refl) (λ _. refl)
clause_takes version w.Set = arm_takes (pair (key version) value) (set_to Put) clause_words (fits_clause version) (codes "set" ∷ [])
    (is_key_and_value version) (λ _. refl) (λ _. refl)
clause_takes version w.Plus = arm_takes (pair (key version) value) (set_to Plus) clause_words (fits_clause version) (codes "plus" ∷ [])
    (is_key_and_value version) (λ _. refl) (λ _. refl)
clause_takes version w.Minus = arm_takes (pair (key version) value) (set_to Minus) clause_words (fits_clause version) (codes "minus" ∷ [])
    (is_key_and_value version) (λ _. refl) (λ _. refl)

setting_led : (version : ℕ) (k : Key) (how : How) → fits_clause version (clause.Setting (record { key = k; how = how })) ≡ true →
    Led clause_word (clause_behind version) clause_words (clause.Setting (record { key = k; how = how }))
unfolding clause_behind clause_word key value number
setting_led version k (Put n) fine =
    arm_led clause_word (clause_behind version) clause_words w.Set (pair (key version) value) (set_to Put) (k, n) (is_key_and_value version) refl (λ _. refl) refl fine
setting_led version k (Plus n) fine =
    arm_led clause_word (clause_behind version) clause_words w.Plus (pair (key version) value) (set_to Plus) (k, n) (is_key_and_value version) refl (λ _. refl) refl fine
setting_led version k (Minus n) fine =
    arm_led clause_word (clause_behind version) clause_words w.Minus (pair (key version) value) (set_to Minus) (k, n) (is_key_and_value version) refl (λ _. refl) refl fine

clause_led : (version : ℕ) (x : Clause) → fits_clause version x ≡ true → Led clause_word (clause_behind version) clause_words x
unfolding clause_behind clause_word key value number
clause_led version (clause.Guard g) fine =
    arm_led clause_word (clause_behind version) clause_words w.Guard (pair (key version) value) (λ p. clause.Guard (record { key = p.0; least = p.1 })) (g.key, g.least)
    (is_key_and_value version) refl (λ _. refl) refl fine
clause_led version (clause.Setting s) fine = setting_led version s.key s.how fine

pub is_clause : (version : ℕ) → IsForm (clause_form version)
unfolding clause_form
is_clause version = is_led clause_word (clause_behind version) clause_words (fits_clause version) is_clause_word (clause_takes version) (clause_led version)
