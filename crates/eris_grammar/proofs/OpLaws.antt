-- An operation is read as just what it spells.
use Rattle.std.proofs.Common.{◌≡◌, ℕ, true, List, [], ◌∷◌, codes, Ok, refl}
use Rattle.eris_txn.specs.declared.op.Op.{Op}
use Rattle.eris_txn.specs.declared.op.Op.TheVariants.{Get, Put, Del, Add, Cas}
use Rattle.eris_grammar.specs.declared.fixed_words.OpWord.{OpWord}
use Rattle.eris_grammar.specs.declared.fixed_words.OpWord.TheVariants as w
use Rattle.eris_grammar.specs.Fields.{number, value, key}
use Rattle.eris_grammar.specs.FixedWords.{op_word}
use Rattle.eris_words.specs.Forms.{pair}
use Rattle.eris_grammar.specs.OpForms.{op_behind, op}
use Rattle.eris_event.specs.EventRanges.{fits_op}
use Rattle.eris_words.specs.OpText.{op_words}
use Rattle.eris_grammar.proofs.FieldLaws.{is_key, is_value}
use Rattle.eris_words.proofs.FormLaws.{IsForm, Behind, Led, arm_led, arm_takes, is_led, is_pair}
use Rattle.eris_grammar.proofs.TableLaws.{is_op_word}

op_takes : (version : ℕ) (word : OpWord) (words : List (List ℕ)) (x : Op) (rest : List (List ℕ)) → op_behind version word words ≡ Ok (x, rest) →
    Behind op_words (fits_op version) (op_word.spell word) words x rest
unfolding op_behind op_word key value number
op_takes version w.Get = arm_takes (key version) Get op_words (fits_op version) (codes "get" ∷ []) (is_key version) (λ _. refl) (λ _. refl)
op_takes version w.Put = arm_takes (pair (key version) value) (λ p. Put p.0 p.1) op_words (fits_op version) (codes "put" ∷ [])
    (is_pair (key version) value (is_key version) is_value) (λ _. refl) (λ _. refl)
op_takes version w.Del = arm_takes (key version) Del op_words (fits_op version) (codes "del" ∷ []) (is_key version) (λ _. refl) (λ _. refl)
op_takes version w.Add = arm_takes (pair (key version) value) (λ p. Add p.0 p.1) op_words (fits_op version) (codes "add" ∷ [])
    (is_pair (key version) value (is_key version) is_value) (λ _. refl) (λ _. refl)
op_takes version w.Cas = arm_takes (pair (key version) (pair value value)) (λ p. Cas p.0 p.1.0 p.1.1) op_words (fits_op version) (codes "cas" ∷ [])
    (is_pair (key version) (pair value value) (is_key version) (is_pair value value is_value is_value)) (λ _. refl) (λ _. refl)

op_led : (version : ℕ) (x : Op) → fits_op version x ≡ true → Led op_word (op_behind version) op_words x
unfolding op_behind op_word key value number
op_led version (Get k) fine = arm_led op_word (op_behind version) op_words w.Get (key version) Get k (is_key version) refl (λ _. refl) refl fine
op_led version (Put k n) fine = arm_led op_word (op_behind version) op_words w.Put (pair (key version) value) (λ p. Put p.0 p.1) (k, n)
    (is_pair (key version) value (is_key version) is_value) refl (λ _. refl) refl fine
op_led version (Del k) fine = arm_led op_word (op_behind version) op_words w.Del (key version) Del k (is_key version) refl (λ _. refl) refl fine
op_led version (Add k n) fine = arm_led op_word (op_behind version) op_words w.Add (pair (key version) value) (λ p. Add p.0 p.1) (k, n)
    (is_pair (key version) value (is_key version) is_value) refl (λ _. refl) refl fine
op_led version (Cas k expected n) fine =
    arm_led op_word (op_behind version) op_words w.Cas (pair (key version) (pair value value)) (λ p. Cas p.0 p.1.0 p.1.1) (k, (expected, n))
    (is_pair (key version) (pair value value) (is_key version) (is_pair value value is_value is_value)) refl (λ _. refl) refl fine

pub is_op : (version : ℕ) → IsForm (op version)
unfolding op
is_op version = is_led op_word (op_behind version) op_words (fits_op version) is_op_word (op_takes version) (op_led version)
