-- A node that gets noise is read as just what it spells, and so is an epoch.
use Rattle.std.proofs.Common.{◌≡◌, ℕ, true, List, [], ◌∷◌, codes, Ok, refl, subst}
use Rattle.eris_base.specs.declared.ids.Node.{Node}
use Rattle.eris_base.specs.declared.ids.Node.TheVariants as node
use Rattle.eris_grammar.specs.declared.fixed_words.NodeWord.{NodeWord}
use Rattle.eris_grammar.specs.declared.fixed_words.NodeWord.TheVariants as w
use Rattle.eris_grammar.specs.EventText.{node_words}
use Rattle.eris_grammar.specs.Fields.{client, count, number, replica, two_numbers}
use Rattle.eris_grammar.specs.FixedWords.{node_word}
use Rattle.eris_grammar.specs.LineForms.{epoch, node_behind, node_form}
use Rattle.eris_event.specs.EventRanges.{fits_node}
use Rattle.eris_grammar.proofs.FieldLaws.{is_client, is_count, is_replica}
use Rattle.eris_words.proofs.FormLaws.{IsForm, Behind, Led, arm_led, arm_takes, is_led, is_named, ok_is}
use Rattle.eris_grammar.proofs.TableLaws.{is_node_word}

node_takes : (version : ℕ) (word : NodeWord) (words : List (List ℕ)) (x : Node) (rest : List (List ℕ)) → node_behind version word words ≡ Ok (x, rest) →
    Behind (node_words version) (fits_node) (node_word.spell word) words x rest
unfolding node_behind node_word replica two_numbers client number
node_takes version w.Sequencer words x rest read =
    subst (λ (z : Node × List (List ℕ)). Behind (node_words version) (fits_node) (codes "seq" ∷ []) words z.0 z.1)
    (ok_is (node.Sequencer, words) (x, rest) read) (record { parts = refl; fine = refl })
node_takes version w.Coordinator words x rest read =
    subst (λ (z : Node × List (List ℕ)). Behind (node_words version) (fits_node) (codes "coord" ∷ []) words z.0 z.1)
    (ok_is (node.Coordinator, words) (x, rest) read) (record { parts = refl; fine = refl })
node_takes version w.Replica words x rest read =
    arm_takes (replica version) (λ r. node.Replica r.0 r.1) (node_words version) (fits_node) (codes "rep" ∷ []) (is_replica version) (λ _. refl) (λ _. refl) words x rest read
node_takes version w.Client words x rest read =
    arm_takes client node.Client (node_words version) (fits_node) (codes "cli" ∷ []) is_client (λ _. refl) (λ _. refl) words x rest read

node_led : (version : ℕ) (x : Node) → fits_node x ≡ true → Led node_word (node_behind version) (node_words version) x
unfolding node_behind node_word replica two_numbers client number
node_led version node.Sequencer fine = record { word = w.Sequencer; payload = []; spelled = refl; known = refl; read = λ rest. refl; plain = refl }
node_led version node.Coordinator fine = record { word = w.Coordinator; payload = []; spelled = refl; known = refl; read = λ rest. refl; plain = refl }
node_led version (node.Replica s r) fine =
    arm_led node_word (node_behind version) (node_words version) w.Replica (replica version) (λ r. node.Replica r.0 r.1) (s, r) (is_replica version) refl (λ _. refl) refl fine
node_led version (node.Client c) fine =
    arm_led node_word (node_behind version) (node_words version) w.Client client node.Client c is_client refl (λ _. refl) refl fine

pub is_node : (version : ℕ) → IsForm (node_form version)
unfolding node_form
is_node version = is_led node_word (node_behind version) (node_words version) (fits_node) is_node_word (node_takes version) (node_led version)

pub is_epoch : IsForm epoch
unfolding epoch
is_epoch = is_named _ _ count (λ _. refl) (λ _. refl) is_count
