-- The fields with a tag, and those made of them, read what they spell, and nothing else.
use Rattle.std.proofs.Common.{◌≡◌, ℕ, true, List, ◌∷◌, Option, Some, None, Ok, refl}
use Rattle.eris_txn.specs.declared.answer.Answer.{Answer}
use Rattle.eris_txn.specs.declared.answer.Answer.TheVariants as answers
use Rattle.eris_txn.specs.declared.body.Body.{Body}
use Rattle.eris_txn.specs.declared.body.Body.TheVariants as bodies
use Rattle.eris_txn.specs.declared.op.Op.{Op}
use Rattle.eris_txn.specs.declared.op.Op.TheVariants.{Get, Put, Del, Add, Cas}
use Rattle.eris_txn.specs.declared.op.OpAnswer.{OpAnswer}
use Rattle.eris_txn.specs.declared.op.OpAnswer.TheVariants.{Value, Absent, Done, Yes, No}
use Rattle.eris_codec.specs.Codecs.{nothing, ◌⊗◌}
use Rattle.eris_codec.specs.Fields as f
use Rattle.eris_codec.proofs.FieldLaws.{is_word, is_value, is_from_to, tag_single, tag_is, is_client, is_id, is_stamp, is_key, is_list, is_keys, is_locks, is_writes}
use Rattle.eris_codec.proofs.Laws.{IsBytes, IsCodec, Takes, is_nothing, is_pair, is_named}
use Rattle.eris_codec.proofs.TagLaws.{pick, arm_takes, Tags, is_tagged}

op_takes : (t : ℕ) (bytes : List ℕ) (x : Op) (rest : List ℕ) → IsBytes bytes → f.op_behind t bytes ≡ Ok (x, rest) → Takes f.op (t ∷ bytes) x rest
unfolding f.op f.op_behind f.spell_op f.op_fits
op_takes t bytes x rest fine e =
    let G : ℕ → Type 0 = λ n. Takes f.op (n ∷ bytes) x rest in
    pick t 1 _ _ (x, rest) G (arm_takes f.key f.op Get 1 is_key (λ a. refl) (λ a. refl) bytes x rest fine)
    (pick t 2 _ _ (x, rest) G (arm_takes (f.key ⊗ f.value) f.op (λ p. Put p.0 p.1) 2 (is_pair _ _ is_key is_value) (λ a. refl) (λ a. refl) bytes x rest fine)
    (pick t 3 _ _ (x, rest) G (arm_takes f.key f.op Del 3 is_key (λ a. refl) (λ a. refl) bytes x rest fine)
    (pick t 4 _ _ (x, rest) G (arm_takes (f.key ⊗ f.value) f.op (λ p. Add p.0 p.1) 4 (is_pair _ _ is_key is_value) (λ a. refl) (λ a. refl) bytes x rest fine)
    (pick t 5 _ _ (x, rest) G (arm_takes (f.key ⊗ f.value ⊗ f.value) f.op (λ p. Cas p.0 p.1.0 p.1.1) 5 (is_pair _ _ is_key (is_pair _ _ is_value is_value)) (λ a. refl) (λ a. refl) bytes x rest fine)
    (λ wrong. absurd cc))))) e

op_tags : (x : Op) → f.op_fits x ≡ true → Tags (f.from_to 1 5) f.op f.op_behind x
unfolding f.op f.op_behind f.spell_op f.op_fits
op_tags (Get k) fine = record { t = 1; payload = f.key.spell k; spelled = refl; single = tag_single 1 5 1 (tag_is 1 5 1 refl refl); fits = tag_is 1 5 1 refl refl; read = λ rest. rw (is_key.again k rest fine) refl }
op_tags (Put k n) fine = record { t = 2; payload = (f.key ⊗ f.value).spell (k, n); spelled = refl; single = tag_single 1 5 2 (tag_is 1 5 2 refl refl); fits = tag_is 1 5 2 refl refl; read = λ rest. rw ((is_pair _ _ is_key is_value).again (k, n) rest fine) refl }
op_tags (Del k) fine = record { t = 3; payload = f.key.spell k; spelled = refl; single = tag_single 1 5 3 (tag_is 1 5 3 refl refl); fits = tag_is 1 5 3 refl refl; read = λ rest. rw (is_key.again k rest fine) refl }
op_tags (Add k n) fine = record { t = 4; payload = (f.key ⊗ f.value).spell (k, n); spelled = refl; single = tag_single 1 5 4 (tag_is 1 5 4 refl refl); fits = tag_is 1 5 4 refl refl; read = λ rest. rw ((is_pair _ _ is_key is_value).again (k, n) rest fine) refl }
op_tags (Cas k e n) fine = record { t = 5; payload = (f.key ⊗ f.value ⊗ f.value).spell (k, (e, n)); spelled = refl; single = tag_single 1 5 5 (tag_is 1 5 5 refl refl); fits = tag_is 1 5 5 refl refl; read = λ rest. rw ((is_pair _ _ is_key (is_pair _ _ is_value is_value)).again (k, (e, n)) rest fine) refl }

pub is_op : IsCodec f.op
unfolding f.op
is_op = is_tagged (f.from_to 1 5) f.spell_op f.op_fits f.op_behind (is_from_to 1 5) (tag_single 1 5) (λ t bytes x rest ok. op_takes t bytes x rest) op_tags

pub is_ops : IsCodec f.ops
unfolding f.ops
is_ops = is_list _ f.op (is_from_to 1 32) is_op

body_takes : (t : ℕ) (bytes : List ℕ) (x : Body) (rest : List ℕ) → IsBytes bytes → f.body_behind t bytes ≡ Ok (x, rest) → Takes f.body (t ∷ bytes) x rest
unfolding f.body f.body_behind f.spell_body f.body_fits
body_takes t bytes x rest fine e =
    let G : ℕ → Type 0 = λ n. Takes f.body (n ∷ bytes) x rest in
    pick t 1 _ _ (x, rest) G (arm_takes f.ops f.body bodies.Independent 1 is_ops (λ a. refl) (λ a. refl) bytes x rest fine)
    (pick t 2 _ _ (x, rest) G (arm_takes f.locks f.body bodies.Prelim 2 is_locks (λ a. refl) (λ a. refl) bytes x rest fine)
    (pick t 3 _ _ (x, rest) G (arm_takes (f.keys ⊗ f.writes) f.body (λ p. bodies.Commit p.0 p.1) 3 (is_pair _ _ is_keys is_writes) (λ a. refl) (λ a. refl) bytes x rest fine)
    (pick t 4 _ _ (x, rest) G (arm_takes f.keys f.body bodies.Abort 4 is_keys (λ a. refl) (λ a. refl) bytes x rest fine)
    (λ wrong. absurd cc)))) e

body_tags : (x : Body) → f.body_fits x ≡ true → Tags (f.from_to 1 4) f.body f.body_behind x
unfolding f.body f.body_behind f.spell_body f.body_fits
body_tags (bodies.Independent list) fine = record { t = 1; payload = f.ops.spell list; spelled = refl; single = tag_single 1 4 1 (tag_is 1 4 1 refl refl); fits = tag_is 1 4 1 refl refl; read = λ rest. rw (is_ops.again list rest fine) refl }
body_tags (bodies.Prelim list) fine = record { t = 2; payload = f.locks.spell list; spelled = refl; single = tag_single 1 4 2 (tag_is 1 4 2 refl refl); fits = tag_is 1 4 2 refl refl; read = λ rest. rw (is_locks.again list rest fine) refl }
body_tags (bodies.Commit list made) fine = record { t = 3; payload = (f.keys ⊗ f.writes).spell (list, made); spelled = refl; single = tag_single 1 4 3 (tag_is 1 4 3 refl refl); fits = tag_is 1 4 3 refl refl; read = λ rest. rw ((is_pair _ _ is_keys is_writes).again (list, made) rest fine) refl }
body_tags (bodies.Abort list) fine = record { t = 4; payload = f.keys.spell list; spelled = refl; single = tag_single 1 4 4 (tag_is 1 4 4 refl refl); fits = tag_is 1 4 4 refl refl; read = λ rest. rw (is_keys.again list rest fine) refl }

pub is_body : IsCodec f.body
unfolding f.body
is_body = is_tagged (f.from_to 1 4) f.spell_body f.body_fits f.body_behind (is_from_to 1 4) (tag_single 1 4) (λ t bytes x rest ok. body_takes t bytes x rest) body_tags

pub is_packet : IsCodec f.packet
unfolding f.packet
is_packet = is_named _ _ _ (λ _. refl) (λ _ _. refl) (is_pair _ _ is_stamp (is_pair _ _ is_id (is_pair _ _ is_client is_body)))

pub is_packets : IsCodec f.packets
unfolding f.packets
is_packets = is_list _ f.packet is_word is_packet

op_answer_takes : (t : ℕ) (bytes : List ℕ) (x : OpAnswer) (rest : List ℕ) → IsBytes bytes → f.op_answer_behind t bytes ≡ Ok (x, rest) → Takes f.op_answer (t ∷ bytes) x rest
unfolding f.op_answer f.op_answer_behind f.spell_op_answer f.op_answer_fits
op_answer_takes t bytes x rest fine e =
    let G : ℕ → Type 0 = λ n. Takes f.op_answer (n ∷ bytes) x rest in
    pick t 1 _ _ (x, rest) G (arm_takes f.value f.op_answer Value 1 is_value (λ a. refl) (λ a. refl) bytes x rest fine)
    (pick t 2 _ _ (x, rest) G (arm_takes nothing f.op_answer (λ _. Absent) 2 is_nothing (λ a. refl) (λ a. refl) bytes x rest fine)
    (pick t 3 _ _ (x, rest) G (arm_takes nothing f.op_answer (λ _. Done) 3 is_nothing (λ a. refl) (λ a. refl) bytes x rest fine)
    (pick t 4 _ _ (x, rest) G (arm_takes nothing f.op_answer (λ _. Yes) 4 is_nothing (λ a. refl) (λ a. refl) bytes x rest fine)
    (pick t 5 _ _ (x, rest) G (arm_takes nothing f.op_answer (λ _. No) 5 is_nothing (λ a. refl) (λ a. refl) bytes x rest fine)
    (λ wrong. absurd cc))))) e

op_answer_tags : (x : OpAnswer) → f.op_answer_fits x ≡ true → Tags (f.from_to 1 5) f.op_answer f.op_answer_behind x
unfolding f.op_answer f.op_answer_behind f.spell_op_answer f.op_answer_fits
op_answer_tags (Value n) fine = record { t = 1; payload = f.value.spell n; spelled = refl; single = tag_single 1 5 1 (tag_is 1 5 1 refl refl); fits = tag_is 1 5 1 refl refl; read = λ rest. rw (is_value.again n rest fine) refl }
op_answer_tags Absent fine = record { t = 2; payload = nothing.spell tt; spelled = refl; single = tag_single 1 5 2 (tag_is 1 5 2 refl refl); fits = tag_is 1 5 2 refl refl; read = λ rest. refl }
op_answer_tags Done fine = record { t = 3; payload = nothing.spell tt; spelled = refl; single = tag_single 1 5 3 (tag_is 1 5 3 refl refl); fits = tag_is 1 5 3 refl refl; read = λ rest. refl }
op_answer_tags Yes fine = record { t = 4; payload = nothing.spell tt; spelled = refl; single = tag_single 1 5 4 (tag_is 1 5 4 refl refl); fits = tag_is 1 5 4 refl refl; read = λ rest. refl }
op_answer_tags No fine = record { t = 5; payload = nothing.spell tt; spelled = refl; single = tag_single 1 5 5 (tag_is 1 5 5 refl refl); fits = tag_is 1 5 5 refl refl; read = λ rest. refl }

pub is_op_answer : IsCodec f.op_answer
unfolding f.op_answer
is_op_answer = is_tagged (f.from_to 1 5) f.spell_op_answer f.op_answer_fits f.op_answer_behind (is_from_to 1 5) (tag_single 1 5) (λ t bytes x rest ok. op_answer_takes t bytes x rest) op_answer_tags

pub is_op_answers : IsCodec f.op_answers
unfolding f.op_answers
is_op_answers = is_list _ f.op_answer (is_from_to 1 32) is_op_answer

found_takes : (t : ℕ) (bytes : List ℕ) (x : (Option ℕ)) (rest : List ℕ) → IsBytes bytes → f.found_behind t bytes ≡ Ok (x, rest) → Takes f.found (t ∷ bytes) x rest
unfolding f.found f.found_behind f.spell_found f.found_fits
found_takes t bytes x rest fine e =
    let G : ℕ → Type 0 = λ n. Takes f.found (n ∷ bytes) x rest in
    pick t 0 _ _ (x, rest) G (arm_takes nothing f.found (λ _. None) 0 is_nothing (λ a. refl) (λ a. refl) bytes x rest fine)
    (pick t 1 _ _ (x, rest) G (arm_takes f.value f.found Some 1 is_value (λ a. refl) (λ a. refl) bytes x rest fine)
    (λ wrong. absurd cc)) e

found_tags : (x : (Option ℕ)) → f.found_fits x ≡ true → Tags (f.from_to 0 1) f.found f.found_behind x
unfolding f.found f.found_behind f.spell_found f.found_fits
found_tags None fine = record { t = 0; payload = nothing.spell tt; spelled = refl; single = tag_single 0 1 0 (tag_is 0 1 0 refl refl); fits = tag_is 0 1 0 refl refl; read = λ rest. refl }
found_tags (Some n) fine = record { t = 1; payload = f.value.spell n; spelled = refl; single = tag_single 0 1 1 (tag_is 0 1 1 refl refl); fits = tag_is 0 1 1 refl refl; read = λ rest. rw (is_value.again n rest fine) refl }

pub is_found : IsCodec f.found
unfolding f.found
is_found = is_tagged (f.from_to 0 1) f.spell_found f.found_fits f.found_behind (is_from_to 0 1) (tag_single 0 1) (λ t bytes x rest ok. found_takes t bytes x rest) found_tags

pub is_values : IsCodec f.values
unfolding f.values
is_values = is_list _ f.found (is_from_to 1 32) is_found

answer_takes : (t : ℕ) (bytes : List ℕ) (x : Answer) (rest : List ℕ) → IsBytes bytes → f.answer_behind t bytes ≡ Ok (x, rest) → Takes f.answer (t ∷ bytes) x rest
unfolding f.answer f.answer_behind f.spell_answer f.answer_fits
answer_takes t bytes x rest fine e =
    let G : ℕ → Type 0 = λ n. Takes f.answer (n ∷ bytes) x rest in
    pick t 1 _ _ (x, rest) G (arm_takes f.op_answers f.answer answers.Ops 1 is_op_answers (λ a. refl) (λ a. refl) bytes x rest fine)
    (pick t 2 _ _ (x, rest) G (arm_takes f.values f.answer answers.Values 2 is_values (λ a. refl) (λ a. refl) bytes x rest fine)
    (pick t 3 _ _ (x, rest) G (arm_takes nothing f.answer (λ _. answers.Committed) 3 is_nothing (λ a. refl) (λ a. refl) bytes x rest fine)
    (pick t 4 _ _ (x, rest) G (arm_takes nothing f.answer (λ _. answers.Aborted) 4 is_nothing (λ a. refl) (λ a. refl) bytes x rest fine)
    (λ wrong. absurd cc)))) e

answer_tags : (x : Answer) → f.answer_fits x ≡ true → Tags (f.from_to 1 4) f.answer f.answer_behind x
unfolding f.answer f.answer_behind f.spell_answer f.answer_fits
answer_tags (answers.Ops list) fine = record { t = 1; payload = f.op_answers.spell list; spelled = refl; single = tag_single 1 4 1 (tag_is 1 4 1 refl refl); fits = tag_is 1 4 1 refl refl; read = λ rest. rw (is_op_answers.again list rest fine) refl }
answer_tags (answers.Values list) fine = record { t = 2; payload = f.values.spell list; spelled = refl; single = tag_single 1 4 2 (tag_is 1 4 2 refl refl); fits = tag_is 1 4 2 refl refl; read = λ rest. rw (is_values.again list rest fine) refl }
answer_tags answers.Committed fine = record { t = 3; payload = nothing.spell tt; spelled = refl; single = tag_single 1 4 3 (tag_is 1 4 3 refl refl); fits = tag_is 1 4 3 refl refl; read = λ rest. refl }
answer_tags answers.Aborted fine = record { t = 4; payload = nothing.spell tt; spelled = refl; single = tag_single 1 4 4 (tag_is 1 4 4 refl refl); fits = tag_is 1 4 4 refl refl; read = λ rest. refl }

pub is_answer : IsCodec f.answer
unfolding f.answer
is_answer = is_tagged (f.from_to 1 4) f.spell_answer f.answer_fits f.answer_behind (is_from_to 1 4) (tag_single 1 4) (λ t bytes x rest ok. answer_takes t bytes x rest) answer_tags
