-- THE BYTES OF AN EVENT'S LINE: none of them is LF, which would end the line, or CR, which would be taken off at its
-- end.
use Rattle.std.proofs.Common.{◌≡◌, ◌<◌, ◌+◌, ◌-◌, ◌/◌, ◌%◌, ◌==◌, ◌^◌, ◌&&◌, ◌∙◌, ℕ, Bool, true, false, cond, nat_le, nat_lt, Some, None, Option, List, [], ◌∷◌, ◌++◌, length, map, refl, ap, arith, codes, lit<, leb-true, lt_of_le_of_lt}
use Rattle.std.proofs.lemmas.Bool.Decides.{nat_tests}
use Rattle.std.proofs.lemmas.Bool.{and_from}
use Rattle.std.proofs.lemmas.List.Concat.{flat_map-cons}
use Rattle.std.specs.Char.{is_digit}
use Rattle.std.specs.List.{flat_map, join_with_byte, list_all}
use Rattle.eris_base.specs.declared.ids.Epoch.{Epoch}
use Rattle.eris_base.specs.declared.ids.Node.{Node}
use Rattle.eris_base.specs.declared.ids.Node.TheVariants as node
use Rattle.eris_base.proofs.Booleans.{left_of, right_of}
use Rattle.eris_txn.specs.declared.key.Key.{Key}
use Rattle.eris_txn.specs.declared.op.Op.{Op}
use Rattle.eris_txn.specs.declared.op.Op.TheVariants.{Get, Put, Del, Add, Cas}
use Rattle.eris_txn.specs.declared.plan.Guard.{Guard}
use Rattle.eris_txn.specs.declared.plan.How.{How}
use Rattle.eris_txn.specs.declared.plan.How.TheVariants as how
use Rattle.eris_txn.specs.declared.plan.Setting.{Setting}
use Rattle.eris_txn.specs.Names.{is_name, is_name_byte}
use Rattle.eris_txn.specs.PlanValues.{PlanValue}
use Rattle.eris_event.specs.declared.event.Event.{Event}
use Rattle.eris_event.specs.declared.event.Event.TheVariants as event
use Rattle.eris_event.specs.EventRanges.{are_noise, are_ops, fits_client, fits_event, fits_guard, fits_key, fits_node, fits_op, fits_setting, fits_txn, fits_value, is_plan, last_shard, most, number_of}
use Rattle.eris_words.specs.Decimal.{decimal}
use Rattle.eris_words.specs.OpText.{next_op_words, op_words, ops_words}
use Rattle.eris_words.specs.PlanText.{guard_words, how_words, plan_words, setting_words}
use Rattle.eris_words.specs.Words.{key_word, spaced}
use Rattle.eris_words.proofs.DecimalLaws.{digits_of_decimal}
use Rattle.eris_words.proofs.LineLemmas.{joined}
use Rattle.eris_grammar.specs.EventText.{epoch_words, event_text, event_words, node_words}
use Rattle.eris_grammar.specs.Fields.{hex_digit, hex_pair, hex_word, pair_words}
use Rattle.eris_grammar.proofs.PlanLaws.{fits_plan}

-- a byte that neither ends a line nor is taken off at its end
abbrev pub is_ink : ℕ → Bool
is_ink byte = nat_lt 31 byte

abbrev pub are_ink : List ℕ → Bool
are_ink text = list_all is_ink text

-- the same of each word
abbrev pub are_inked : List (List ℕ) → Bool
are_inked words = list_all are_ink words

pub ink-append : (xs ys : List ℕ) → are_ink xs ≡ true → are_ink ys ≡ true → are_ink (xs ++ ys) ≡ true
ink-append [] ys left right = right
ink-append (x ∷ xs) ys left right = and_from (is_ink x) (are_ink (xs ++ ys)) (left_of (is_ink x) (are_ink xs) left) (ink-append xs ys (right_of (is_ink x) (are_ink xs) left) right)

pub inked-append : (xs ys : List (List ℕ)) → are_inked xs ≡ true → are_inked ys ≡ true → are_inked (xs ++ ys) ≡ true
inked-append [] ys left right = right
inked-append (x ∷ xs) ys left right = and_from (are_ink x) (are_inked (xs ++ ys)) (left_of (are_ink x) (are_inked xs) left) (inked-append xs ys (right_of (are_ink x) (are_inked xs) left) right)

pub inked-one : (word : List ℕ) → are_ink word ≡ true → are_inked (word ∷ []) ≡ true
inked-one word ink = and_from (are_ink word) true ink refl

pub inked-more : (word : List ℕ) (words : List (List ℕ)) → are_ink word ≡ true → are_inked words ≡ true → are_inked (word ∷ words) ≡ true
inked-more word words ink more = and_from (are_ink word) (are_inked words) ink more

spaced_ink : (words : List (List ℕ)) → are_inked words ≡ true → are_ink (spaced words) ≡ true
spaced_ink [] all = refl
spaced_ink (word ∷ words) all = ink-append word (spaced words) (left_of (are_ink word) (are_inked words) all) (spaced_ink words (right_of (are_ink word) (are_inked words) all))

-- words of such bytes make a line of such bytes
pub line_ink : (words : List (List ℕ)) → are_inked words ≡ true → are_ink (join_with_byte 32 words) ≡ true
line_ink [] all = refl
line_ink (word ∷ words) all =
    ap are_ink (joined word words)
    ∙ ink-append word (spaced words) (left_of (are_ink word) (are_inked words) all) (spaced_ink words (right_of (are_ink word) (are_inked words) all))

each_inked : {X : Type 0} (words : X → List (List ℕ)) (fits : X → Bool) → ((x : X) → fits x ≡ true → are_inked (words x) ≡ true)
    → (xs : List X) → list_all fits xs ≡ true → are_inked (flat_map words xs) ≡ true
each_inked words fits one [] all = refl
each_inked words fits one (x ∷ xs) all =
    ap are_inked (flat_map-cons words x xs)
    ∙ inked-append (words x) (flat_map words xs) (one x (left_of (fits x) (list_all fits xs) all)) (each_inked words fits one xs (right_of (fits x) (list_all fits xs) all))

-- ---- numbers
digit_ink : (byte : ℕ) → is_digit byte 10 ≡ true → is_ink byte ≡ true
digit_ink byte is = grind (arith, nat_tests)

digits_ink : (word : List ℕ) → list_all (λ byte. is_digit byte 10) word ≡ true → are_ink word ≡ true
digits_ink [] all = refl
digits_ink (byte ∷ word) all =
    and_from (is_ink byte) (are_ink word) (digit_ink byte (left_of (is_digit byte 10) (list_all (λ other. is_digit other 10) word) all))
    (digits_ink word (right_of (is_digit byte 10) (list_all (λ other. is_digit other 10) word) all))

number_ink : (n : ℕ) → n < 2 ^ 64 → are_ink (decimal n) ≡ true
number_ink n small = digits_ink (decimal n) (digits_of_decimal n small)

pub low_ink : (limit n : ℕ) → limit < 2 ^ 64 → nat_le n limit ≡ true → are_ink (decimal n) ≡ true
low_ink limit n small low = number_ink n (lt_of_le_of_lt (leb-true n limit low) small)

pub small_ink : (n : ℕ) → nat_le n 255 ≡ true → are_ink (decimal n) ≡ true
small_ink n low = low_ink 255 n (lit< tt) low

pub count_ink : (n : ℕ) → nat_le n (2 ^ 32 - 1) ≡ true → are_ink (decimal n) ≡ true
count_ink n low = low_ink (2 ^ 32 - 1) n (lit< tt) low

value_ink : (n : ℕ) → fits_value n ≡ true → are_ink (decimal n) ≡ true
value_ink n low = low_ink (2 ^ 64 - 1) n (lit< tt) low

pair_ink : (version a b : ℕ) → are_ink (decimal a) ≡ true → are_ink (decimal b) ≡ true → are_inked (pair_words version a b) ≡ true
pair_ink version a b one two = by_version (version == 1)
  where
    by_version : (old : Bool) → are_inked (cond old (decimal a ∷ decimal b ∷ []) ((decimal a ++ codes "." ++ decimal b) ∷ [])) ≡ true
    by_version true = inked-more (decimal a) (decimal b ∷ []) one (inked-one (decimal b) two)
    by_version false = inked-one (decimal a ++ codes "." ++ decimal b) (ink-append (decimal a ++ codes ".") (decimal b) (ink-append (decimal a) (codes ".") one refl) two)

-- ---- keys
name_byte_ink : (byte : ℕ) → is_name_byte byte ≡ true → is_ink byte ≡ true
name_byte_ink byte is = grind (arith, nat_tests)

name_bytes_ink : (name : List ℕ) → list_all is_name_byte name ≡ true → are_ink name ≡ true
name_bytes_ink [] all = refl
name_bytes_ink (byte ∷ name) all =
    and_from (is_ink byte) (are_ink name) (name_byte_ink byte (left_of (is_name_byte byte) (list_all is_name_byte name) all))
    (name_bytes_ink name (right_of (is_name_byte byte) (list_all is_name_byte name) all))

shard_ink : (version n : ℕ) → nat_le n (last_shard version) ≡ true → are_ink (decimal n) ≡ true
shard_ink version n low = by_version (version == 1) low
  where
    by_version : (old : Bool) → nat_le n (cond old 15 63) ≡ true → are_ink (decimal n) ≡ true
    by_version true few = low_ink 15 n (lit< tt) few
    by_version false few = low_ink 63 n (lit< tt) few

key_ink : (version : ℕ) (key : Key) → fits_key version key ≡ true → are_ink (key_word key) ≡ true
key_ink version key fits =
    let name = right_of (nat_le key.shard.0 (last_shard version)) (is_name key.name) fits in
    let bytes = right_of (nat_lt 0 (length key.name) && nat_le (length key.name) 16) (list_all is_name_byte key.name) name in
    ink-append (decimal key.shard.0 ++ codes "/") key.name
    (ink-append (decimal key.shard.0) (codes "/") (shard_ink version key.shard.0 (left_of (nat_le key.shard.0 (last_shard version)) (is_name key.name) fits)) refl)
    (name_bytes_ink key.name bytes)

pub keys_ink : (version : ℕ) (keys : List Key) → list_all (fits_key version) keys ≡ true → are_inked (map key_word keys) ≡ true
keys_ink version [] all = refl
keys_ink version (key ∷ keys) all =
    inked-more (key_word key) (map key_word keys) (key_ink version key (left_of (fits_key version key) (list_all (fits_key version) keys) all))
    (keys_ink version keys (right_of (fits_key version key) (list_all (fits_key version) keys) all))

-- ---- operations
key_and_value : (version : ℕ) (key : Key) (value : ℕ) → (fits_key version key && fits_value value) ≡ true → are_inked (key_word key ∷ decimal value ∷ []) ≡ true
key_and_value version key value fits =
    inked-more (key_word key) (decimal value ∷ []) (key_ink version key (left_of (fits_key version key) (fits_value value) fits))
    (inked-one (decimal value) (value_ink value (right_of (fits_key version key) (fits_value value) fits)))

op_ink : (version : ℕ) (op : Op) → fits_op version op ≡ true → are_inked (op_words op) ≡ true
op_ink version (Get key) fits = inked-one (key_word key) (key_ink version key fits)
op_ink version (Put key value) fits = key_and_value version key value fits
op_ink version (Del key) fits = inked-one (key_word key) (key_ink version key fits)
op_ink version (Add key value) fits = key_and_value version key value fits
op_ink version (Cas key expected value) fits =
    let values = right_of (fits_key version key) (fits_value expected && fits_value value) fits in
    inked-more (key_word key) (decimal expected ∷ decimal value ∷ []) (key_ink version key (left_of (fits_key version key) (fits_value expected && fits_value value) fits))
    (inked-more (decimal expected) (decimal value ∷ []) (value_ink expected (left_of (fits_value expected) (fits_value value) values))
    (inked-one (decimal value) (value_ink value (right_of (fits_value expected) (fits_value value) values))))

ops_ink : (version : ℕ) (ops : List Op) → are_ops version ops ≡ true → are_inked (ops_words ops) ≡ true
ops_ink version [] fits = refl
ops_ink version (op ∷ ops) fits =
    let all = right_of (nat_lt 0 (length (op ∷ ops)) && nat_le (length (op ∷ ops)) (most version)) (list_all (fits_op version) (op ∷ ops)) fits in
    inked-append (op_words op) (flat_map next_op_words ops) (op_ink version op (left_of (fits_op version op) (list_all (fits_op version) ops) all))
    (each_inked next_op_words (fits_op version) (λ one fine. op_ink version one fine) ops (right_of (fits_op version op) (list_all (fits_op version) ops) all))

-- ---- plans
pub guard_ink : (version : ℕ) (guard : Guard) → fits_guard version guard ≡ true → are_inked (guard_words guard) ≡ true
guard_ink version guard fits = key_and_value version guard.key guard.least fits

pub setting_ink : (version : ℕ) (setting : Setting) → fits_setting version setting ≡ true → are_inked (setting_words setting) ≡ true
setting_ink version setting fits = by_how setting.how fits
  where
    by_how : (done : How) → (fits_key version setting.key && fits_value (number_of done)) ≡ true → are_inked (codes ";" ∷ how_words done setting.key) ≡ true
    by_how (how.Put n) fine = key_and_value version setting.key n fine
    by_how (how.Plus n) fine = key_and_value version setting.key n fine
    by_how (how.Minus n) fine = key_and_value version setting.key n fine

plan_ink : (version : ℕ) (plan : PlanValue) → is_plan version plan ≡ true → are_inked (plan_words plan) ≡ true
plan_ink version plan fits =
    let fit = fits_plan version plan fits in
    inked-append (map key_word plan.keys ++ flat_map guard_words plan.guards) (flat_map setting_words plan.settings)
    (inked-append (map key_word plan.keys) (flat_map guard_words plan.guards) (keys_ink version plan.keys fit.fit_keys)
    (each_inked guard_words (fits_guard version) (guard_ink version) plan.guards fit.fit_guards))
    (each_inked setting_words (fits_setting version) (setting_ink version) plan.settings fit.fit_settings)

-- ---- noise
hex_ink : (n : ℕ) → is_ink (hex_digit n) ≡ true
hex_ink n = by_test (nat_lt n 10)
  where
    digit : (k : ℕ) → is_ink (48 + k) ≡ true
    digit k = grind (arith, nat_tests)

    letter : (k : ℕ) → is_ink (87 + k) ≡ true
    letter k = grind (arith, nat_tests)

    by_test : (test : Bool) → is_ink (cond test (48 + n) (87 + n)) ≡ true
    by_test true = digit n
    by_test false = letter n

pairs_ink : (bytes : List ℕ) → are_ink (flat_map hex_pair bytes) ≡ true
pairs_ink [] = refl
pairs_ink (byte ∷ bytes) =
    ap are_ink (flat_map-cons hex_pair byte bytes)
    ∙ and_from (is_ink (hex_digit (byte / 16))) (are_ink (hex_digit (byte % 16) ∷ flat_map hex_pair bytes)) (hex_ink (byte / 16))
    (and_from (is_ink (hex_digit (byte % 16))) (are_ink (flat_map hex_pair bytes)) (hex_ink (byte % 16)) (pairs_ink bytes))

noise_ink : (bytes : List ℕ) → are_ink (hex_word bytes) ≡ true
noise_ink [] = refl
noise_ink (byte ∷ bytes) = pairs_ink (byte ∷ bytes)

-- ---- events
two_small : (version a b : ℕ) → (nat_le a 255 && nat_le b 255) ≡ true → are_inked (pair_words version a b) ≡ true
two_small version a b fits = pair_ink version a b (small_ink a (left_of (nat_le a 255) (nat_le b 255) fits)) (small_ink b (right_of (nat_le a 255) (nat_le b 255) fits))

id_ink : (version a b : ℕ) → (nat_le a 255 && nat_le b (2 ^ 32 - 1)) ≡ true → are_inked (pair_words version a b) ≡ true
id_ink version a b fits =
    pair_ink version a b (small_ink a (left_of (nat_le a 255) (nat_le b (2 ^ 32 - 1)) fits)) (count_ink b (right_of (nat_le a 255) (nat_le b (2 ^ 32 - 1)) fits))

node_ink : (version : ℕ) (to : Node) → fits_node to ≡ true → are_inked (node_words version to) ≡ true
node_ink version node.Sequencer fits = refl
node_ink version node.Coordinator fits = refl
node_ink version (node.Replica shard replica) fits = two_small version shard.0 replica.0 fits
node_ink version (node.Client client) fits = inked-one (decimal client.0) (small_ink client.0 fits)

deliver_ink : (version packet : ℕ) (named : Option Epoch) → fits_event version (event.Deliver packet named) ≡ true → are_inked (decimal packet ∷ epoch_words named) ≡ true
deliver_ink version packet None fits = inked-one (decimal packet) (count_ink packet fits)
deliver_ink version packet (Some epoch) fits =
    inked-more (decimal packet) (decimal epoch.0 ∷ []) (count_ink packet (left_of (nat_le packet (2 ^ 32 - 1)) (nat_le epoch.0 (2 ^ 32 - 1)) fits))
    (inked-one (decimal epoch.0) (count_ink epoch.0 (right_of (nat_le packet (2 ^ 32 - 1)) (nat_le epoch.0 (2 ^ 32 - 1)) fits)))

pub words_ink : (version : ℕ) (e : Event) → fits_event version e ≡ true → are_inked (event_words version e) ≡ true
words_ink version (event.Submit c ops) fits =
    inked-more (decimal c.0) (ops_words ops) (small_ink c.0 (left_of (fits_client c) (are_ops version ops) fits)) (ops_ink version ops (right_of (fits_client c) (are_ops version ops) fits))
words_ink version (event.General c plan) fits =
    inked-more (decimal c.0) (plan_words plan) (small_ink c.0 (left_of (fits_client c) (is_plan version plan) fits)) (plan_ink version plan (right_of (fits_client c) (is_plan version plan) fits))
words_ink version (event.Retry c n) fits = id_ink version c.0 n fits
words_ink version (event.Abort asker id) fits =
    inked-more (decimal asker.0) (pair_words version id.client.0 id.number) (small_ink asker.0 (left_of (fits_client asker) (fits_txn id) fits))
    (id_ink version id.client.0 id.number (right_of (fits_client asker) (fits_txn id) fits))
words_ink version (event.Deliver packet named) fits = deliver_ink version packet named fits
words_ink version event.Flow fits = refl
words_ink version event.Lose fits = refl
words_ink version (event.Probe s r) fits = two_small version s.0 r.0 fits
words_ink version (event.Suspect s r) fits = two_small version s.0 r.0 fits
words_ink version (event.Sync s r) fits = two_small version s.0 r.0 fits
words_ink version (event.Crash s r) fits = two_small version s.0 r.0 fits
words_ink version event.Nudge fits = refl
words_ink version event.Replace fits = refl
words_ink version (event.Noise to bytes) fits =
    inked-append (node_words version to) (hex_word bytes ∷ []) (node_ink version to (left_of (fits_node to) (are_noise bytes) fits)) (inked-one (hex_word bytes) (noise_ink bytes))

-- THE LINE OF AN EVENT
pub event_ink : (version : ℕ) (e : Event) → fits_event version e ≡ true → are_ink (event_text version e) ≡ true
event_ink version e fits = line_ink (event_words version e) (words_ink version e fits)
