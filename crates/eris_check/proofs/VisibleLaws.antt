-- THE BYTES OF A REPORT'S WORDS: each is above 32, so none is a space, at which a line is cut, or
-- LF, which would end the line.
use Rattle.std.proofs.Common.{◌≡◌, ◌<◌, ◌-◌, ◌^◌, ◌&&◌, ◌∙◌, ℕ, Bool, true, not, nat_le, nat_lt, List, [], ◌∷◌, ◌++◌, length, map, refl, ap, arith, codes, lit<, leb-true, lt_of_le_of_lt}
use Rattle.std.proofs.lemmas.Bool.Decides.{nat_tests}
use Rattle.std.proofs.lemmas.Bool.{and_from}
use Rattle.std.proofs.lemmas.List.Concat.{flat_map-cons}
use Rattle.std.specs.Char.{is_digit}
use Rattle.std.specs.List.{flat_map, join_with_byte, list_all}
use Rattle.eris_base.proofs.Booleans.{left_of, right_of}
use Rattle.eris_txn.specs.declared.key.Key.{Key}
use Rattle.eris_txn.specs.declared.op.Op.{Op}
use Rattle.eris_txn.specs.declared.op.Op.TheVariants.{Get, Put, Del, Add, Cas}
use Rattle.eris_txn.specs.declared.plan.Guard.{Guard}
use Rattle.eris_txn.specs.declared.plan.How.{How}
use Rattle.eris_txn.specs.declared.plan.How.TheVariants as how
use Rattle.eris_txn.specs.declared.plan.Setting.{Setting}
use Rattle.eris_txn.specs.Names.{is_name, is_name_byte}
use Rattle.eris_txn.specs.PlanValues.{PlanValue}
use Rattle.eris_event.specs.EventRanges.{are_ops, fits_count, fits_guard, fits_key, fits_op, fits_setting, fits_value, is_plan, number_of}
use Rattle.eris_words.specs.Cuts.{is_space}
use Rattle.eris_words.specs.Decimal.{are_digits, decimal}
use Rattle.eris_words.specs.OpText.{next_op_words, op_words, ops_words}
use Rattle.eris_words.specs.PlanText.{guard_words, how_words, plan_words, setting_words}
use Rattle.eris_words.specs.Words.{key_word, spaced}
use Rattle.eris_words.proofs.DecimalLaws.{digits_of_decimal}
use Rattle.eris_words.proofs.FormLaws.{are_plain, is_plain}
use Rattle.eris_words.proofs.LineLemmas.{joined}
use Rattle.eris_grammar.proofs.PlanLaws.{fits_plan}
use Rattle.eris_check.proofs.FullLineLaws.{are_inner, is_inner}

-- a byte that is neither a space nor below it
abbrev pub is_visible : ℕ → Bool
is_visible byte = nat_lt 32 byte

abbrev pub visible : List ℕ → Bool
visible word = list_all is_visible word

-- the same of each word
abbrev pub all_visible : List (List ℕ) → Bool
all_visible words = list_all visible words

pub visible-append : (xs ys : List ℕ) → visible xs ≡ true → visible ys ≡ true → visible (xs ++ ys) ≡ true
visible-append [] ys left right = right
visible-append (x ∷ xs) ys left right =
    and_from (is_visible x) (visible (xs ++ ys)) (left_of (is_visible x) (visible xs) left)
    (visible-append xs ys (right_of (is_visible x) (visible xs) left) right)

pub all-append : (xs ys : List (List ℕ)) → all_visible xs ≡ true → all_visible ys ≡ true → all_visible (xs ++ ys) ≡ true
all-append [] ys left right = right
all-append (x ∷ xs) ys left right =
    and_from (visible x) (all_visible (xs ++ ys)) (left_of (visible x) (all_visible xs) left)
    (all-append xs ys (right_of (visible x) (all_visible xs) left) right)

pub one_visible : (word : List ℕ) → visible word ≡ true → all_visible (word ∷ []) ≡ true
one_visible word seen = and_from (visible word) true seen refl

pub more_visible : (word : List ℕ) (words : List (List ℕ)) → visible word ≡ true → all_visible words ≡ true → all_visible (word ∷ words) ≡ true
more_visible word words seen more = and_from (visible word) (all_visible words) seen more

pub each_visible : {X : Type 0} (words : X → List (List ℕ)) (fits : X → Bool) → ((x : X) → fits x ≡ true → all_visible (words x) ≡ true)
    → (xs : List X) → list_all fits xs ≡ true → all_visible (flat_map words xs) ≡ true
each_visible words fits one [] all = refl
each_visible words fits one (x ∷ xs) all =
    ap all_visible (flat_map-cons words x xs)
    ∙ all-append (words x) (flat_map words xs) (one x (left_of (fits x) (list_all fits xs) all)) (each_visible words fits one xs (right_of (fits x) (list_all fits xs) all))

-- a word for each of a kind
pub map_visible : {X : Type 0} (spell : X → List ℕ) (fits : X → Bool) → ((x : X) → fits x ≡ true → visible (spell x) ≡ true)
    → (xs : List X) → list_all fits xs ≡ true → all_visible (map spell xs) ≡ true
map_visible spell fits one [] all = refl
map_visible spell fits one (x ∷ xs) all =
    and_from (visible (spell x)) (all_visible (map spell xs)) (one x (left_of (fits x) (list_all fits xs) all))
    (map_visible spell fits one xs (right_of (fits x) (list_all fits xs) all))

-- WHAT FOLLOWS OF A LINE

byte_plain : (byte : ℕ) → is_visible byte ≡ true → not (is_space byte) ≡ true
byte_plain byte seen = grind (arith, nat_tests)

word_plain : (word : List ℕ) → visible word ≡ true → is_plain word ≡ true
word_plain [] seen = refl
word_plain (byte ∷ word) seen =
    and_from (not (is_space byte)) (is_plain word) (byte_plain byte (left_of (is_visible byte) (visible word) seen))
    (word_plain word (right_of (is_visible byte) (visible word) seen))

-- no word has a space
pub words_plain : (words : List (List ℕ)) → all_visible words ≡ true → are_plain words ≡ true
words_plain [] seen = refl
words_plain (word ∷ words) seen =
    and_from (is_plain word) (are_plain words) (word_plain word (left_of (visible word) (all_visible words) seen))
    (words_plain words (right_of (visible word) (all_visible words) seen))

byte_inner : (byte : ℕ) → is_visible byte ≡ true → is_inner byte ≡ true
byte_inner byte seen = grind (arith, nat_tests)

word_inner : (word : List ℕ) → visible word ≡ true → are_inner word ≡ true
word_inner [] seen = refl
word_inner (byte ∷ word) seen =
    and_from (is_inner byte) (are_inner word) (byte_inner byte (left_of (is_visible byte) (visible word) seen))
    (word_inner word (right_of (is_visible byte) (visible word) seen))

inner-append : (xs ys : List ℕ) → are_inner xs ≡ true → are_inner ys ≡ true → are_inner (xs ++ ys) ≡ true
inner-append [] ys left right = right
inner-append (x ∷ xs) ys left right =
    and_from (is_inner x) (are_inner (xs ++ ys)) (left_of (is_inner x) (are_inner xs) left)
    (inner-append xs ys (right_of (is_inner x) (are_inner xs) left) right)

spaced_inner : (words : List (List ℕ)) → all_visible words ≡ true → are_inner (spaced words) ≡ true
spaced_inner [] seen = refl
spaced_inner (word ∷ words) seen =
    ap are_inner (flat_map-cons (λ one. 32 ∷ one) word words)
    ∙ inner-append word (spaced words) (word_inner word (left_of (visible word) (all_visible words) seen)) (spaced_inner words (right_of (visible word) (all_visible words) seen))

-- no LF is in the words, joined by spaces
pub joined_inner : (words : List (List ℕ)) → all_visible words ≡ true → are_inner (join_with_byte 32 words) ≡ true
joined_inner [] seen = refl
joined_inner (word ∷ words) seen =
    ap are_inner (joined word words)
    ∙ inner-append word (spaced words) (word_inner word (left_of (visible word) (all_visible words) seen)) (spaced_inner words (right_of (visible word) (all_visible words) seen))

-- NUMBERS

digit_visible : (byte : ℕ) → is_digit byte 10 ≡ true → is_visible byte ≡ true
digit_visible byte is = grind (arith, nat_tests)

digits_visible : (word : List ℕ) → are_digits word ≡ true → visible word ≡ true
digits_visible [] all = refl
digits_visible (byte ∷ word) all =
    and_from (is_visible byte) (visible word) (digit_visible byte (left_of (is_digit byte 10) (are_digits word) all))
    (digits_visible word (right_of (is_digit byte 10) (are_digits word) all))

pub number_visible : (limit n : ℕ) → limit < 2 ^ 64 → nat_le n limit ≡ true → visible (decimal n) ≡ true
number_visible limit n small low = digits_visible (decimal n) (digits_of_decimal n (lt_of_le_of_lt (leb-true n limit low) small))

pub count_visible : (n : ℕ) → fits_count n ≡ true → visible (decimal n) ≡ true
count_visible n low = number_visible (2 ^ 32 - 1) n (lit< tt) low

pub value_visible : (n : ℕ) → fits_value n ≡ true → visible (decimal n) ≡ true
value_visible n low = number_visible (2 ^ 64 - 1) n (lit< tt) low

-- two numbers with a byte between them
pub joined_visible : (a at b : ℕ) → is_visible at ≡ true → visible (decimal a) ≡ true → visible (decimal b) ≡ true → visible (decimal a ++ (at ∷ []) ++ decimal b) ≡ true
joined_visible a at b between one two =
    visible-append (decimal a ++ at ∷ []) (decimal b) (visible-append (decimal a) (at ∷ []) one (and_from (is_visible at) true between refl)) two

-- KEYS

name_byte_visible : (byte : ℕ) → is_name_byte byte ≡ true → is_visible byte ≡ true
name_byte_visible byte is = grind (arith, nat_tests)

name_visible : (name : List ℕ) → list_all is_name_byte name ≡ true → visible name ≡ true
name_visible [] all = refl
name_visible (byte ∷ name) all =
    and_from (is_visible byte) (visible name) (name_byte_visible byte (left_of (is_name_byte byte) (list_all is_name_byte name) all))
    (name_visible name (right_of (is_name_byte byte) (list_all is_name_byte name) all))

pub key_visible : (key : Key) → fits_key 2 key ≡ true → visible (key_word key) ≡ true
key_visible key fits =
    let name = right_of (nat_le key.shard.0 63) (is_name key.name) fits in
    let bytes = right_of (nat_lt 0 (length key.name) && nat_le (length key.name) 16) (list_all is_name_byte key.name) name in
    let shard = number_visible 63 key.shard.0 (lit< tt) (left_of (nat_le key.shard.0 63) (is_name key.name) fits) in
    visible-append (decimal key.shard.0 ++ codes "/") key.name (visible-append (decimal key.shard.0) (codes "/") shard refl) (name_visible key.name bytes)

-- OPERATIONS

key_and_value : (key : Key) (value : ℕ) → (fits_key 2 key && fits_value value) ≡ true → all_visible (key_word key ∷ decimal value ∷ []) ≡ true
key_and_value key value fits =
    more_visible (key_word key) (decimal value ∷ []) (key_visible key (left_of (fits_key 2 key) (fits_value value) fits))
    (one_visible (decimal value) (value_visible value (right_of (fits_key 2 key) (fits_value value) fits)))

op_visible : (op : Op) → fits_op 2 op ≡ true → all_visible (op_words op) ≡ true
op_visible (Get key) fits = one_visible (key_word key) (key_visible key fits)
op_visible (Put key value) fits = key_and_value key value fits
op_visible (Del key) fits = one_visible (key_word key) (key_visible key fits)
op_visible (Add key value) fits = key_and_value key value fits
op_visible (Cas key expected value) fits =
    let values = right_of (fits_key 2 key) (fits_value expected && fits_value value) fits in
    more_visible (key_word key) (decimal expected ∷ decimal value ∷ []) (key_visible key (left_of (fits_key 2 key) (fits_value expected && fits_value value) fits))
    (more_visible (decimal expected) (decimal value ∷ []) (value_visible expected (left_of (fits_value expected) (fits_value value) values))
    (one_visible (decimal value) (value_visible value (right_of (fits_value expected) (fits_value value) values))))

pub ops_visible : (ops : List Op) → are_ops 2 ops ≡ true → all_visible (ops_words ops) ≡ true
ops_visible [] fits = refl
ops_visible (op ∷ ops) fits =
    let all = right_of (nat_lt 0 (length (op ∷ ops)) && nat_le (length (op ∷ ops)) 32) (list_all (fits_op 2) (op ∷ ops)) fits in
    all-append (op_words op) (flat_map next_op_words ops) (op_visible op (left_of (fits_op 2 op) (list_all (fits_op 2) ops) all))
    (each_visible next_op_words (fits_op 2) (λ one fine. op_visible one fine) ops (right_of (fits_op 2 op) (list_all (fits_op 2) ops) all))

-- PLANS

pub guard_visible : (guard : Guard) → fits_guard 2 guard ≡ true → all_visible (guard_words guard) ≡ true
guard_visible guard fits = key_and_value guard.key guard.least fits

pub setting_visible : (setting : Setting) → fits_setting 2 setting ≡ true → all_visible (setting_words setting) ≡ true
setting_visible setting fits = by_how setting.how fits
  where
    by_how : (done : How) → (fits_key 2 setting.key && fits_value (number_of done)) ≡ true → all_visible (codes ";" ∷ how_words done setting.key) ≡ true
    by_how (how.Put n) fine = key_and_value setting.key n fine
    by_how (how.Plus n) fine = key_and_value setting.key n fine
    by_how (how.Minus n) fine = key_and_value setting.key n fine

pub plan_visible : (plan : PlanValue) → is_plan 2 plan ≡ true → all_visible (plan_words plan) ≡ true
plan_visible plan fits =
    let fit = fits_plan 2 plan fits in
    all-append (map key_word plan.keys ++ flat_map guard_words plan.guards) (flat_map setting_words plan.settings)
    (all-append (map key_word plan.keys) (flat_map guard_words plan.guards) (map_visible key_word (fits_key 2) key_visible plan.keys fit.fit_keys)
    (each_visible guard_words (fits_guard 2) guard_visible plan.guards fit.fit_guards))
    (each_visible setting_words (fits_setting 2) setting_visible plan.settings fit.fit_settings)
