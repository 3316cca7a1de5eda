-- Numbers, names of nodes and transactions, and keys are read as just what they spell.
use Rattle.std.proofs.Common.{◌≡◌, ℕ, suc, ◌+◌, ◌-◌, ◌^◌, ◌<◌, ◌≢◌, Bool, true, false, not, cond, ◌==◌, ◌&&◌, nat_le, Option, Some, None, List, [], ◌∷◌, ◌++◌, length, take, drop, refl, sym, ap, ◌∙◌, append_assoc, arith, lit<, one-add, inl, inr}
use Rattle.std.specs.Char.{is_digit}
use Rattle.std.specs.List.{before_first, after_first, position_or_len, list_all}
use Rattle.std.proofs.Math.ListN.{drop_of_length-le}
use Rattle.std.proofs.Math.Seq.{take-append_seam, drop-append-add}
use Rattle.std.proofs.lemmas.Bool.{cases_lt, eqb-true, and_from, leb-true, le-leb}
use Rattle.std.proofs.lemmas.List.Sums.{split_at_first, passes_at_first}
use Rattle.eris_base.proofs.Booleans.{left_of, right_of}
use Rattle.eris_txn.specs.declared.key.Key.{Key}
use Rattle.eris_txn.specs.Names.{is_name, is_name_byte}
use Rattle.eris_words.specs.declared.reason.Reason.TheVariants as reason
use Rattle.eris_words.specs.Cuts.{is_space}
use Rattle.eris_words.specs.Decimal.{decimal, read_decimal}
use Rattle.eris_grammar.specs.Fields.{number, count, value, client, is_dot, dotted_word, both_of, read_dotted, two_words, dotted, two_numbers, txn, replica, is_slash, key_in, read_key, key}
use Rattle.eris_event.specs.EventRanges.{last_shard}
use Rattle.eris_words.specs.Forms.{Form, named}
use Rattle.eris_words.specs.Words.{key_word}
use Rattle.eris_words.proofs.DecimalLaws.{digits_of_decimal, read_decimal-decimal, read_decimal_only}
use Rattle.eris_words.proofs.FormLaws.{is_plain, IsForm, IsWord, is_one_word, is_pair, is_named}

-- BYTES THAT A WORD LACKS

lacks_one : (byte other : ℕ) (test : ℕ → Bool) → test other ≡ false → test byte ≡ true → (same : Bool) → (same ≡ true → byte ≡ other) → not same ≡ true
lacks_one byte other test never holds true found = absurd (clash (sym (ap test (found refl)) ∙ holds))
  where
    clash : test other ≡ true → ⊥
    clash always = let no = never in cc
lacks_one byte other test never holds false found = refl

-- what passes a test that a byte fails lacks that byte
pub lacks : (test : ℕ → Bool) (other : ℕ) → test other ≡ false → (word : List ℕ) → list_all test word ≡ true → list_all (λ byte. not (byte == other)) word ≡ true
lacks test other never [] all = refl
lacks test other never (byte ∷ word) all =
    and_from (not (byte == other)) (list_all (λ byte. not (byte == other)) word)
    (lacks_one byte other test never (left_of (test byte) (list_all test word) all) (byte == other) (eqb-true byte other))
    (lacks test other never word (right_of (test byte) (list_all test word) all))

all-append : (test : ℕ → Bool) (xs ys : List ℕ) → list_all test xs ≡ true → list_all test ys ≡ true → list_all test (xs ++ ys) ≡ true
all-append test [] ys left right = right
all-append test (x ∷ xs) ys left right =
    and_from (test x) (list_all test (xs ++ ys)) (left_of (test x) (list_all test xs) left) (all-append test xs ys (right_of (test x) (list_all test xs) left) right)

abbrev digit : ℕ → Bool
digit byte = is_digit byte 10

pub decimal_lacks : (other n : ℕ) → digit other ≡ false → n < 2 ^ 64 → list_all (λ byte. not (byte == other)) (decimal n) ≡ true
decimal_lacks other n never small = lacks digit other never (decimal n) (digits_of_decimal n small)

-- A WORD THAT IS CUT ONCE

position_at : (p : ℕ → Bool) (front rest : List ℕ) (at : ℕ) → list_all (λ byte. not (p byte)) front ≡ true → p at ≡ true →
    position_or_len p (front ++ at ∷ rest) ≡ length front
position_at p [] rest at lacking here = rw here refl
position_at p (byte ∷ front) rest at lacking here =
    let other : not (p byte) ≡ true = left_of (not (p byte)) (list_all (λ byte. not (p byte)) front) lacking in
    rw other (one-add _ ∙ ap (λ n. suc n) (position_at p front rest at (right_of (not (p byte)) (list_all (λ byte. not (p byte)) front) lacking) here))

pub before-cut : (p : ℕ → Bool) (front rest : List ℕ) (at : ℕ) → list_all (λ byte. not (p byte)) front ≡ true → p at ≡ true →
    before_first p (front ++ at ∷ rest) ≡ front
before-cut p front rest at lacking here = ap (λ n. take n (front ++ at ∷ rest)) (position_at p front rest at lacking here) ∙ take-append_seam front (at ∷ rest)

pub after-cut : (p : ℕ → Bool) (front rest : List ℕ) (at : ℕ) → list_all (λ byte. not (p byte)) front ≡ true → p at ≡ true →
    after_first p (front ++ at ∷ rest) ≡ rest
after-cut p front rest at lacking here = ap (λ n. drop (n + 1) (front ++ at ∷ rest)) (position_at p front rest at lacking here) ∙ drop-append-add front (at ∷ rest) 1

-- a word with something behind the cut has the byte at which it is cut
pub cut_apart : (at : ℕ) (word : List ℕ) → after_first (λ byte. byte == at) word ≢ [] →
    word ≡ before_first (λ byte. byte == at) word ++ at ∷ after_first (λ byte. byte == at) word
cut_apart at word some = elim (cases_lt (position_or_len (λ byte. byte == at) word) (length word)) [
  | inl within ↦ split_at_first (λ byte. byte == at) word 0 within
      ∙ ap (λ byte. before_first (λ byte. byte == at) word ++ byte ∷ after_first (λ byte. byte == at) word)
      (eqb-true _ at (passes_at_first (λ byte. byte == at) word 0 within))
  | inr past ↦ absurd (some (drop_of_length-le word (omega arith)))
]

-- NUMBERS

number_word : (limit : ℕ) → limit < 2 ^ 64 → IsWord decimal (read_decimal limit) (λ n. nat_le n limit)
number_word limit small = record {
  takes = λ word n read. let d = read_decimal_only limit word n small read in (d.0, le-leb n limit d.1);
  again = λ n fine. read_decimal-decimal limit n small (leb-true n limit fine);
  plain = λ n fine. let le = leb-true n limit fine in decimal_lacks 32 n refl (omega arith);
}

pub is_number : (limit : ℕ) → limit < 2 ^ 64 → IsForm (number limit)
unfolding number
is_number limit small = is_one_word reason.Number decimal (read_decimal limit) (λ n. nat_le n limit) (number_word limit small)

pub is_count : IsForm count
unfolding count
is_count = is_number (2 ^ 32 - 1) (lit< tt)

pub is_value : IsForm value
unfolding value
is_value = is_number (2 ^ 64 - 1) (lit< tt)

pub is_client : IsForm client
unfolding client
is_client = is_named _ _ (number 255) (λ _. refl) (λ _. refl) (is_number 255 (lit< tt))

-- TWO NUMBERS

both_some : (a b : Option ℕ) (p : ℕ × ℕ) → both_of a b ≡ Some p → (a ≡ Some p.0) × (b ≡ Some p.1)
both_some (Some a) (Some b) p same = let is : (a, b) ≡ p = cc in (ap (λ (q : ℕ × ℕ). Some q.0) is, ap (λ (q : ℕ × ℕ). Some q.1) is)
both_some (Some a) None p same = absurd cc
both_some None b p same = absurd cc

no_number : (limit n : ℕ) → read_decimal limit [] ≡ Some n → ⊥
no_number limit n read = cc

dotted_as_word : (first second : ℕ) → first < 2 ^ 64 → second < 2 ^ 64 →
    IsWord dotted_word (read_dotted first second) (λ p. nat_le p.0 first && nat_le p.1 second)
dotted_as_word first second small few = record {
  takes = λ word p read.
      let parts = both_some (read_decimal first (before_first is_dot word)) (read_decimal second (after_first is_dot word)) p read in
      let a = read_decimal_only first (before_first is_dot word) p.0 small parts.0 in
      let b = read_decimal_only second (after_first is_dot word) p.1 few parts.1 in
      let some : after_first is_dot word ≢ [] = λ none. no_number second p.1 (sym (ap (read_decimal second) none) ∙ parts.1) in (
        cut_apart 46 word some ∙ ap (λ front. front ++ 46 ∷ after_first is_dot word) a.0 ∙ ap (λ rest. decimal p.0 ++ 46 ∷ rest) b.0
            ∙ sym (append_assoc (decimal p.0) (46 ∷ []) (decimal p.1)),
        and_from (nat_le p.0 first) (nat_le p.1 second) (le-leb p.0 first a.1) (le-leb p.1 second b.1),
      );
  again = λ p fine.
      let a = leb-true p.0 first (left_of (nat_le p.0 first) (nat_le p.1 second) fine) in
      let b = leb-true p.1 second (right_of (nat_le p.0 first) (nat_le p.1 second) fine) in
      let lacking = decimal_lacks 46 p.0 refl (omega arith) in
      ap (read_dotted first second) (append_assoc (decimal p.0) (46 ∷ []) (decimal p.1))
      ∙ ap (λ front. both_of (read_decimal first front) (read_decimal second (after_first is_dot (decimal p.0 ++ 46 ∷ decimal p.1)))) (before-cut is_dot (decimal p.0) (decimal p.1) 46 lacking refl)
      ∙ ap (λ rest. both_of (read_decimal first (decimal p.0)) (read_decimal second rest)) (after-cut is_dot (decimal p.0) (decimal p.1) 46 lacking refl)
      ∙ ap (λ n. both_of n (read_decimal second (decimal p.1))) (read_decimal-decimal first p.0 small a)
      ∙ ap (λ n. both_of (Some p.0) n) (read_decimal-decimal second p.1 few b);
  plain = λ p fine.
      let a = leb-true p.0 first (left_of (nat_le p.0 first) (nat_le p.1 second) fine) in
      let b = leb-true p.1 second (right_of (nat_le p.0 first) (nat_le p.1 second) fine) in
      ap is_plain (append_assoc (decimal p.0) (46 ∷ []) (decimal p.1))
      ∙ all-append (λ byte. not (is_space byte)) (decimal p.0) (46 ∷ decimal p.1) (decimal_lacks 32 p.0 refl (omega arith)) (decimal_lacks 32 p.1 refl (omega arith));
}

is_dotted : (first second : ℕ) → first < 2 ^ 64 → second < 2 ^ 64 → IsForm (dotted first second)
unfolding dotted
is_dotted first second small few = is_one_word reason.Number dotted_word (read_dotted first second) _ (dotted_as_word first second small few)

is_two_words : (first second : ℕ) → first < 2 ^ 64 → second < 2 ^ 64 → IsForm (two_words first second)
unfolding two_words
is_two_words first second small few = is_pair (number first) (number second) (is_number first small) (is_number second few)

abbrev by_version : ℕ → ℕ → Bool → Form (ℕ × ℕ)
by_version first second old = record {
  spell = λ p. cond old (decimal p.0 ∷ decimal p.1 ∷ []) (dotted_word p ∷ []);
  read = λ words. cond old ((two_words first second).read words) ((dotted first second).read words);
  fits = λ p. nat_le p.0 first && nat_le p.1 second;
}

is_by_version : (first second : ℕ) → first < 2 ^ 64 → second < 2 ^ 64 → (old : Bool) → IsForm (by_version first second old)
unfolding two_words dotted number
is_by_version first second small few true =
    let h = is_two_words first second small few in
    record {
      takes = λ words p rest read. let t = h.takes words p rest read in record { parts = t.parts; fits = t.fits };
      again = λ p rest fine. h.again p rest fine;
      plain = λ p fine. h.plain p fine;
    }
is_by_version first second small few false =
    let h = is_dotted first second small few in
    record {
      takes = λ words p rest read. let t = h.takes words p rest read in record { parts = t.parts; fits = t.fits };
      again = λ p rest fine. h.again p rest fine;
      plain = λ p fine. h.plain p fine;
    }

pub is_two_numbers : (version first second : ℕ) → first < 2 ^ 64 → second < 2 ^ 64 → IsForm (two_numbers version first second)
unfolding two_numbers
is_two_numbers version first second small few = is_by_version first second small few (version == 1)

pub is_txn : (version : ℕ) → IsForm (txn version)
unfolding txn
is_txn version = is_named _ _ (two_numbers version 255 (2 ^ 32 - 1)) (λ _. refl) (λ _. refl) (is_two_numbers version 255 (2 ^ 32 - 1) (lit< tt) (lit< tt))

pub is_replica : (version : ℕ) → IsForm (replica version)
unfolding replica
is_replica version = is_named _ _ (two_numbers version 255 255) (λ _. refl) (λ _. refl) (is_two_numbers version 255 255 (lit< tt) (lit< tt))

-- KEYS

some_is : (a b : Key) → Some a ≡ Some b → a ≡ b
some_is a b same = cc

key_some : (shard : Option ℕ) (name : List ℕ) (k : Key) → key_in shard name ≡ Some k → (shard ≡ Some k.shard.0) × (name ≡ k.name) × (is_name name ≡ true)
key_some (Some shard) name k same = of_test (is_name name) refl same
  where
    of_test : (test : Bool) → test ≡ is_name name → cond test (Some (record { shard = record { 0 = shard }; name = name })) None ≡ Some k →
        (Some shard ≡ Some k.shard.0) × (name ≡ k.name) × (is_name name ≡ true)
    of_test true named found =
        let is = some_is (record { shard = record { 0 = shard }; name = name }) k found in
        (ap (λ (key : Key). Some key.shard.0) is, ap (λ (key : Key). key.name) is, sym named)
    of_test false named found = absurd cc
key_some None name k same = absurd cc

no_name : is_name [] ≡ true → ⊥
no_name named = cc

few_shards : (version : ℕ) → last_shard version < 2 ^ 64
few_shards version = of_test (version == 1)
  where
    of_test : (old : Bool) → cond old 15 63 < 2 ^ 64
    of_test true = lit< tt
    of_test false = lit< tt

key_as_word : (version : ℕ) → IsWord key_word (read_key version) (λ k. nat_le k.shard.0 (last_shard version) && is_name k.name)
key_as_word version = record {
  takes = λ word k read.
      let parts = key_some (read_decimal (last_shard version) (before_first is_slash word)) (after_first is_slash word) k read in
      let a = read_decimal_only (last_shard version) (before_first is_slash word) k.shard.0 (few_shards version) parts.0 in
      let some : after_first is_slash word ≢ [] = λ none. no_name (sym (ap is_name none) ∙ parts.2) in (
        cut_apart 47 word some ∙ ap (λ front. front ++ 47 ∷ after_first is_slash word) a.0 ∙ ap (λ rest. decimal k.shard.0 ++ 47 ∷ rest) parts.1
            ∙ sym (append_assoc (decimal k.shard.0) (47 ∷ []) k.name),
        and_from (nat_le k.shard.0 (last_shard version)) (is_name k.name) (le-leb k.shard.0 (last_shard version) a.1) (sym (ap is_name parts.1) ∙ parts.2),
      );
  again = λ k fine.
      let few = few_shards version in
      let a = leb-true k.shard.0 (last_shard version) (left_of (nat_le k.shard.0 (last_shard version)) (is_name k.name) fine) in
      let named : is_name k.name ≡ true = right_of (nat_le k.shard.0 (last_shard version)) (is_name k.name) fine in
      let lacking = decimal_lacks 47 k.shard.0 refl (omega arith) in
      ap (read_key version) (append_assoc (decimal k.shard.0) (47 ∷ []) k.name)
      ∙ ap (λ front. key_in (read_decimal (last_shard version) front) (after_first is_slash (decimal k.shard.0 ++ 47 ∷ k.name))) (before-cut is_slash (decimal k.shard.0) k.name 47 lacking refl)
      ∙ ap (λ rest. key_in (read_decimal (last_shard version) (decimal k.shard.0)) rest) (after-cut is_slash (decimal k.shard.0) k.name 47 lacking refl)
      ∙ ap (λ n. key_in n k.name) (read_decimal-decimal (last_shard version) k.shard.0 few a)
      ∙ ap (λ test. cond test (Some (record { shard = k.shard; name = k.name })) None) named;
  plain = λ k fine.
      let few = few_shards version in
      let a = leb-true k.shard.0 (last_shard version) (left_of (nat_le k.shard.0 (last_shard version)) (is_name k.name) fine) in
      let named : is_name k.name ≡ true = right_of (nat_le k.shard.0 (last_shard version)) (is_name k.name) fine in
      ap is_plain (append_assoc (decimal k.shard.0) (47 ∷ []) k.name)
      ∙ all-append (λ byte. not (is_space byte)) (decimal k.shard.0) (47 ∷ k.name) (decimal_lacks 32 k.shard.0 refl (omega arith))
      (lacks is_name_byte 32 refl k.name (right_of _ (list_all is_name_byte k.name) named));
}

pub is_key : (version : ℕ) → IsForm (key version)
unfolding key
is_key version = is_one_word reason.Key key_word (read_key version) _ (key_as_word version)

pub key_read : (version : ℕ) (k : Key) → (nat_le k.shard.0 (last_shard version) && is_name k.name) ≡ true → read_key version (key_word k) ≡ Some k
key_read version = (key_as_word version).again
