-- Ids, places, clients, counts, values and answers are read as just what they spell.
use Rattle.std.proofs.Common.{◌≡◌, ℕ, ◌+◌, ◌-◌, ◌^◌, ◌<◌, ◌≤◌, ◌≢◌, Bool, true, false, not, cond, ◌&&◌, nat_lt, bytes_eq, codes, Option, Some, None, option_map, Ok, Err, List, [], ◌∷◌, ◌++◌, length, map, refl, sym, ap, subst, ◌∙◌, append_assoc, arith, lit<}
use Rattle.std.specs.Char.{is_digit}
use Rattle.std.specs.List.{before_first, after_first, list_all}
use Rattle.std.proofs.lemmas.Bool.{and_from, leb-true, le-leb}
use Rattle.std.proofs.lemmas.Bool.Decides.{nat_tests}
use Rattle.std.proofs.lemmas.Slice.Eq.{bytes_eq-Decides}
use Rattle.eris_base.proofs.Booleans.{left_of, right_of}
use Rattle.eris_base.specs.declared.ids.ShardId.{ShardId}
use Rattle.eris_txn.specs.declared.answer.Answer.{Answer}
use Rattle.eris_txn.specs.declared.answer.Answer.TheVariants.{Ops, Values, Committed, Aborted}
use Rattle.eris_txn.specs.declared.op.OpAnswer.{OpAnswer}
use Rattle.eris_txn.specs.declared.op.OpAnswer.TheVariants.{Value, Absent, Done, Yes, No}
use Rattle.eris_event.specs.EventRanges.{fits_count, fits_value}
use Rattle.eris_grammar.specs.Fields.{both_of, count, number}
use Rattle.eris_grammar.proofs.FieldLaws.{after-cut, before-cut, cut_apart, decimal_lacks, is_count, is_number}
use Rattle.eris_report.specs.HistoryText.{op_answer_word, value_word}
use Rattle.eris_report_range.specs.ReportRanges.{is_ranged_length, is_ranged_number, is_ranged_op_answer, is_ranged_outcome, is_ranged_place, is_ranged_value}
use Rattle.eris_words.specs.declared.reason.Reason.{Reason}
use Rattle.eris_words.specs.declared.reason.Reason.TheVariants as reason
use Rattle.eris_words.specs.Cuts.{is_space}
use Rattle.eris_words.specs.Decimal.{are_digits, decimal, read_decimal}
use Rattle.eris_words.specs.Forms.{◌>>=◌, expect, said}
use Rattle.eris_words.specs.Words.{place_word}
use Rattle.eris_words.proofs.DecimalLaws.{digits_of_decimal, read_decimal-decimal, read_decimal_only}
use Rattle.eris_words.proofs.FormLaws.{IsForm, IsWord, bind_ok, expect_ok, is_named, is_one_word, is_plain, ok_is}
use Rattle.eris_check.specs.ReportFields.{asker, few_items, fits_joined, from_one, id, if_few, is_byte, items, joined, joined_word, labelled, read_joined, read_op_answer, read_place, read_told, read_value, told, told_word}

-- WORDS THAT AREN'T NUMBERS

-- a word that passes a test is no word that fails it
pub other_word : (test : List ℕ → Bool) (word other : List ℕ) → test other ≡ false → test word ≡ true → bytes_eq word other ≡ false
other_word test word other fails passes = of_test (bytes_eq word other) refl
  where
    clash : test other ≡ true → ⊥
    clash holds = let no = fails in cc

    of_test : (same : Bool) → same ≡ bytes_eq word other → same ≡ false
    of_test true is = absurd (clash (sym (ap test ((bytes_eq-Decides word other).0 (sym is))) ∙ passes))
    of_test false is = refl

-- the first byte is a digit
abbrev pub begins_digit : List ℕ → Bool
begins_digit [] = false
begins_digit (byte ∷ bytes) = is_digit byte 10

begins_so : (word : List ℕ) (n : ℕ) → are_digits word ≡ true → read_decimal (2 ^ 64 - 1) word ≡ Some n → begins_digit word ≡ true
begins_so [] n digits read = absurd cc
begins_so (byte ∷ bytes) n digits read = left_of (is_digit byte 10) (are_digits bytes) digits

pub decimal_begins : (n : ℕ) → n < 2 ^ 64 → begins_digit (decimal n) ≡ true
decimal_begins n small = begins_so (decimal n) n (digits_of_decimal n small) (read_decimal-decimal (2 ^ 64 - 1) n (lit< tt) (omega arith))

pub begins_more : (word more : List ℕ) → begins_digit word ≡ true → begins_digit (word ++ more) ≡ true
begins_more [] more begins = absurd cc
begins_more (byte ∷ bytes) more begins = begins

-- TWO NUMBERS WITH A BYTE BETWEEN THEM

both_some : (a b : Option ℕ) (p : ℕ × ℕ) → both_of a b ≡ Some p → (a ≡ Some p.0) × (b ≡ Some p.1)
both_some (Some a) (Some b) p same = let is : (a, b) ≡ p = cc in (ap (λ (q : ℕ × ℕ). Some q.0) is, ap (λ (q : ℕ × ℕ). Some q.1) is)
both_some (Some a) None p same = absurd cc
both_some None b p same = absurd cc

from_some : (o : Option ℕ) (n : ℕ) → from_one o ≡ Some n → (o ≡ Some n) × (nat_lt 0 n ≡ true)
from_some None n read = absurd cc
from_some (Some m) n read = of_test (nat_lt 0 m) refl read
  where
    of_test : (test : Bool) → test ≡ nat_lt 0 m → cond test (Some m) None ≡ Some n → (Some m ≡ Some n) × (nat_lt 0 n ≡ true)
    of_test true is found = let same : m ≡ n = cc in (found, ap (nat_lt 0) (sym same) ∙ sym is)
    of_test false is found = absurd cc

from_again : (n : ℕ) → nat_lt 0 n ≡ true → from_one (Some n) ≡ Some n
from_again n some = ap (λ test. cond test (Some n) None) some

no_number : (limit n : ℕ) → from_one (read_decimal limit []) ≡ Some n → ⊥
no_number limit n read = cc

below_next : (n limit : ℕ) → n ≤ limit → nat_lt n (limit + 1) ≡ true
below_next n limit low = grind (arith, nat_tests)

within : (n limit : ℕ) → nat_lt n (limit + 1) ≡ true → n ≤ limit
within n limit low = grind (arith, nat_tests)

joined_as_word : (at limit : ℕ) → is_digit at 10 ≡ false → is_byte at at ≡ true → not (is_space at) ≡ true → limit < 2 ^ 64 →
    IsWord (joined_word at) (read_joined at limit) (fits_joined limit)
joined_as_word at limit other self plain small = record {
  takes = λ word p read.
      let parts = both_some (read_decimal limit (before_first (is_byte at) word)) (from_one (read_decimal (2 ^ 32 - 1) (after_first (is_byte at) word))) p read in
      let second = from_some (read_decimal (2 ^ 32 - 1) (after_first (is_byte at) word)) p.1 parts.1 in
      let a = read_decimal_only limit (before_first (is_byte at) word) p.0 small parts.0 in
      let b = read_decimal_only (2 ^ 32 - 1) (after_first (is_byte at) word) p.1 (lit< tt) second.0 in
      let some : after_first (is_byte at) word ≢ [] = λ none. no_number (2 ^ 32 - 1) p.1 (sym (ap (λ (z : List ℕ). from_one (read_decimal (2 ^ 32 - 1) z)) none) ∙ parts.1) in (
        cut_apart at word some ∙ ap (λ front. front ++ at ∷ after_first (is_byte at) word) a.0 ∙ ap (λ rest. decimal p.0 ++ at ∷ rest) b.0
            ∙ sym (append_assoc (decimal p.0) (at ∷ []) (decimal p.1)),
        and_from (nat_lt p.0 (limit + 1)) (is_ranged_number p.1) (below_next p.0 limit a.1)
            (and_from (nat_lt 0 p.1) (fits_count p.1) second.1 (le-leb p.1 (2 ^ 32 - 1) b.1)),
      );
  again = λ p fine.
      let a = within p.0 limit (left_of (nat_lt p.0 (limit + 1)) (is_ranged_number p.1) fine) in
      let more = right_of (nat_lt p.0 (limit + 1)) (is_ranged_number p.1) fine in
      let b = leb-true p.1 (2 ^ 32 - 1) (right_of (nat_lt 0 p.1) (fits_count p.1) more) in
      let lacking = decimal_lacks at p.0 other (omega arith) in
      ap (read_joined at limit) (append_assoc (decimal p.0) (at ∷ []) (decimal p.1))
      ∙ ap (λ front. both_of (read_decimal limit front) (from_one (read_decimal (2 ^ 32 - 1) (after_first (is_byte at) (decimal p.0 ++ at ∷ decimal p.1)))))
      (before-cut (is_byte at) (decimal p.0) (decimal p.1) at lacking self)
      ∙ ap (λ rest. both_of (read_decimal limit (decimal p.0)) (from_one (read_decimal (2 ^ 32 - 1) rest))) (after-cut (is_byte at) (decimal p.0) (decimal p.1) at lacking self)
      ∙ ap (λ n. both_of n (from_one (read_decimal (2 ^ 32 - 1) (decimal p.1)))) (read_decimal-decimal limit p.0 small a)
      ∙ ap (λ n. both_of (Some p.0) (from_one n)) (read_decimal-decimal (2 ^ 32 - 1) p.1 (lit< tt) b)
      ∙ ap (both_of (Some p.0)) (from_again p.1 (left_of (nat_lt 0 p.1) (fits_count p.1) more));
  plain = λ p fine.
      let a = within p.0 limit (left_of (nat_lt p.0 (limit + 1)) (is_ranged_number p.1) fine) in
      let more = right_of (nat_lt p.0 (limit + 1)) (is_ranged_number p.1) fine in
      let b = leb-true p.1 (2 ^ 32 - 1) (right_of (nat_lt 0 p.1) (fits_count p.1) more) in
      ap is_plain (append_assoc (decimal p.0) (at ∷ []) (decimal p.1))
      ∙ all-append (decimal p.0) (at ∷ decimal p.1) (decimal_lacks 32 p.0 refl (omega arith))
      (and_from (not (is_space at)) (is_plain (decimal p.1)) plain (decimal_lacks 32 p.1 refl (omega arith)));
}
  where
    all-append : (xs ys : List ℕ) → is_plain xs ≡ true → is_plain ys ≡ true → is_plain (xs ++ ys) ≡ true
    all-append [] ys left right = right
    all-append (x ∷ xs) ys left right =
        and_from (not (is_space x)) (is_plain (xs ++ ys)) (left_of (not (is_space x)) (is_plain xs) left)
        (all-append xs ys (right_of (not (is_space x)) (is_plain xs) left) right)

is_joined : (at limit : ℕ) → is_digit at 10 ≡ false → is_byte at at ≡ true → not (is_space at) ≡ true → limit < 2 ^ 64 → IsForm (joined at limit)
unfolding joined
is_joined at limit other self plain small =
    is_one_word reason.Number (joined_word at) (read_joined at limit) (fits_joined limit) (joined_as_word at limit other self plain small)

pub is_id : IsForm id
unfolding id
is_id = is_named _ _ (joined 46 127) (λ _. refl) (λ _. refl) (is_joined 46 127 refl refl refl (lit< tt))

-- CLIENTS, AND COUNTS BEHIND THEIR NAMES

pub is_asker : IsForm asker
unfolding asker
is_asker = is_named _ _ (number 127) (λ _. refl) (λ _. refl) (is_number 127 (lit< tt))

pub is_labelled : (name : List ℕ) → is_plain name ≡ true → IsForm (labelled name)
unfolding labelled count number
is_labelled name plain = record {
  takes = λ words n rest read.
      let a = bind_ok (expect name words) (λ behind. count.read behind) (n, rest) read in
      let t = is_count.takes a.0 n rest a.2 in
      record { parts = expect_ok name words a.0 a.1 ∙ ap (λ (z : List (List ℕ)). name ∷ z) t.parts; fits = t.fits };
  again = λ n rest fine.
      ap (λ test. ◌>>=◌ {B = ℕ × List (List ℕ)} (cond test (Ok (decimal n ∷ rest)) (Err reason.Word)) (λ behind. count.read behind)) ((bytes_eq-Decides name name).1 refl)
      ∙ is_count.again n rest fine;
  plain = λ n fine. and_from (is_plain name) (is_plain (decimal n) && true) plain (is_count.plain n fine);
}

-- VALUES AND ANSWERS

some_is : {X : Type 0} (a b : X) → Some a ≡ Some b → a ≡ b
some_is a b same = cc

mapped : {X : Type 0} (made : ℕ → X) (o : Option ℕ) (x : X) → option_map made o ≡ Some x → (n : ℕ) × (o ≡ Some n) × (made n ≡ x)
mapped made None x read = absurd cc
mapped made (Some n) x read = (n, refl, some_is (made n) x read)

dash_only : (word : List ℕ) → bytes_eq word (codes "-") ≡ true → word ≡ codes "-"
dash_only word is = (bytes_eq-Decides word (codes "-")).0 is

-- what one item says
pub record IsItem {X : Type 0} (spell : X → List ℕ) (value : List ℕ → Option X) (fits : X → Bool) : Type 0 where
  pub takes : (word : List ℕ) (x : X) → value word ≡ Some x → (word ≡ spell x) × (fits x ≡ true)
  pub again : (x : X) → fits x ≡ true → value (spell x) ≡ Some x

number_taken : (word : List ℕ) (n : ℕ) → read_decimal (2 ^ 64 - 1) word ≡ Some n → (word ≡ decimal n) × (fits_value n ≡ true)
number_taken word n read = let d = read_decimal_only (2 ^ 64 - 1) word n (lit< tt) read in (d.0, le-leb n (2 ^ 64 - 1) d.1)

number_again : (n : ℕ) → fits_value n ≡ true → read_decimal (2 ^ 64 - 1) (decimal n) ≡ Some n
number_again n fine = read_decimal-decimal (2 ^ 64 - 1) n (lit< tt) (leb-true n (2 ^ 64 - 1) fine)

pub number_other : (n : ℕ) (other : List ℕ) → fits_value n ≡ true → begins_digit other ≡ false → bytes_eq (decimal n) other ≡ false
number_other n other fine fails =
    let small = leb-true n (2 ^ 64 - 1) fine in
    other_word begins_digit (decimal n) other fails (decimal_begins n (omega arith))

pub value_item : IsItem value_word read_value is_ranged_value
value_item = record {
  takes = λ word x read. of_test word x (bytes_eq word (codes "-")) refl read;
  again = λ x fine. back x fine;
}
  where
    of_test : (word : List ℕ) (x : Option ℕ) (test : Bool) → test ≡ bytes_eq word (codes "-") →
        cond test (Some None) (option_map (λ n. Some n) (read_decimal (2 ^ 64 - 1) word)) ≡ Some x → (word ≡ value_word x) × (is_ranged_value x ≡ true)
    of_test word x true is found =
        subst (λ (z : Option ℕ). (word ≡ value_word z) × (is_ranged_value z ≡ true)) (some_is None x found) (dash_only word (sym is), refl)
    of_test word x false is found =
        let m = mapped (λ n. Some n) (read_decimal (2 ^ 64 - 1) word) x found in
        let t = number_taken word m.0 m.1 in
        subst (λ (z : Option ℕ). (word ≡ value_word z) × (is_ranged_value z ≡ true)) m.2 (t.0, t.1)

    back : (x : Option ℕ) → is_ranged_value x ≡ true → read_value (value_word x) ≡ Some x
    back None fine = refl
    back (Some n) fine =
        ap (λ test. cond test (Some None) (option_map (λ n. Some n) (read_decimal (2 ^ 64 - 1) (decimal n)))) (number_other n (codes "-") fine refl)
        ∙ ap (option_map (λ n. Some n)) (number_again n fine)

abbrev OpTaken : List ℕ → OpAnswer → Type 0
OpTaken word x = (word ≡ op_answer_word x) × (is_ranged_op_answer x ≡ true)

op_by : (word text : List ℕ) (answer x : OpAnswer) (rest : Option OpAnswer) → OpTaken text answer → (rest ≡ Some x → OpTaken word x) →
    (test : Bool) → test ≡ bytes_eq word text → cond test (Some answer) rest ≡ Some x → OpTaken word x
op_by word text answer x rest spelled later true is found =
    subst (OpTaken word) (some_is answer x found) ((bytes_eq-Decides word text).0 (sym is) ∙ spelled.0, spelled.1)
op_by word text answer x rest spelled later false is found = later found

op_value : (word : List ℕ) (x : OpAnswer) → option_map (λ n. Value n) (read_decimal (2 ^ 64 - 1) word) ≡ Some x → OpTaken word x
op_value word x found =
    let m = mapped (λ n. Value n) (read_decimal (2 ^ 64 - 1) word) x found in
    let t = number_taken word m.0 m.1 in
    subst (OpTaken word) m.2 (t.0, t.1)

pub op_answer_item : IsItem op_answer_word read_op_answer is_ranged_op_answer
op_answer_item = record {
  takes = λ word x read.
      op_by word (codes "-") Absent x _ (refl, refl)
      (op_by word (codes "ok") Done x _ (refl, refl)
      (op_by word (codes "yes") Yes x _ (refl, refl)
      (op_by word (codes "no") No x _ (refl, refl) (op_value word x) (bytes_eq word (codes "no")) refl)
      (bytes_eq word (codes "yes")) refl)
      (bytes_eq word (codes "ok")) refl)
      (bytes_eq word (codes "-")) refl read;
  again = λ x fine. back x fine;
}
  where
    back : (x : OpAnswer) → is_ranged_op_answer x ≡ true → read_op_answer (op_answer_word x) ≡ Some x
    back Absent fine = refl
    back Done fine = refl
    back Yes fine = refl
    back No fine = refl
    back (Value n) fine =
        rw (number_other n (codes "-") fine refl, number_other n (codes "ok") fine refl, number_other n (codes "yes") fine refl, number_other n (codes "no") fine refl, number_again n fine)
        refl

pub place_item : IsItem place_word read_place is_ranged_place
place_item =
    let joined = joined_as_word 58 63 refl refl refl (lit< tt) in
    record {
      takes = λ word place read.
          let m = mapped_pair (read_joined 58 63 word) place read in
          let t = joined.takes word m.0 m.1 in
          subst (λ (z : ShardId × ℕ). (word ≡ place_word z) × (is_ranged_place z ≡ true)) m.2 (t.0, t.1);
      again = λ place fine. ap (option_map made) (joined.again (place.0.0, place.1) fine);
    }
  where
    made : ℕ × ℕ → ShardId × ℕ
    made p = (record { 0 = p.0 }, p.1)

    mapped_pair : (o : Option (ℕ × ℕ)) (x : ShardId × ℕ) → option_map made o ≡ Some x → (p : ℕ × ℕ) × (o ≡ Some p) × (made p ≡ x)
    mapped_pair None x read = absurd cc
    mapped_pair (Some p) x read = (p, refl, some_is (made p) x read)

told_as_word : IsWord told_word read_told is_ranged_outcome
told_as_word = record {
  takes = λ word x read. of_test word x (bytes_eq word (codes "committed")) refl read;
  again = λ x fine. back x fine;
  plain = λ x fine. plain x fine;
}
  where
    told_second : (word : List ℕ) (x : Answer) (test : Bool) → test ≡ bytes_eq word (codes "aborted") →
        cond test (Some Aborted) None ≡ Some x → (word ≡ told_word x) × (is_ranged_outcome x ≡ true)
    told_second word x true same found =
        subst (λ (z : Answer). (word ≡ told_word z) × (is_ranged_outcome z ≡ true)) (some_is Aborted x found) ((bytes_eq-Decides word (codes "aborted")).0 (sym same), refl)
    told_second word x false same found = absurd cc

    of_test : (word : List ℕ) (x : Answer) (test : Bool) → test ≡ bytes_eq word (codes "committed") →
        cond test (Some Committed) (cond (bytes_eq word (codes "aborted")) (Some Aborted) None) ≡ Some x → (word ≡ told_word x) × (is_ranged_outcome x ≡ true)
    of_test word x true same found =
        subst (λ (z : Answer). (word ≡ told_word z) × (is_ranged_outcome z ≡ true)) (some_is Committed x found) ((bytes_eq-Decides word (codes "committed")).0 (sym same), refl)
    of_test word x false same found = told_second word x (bytes_eq word (codes "aborted")) refl found

    back : (x : Answer) → is_ranged_outcome x ≡ true → read_told (told_word x) ≡ Some x
    back (Ops answers) fine = absurd cc
    back (Values values) fine = absurd cc
    back Committed fine = refl
    back Aborted fine = refl

    plain : (x : Answer) → is_ranged_outcome x ≡ true → is_plain (told_word x) ≡ true
    plain (Ops answers) fine = absurd cc
    plain (Values values) fine = absurd cc
    plain Committed fine = refl
    plain Aborted fine = refl

pub is_told : IsForm told
unfolding told
is_told = is_one_word reason.Word told_word read_told is_ranged_outcome told_as_word

-- ITEMS TO THE END OF THE LINE

pub said_is : {X : Type 0} (o : Option X) (why : Reason) (x : X) → said o why ≡ Ok x → o ≡ Some x
said_is (Some y) why x read = ap (λ z. Some z) (ok_is y x read)
said_is None why x read = absurd cc

pub record ItemsTaken {X : Type 0} (spell : X → List ℕ) (fits : X → Bool) (words : List (List ℕ)) (xs : List X) : Type 0 where
  pub parts : words ≡ map spell xs
  pub fine : list_all fits xs ≡ true

module _ {X : Type 0} (spell : X → List ℕ) (value : List ℕ → Option X) (fits : X → Bool) (h : IsItem spell value fits) where
  pub items_take : (words : List (List ℕ)) (xs : List X) → items value words ≡ Ok xs → ItemsTaken spell fits words xs
  unfolding items
  items_take [] xs read = subst (λ (z : List X). ItemsTaken spell fits [] z) (ok_is [] xs read) (record { parts = refl; fine = refl })
  items_take (word ∷ words) xs read =
      let a = bind_ok (said (value word) reason.Word) (λ x. items value words >>= λ xs. Ok (x ∷ xs)) xs read in
      let b = bind_ok (items value words) (λ xs. Ok (a.0 ∷ xs)) xs a.2 in
      let t = h.takes word a.0 (said_is (value word) reason.Word a.0 a.1) in
      let u = items_take words b.0 b.1 in
      let made : ItemsTaken spell fits (word ∷ words) (a.0 ∷ b.0) = record {
        parts = ap (λ (z : List ℕ). z ∷ words) t.0 ∙ ap (λ (z : List (List ℕ)). spell a.0 ∷ z) u.parts;
        fine = and_from (fits a.0) (list_all fits b.0) t.1 u.fine;
      } in
      subst (λ (z : List X). ItemsTaken spell fits (word ∷ words) z) (ok_is (a.0 ∷ b.0) xs b.2) made

  pub items_again : (xs : List X) → list_all fits xs ≡ true → items value (map spell xs) ≡ Ok xs
  unfolding items
  items_again [] fine = refl
  items_again (x ∷ xs) fine =
      ap (λ found. said found reason.Word >>= λ x. items value (map spell xs) >>= λ xs. Ok (x ∷ xs)) (h.again x (left_of (fits x) (list_all fits xs) fine))
      ∙ ap (λ r. r >>= λ xs. Ok (x ∷ xs)) (items_again xs (right_of (fits x) (list_all fits xs) fine))

  few_is : (xs taken : List X) → if_few xs ≡ Ok taken → (xs ≡ taken) × (is_ranged_length (length xs) ≡ true)
  few_is xs taken read = of_test (is_ranged_length (length xs)) refl read
    where
      of_test : (test : Bool) → test ≡ is_ranged_length (length xs) → cond test (Ok xs) (Err reason.TooMany) ≡ Ok taken → (xs ≡ taken) × (is_ranged_length (length xs) ≡ true)
      of_test true is found = (ok_is xs taken found, sym is)
      of_test false is found = absurd cc

  pub few_take : (words : List (List ℕ)) (xs : List X) → few_items value words ≡ Ok xs → (words ≡ map spell xs) × ((is_ranged_length (length xs) && list_all fits xs) ≡ true)
  few_take words xs read =
      let a = bind_ok (items value words) if_few xs read in
      let f = few_is a.0 xs a.2 in
      let t = items_take words a.0 a.1 in
      subst (λ (z : List X). (words ≡ map spell z) × ((is_ranged_length (length z) && list_all fits z) ≡ true)) f.0
      (t.parts, and_from (is_ranged_length (length a.0)) (list_all fits a.0) f.1 t.fine)

  pub few_again : (xs : List X) → (is_ranged_length (length xs) && list_all fits xs) ≡ true → few_items value (map spell xs) ≡ Ok xs
  few_again xs fine =
      ap (λ r. r >>= if_few) (items_again xs (right_of (is_ranged_length (length xs)) (list_all fits xs) fine))
      ∙ ap (λ test. cond test (Ok xs) (Err reason.TooMany)) (left_of (is_ranged_length (length xs)) (list_all fits xs) fine)
