-- What a word of digits spells.
use Rattle.std.proofs.Common.{◌≡◌, ℕ, suc, ◌+◌, ◌-◌, ◌*◌, ◌/◌, ◌%◌, ◌<◌, ◌≤◌, Bool, true, false, not, cond, ◌==◌, ◌&&◌, ◌||◌, nat_le, nat_lt, bytes_eq, codes, Option, Some, None, List, [], ◌∷◌, ◌++◌, length, ap, sym, ◌∙◌, refl, subst, arith, inl, inr}
use Rattle.std.specs.List.{flat_map, list_all}
use Rattle.std.proofs.lemmas.Bool.{cases_lt, ltb-true, ltb-false, lt-ltb, and_from, leb-true, le-leb}
use Rattle.std.proofs.lemmas.Bool.Decides.{nat_tests}
use Rattle.std.proofs.lemmas.List.Concat.{flat_map-cons}
use Rattle.std.proofs.lemmas.Slice.Eq.{bytes_eq-Decides}
use Rattle.eris_base.proofs.Booleans.{left_of, right_of}
use Rattle.eris_words.specs.declared.reason.Reason.TheVariants as reason
use Rattle.eris_words.specs.Cuts.{is_space}
use Rattle.eris_event.specs.EventRanges.{are_noise}
use Rattle.eris_grammar.specs.Fields.{byte_of, hex, hex_digit, hex_pair, hex_value, hex_word, onto, read_hex, read_pairs}
use Rattle.eris_words.proofs.FormLaws.{is_plain, IsForm, is_one_word}

low_digit : (n : ℕ) → n < 10 → hex_value (hex_digit n) ≡ Some n
low_digit n low =
    let is : hex_digit n ≡ 48 + n = grind (arith, nat_tests) in
    let test : (nat_le 48 (48 + n) && nat_le (48 + n) 57) ≡ true = grind (arith, nat_tests) in
    let back : (48 + n) - 48 ≡ n = omega arith in
    ap hex_value is ∙ rw test (ap (λ m. Some m) back)

high_digit : (n : ℕ) → 10 ≤ n → n < 16 → hex_value (hex_digit n) ≡ Some n
high_digit n high small =
    let is : hex_digit n ≡ 87 + n = grind (arith, nat_tests) in
    let other : (nat_le 48 (87 + n) && nat_le (87 + n) 57) ≡ false = grind (arith, nat_tests) in
    let test : (nat_le 97 (87 + n) && nat_le (87 + n) 102) ≡ true = grind (arith, nat_tests) in
    let back : (87 + n) - 87 ≡ n = omega arith in
    ap hex_value is ∙ rw other (rw test (ap (λ m. Some m) back))

digit_again : (n : ℕ) → n < 16 → hex_value (hex_digit n) ≡ Some n
digit_again n small = elim (cases_lt n 10) [ inl low ↦ low_digit n low | inr high ↦ high_digit n high small ]

some_is : (a b : ℕ) → Some a ≡ Some b → a ≡ b
some_is a b same = cc

digit_only : (digit n : ℕ) → hex_value digit ≡ Some n → (digit ≡ hex_digit n) × (n < 16)
digit_only digit n read =
    of_tests (nat_le 48 digit && nat_le digit 57) (nat_le 97 digit && nat_le digit 102) refl refl read
  where
    of_tests : (low high : Bool) → low ≡ (nat_le 48 digit && nat_le digit 57) → high ≡ (nat_le 97 digit && nat_le digit 102) →
        cond low (Some (digit - 48)) (cond high (Some (digit - 87)) None) ≡ Some n → (digit ≡ hex_digit n) × (n < 16)
    of_tests true high is other found =
        let same = some_is (digit - 48) n found in
        let within : (48 ≤ digit) × (digit ≤ 57) = (grind (arith, nat_tests), grind (arith, nat_tests)) in
        (grind (arith, nat_tests), omega arith)
    of_tests false true is other found =
        let same = some_is (digit - 87) n found in
        let within : (97 ≤ digit) × (digit ≤ 102) = (grind (arith, nat_tests), grind (arith, nat_tests)) in
        (grind (arith, nat_tests), omega arith)
    of_tests false false is other found = absurd cc

byte_again : (byte : ℕ) → byte < 256 → byte_of (hex_value (hex_digit (byte / 16))) (hex_value (hex_digit (byte % 16))) ≡ Some byte
byte_again byte small =
    let high : byte / 16 < 16 = omega arith in
    let low : byte % 16 < 16 = omega arith in
    let sum : (byte / 16) * 16 + byte % 16 ≡ byte = omega arith in
    rw (digit_again (byte / 16) high, digit_again (byte % 16) low) (ap (λ n. Some n) sum)

pub pairs_again : (bytes : List ℕ) → list_all (λ byte. nat_lt byte 256) bytes ≡ true → read_pairs (flat_map hex_pair bytes) ≡ Some bytes
pairs_again [] small = refl
pairs_again (byte ∷ bytes) small =
    let here : byte < 256 = ltb-true byte 256 (left_of (nat_lt byte 256) (list_all (λ byte. nat_lt byte 256) bytes) small) in
    let rest = pairs_again bytes (right_of (nat_lt byte 256) (list_all (λ byte. nat_lt byte 256) bytes) small) in
    ap read_pairs (flat_map-cons hex_pair byte bytes)
    ∙ ap (λ value. onto value (read_pairs (flat_map hex_pair bytes))) (byte_again byte here)
    ∙ ap (onto (Some byte)) rest

byte_parts : (high low : Option ℕ) (byte : ℕ) → byte_of high low ≡ Some byte → (a : ℕ) × (b : ℕ) × (high ≡ Some a) × (low ≡ Some b) × (a * 16 + b ≡ byte)
byte_parts (Some a) (Some b) byte same = (a, b, refl, refl, some_is (a * 16 + b) byte same)
byte_parts (Some a) None byte same = absurd cc
byte_parts None low byte same = absurd cc

onto_parts : (first : Option ℕ) (more : Option (List ℕ)) (bytes : List ℕ) → onto first more ≡ Some bytes →
    (byte : ℕ) × (rest : List ℕ) × (first ≡ Some byte) × (more ≡ Some rest) × (byte ∷ rest ≡ bytes)
onto_parts (Some byte) (Some rest) bytes same = (byte, rest, refl, refl, cc)
onto_parts (Some byte) None bytes same = absurd cc
onto_parts None more bytes same = absurd cc

pair_is : (high low a b byte : ℕ) → high ≡ hex_digit a → low ≡ hex_digit b → a ≡ byte / 16 → b ≡ byte % 16 → high ∷ low ∷ [] ≡ hex_pair byte
pair_is high low a b byte first second big small =
    ap (λ digit. digit ∷ low ∷ []) (first ∙ ap hex_digit big) ∙ ap (λ digit. hex_digit (byte / 16) ∷ digit ∷ []) (second ∙ ap hex_digit small)

pair_only : (high low byte : ℕ) → byte_of (hex_value high) (hex_value low) ≡ Some byte → (high ∷ low ∷ [] ≡ hex_pair byte) × (byte < 256)
pair_only high low byte read =
    let parts = byte_parts (hex_value high) (hex_value low) byte read in
    let a = digit_only high parts.0 parts.2 in
    let b = digit_only low parts.1 parts.3 in
    let sum = parts.4 in
    let big : parts.0 ≡ byte / 16 = omega (arith, a.1, b.1, sum) in
    let small : parts.1 ≡ byte % 16 = omega (arith, a.1, b.1, sum) in
    (pair_is high low parts.0 parts.1 byte a.0 b.0 big small, omega (arith, a.1, b.1, sum))

pub record PairsTaken (digits bytes : List ℕ) : Type 0 where
  pub parts : digits ≡ flat_map hex_pair bytes
  pub fits : list_all (λ byte. nat_lt byte 256) bytes ≡ true

pub pairs_only : (digits bytes : List ℕ) → read_pairs digits ≡ Some bytes → PairsTaken digits bytes
pairs_only [] bytes read = subst (λ (z : List ℕ). PairsTaken [] z) (lists_same [] bytes read) (record { parts = refl; fits = refl })
  where
    lists_same : (a b : List ℕ) → Some a ≡ Some b → a ≡ b
    lists_same a b same = cc
pairs_only (digit ∷ []) bytes read = absurd cc
pairs_only (high ∷ low ∷ digits) bytes read =
    let parts = onto_parts (byte_of (hex_value high) (hex_value low)) (read_pairs digits) bytes read in
    let here = pair_only high low parts.0 parts.2 in
    let rest = pairs_only digits parts.1 parts.3 in
    let made : PairsTaken (high ∷ low ∷ digits) (parts.0 ∷ parts.1) = record {
      parts = ap (λ (front : List ℕ). front ++ digits) here.0 ∙ ap (λ (z : List ℕ). hex_pair parts.0 ++ z) rest.parts ∙ sym (flat_map-cons hex_pair parts.0 parts.1);
      fits = and_from (nat_lt parts.0 256) (list_all (λ byte. nat_lt byte 256) parts.1) (lt-ltb parts.0 256 here.1) rest.fits;
    } in
    subst (λ (z : List ℕ). PairsTaken (high ∷ low ∷ digits) z) parts.4 made

length_pairs : (bytes : List ℕ) → length (flat_map hex_pair bytes) ≡ 2 * length bytes
length_pairs [] = refl
length_pairs (byte ∷ bytes) =
    let rest = length_pairs bytes in
    let step : suc (suc (length (flat_map hex_pair bytes))) ≡ 2 * suc (length bytes) = omega arith in
    ap (λ (z : List ℕ). length z) (flat_map-cons hex_pair byte bytes) ∙ step

digit_plain : (n : ℕ) → n < 16 → not (is_space (hex_digit n)) ≡ true
digit_plain n small = grind (arith, nat_tests)

pairs_plain : (bytes : List ℕ) → list_all (λ byte. nat_lt byte 256) bytes ≡ true → is_plain (flat_map hex_pair bytes) ≡ true
pairs_plain [] small = refl
pairs_plain (byte ∷ bytes) small =
    let here : byte < 256 = ltb-true byte 256 (left_of (nat_lt byte 256) (list_all (λ byte. nat_lt byte 256) bytes) small) in
    let rest = pairs_plain bytes (right_of (nat_lt byte 256) (list_all (λ byte. nat_lt byte 256) bytes) small) in
    ap is_plain (flat_map-cons hex_pair byte bytes)
    ∙ and_from (not (is_space (hex_digit (byte / 16)))) (is_plain (hex_digit (byte % 16) ∷ flat_map hex_pair bytes)) (digit_plain (byte / 16) (omega arith))
    (and_from (not (is_space (hex_digit (byte % 16)))) (is_plain (flat_map hex_pair bytes)) (digit_plain (byte % 16) (omega arith)) rest)

pub record HexTaken (word bytes : List ℕ) : Type 0 where
  pub parts : word ≡ hex_word bytes
  pub fits : are_noise bytes ≡ true

no_bytes : (word bytes : List ℕ) → word ≡ codes "-" → Some [] ≡ Some bytes → HexTaken word bytes
no_bytes word [] is same = record { parts = is; fits = refl }
no_bytes word (byte ∷ bytes) is same = absurd cc

some_bytes : (word bytes : List ℕ) → (length word == 0 || nat_lt 512 (length word)) ≡ false → PairsTaken word bytes → HexTaken word bytes
some_bytes word [] sized taken = absurd (none (sym (ap (λ (z : List ℕ). length z == 0 || nat_lt 512 (length z)) taken.parts) ∙ sized))
  where
    none : true ≡ false → ⊥
    none same = cc
some_bytes word (byte ∷ bytes) sized taken =
    let count = length_pairs (byte ∷ bytes) in
    let same : length word ≡ length (flat_map hex_pair (byte ∷ bytes)) = ap (λ (z : List ℕ). length z) taken.parts in
    let large : nat_lt 512 (length word) ≡ false = or_right (length word == 0) (nat_lt 512 (length word)) sized in
    let few : length word ≤ 512 = ltb-false 512 (length word) large in
    record {
      parts = taken.parts;
      fits = and_from (nat_le (length (byte ∷ bytes)) 256) (list_all (λ byte. nat_lt byte 256) (byte ∷ bytes)) (le-leb (length (byte ∷ bytes)) 256 (omega arith)) taken.fits;
    }
  where
    or_right : (a b : Bool) → (a || b) ≡ false → b ≡ false
    or_right true b none = absurd cc
    or_right false b none = none

hex_takes : (word bytes : List ℕ) → read_hex word ≡ Some bytes → HexTaken word bytes
hex_takes word bytes read = of_tests (bytes_eq word (codes "-")) (length word == 0 || nat_lt 512 (length word)) refl refl read
  where
    of_tests : (dash sized : Bool) → dash ≡ bytes_eq word (codes "-") → sized ≡ (length word == 0 || nat_lt 512 (length word)) →
        cond dash (Some []) (cond sized None (read_pairs word)) ≡ Some bytes → HexTaken word bytes
    of_tests true sized is other found = no_bytes word bytes ((bytes_eq-Decides word (codes "-")).0 (sym is)) found
    of_tests false true is other found = absurd cc
    of_tests false false is other found = some_bytes word bytes (sym other) (pairs_only word bytes found)

hex_again : (bytes : List ℕ) → are_noise bytes ≡ true → read_hex (hex_word bytes) ≡ Some bytes
hex_again [] fine = refl
hex_again (byte ∷ bytes) fine =
    let digits : List ℕ = flat_map hex_pair (byte ∷ bytes) in
    let count : length digits ≡ 2 * suc (length bytes) = length_pairs (byte ∷ bytes) in
    let few : length (byte ∷ bytes) ≤ 256 = leb-true (length (byte ∷ bytes)) 256 (left_of (nat_le (length (byte ∷ bytes)) 256) (list_all (λ byte. nat_lt byte 256) (byte ∷ bytes)) fine) in
    let sized : (length digits == 0 || nat_lt 512 (length digits)) ≡ false = sized_by (length digits) (omega arith) (omega arith) in
    ap (λ test. cond test (Some []) (cond (length digits == 0 || nat_lt 512 (length digits)) None (read_pairs digits))) (no_dash digits (omega arith))
    ∙ ap (λ test. cond test None (read_pairs digits)) sized
    ∙ pairs_again (byte ∷ bytes) (right_of (nat_le (length (byte ∷ bytes)) 256) (list_all (λ byte. nat_lt byte 256) (byte ∷ bytes)) fine)
  where
    sized_by : (n : ℕ) → 0 < n → n ≤ 512 → (n == 0 || nat_lt 512 n) ≡ false
    sized_by n some most = grind (arith, nat_tests)

    no_dash : (word : List ℕ) → 1 < length word → bytes_eq word (codes "-") ≡ false
    no_dash word long = of_test (bytes_eq word (codes "-")) refl
      where
        of_test : (test : Bool) → test ≡ bytes_eq word (codes "-") → test ≡ false
        of_test true is =
            let one : length word ≡ 1 = ap (λ (z : List ℕ). length z) ((bytes_eq-Decides word (codes "-")).0 (sym is)) in
            absurd (omega arith)
        of_test false is = refl

hex_plain : (bytes : List ℕ) → are_noise bytes ≡ true → is_plain (hex_word bytes) ≡ true
hex_plain [] fine = refl
hex_plain (byte ∷ bytes) fine =
    pairs_plain (byte ∷ bytes) (right_of (nat_le (length (byte ∷ bytes)) 256) (list_all (λ byte. nat_lt byte 256) (byte ∷ bytes)) fine)

pub is_hex : IsForm hex
unfolding hex
is_hex = is_one_word reason.Hex hex_word read_hex are_noise (record {
  takes = λ word bytes read. let t = hex_takes word bytes read in (t.parts, t.fits);
  again = hex_again;
  plain = hex_plain;
})
