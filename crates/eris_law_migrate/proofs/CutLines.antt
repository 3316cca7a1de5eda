-- Lines that were joined are cut again; and a text is its lines, an LF behind each that had one.
use Rattle.std.proofs.Common.{◌≡◌, ◌==◌, ◌&&◌, ◌<◌, ◌≤◌, ◌+◌, ◌-◌, ℕ, zero, suc, Bool, true, false, not, cond, nat_eq, List, [], ◌∷◌, ◌++◌, length, take, drop, map, refl, sym, ap, subst, ◌∙◌, append_assoc, append-nil, length-append, length-take, arith, codes}
use Rattle.std.proofs.lemmas.Bool.{and_from, eqb-true}
use Rattle.std.specs.List.{ends_with, join_with_byte, list_all, onto_first, slice_index}
use Rattle.std.specs.Str.Lines.{strip_carriage_return}
use Rattle.eris_base.proofs.Booleans.{left_of, right_of}
use Rattle.eris_migrate.specs.Migrated.{last_lf}
use Rattle.eris_words.specs.Cuts.{cut_lines, lines, with_byte}

abbrev pub is_inner : ℕ → Bool
is_inner byte = not (byte == 10)

abbrev pub inner : List ℕ → Bool
inner text = list_all is_inner text

abbrev pub all_inner : List (List ℕ) → Bool
all_inner texts = list_all inner texts

no_lf : (byte : ℕ) → is_inner byte ≡ true → (byte == 10) ≡ false
no_lf byte fine = of_test (byte == 10) fine
  where
    of_test : (test : Bool) → not test ≡ true → test ≡ false
    of_test true fine = absurd cc
    of_test false fine = refl

-- JOINED LINES ARE CUT

cut_first : (text rest : List ℕ) → inner text ≡ true → cut_lines (text ++ 10 ∷ rest) ≡ text ∷ cut_lines rest
unfolding cut_lines
cut_first [] rest fine = refl
cut_first (byte ∷ text) rest fine =
    rw (no_lf byte (left_of (is_inner byte) (inner text) fine)) (ap (onto_first byte) (cut_first text rest (right_of (is_inner byte) (inner text) fine)))

cut_only : (byte : ℕ) (text : List ℕ) → inner (byte ∷ text) ≡ true → cut_lines (byte ∷ text) ≡ (byte ∷ text) ∷ []
unfolding cut_lines
cut_only byte [] fine = rw (no_lf byte (left_of (is_inner byte) true fine)) refl
cut_only byte (next ∷ text) fine =
    rw (no_lf byte (left_of (is_inner byte) (inner (next ∷ text)) fine)) (ap (onto_first byte) (cut_only next text (right_of (is_inner byte) (inner (next ∷ text)) fine)))

pub cut_closed : (text : List ℕ) (texts : List (List ℕ)) → all_inner (text ∷ texts) ≡ true → cut_lines (join_with_byte 10 (text ∷ texts) ++ 10 ∷ []) ≡ text ∷ texts
unfolding cut_lines
cut_closed text [] fine = cut_first text [] (left_of (inner text) true fine)
cut_closed text (next ∷ texts) fine =
    ap cut_lines (append_assoc text (10 ∷ join_with_byte 10 (next ∷ texts)) (10 ∷ []))
    ∙ cut_first text (join_with_byte 10 (next ∷ texts) ++ 10 ∷ []) (left_of (inner text) (all_inner (next ∷ texts)) fine)
    ∙ ap (λ (z : List (List ℕ)). text ∷ z) (cut_closed next texts (right_of (inner text) (all_inner (next ∷ texts)) fine))

-- lines of which the last one is left out where it is empty
abbrev pub trimmed : List (List ℕ) → List (List ℕ)
trimmed [] = []
trimmed ([] ∷ []) = []
trimmed ((byte ∷ text) ∷ []) = (byte ∷ text) ∷ []
trimmed (text ∷ next ∷ texts) = text ∷ trimmed (next ∷ texts)

pub cut_open : (text : List ℕ) (texts : List (List ℕ)) → all_inner (text ∷ texts) ≡ true → cut_lines (join_with_byte 10 (text ∷ texts)) ≡ trimmed (text ∷ texts)
unfolding cut_lines
cut_open [] [] fine = refl
cut_open (byte ∷ text) [] fine = cut_only byte text (left_of (inner (byte ∷ text)) true fine)
cut_open text (next ∷ texts) fine =
    cut_first text (join_with_byte 10 (next ∷ texts)) (left_of (inner text) (all_inner (next ∷ texts)) fine)
    ∙ ap (λ (z : List (List ℕ)). text ∷ z) (cut_open next texts (right_of (inner text) (all_inner (next ∷ texts)) fine))

-- CUT LINES HAVE NO LF

onto_inner : (byte : ℕ) (texts : List (List ℕ)) → is_inner byte ≡ true → all_inner texts ≡ true → all_inner (onto_first byte texts) ≡ true
onto_inner byte [] fine all = and_from (inner (byte ∷ [])) true (and_from (is_inner byte) true fine refl) refl
onto_inner byte (text ∷ texts) fine all =
    and_from (inner (byte ∷ text)) (all_inner texts) (and_from (is_inner byte) (inner text) fine (left_of (inner text) (all_inner texts) all)) (right_of (inner text) (all_inner texts) all)

pub cut_inner : (bytes : List ℕ) → all_inner (cut_lines bytes) ≡ true
unfolding cut_lines
cut_inner [] = refl
cut_inner (byte ∷ bytes) = of_test (cut_inner bytes) (byte == 10) refl
  where
    of_test : all_inner (cut_lines bytes) ≡ true → (test : Bool) → (byte == 10) ≡ test → all_inner (cond test ([] ∷ cut_lines bytes) (onto_first byte (cut_lines bytes))) ≡ true
    of_test more true is = more
    of_test more false is = onto_inner byte (cut_lines bytes) (ap not is) more

take_inner : (n : ℕ) (text : List ℕ) → inner text ≡ true → inner (take n text) ≡ true
take_inner zero text fine = refl
take_inner (suc n) [] fine = refl
take_inner (suc n) (byte ∷ text) fine =
    and_from (is_inner byte) (inner (take n text)) (left_of (is_inner byte) (inner text) fine) (take_inner n text (right_of (is_inner byte) (inner text) fine))

strip_inner : (text : List ℕ) → inner text ≡ true → inner (strip_carriage_return text) ≡ true
strip_inner text fine = of_test (slice_index text (length text - 1) == 13)
  where
    of_test : (test : Bool) → inner (cond test (take (length text - 1) text) text) ≡ true
    of_test true = take_inner (length text - 1) text fine
    of_test false = fine

stripped_inner : (texts : List (List ℕ)) → all_inner texts ≡ true → all_inner (map strip_carriage_return texts) ≡ true
stripped_inner [] fine = refl
stripped_inner (text ∷ texts) fine =
    and_from (inner (strip_carriage_return text)) (all_inner (map strip_carriage_return texts)) (strip_inner text (left_of (inner text) (all_inner texts) fine))
    (stripped_inner texts (right_of (inner text) (all_inner texts) fine))

pub lines_inner : (bytes : List ℕ) → all_inner (lines bytes) ≡ true
lines_inner bytes = stripped_inner (cut_lines bytes) (cut_inner bytes)

-- A TEXT IS ITS LINES

joined_onto : (byte : ℕ) (parts : List (List ℕ)) (tail : List ℕ) → 0 < length parts → byte ∷ (join_with_byte 10 parts ++ tail) ≡ join_with_byte 10 (with_byte byte parts) ++ tail
joined_onto byte [] tail some = absurd (omega arith)
joined_onto byte (part ∷ parts) tail some = of_test (byte == 10) refl
  where
    joined_first : (parts : List (List ℕ)) → byte ∷ (join_with_byte 10 (part ∷ parts) ++ tail) ≡ join_with_byte 10 ((byte ∷ part) ∷ parts) ++ tail
    joined_first [] = refl
    joined_first (next ∷ parts) = refl

    of_test : (test : Bool) → (byte == 10) ≡ test
        → byte ∷ (join_with_byte 10 (part ∷ parts) ++ tail) ≡ join_with_byte 10 (cond test ([] ∷ part ∷ parts) (onto_first byte (part ∷ parts))) ++ tail
    of_test true is = ap (λ (z : ℕ). z ∷ (join_with_byte 10 (part ∷ parts) ++ tail)) (eqb-true byte 10 is)
    of_test false is = joined_first parts

some_lines : (byte : ℕ) (bytes : List ℕ) → 0 < length (cut_lines (byte ∷ bytes))
unfolding cut_lines
some_lines byte bytes = of_test (byte == 10)
  where
    some_onto : (parts : List (List ℕ)) → 0 < length (onto_first byte parts)
    some_onto [] = omega arith
    some_onto (part ∷ parts) = omega arith

    of_test : (test : Bool) → 0 < length (cond test ([] ∷ cut_lines bytes) (onto_first byte (cut_lines bytes)))
    of_test true = omega arith
    of_test false = some_onto (cut_lines bytes)

same_end : (byte next : ℕ) (bytes : List ℕ) → last_lf (next ∷ bytes) ≡ last_lf (byte ∷ next ∷ bytes)
same_end byte next bytes =
    let short : length (next ∷ bytes) - 1 ≡ length bytes = omega arith in
    let long : length (byte ∷ next ∷ bytes) - 1 ≡ suc (length bytes) = omega arith in
    rw (short, long) refl

other_end : (byte : ℕ) → (byte == 10) ≡ false → last_lf (byte ∷ []) ≡ []
other_end byte is = of_test (10 == byte) refl
  where
    clash : 10 ≡ byte → ⊥
    clash same = let no = is in cc

    of_test : (test : Bool) → (10 == byte) ≡ test → cond {A = List ℕ} (test && true) (10 ∷ []) [] ≡ []
    of_test true found = absurd (clash (eqb-true 10 byte found))
    of_test false found = refl

pub whole_text : (bytes : List ℕ) → bytes ≡ join_with_byte 10 (cut_lines bytes) ++ last_lf bytes
unfolding cut_lines
whole_text [] = refl
whole_text (byte ∷ []) = of_test (byte == 10) refl
  where
    of_test : (test : Bool) → (byte == 10) ≡ test → byte ∷ [] ≡ join_with_byte 10 (cond test ([] ∷ []) ((byte ∷ []) ∷ [])) ++ last_lf (byte ∷ [])
    of_test true is = rw (eqb-true byte 10 is) refl
    of_test false is = ap (λ (z : List ℕ). byte ∷ z) (sym (other_end byte is))
whole_text (byte ∷ next ∷ bytes) =
    ap (λ (z : List ℕ). byte ∷ z) (whole_text (next ∷ bytes))
    ∙ joined_onto byte (cut_lines (next ∷ bytes)) (last_lf (next ∷ bytes)) (some_lines next bytes)
    ∙ ap (λ (z : List ℕ). join_with_byte 10 (with_byte byte (cut_lines (next ∷ bytes))) ++ z) (same_end byte next bytes)

-- ---- and so lines joined again are no longer than the text

shorter : (text : List ℕ) → length (strip_carriage_return text) ≤ length text
shorter text = of_test (slice_index text (length text - 1) == 13)
  where
    of_test : (test : Bool) → length (cond test (take (length text - 1) text) text) ≤ length text
    of_test true = let cut = length-take (length text - 1) text in omega (arith, cut)
    of_test false = omega arith

pub stripped_shorter : (texts : List (List ℕ)) → length (join_with_byte 10 (map strip_carriage_return texts)) ≤ length (join_with_byte 10 texts)
stripped_shorter [] = omega arith
stripped_shorter (text ∷ []) = shorter text
stripped_shorter (text ∷ next ∷ texts) =
    let here = shorter text in
    let more = stripped_shorter (next ∷ texts) in
    let one = length-append (strip_carriage_return text) (10 ∷ join_with_byte 10 (map strip_carriage_return (next ∷ texts))) in
    let other = length-append text (10 ∷ join_with_byte 10 (next ∷ texts)) in
    omega (arith, here, more, one, other)

pub lines_no_longer : (bytes : List ℕ) → length (join_with_byte 10 (lines bytes) ++ last_lf bytes) ≤ length bytes
lines_no_longer bytes =
    let whole = ap length (whole_text bytes) in
    let less = stripped_shorter (cut_lines bytes) in
    let one = length-append (join_with_byte 10 (lines bytes)) (last_lf bytes) in
    let other = length-append (join_with_byte 10 (cut_lines bytes)) (last_lf bytes) in
    omega (arith, whole, less, one, other)
