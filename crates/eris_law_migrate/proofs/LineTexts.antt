-- The lines that version 1 reads, migrated: their words, their bytes, and what version 2 reads in them.
use Rattle.std.proofs.Common.{◌≡◌, ◌==◌, ◌<◌, ◌≤◌, ◌+◌, ◌-◌, ℕ, zero, suc, Bool, true, false, not, cond, nat_lt, Option, Some, None, Result, Ok, Err, List, [], ◌∷◌, ◌++◌, length, take, drop, get_or, map, refl, sym, ap, subst, ◌∙◌, append_assoc, length-append, one-add, arith, codes, lit<, IsTrue, bytes_eq}
use Rattle.std.proofs.lemmas.Bool.Decides.{nat_tests}
use Rattle.std.proofs.lemmas.Bool.{and_from, eqb-true}
use Rattle.std.proofs.lemmas.List.Splits.{join_with_byte-slice_split}
use Rattle.std.specs.List.{after_first, after_last, before_first, before_last, join_with_byte, list_all, slice_index}
use Rattle.std.specs.Str.Lines.{strip_carriage_return}
use Rattle.eris_base.proofs.Booleans.{left_of, right_of}
use Rattle.eris_words.specs.Cuts.{is_skipped, is_space, words}
use Rattle.eris_words.proofs.FormLaws.{is_plain}
use Rattle.eris_grammar.proofs.FieldLaws.{after-cut, before-cut, lacks}
use Rattle.eris_migrate.specs.Migrated.{first_dotted, last_dotted, migrated_line}
use Rattle.eris_law_migrate.proofs.ListEnds.{after_last_at, before_last_at}
use Rattle.eris_law_lines.proofs.Ink.{are_ink, is_ink}

-- A LINE IS ITS WORDS, with a space between each two
pub joined_words : (text : List ℕ) → join_with_byte 32 (words text) ≡ text
unfolding words
joined_words text = join_with_byte-slice_split 32 text

-- A LINE OF BYTES FROM A SPACE ON has no LF and no CR
pub without_lf : (text : List ℕ) → are_ink text ≡ true → list_all (λ byte. not (byte == 10)) text ≡ true
without_lf text all = lacks is_ink 10 refl text all

-- A DOT IN PLACE OF A SPACE

pub last_cut : (front word : List ℕ) → is_plain word ≡ true → last_dotted (front ++ 32 ∷ word) ≡ front ++ codes "." ++ word
last_cut front word plain =
    ap (λ (z : List ℕ). z ++ codes "." ++ after_last is_space (front ++ 32 ∷ word)) (before_last_at is_space front 32 word refl plain)
    ∙ ap (λ (z : List ℕ). front ++ codes "." ++ z) (after_last_at is_space front 32 word refl plain)

pub first_cut : (word rest : List ℕ) → is_plain word ≡ true → first_dotted (word ++ 32 ∷ rest) ≡ word ++ codes "." ++ rest
first_cut word rest plain =
    ap (λ (z : List ℕ). z ++ codes "." ++ after_first is_space (word ++ 32 ∷ rest)) (before-cut is_space word rest 32 plain refl)
    ∙ ap (λ (z : List ℕ). word ++ codes "." ++ z) (after-cut is_space word rest 32 plain refl)

-- A LINE THAT SAYS NOTHING

first_of_comment : (more : List ℕ) → before_first is_space (35 ∷ more) ≡ 35 ∷ before_first is_space more
first_of_comment more = ap (λ n. take n (35 ∷ more)) (one-add _)

comment_stays : (more : List ℕ) → migrated_line (35 ∷ more) ≡ 35 ∷ more
unfolding migrated_line
comment_stays more = rw (first_of_comment more) refl

is_comment : (first : ℕ) (more : List ℕ) → is_skipped (first ∷ more) ≡ true → first ≡ 35
is_comment first more skipped = eqb-true first 35 skipped

pub skipped_stays : (text : List ℕ) → is_skipped text ≡ true → migrated_line text ≡ text
unfolding migrated_line
skipped_stays [] skipped = refl
skipped_stays (first ∷ more) skipped = rw (is_comment first more skipped) (comment_stays more)

still_comment : (more : List ℕ) → is_skipped (strip_carriage_return (35 ∷ more)) ≡ true
still_comment [] = refl
still_comment (next ∷ more) = of_test (slice_index (35 ∷ next ∷ more) (length (35 ∷ next ∷ more) - 1) == 13)
  where
    of_test : (test : Bool) → is_skipped (cond test (take (length (35 ∷ next ∷ more) - 1) (35 ∷ next ∷ more)) (35 ∷ next ∷ more)) ≡ true
    of_test true = let last : length (35 ∷ next ∷ more) - 1 ≡ suc (length more) = omega arith in ap (λ (n : ℕ). is_skipped (take n (35 ∷ next ∷ more))) last
    of_test false = refl

pub still_skipped : (text : List ℕ) → is_skipped text ≡ true → is_skipped (strip_carriage_return text) ≡ true
still_skipped [] skipped = refl
still_skipped (first ∷ more) skipped = rw (is_comment first more skipped) (still_comment more)
