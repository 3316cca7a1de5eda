-- Words joined by spaces are cut at these spaces.
use Rattle.std.proofs.Common.{◌≡◌, ◌==◌, ℕ, Bool, true, false, not, cond, List, [], ◌∷◌, ◌++◌, ap, sym, ◌∙◌, refl}
use Rattle.std.specs.List.{join_with_byte, onto_first, slice_split}
use Rattle.eris_base.proofs.Booleans.{left_of, right_of}
use Rattle.eris_words.specs.Cuts.{is_skipped, is_space, words}
use Rattle.eris_words.proofs.FormLaws.{is_plain, are_plain}

no_space : (byte : ℕ) → not (is_space byte) ≡ true → is_space byte ≡ false
no_space byte plain = of_test (is_space byte) plain
  where
    of_test : (test : Bool) → not test ≡ true → test ≡ false
    of_test true plain = absurd cc
    of_test false plain = refl

split_plain : (word : List ℕ) → is_plain word ≡ true → slice_split is_space word ≡ word ∷ []
split_plain [] plain = refl
split_plain (byte ∷ word) plain =
    rw (no_space byte (left_of (not (is_space byte)) (is_plain word) plain))
    (ap (onto_first byte) (split_plain word (right_of (not (is_space byte)) (is_plain word) plain)))

split_first : (word rest : List ℕ) → is_plain word ≡ true → slice_split is_space (word ++ 32 ∷ rest) ≡ word ∷ slice_split is_space rest
split_first [] rest plain = refl
split_first (byte ∷ word) rest plain =
    rw (no_space byte (left_of (not (is_space byte)) (is_plain word) plain))
    (ap (onto_first byte) (split_first word rest (right_of (not (is_space byte)) (is_plain word) plain)))

split_joined : (word : List ℕ) (more : List (List ℕ)) → are_plain (word ∷ more) ≡ true → slice_split is_space (join_with_byte 32 (word ∷ more)) ≡ word ∷ more
split_joined word [] plain = split_plain word (left_of (is_plain word) true plain)
split_joined word (next ∷ more) plain =
    split_first word (join_with_byte 32 (next ∷ more)) (left_of (is_plain word) (are_plain (next ∷ more)) plain)
    ∙ ap (λ (z : List (List ℕ)). word ∷ z) (split_joined next more (right_of (is_plain word) (are_plain (next ∷ more)) plain))

pub words_joined : (word : List ℕ) (more : List (List ℕ)) → are_plain (word ∷ more) ≡ true → words (join_with_byte 32 (word ∷ more)) ≡ word ∷ more
unfolding words
words_joined word more plain = split_joined word more plain

-- the first word of a line
abbrev pub first_of : List (List ℕ) → List ℕ
first_of [] = []
first_of (word ∷ words) = word

first_onto : (byte : ℕ) (parts : List (List ℕ)) → is_skipped (first_of (onto_first byte parts)) ≡ (byte == 35)
first_onto byte [] = refl
first_onto byte (part ∷ parts) = refl

-- the first word of a skipped line begins so itself
pub skips_first : (line : List ℕ) → is_skipped line ≡ true → is_skipped (first_of (words line)) ≡ true
unfolding words
skips_first [] skipped = refl
skips_first (byte ∷ bytes) skipped = of_test (is_space byte)
  where
    of_test : (test : Bool) → is_skipped (first_of (cond test ([] ∷ slice_split is_space bytes) (onto_first byte (slice_split is_space bytes)))) ≡ true
    of_test true = refl
    of_test false = first_onto byte (slice_split is_space bytes) ∙ skipped

pub begins_with : (line word : List ℕ) (more : List (List ℕ)) → words line ≡ word ∷ more → is_skipped word ≡ false → is_skipped line ≡ false
begins_with line word more spelled asks = of_test (is_skipped line) refl
  where
    clash : is_skipped word ≡ true → ⊥
    clash skipped = let no = asks in cc

    of_test : (test : Bool) → test ≡ is_skipped line → test ≡ false
    of_test true is = absurd (clash (sym (ap (λ (z : List (List ℕ)). is_skipped (first_of z)) spelled) ∙ skips_first line (sym is)))
    of_test false is = refl
