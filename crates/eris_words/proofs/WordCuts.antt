-- The words of a line, one by one.
use Rattle.std.proofs.Common.{◌≡◌, ◌==◌, ℕ, ◌<◌, ◌≤◌, ◌+◌, Bool, true, false, not, nat_lt, Some, None, cond, List, [], ◌∷◌, length, take, drop, ap, refl, arith}
use Rattle.std.specs.List.{onto_first, position, position_or_len, slice_split}
use Rattle.std.proofs.lemmas.Bool.Decides.{nat_tests}
use Rattle.std.proofs.lemmas.List.Quantifiers.{position-Some}
use Rattle.std.proofs.lemmas.List.Splits.{slice_split_first, length-slice_split}
use Rattle.std.proofs.lemmas.Option.{cond_some}
use Rattle.eris_words.specs.Cuts.{is_space, words}

-- the word before the first space, and those behind it
pub words_cut : (text : List ℕ) (end : ℕ) → position is_space text ≡ Some end →
    (end < length text) × (words text ≡ take end text ∷ words (drop (end + 1) text))
unfolding words
words_cut text end found =
    let parts = cond_some (nat_lt (position_or_len is_space text) (length text)) (position_or_len is_space text) end found in
    let within = position-Some is_space text end 0 found in
    (within.0, rw (← parts.1) (slice_split_first is_space text 0 (rw parts.1 within.0)))

last_by_test : (byte : ℕ) (bytes : List ℕ) (test : Bool) → (length bytes ≤ position_or_len is_space bytes → slice_split is_space bytes ≡ bytes ∷ []) →
    1 + length bytes ≤ cond (not test) (1 + position_or_len is_space bytes) 0 →
    cond test ([] ∷ slice_split is_space bytes) (onto_first byte (slice_split is_space bytes)) ≡ (byte ∷ bytes) ∷ []
last_by_test byte bytes true rest past = absurd (omega arith)
last_by_test byte bytes false rest past = ap (onto_first byte) (rest (omega arith))

last_word : (text : List ℕ) → length text ≤ position_or_len is_space text → slice_split is_space text ≡ text ∷ []
last_word [] past = refl
last_word (byte ∷ bytes) past = last_by_test byte bytes (is_space byte) (last_word bytes) (omega (arith, past))

-- the last word
pub words_last : (text : List ℕ) → position is_space text ≡ None → words text ≡ text ∷ []
unfolding words
words_last text none = last_word text (grind (arith, nat_tests))

pub words_some : (text : List ℕ) → (length (words text) == 0) ≡ false
unfolding words
words_some text = let some = length-slice_split is_space text in grind (arith, nat_tests)

pub ruleset word_cuts = (words_cut, words_last, words_some)
