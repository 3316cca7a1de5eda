use Rattle.std.proofs.Common.{◌≡◌, ◌==◌, ℕ, ◌<◌, ◌+◌, Bool, true, false, not, cond, List, [], ◌∷◌, length, take, drop, map, ap, sym, ◌∙◌, arith, refl, one-add, add-one}
use Rattle.std.specs.List.{before_first, after_first, onto_first, position_or_len}
use Rattle.std.specs.Str.Lines.{strip_carriage_return}
use Rattle.eris_words.specs.Cuts.{cut_lines, lines}

abbrev is_lf : ℕ → Bool
is_lf byte = byte == 10

-- cut at this place
abbrev cut_at : ℕ → List ℕ → List (List ℕ)
cut_at place text = take place text ∷ cut_lines (drop (place + 1) text)

past_byte : (byte place : ℕ) (bytes : List ℕ) → cut_at (1 + place) (byte ∷ bytes) ≡ onto_first byte (cut_at place bytes)
past_byte byte place bytes = simp (one-add, add-one) refl

by_test : (byte : ℕ) (bytes : List ℕ) → onto_first byte (cut_lines bytes) ≡ onto_first byte (cut_at (position_or_len is_lf bytes) bytes)
    → (test : Bool) → cond test ([] ∷ cut_lines bytes) (onto_first byte (cut_lines bytes)) ≡ cut_at (cond (not test) (1 + position_or_len is_lf bytes) 0) (byte ∷ bytes)
by_test byte bytes same true = refl
by_test byte bytes same false = same ∙ sym (past_byte byte (position_or_len is_lf bytes) bytes)

cut_step : (byte : ℕ) (bytes : List ℕ) → cut_lines (byte ∷ bytes) ≡ cut_at (position_or_len is_lf (byte ∷ bytes)) (byte ∷ bytes)
unfolding cut_lines
cut_step byte [] = by_test byte [] refl (is_lf byte)
cut_step byte (next ∷ more) = by_test byte (next ∷ more) (ap (onto_first byte) (cut_step next more)) (is_lf byte)

-- the first line of a text, and the others
pub lines_step : (text : List ℕ) → 0 < length text → lines text ≡ strip_carriage_return (before_first (λ byte. byte == 10) text) ∷ lines (after_first (λ byte. byte == 10) text)
lines_step [] some = absurd (omega arith)
lines_step (byte ∷ bytes) some = ap (map strip_carriage_return) (cut_step byte bytes)
