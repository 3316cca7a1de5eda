-- Bytes are cut behind each LF; and the text of a line.
use Rattle.std.proofs.Common.{◌≡◌, ◌==◌, ℕ, ◌<◌, ◌≤◌, ◌+◌, ◌-◌, Bool, true, false, not, nat_lt, Some, None, cond, List, [], ◌∷◌, ◌++◌, length, take, drop, get_or, ap, sym, ◌∙◌, arith, refl, one-add, add-one, length-append}
use Rattle.std.specs.List.{list_all, onto_first, position, position_or_len, slice_index}
use Rattle.std.proofs.Math.ListN.{drop_of_length-le}
use Rattle.std.proofs.Math.Seq.{get_or-append_seam, take-append_seam}
use Rattle.std.proofs.lemmas.Bool.{eqb-true}
use Rattle.std.proofs.lemmas.Bool.Decides.{nat_tests}
use Rattle.std.proofs.lemmas.List.{take_all, take_more}
use Rattle.std.proofs.lemmas.Option.{cond_some, none-some}
use Rattle.eris_base.proofs.Booleans.{left_of, right_of}
use Rattle.eris_check.specs.FullLines.{full_lines, text_of}

abbrev is_lf : ℕ → Bool
is_lf byte = byte == 10

-- cut behind this place
abbrev cut_behind : ℕ → List ℕ → List (List ℕ)
cut_behind place bytes = take (place + 1) bytes ∷ full_lines (drop (place + 1) bytes)

past_byte : (byte place : ℕ) (bytes : List ℕ) → cut_behind (1 + place) (byte ∷ bytes) ≡ onto_first byte (cut_behind place bytes)
past_byte byte place bytes = simp (one-add, add-one) refl

by_test : (byte : ℕ) (bytes : List ℕ) → onto_first byte (full_lines bytes) ≡ onto_first byte (cut_behind (position_or_len is_lf bytes) bytes)
    → (test : Bool) → cond test ((byte ∷ []) ∷ full_lines bytes) (onto_first byte (full_lines bytes)) ≡ cut_behind (cond (not test) (1 + position_or_len is_lf bytes) 0) (byte ∷ bytes)
by_test byte bytes same true = refl
by_test byte bytes same false = same ∙ sym (past_byte byte (position_or_len is_lf bytes) bytes)

full_step : (byte : ℕ) (bytes : List ℕ) → full_lines (byte ∷ bytes) ≡ cut_behind (position_or_len is_lf (byte ∷ bytes)) (byte ∷ bytes)
unfolding full_lines
full_step byte [] = by_test byte [] refl (is_lf byte)
full_step byte (next ∷ more) = by_test byte (next ∷ more) (ap (onto_first byte) (full_step next more)) (is_lf byte)

full_at : (bytes : List ℕ) → 0 < length bytes → full_lines bytes ≡ cut_behind (position_or_len is_lf bytes) bytes
full_at [] some = absurd (omega arith)
full_at (byte ∷ bytes) some = full_step byte bytes

pub no_lines : full_lines [] ≡ []
unfolding full_lines
no_lines = refl

-- the first line ends at the first LF
pub full_cut : (bytes : List ℕ) (end : ℕ) → position (λ byte. byte == 10) bytes ≡ Some end → 0 < length bytes →
    full_lines bytes ≡ take (end + 1) bytes ∷ full_lines (drop (end + 1) bytes)
full_cut bytes end found some =
    let parts = cond_some (nat_lt (position_or_len is_lf bytes) (length bytes)) (position_or_len is_lf bytes) end found in
    full_at bytes some ∙ ap (λ place. cut_behind place bytes) parts.1

-- it is the last one where there is none
pub full_last : (bytes : List ℕ) → position (λ byte. byte == 10) bytes ≡ None → 0 < length bytes → full_lines bytes ≡ bytes ∷ full_lines []
full_last bytes none some =
    let past : length bytes ≤ position_or_len is_lf bytes = grind (arith, nat_tests) in
    full_at bytes some
    ∙ ap (λ (z : List ℕ). z ∷ full_lines (drop (position_or_len is_lf bytes + 1) bytes)) (take_all (position_or_len is_lf bytes + 1) bytes (omega arith))
    ∙ ap (λ (z : List ℕ). bytes ∷ full_lines z) (drop_of_length-le bytes (omega arith))

pub ruleset full_line_cuts = (full_cut, full_last)

-- BYTES WITHOUT LF

abbrev pub is_inner : ℕ → Bool
is_inner byte = nat_lt 31 byte

abbrev pub are_inner : List ℕ → Bool
are_inner text = list_all is_inner text

no_end : (byte : ℕ) → is_inner byte ≡ true → (byte == 10) ≡ false
no_end byte inner = grind (arith, nat_tests)

on_inner : (byte : ℕ) (rest : List (List ℕ)) (test : Bool) → test ≡ false → cond test ((byte ∷ []) ∷ rest) (onto_first byte rest) ≡ onto_first byte rest
on_inner byte rest true is = absurd cc
on_inner byte rest false is = refl

-- a text without LF, and its LF
pub full_text : (text rest : List ℕ) → are_inner text ≡ true → full_lines (text ++ 10 ∷ rest) ≡ (text ++ 10 ∷ []) ∷ full_lines rest
unfolding full_lines
full_text [] rest inner = refl
full_text (byte ∷ text) rest inner =
    on_inner byte (full_lines (text ++ 10 ∷ rest)) (byte == 10) (no_end byte (left_of (is_inner byte) (are_inner text) inner))
    ∙ ap (onto_first byte) (full_text text rest (right_of (is_inner byte) (are_inner text) inner))

-- THE TEXT OF A LINE

pub text_again : (text : List ℕ) → text_of (text ++ 10 ∷ []) ≡ Some text
text_again text =
    let size : length (text ++ 10 ∷ []) ≡ length text + 1 = length-append text (10 ∷ []) in
    let last : length (text ++ 10 ∷ []) - 1 ≡ length text = omega (arith, size) in
    ap (λ n. cond (get_or (text ++ 10 ∷ []) n 0 == 10) (Some (take n (text ++ 10 ∷ []))) None) last
    ∙ ap (λ n. cond (n == 10) (Some (take (length text) (text ++ 10 ∷ []))) None) (get_or-append_seam text 10 [] 0)
    ∙ ap (λ (z : List ℕ). Some z) (take-append_seam text (10 ∷ []))

pub text_only : (line text : List ℕ) → text_of line ≡ Some text → line ≡ text ++ 10 ∷ []
text_only [] text found = absurd (none-some text found)
text_only (byte ∷ bytes) text found =
    let parts = cond_some (slice_index (byte ∷ bytes) (length (byte ∷ bytes) - 1) == 10) (take (length (byte ∷ bytes) - 1) (byte ∷ bytes)) text found in
    let last : get_or (byte ∷ bytes) (length (byte ∷ bytes) - 1) 0 ≡ 10 = eqb-true _ 10 parts.0 in
    let more = take_more (byte ∷ bytes) (length (byte ∷ bytes) - 1) 0 (omega arith) in
    let whole : take (length (byte ∷ bytes) - 1 + 1) (byte ∷ bytes) ≡ byte ∷ bytes = take_all _ (byte ∷ bytes) (omega arith) in
    sym whole ∙ more ∙ ap (λ n. take (length (byte ∷ bytes) - 1) (byte ∷ bytes) ++ n ∷ []) last ∙ ap (λ (z : List ℕ). z ++ 10 ∷ []) parts.1
