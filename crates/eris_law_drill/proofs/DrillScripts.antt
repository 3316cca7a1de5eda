-- THE BYTES OF A DRILL ARE A SCRIPT: cut at each LF they are the texts of its lines, each of which is read as its line.
use Rattle.std.proofs.Common.{◌≡◌, ◌≤◌, ◌+◌, ◌-◌, ◌==◌, ℕ, zero, suc, Bool, true, false, cond, Result, Ok, Err, List, [], ◌∷◌, ◌++◌, length, map, take, slice_index, refl, ap, ◌∙◌, append_assoc, arith, codes}
use Rattle.std.proofs.lemmas.Bool.Decides.{nat_tests}
use Rattle.std.specs.List.{flat_map, onto_first}
use Rattle.std.specs.Str.Lines.{strip_carriage_return}
use Rattle.eris_base.specs.Each.{Each}
use Rattle.eris_base.proofs.Booleans.{left_of, right_of}
use Rattle.eris_event.specs.declared.event.Event.{Event}
use Rattle.eris_grammar.specs.declared.header.Header.{Header}
use Rattle.eris_grammar.specs.declared.line.Line.{Line}
use Rattle.eris_words.specs.declared.reason.Reason.{Reason}
use Rattle.eris_words.specs.Cuts.{cut_lines, lines}
use Rattle.eris_grammar.specs.Headers.{header_of}
use Rattle.eris_grammar.specs.LineForms.{line_of}
use Rattle.eris_grammar.specs.Scripts.{BadLine, Script, events_from, events_of, script, script_in, with_config, with_events}
use Rattle.eris_drill.specs.DrillLines.{bank, drill_lines}
use Rattle.eris_drill.specs.DrillText.{drill_text, line_text, lines_text}
use Rattle.eris_law_drill.specs.Reading.{IsRead, drill_events}
use Rattle.eris_law_drill.proofs.ReadLines.{drill_read, header_read}
use Rattle.eris_law_drill.proofs.LineBytes.{IsFine, are_ink, drill_fine, is_ink}

-- ---- cutting
no_end : (byte : ℕ) → is_ink byte ≡ true → (byte == 10) ≡ false
no_end byte ink = grind (arith, nat_tests)

cut_on : (byte : ℕ) (rest : List (List ℕ)) (test : Bool) → test ≡ false → cond test ([] ∷ rest) (onto_first byte rest) ≡ onto_first byte rest
cut_on byte rest true is = absurd (cc)
cut_on byte rest false is = refl

-- a text without LF, and its LF
cut : (text rest : List ℕ) → are_ink text ≡ true → cut_lines (text ++ 10 ∷ rest) ≡ text ∷ cut_lines rest
unfolding cut_lines
cut [] rest ink = refl
cut (byte ∷ text) rest ink =
    cut_on byte (cut_lines (text ++ 10 ∷ rest)) (byte == 10) (no_end byte (left_of (is_ink byte) (are_ink text) ink))
    ∙ ap (onto_first byte) (cut text rest (right_of (is_ink byte) (are_ink text) ink))

no_return : (byte : ℕ) → is_ink byte ≡ true → (byte == 13) ≡ false
no_return byte ink = grind (arith, nat_tests)

at_place : (text : List ℕ) (place : ℕ) → are_ink text ≡ true → (slice_index text place == 13) ≡ false
at_place [] place ink = refl
at_place (byte ∷ text) zero ink = no_return byte (left_of (is_ink byte) (are_ink text) ink)
at_place (byte ∷ text) (suc place) ink = at_place text place (right_of (is_ink byte) (are_ink text) ink)

stripped : (text : List ℕ) → are_ink text ≡ true → strip_carriage_return text ≡ text
stripped text ink = by_test (slice_index text (length text - 1) == 13) (at_place text (length text - 1) ink)
  where
    by_test : (test : Bool) → test ≡ false → cond test (take (length text - 1) text) text ≡ text
    by_test true is = absurd (cc)
    by_test false is = refl

-- the texts of lines
abbrev pub texts_of : List Line → List (List ℕ)
texts_of said = map line_text said

cut_texts : (said : List Line) → Each IsFine said → lines (lines_text said) ≡ texts_of said
unfolding cut_lines
cut_texts [] ink = refl
cut_texts (line ∷ said) ink =
    ap lines (append_assoc (line_text line) (10 ∷ []) (lines_text said))
    ∙ ap (map strip_carriage_return) (cut (line_text line) (lines_text said) ink.0.ink)
    ∙ ap (λ (text : List ℕ). text ∷ lines (lines_text said)) (stripped (line_text line) ink.0.ink)
    ∙ ap (λ (texts : List (List ℕ)). line_text line ∷ texts) (cut_texts said ink.1)

pub drill_cut : (number : ℕ) → number ≤ 500 → lines (drill_text number) ≡ codes "eris 1 4 1 8" ∷ texts_of (drill_lines number)
unfolding drill_text
drill_cut number few =
    ap lines (append_assoc (codes "eris 1 4 1 8") (10 ∷ []) (lines_text (drill_lines number)))
    ∙ ap (map strip_carriage_return) (cut (codes "eris 1 4 1 8") (lines_text (drill_lines number)) refl)
    ∙ ap (λ (texts : List (List ℕ)). codes "eris 1 4 1 8" ∷ texts) (cut_texts (drill_lines number) (drill_fine number few))

-- ---- the events of the lines
read_events : (number : ℕ) (said : List Line) → Each IsRead said → events_from 1 number (texts_of said) ≡ Ok (flat_map events_of said)
unfolding events_from
read_events number [] read = refl
read_events number (line ∷ said) read = by_line (line_of 1 (line_text line)) read.0 (read_events (number + 1) said read.1)
  where
    by_line : (found : Result Line Reason) → found ≡ Ok line → events_from 1 (number + 1) (texts_of said) ≡ Ok (flat_map events_of said)
        → ◌≡◌ {A = Result (List Event) BadLine} (elim found [ Ok one ↦ with_events (events_of one) (events_from 1 (number + 1) (texts_of said)) | Err why ↦ Err (record { line = number; reason = why }) ])
        (Ok (events_of line ++ flat_map events_of said))
    by_line (Ok one) is rest = let same : one ≡ line = cc in ap (λ (l : Line). with_events (events_of l) (events_from 1 (number + 1) (texts_of said))) same ∙ ap (with_events (events_of line)) rest
    by_line (Err why) is rest = absurd (cc)

script_by : (texts : List (List ℕ)) (events : List Event) (found : Result Header Reason) → found ≡ Ok (record { version = 1; config = bank }) → events_from 1 2 texts ≡ Ok events
    → ◌≡◌ {A = Result Script BadLine} (elim found [ Ok header ↦ with_config header.config (events_from header.version 2 texts) | Err why ↦ Err (record { line = 1; reason = why }) ])
    (Ok (record { config = bank; events = events }))
script_by texts events (Ok header) is rest =
    let same : header ≡ record { version = 1; config = bank } = cc in
    ap (λ (one : Header). with_config one.config (events_from one.version 2 texts)) same ∙ ap (with_config bank) rest
script_by texts events (Err why) is rest = absurd (cc)

-- THE SCRIPT
pub drill_is_script : (number : ℕ) → number ≤ 500 → script (drill_text number) ≡ Ok (record { config = bank; events = drill_events number })
unfolding script drill_events
drill_is_script number few =
    ap script_in (drill_cut number few)
    ∙ script_by (texts_of (drill_lines number)) (flat_map events_of (drill_lines number)) (header_of (codes "eris 1 4 1 8")) header_read (read_events 2 (drill_lines number) (drill_read number few))
