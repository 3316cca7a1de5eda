-- FROM EVENTS TO A SCRIPT AND BACK: the text is cut at each LF into the lines that it was made of, and each line says
-- the event that it was written for.
use Rattle.std.proofs.Common.{◌≡◌, inl, inr, ◌≤◌, ◌+◌, ◌-◌, ◌==◌, ◌^◌, ◌&&◌, ℕ, zero, suc, Bool, true, false, cond, nat_le, Result, Ok, Err, List, [], ◌∷◌, ◌++◌, map, length, take, slice_index, append_assoc, append-nil, codes, refl, ap, sym, ◌∙◌, arith, lit<, le-leb}
use Rattle.std.proofs.lemmas.Bool.Decides.{nat_tests}
use Rattle.std.proofs.lemmas.Bool.{and_from, leb-true}
use Rattle.std.specs.List.{onto_first}
use Rattle.std.specs.Str.Lines.{strip_carriage_return}
use Rattle.eris_base.specs.ConfigLimits.{ConfigValue}
use Rattle.eris_base.specs.Each.{Each}
use Rattle.eris_base.proofs.Booleans.{left_of, right_of}
use Rattle.eris_event.specs.declared.event.Event.{Event}
use Rattle.eris_event.specs.declared.event.Event.TheVariants as event
use Rattle.eris_event.specs.EventRanges.{fits_event}
use Rattle.eris_words.specs.declared.reason.Reason.{Reason}
use Rattle.eris_words.specs.Cuts.{cut_lines, lines}
use Rattle.eris_words.specs.Decimal.{decimal}
use Rattle.eris_words.proofs.FormLaws.{are_plain, plain-append}
use Rattle.eris_words.proofs.SplitLaws.{words_joined}
use Rattle.eris_grammar.specs.declared.header.Header.{Header}
use Rattle.eris_grammar.specs.declared.line.Line.{Line}
use Rattle.eris_grammar.specs.EventText.{event_text}
use Rattle.eris_grammar.specs.Fields.{count, number}
use Rattle.eris_grammar.specs.Headers.{header_of, header_words, in_limits}
use Rattle.eris_grammar.specs.LineForms.{line_of, line_saying}
use Rattle.eris_grammar.specs.Scripts.{BadLine, Script, events_from, events_of, script, script_in, with_config, with_events}
use Rattle.eris_grammar.proofs.FieldLaws.{is_count}
use Rattle.eris_grammar.proofs.HeaderLaws.{header_read}
use Rattle.eris_grammar.proofs.SpellingLaws.{event_back}
use Rattle.eris_law_lines.specs.EventScripts.{IsHeader, event_script, header_text, text_of}
use Rattle.eris_law_lines.proofs.Ink.{are_ink, are_inked, event_ink, is_ink, line_ink, low_ink}

-- ---- a text is cut just behind each line
no_end : (byte : ℕ) → is_ink byte ≡ true → (byte == 10) ≡ false
no_end byte ink = grind (arith, nat_tests)

cut_on : (byte : ℕ) (rest : List (List ℕ)) (test : Bool) → test ≡ false → cond test ([] ∷ rest) (onto_first byte rest) ≡ onto_first byte rest
cut_on byte rest true is = absurd (cc)
cut_on byte rest false is = refl

cut : (text rest : List ℕ) → are_ink text ≡ true → cut_lines (text ++ 10 ∷ rest) ≡ text ∷ cut_lines rest
unfolding cut_lines
cut [] rest ink = refl
cut (byte ∷ text) rest ink =
    cut_on byte (cut_lines (text ++ 10 ∷ rest)) (byte == 10) (no_end byte (left_of (is_ink byte) (are_ink text) ink))
    ∙ ap (onto_first byte) (cut text rest (right_of (is_ink byte) (are_ink text) ink))

no_return : (byte : ℕ) → is_ink byte ≡ true → (byte == 13) ≡ false
no_return byte ink = grind (arith, nat_tests)

at_place : (text : List ℕ) (place : ℕ) → are_ink text ≡ true → (slice_index text place == 13) ≡ false
at_place [] place ink = refl
at_place (byte ∷ text) zero ink = no_return byte (left_of (is_ink byte) (are_ink text) ink)
at_place (byte ∷ text) (suc place) ink = at_place text place (right_of (is_ink byte) (are_ink text) ink)

pub stripped : (text : List ℕ) → are_ink text ≡ true → strip_carriage_return text ≡ text
stripped text ink = by_test (slice_index text (length text - 1) == 13) (at_place text (length text - 1) ink)
  where
    by_test : (test : Bool) → test ≡ false → cond test (take (length text - 1) text) text ≡ text
    by_test true is = absurd (cc)
    by_test false is = refl

-- lines, and whatever comes behind them
texts_cut : (texts : List (List ℕ)) (rest : List ℕ) → are_inked texts ≡ true → lines (text_of texts ++ rest) ≡ texts ++ lines rest
unfolding cut_lines
texts_cut [] rest ink = refl
texts_cut (text ∷ texts) rest ink =
    ap (λ (all : List ℕ). lines (all ++ rest)) (append_assoc text (10 ∷ []) (text_of texts))
    ∙ ap lines (append_assoc text (10 ∷ text_of texts) rest)
    ∙ ap (map strip_carriage_return) (cut text (text_of texts ++ rest) (left_of (are_ink text) (are_inked texts) ink))
    ∙ ap (λ (first : List ℕ). first ∷ lines (text_of texts ++ rest)) (stripped text (left_of (are_ink text) (are_inked texts) ink))
    ∙ ap (λ (behind : List (List ℕ)). text ∷ behind) (texts_cut texts rest (right_of (are_ink text) (are_inked texts) ink))

-- ---- the lines of events
events_ink : (version : ℕ) (events : List Event) → Each (λ e. fits_event version e ≡ true) events → are_inked (map (event_text version) events) ≡ true
events_ink version [] fits = refl
events_ink version (e ∷ events) fits =
    and_from (are_ink (event_text version e)) (are_inked (map (event_text version) events)) (event_ink version e fits.0) (events_ink version events fits.1)

one_said : (e : Event) → events_of (line_saying e) ≡ e ∷ []
one_said (event.Submit c ops) = refl
one_said (event.General c plan) = refl
one_said (event.Retry c n) = refl
one_said (event.Abort asker id) = refl
one_said (event.Deliver packet named) = refl
one_said event.Flow = refl
one_said event.Lose = refl
one_said (event.Probe s r) = refl
one_said (event.Suspect s r) = refl
one_said (event.Sync s r) = refl
one_said (event.Crash s r) = refl
one_said event.Nudge = refl
one_said event.Replace = refl
one_said (event.Noise to bytes) = refl

events_read : (version number : ℕ) (events : List Event) → Each (λ e. fits_event version e ≡ true) events → events_from version number (map (event_text version) events) ≡ Ok events
unfolding events_from
events_read version number [] fits = refl
events_read version number (e ∷ events) fits =
    by_line (line_of version (event_text version e)) (event_back version e fits.0) (events_read version (number + 1) events fits.1)
  where
    by_line : (found : Result Line Reason) → found ≡ Ok (line_saying e) → events_from version (number + 1) (map (event_text version) events) ≡ Ok events
        → ◌≡◌ {A = Result (List Event) BadLine} (elim found [ Ok said ↦ with_events (events_of said) (events_from version (number + 1) (map (event_text version) events)) | Err why ↦ Err (record { line = number; reason = why }) ])
        (Ok (e ∷ events))
    by_line (Ok said) is rest =
        let same : said ≡ line_saying e = cc in
        ap (λ (l : Line). with_events (events_of l) (events_from version (number + 1) (map (event_text version) events))) same
        ∙ ap (with_events (events_of (line_saying e))) rest
        ∙ ap (λ (first : List Event). with_events first (Ok events)) (one_said e)
    by_line (Err why) is rest = absurd (cc)

-- ---- the header
sizes : (version : ℕ) (config : ConfigValue) → in_limits version config ≡ true
    → (nat_le config.shards 255 ≡ true) × (nat_le config.f 255 ≡ true) × (nat_le config.clients 255 ≡ true)
sizes version config fits = of_version (version == 1) fits
  where
    of_version : (old : Bool)
        → (nat_le 1 config.shards && nat_le config.shards (cond old 16 64) && nat_le config.f 3 && nat_le 1 config.clients && nat_le config.clients (cond old 32 128)) ≡ true
        → (nat_le config.shards 255 ≡ true) × (nat_le config.f 255 ≡ true) × (nat_le config.clients 255 ≡ true)
    of_version true fine = (grind (arith, nat_tests), grind (arith, nat_tests), grind (arith, nat_tests))
    of_version false fine = (grind (arith, nat_tests), grind (arith, nat_tests), grind (arith, nat_tests))

version_small : (header : Header) → IsHeader header → nat_le header.version 255 ≡ true
version_small header is = elim is.known [ inl one ↦ le-leb header.version 255 (omega (arith, one)) | inr two ↦ le-leb header.version 255 (omega (arith, two)) ]

pub header_inked : (header : Header) → IsHeader header → are_inked (header_words header) ≡ true
header_inked header is =
    let small = sizes header.version header.config is.fits in
    and_from (are_ink (decimal header.version)) (are_inked (decimal header.config.shards ∷ decimal header.config.f ∷ decimal header.config.clients ∷ []))
    (low_ink 255 header.version (lit< tt) (version_small header is))
    (and_from (are_ink (decimal header.config.shards)) (are_inked (decimal header.config.f ∷ decimal header.config.clients ∷ [])) (low_ink 255 header.config.shards (lit< tt) small.0)
    (and_from (are_ink (decimal header.config.f)) (are_inked (decimal header.config.clients ∷ [])) (low_ink 255 header.config.f (lit< tt) small.1)
    (and_from (are_ink (decimal header.config.clients)) true (low_ink 255 header.config.clients (lit< tt) small.2) refl)))

decimal_plain : (n : ℕ) → nat_le n 255 ≡ true → are_plain (decimal n ∷ []) ≡ true
unfolding count number
decimal_plain n low = is_count.plain n (le-leb n (2 ^ 32 - 1) (few n (leb-true n 255 low)))
  where
    few : (k : ℕ) → k ≤ 255 → k ≤ 2 ^ 32 - 1
    few k le = omega (arith, le)

header_plain : (header : Header) → IsHeader header → are_plain (header_words header) ≡ true
header_plain header is =
    let small = sizes header.version header.config is.fits in
    plain-append (decimal header.version ∷ []) (decimal header.config.shards ∷ decimal header.config.f ∷ decimal header.config.clients ∷ []) (decimal_plain header.version (version_small header is))
    (plain-append (decimal header.config.shards ∷ []) (decimal header.config.f ∷ decimal header.config.clients ∷ []) (decimal_plain header.config.shards small.0)
    (plain-append (decimal header.config.f ∷ []) (decimal header.config.clients ∷ []) (decimal_plain header.config.f small.1) (decimal_plain header.config.clients small.2)))

pub header_back : (header : Header) → IsHeader header → header_of (header_text header) ≡ Ok header
header_back header is =
    header_read (header_text header) header (record {
      spelled = words_joined (codes "eris") (decimal header.version ∷ decimal header.config.shards ∷ decimal header.config.f ∷ decimal header.config.clients ∷ []) (header_plain header is);
      known = is.known;
      fits = is.fits;
    })

-- ---- THE LINES
pub script_cut : (header : Header) (events : List Event) (rest : List ℕ) → IsHeader header → Each (λ e. fits_event header.version e ≡ true) events
    → lines (event_script header events ++ rest) ≡ header_text header ∷ map (event_text header.version) events ++ lines rest
unfolding event_script
script_cut header events rest is fits =
    texts_cut (header_text header ∷ map (event_text header.version) events) rest
    (and_from (are_ink (header_text header)) (are_inked (map (event_text header.version) events)) (line_ink (header_words header) (header_inked header is)) (events_ink header.version events fits))

script_by : (header : Header) (events : List Event) (found : Result Header Reason) → found ≡ Ok header
    → events_from header.version 2 (map (event_text header.version) events) ≡ Ok events
    → ◌≡◌ {A = Result Script BadLine} (elim found [ Ok read ↦ with_config read.config (events_from read.version 2 (map (event_text header.version) events)) | Err why ↦ Err (record { line = 1; reason = why }) ])
    (Ok (record { config = header.config; events = events }))
script_by header events (Ok read) is rest =
    let same : read ≡ header = cc in
    ap (λ (one : Header). with_config one.config (events_from one.version 2 (map (event_text header.version) events))) same ∙ ap (with_config header.config) rest
script_by header events (Err why) is rest = absurd (cc)

-- ---- THE SCRIPT
pub written_script : (header : Header) (events : List Event) → IsHeader header → Each (λ e. fits_event header.version e ≡ true) events
    → script (event_script header events) ≡ Ok (record { config = header.config; events = events })
unfolding script cut_lines
written_script header events is fits =
    let all : lines (event_script header events) ≡ header_text header ∷ map (event_text header.version) events =
    ap lines (sym (append-nil (event_script header events))) ∙ script_cut header events [] is fits ∙ append-nil (header_text header ∷ map (event_text header.version) events) in
    ap script_in all
    ∙ script_by header events (header_of (header_text header)) (header_back header is) (events_read header.version 2 events fits)
