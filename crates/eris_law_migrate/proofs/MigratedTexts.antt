-- A migrated text, cut into lines again: version 2 reads in each what version 1 reads in the script's.
use Rattle.std.proofs.Common.{◌≡◌, ◌==◌, ◌&&◌, ◌<◌, ◌≤◌, ◌+◌, ℕ, Bool, true, false, cond, not, Option, Some, None, Result, Ok, Err, List, [], ◌∷◌, ◌++◌, length, map, refl, sym, ap, subst, ◌∙◌, append_assoc, append-nil, length-append, arith, codes, lit<, IsTrue, nat_eq, inl, inr}
use Rattle.std.specs.Prelude.{⊤}
use Rattle.std.proofs.lemmas.Bool.{and_from, eqb-true}
use Rattle.std.specs.List.{ends_with, join_with_byte, list_all}
use Rattle.std.specs.Str.Lines.{strip_carriage_return}
use Rattle.eris_base.proofs.Booleans.{left_of, right_of}
use Rattle.eris_event.specs.declared.event.Event.{Event}
use Rattle.eris_grammar.specs.declared.header.Header.{Header}
use Rattle.eris_grammar.specs.declared.line.Line.{Line}
use Rattle.eris_grammar.specs.declared.line.Line.TheVariants as line
use Rattle.eris_grammar.specs.Headers.{header_of}
use Rattle.eris_grammar.specs.LineForms.{line_of}
use Rattle.eris_grammar.specs.Scripts.{BadLine, Script, events_from, events_of, script, script_in, with_config, with_events}
use Rattle.eris_grammar.proofs.SpellingLaws.{read_as_spelled}
use Rattle.eris_migrate.specs.Migrated.{last_lf, migrated, migrated_header, migrated_line, migrated_lines}
use Rattle.eris_migrate.specs.Unread.{IsVersion1, header_fault, unless_headless, unread, unread_from, unread_in}
use Rattle.eris_words.specs.declared.reason.Reason.{Reason}
use Rattle.eris_words.specs.declared.reason.Reason.TheVariants as reason
use Rattle.eris_words.specs.Cuts.{cut_lines, is_skipped, lines}
use Rattle.eris_law_lines.proofs.EventScripts.{stripped}
use Rattle.eris_law_lines.proofs.Ink.{are_ink}
use Rattle.eris_law_migrate.specs.Meanings.{AreLinesAlike, AreReadAlike, MeansTheSame}
use Rattle.eris_law_migrate.proofs.CutLines.{all_inner, cut_closed, cut_open, inner, lines_inner, lines_no_longer, trimmed}
use Rattle.eris_law_migrate.proofs.EventLines.{Kept, kept}
use Rattle.eris_law_migrate.proofs.Headers.{MigratedHeader, header_kept}
use Rattle.eris_law_migrate.proofs.LineTexts.{skipped_stays, still_skipped, without_lf}

-- ---- one line

-- a line that is read: as long as before, without an LF, and read alike
record ReadLine (text : List ℕ) : Type 0 where
  inside : inner (migrated_line text) ≡ true
  long : length (migrated_line text) ≡ length text
  alike : line_of 2 (strip_carriage_return (migrated_line text)) ≡ line_of 1 text
  nothing : migrated_line text ≡ [] → line_of 1 text ≡ Ok line.Skip

skip_line : (text : List ℕ) → inner text ≡ true → line_of 1 text ≡ Ok line.Skip → ReadLine text
skip_line text fine read =
    let skipped = ((read_as_spelled 1 text).skips).0 read in
    let same = skipped_stays text skipped in
    record {
      inside = ap inner same ∙ fine;
      long = ap length same;
      alike = ap (λ (z : List ℕ). line_of 2 (strip_carriage_return z)) same
          ∙ ((read_as_spelled 2 (strip_carriage_return text)).skips).1 (still_skipped text skipped) ∙ sym read;
      nothing = λ _. read;
    }

said_line : (text : List ℕ) (said : Line) → line_of 1 text ≡ Ok said → Kept text said → ReadLine text
said_line text said read is =
    record {
      inside = without_lf (migrated_line text) is.stand;
      long = is.long;
      alike = ap (line_of 2) (stripped (migrated_line text) is.stand) ∙ is.reads ∙ sym read;
      nothing = λ none. empty_line text (sym is.long ∙ ap length none);
    }
  where
    empty_line : (some : List ℕ) → length some ≡ 0 → line_of 1 some ≡ Ok line.Skip
    empty_line [] none = ((read_as_spelled 1 []).skips).1 refl
    empty_line (byte ∷ more) none = absurd (omega arith)

read_line : (text : List ℕ) (said : Line) → inner text ≡ true → line_of 1 text ≡ Ok said → ReadLine text
read_line text line.Skip fine read = skip_line text fine read
read_line text (line.One e) fine read = said_line text (line.One e) read (kept text (line.One e) read (λ same. cc))
read_line text (line.Flow n) fine read = said_line text (line.Flow n) read (kept text (line.Flow n) read (λ same. cc))
read_line text (line.Lose n) fine read = said_line text (line.Lose n) read (kept text (line.Lose n) read (λ same. cc))

-- ---- lines behind a header, all of which are read
record IsReadOn (number : ℕ) (text : List ℕ) (texts : List (List ℕ)) : Type 0 where
  said : Line
  read : line_of 1 text ≡ Ok said
  others : unread_from (number + 1) texts ≡ None

read_on : (number : ℕ) (text : List ℕ) (texts : List (List ℕ)) → unread_from number (text ∷ texts) ≡ None → IsReadOn number text texts
unfolding unread_from
read_on number text texts all = of_read (line_of 1 text) refl all
  where
    of_read : (r : Result Line Reason) → line_of 1 text ≡ r
        → ◌≡◌ {A = Option BadLine} (elim r [ Ok said ↦ unread_from (number + 1) texts | Err why ↦ Some (record { line = number; reason = why }) ]) None → IsReadOn number text texts
    of_read (Ok said) is none = record { said = said; read = is; others = none }
    of_read (Err why) is none = absurd cc

-- all of them, line by line
abbrev AllRead : List (List ℕ) → Type 0
AllRead [] = ⊤
AllRead (text ∷ texts) = ReadLine text × AllRead texts

all_read : (number : ℕ) (texts : List (List ℕ)) → all_inner texts ≡ true → unread_from number texts ≡ None → AllRead texts
all_read number [] fine all = tt
all_read number (text ∷ texts) fine all =
    let here = read_on number text texts all in
    (read_line text here.said (left_of (inner text) (all_inner texts) fine) here.read, all_read (number + 1) texts (right_of (inner text) (all_inner texts) fine) here.others)

migrated_inner : (texts : List (List ℕ)) → AllRead texts → all_inner (map migrated_line texts) ≡ true
migrated_inner [] all = refl
migrated_inner (text ∷ texts) all = and_from (inner (migrated_line text)) (all_inner (map migrated_line texts)) all.0.inside (migrated_inner texts all.1)

-- with an LF behind the last
alike_closed : (texts : List (List ℕ)) → AllRead texts → AreReadAlike texts (map strip_carriage_return (map migrated_line texts))
alike_closed [] all = tt
alike_closed (text ∷ texts) all = (all.0.alike, alike_closed texts all.1)

-- without
alike_last : (text migrates : List ℕ) → ReadLine text → migrated_line text ≡ migrates → AreReadAlike (text ∷ []) (map strip_carriage_return (trimmed (migrates ∷ [])))
alike_last text [] is same = is.nothing same
alike_last text (byte ∷ more) is same = (ap (λ (z : List ℕ). line_of 2 (strip_carriage_return z)) (sym same) ∙ is.alike, tt)

alike_open : (texts : List (List ℕ)) → AllRead texts → AreReadAlike texts (map strip_carriage_return (trimmed (map migrated_line texts)))
alike_open [] all = tt
alike_open (text ∷ []) all = alike_last text (migrated_line text) all.0 refl
alike_open (text ∷ next ∷ texts) all = (all.0.alike, alike_open (next ∷ texts) all.1)

-- ---- lengths
same_length : (first header : List ℕ) (texts : List (List ℕ)) → length header ≡ length first → AllRead texts
    → length (join_with_byte 10 (header ∷ map migrated_line texts)) ≡ length (join_with_byte 10 (first ∷ texts))
same_length first header [] same all = same
same_length first header (text ∷ texts) same all =
    let one = length-append header (10 ∷ join_with_byte 10 (migrated_line text ∷ map migrated_line texts)) in
    let other = length-append first (10 ∷ join_with_byte 10 (text ∷ texts)) in
    let more = same_length text (migrated_line text) texts all.0.long all.1 in
    omega (arith, one, other, more, same)

-- ---- the events of lines that are read alike
abbrev step : ℕ → Result Line Reason → Result (List Event) BadLine → Result (List Event) BadLine
step number (Ok said) rest = with_events (events_of said) rest
step number (Err why) rest = Err (record { line = number; reason = why })

stepped : (version number : ℕ) (text : List ℕ) (texts : List (List ℕ)) → events_from version number (text ∷ texts) ≡ step number (line_of version text) (events_from version (number + 1) texts)
unfolding events_from
stepped version number text texts = of_read (line_of version text)
  where
    of_read : (r : Result Line Reason)
        → ◌≡◌ {A = Result (List Event) BadLine} (elim r [ Ok said ↦ with_events (events_of said) (events_from version (number + 1) texts) | Err why ↦ Err (record { line = number; reason = why }) ])
        (step number r (events_from version (number + 1) texts))
    of_read (Ok said) = refl
    of_read (Err why) = refl

none_said : (version number : ℕ) → events_from version number [] ≡ Ok []
unfolding events_from
none_said version number = refl

one_more : (number : ℕ) (text other : List ℕ) (texts others : List (List ℕ)) → line_of 2 other ≡ line_of 1 text → events_from 2 (number + 1) others ≡ events_from 1 (number + 1) texts
    → events_from 2 number (other ∷ others) ≡ events_from 1 number (text ∷ texts)
one_more number text other texts others here more =
    stepped 2 number other others ∙ ap (λ (r : Result Line Reason). step number r (events_from 2 (number + 1) others)) here
    ∙ ap (step number (line_of 1 text)) more ∙ sym (stepped 1 number text texts)

left_out : (number : ℕ) (text : List ℕ) → line_of 1 text ≡ Ok line.Skip → events_from 2 number [] ≡ events_from 1 number (text ∷ [])
left_out number text skips =
    none_said 2 number
    ∙ sym (stepped 1 number text [] ∙ ap (λ (r : Result Line Reason). step number r (events_from 1 (number + 1) [])) skips ∙ ap (with_events []) (none_said 1 (number + 1)))

same_events : (number : ℕ) (texts others : List (List ℕ)) → AreReadAlike texts others → events_from 2 number others ≡ events_from 1 number texts
same_events number [] [] alike = none_said 2 number ∙ sym (none_said 1 number)
same_events number [] (other ∷ others) alike = absurd alike
same_events number (text ∷ []) [] alike = left_out number text alike
same_events number (text ∷ next ∷ texts) [] alike = absurd alike
same_events number (text ∷ []) (other ∷ others) alike = one_more number text other [] others alike.0 (same_events (number + 1) [] others alike.1)
same_events number (text ∷ next ∷ texts) (other ∷ others) alike =
    one_more number text other (next ∷ texts) others alike.0 (same_events (number + 1) (next ∷ texts) others alike.1)

-- lines that are all read say events
all_events : (number : ℕ) (texts : List (List ℕ)) → unread_from number texts ≡ None → (events : List Event) × (events_from 1 number texts ≡ Ok events)
all_events number [] all = ([], none_said 1 number)
all_events number (text ∷ texts) all =
    let here = read_on number text texts all in
    let more = all_events (number + 1) texts here.others in (
      events_of here.said ++ more.0,
      stepped 1 number text texts ∙ ap (λ (r : Result Line Reason). step number r (events_from 1 (number + 1) texts)) here.read ∙ ap (with_events (events_of here.said)) more.1,
    )

abbrev read_as : Header → Result Header Reason
read_as header = Ok header

-- a header, and events behind it, make a script
script_of : (bytes first : List ℕ) (texts : List (List ℕ)) (header : Header) (events : List Event) → lines bytes ≡ first ∷ texts → header_of first ≡ Ok header
    → events_from header.version 2 texts ≡ Ok events → script bytes ≡ Ok (record { config = header.config; events = events })
unfolding script
script_of bytes first texts header events cut reads say =
    ap script_in cut ∙ of_read (header_of first) reads
  where
    of_read : (r : Result Header Reason) → r ≡ Ok header
        → ◌≡◌ {A = Result Script BadLine} (elim r [ Ok header ↦ with_config header.config (events_from header.version 2 texts) | Err why ↦ Err (record { line = 1; reason = why }) ])
        (Ok (record { config = header.config; events = events }))
    of_read (Ok other) is =
        let same : other ≡ header = cc in
        ap (λ (h : Header). with_config h.config (events_from h.version 2 texts)) same ∙ ap (with_config header.config) say
    of_read (Err why) is = absurd cc

-- ---- A SCRIPT OF VERSION 1, its header and its lines
record IsOld (bytes : List ℕ) : Type 0 where
  first : List ℕ
  texts : List (List ℕ)
  cut : lines bytes ≡ first ∷ texts
  header : Header
  reads : header_of first ≡ Ok header
  old : header.version ≡ 1
  others : unread_from 2 texts ≡ None

is_old : (bytes : List ℕ) → IsVersion1 bytes → IsOld bytes
unfolding unread
is_old bytes old = of_lines (lines bytes) refl old
  where
    of_version : (first : List ℕ) (texts : List (List ℕ)) → lines bytes ≡ first ∷ texts → (header : Header) → header_of first ≡ Ok header → (test : Bool) → (header.version == 1) ≡ test
        → unless_headless (cond test None (Some reason.Header)) texts ≡ None → IsOld bytes
    of_version first texts cut header is true one none = record { first = first; texts = texts; cut = cut; header = header; reads = is; old = eqb-true header.version 1 one; others = none }
    of_version first texts cut header is false one none = absurd cc

    of_header : (first : List ℕ) (texts : List (List ℕ)) → lines bytes ≡ first ∷ texts → (r : Result Header Reason) → header_of first ≡ r
        → unless_headless (header_fault r) texts ≡ None → IsOld bytes
    of_header first texts cut (Ok header) is none = of_version first texts cut header is (header.version == 1) refl none
    of_header first texts cut (Err why) is none = absurd cc

    of_lines : (all : List (List ℕ)) → lines bytes ≡ all → unread_in all ≡ None → IsOld bytes
    of_lines [] cut none = absurd cc
    of_lines (first ∷ texts) cut none = of_header first texts cut (header_of first) refl none

-- the migrated text, cut
record IsCutAgain (bytes : List ℕ) (old : IsOld bytes) : Type 0 where
  header : MigratedHeader old.first old.header.config
  others : List (List ℕ)
  cut : lines (migrated bytes) ≡ strip_carriage_return (migrated_header old.first) ∷ others
  alike : AreReadAlike old.texts others
  no_longer : length (migrated bytes) ≤ length bytes

abbrev text_with : List ℕ → List (List ℕ) → List ℕ → List ℕ
text_with header texts end = join_with_byte 10 (header ∷ map migrated_line texts) ++ end

cut_with : (header : List ℕ) (texts : List (List ℕ)) (has_end : Bool) → are_ink header ≡ true → 0 < length header → AllRead texts
    → (others : List (List ℕ)) × (lines (text_with header texts (cond has_end (10 ∷ []) [])) ≡ strip_carriage_return header ∷ others) × AreReadAlike texts others
cut_with header texts true ink some all =
    let inside = and_from (inner header) (all_inner (map migrated_line texts)) (without_lf header ink) (migrated_inner texts all) in
    (map strip_carriage_return (map migrated_line texts), ap (map strip_carriage_return) (cut_closed header (map migrated_line texts) inside), alike_closed texts all)
cut_with [] texts false ink some all = absurd (omega (arith, some))
cut_with (byte ∷ header) [] false ink some all =
    let inside = and_from (inner (byte ∷ header)) true (without_lf (byte ∷ header) ink) refl in
    ([], ap lines (append-nil (byte ∷ header)) ∙ ap (map strip_carriage_return) (cut_open (byte ∷ header) [] inside), tt)
cut_with (byte ∷ header) (text ∷ texts) false ink some all =
    let inside = and_from (inner (byte ∷ header)) (all_inner (map migrated_line (text ∷ texts))) (without_lf (byte ∷ header) ink) (migrated_inner (text ∷ texts) all) in (
      map strip_carriage_return (trimmed (map migrated_line (text ∷ texts))),
      ap lines (append-nil (join_with_byte 10 ((byte ∷ header) ∷ map migrated_line (text ∷ texts))))
          ∙ ap (map strip_carriage_return) (cut_open (byte ∷ header) (map migrated_line (text ∷ texts)) inside),
      alike_open (text ∷ texts) all,
    )

cut_again : (bytes : List ℕ) (old : IsOld bytes) → IsCutAgain bytes old
unfolding migrated
cut_again bytes old =
    let header = header_kept old.first old.header old.reads old.old in
    let all_in : all_inner (old.first ∷ old.texts) ≡ true = ap all_inner (sym old.cut) ∙ lines_inner bytes in
    let all = all_read 2 old.texts (right_of (inner old.first) (all_inner old.texts) all_in) old.others in
    let has_end = ends_with nat_eq bytes (10 ∷ []) in
    let cut = cut_with (migrated_header old.first) old.texts has_end header.ink header.some all in
    let same : migrated bytes ≡ text_with (migrated_header old.first) old.texts (last_lf bytes) = ap (λ (z : List (List ℕ)). join_with_byte 10 (migrated_lines z) ++ last_lf bytes) old.cut in
    let less = lines_no_longer bytes in
    let equal = same_length old.first (migrated_header old.first) old.texts header.long all in
    let whole = ap length same in
    let one = length-append (join_with_byte 10 (migrated_header old.first ∷ map migrated_line old.texts)) (last_lf bytes) in
    let other = length-append (join_with_byte 10 (lines bytes)) (last_lf bytes) in
    let joined = ap (λ (z : List (List ℕ)). length (join_with_byte 10 z)) old.cut in
    record { header = header; others = cut.0; cut = ap lines same ∙ cut.1; alike = cut.2; no_longer = omega (arith, less, equal, whole, one, other, joined) }

-- MIGRATING KEEPS WHAT A SCRIPT MEANS
pub means_the_same : (bytes : List ℕ) → IsVersion1 bytes → MeansTheSame bytes (migrated bytes)
means_the_same bytes is =
    let old = is_old bytes is in
    let again = cut_again bytes old in
    let said = all_events 2 old.texts old.others in
    let one : Header = record { version = 1; config = old.header.config } in
    let two : Header = record { version = 2; config = old.header.config } in
    let reads : header_of old.first ≡ Ok one =
    old.reads ∙ ap (λ (version : ℕ). read_as (record { version = version; config = old.header.config })) old.old in
    record {
      lines_alike = record {
        config = old.header.config;
        first = old.first;
        texts = old.texts;
        cut = old.cut;
        header = reads;
        new = strip_carriage_return (migrated_header old.first);
        others = again.others;
        cut_new = again.cut;
        header_new = again.header.reads;
        alike = again.alike;
      };
      whole = record { config = old.header.config; events = said.0 };
      is_script = script_of bytes old.first old.texts one said.0 old.cut reads said.1;
      also = script_of (migrated bytes) (strip_carriage_return (migrated_header old.first)) again.others two said.0 again.cut again.header.reads
          (same_events 2 old.texts again.others again.alike ∙ said.1);
      no_longer = again.no_longer;
    }

pub refused_again : (bytes : List ℕ) → IsVersion1 bytes → unread (migrated bytes) ≡ Some (record { line = 1; reason = reason.Header })
unfolding unread
refused_again bytes is =
    let old = is_old bytes is in
    let again = cut_again bytes old in
    ap unread_in again.cut ∙ ap (λ (r : Result Header Reason). unless_headless (header_fault r) again.others) again.header.reads
