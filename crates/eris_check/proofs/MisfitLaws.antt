-- Bytes are read as a report exactly where they are the text of it; and where reading is left, there is the first misfit.
use Rattle.std.proofs.Common.{◌≡◌, inl, inr, ◌⊎◌, ℕ, ◌+◌, ◌-◌, ◌<◌, ◌≤◌, ◌==◌, Bool, true, false, cond, Result, Ok, Err, List, [], ◌∷◌, ◌++◌, length, map, take, drop, IfOk, IfErr, refl, sym, ap, subst, ◌∙◌, append_assoc, append-nil, take-append-drop, take-take, length-append, arith}
use Rattle.std.specs.List.{flat_map, onto_first}
use Rattle.std.proofs.Math.Seq.{take-append_seam, take-append-add}
use Rattle.std.proofs.lemmas.Bool.{cases_order}
use Rattle.std.proofs.lemmas.List.{length-map, map-append}
use Rattle.std.proofs.lemmas.Slice.Eq.{bytes_eq-Decides}
use Rattle.eris_base.specs.ConfigLimits.{ConfigValue, IsConfig}
use Rattle.eris_event.specs.declared.report.Report.{Report}
use Rattle.eris_report.specs.ReportText.{config_words, report_text}
use Rattle.eris_report_range.specs.ReportRanges.{IsRangedReport}
use Rattle.eris_words.specs.declared.reason.Reason.{Reason}
use Rattle.eris_words.specs.Words.{line}
use Rattle.eris_check.specs.declared.draft.Draft.{Draft}
use Rattle.eris_check.specs.declared.fault.ReportFault.{ReportFault}
use Rattle.eris_check.specs.declared.fault.ReportFault.TheVariants.{Bad, NoMemory}
use Rattle.eris_check.specs.declared.report_line.ReportLine.{ReportLine}
use Rattle.eris_check.specs.Drafts.{begun}
use Rattle.eris_check.specs.FullLines.{full_lines}
use Rattle.eris_check.specs.ReportTexts.{AreJudged, BeginText, IsFirstMisfit, IsReportText, IsTextOf, Tells}
use Rattle.eris_check.specs.TextReading.{Reads, behind_title, body_read, config_in, is_title, text_read}
use Rattle.eris_check.proofs.ConfigSteps.{in_limits, limits_of}
use Rattle.eris_check.proofs.DraftLaws.{IsDraft, begun_draft, completed, completed_begins, completed_ranged, whole_ranged, whole_said}
use Rattle.eris_check.proofs.FullLineLaws.{no_lines}
use Rattle.eris_check.proofs.LineLaws.{config_complete, config_sound}
use Rattle.eris_check.proofs.ReadingLaws.{body_complete, body_left, body_sound}
use Rattle.eris_check.proofs.ReportCuts.{lines_of, report_cut, said_by, text_line, title}

-- LINES JOINED give the bytes that were cut into them

abbrev together : List (List ℕ) → List ℕ
together lines = flat_map (λ l. l) lines

onto_joined : (byte : ℕ) (lines : List (List ℕ)) → together (onto_first byte lines) ≡ byte ∷ together lines
onto_joined byte [] = refl
onto_joined byte (l ∷ lines) = refl

by_end : (byte : ℕ) (bytes : List ℕ) (test : Bool) → together (full_lines bytes) ≡ bytes →
    together (cond test ((byte ∷ []) ∷ full_lines bytes) (onto_first byte (full_lines bytes))) ≡ byte ∷ bytes
by_end byte bytes true same = ap (λ (z : List ℕ). byte ∷ z) same
by_end byte bytes false same = onto_joined byte (full_lines bytes) ∙ ap (λ (z : List ℕ). byte ∷ z) same

joined_again : (bytes : List ℕ) → together (full_lines bytes) ≡ bytes
unfolding full_lines
joined_again [] = refl
joined_again (byte ∷ bytes) = by_end byte bytes (byte == 10) (joined_again bytes)

-- A TEXT READ AS A REPORT

abbrev by_config : List (List ℕ) → Result ConfigValue Reason → Result Report ℕ
by_config lines found = elim found [
  | Ok config ↦ body_read 3 (begun config) lines
  | Err why ↦ Err 2
]

-- the text of a report in range is read as it
pub read_again : (r : Report) → IsRangedReport r → text_read (full_lines (report_text r)) ≡ Ok r
read_again r h =
    ap text_read (report_cut r h)
    ∙ ap (by_config (map text_line (said_by r))) (config_complete r.config (in_limits r.config h.config))
    ∙ body_complete r h 3

title_only : (first : List ℕ) → is_title first ≡ true → first ≡ title
title_only first is = (bytes_eq-Decides first title).0 is

titled : (test : Bool) (behind : Result Report ℕ) (r : Report) → cond test behind (Err 1) ≡ Ok r → (test ≡ true) × (behind ≡ Ok r)
titled true behind r read = (refl, read)
titled false behind r read = absurd cc

record AreLinesOf (r : Report) (lines : List (List ℕ)) : Type 0 where
  ranged : IsRangedReport r
  same : lines ≡ lines_of r

body_lines : (config : ConfigValue) (first second : List ℕ) (lines : List (List ℕ)) (r : Report) → IsConfig config → first ≡ title → second ≡ line (config_words config) →
    body_read 3 (begun config) lines ≡ Ok r → AreLinesOf r (first ∷ second ∷ lines)
body_lines config first second lines r limits is_first is_second read =
    let b = body_sound config lines 3 (begun config) [] r (begun_draft config limits) read in
    let said = whole_said config b.last b.more b.whole b.drafted in
    subst (λ (z : Report). AreLinesOf z (first ∷ second ∷ lines)) b.same (record {
      ranged = whole_ranged config b.last b.more b.whole b.drafted;
      same = ap (λ (z : List ℕ). z ∷ second ∷ lines) is_first
          ∙ ap (λ (z : List ℕ). title ∷ z ∷ lines) (is_second ∙ ap (λ (c : ConfigValue). line (config_words c)) (sym b.drafted.same_config))
          ∙ ap (λ (z : List (List ℕ)). title ∷ line (config_words b.last.report.config) ∷ z) (b.text ∙ ap (map text_line) said);
    })

config_lines : (first second : List ℕ) (lines : List (List ℕ)) (r : Report) → first ≡ title → (found : Result ConfigValue Reason) → found ≡ config_in second →
    by_config lines found ≡ Ok r → AreLinesOf r (first ∷ second ∷ lines)
config_lines first second lines r is_first (Ok config) is read =
    let s = config_sound second config (sym is) in
    body_lines config first second lines r (limits_of config s.0) is_first s.1 read
config_lines first second lines r is_first (Err why) is read = absurd cc

lines_read : (lines : List (List ℕ)) (r : Report) → text_read lines ≡ Ok r → AreLinesOf r lines
lines_read [] r read = absurd cc
lines_read (first ∷ []) r read = let t = titled (is_title first) (Err 2) r read in absurd (no_config t.1)
  where
    no_config : ◌≡◌ {A = Result Report ℕ} (Err 2) (Ok r) → ⊥
    no_config same = cc
lines_read (first ∷ second ∷ lines) r read =
    let t = titled (is_title first) (behind_title (second ∷ lines)) r read in
    config_lines first second lines r (title_only first t.0) (config_in second) refl t.1

-- what is read as a report is the text of it
pub read_is_text : (bytes : List ℕ) (r : Report) → text_read (full_lines bytes) ≡ Ok r → IsTextOf r bytes
read_is_text bytes r read =
    let l = lines_read (full_lines bytes) r read in
    record {
      ranged = l.ranged;
      text = sym (joined_again bytes) ∙ ap together (l.same ∙ sym (report_cut r l.ranged)) ∙ joined_again (report_text r);
    }

pub text_is_read : (bytes : List ℕ) (r : Report) → IsTextOf r bytes → text_read (full_lines bytes) ≡ Ok r
text_is_read bytes r t = ap (λ (z : List ℕ). text_read (full_lines z)) t.text ∙ read_again r t.ranged

-- LINES THAT BEGIN A TEXT

config_of_one : ConfigValue
config_of_one = record { shards = 1; f = 0; clients = 1 }

one_in_limits : IsConfig config_of_one
unfolding config_of_one
one_in_limits = record { some_shard = omega arith; few_shards = omega arith; few_faults = omega arith; some_client = omega arith; few_clients = omega arith }

draft_begins : (config : ConfigValue) (vs : List ReportLine) (d : Draft) → IsDraft config d vs → BeginText (title ∷ line (config_words config) ∷ map text_line vs)
draft_begins config vs d h =
    let ranged = completed_ranged config d vs h in
    let b = completed_begins config d vs h in
    record {
      report = completed d;
      ranged = ranged;
      others = map text_line b.0;
      first = report_cut (completed d) ranged
          ∙ ap (λ (c : ConfigValue). title ∷ line (config_words c) ∷ map text_line (said_by (completed d))) h.same_config
          ∙ ap (λ (z : List ReportLine). title ∷ line (config_words config) ∷ map text_line z) b.1
          ∙ ap (λ (z : List (List ℕ)). title ∷ line (config_words config) ∷ z) (map-append text_line vs b.0);
    }

fewer_begin : (lines more : List (List ℕ)) → BeginText (lines ++ more) → BeginText lines
fewer_begin lines more b = record { report = b.report; ranged = b.ranged; others = more ++ b.others; first = b.first ∙ append_assoc lines more b.others }

some_begin : BeginText (title ∷ line (config_words config_of_one) ∷ [])
some_begin = draft_begins config_of_one [] (begun config_of_one) (begun_draft config_of_one one_in_limits)

none_begin : BeginText []
none_begin = fewer_begin [] (title ∷ line (config_words config_of_one) ∷ []) some_begin

title_begins : BeginText (title ∷ [])
title_begins = fewer_begin (title ∷ []) (line (config_words config_of_one) ∷ []) some_begin

-- WHERE READING IS LEFT: the lines before that place begin a text, and with the line there they begin none

record IsLeftAt (lines : List (List ℕ)) (place : ℕ) : Type 0 where
  before : List (List ℕ)
  rest : List (List ℕ)
  text : lines ≡ before ++ rest
  counted : place ≡ length before + 1
  begins : BeginText before
  refused : (bad : List ℕ) (more others : List (List ℕ)) → rest ≡ bad ∷ more → text_read (before ++ bad ∷ others) ≡ Err place

err_is : (some other : ℕ) → ◌≡◌ {A = Result Report ℕ} (Err some) (Err other) → some ≡ other
err_is some other same = cc

body_left_at : (config : ConfigValue) (first second : List ℕ) (lines : List (List ℕ)) (place : ℕ) → IsConfig config → first ≡ title → second ≡ line (config_words config) →
    config_in (line (config_words config)) ≡ Ok config → body_read 3 (begun config) lines ≡ Err place → IsLeftAt (first ∷ second ∷ lines) place
body_left_at config first second lines place limits is_first is_second again read =
    let b = body_left config lines 3 (begun config) [] place (begun_draft config limits) read in
    let size : length (map text_line b.good) ≡ length b.good = length-map b.good text_line in
    record {
      before = title ∷ line (config_words config) ∷ map text_line b.good;
      rest = b.rest;
      text = ap (λ (z : List ℕ). z ∷ second ∷ lines) is_first ∙ ap (λ (z : List ℕ). title ∷ z ∷ lines) is_second
          ∙ ap (λ (z : List (List ℕ)). title ∷ line (config_words config) ∷ z) b.text;
      counted = omega (arith, b.counted, size);
      begins = draft_begins config b.good b.last b.drafted;
      refused = λ bad more others is.
          ap (by_config (map text_line b.good ++ bad ∷ others)) again ∙ b.refused bad more others is;
    }

config_left_at : (first second : List ℕ) (lines : List (List ℕ)) (place : ℕ) → first ≡ title → (found : Result ConfigValue Reason) → found ≡ config_in second →
    by_config lines found ≡ Err place → IsLeftAt (first ∷ second ∷ lines) place
config_left_at first second lines place is_first (Ok config) is read =
    let s = config_sound second config (sym is) in
    body_left_at config first second lines place (limits_of config s.0) is_first s.1 (config_complete config s.0) read
config_left_at first second lines place is_first (Err why) is read =
    let two : 2 ≡ place = err_is 2 place read in
    record {
      before = title ∷ [];
      rest = second ∷ lines;
      text = ap (λ (z : List ℕ). z ∷ second ∷ lines) is_first;
      counted = sym two;
      begins = title_begins;
      refused = λ bad more others same.
          let this : second ≡ bad = cc in
          ap (λ (z : List ℕ). by_config others (config_in z)) (sym this) ∙ ap (by_config others) (sym is) ∙ ap (λ (k : ℕ). Err k) two;
    }

abbrev by_title : Result Report ℕ → Bool → Result Report ℕ
by_title behind test = cond test behind (Err 1)

no_title : (first : List ℕ) (lines : List (List ℕ)) → is_title first ≡ false → text_read (first ∷ lines) ≡ Err 1
no_title first lines is = ap (by_title (behind_title lines)) is

title_left_at : (first : List ℕ) (lines : List (List ℕ)) (place : ℕ) → (test : Bool) → test ≡ is_title first →
    ((is : first ≡ title) → behind_title lines ≡ Err place → IsLeftAt (first ∷ lines) place) →
    cond test (behind_title lines) (Err 1) ≡ Err place → IsLeftAt (first ∷ lines) place
title_left_at first lines place true is behind read = behind (title_only first (sym is)) read
title_left_at first lines place false is behind read =
    let one : 1 ≡ place = err_is 1 place read in
    record {
      before = [];
      rest = first ∷ lines;
      text = refl;
      counted = sym one;
      begins = none_begin;
      refused = λ bad more others same.
          let this : first ≡ bad = cc in
          ap (λ (z : List ℕ). text_read (z ∷ others)) (sym this) ∙ no_title first others (sym is) ∙ ap (λ (k : ℕ). Err k) one;
    }

left_at : (lines : List (List ℕ)) (place : ℕ) → text_read lines ≡ Err place → IsLeftAt lines place
left_at [] place read = record {
  before = [];
  rest = [];
  text = refl;
  counted = sym (err_is 1 place read);
  begins = none_begin;
  refused = λ bad more others same. absurd cc;
}
left_at (first ∷ []) place read =
    title_left_at first [] place (is_title first) refl (λ is behind. record {
      before = title ∷ [];
      rest = [];
      text = ap (λ (z : List ℕ). z ∷ []) is;
      counted = sym (err_is 2 place behind);
      begins = title_begins;
      refused = λ bad more others same. absurd cc;
    }) read
left_at (first ∷ second ∷ lines) place read =
    title_left_at first (second ∷ lines) place (is_title first) refl (λ is behind. config_left_at first second lines place is (config_in second) refl behind) read

-- THE FIRST MISFIT

not_both : (found : Result Report ℕ) (r : Report) (place : ℕ) → found ≡ Ok r → found ≡ Err place → ⊥
not_both found r place ok err = let same : ◌≡◌ {A = Result Report ℕ} (Ok r) (Err place) = sym ok ∙ err in cc

fits_nowhere : (lines : List (List ℕ)) (place : ℕ) → (l : IsLeftAt lines place) → (bad : List ℕ) (more : List (List ℕ)) → l.rest ≡ bad ∷ more → BeginText (take place lines) → ⊥
fits_nowhere lines place l bad more is b =
    let up_to : take place lines ≡ l.before ++ bad ∷ [] =
    ap (λ (k : ℕ). take k lines) l.counted ∙ ap (take (length l.before + 1)) (l.text ∙ ap (λ (z : List (List ℕ)). l.before ++ z) is)
    ∙ take-append-add l.before (bad ∷ more) 1 in
    let shown : full_lines (report_text b.report) ≡ l.before ++ bad ∷ b.others =
    b.first ∙ ap (λ (z : List (List ℕ)). z ++ b.others) up_to ∙ append_assoc l.before (bad ∷ []) b.others in
    not_both (text_read (full_lines (report_text b.report))) b.report place (read_again b.report b.ranged) (ap text_read shown ∙ l.refused bad more b.others is)

by_rest : (lines : List (List ℕ)) (place : ℕ) → (l : IsLeftAt lines place) → (rest : List (List ℕ)) → l.rest ≡ rest →
    (place ≤ length lines + 1) × (place ≤ length lines → BeginText (take place lines) → ⊥)
by_rest lines place l [] is =
    let size : length lines ≡ length l.before = ap length (l.text ∙ ap (λ (z : List (List ℕ)). l.before ++ z) is ∙ append-nil l.before) in
    (omega (arith, l.counted, size), λ within begins. absurd (omega (arith, l.counted, size, within)))
by_rest lines place l (bad ∷ more) is =
    let size : length lines ≡ length l.before + length l.rest = ap length l.text ∙ length-append l.before l.rest in
    (omega (arith, l.counted, size), λ within begins. fits_nowhere lines place l bad more is begins)

pub misfit_at : (bytes : List ℕ) (place : ℕ) → text_read (full_lines bytes) ≡ Err place → IsFirstMisfit bytes place
misfit_at bytes place read =
    let l = left_at (full_lines bytes) place read in
    let b = by_rest (full_lines bytes) place l l.rest refl in
    let back : place - 1 ≡ length l.before = omega (arith, l.counted) in
    record {
      none = λ text. not_both (text_read (full_lines bytes)) text.0 place (text_is_read bytes text.0 text.1) read;
      counted = omega (arith, l.counted);
      within = b.0;
      before = subst (λ (z : List (List ℕ)). BeginText z) (
          sym (ap (λ (k : ℕ). take k (full_lines bytes)) back ∙ ap (take (length l.before)) l.text ∙ take-append_seam l.before l.rest)
          ) l.begins;
      here = b.1;
    }

-- of two misfits neither comes first
not_before : (bytes : List ℕ) (some other : ℕ) → IsFirstMisfit bytes some → IsFirstMisfit bytes other → some < other → ⊥
not_before bytes some other a b less =
    let lines = full_lines bytes in
    let cut : take some (take (other - 1) lines) ≡ take some lines = take-take some (other - 1) lines (omega (arith, less)) in
    let begins = subst (λ (z : List (List ℕ)). BeginText z) (sym (take-append-drop some (take (other - 1) lines))) b.before in
    let fewer = fewer_begin (take some (take (other - 1) lines)) (drop some (take (other - 1) lines)) begins in
    a.here (omega (arith, less, b.within)) (subst (λ (z : List (List ℕ)). BeginText z) cut fewer)

one_only : (bytes : List ℕ) (some other : ℕ) → IsFirstMisfit bytes some → IsFirstMisfit bytes other → some ≡ other
one_only bytes some other a b = by_order (cases_order some other)
  where
    by_order : (some ≡ other) ⊎ ((some < other) ⊎ (other < some)) → some ≡ other
    by_order (inl same) = same
    by_order (inr (inl less)) = absurd (not_before bytes some other a b less)
    by_order (inr (inr more)) = absurd (not_before bytes other some b a more)

has_misfit : (bytes : List ℕ) → (IsReportText bytes → ⊥) → (found : Result Report ℕ) → found ≡ text_read (full_lines bytes) → (place : ℕ) × IsFirstMisfit bytes place
has_misfit bytes none (Ok r) is = absurd (none (r, read_is_text bytes r (sym is)))
has_misfit bytes none (Err place) is = (place, misfit_at bytes place (sym is))

same_report : (some other : Report) → ◌≡◌ {A = Result Report ℕ} (Ok some) (Ok other) → some ≡ other
same_report some other same = cc

-- ANY BYTES ARE JUDGED
pub judged : (bytes : List ℕ) → AreJudged bytes
judged bytes = record {
  one_report = λ some other a b. same_report some other (sym (text_is_read bytes some a) ∙ text_is_read bytes other b);
  misfit = (λ m. m.1.none, λ none. has_misfit bytes none (text_read (full_lines bytes)) refl);
  one_misfit = one_only bytes;
}

-- no bytes at all
pub nothing_misfits : IsFirstMisfit [] 1
nothing_misfits = misfit_at [] 1 (ap text_read no_lines)

-- WHAT A READER ANSWERS

pub read_ok : (bytes : List ℕ) (answer : Result Report ReportFault) → Reads answer (text_read (full_lines bytes)) → IfOk answer (λ report. IsTextOf report bytes)
read_ok bytes (Ok report) reads = read_is_text bytes report reads
read_ok bytes (Err fault) reads = tt

pub read_err : (bytes : List ℕ) (answer : Result Report ReportFault) → Reads answer (text_read (full_lines bytes)) → IfErr answer (λ fault. Tells bytes fault)
read_err bytes (Ok report) reads = tt
read_err bytes (Err (Bad place)) reads = misfit_at bytes place reads
read_err bytes (Err NoMemory) reads = tt
