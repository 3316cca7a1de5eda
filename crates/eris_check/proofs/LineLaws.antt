-- A line of a report is read exactly where it is the text of something that it says, in range; and
-- a report's bytes are cut behind it.
use Rattle.std.proofs.Common.{◌≡◌, ◌∙◌, ◌&&◌, ◌≤◌, ℕ, Bool, true, false, cond, nat_le, codes, Option, Some, None, Ok, Err, List, [], ◌∷◌, ◌++◌, refl, sym, ap, subst, append_assoc, arith, lit<}
use Rattle.std.specs.List.{join_with_byte}
use Rattle.std.proofs.lemmas.Bool.Decides.{nat_tests}
use Rattle.std.proofs.lemmas.List.Splits.{join_with_byte-slice_split}
use Rattle.eris_base.specs.ConfigLimits.{ConfigValue}
use Rattle.eris_grammar.specs.Fields.{number}
use Rattle.eris_grammar.proofs.FieldLaws.{is_number}
use Rattle.eris_report.specs.HistoryText.{event_words}
use Rattle.eris_report.specs.ReportText.{config_words}
use Rattle.eris_txn.specs.declared.history.HistoryEvent.{HistoryEvent}
use Rattle.eris_txn.specs.declared.history.HistoryEvent.TheVariants as event
use Rattle.eris_txn.specs.declared.txn.Txn.TheVariants.{Whole, General}
use Rattle.eris_words.specs.declared.reason.Reason.TheVariants as reason
use Rattle.eris_words.specs.Cuts.{words}
use Rattle.eris_words.specs.Decimal.{decimal}
use Rattle.eris_words.specs.Forms.{◌>>=◌, expect, pair, whole}
use Rattle.eris_words.specs.Words.{line}
use Rattle.eris_words.proofs.FormLaws.{IsForm, bind_ok, expect_ok, is_pair, ok_is, whole_again, whole_takes}
use Rattle.eris_words.proofs.SplitLaws.{words_joined}
use Rattle.eris_check.specs.declared.report_line.ReportLine.{ReportLine}
use Rattle.eris_check.specs.declared.report_line.ReportLine.TheVariants as says
use Rattle.eris_check.specs.FullLines.{full_lines, text_of}
use Rattle.eris_check.specs.ReportForms.{config_of, if_config, is_config, line_of, sizes}
use Rattle.eris_check.specs.ReportLines.{fits_line, line_words}
use Rattle.eris_check.specs.TextReading.{config_in, words_of}
use Rattle.eris_check.proofs.ConfigSteps.{limits_of}
use Rattle.eris_check.proofs.FullLineLaws.{full_text, text_again, text_only}
use Rattle.eris_check.proofs.LineReadLaws.{line_again, line_takes, line_visible}
use Rattle.eris_check.proofs.VisibleLaws.{all_visible, joined_inner, more_visible, number_visible, one_visible, words_plain}

-- A LINE AND ITS WORDS

-- the words of a line are its text, joined
words_joined_again : (text : List ℕ) → join_with_byte 32 (words text) ≡ text
unfolding words
words_joined_again text = join_with_byte-slice_split 32 text

found_only : (o : Option (List ℕ)) (found : List (List ℕ)) → words_of o ≡ Ok found → (text : List ℕ) × (o ≡ Some text) × (words text ≡ found)
found_only (Some text) found read = (text, refl, ok_is (words text) found read)
found_only None found read = absurd cc

-- bytes with words are their line
pub line_only : (bytes : List ℕ) (found : List (List ℕ)) → words_of (text_of bytes) ≡ Ok found → bytes ≡ line found
line_only bytes found read =
    let f = found_only (text_of bytes) found read in
    text_only bytes f.0 f.1
    ∙ ap (λ (z : List ℕ). z ++ 10 ∷ []) (sym (words_joined_again f.0))
    ∙ ap line f.2

abbrev pub has_word : List (List ℕ) → Bool
has_word [] = false
has_word (word ∷ more) = true

-- a line has the words that it was made of
pub line_words_again : (all : List (List ℕ)) → has_word all ≡ true → all_visible all ≡ true → words_of (text_of (line all)) ≡ Ok all
line_words_again [] some seen = absurd cc
line_words_again (word ∷ more) some seen =
    ap words_of (text_again (join_with_byte 32 (word ∷ more)))
    ∙ ap (λ (z : List (List ℕ)). Ok z) (words_joined word more (words_plain (word ∷ more) seen))

-- a text is cut behind it
pub line_cut_off : (all : List (List ℕ)) (rest : List ℕ) → all_visible all ≡ true → full_lines (line all ++ rest) ≡ line all ∷ full_lines rest
line_cut_off all rest seen =
    ap full_lines (append_assoc (join_with_byte 32 all) (10 ∷ []) rest)
    ∙ full_text (join_with_byte 32 all) rest (joined_inner all seen)

-- THE LINES BEHIND THE CONFIG

event_has_word : (e : HistoryEvent) → has_word (event_words e) ≡ true
event_has_word (event.Submit i (Whole ops)) = refl
event_has_word (event.Submit i (General plan)) = refl
event_has_word (event.Read i values) = refl
event_has_word (event.Answer i a) = refl
event_has_word (event.Told c i a) = refl

line_has_word : (v : ReportLine) → has_word (line_words v) ≡ true
line_has_word (says.Event e) = event_has_word e
line_has_word (says.Order entry) = refl
line_has_word (says.Replica r) = refl
line_has_word (says.Coordinator c) = refl
line_has_word (says.Sent n) = refl
line_has_word says.End = refl

-- what is read is the text of what was read
pub line_sound : (bytes : List ℕ) (v : ReportLine) → (words_of (text_of bytes) >>= line_of) ≡ Ok v → (fits_line v ≡ true) × (bytes ≡ line (line_words v))
line_sound bytes v read =
    let a = bind_ok (words_of (text_of bytes)) line_of v read in
    let t = line_takes a.0 v a.2 in
    (t.fits, line_only bytes a.0 a.1 ∙ ap line t.spelled)

-- and what is in range is read of its text
pub line_complete : (v : ReportLine) → fits_line v ≡ true → (words_of (text_of (line (line_words v))) >>= line_of) ≡ Ok v
line_complete v fits = ap (λ r. r >>= line_of) (line_words_again (line_words v) (line_has_word v) (line_visible v fits)) ∙ line_again v fits

pub line_cut : (v : ReportLine) (rest : List ℕ) → fits_line v ≡ true → full_lines (line (line_words v) ++ rest) ≡ line (line_words v) ∷ full_lines rest
line_cut v rest fits = line_cut_off (line_words v) rest (line_visible v fits)

-- THE CONFIG

is_sizes : IsForm sizes
unfolding sizes
is_sizes = is_pair (number 255) (pair (number 255) (number 255)) (is_number 255 (lit< tt)) (is_pair (number 255) (number 255) (is_number 255 (lit< tt)) (is_number 255 (lit< tt)))

abbrev sized : ℕ × (ℕ × ℕ) → ConfigValue
sized s = record { shards = s.0; f = s.1.0; clients = s.1.1 }

if_is : (found c : ConfigValue) → if_config found ≡ Ok c → (found ≡ c) × (is_config found ≡ true)
if_is found c read = of_test (is_config found) refl read
  where
    of_test : (test : Bool) → test ≡ is_config found → cond test (Ok found) (Err reason.Number) ≡ Ok c → (found ≡ c) × (is_config found ≡ true)
    of_test true is same = (ok_is found c same, sym is)
    of_test false is same = absurd cc

config_takes : (all : List (List ℕ)) (c : ConfigValue) → config_of all ≡ Ok c → (is_config c ≡ true) × (all ≡ config_words c)
unfolding config_of sizes number config_words
config_takes all c read =
    let a = bind_ok (expect (codes "config") all) (λ behind. whole sizes behind >>= λ s. if_config (sized s)) c read in
    let b = bind_ok (whole sizes a.0) (λ s. if_config (sized s)) c a.2 in
    let t = whole_takes sizes is_sizes a.0 b.0 b.1 in
    let i = if_is (sized b.0) c b.2 in
    let made : (is_config (sized b.0) ≡ true) × (all ≡ config_words (sized b.0)) =
    (i.1, expect_ok (codes "config") all a.0 a.1 ∙ ap (λ (z : List (List ℕ)). codes "config" ∷ z) t.0) in
    subst (λ (z : ConfigValue). (is_config z ≡ true) × (all ≡ config_words z)) i.0 made

size_fits : (n limit : ℕ) → limit ≤ 255 → n ≤ limit → nat_le n 255 ≡ true
size_fits n limit few low = grind (arith, nat_tests)

-- each size is written in a byte
record Sizes (c : ConfigValue) : Type 0 where
  shards : nat_le c.shards 255 ≡ true
  f : nat_le c.f 255 ≡ true
  clients : nat_le c.clients 255 ≡ true

sizes_of : (c : ConfigValue) → is_config c ≡ true → Sizes c
sizes_of c fits =
    let limits = limits_of c fits in
    record {
      shards = size_fits c.shards 64 (omega arith) limits.few_shards;
      f = size_fits c.f 3 (omega arith) limits.few_faults;
      clients = size_fits c.clients 128 (omega arith) limits.few_clients;
    }

three : (a b c : Bool) → a ≡ true → b ≡ true → c ≡ true → (a && (b && c)) ≡ true
three a b c one two last = rw (one, two, last) refl

config_again : (c : ConfigValue) → is_config c ≡ true → config_of (config_words c) ≡ Ok c
unfolding config_of sizes number config_words
config_again c fits =
    let small = sizes_of c fits in
    ap (λ r. ◌>>=◌ {B = ConfigValue} r (λ s. if_config (sized s)))
    (whole_again sizes is_sizes (c.shards, (c.f, c.clients)) (three (nat_le c.shards 255) (nat_le c.f 255) (nat_le c.clients 255) small.shards small.f small.clients))
    ∙ ap (λ test. cond test (Ok c) (Err reason.Number)) fits

config_visible : (c : ConfigValue) → is_config c ≡ true → all_visible (config_words c) ≡ true
unfolding config_words
config_visible c fits =
    let small = sizes_of c fits in
    more_visible (decimal c.shards) (decimal c.f ∷ decimal c.clients ∷ []) (number_visible 255 c.shards (lit< tt) small.shards)
    (more_visible (decimal c.f) (decimal c.clients ∷ []) (number_visible 255 c.f (lit< tt) small.f) (one_visible (decimal c.clients) (number_visible 255 c.clients (lit< tt) small.clients)))

config_has_word : (c : ConfigValue) → has_word (config_words c) ≡ true
unfolding config_words
config_has_word c = refl

pub config_sound : (bytes : List ℕ) (c : ConfigValue) → config_in bytes ≡ Ok c → (is_config c ≡ true) × (bytes ≡ line (config_words c))
config_sound bytes c read =
    let a = bind_ok (words_of (text_of bytes)) config_of c read in
    let t = config_takes a.0 c a.2 in
    (t.0, line_only bytes a.0 a.1 ∙ ap line t.1)

pub config_complete : (c : ConfigValue) → is_config c ≡ true → config_in (line (config_words c)) ≡ Ok c
config_complete c fits = ap (λ r. r >>= config_of) (line_words_again (config_words c) (config_has_word c) (config_visible c fits)) ∙ config_again c fits

pub config_cut : (c : ConfigValue) (rest : List ℕ) → is_config c ≡ true → full_lines (line (config_words c) ++ rest) ≡ line (config_words c) ∷ full_lines rest
config_cut c rest fits = line_cut_off (config_words c) rest (config_visible c fits)
