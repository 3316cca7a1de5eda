-- The lines of a script, read one by one.
use Rattle.std.proofs.Common.{◌≡◌, ℕ, ◌+◌, ◌<◌, Option, Some, None, Result, Ok, Err, List, [], ◌∷◌, length, refl, sym, ap, subst, ◌∙◌, arith}
use Rattle.eris_grammar.specs.declared.header.Header.{Header}
use Rattle.eris_grammar.specs.declared.line.Line.{Line}
use Rattle.eris_words.specs.declared.reason.Reason.{Reason}
use Rattle.eris_words.specs.declared.reason.Reason.TheVariants as reason
use Rattle.eris_words.specs.Cuts.{cut_lines, lines, words}
use Rattle.eris_grammar.specs.Headers.{header_of}
use Rattle.eris_grammar.specs.LineForms.{line_of}
use Rattle.eris_grammar.specs.Scripts.{BadLine}
use Rattle.eris_migrate.specs.declared.fault.MigrateFault.{MigrateFault}
use Rattle.eris_migrate.specs.declared.fault.MigrateFault.TheVariants as fault
use Rattle.eris_migrate.specs.Migrations.{Refuses}
use Rattle.eris_migrate.specs.Unread.{header_fault, unless_headless, unread, unread_from, unread_in}

abbrev by_line : ℕ → Option BadLine → Result Line Reason → Option BadLine
by_line number later (Ok said) = later
by_line number later (Err why) = Some (record { line = number; reason = why })

-- a line that is read isn't the first that isn't
pub read_on : (number : ℕ) (text : List ℕ) (texts : List (List ℕ)) → unread_from number (text ∷ []) ≡ None →
    unread_from number (text ∷ texts) ≡ unread_from (number + 1) texts
unfolding unread_from
read_on number text texts read = of_read (line_of 1 text) read
  where
    of_read : (r : Result Line Reason) → by_line number None r ≡ None → by_line number (unread_from (number + 1) texts) r ≡ unread_from (number + 1) texts
    of_read (Ok said) none = refl
    of_read (Err why) none = absurd cc

pub stop_here : (number : ℕ) (text : List ℕ) (texts : List (List ℕ)) (stop : MigrateFault) → Refuses (unread_from number (text ∷ [])) stop →
    Refuses (unread_from number (text ∷ texts)) stop
unfolding unread_from
stop_here number text texts fault.NoMemory refused = tt
stop_here number text texts (fault.Bad line why) refused = of_read (line_of 1 text) refused
  where
    of_read : (r : Result Line Reason) → by_line number None r ≡ Some (record { line = line; reason = why }) →
        by_line number (unread_from (number + 1) texts) r ≡ Some (record { line = line; reason = why })
    of_read (Ok said) found = absurd cc
    of_read (Err other) found = found

-- THE HEADER

headless : (found : Option Reason) (texts : List (List ℕ)) (stop : MigrateFault) → Refuses (unless_headless found []) stop → Refuses (unless_headless found texts) stop
unfolding unread_from
headless found texts fault.NoMemory refused = tt
headless None texts (fault.Bad line why) refused = absurd cc
headless (Some other) texts (fault.Bad line why) refused = refused

no_header : header_fault (header_of []) ≡ Some reason.Header
unfolding header_of words
no_header = refl

no_line : unread [] ≡ Some (record { line = 1; reason = reason.Header })
unfolding unread cut_lines
no_line = refl

pub header_refused : (bytes first rest : List ℕ) (stop : MigrateFault) → (0 < length bytes → lines bytes ≡ first ∷ lines rest) → (bytes ≡ [] → first ≡ []) →
    Refuses (unless_headless (header_fault (header_of first)) []) stop → Refuses (unread bytes) stop
unfolding unread
header_refused [] first rest stop some none refused =
    let same : header_fault (header_of first) ≡ Some reason.Header = ap (λ (z : List ℕ). header_fault (header_of z)) (none refl) ∙ no_header in
    let told : Refuses (unless_headless (Some reason.Header) []) stop = subst (λ (z : Option Reason). Refuses (unless_headless z []) stop) same refused in
    subst (λ (z : Option BadLine). Refuses z stop) (sym no_line) told
header_refused (byte ∷ bytes) first rest stop some none refused =
    subst (λ (z : List (List ℕ)). Refuses (unread_in z) stop) (sym (some (omega arith))) (headless (header_fault (header_of first)) (lines rest) stop refused)

pub header_read : (bytes first rest : List ℕ) → (0 < length bytes → lines bytes ≡ first ∷ lines rest) → (bytes ≡ [] → first ≡ []) →
    header_fault (header_of first) ≡ None → (lines bytes ≡ first ∷ lines rest) × (unread bytes ≡ unread_from 2 (lines rest))
unfolding unread
header_read [] first rest some none read =
    let same : header_fault (header_of first) ≡ Some reason.Header = ap (λ (z : List ℕ). header_fault (header_of z)) (none refl) ∙ no_header in
    absurd cc
header_read (byte ∷ bytes) first rest some none read =
    let cut : lines (byte ∷ bytes) ≡ first ∷ lines rest = some (omega arith) in
    (cut, ap unread_in cut ∙ ap (λ (found : Option Reason). unless_headless found (lines rest)) read)
