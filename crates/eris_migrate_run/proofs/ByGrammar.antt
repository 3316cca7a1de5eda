-- The first line of a script of version 1 that isn't read is refused for one of the grammar's own reasons.
use Rattle.std.proofs.Common.{◌≡◌, ℕ, ◌+◌, ◌==◌, Bool, true, false, None, Option, Some, Result, Ok, Err, List, [], ◌∷◌, subst}
use Rattle.std.specs.Prelude.{⊤, IfErr, if◌then◌else◌}
use Rattle.eris_grammar.specs.declared.header.Header.{Header}
use Rattle.eris_grammar.specs.declared.line.Line.{Line}
use Rattle.eris_grammar.specs.Headers.{header_of}
use Rattle.eris_grammar.specs.LineForms.{line_of}
use Rattle.eris_grammar.specs.Scripts.{BadLine}
use Rattle.eris_law_reasons.specs.Reasons.{IsOfGrammar}
use Rattle.eris_migrate.specs.Unread.{header_fault, unless_headless, unread, unread_from, unread_in}
use Rattle.eris_words.specs.Cuts.{lines}
use Rattle.eris_words.specs.declared.reason.Reason.{Reason}
use Rattle.eris_words.specs.declared.reason.Reason.TheVariants as reason

-- the law of the grammar's reasons
pub record GrammarRefuses : Type 0 where
  pub headers : (line : List ℕ) → IfErr (header_of line) IsOfGrammar
  pub lines : (version : ℕ) (line : List ℕ) → IfErr (line_of version line) IsOfGrammar

-- where a line is refused, the grammar refuses it
abbrev pub IfOfGrammar : Option BadLine → Type 0
IfOfGrammar None = ⊤
IfOfGrammar (Some bad) = IsOfGrammar bad.reason

module _ (law : GrammarRefuses) where
  behind_header : (number : ℕ) (texts : List (List ℕ)) → IfOfGrammar (unread_from number texts)
  unfolding unread_from
  behind_header number [] = tt
  behind_header number (text ∷ texts) = by_line (line_of 1 text) (law.lines 1 text) (behind_header (number + 1) texts)
    where
      by_line : (said : Result Line Reason) → IfErr said IsOfGrammar → IfOfGrammar (unread_from (number + 1) texts)
          → IfOfGrammar (elim said [
            | Ok said ↦ unread_from (number + 1) texts
            | Err why ↦ Some (record { line = number; reason = why })
          ])
      by_line (Ok said) h others = others
      by_line (Err why) h others = h

  with_header : (read : Result Header Reason) (texts : List (List ℕ)) → IfErr read IsOfGrammar
      → IfOfGrammar (unless_headless (header_fault read) texts)
  with_header (Ok header) texts h = by_version (header.version == 1)
    where
      by_version : (is : Bool) → IfOfGrammar (unless_headless (if is then None else Some reason.Header) texts)
      by_version true = behind_header 2 texts
      by_version false = tt
  with_header (Err why) texts h = h

  in_lines : (texts : List (List ℕ)) → IfOfGrammar (unread_in texts)
  in_lines [] = tt
  in_lines (first ∷ texts) = with_header (header_of first) texts (law.headers first)

  in_bytes : (bytes : List ℕ) → IfOfGrammar (unread bytes)
  unfolding unread
  in_bytes bytes = in_lines (lines bytes)

  -- THE REASON IS THE GRAMMAR'S
  pub refused_by_grammar : (bytes : List ℕ) (number : ℕ) (why : Reason) → unread bytes ≡ Some (record { line = number; reason = why }) → IsOfGrammar why
  refused_by_grammar bytes number why found = subst IfOfGrammar found (in_bytes bytes)
