-- How a report is read from its lines, one by one.
use Rattle.std.specs.Prelude.{◌≡◌, ⊤, ℕ, ◌+◌, Bool, Option, Some, None, Result, Ok, Err, List, [], ◌∷◌, bytes_eq, codes, if◌then◌else◌}
use Rattle.eris_base.specs.ConfigLimits.{ConfigValue}
use Rattle.eris_event.specs.declared.report.Report.{Report}
use Rattle.eris_words.specs.declared.reason.Reason.{Reason}
use Rattle.eris_words.specs.declared.reason.Reason.TheVariants.{End}
use Rattle.eris_words.specs.Cuts.{words}
use Rattle.eris_words.specs.Forms.{◌>>=◌}
use Rattle.eris_check.specs.declared.draft.Draft.{Draft}
use Rattle.eris_check.specs.declared.fault.ReportFault.{ReportFault}
use Rattle.eris_check.specs.declared.fault.ReportFault.TheVariants.{Bad, NoMemory}
use Rattle.eris_check.specs.Drafts.{begun, is_whole, with_line}
use Rattle.eris_check.specs.FullLines.{text_of}
use Rattle.eris_check.specs.ReportForms.{config_of, line_of}

-- the words of a line; none where no LF ends it
abbrev pub words_of : Option (List ℕ) → Result (List (List ℕ)) Reason
words_of (Some text) = Ok (words text)
words_of None = Err End

-- `eris report 1`
abbrev pub is_title : List ℕ → Bool
is_title line = bytes_eq line (codes "eris report 1\n")

abbrev pub config_in : List ℕ → Result ConfigValue Reason
config_in line = words_of (text_of line) >>= config_of

-- a draft with one more line
abbrev pub draft_with : Draft → List ℕ → Result Draft Reason
draft_with draft line = words_of (text_of line) >>= λ words. line_of words >>= with_line draft

-- the lines behind the config, of which the first has this number; or the number of the first that doesn't fit
unfoldable pub body_read : ℕ → Draft → List (List ℕ) → Result Report ℕ
body_read number draft [] = if is_whole draft.stage then Ok draft.report else Err number
body_read number draft (line ∷ lines) = elim (draft_with draft line) [
  | Ok next ↦ body_read (number + 1) next lines
  | Err why ↦ Err number
]

abbrev pub behind_title : List (List ℕ) → Result Report ℕ
behind_title [] = Err 2
behind_title (line ∷ lines) = elim (config_in line) [
  | Ok config ↦ body_read 3 (begun config) lines
  | Err why ↦ Err 2
]

abbrev pub text_read : List (List ℕ) → Result Report ℕ
text_read [] = Err 1
text_read (line ∷ lines) = if is_title line then behind_title lines else Err 1

-- what a reader answered is what reading gives, unless memory ran out
abbrev pub Reads : {X : Type 0} → Result X ReportFault → Result X ℕ → Type 0
Reads (Ok x) read = read ≡ Ok x
Reads (Err (Bad line)) read = read ≡ Err line
Reads (Err NoMemory) read = ⊤
