-- The lines of a report, read one by one.
use Rattle.std.proofs.Common.{◌≡◌, ℕ, ◌+◌, true, false, cond, Result, Ok, Err, List, [], ◌∷◌, sym, ap, ◌∙◌}
use Rattle.eris_event.specs.declared.report.Report.{Report}
use Rattle.eris_words.specs.declared.reason.Reason.{Reason}
use Rattle.eris_check.specs.declared.draft.Draft.{Draft}
use Rattle.eris_check.specs.Drafts.{is_whole}
use Rattle.eris_check.specs.FullLines.{full_lines}
use Rattle.eris_check.specs.TextReading.{body_read, draft_with}
use Rattle.eris_check.proofs.FullLineLaws.{no_lines}

abbrev by_draft : ℕ → List (List ℕ) → Result Draft Reason → Result Report ℕ
by_draft number lines read = elim read [
  | Ok next ↦ body_read (number + 1) next lines
  | Err why ↦ Err number
]

-- one more line
pub body_goes_on : (number : ℕ) (draft next : Draft) (lines more : List (List ℕ)) (first : List ℕ) (total : Result Report ℕ) →
    lines ≡ first ∷ more → draft_with draft first ≡ Ok next → body_read number draft lines ≡ total → body_read (number + 1) next more ≡ total
unfolding body_read
body_goes_on number draft next lines more first total cut is so_far =
    sym (ap (by_draft number more) is) ∙ sym (ap (body_read number draft) cut) ∙ so_far

-- a line that doesn't fit
pub body_refused : (number : ℕ) (draft : Draft) (lines more : List (List ℕ)) (first : List ℕ) (why : Reason) (total : Result Report ℕ) →
    lines ≡ first ∷ more → draft_with draft first ≡ Err why → body_read number draft lines ≡ total → total ≡ Err number
unfolding body_read
body_refused number draft lines more first why total cut is so_far =
    sym so_far ∙ ap (body_read number draft) cut ∙ ap (by_draft number more) is

at_end : (number : ℕ) (draft : Draft) (bytes : List ℕ) (total : Result Report ℕ) → bytes ≡ [] → body_read number draft (full_lines bytes) ≡ total →
    total ≡ cond (is_whole draft.stage) (Ok draft.report) (Err number)
unfolding body_read
at_end number draft bytes total none so_far =
    sym so_far ∙ ap (λ (z : List ℕ). body_read number draft (full_lines z)) none ∙ ap (body_read number draft) no_lines

-- the end of the bytes
pub body_whole : (number : ℕ) (draft : Draft) (bytes : List ℕ) (total : Result Report ℕ) → bytes ≡ [] → is_whole draft.stage ≡ true →
    body_read number draft (full_lines bytes) ≡ total → total ≡ Ok draft.report
body_whole number draft bytes total none whole so_far =
    at_end number draft bytes total none so_far ∙ ap (λ test. cond test (Ok draft.report) (Err number)) whole

pub body_short : (number : ℕ) (draft : Draft) (bytes : List ℕ) (total : Result Report ℕ) → bytes ≡ [] → is_whole draft.stage ≡ false →
    body_read number draft (full_lines bytes) ≡ total → total ≡ Err number
body_short number draft bytes total none short so_far =
    at_end number draft bytes total none so_far ∙ ap (λ test. cond test (Ok draft.report) (Err number)) short
