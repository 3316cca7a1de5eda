-- What is written for a verdict, and for bytes that are no report; and the status that goes with a
-- verdict.
use Rattle.std.specs.Prelude.{ℕ, List, [], ◌∷◌, codes}
use Rattle.eris_audit.specs.declared.verdict.Verdict.{Verdict}
use Rattle.eris_audit.specs.declared.verdict.Verdict.TheVariants.{Yes, No}
use Rattle.eris_status.specs.declared.status.Status.{Status}
use Rattle.eris_status.specs.declared.status.Status.TheVariants.{Done, CheckedNo}
use Rattle.eris_words.specs.Decimal.{decimal}
use Rattle.eris_words.specs.Words.{line}

-- `yes`
unfoldable pub yes_text : List ℕ
yes_text = line (codes "yes" ∷ [])

-- `no: rule R line N`
unfoldable pub broken_text : ℕ → ℕ → List ℕ
broken_text rule number = line (codes "no:" ∷ codes "rule" ∷ decimal rule ∷ codes "line" ∷ decimal number ∷ [])

-- `bad report: line L`
unfoldable pub bad_report_text : ℕ → List ℕ
bad_report_text number = line (codes "bad" ∷ codes "report:" ∷ codes "line" ∷ decimal number ∷ [])

abbrev pub verdict_text : Verdict → List ℕ
verdict_text Yes = yes_text
verdict_text (No rule number) = broken_text rule number

abbrev pub verdict_status : Verdict → Status
verdict_status Yes = Done
verdict_status (No rule number) = CheckedNo
