-- What is written for the statuses that refuse an input.
use Rattle.std.specs.Prelude.{ℕ, List, [], ◌∷◌, codes}
use Rattle.eris_words.specs.Decimal.{decimal}
use Rattle.eris_words.specs.Reasons.{reason_name}
use Rattle.eris_words.specs.Words.{line}
use Rattle.eris_words.specs.declared.reason.Reason.{Reason}
use Rattle.eris_event.specs.declared.limit.Limit.{Limit}
use Rattle.eris_status.specs.declared.refused.Why.{Why}
use Rattle.eris_status.specs.declared.refused.Why.TheVariants as why
use Rattle.eris_event.specs.Limits.{limit_name}

-- `bad script: line L REASON`
unfoldable pub bad_script_text : ℕ → Reason → List ℕ
bad_script_text number reason = line (codes "bad" ∷ codes "script:" ∷ codes "line" ∷ decimal number ∷ reason_name reason ∷ [])

-- `too large: line L WHAT`
unfoldable pub limit_text : ℕ → Limit → List ℕ
limit_text number limit = line (codes "too" ∷ codes "large:" ∷ codes "line" ∷ decimal number ∷ limit_name limit ∷ [])

-- `too large: input`
unfoldable pub too_large_text : List ℕ
too_large_text = line (codes "too" ∷ codes "large:" ∷ codes "input" ∷ [])

abbrev pub refusal_text : ℕ → Why → List ℕ
refusal_text number (why.Reason reason) = bad_script_text number reason
refusal_text number (why.Limit limit) = limit_text number limit
