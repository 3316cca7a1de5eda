use Rattle.std.specs.Prelude.{◌≡◌, ℕ, ⊤}
use Rattle.eris_status.specs.declared.status.Status.{Status}
use Rattle.eris_status.specs.declared.status.Status.TheVariants.{Done, CheckedNo, Usage, BadScript, ReadFault, WriteFault, NoMemory, TooLarge, BadReport}
use Rattle.eris_status.specs.declared.due.Due.{Due}
use Rattle.eris_status.specs.declared.refused.Refused.{Refused}
use Rattle.eris_status.specs.declared.refused.Why.{Why}
use Rattle.eris_status.specs.declared.refused.Why.TheVariants as why
use Rattle.eris_status.specs.Texts.{refusal_text}
use Rattle.eris_words.specs.declared.reason.Reason.{Reason}

-- the number that the program ends with
abbrev pub status_number : Status → ℕ
status_number Done = 0
status_number CheckedNo = 1
status_number Usage = 2
status_number (BadScript line reason) = 3
status_number ReadFault = 4
status_number WriteFault = 5
status_number NoMemory = 6
status_number (TooLarge line) = 7
status_number (BadReport line) = 8

-- the status of a refused line
abbrev pub status_of : ℕ → Why → Status
status_of line (why.Reason reason) = BadScript line reason
status_of line (why.Limit limit) = TooLarge line

-- what holds where the status names a refused line
abbrev pub IfBadScript : Status → (ℕ → Reason → Type 0) → Type 0
IfBadScript Done P = ⊤
IfBadScript CheckedNo P = ⊤
IfBadScript Usage P = ⊤
IfBadScript (BadScript line reason) P = P line reason
IfBadScript ReadFault P = ⊤
IfBadScript WriteFault P = ⊤
IfBadScript NoMemory P = ⊤
IfBadScript (TooLarge line) P = ⊤
IfBadScript (BadReport line) P = ⊤

-- what holds where the status is that of too large an input, or of a line with too large an event
abbrev pub IfTooLarge : Status → (ℕ → Type 0) → Type 0
IfTooLarge Done P = ⊤
IfTooLarge CheckedNo P = ⊤
IfTooLarge Usage P = ⊤
IfTooLarge (BadScript line reason) P = ⊤
IfTooLarge ReadFault P = ⊤
IfTooLarge WriteFault P = ⊤
IfTooLarge NoMemory P = ⊤
IfTooLarge (TooLarge line) P = P line
IfTooLarge (BadReport line) P = ⊤

-- what holds where the status names the first line with which bytes are no report
abbrev pub IfBadReport : Status → (ℕ → Type 0) → Type 0
IfBadReport Done P = ⊤
IfBadReport CheckedNo P = ⊤
IfBadReport Usage P = ⊤
IfBadReport (BadScript line reason) P = ⊤
IfBadReport ReadFault P = ⊤
IfBadReport WriteFault P = ⊤
IfBadReport NoMemory P = ⊤
IfBadReport (TooLarge line) P = ⊤
IfBadReport (BadReport line) P = P line

-- a status with which a text is due, of a word that reads or makes a script
abbrev pub HasText : Status → Type 0
HasText Done = ⊤
HasText CheckedNo = ⊥
HasText Usage = ⊥
HasText (BadScript line reason) = ⊤
HasText ReadFault = ⊥
HasText WriteFault = ⊥
HasText NoMemory = ⊥
HasText (TooLarge line) = ⊤
HasText (BadReport line) = ⊥

-- a status with which a text is due, of the word that judges a report
abbrev pub HasVerdict : Status → Type 0
HasVerdict Done = ⊤
HasVerdict CheckedNo = ⊤
HasVerdict Usage = ⊥
HasVerdict (BadScript line reason) = ⊥
HasVerdict ReadFault = ⊥
HasVerdict WriteFault = ⊥
HasVerdict NoMemory = ⊥
HasVerdict (TooLarge line) = ⊤
HasVerdict (BadReport line) = ⊤

-- the status and the text are those for a refused line
pub record IsRefusal (refused : Refused) (due : Due) : Type 0 where
  pub status : due.status ≡ status_of refused.line refused.why
  pub text : due.text ≡ refusal_text refused.line refused.why
  pub has_text : HasText due.status
