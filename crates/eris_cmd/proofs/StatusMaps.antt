-- What a status says of its line, carried over to what follows from it.
use Rattle.std.specs.Prelude.{ℕ}
use Rattle.eris_words.specs.declared.reason.Reason.{Reason}
use Rattle.eris_status.specs.declared.status.Status.{Status}
use Rattle.eris_status.specs.declared.status.Status.TheVariants.{Done, CheckedNo, Usage, BadScript, ReadFault, WriteFault, NoMemory, TooLarge, BadReport}
use Rattle.eris_status.specs.Statuses.{HasText, HasVerdict, IfBadReport, IfBadScript, IfTooLarge}

pub on_bad_script : {P Q : ℕ → Reason → Type 0} (status : Status) → ((line : ℕ) (reason : Reason) → P line reason → Q line reason) → IfBadScript status P → IfBadScript status Q
on_bad_script Done gives says = tt
on_bad_script CheckedNo gives says = tt
on_bad_script Usage gives says = tt
on_bad_script (BadScript line reason) gives says = gives line reason says
on_bad_script ReadFault gives says = tt
on_bad_script WriteFault gives says = tt
on_bad_script NoMemory gives says = tt
on_bad_script (TooLarge line) gives says = tt
on_bad_script (BadReport line) gives says = tt

pub on_too_large : {P Q : ℕ → Type 0} (status : Status) → ((line : ℕ) → P line → Q line) → IfTooLarge status P → IfTooLarge status Q
on_too_large Done gives says = tt
on_too_large CheckedNo gives says = tt
on_too_large Usage gives says = tt
on_too_large (BadScript line reason) gives says = tt
on_too_large ReadFault gives says = tt
on_too_large WriteFault gives says = tt
on_too_large NoMemory gives says = tt
on_too_large (TooLarge line) gives says = gives line says
on_too_large (BadReport line) gives says = tt

pub on_bad_report : {P Q : ℕ → Type 0} (status : Status) → ((line : ℕ) → P line → Q line) → IfBadReport status P → IfBadReport status Q
on_bad_report Done gives says = tt
on_bad_report CheckedNo gives says = tt
on_bad_report Usage gives says = tt
on_bad_report (BadScript line reason) gives says = tt
on_bad_report ReadFault gives says = tt
on_bad_report WriteFault gives says = tt
on_bad_report NoMemory gives says = tt
on_bad_report (TooLarge line) gives says = tt
on_bad_report (BadReport line) gives says = gives line says

-- ---- what comes of some commands alone
pub never_bad_script : (P : ℕ → Reason → Type 0) (status : Status) → IfBadScript status (λ line reason. ⊥) → IfBadScript status P
never_bad_script P status never = on_bad_script status (λ line reason says. absurd says) never

pub text_is_no_report : (P : ℕ → Type 0) (status : Status) → HasText status → IfBadReport status P
text_is_no_report P Done has = tt
text_is_no_report P CheckedNo has = tt
text_is_no_report P Usage has = tt
text_is_no_report P (BadScript line reason) has = tt
text_is_no_report P ReadFault has = tt
text_is_no_report P WriteFault has = tt
text_is_no_report P NoMemory has = tt
text_is_no_report P (TooLarge line) has = tt
text_is_no_report P (BadReport line) has = absurd has

pub verdict_is_no_script : (P : ℕ → Reason → Type 0) (status : Status) → HasVerdict status → IfBadScript status P
verdict_is_no_script P Done has = tt
verdict_is_no_script P CheckedNo has = tt
verdict_is_no_script P Usage has = tt
verdict_is_no_script P (BadScript line reason) has = absurd has
verdict_is_no_script P ReadFault has = tt
verdict_is_no_script P WriteFault has = tt
verdict_is_no_script P NoMemory has = tt
verdict_is_no_script P (TooLarge line) has = tt
verdict_is_no_script P (BadReport line) has = tt
