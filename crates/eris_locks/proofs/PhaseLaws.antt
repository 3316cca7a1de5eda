-- The test of two phases is true for equal ones alone.
use Rattle.std.proofs.Common.{◌≡◌, true, refl}
use Rattle.eris_base.specs.declared.ids.Phase.{Phase}
use Rattle.eris_locks.specs.States.{same_phase}

pub same_phase-true : (some other : Phase) → same_phase some other ≡ true → some ≡ other
same_phase-true Phase.Whole Phase.Whole h = refl
same_phase-true Phase.Whole Phase.Prelim h = cc
same_phase-true Phase.Whole Phase.Conclude h = cc
same_phase-true Phase.Prelim Phase.Whole h = cc
same_phase-true Phase.Prelim Phase.Prelim h = refl
same_phase-true Phase.Prelim Phase.Conclude h = cc
same_phase-true Phase.Conclude Phase.Whole h = cc
same_phase-true Phase.Conclude Phase.Prelim h = cc
same_phase-true Phase.Conclude Phase.Conclude h = refl
