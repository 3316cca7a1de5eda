-- Which answers a half of a transaction can have got, by its phase and how many items the shard has of it.
use Rattle.std.specs.Prelude.{ℕ, Bool, true, false, ◌==◌, length}
use Rattle.eris_base.specs.declared.ids.Phase.{Phase}
use Rattle.eris_txn.specs.declared.answer.Answer.{Answer}

abbrev pub fits_half : Phase → ℕ → Answer → Bool
fits_half Phase.Whole count (Answer.Ops answers) = length answers == count
fits_half Phase.Prelim count (Answer.Values values) = length values == count
fits_half Phase.Prelim count Answer.Aborted = true
fits_half Phase.Conclude count Answer.Committed = true
fits_half Phase.Conclude count Answer.Aborted = true
fits_half phase count answer = false
