-- What a reader answers, which may also run out of memory.
use Rattle.std.specs.Prelude.{◌≡◌, ℕ, ◌-◌, Result, Ok, Err}
use Rattle.eris_codec.specs.declared.fault.DecodeFault.{DecodeFault}
use Rattle.eris_codec.specs.declared.fault.DecodeFault.TheVariants as faults
use Rattle.eris_codec.specs.declared.fault.Stop.{Stop}
use Rattle.eris_codec.specs.declared.fault.Stop.TheVariants as stops
use Rattle.eris_codec.specs.declared.fault.Wrong.{Wrong}
use Rattle.eris_codec.specs.Codecs.{bad}

-- reading gives this fault, unless memory ran out
abbrev pub Stops : {Y : Type 0} → Stop → Result Y Wrong → Type 0
Stops stops.NoMemory read = Unit {0}
Stops (stops.Wrong wrong) read = read ≡ Err wrong

-- what a reader returned, seen by view, is what reading gives, unless memory ran out
abbrev pub Gives : {X Y : Type 0} → (X → Y) → Result X Stop → Result Y Wrong → Type 0
Gives view (Ok x) read = read ≡ Ok (view x)
Gives view (Err stop) read = Stops stop read

-- what was answered to so many bytes is what reading them gives, unless memory ran out; a fault has its place
abbrev pub Answers : {X : Type 0} → Result X DecodeFault → ℕ → Result X Wrong → Type 0
Answers (Ok x) len read = read ≡ Ok x
Answers (Err faults.NoMemory) len read = Unit {0}
Answers (Err (faults.Bad at reason)) len read = (left : ℕ) × (read ≡ bad left reason) × (at ≡ len - left)
