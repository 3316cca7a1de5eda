-- What is told of an event before it happens.
use Rattle.std.specs.Prelude.{◌≡◌, ⊤, Bool, true, false, Result, Ok, Err, Option, Some, None}
use Rattle.eris_event.specs.declared.refusal.Refusal.{Refusal}
use Rattle.eris_event.specs.declared.refusal.Refusal.TheVariants as refusals
use Rattle.eris_network.specs.declared.send_fault.SendFault.{SendFault}
use Rattle.eris_network.specs.declared.send_fault.SendFault.TheVariants as faults

-- a cause, unless memory ran out
abbrev pub IsTold : Option Refusal → Refusal → Type 0
IsTold cause refusals.NoMemory = ⊤
IsTold cause told = cause ≡ Some told

-- whether there is a cause
abbrev pub Tells : Option Refusal → Result (Unit {0}) Refusal → Type 0
Tells cause (Ok done) = cause ≡ None
Tells cause (Err told) = IsTold cause told

-- a fault of the network as a refusal
abbrev pub refusal_of : SendFault → Refusal
refusal_of faults.Packets = refusals.Packets
refusal_of faults.Bytes = refusals.Bytes
refusal_of faults.NoMemory = refusals.NoMemory

-- a limit, or want of memory
abbrev pub is_end : Refusal → Bool
is_end refusals.Packets = true
is_end refusals.Bytes = true
is_end refusals.NoMemory = true
is_end cause = false
