-- HOW MUCH A RUN BEGINS. Transactions and epochs get numbers of 32 bits, so a run may begin fewer than 2^32 of both.
use Rattle.std.specs.Prelude.{ℕ, ◌+◌, Bool, true, false, List, [], ◌∷◌, if◌then◌else◌}
use Rattle.eris_event.specs.declared.event.Event.{Event}

-- the event begins a transaction or an epoch
abbrev pub is_beginning : Event → Bool
is_beginning (Event.Submit client ops) = true
is_beginning (Event.General client plan) = true
is_beginning Event.Replace = true
is_beginning event = false

-- how many of the events do
abbrev pub beginnings : List Event → ℕ
beginnings [] = 0
beginnings (event ∷ events) = (if is_beginning event then 1 else 0) + beginnings events
