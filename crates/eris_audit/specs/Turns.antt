use Rattle.std.specs.Prelude.{ℕ, suc, max, nat_le, Bool, true, Option, Some, None, List, [], ◌∷◌}
use Rattle.eris_txn.specs.declared.history.HistoryEvent.{HistoryEvent}
use Rattle.eris_txn.specs.declared.history.HistoryEvent.TheVariants.{Submit, Answer as Answered}
use Rattle.eris_audit.specs.Lines.{Line}
use Rattle.eris_audit.specs.Tables.{place_in}

-- the number of a place, from 1, or 0 where there is none
abbrev pub number_of : Option ℕ → ℕ
number_of None = 0
number_of (Some place) = suc place

-- the number of an event's line, where it is an answer, or 0
abbrev pub number_answered : List Line → HistoryEvent → ℕ
number_answered lines (Answered id answer) = number_of (place_in lines id)
number_answered lines event = 0

-- the greatest number of a line that the events answered, or 0 where they answered none
abbrev pub greatest_answered : List Line → List HistoryEvent → ℕ
greatest_answered lines [] = 0
greatest_answered lines (event ∷ history) = max (number_answered lines event) (greatest_answered lines history)

-- the line at this place stands behind the lines up to the greatest number
abbrev pub is_behind : Option ℕ → ℕ → Bool
is_behind None greatest = true
is_behind (Some place) greatest = nat_le greatest place

-- an event that submits an id doesn't find a line answered that isn't before its own
abbrev pub is_in_turn : List Line → ℕ → HistoryEvent → Bool
is_in_turn lines greatest (Submit id txn) = is_behind (place_in lines id) greatest
is_in_turn lines greatest event = true
