-- The journal of a coordinator on a disk: how each input is written, and which bytes stand for a list of inputs.
use Rattle.std.specs.Prelude.{◌≡◌, ◌≢◌, ℕ, ◌≤◌, Bool, true, List, [], ◌∷◌, ◌++◌, length, ⊤}
use Rattle.std.specs.Int.{w32, to_be_bytes}
use Rattle.std.specs.List.{flat_map, AllByRecursion}
use Rattle.eris_msg.specs.Spellings.{spelling, message_fits}
use Rattle.eris_rules.specs.declared.coord_input.CoordInput.{CoordInput}
use Rattle.eris_rules.specs.declared.coord_input.CoordInput.TheVariants as inputs

-- the body of an input's record: a byte that tells its kind, and a message's spelling
abbrev pub body_of : CoordInput → List ℕ
body_of (inputs.Message message) = 0 ∷ spelling message
body_of inputs.Nudge = 1 ∷ []

-- the length of the longest body
abbrev pub longest_body : ℕ
longest_body = 67108861

-- the fields of a message are in their ranges
abbrev pub in_range : CoordInput → Bool
in_range (inputs.Message message) = message_fits message
in_range inputs.Nudge = true

-- what can be written to a journal
pub record HasRecord (input : CoordInput) : Type 0 where
  pub ranged : in_range input ≡ true
  pub short : length (body_of input) ≤ longest_body

-- what stands behind the gate: the body's length in four bytes, the greatest first, and the body
abbrev pub behind_gate : CoordInput → List ℕ
behind_gate input = to_be_bytes w32 (length (body_of input)) ++ body_of input

-- an open gate, and what stands behind it
abbrev pub record_of : CoordInput → List ℕ
record_of input = 1 ∷ behind_gate input

abbrev pub records_of : List CoordInput → List ℕ
records_of inputs = flat_map record_of inputs

-- the records and a closed gate
abbrev pub journal_of : List CoordInput → List ℕ
journal_of inputs = records_of inputs ++ 0 ∷ []

abbrev pub journal_length : List CoordInput → ℕ
journal_length inputs = length (journal_of inputs)

-- the bytes have the records, then a gate that isn't open, then anything
pub record IsImage (inputs : List CoordInput) (bytes : List ℕ) : Type 0 where
  pub gate : ℕ
  pub rest : List ℕ
  pub closed : gate ≢ 1
  pub whole : bytes ≡ records_of inputs ++ gate ∷ rest
  pub each : AllByRecursion HasRecord inputs

-- no gate stands here, or an open one behind which no whole record stands
abbrev pub IsBroken : List ℕ → Type 0
IsBroken [] = ⊤
IsBroken (gate ∷ rest) = (gate ≡ 1) × ((input : CoordInput) (later : List ℕ) → HasRecord input → gate ∷ rest ≡ record_of input ++ later → ⊥)

-- at this place stands the gate of the first record that isn't whole
pub record IsDamagedAt (at : ℕ) (bytes : List ℕ) : Type 0 where
  pub inputs : List CoordInput
  pub rest : List ℕ
  pub whole : bytes ≡ records_of inputs ++ rest
  pub each : AllByRecursion HasRecord inputs
  pub place : at ≡ length (records_of inputs)
  pub broken : IsBroken rest
