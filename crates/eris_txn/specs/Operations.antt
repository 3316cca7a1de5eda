use Rattle.std.specs.Prelude.{ℕ, ◌+◌, ◌%◌, ◌^◌, ◌==◌, Bool, true, false, Option, Some, None, List, [], ◌∷◌, unwrap_or, is_some, if◌then◌else◌}
use Rattle.eris_txn.specs.declared.key.Key.{Key}
use Rattle.eris_txn.specs.declared.op.Op.{Op}
use Rattle.eris_txn.specs.declared.op.Op.TheVariants.{Get, Put, Del, Add, Cas}
use Rattle.eris_txn.specs.declared.op.OpAnswer.{OpAnswer}
use Rattle.eris_txn.specs.declared.op.OpAnswer.TheVariants.{Value, Absent, Done, Yes, No}
use Rattle.eris_txn.specs.Keys.{Values, with_value}

-- the key of an operation
abbrev pub key_of : Op → Key
key_of (Get key) = key
key_of (Put key value) = key
key_of (Del key) = key
key_of (Add key more) = key
key_of (Cas key expected value) = key

-- there is a value, and it is this one
abbrev pub has_value : Option ℕ → ℕ → Bool
has_value None expected = false
has_value (Some value) expected = value == expected

-- the sum modulo 2^64, where an absent value counts as 0
abbrev pub sum_of : Option ℕ → ℕ → ℕ
sum_of before more = (unwrap_or before 0 + more) % 2 ^ 64

-- the value that an operation leaves at its key
abbrev pub left_by : Op → Option ℕ → Option ℕ
left_by (Get key) before = before
left_by (Put key value) before = Some value
left_by (Del key) before = None
left_by (Add key more) before = Some (sum_of before more)
left_by (Cas key expected value) before = if has_value before expected then Some value else before

abbrev pub value_or_absent : Option ℕ → OpAnswer
value_or_absent None = Absent
value_or_absent (Some value) = Value value

abbrev pub yes_or_no : Bool → OpAnswer
yes_or_no true = Yes
yes_or_no false = No

-- what an operation answers, where its key had this value
abbrev pub answered : Op → Option ℕ → OpAnswer
answered (Get key) before = value_or_absent before
answered (Put key value) before = Done
answered (Del key) before = yes_or_no (is_some before)
answered (Add key more) before = Value (sum_of before more)
answered (Cas key expected value) before = yes_or_no (has_value before expected)

-- the values after an operation
abbrev pub after : Op → Values → Values
after op values = with_value (key_of op) (left_by op (values (key_of op))) values

-- the values after operations, one after the other
abbrev pub after_all : List Op → Values → Values
after_all [] values = values
after_all (op ∷ ops) values = after_all ops (after op values)

-- what operations answer, one after the other
abbrev pub answers : List Op → Values → List OpAnswer
answers [] values = []
answers (op ∷ ops) values = answered op (values (key_of op)) ∷ answers ops (after op values)
