-- A TURN KEEPS what the accounts have together, modulo 2^64: a transfer takes from one account what it gives another, and
-- to read changes nothing.
use Rattle.std.proofs.Common.{◌≡◌, ◌≤◌, ◌<◌, ◌⊎◌, inl, inr, ◌+◌, ◌-◌, ◌%◌, ◌^◌, ℕ, Bool, true, false, cond, Option, Some, [], ◌∷◌, refl, sym, ◌∙◌, arith, subst}
use Rattle.eris_txn.specs.declared.op.Op.TheVariants.{Get}
use Rattle.eris_txn.specs.declared.txn.Txn.{Txn}
use Rattle.eris_txn.specs.declared.txn.Txn.TheVariants.{Whole, General}
use Rattle.eris_txn.specs.Keys.{Values, with_value}
use Rattle.eris_txn.specs.Operations.{sum_of}
use Rattle.eris_txn.specs.Plans.{difference_of, guards_hold, settled}
use Rattle.eris_txn.proofs.KeyLaws.{same_key-false}
use Rattle.eris_txn.proofs.ValueLaws.{with_value-kept, with_value-other}
use Rattle.eris_audit.specs.declared.outcome.Outcome.{Outcome}
use Rattle.eris_audit.specs.SerialRun.{left_by_step}
use Rattle.eris_drill.specs.declared.turn.Turn.{Turn}
use Rattle.eris_drill.specs.DrillLines.{account, payee, payer, transfer}
use Rattle.eris_drill.proofs.AccountKeys.{other_side}
use Rattle.eris_law_drill.specs.Banks.{IsDrawn, OnlyAccounts, worth}
use Rattle.eris_law_drill.proofs.Worths.{has, worth_within}

sums : (whole given paid one other amount less more : ℕ) → amount ≤ 100 →
    less ≡ (one + (2 ^ 64 - amount)) % 2 ^ 64 → more ≡ (other + amount) % 2 ^ 64 →
    paid + one ≡ whole + less → given + other ≡ paid + more → given % 2 ^ 64 ≡ whole % 2 ^ 64
sums whole given paid one other amount less more low took gave first second = omega (arith, low, took, gave, first, second)

-- one account pays another
pub pays : (values : Values) (from to amount : ℕ) → from < 16 → to < 16 → amount ≤ 100 → (from ≡ to → ⊥) →
    worth (with_value (account to) (Some (sum_of (with_value (account from) (Some (difference_of (values (account from)) amount)) values (account to)) amount))
    (with_value (account from) (Some (difference_of (values (account from)) amount)) values)) 16 % 2 ^ 64
    ≡ worth values 16 % 2 ^ 64
pays values from to amount some other low apart =
    let less : ℕ = difference_of (values (account from)) amount in
    let between : Values = with_value (account from) (Some less) values in
    let more : ℕ = sum_of (between (account to)) amount in
    let first = worth_within values from less 16 some in
    let second = worth_within between to more 16 other in
    sums (worth values 16) (worth (with_value (account to) (Some more) between) 16) (worth between 16) (has values from) (has between to) amount less more
    low refl refl first second

-- no other key gets a value
pub set_only : (values : Values) (number : ℕ) (value : Option ℕ) → number < 16 → OnlyAccounts values → OnlyAccounts (with_value (account number) value values)
set_only values number value low only key none =
    with_value-other (account number) value values key (same_key-false (account number) key (none number low)) ∙ only key none

-- a turn leaves the values as they are, or the payer pays the payee
pub turn_leaves : (Good : Values → Type 0) (txn : Txn) (outcome : Outcome) (values : Values) (turn : Turn) →
    ((txn ≡ Whole (Get (payer turn) ∷ Get (payee turn) ∷ [])) ⊎ (txn ≡ General (transfer turn))) →
    Good values → Good (settled (transfer turn).settings values) → Good (left_by_step txn outcome values)
turn_leaves Good txn outcome values turn (inl is) kept paid =
    subst (λ (one : Txn). Good (left_by_step one outcome values)) (sym is)
    (subst Good
    (sym (with_value-kept (payee turn) (with_value (payer turn) (values (payer turn)) values) ∙ with_value-kept (payer turn) values))
    kept)
turn_leaves Good txn outcome values turn (inr is) kept paid =
    subst (λ (one : Txn). Good (left_by_step one outcome values)) (sym is) (by_outcome outcome)
  where
    by_guards : (test : Bool) → Good (cond test (settled (transfer turn).settings values) values)
    by_guards true = paid
    by_guards false = kept

    by_outcome : (known : Outcome) → Good (left_by_step (General (transfer turn)) known values)
    by_outcome Outcome.Done = kept
    by_outcome Outcome.Committed = by_guards (guards_hold (transfer turn).guards values)
    by_outcome Outcome.Aborted = kept
    by_outcome Outcome.Pending = kept

behind : (turn : Turn) → (turn.payer + 1 + turn.distance) % 16 < 16
behind turn = omega arith

-- a transfer keeps the sum
pub transfer_keeps : (values : Values) (turn : Turn) → IsDrawn turn → worth (settled (transfer turn).settings values) 16 % 2 ^ 64 ≡ worth values 16 % 2 ^ 64
unfolding transfer payer payee
transfer_keeps values turn drawn =
    pays values turn.payer ((turn.payer + 1 + turn.distance) % 16) turn.amount drawn.payer (behind turn) drawn.amount (other_side turn drawn.payer drawn.distance)

pub transfer_only : (values : Values) (turn : Turn) → IsDrawn turn → OnlyAccounts values → OnlyAccounts (settled (transfer turn).settings values)
unfolding transfer payer payee
transfer_only values turn drawn only =
    set_only _ ((turn.payer + 1 + turn.distance) % 16) _ (behind turn) (set_only values turn.payer _ drawn.payer only)
