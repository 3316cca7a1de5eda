-- THE BANK over one map of values: what its accounts have together, and the transactions that it runs.
use Rattle.std.specs.Prelude.{◌≡◌, ◌≤◌, ◌<◌, ◌⊎◌, ℕ, zero, suc, ◌+◌, None, List, [], ◌∷◌, ◌++◌, unwrap_or}
use Rattle.eris_base.specs.declared.ids.TxnId.{TxnId}
use Rattle.eris_base.specs.Each.{Each}
use Rattle.eris_txn.specs.declared.key.Key.{Key}
use Rattle.eris_txn.specs.declared.op.Op.TheVariants.{Get, Put}
use Rattle.eris_txn.specs.declared.txn.Txn.{Txn}
use Rattle.eris_txn.specs.declared.txn.Txn.TheVariants.{Whole, General}
use Rattle.eris_txn.specs.Keys.{Values}
use Rattle.eris_audit.specs.declared.order_line.OrderLine.{OrderLine}
use Rattle.eris_drill.specs.declared.turn.Turn.{Turn}
use Rattle.eris_drill.specs.DrillLines.{account, payee, payer, transfer}

-- what the accounts below n have together; one without a value has nothing
unfoldable pub worth : Values → ℕ → ℕ
worth values zero = 0
worth values (suc n) = worth values n + unwrap_or (values (account n)) 0

-- no key has a value but the 16 accounts
abbrev pub OnlyAccounts : Values → Type 0
OnlyAccounts values = (key : Key) → ((number : ℕ) → number < 16 → account number ≡ key → ⊥) → values key ≡ None

-- an account gets its first 1000
pub record IsPut (txn : Txn) (number : ℕ) : Type 0 where
  pub known : number < 16
  pub is : txn ≡ Whole (Put (account number) 1000 ∷ [])

-- a turn's draws are in their bounds
pub record IsDrawn (turn : Turn) : Type 0 where
  pub payer : turn.payer < 16
  pub distance : turn.distance < 15
  pub amount : turn.amount ≤ 100

-- what is asked in a turn: two accounts are read, or one pays the other
pub record IsTurn (txn : Txn) : Type 0 where
  pub turn : Turn
  pub drawn : IsDrawn turn
  pub is : (txn ≡ Whole (Get (payer turn) ∷ Get (payee turn) ∷ [])) ⊎ (txn ≡ General (transfer turn))

-- the line of some account's first put
pub record OpensSome (txn : TxnId → Txn) (line : OrderLine) : Type 0 where
  pub number : ℕ
  pub put : IsPut (txn line.id) number

-- among the lines is the first put of this account
abbrev pub Opens : (TxnId → Txn) → ℕ → List OrderLine → Type 0
Opens txn number [] = ⊥
Opens txn number (line ∷ lines) = IsPut (txn line.id) number ⊎ Opens txn number lines

-- A DAY: first the puts, one of each account at least, and then the turns
pub record IsDay (txn : TxnId → Txn) (lines : List OrderLine) : Type 0 where
  pub front : List OrderLine
  pub back : List OrderLine
  pub are : lines ≡ front ++ back
  pub puts : Each (OpensSome txn) front
  pub all : (number : ℕ) → number < 16 → Opens txn number front
  pub turns : Each (λ line. IsTurn (txn line.id)) back
