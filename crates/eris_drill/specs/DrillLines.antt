-- THE DRILL: a day at a bank of 16 accounts on 4 shards, each of 3 replicas, with 8 clients. At its opening each account
-- gets 1000. In each turn a client transfers between two accounts, or reads them; packets are lost; at noon a learner
-- crashes. At the closing each transaction of the turns is asked for twice more.
use Rattle.std.specs.Prelude.{ℕ, zero, suc, ◌+◌, ◌/◌, ◌%◌, ◌==◌, nat_lt, List, [], ◌∷◌, ◌++◌, if◌then◌else◌}
use Rattle.eris_base.specs.declared.ids.ClientId.{ClientId}
use Rattle.eris_base.specs.ConfigLimits.{ConfigValue}
use Rattle.eris_txn.specs.declared.key.Key.{Key}
use Rattle.eris_txn.specs.declared.op.Op.TheVariants.{Get, Put}
use Rattle.eris_txn.specs.declared.plan.How.TheVariants.{Plus, Minus}
use Rattle.eris_txn.specs.PlanValues.{PlanValue}
use Rattle.eris_event.specs.declared.event.Event.{Event}
use Rattle.eris_event.specs.declared.event.Event.TheVariants as event
use Rattle.eris_grammar.specs.declared.line.Line.{Line}
use Rattle.eris_grammar.specs.declared.line.Line.TheVariants.{One, Flow, Lose}
use Rattle.eris_drill.specs.declared.turn.Turn.{Turn}
use Rattle.eris_drill.specs.Draws.{turn_at}

-- 4 shards, each of which outlives one fault, and 8 clients
unfoldable pub bank : ConfigValue
bank = record { shards = 4; f = 1; clients = 8 }

-- account 0 to 15: `a` and a digit, on one of the shards
unfoldable pub account : ℕ → Key
account number = record { shard = record { 0 = number % 4 }; name = 97 ∷ (48 + number / 4) ∷ [] }

-- whose turn it is
unfoldable pub teller : ℕ → ClientId
teller turn = record { 0 = turn % 8 }

-- what the numbers below n stand for, one after another
unfoldable pub below : {X : Type 0} → (ℕ → List X) → ℕ → List X
below lines zero = []
below lines (suc n) = below lines n ++ lines n

-- OPENING

unfoldable pub opening_put : ℕ → Event
opening_put number = event.Submit (teller number) (Put (account number) 1000 ∷ [])

unfoldable pub opening : List Line
opening = below (λ number. One (opening_put number) ∷ []) 16 ++ Flow 112 ∷ []

-- TURNS

-- the account that pays, and the other one that is paid
unfoldable pub payer : Turn → Key
payer turn = account turn.payer

unfoldable pub payee : Turn → Key
payee turn = account ((turn.payer + 1 + turn.distance) % 16)

-- the amount goes from one to the other, where the payer has it
unfoldable pub transfer : Turn → PlanValue
transfer turn =
    record {
      keys = payer turn ∷ payee turn ∷ [];
      guards = record { key = payer turn; least = turn.amount } ∷ [];
      settings =
          record { key = payer turn; how = Minus turn.amount } ∷ record { key = payee turn; how = Plus turn.amount } ∷ [];
    }

-- one turn in four only reads
unfoldable pub asked : ClientId → Turn → Event
asked client turn =
    if turn.kind == 0 then event.Submit client (Get (payer turn) ∷ Get (payee turn) ∷ [])
    else event.General client (transfer turn)

-- one turn in eight loses a packet
unfoldable pub weather : Turn → List Line
weather turn = if turn.weather == 0 then Flow 5 ∷ Lose 1 ∷ Flow 60 ∷ [] else Flow 60 ∷ []

-- at noon the first learner crashes, and its shard's other replicas notice
unfoldable pub noon : List Line
noon =
    One (event.Crash (record { 0 = 0 }) (record { 0 = 0 })) ∷ One (event.Suspect (record { 0 = 0 }) (record { 0 = 1 }))
    ∷ One (event.Suspect (record { 0 = 0 }) (record { 0 = 2 })) ∷ Flow 60 ∷ []

-- the first shard's replica that is asked to settle: the one that is up
unfoldable pub settler : ℕ → ℕ → ℕ
settler number turn = if nat_lt turn (number / 2) then 0 else 1

-- the timers run: the coordinator's, and on each shard that of one replica
unfoldable pub upkeep : ℕ → ℕ → List Line
upkeep first flows =
    One event.Nudge ∷ One (event.Sync (record { 0 = 0 }) (record { 0 = first })) ∷ One (event.Sync (record { 0 = 1 }) (record { 0 = 0 }))
    ∷ One (event.Sync (record { 0 = 2 }) (record { 0 = 0 })) ∷ One (event.Sync (record { 0 = 3 }) (record { 0 = 0 })) ∷ Flow flows ∷ []

-- a turn of a drill of this number
unfoldable pub turn_lines : ℕ → ℕ → List Line
turn_lines number turn =
    (if turn == number / 2 then noon else [])
    ++ One (asked (teller turn) (turn_at number turn)) ∷ weather (turn_at number turn)
    ++ (if turn % 4 == 3 then upkeep (settler number turn) 60 else [])

-- CLOSING

-- a client asks once more for the transaction of a turn: its third, fourth and so on
unfoldable pub retry_lines : ℕ → List Line
retry_lines turn = One (event.Retry (teller turn) (3 + turn / 8)) ∷ Flow 60 ∷ []

unfoldable pub closing : ℕ → List Line
closing number = below retry_lines number ++ upkeep 1 200

-- THE LINES OF A DRILL, behind its header
unfoldable pub drill_lines : ℕ → List Line
drill_lines number = opening ++ below (turn_lines number) number ++ closing number ++ closing number
