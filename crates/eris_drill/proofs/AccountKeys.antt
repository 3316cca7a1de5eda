-- The accounts' names are names, and a transfer between two accounts is a plan: used by the code that makes the script.
use Rattle.std.proofs.Common.{◌≡◌, ◌+◌, ◌/◌, ◌%◌, ◌<◌, true, false, ℕ, List, [], ◌∷◌, None, Some, ap, sym, ◌∙◌, arith}
use Rattle.eris_txn.specs.declared.key.Key.{Key}
use Rattle.eris_txn.specs.declared.plan.Guard.{Guard}
use Rattle.eris_txn.specs.declared.plan.PlanFault.{PlanFault}
use Rattle.eris_txn.specs.declared.plan.Setting.{Setting}
use Rattle.eris_txn.specs.Keys.{same_key}
use Rattle.eris_txn.specs.Names.{is_name}
use Rattle.eris_txn.specs.PlanFaults.{plan_fault}
use Rattle.eris_txn.proofs.KeyLaws.{same_key-false, same_key-refl}
use Rattle.eris_drill.specs.declared.turn.Turn.{Turn}
use Rattle.eris_drill.specs.DrillLines.{account, payer, payee, transfer}

pub account_name : (number : ℕ) → number < 16 → is_name (97 ∷ (48 + number / 4) ∷ []) ≡ true
account_name number few = grind arith

second : List ℕ → ℕ
second [] = 0
second (first ∷ []) = 0
second (first ∷ next ∷ more) = next

same_account : (some other : ℕ) → account some ≡ account other → some ≡ other
unfolding account second
same_account some other same =
    let shards : some % 4 ≡ other % 4 = ap (λ (key : Key). key.shard.0) same in
    let names : 48 + some / 4 ≡ 48 + other / 4 = ap (λ (key : Key). second key.name) same in
    omega (arith, shards, names)

-- different accounts are different keys
pub accounts_differ : (some other : ℕ) → (some ≡ other → ⊥) → same_key (account some) (account other) ≡ false
accounts_differ some other differ = same_key-false (account some) (account other) (λ same. differ (same_account some other same))

pub other_side : (turn : Turn) → turn.payer < 16 → turn.distance < 15 → turn.payer ≡ (turn.payer + 1 + turn.distance) % 16 → ⊥
other_side turn few near same = absurd (omega (arith, few, near, same))

-- nobody pays himself
pub payer_differs : (turn : Turn) → turn.payer < 16 → turn.distance < 15 → same_key (payer turn) (payee turn) ≡ false
unfolding payer payee
payer_differs turn few near = accounts_differ turn.payer ((turn.payer + 1 + turn.distance) % 16) (other_side turn few near)

pub payee_differs : (turn : Turn) → turn.payer < 16 → turn.distance < 15 → same_key (payee turn) (payer turn) ≡ false
unfolding payer payee
payee_differs turn few near = accounts_differ ((turn.payer + 1 + turn.distance) % 16) turn.payer (λ same. other_side turn few near (sym same))

-- a transfer is a plan
pub transfer_is_plan : (turn : Turn) → turn.payer < 16 → turn.distance < 15 →
    plan_fault (transfer turn).keys (transfer turn).guards (transfer turn).settings ≡ None
unfolding transfer
transfer_is_plan turn few near =
    let there = payer_differs turn few near in
    let back = payee_differs turn few near in
    let own = same_key-refl (payer turn) in
    let paid = same_key-refl (payee turn) in
    grind arith

pub no_fault : (turn : Turn) (keys : List Key) (guards : List Guard) (settings : List Setting) (fault : PlanFault) → turn.payer < 16 → turn.distance < 15 →
    keys ≡ (transfer turn).keys → guards ≡ (transfer turn).guards → settings ≡ (transfer turn).settings → plan_fault keys guards settings ≡ Some fault → ⊥
no_fault turn keys guards settings fault few near locked guarded set found =
    cases
    (sym (transfer_is_plan turn few near)
    ∙ sym (ap (λ (all : List Key). plan_fault all guards settings) locked
    ∙ ap (λ (all : List Guard). plan_fault (transfer turn).keys all settings) guarded
    ∙ ap (λ (all : List Setting). plan_fault (transfer turn).keys (transfer turn).guards all) set)
    ∙ found)
  where
    cases : None ≡ Some fault → ⊥
    cases h = cc
