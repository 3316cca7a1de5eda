-- The letters of keys are names, and the general transaction is a plan.
use Rattle.std.proofs.Common.{◌≡◌, ◌∙◌, ◌≤◌, ℕ, true, List, [], ◌∷◌, None, Some, ap, sym, refl, arith}
use Rattle.eris_txn.specs.declared.key.Key.{Key}
use Rattle.eris_txn.specs.declared.plan.Guard.{Guard}
use Rattle.eris_txn.specs.declared.plan.PlanFault.{PlanFault}
use Rattle.eris_txn.specs.declared.plan.Setting.{Setting}
use Rattle.eris_txn.specs.Keys.{same_key}
use Rattle.eris_txn.specs.Names.{is_name}
use Rattle.eris_txn.specs.PlanFaults.{plan_fault}
use Rattle.eris_txn.specs.PlanValues.{PlanValue}
use Rattle.eris_live_list.specs.LiveLists.{key_of, transfer}

pub letter_name : (letter : ℕ) → 97 ≤ letter → letter ≤ 122 → is_name (letter ∷ []) ≡ true
letter_name letter low high = grind arith

pub transfer_is_plan : plan_fault transfer.keys transfer.guards transfer.settings ≡ None
unfolding transfer key_of same_key
transfer_is_plan = refl

no_guards : transfer.guards ≡ []
unfolding transfer
no_guards = refl

pub no_fault : (keys : List Key) (guards : List Guard) (settings : List Setting) (fault : PlanFault) →
    keys ≡ transfer.keys → guards ≡ [] → settings ≡ transfer.settings → plan_fault keys guards settings ≡ Some fault → ⊥
no_fault keys guards settings fault locked guarded set found =
    cases
    (sym transfer_is_plan
    ∙ sym (ap (λ (all : List Key). plan_fault all guards settings) locked
    ∙ ap (λ (all : List Guard). plan_fault transfer.keys all settings) (guarded ∙ sym no_guards)
    ∙ ap (λ (all : List Setting). plan_fault transfer.keys transfer.guards all) set)
    ∙ found)
  where
    cases : None ≡ Some fault → ⊥
    cases h = cc

pub made : (plan : PlanValue) (keys : List Key) (guards : List Guard) (settings : List Setting) → plan ≡ record { keys = keys; guards = guards; settings = settings }
    → keys ≡ transfer.keys → guards ≡ [] → settings ≡ transfer.settings → plan ≡ transfer
made plan keys guards settings is locked guarded set = is ∙ same
  where
    same : (let all : PlanValue = record { keys = keys; guards = guards; settings = settings } in all) ≡ transfer
    same = λ i. record { keys = locked i; guards = (guarded ∙ sym no_guards) i; settings = set i }
