use Rattle.std.specs.Prelude.{Bool, false, Option, Some, None, List, [], ◌∷◌, length, ◌==◌, ◌&&◌, ◌||◌, nat_lt, if◌then◌else◌}
use Rattle.std.specs.List.{list_any, list_all}
use Rattle.eris_txn.specs.declared.key.Key.{Key}
use Rattle.eris_txn.specs.declared.plan.Guard.{Guard}
use Rattle.eris_txn.specs.declared.plan.Setting.{Setting}
use Rattle.eris_txn.specs.declared.plan.PlanFault.{PlanFault}
use Rattle.eris_txn.specs.declared.plan.PlanFault.TheVariants.{TooMany, Empty, RepeatedKey, UnlockedKey}
use Rattle.eris_txn.specs.Keys.{same_key}

-- the key stands among the keys
abbrev pub is_among : List Key → Key → Bool
is_among keys key = list_any (λ other. same_key other key) keys

-- some key stands twice
abbrev pub repeats : List Key → Bool
repeats [] = false
repeats (key ∷ keys) = is_among keys key || repeats keys

-- a setting names the key
abbrev pub sets : List Setting → Key → Bool
sets settings key = list_any (λ setting. same_key setting.key key) settings

-- two settings name one key
abbrev pub sets_twice : List Setting → Bool
sets_twice [] = false
sets_twice (setting ∷ settings) = sets settings setting.key || sets_twice settings

-- the guards and the settings name keys of the list alone
abbrev pub all_locked : List Key → List Guard → List Setting → Bool
all_locked keys guards settings =
    list_all (λ guard. is_among keys guard.key) guards && list_all (λ setting. is_among keys setting.key) settings

-- the first reason why three lists are no plan
abbrev pub plan_fault : List Key → List Guard → List Setting → Option PlanFault
plan_fault keys guards settings =
    if nat_lt 32 (length keys) || nat_lt 32 (length guards) then Some TooMany
    else if length keys == 0 then Some Empty
    else if repeats keys || sets_twice settings then Some RepeatedKey
    else if all_locked keys guards settings then None
    else Some UnlockedKey
