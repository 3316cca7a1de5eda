use Rattle.std.specs.Prelude.{ℕ, ◌+◌, ◌-◌, ◌%◌, ◌^◌, Bool, Option, Some, None, List, [], ◌∷◌, map, unwrap_or, nat_le, if◌then◌else◌}
use Rattle.std.specs.List.{list_all}
use Rattle.eris_txn.specs.declared.key.Key.{Key}
use Rattle.eris_txn.specs.declared.lock.Lock.{Lock}
use Rattle.eris_txn.specs.declared.lock.Mode.{Mode}
use Rattle.eris_txn.specs.declared.lock.Mode.TheVariants.{Shared, Exclusive}
use Rattle.eris_txn.specs.declared.plan.Guard.{Guard}
use Rattle.eris_txn.specs.declared.plan.How.{How}
use Rattle.eris_txn.specs.declared.plan.How.TheVariants.{Put, Plus, Minus}
use Rattle.eris_txn.specs.declared.plan.Setting.{Setting}
use Rattle.eris_txn.specs.declared.plan.Write.{Write}
use Rattle.eris_txn.specs.Keys.{same_key, Values, with_value}
use Rattle.eris_txn.specs.Operations.{sum_of}
use Rattle.eris_txn.specs.PlanFaults.{sets}
use Rattle.eris_txn.specs.PlanValues.{PlanValue}

-- the values of keys, listed in the order of the keys
abbrev pub value_in : List Key → List (Option ℕ) → Values
value_in [] values key = None
value_in (other ∷ keys) [] key = None
value_in (other ∷ keys) (value ∷ values) key = if same_key other key then value else value_in keys values key

-- the key's value is at least what the guard asks, where absent counts as 0
abbrev pub guard_holds : Guard → Values → Bool
guard_holds guard values = nat_le guard.least (unwrap_or (values guard.key) 0)

abbrev pub guards_hold : List Guard → Values → Bool
guards_hold guards values = list_all (λ guard. guard_holds guard values) guards

-- the difference modulo 2^64, where an absent value counts as 0
abbrev pub difference_of : Option ℕ → ℕ → ℕ
difference_of before less = (unwrap_or before 0 + (2 ^ 64 - less)) % 2 ^ 64

-- the value that a setting makes of the one before
abbrev pub set_by : How → Option ℕ → ℕ
set_by (Put value) before = value
set_by (Plus more) before = sum_of before more
set_by (Minus less) before = difference_of before less

-- the values after settings, one after the other
abbrev pub settled : List Setting → Values → Values
settled [] values = values
settled (setting ∷ settings) values =
    settled settings (with_value setting.key (Some (set_by setting.how (values setting.key))) values)

-- what a setting writes over these values
abbrev pub write_of : Setting → Values → Write
write_of setting values = record { key = setting.key; value = set_by setting.how (values setting.key) }

-- one write for each setting, in order, all by the same values
abbrev pub writes_from : List Setting → Values → List Write
writes_from settings values = map (λ setting. write_of setting values) settings

-- the values after writes, one after the other
abbrev pub written : List Write → Values → Values
written [] values = values
written (write ∷ writes) values = written writes (with_value write.key (Some write.value) values)

-- what a plan writes, its keys having these values; None where a guard doesn't hold
abbrev pub writes_of : PlanValue → Values → Option (List Write)
writes_of plan values = if guards_hold plan.guards values then Some (writes_from plan.settings values) else None

-- a key that a setting names is locked alone
abbrev pub mode_of : List Setting → Key → Mode
mode_of settings key = if sets settings key then Exclusive else Shared

-- the keys in order, each with its mode
abbrev pub locks_in : List Setting → List Key → List Lock
locks_in settings keys = map (λ key. record { key = key; mode = mode_of settings key }) keys

-- the locks of a plan
abbrev pub locks_of : PlanValue → List Lock
locks_of plan = locks_in plan.settings plan.keys
