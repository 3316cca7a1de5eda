-- What a plan's facts are, and what follows from them.
use Rattle.std.proofs.Common.{◌≡◌, ℕ, Bool, true, false, cond, ◌||◌, ◌==◌, nat_lt, nat_le, map, unwrap_or, Option, Some, None, List, [], ◌∷◌, length, refl, ap, ◌∙◌, arith, subst, MatchOption, sym}
use Rattle.std.proofs.lemmas.Bool.{or_parts, or_from, and_parts, cond_both, ltb-false, eqb-false, le-ltb, ne_eqb}
use Rattle.std.specs.List.{list_all}
use Rattle.eris_txn.specs.declared.key.Key.{Key}
use Rattle.eris_txn.specs.declared.lock.Lock.{Lock}
use Rattle.eris_txn.specs.declared.plan.Guard.{Guard}
use Rattle.eris_txn.specs.declared.plan.PlanFault.{PlanFault}
use Rattle.eris_txn.specs.declared.plan.PlanFault.TheVariants.{TooMany, Empty, RepeatedKey, UnlockedKey}
use Rattle.eris_txn.specs.declared.plan.Setting.{Setting}
use Rattle.eris_txn.specs.declared.plan.Write.{Write}
use Rattle.eris_txn.specs.Keys.{same_key, Values, with_value}
use Rattle.eris_txn.specs.PlanFacts.{IsPlan}
use Rattle.eris_txn.specs.PlanFaults.{is_among, repeats, sets, sets_twice, all_locked, plan_fault}
use Rattle.eris_txn.specs.PlanValues.{PlanValue}
use Rattle.eris_txn.specs.Plans.{locks_in, value_in, guard_holds, guards_hold, set_by, settled, write_of, writes_from, written, writes_of}
use Rattle.eris_txn.proofs.KeyLaws.{same_key-true, same_key-symm}
use Rattle.eris_txn.proofs.ValueLaws.{with_value-other}

-- no fault in a chain of four tests
none_through : (many empty repeated locked : Bool)
    → ◌≡◌ {A = Option PlanFault} (cond many (Some TooMany) (cond empty (Some Empty) (cond repeated (Some RepeatedKey) (cond locked None (Some UnlockedKey))))) None
    → (many ≡ false) × (empty ≡ false) × (repeated ≡ false) × (locked ≡ true)
none_through false false false true h = (refl, refl, refl, refl)
none_through true empty repeated locked h = cc
none_through false true repeated locked h = cc
none_through false false true locked h = cc
none_through false false false false h = cc

through_none : (many empty repeated locked : Bool) → many ≡ false → empty ≡ false → repeated ≡ false → locked ≡ true
    → ◌≡◌ {A = Option PlanFault} (cond many (Some TooMany) (cond empty (Some Empty) (cond repeated (Some RepeatedKey) (cond locked None (Some UnlockedKey))))) None
through_none false false false true a b c d = refl
through_none true empty repeated locked a b c d = cc
through_none false true repeated locked a b c d = cc
through_none false false true locked a b c d = cc
through_none false false false false a b c d = cc

-- a plan without a fault has the facts
pub IsPlan-no_fault : (plan : PlanValue) → plan_fault plan.keys plan.guards plan.settings ≡ None → IsPlan plan
IsPlan-no_fault plan h =
    let parts = none_through (nat_lt 32 (length plan.keys) || nat_lt 32 (length plan.guards)) (length plan.keys == 0) (repeats plan.keys || sets_twice plan.settings) (all_locked plan.keys plan.guards plan.settings) h in
    let sizes = or_parts (nat_lt 32 (length plan.keys)) (nat_lt 32 (length plan.guards)) parts.0 in
    let once = or_parts (repeats plan.keys) (sets_twice plan.settings) parts.2 in
    let some_key : length plan.keys ≡ 0 → ⊥ = eqb-false (length plan.keys) 0 parts.1 in
    record {
      some_key = omega arith;
      few_keys = ltb-false 32 (length plan.keys) sizes.0;
      few_guards = ltb-false 32 (length plan.guards) sizes.1;
      locks_once = once.0;
      sets_once = once.1;
      names_locked = parts.3;
    }

-- and one with the facts has no fault
pub plan_fault-none : (plan : PlanValue) → IsPlan plan → plan_fault plan.keys plan.guards plan.settings ≡ None
plan_fault-none plan facts =
    through_none (nat_lt 32 (length plan.keys) || nat_lt 32 (length plan.guards)) (length plan.keys == 0) (repeats plan.keys || sets_twice plan.settings) (all_locked plan.keys plan.guards plan.settings)
    (or_from (nat_lt 32 (length plan.keys)) (nat_lt 32 (length plan.guards)) (le-ltb 32 (length plan.keys) facts.few_keys) (le-ltb 32 (length plan.guards) facts.few_guards))
    (ne_eqb (length plan.keys) 0 (λ e. absurd (omega (arith, facts.some_key))))
    (or_from (repeats plan.keys) (sets_twice plan.settings) facts.locks_once facts.sets_once)
    facts.names_locked

-- a key that no setting names: changing its value changes no write
writes_from-with_value : (settings : List Setting) (key : Key) (value : Option ℕ) (values : Values) → sets settings key ≡ false → writes_from settings (with_value key value values) ≡ writes_from settings values
writes_from-with_value [] key value values h = refl
writes_from-with_value (setting ∷ settings) key value values h =
    let parts = or_parts (same_key setting.key key) (sets settings key) h in
    let here : write_of setting (with_value key value values) ≡ write_of setting values =
    ap (λ before. record { key = setting.key; value = set_by setting.how before })
    (with_value-other key value values setting.key (same_key-symm key setting.key ∙ parts.0)) in
    let rest = writes_from-with_value settings key value values parts.1 in
    cc

-- settings in order, no key twice, are their writes, all by the values before
pub settled-written : (settings : List Setting) (values : Values) → sets_twice settings ≡ false → settled settings values ≡ written (writes_from settings values) values
settled-written [] values h = refl
settled-written (setting ∷ settings) values h =
    let parts = or_parts (sets settings setting.key) (sets_twice settings) h in
    let next = with_value setting.key (Some (set_by setting.how (values setting.key))) values in
    settled-written settings next parts.1
    ∙ ap (λ writes. written writes next) (writes_from-with_value settings setting.key (Some (set_by setting.how (values setting.key))) values parts.0)

-- the values of keys, listed in their order, are again what they were
pub value_in-map : (keys : List Key) (values : Values) (key : Key) → is_among keys key ≡ true → value_in keys (map values keys) key ≡ values key
value_in-map [] values key h = cc
value_in-map (other ∷ keys) values key h =
    cond_both (same_key other key) (values other) (value_in keys (map values keys) key) (λ value. value ≡ values key)
    (λ same. ap values (same_key-true other key same))
    (λ apart. value_in-map keys values key (or_rest (same_key other key) (is_among keys key) apart h))
  where
    or_rest : (a b : Bool) → a ≡ false → (a || b) ≡ true → b ≡ true
    or_rest false b e h = h
    or_rest true b e h = cc

pub guards_hold-map : (keys : List Key) (values : Values) (guards : List Guard) → list_all (λ guard. is_among keys guard.key) guards ≡ true → guards_hold guards (value_in keys (map values keys)) ≡ guards_hold guards values
guards_hold-map keys values [] h = refl
guards_hold-map keys values (guard ∷ guards) h =
    let parts = and_parts (is_among keys guard.key) (list_all (λ guard. is_among keys guard.key) guards) h in
    let here : guard_holds guard (value_in keys (map values keys)) ≡ guard_holds guard values =
    ap (λ value. nat_le guard.least (unwrap_or value 0)) (value_in-map keys values guard.key parts.0) in
    let rest = guards_hold-map keys values guards parts.1 in
    cc

pub writes_from-map : (keys : List Key) (values : Values) (settings : List Setting) → list_all (λ setting. is_among keys setting.key) settings ≡ true → writes_from settings (value_in keys (map values keys)) ≡ writes_from settings values
writes_from-map keys values [] h = refl
writes_from-map keys values (setting ∷ settings) h =
    let parts = and_parts (is_among keys setting.key) (list_all (λ setting. is_among keys setting.key) settings) h in
    let here : write_of setting (value_in keys (map values keys)) ≡ write_of setting values =
    ap (λ before. record { key = setting.key; value = set_by setting.how before }) (value_in-map keys values setting.key parts.0) in
    let rest = writes_from-map keys values settings parts.1 in
    cc

-- a plan decides and writes by the values of its keys alone
pub writes_of-map : (plan : PlanValue) (values : Values) → IsPlan plan → writes_of plan (value_in plan.keys (map values plan.keys)) ≡ writes_of plan values
writes_of-map plan values facts =
    let parts = and_parts (list_all (λ guard. is_among plan.keys guard.key) plan.guards) (list_all (λ setting. is_among plan.keys setting.key) plan.settings) facts.names_locked in
    let guards = guards_hold-map plan.keys values plan.guards parts.0 in
    let writes = writes_from-map plan.keys values plan.settings parts.1 in
    cc

-- where a plan's values are those of a store: it writes nothing exactly where a guard doesn't hold there, else what its settings leave there
pub writes_of-settles : (plan : PlanValue) (have : Values) → IsPlan plan
    → MatchOption (writes_of plan (value_in plan.keys (map have plan.keys))) (guards_hold plan.guards have ≡ false) (λ writes. written writes have ≡ settled plan.settings have)
writes_of-settles plan have facts =
    let P : Option (List Write) → Type 0 = λ found. MatchOption found (guards_hold plan.guards have ≡ false) (λ writes. written writes have ≡ settled plan.settings have) in
    subst P (sym (writes_of-map plan have facts))
    (cond_both (guards_hold plan.guards have) (Some (writes_from plan.settings have)) None P
    (λ holds. sym (settled-written plan.settings have facts.sets_once))
    (λ fails. fails))

-- the keys of a plan's locks are its keys
pub locked_keys : (settings : List Setting) (keys : List Key) → map (λ (lock : Lock). lock.key) (locks_in settings keys) ≡ keys
locked_keys settings [] = refl
locked_keys settings (key ∷ keys) = ap (λ (rest : List Key). key ∷ rest) (locked_keys settings keys)
