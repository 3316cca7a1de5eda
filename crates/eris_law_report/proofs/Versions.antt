-- WHAT A SCRIPT OF ANY VERSION MAY SUBMIT is in the ranges of version 2, which are those of reports.
use Rattle.std.proofs.Common.{◌≡◌, ◌≤◌, ◌&&◌, ◌==◌, ℕ, Bool, true, nat_le, nat_lt, is_none, length, List, [], ◌∷◌, refl, arith}
use Rattle.std.specs.List.{list_all}
use Rattle.std.proofs.lemmas.Bool.{and_from, and_parts, cond_both, le-leb, leb-true}
use Rattle.eris_txn.specs.declared.key.Key.{Key}
use Rattle.eris_txn.specs.declared.op.Op.{Op}
use Rattle.eris_txn.specs.declared.op.Op.TheVariants.{Get, Put, Del, Add, Cas}
use Rattle.eris_txn.specs.declared.plan.Guard.{Guard}
use Rattle.eris_txn.specs.declared.plan.Setting.{Setting}
use Rattle.eris_txn.specs.Names.{is_name}
use Rattle.eris_txn.specs.PlanFaults.{plan_fault}
use Rattle.eris_txn.specs.PlanValues.{PlanValue}
use Rattle.eris_event.specs.EventRanges.{are_ops, fits_guard, fits_key, fits_op, fits_setting, fits_value, is_plan, last_shard, most, number_of}

all_weaker : {X : Type 0} (f g : X → Bool) → ((x : X) → f x ≡ true → g x ≡ true) → (xs : List X) → list_all f xs ≡ true → list_all g xs ≡ true
all_weaker f g h [] k = refl
all_weaker f g h (x ∷ xs) k = let parts = and_parts (f x) (list_all f xs) k in and_from (g x) (list_all g xs) (h x parts.0) (all_weaker f g h xs parts.1)

below : (few many n : ℕ) → few ≤ many → nat_le n few ≡ true → nat_le n many ≡ true
below few many n le h = le-leb n many (omega (arith, le, leb-true n few h))

shards_below : (version : ℕ) → last_shard version ≤ 63
shards_below version = cond_both (version == 1) 15 63 (λ n. n ≤ 63) (λ e. omega arith) (λ e. omega arith)

most_below : (version : ℕ) → most version ≤ 32
most_below version = cond_both (version == 1) 16 32 (λ n. n ≤ 32) (λ e. omega arith) (λ e. omega arith)

key_fits : (version : ℕ) (key : Key) → fits_key version key ≡ true → fits_key 2 key ≡ true
key_fits version key h =
    let parts = and_parts (nat_le key.shard.0 (last_shard version)) (is_name key.name) h in
    and_from (nat_le key.shard.0 63) (is_name key.name) (below (last_shard version) 63 key.shard.0 (shards_below version) parts.0) parts.1

op_fits : (version : ℕ) (op : Op) → fits_op version op ≡ true → fits_op 2 op ≡ true
op_fits version (Get key) h = key_fits version key h
op_fits version (Put key value) h =
    let parts = and_parts (fits_key version key) (fits_value value) h in and_from (fits_key 2 key) (fits_value value) (key_fits version key parts.0) parts.1
op_fits version (Del key) h = key_fits version key h
op_fits version (Add key more) h =
    let parts = and_parts (fits_key version key) (fits_value more) h in and_from (fits_key 2 key) (fits_value more) (key_fits version key parts.0) parts.1
op_fits version (Cas key expected value) h =
    let parts = and_parts (fits_key version key) (fits_value expected && fits_value value) h in
    and_from (fits_key 2 key) (fits_value expected && fits_value value) (key_fits version key parts.0) parts.1

-- OPERATIONS
pub ops_fit : (version : ℕ) (ops : List Op) → are_ops version ops ≡ true → are_ops 2 ops ≡ true
ops_fit version ops h =
    let parts = and_parts (nat_lt 0 (length ops) && nat_le (length ops) (most version)) (list_all (fits_op version) ops) h in
    let count = and_parts (nat_lt 0 (length ops)) (nat_le (length ops) (most version)) parts.0 in
    and_from (nat_lt 0 (length ops) && nat_le (length ops) 32) (list_all (fits_op 2) ops)
    (and_from (nat_lt 0 (length ops)) (nat_le (length ops) 32) count.0 (below (most version) 32 (length ops) (most_below version) count.1))
    (all_weaker (fits_op version) (fits_op 2) (op_fits version) ops parts.1)

guard_fits : (version : ℕ) (guard : Guard) → fits_guard version guard ≡ true → fits_guard 2 guard ≡ true
guard_fits version guard h =
    let parts = and_parts (fits_key version guard.key) (fits_value guard.least) h in
    and_from (fits_key 2 guard.key) (fits_value guard.least) (key_fits version guard.key parts.0) parts.1

setting_fits : (version : ℕ) (setting : Setting) → fits_setting version setting ≡ true → fits_setting 2 setting ≡ true
setting_fits version setting h =
    let parts = and_parts (fits_key version setting.key) (fits_value (number_of setting.how)) h in
    and_from (fits_key 2 setting.key) (fits_value (number_of setting.how)) (key_fits version setting.key parts.0) parts.1

-- what is asked of a plan, one by one
pub record PlanParts (version : ℕ) (plan : PlanValue) : Type 0 where
  pub keys : list_all (fits_key version) plan.keys ≡ true
  pub guards : list_all (fits_guard version) plan.guards ≡ true
  pub settings : list_all (fits_setting version) plan.settings ≡ true
  pub few_keys : nat_le (length plan.keys) (most version) ≡ true
  pub few_guards : nat_le (length plan.guards) (most version) ≡ true
  pub sound : is_none (plan_fault plan.keys plan.guards plan.settings) ≡ true

pub plan_parts : (version : ℕ) (plan : PlanValue) → is_plan version plan ≡ true → PlanParts version plan
plan_parts version plan h =
    let fifth = and_parts _ (is_none (plan_fault plan.keys plan.guards plan.settings)) h in
    let fourth = and_parts _ (nat_le (length plan.guards) (most version)) fifth.0 in
    let third = and_parts _ (nat_le (length plan.keys) (most version)) fourth.0 in
    let second = and_parts _ (list_all (fits_setting version) plan.settings) third.0 in
    let first = and_parts (list_all (fits_key version) plan.keys) (list_all (fits_guard version) plan.guards) second.0 in
    record { keys = first.0; guards = first.1; settings = second.1; few_keys = third.1; few_guards = fourth.1; sound = fifth.1 }

-- A PLAN
pub plan_fits : (version : ℕ) (plan : PlanValue) → is_plan version plan ≡ true → is_plan 2 plan ≡ true
plan_fits version plan h =
    let parts = plan_parts version plan h in
    and_from _ _ (and_from _ _ (and_from _ _ (and_from _ _ (and_from _ _
    (all_weaker (fits_key version) (fits_key 2) (key_fits version) plan.keys parts.keys)
    (all_weaker (fits_guard version) (fits_guard 2) (guard_fits version) plan.guards parts.guards))
    (all_weaker (fits_setting version) (fits_setting 2) (setting_fits version) plan.settings parts.settings))
    (below (most version) 32 (length plan.keys) (most_below version) parts.few_keys))
    (below (most version) 32 (length plan.guards) (most_below version) parts.few_guards))
    parts.sound
