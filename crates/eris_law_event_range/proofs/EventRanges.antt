-- What a line of a script submits, operations or a plan, is in the ranges of the messages that it leads to. Used where
-- an event happens.
use Rattle.std.proofs.Common.{◌≡◌, ◌≤◌, ℕ, ◌-◌, ◌^◌, ◌||◌, ◌==◌, Bool, true, false, cond, nat_lt, nat_le, List, [], ◌∷◌, ◌++◌, length, Some, None, refl, arith}
use Rattle.std.specs.Prelude.{is_none}
use Rattle.std.specs.List.{list_all}
use Rattle.std.proofs.lemmas.Bool.{and_parts, and_from, leb-true, lt-ltb, ltb-true, ltb-false, eqb-false, or_parts}
use Rattle.eris_base.specs.declared.ids.ShardId.{ShardId}
use Rattle.eris_base.specs.Each.{Each}
use Rattle.eris_txn.specs.declared.key.Key.{Key}
use Rattle.eris_txn.specs.declared.op.Op.{Op}
use Rattle.eris_txn.specs.declared.op.Op.TheVariants.{Get, Put, Del, Add, Cas}
use Rattle.eris_txn.specs.declared.plan.Guard.{Guard}
use Rattle.eris_txn.specs.declared.plan.How.{How}
use Rattle.eris_txn.specs.declared.plan.How.TheVariants as hows
use Rattle.eris_txn.specs.declared.plan.Setting.{Setting}
use Rattle.eris_txn.specs.declared.plan.PlanFault.TheVariants.{TooMany, Empty, RepeatedKey, UnlockedKey}
use Rattle.eris_txn.specs.declared.txn.Txn.TheVariants as txns
use Rattle.eris_txn.specs.PlanFaults.{all_locked, plan_fault, repeats, sets_twice}
use Rattle.eris_txn.specs.PlanValues.{PlanValue}
use Rattle.eris_txn.proofs.PlanSizes.{length-settings}
use Rattle.eris_codec.specs.Codecs.{items_fit}
use Rattle.eris_codec.specs.Fields as f
use Rattle.eris_codec.proofs.RangeLaws.{count_fits}
use Rattle.eris_codec.proofs.NameBytes.{name_fits}
use Rattle.eris_client.specs.ClientRanges.{HowFits, SettingFits, TxnFits}
use Rattle.eris_event.specs.EventRanges.{are_ops, fits_op, fits_setting, is_plan, number_of, fits_value, fits_key}

-- ---- keys and values
shard_limit : (test : Bool) (n : ℕ) → nat_le n (cond test 15 63) ≡ true → n ≤ 63
shard_limit true n h = omega (arith, leb-true n 15 h)
shard_limit false n h = leb-true n 63 h

pub shard_fits : (shard : ShardId) → shard.0 ≤ 63 → f.shard.fits shard ≡ true
unfolding f.shard
shard_fits shard le = count_fits 0 63 shard.0 (omega arith) (omega arith) le

key_fits : (version : ℕ) (key : Key) → fits_key version key ≡ true → f.key.fits key ≡ true
unfolding f.key
key_fits version key h =
    let parts = and_parts _ _ h in
    and_from _ _ (shard_fits key.shard (shard_limit (version == 1) key.shard.0 parts.0)) (name_fits key.name parts.1)

value_fits : (n : ℕ) → fits_value n ≡ true → f.value.fits n ≡ true
unfolding f.value
value_fits n h = lt-ltb n (2 ^ 64) (omega (arith, leb-true n (2 ^ 64 - 1) h))

-- ---- operations
op_fits : (version : ℕ) (op : Op) → fits_op version op ≡ true → f.op.fits op ≡ true
unfolding f.op f.op_fits
op_fits version (Get key) h = key_fits version key h
op_fits version (Put key n) h = let parts = and_parts _ _ h in and_from _ _ (key_fits version key parts.0) (value_fits n parts.1)
op_fits version (Del key) h = key_fits version key h
op_fits version (Add key n) h = let parts = and_parts _ _ h in and_from _ _ (key_fits version key parts.0) (value_fits n parts.1)
op_fits version (Cas key expected n) h =
    let parts = and_parts _ _ h in
    let more = and_parts _ _ parts.1 in
    and_from _ _ (key_fits version key parts.0) (and_from _ _ (value_fits expected more.0) (value_fits n more.1))

ops_fit : (version : ℕ) (before ops : List Op) → list_all (fits_op version) ops ≡ true → items_fit (λ _. f.op) before ops ≡ true
ops_fit version before [] h = refl
ops_fit version before (op ∷ ops) h =
    let parts = and_parts _ _ h in
    and_from _ _ (op_fits version op parts.0) (ops_fit version (before ++ op ∷ []) ops parts.1)

most_limit : (test : Bool) (n : ℕ) → nat_le n (cond test 16 32) ≡ true → n ≤ 32
most_limit true n h = omega (arith, leb-true n 16 h)
most_limit false n h = leb-true n 32 h

pub ops_are_in_range : (version : ℕ) (ops : List Op) → are_ops version ops ≡ true → TxnFits (txns.Whole ops)
unfolding f.body f.body_fits f.ops
ops_are_in_range version ops h =
    let parts = and_parts _ _ h in
    let sizes = and_parts _ _ parts.0 in
    and_from _ _ (count_fits 1 32 (length ops) (omega arith) (omega (arith, ltb-true 0 (length ops) sizes.0)) (most_limit (version == 1) (length ops) sizes.1))
    (ops_fit version [] ops parts.1)

-- ---- plans
keys_fit : (version : ℕ) (before keys : List Key) → list_all (fits_key version) keys ≡ true → items_fit (λ _. f.key) before keys ≡ true
keys_fit version before [] h = refl
keys_fit version before (key ∷ keys) h =
    let parts = and_parts _ _ h in
    and_from _ _ (key_fits version key parts.0) (keys_fit version (before ++ key ∷ []) keys parts.1)

how_fits : (how : How) → fits_value (number_of how) ≡ true → HowFits how
how_fits (hows.Put value) h = value_fits value h
how_fits (hows.Plus more) h = tt
how_fits (hows.Minus less) h = tt

settings_fit : (version : ℕ) (settings : List Setting) → list_all (fits_setting version) settings ≡ true → Each SettingFits settings
settings_fit version [] h = tt
settings_fit version (setting ∷ settings) h =
    let parts = and_parts _ _ h in
    let one = and_parts _ _ parts.0 in
    ((key_fits version setting.key one.0, how_fits setting.how one.1), settings_fit version settings parts.1)

pub record NoFault (keys : List Key) (guards : List Guard) (settings : List Setting) : Type 0 where
  pub some : 1 ≤ length keys
  pub few : length keys ≤ 32
  pub once : sets_twice settings ≡ false
  pub locked : all_locked keys guards settings ≡ true

none_found : (big empty again locked : Bool) → is_none (cond big (Some TooMany) (cond empty (Some Empty) (cond again (Some RepeatedKey) (cond locked None (Some UnlockedKey))))) ≡ true
    → (big ≡ false) × (empty ≡ false) × (again ≡ false) × (locked ≡ true)
none_found true empty again locked h = absurd cc
none_found false true again locked h = absurd cc
none_found false false true locked h = absurd cc
none_found false false false false h = absurd cc
none_found false false false true h = (refl, refl, refl, refl)

no_fault : (keys : List Key) (guards : List Guard) (settings : List Setting) → is_none (plan_fault keys guards settings) ≡ true → NoFault keys guards settings
no_fault keys guards settings h =
    let tests = none_found (nat_lt 32 (length keys) || nat_lt 32 (length guards)) (length keys == 0) (repeats keys || sets_twice settings) (all_locked keys guards settings) h in
    let big = or_parts _ _ tests.0 in
    let again = or_parts _ _ tests.2 in
    let some = eqb-false (length keys) 0 tests.1 in
    record {
      some = omega (arith, some);
      few = ltb-false 32 (length keys) big.0;
      once = again.1;
      locked = tests.3;
    }

pub plan_is_in_range : (version : ℕ) (plan : PlanValue) → is_plan version plan ≡ true → TxnFits (txns.General plan)
unfolding f.keys
plan_is_in_range version plan h =
    let a = and_parts _ _ h in
    let b = and_parts _ _ a.0 in
    let c = and_parts _ _ b.0 in
    let d = and_parts _ _ c.0 in
    let e = and_parts _ _ d.0 in
    let fine = no_fault plan.keys plan.guards plan.settings a.1 in
    let settings = length-settings plan.settings plan.keys fine.once (and_parts _ _ fine.locked).1 in
    record {
      keys = and_from _ _ (count_fits 1 32 (length plan.keys) (omega arith) fine.some fine.few) (keys_fit version [] plan.keys e.0);
      few = omega (arith, settings, fine.few);
      settings = settings_fit version plan.settings d.1;
    }
