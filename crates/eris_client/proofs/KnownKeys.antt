-- Keys, operations and plans that a client may be given have their fields in the messages' ranges. Used where the
-- shards of a transaction are looked at.
use Rattle.std.proofs.Common.{◌≡◌, ◌<◌, ◌≤◌, ◌^◌, ℕ, true, ◌&&◌, nat_lt, nat_le, List, [], ◌∷◌, length, refl, ap, sym, ◌∙◌, arith, inl, inr}
use Rattle.std.specs.List.{list_all}
use Rattle.std.proofs.lemmas.Bool.{and_from, and_parts, both_ways, leb-true, le-leb, lt-ltb, ltb-true, or_cases}
use Rattle.eris_base.specs.declared.ids.ShardId.{ShardId}
use Rattle.eris_base.specs.Each.{Each}
use Rattle.eris_txn.specs.declared.body.Body.TheVariants.{Independent}
use Rattle.eris_txn.specs.declared.key.Key.{Key}
use Rattle.eris_txn.specs.declared.op.Op.{Op}
use Rattle.eris_txn.specs.declared.op.Op.TheVariants.{Get, Put, Del, Add, Cas}
use Rattle.eris_txn.specs.declared.plan.Setting.{Setting}
use Rattle.eris_txn.specs.Keys.{same_key}
use Rattle.eris_txn.specs.Names.{is_name}
use Rattle.eris_txn.specs.PlanFacts.{IsPlan}
use Rattle.eris_txn.specs.PlanFaults.{is_among}
use Rattle.eris_txn.specs.PlanValues.{PlanValue}
use Rattle.eris_txn.specs.Sizes.{is_few}
use Rattle.eris_txn.proofs.KeyLaws.{same_key-true}
use Rattle.eris_txn.proofs.PlanSizes.{length-settings}
use Rattle.eris_codec.specs.Codecs.{items_fit}
use Rattle.eris_codec.specs.Fields as f
use Rattle.eris_codec.specs.Ranges.{body_fits}
use Rattle.eris_codec.proofs.NameBytes.{name_fits}
use Rattle.eris_client.specs.ClientRanges.{HowFits, PlanFits, SettingFits}
use Rattle.eris_client.proofs.Fits.{all_items_fit, count_fits, value_small}

-- ---- keys
shard_fits : (shard : ShardId) → shard.0 < 64 → f.shard.fits shard ≡ true
unfolding f.shard f.from_to f.byte
shard_fits shard small =
    and_from (nat_lt shard.0 256) (nat_le 0 shard.0 && nat_le shard.0 63) (lt-ltb shard.0 256 (omega arith))
    (and_from (nat_le 0 shard.0) (nat_le shard.0 63) (le-leb 0 shard.0 (omega arith)) (le-leb shard.0 63 (omega arith)))

pub key_fits : (key : Key) (shards : ℕ) → nat_lt key.shard.0 shards ≡ true → shards ≤ 64 → is_name key.name ≡ true → f.key.fits key ≡ true
unfolding f.key
key_fits key shards known few name =
    let below : key.shard.0 < shards = ltb-true key.shard.0 shards known in
    and_from (f.shard.fits key.shard) (f.name.fits key.name) (shard_fits key.shard (omega arith)) (name_fits key.name name)

-- ---- operations
pub get_fits : (key : Key) → f.key.fits key ≡ true → f.op.fits (Get key) ≡ true
unfolding f.op f.op_fits
get_fits key h = h

pub put_fits : (key : Key) (value : ℕ) → value < 2 ^ 64 → f.key.fits key ≡ true → f.op.fits (Put key value) ≡ true
unfolding f.op f.op_fits
put_fits key value small h = and_from (f.key.fits key) (f.value.fits value) h (value_small value small)

pub del_fits : (key : Key) → f.key.fits key ≡ true → f.op.fits (Del key) ≡ true
unfolding f.op f.op_fits
del_fits key h = h

pub add_fits : (key : Key) (more : ℕ) → more < 2 ^ 64 → f.key.fits key ≡ true → f.op.fits (Add key more) ≡ true
unfolding f.op f.op_fits
add_fits key more small h = and_from (f.key.fits key) (f.value.fits more) h (value_small more small)

pub cas_fits : (key : Key) (expected value : ℕ) → expected < 2 ^ 64 → value < 2 ^ 64 → f.key.fits key ≡ true → f.op.fits (Cas key expected value) ≡ true
unfolding f.op f.op_fits
cas_fits key expected value small few h =
    and_from (f.key.fits key) (f.value.fits expected && f.value.fits value) h
    (and_from (f.value.fits expected) (f.value.fits value) (value_small expected small) (value_small value few))

pub ruleset op_fits = (get_fits, put_fits, del_fits, add_fits, cas_fits)

few_fit : {X : Type 0} (items : List X) → is_few items ≡ true → (f.from_to 1 32).fits (length items) ≡ true
few_fit items h =
    let parts = and_parts (nat_lt 0 (length items)) (nat_le (length items) 32) h in
    let some : 0 < length items = ltb-true 0 (length items) parts.0 in
    count_fits 1 (length items) (omega arith) (leb-true (length items) 32 parts.1)

pub ops_fit : (ops : List Op) → is_few ops ≡ true → Each (λ op. f.op.fits op ≡ true) ops → body_fits (Independent ops) ≡ true
unfolding f.body f.body_fits f.ops
ops_fit ops few h =
    and_from ((f.from_to 1 32).fits (length ops)) (items_fit (λ _. f.op) [] ops) (few_fit ops few) (all_items_fit f.op [] ops h)

-- ---- plans
keys_fit : (keys : List Key) → 1 ≤ length keys → length keys ≤ 32 → Each (λ key. f.key.fits key ≡ true) keys → f.keys.fits keys ≡ true
unfolding f.keys
keys_fit keys some few h =
    and_from ((f.from_to 1 32).fits (length keys)) (items_fit (λ _. f.key) [] keys) (count_fits 1 (length keys) some few) (all_items_fit f.key [] keys h)

one_of : (keys : List Key) (key : Key) → Each (λ other. f.key.fits other ≡ true) keys → is_among keys key ≡ true → f.key.fits key ≡ true
one_of [] key h is = absurd (both_ways _ refl is)
one_of (other ∷ keys) key h is =
    elim (or_cases (same_key other key) (is_among keys key) is) [
      | inl same ↦ ap (λ (k : Key). f.key.fits k) (sym (same_key-true other key same)) ∙ h.0
      | inr later ↦ one_of keys key h.1 later
    ]

settings_fit : (keys : List Key) (settings : List Setting) → Each (λ other. f.key.fits other ≡ true) keys → list_all (λ setting. is_among keys setting.key) settings ≡ true
    → Each (λ setting. HowFits setting.how) settings → Each SettingFits settings
settings_fit keys [] h locked k = tt
settings_fit keys (setting ∷ settings) h locked k =
    let parts = and_parts (is_among keys setting.key) (list_all (λ setting. is_among keys setting.key) settings) locked in
    ((one_of keys setting.key h parts.0, k.0), settings_fit keys settings h parts.1 k.1)

pub plan_fits : (plan : PlanValue) → IsPlan plan → Each (λ key. f.key.fits key ≡ true) plan.keys → Each (λ setting. HowFits setting.how) plan.settings → PlanFits plan
plan_fits plan is h k =
    let locked = (and_parts (list_all (λ guard. is_among plan.keys guard.key) plan.guards) (list_all (λ setting. is_among plan.keys setting.key) plan.settings) is.names_locked).1 in
    let few = length-settings plan.settings plan.keys is.sets_once locked in
    record { keys = keys_fit plan.keys is.some_key is.few_keys h; few = omega (arith, few, is.few_keys); settings = settings_fit plan.keys plan.settings h locked k }
