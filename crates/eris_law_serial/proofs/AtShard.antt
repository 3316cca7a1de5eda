-- What operations, writes and settings do at the keys of one shard. Two maps of values that agree there still agree
-- there after each transaction, where the second took only the shard's share of it. Used shard by shard.
use Rattle.std.proofs.Common.{◌≡◌, ℕ, Bool, true, false, cond, Option, Some, List, [], ◌∷◌, map, refl, ap, sym, ◌∙◌, ◌⊎◌, inl, inr}
use Rattle.std.proofs.lemmas.Bool.{or_parts, or_cases, and_parts, cases_Bool, cond-false, both_ways}
use Rattle.std.specs.List.{filter, list_all}
use Rattle.eris_base.specs.declared.ids.ShardId.{ShardId}
use Rattle.eris_txn.specs.declared.key.Key.{Key}
use Rattle.eris_txn.specs.declared.lock.Lock.{Lock}
use Rattle.eris_txn.specs.declared.op.Op.{Op}
use Rattle.eris_txn.specs.declared.plan.Setting.{Setting}
use Rattle.eris_txn.specs.declared.plan.Write.{Write}
use Rattle.eris_txn.specs.Bodies.{any_on}
use Rattle.eris_txn.specs.Keys.{same_key, Values, with_value}
use Rattle.eris_txn.specs.Operations.{key_of, left_by, answered, after, after_all, answers}
use Rattle.eris_txn.specs.PlanFaults.{is_among}
use Rattle.eris_txn.specs.Plans.{locks_in, mode_of, writes_from, written}
use Rattle.eris_txn.proofs.KeyLaws.{same_key-true}
use Rattle.eris_locks.specs.Shards.{is_on}
use Rattle.eris_serial.specs.Shares.{share}

-- keys of two shards differ
off_shard : (shard : ShardId) (key other : Key) → is_on shard key ≡ false → is_on shard other ≡ true → same_key key other ≡ false
off_shard shard key other off on = by_test (cases_Bool (same_key key other))
  where
    by_test : ((same_key key other ≡ true) ⊎ (same_key key other ≡ false)) → same_key key other ≡ false
    by_test (inl test) = absurd (both_ways _ off (ap (is_on shard) (same_key-true key other test) ∙ on))
    by_test (inr test) = test

-- two maps are the same at the keys of a shard
abbrev pub AgreeOn : ShardId → Values → Values → Type 0
AgreeOn shard values others = (key : Key) → is_on shard key ≡ true → values key ≡ others key

-- a value put at a key of another shard
with_value-off : (shard : ShardId) (key : Key) (value : Option ℕ) (values others : Values) → is_on shard key ≡ false
    → AgreeOn shard values others → AgreeOn shard (with_value key value values) others
with_value-off shard key value values others off agree other on = cond-false _ _ _ (off_shard shard key other off on) ∙ agree other on

after-on : (shard : ShardId) (op : Op) (values others : Values) → is_on shard (key_of op) ≡ true → AgreeOn shard values others
    → AgreeOn shard (after op values) (after op others)
after-on shard op values others on agree key on_key =
    ap (λ value. cond (same_key (key_of op) key) (left_by op value) (values key)) (agree (key_of op) on)
    ∙ ap (λ value. cond (same_key (key_of op) key) (left_by op (others (key_of op))) value) (agree key on_key)

-- the tests by which a shard's share is cut
abbrev pub op_on : ShardId → Op → Bool
op_on shard op = is_on shard (key_of op)

abbrev pub write_on : ShardId → Write → Bool
write_on shard write = is_on shard write.key

abbrev pub lock_on : ShardId → Lock → Bool
lock_on shard lock = is_on shard lock.key

-- a shard's operations leave there what all operations leave
pub after_all-share : (shard : ShardId) (ops : List Op) (values others : Values) → AgreeOn shard values others
    → AgreeOn shard (after_all ops values) (after_all (filter (op_on shard) ops) others)
after_all-share shard [] values others agree = agree
after_all-share shard (op ∷ ops) values others agree =
    by_test (op_on shard op) refl (λ next still. after_all-share shard ops (after op values) next still)
  where
    by_test : (test : Bool) → op_on shard op ≡ test
        → ((next : Values) → AgreeOn shard (after op values) next → AgreeOn shard (after_all ops (after op values)) (after_all (filter (op_on shard) ops) next))
        → AgreeOn shard (after_all ops (after op values)) (after_all (cond test (op ∷ filter (op_on shard) ops) (filter (op_on shard) ops)) others)
    by_test true on rest = rest (after op others) (after-on shard op values others on agree)
    by_test false off rest = rest others (with_value-off shard (key_of op) (left_by op (values (key_of op))) values others off agree)

-- and answer what all operations answer there
pub answers-share : (shard : ShardId) (ops : List Op) (values others : Values) → AgreeOn shard values others
    → share (op_on shard) ops (answers ops values) ≡ answers (filter (op_on shard) ops) others
answers-share shard [] values others agree = refl
answers-share shard (op ∷ ops) values others agree =
    by_test (op_on shard op) refl (λ next still. answers-share shard ops (after op values) next still)
  where
    by_test : (test : Bool) → op_on shard op ≡ test
        → ((next : Values) → AgreeOn shard (after op values) next → share (op_on shard) ops (answers ops (after op values)) ≡ answers (filter (op_on shard) ops) next)
        → cond test (answered op (values (key_of op)) ∷ share (op_on shard) ops (answers ops (after op values))) (share (op_on shard) ops (answers ops (after op values)))
        ≡ answers (cond test (op ∷ filter (op_on shard) ops) (filter (op_on shard) ops)) others
    by_test true on rest =
        let head = ap (answered op) (agree (key_of op) on) in
        let tail = rest (after op others) (after-on shard op values others on agree) in
        cc
    by_test false off rest = rest others (with_value-off shard (key_of op) (left_by op (values (key_of op))) values others off agree)

-- a shard's writes leave there what all writes leave
pub written-share : (shard : ShardId) (writes : List Write) (values others : Values) → AgreeOn shard values others
    → AgreeOn shard (written writes values) (written (filter (write_on shard) writes) others)
written-share shard [] values others agree = agree
written-share shard (write ∷ writes) values others agree =
    by_test (write_on shard write) refl (λ next still. written-share shard writes (with_value write.key (Some write.value) values) next still)
  where
    by_test : (test : Bool) → write_on shard write ≡ test
        → ((next : Values) → AgreeOn shard (with_value write.key (Some write.value) values) next
        → AgreeOn shard (written writes (with_value write.key (Some write.value) values)) (written (filter (write_on shard) writes) next))
        → AgreeOn shard (written writes (with_value write.key (Some write.value) values)) (written (cond test (write ∷ filter (write_on shard) writes) (filter (write_on shard) writes)) others)
    by_test true on rest =
        rest (with_value write.key (Some write.value) others)
        (λ key on_key. ap (λ value. cond (same_key write.key key) (Some write.value) value) (agree key on_key))
    by_test false off rest = rest others (with_value-off shard write.key (Some write.value) values others off agree)

-- the values of a shard's locks are those of the plan's keys there
pub reads-share : (shard : ShardId) (settings : List Setting) (keys : List Key) (values others : Values) → AgreeOn shard values others
    → share (is_on shard) keys (map values keys) ≡ map (λ lock. others lock.key) (filter (lock_on shard) (locks_in settings keys))
reads-share shard settings [] values others agree = refl
reads-share shard settings (key ∷ keys) values others agree = by_test (is_on shard key) refl (reads-share shard settings keys values others agree)
  where
    by_test : (test : Bool) → is_on shard key ≡ test
        → share (is_on shard) keys (map values keys) ≡ map (λ lock. others lock.key) (filter (lock_on shard) (locks_in settings keys))
        → cond test (values key ∷ share (is_on shard) keys (map values keys)) (share (is_on shard) keys (map values keys))
        ≡ map (λ lock. others lock.key) (cond test (record { key = key; mode = mode_of settings key } ∷ filter (lock_on shard) (locks_in settings keys)) (filter (lock_on shard) (locks_in settings keys)))
    by_test true on rest =
        let head = agree key on in
        cc
    by_test false off rest = rest

-- operations none of whose keys is on the shard
pub ops-off : (shard : ShardId) (ops : List Op) → any_on (map key_of ops) shard ≡ false → filter (op_on shard) ops ≡ []
ops-off shard [] none = refl
ops-off shard (op ∷ ops) none =
    let parts = or_parts (op_on shard op) (any_on (map key_of ops) shard) none in
    cond-false (op_on shard op) (op ∷ filter (op_on shard) ops) (filter (op_on shard) ops) parts.0 ∙ ops-off shard ops parts.1

-- a key among those of which none is on the shard isn't there either
among-off : (shard : ShardId) (keys : List Key) (key : Key) → is_among keys key ≡ true → any_on keys shard ≡ false → is_on shard key ≡ false
among-off shard [] key among none = cc
among-off shard (other ∷ keys) key among none =
    by_key (or_cases (same_key other key) (is_among keys key) among) (λ rest. among-off shard keys key rest (or_parts _ _ none).1)
  where
    by_key : ((same_key other key ≡ true) ⊎ (is_among keys key ≡ true)) → (is_among keys key ≡ true → is_on shard key ≡ false) → is_on shard key ≡ false
    by_key (inl same) rest = ap (is_on shard) (sym (same_key-true other key same)) ∙ (or_parts (is_on shard other) (any_on keys shard) none).0
    by_key (inr among') rest = rest among'

-- settings of keys of which none is on the shard write nothing there
pub writes-off : (shard : ShardId) (settings : List Setting) (keys : List Key) (values : Values)
    → list_all (λ setting. is_among keys setting.key) settings ≡ true → any_on keys shard ≡ false
    → filter (write_on shard) (writes_from settings values) ≡ []
writes-off shard [] keys values within none = refl
writes-off shard (setting ∷ settings) keys values within none =
    let parts = and_parts (is_among keys setting.key) (list_all (λ setting. is_among keys setting.key) settings) within in
    cond-false _ _ _ (among-off shard keys setting.key parts.0 none) ∙ writes-off shard settings keys values parts.1 none
