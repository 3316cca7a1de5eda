-- The participants of a body strictly ascend, and are exactly the shards of its keys.
use Rattle.std.proofs.Common.{◌≡◌, ◌<◌, ◌≤◌, ◌+◌, ℕ, Bool, true, false, ◌&&◌, ◌||◌, ◌==◌, nat_lt, Option, Some, None, List, [], ◌∷◌, length, map, fold, nat_le, refl, ap, sym, ◌∙◌, subst, arith}
use Rattle.std.proofs.lemmas.Bool.{and_parts, and_from, cond_both, eqb-true, ltb-false, eqb-false, lt-ltb, ltb-true, leb-true, le-leb}
use Rattle.std.proofs.lemmas.List.{length-map}
use Rattle.eris_base.specs.declared.ids.ShardId.{ShardId}
use Rattle.eris_base.specs.Places.{is_later}
use Rattle.eris_txn.specs.declared.body.Body.{Body}
use Rattle.eris_txn.specs.declared.key.Key.{Key}
use Rattle.eris_txn.specs.declared.body.Body.TheVariants.{Independent, Prelim, Commit, Abort}
use Rattle.eris_txn.specs.Operations.{key_of}
use Rattle.eris_txn.specs.Sizes.{is_few, body_has_size}
use Rattle.eris_txn.specs.Bodies.{keys_of, with_shard, shards_of, participants_of, ascends_from, has_shard, any_on}

-- a shard is put before the first, is the first, or goes behind it
put_by_order : (P : List ShardId → Type 0) (other : ShardId) (shards : List ShardId) (shard : ShardId)
    → (nat_lt shard.0 other.0 ≡ true → P (shard ∷ other ∷ shards))
    → ((shard.0 == other.0) ≡ true → P (other ∷ shards))
    → (nat_lt shard.0 other.0 ≡ false → (shard.0 == other.0) ≡ false → P (other ∷ with_shard shards shard))
    → P (with_shard (other ∷ shards) shard)
put_by_order P other shards shard below same above =
    cond_both (nat_lt shard.0 other.0) _ _ P below (λ h. cond_both (shard.0 == other.0) _ _ P same (above h))

behind : (m n : ℕ) → nat_lt m n ≡ false → (m == n) ≡ false → nat_lt n m ≡ true
behind m n h k =
    let apart : m ≡ n → ⊥ = eqb-false m n k in
    let above : n ≤ m = ltb-false m n h in
    lt-ltb n m (omega arith)

-- ascending shards still ascend with one more
pub ascends-with_shard : (before : Option ShardId) (shards : List ShardId) (shard : ShardId)
    → ascends_from before shards ≡ true → is_later before shard ≡ true → ascends_from before (with_shard shards shard) ≡ true
ascends-with_shard before [] shard h later = and_from (is_later before shard) true later refl
ascends-with_shard before (other ∷ shards) shard h later =
    let parts = and_parts (is_later before other) (ascends_from (Some other) shards) h in
    put_by_order (λ made. ascends_from before made ≡ true) other shards shard
    (λ below. and_from (is_later before shard) (nat_lt shard.0 other.0 && ascends_from (Some other) shards) later (and_from (nat_lt shard.0 other.0) (ascends_from (Some other) shards) below parts.1))
    (λ same. h)
    (λ above apart. and_from (is_later before other) (ascends_from (Some other) (with_shard shards shard)) parts.0 (ascends-with_shard (Some other) shards shard parts.1 (behind shard.0 other.0 above apart)))

or_turn : (a b c : Bool) → (a || (b || c)) ≡ (b || (a || c))
or_turn true true c = refl
or_turn true false c = refl
or_turn false b c = refl

or_twice : (a c : Bool) → (a || c) ≡ (a || (a || c))
or_twice true c = refl
or_twice false c = refl

-- the shards of a list with one more are that one and those before
pub has_shard-with_shard : (shards : List ShardId) (shard one : ShardId) → has_shard (with_shard shards shard) one ≡ ((shard.0 == one.0) || has_shard shards one)
has_shard-with_shard [] shard one = refl
has_shard-with_shard (other ∷ shards) shard one =
    put_by_order (λ made. has_shard made one ≡ ((shard.0 == one.0) || has_shard (other ∷ shards) one)) other shards shard
    (λ below. refl)
    (λ same. ap (λ n. (n == one.0) || has_shard shards one) (sym (eqb-true shard.0 other.0 same)) ∙ or_twice (shard.0 == one.0) (has_shard shards one) ∙ ap (λ n. (shard.0 == one.0) || ((n == one.0) || has_shard shards one)) (eqb-true shard.0 other.0 same))
    (λ above apart. ap (λ b. (other.0 == one.0) || b) (has_shard-with_shard shards shard one) ∙ or_turn (other.0 == one.0) (shard.0 == one.0) (has_shard shards one))

length-with_shard : (shards : List ShardId) (shard : ShardId) → length (with_shard shards shard) ≤ length shards + 1
length-with_shard [] shard = omega arith
length-with_shard (other ∷ shards) shard =
    let rest = length-with_shard shards shard in
    put_by_order (λ made. length made ≤ length (other ∷ shards) + 1) other shards shard
    (λ below. omega arith) (λ same. omega arith) (λ above apart. omega arith)

some-with_shard : (shards : List ShardId) (shard : ShardId) → 0 < length (with_shard shards shard)
some-with_shard [] shard = omega arith
some-with_shard (other ∷ shards) shard =
    put_by_order (λ made. 0 < length made) other shards shard (λ below. omega arith) (λ same. omega arith) (λ above apart. omega arith)

abbrev with_key : List ShardId → Key → List ShardId
with_key shards key = with_shard shards key.shard

fold-ascends : (keys : List Key) (shards : List ShardId) → ascends_from None shards ≡ true → ascends_from None (fold with_key shards keys) ≡ true
fold-ascends [] shards h = h
fold-ascends (key ∷ keys) shards h = fold-ascends keys (with_shard shards key.shard) (ascends-with_shard None shards key.shard h refl)

or_move : (a b c : Bool) → ((a || b) || c) ≡ (b || (a || c))
or_move true true c = refl
or_move true false c = refl
or_move false b c = refl

fold-has_shard : (keys : List Key) (shards : List ShardId) (one : ShardId) → has_shard (fold with_key shards keys) one ≡ (has_shard shards one || any_on keys one)
fold-has_shard [] shards one = or_nothing (has_shard shards one)
  where
    or_nothing : (b : Bool) → b ≡ (b || false)
    or_nothing true = refl
    or_nothing false = refl
fold-has_shard (key ∷ keys) shards one =
    fold-has_shard keys (with_shard shards key.shard) one
    ∙ ap (λ b. b || any_on keys one) (has_shard-with_shard shards key.shard one)
    ∙ or_move (key.shard.0 == one.0) (has_shard shards one) (any_on keys one)

fold-length : (keys : List Key) (shards : List ShardId) → length (fold with_key shards keys) ≤ length shards + length keys
fold-length [] shards = omega arith
fold-length (key ∷ keys) shards = omega (arith, fold-length keys (with_shard shards key.shard), length-with_shard shards key.shard)

fold-some : (keys : List Key) (shards : List ShardId) → 0 < length shards → 0 < length (fold with_key shards keys)
fold-some [] shards h = h
fold-some (key ∷ keys) shards h = fold-some keys (with_shard shards key.shard) (some-with_shard shards key.shard)

-- the shards of keys strictly ascend
pub shards_of-ascend : (keys : List Key) → ascends_from None (shards_of keys) ≡ true
shards_of-ascend keys = fold-ascends keys [] refl

-- and are exactly those that some key is of
pub has_shard-shards_of : (keys : List Key) (one : ShardId) → has_shard (shards_of keys) one ≡ any_on keys one
has_shard-shards_of keys one = fold-has_shard keys [] one

-- there are no more of them than keys
pub length-shards_of : (keys : List Key) → length (shards_of keys) ≤ length keys
length-shards_of keys = omega (arith, fold-length keys [])

-- and there is one where there is a key
pub shards_of-some : (keys : List Key) → 0 < length keys → 0 < length (shards_of keys)
shards_of-some [] h = absurd (omega arith)
shards_of-some (key ∷ keys) h = fold-some keys (key.shard ∷ []) (omega arith)

pub participants-ascend : (body : Body) → ascends_from None (participants_of body) ≡ true
participants-ascend body = shards_of-ascend (keys_of body)

pub has_shard-participants : (body : Body) (one : ShardId) → has_shard (participants_of body) one ≡ any_on (keys_of body) one
has_shard-participants body one = has_shard-shards_of (keys_of body) one

few_from : {X : Type 0} (items : List X) → 0 < length items → length items ≤ 32 → is_few items ≡ true
few_from items some few = and_from (nat_lt 0 (length items)) (nat_le (length items) 32) (lt-ltb 0 (length items) some) (le-leb (length items) 32 few)

few_map : {X Y : Type 0} (f : X → Y) (items : List X) → is_few items ≡ true → is_few (map f items) ≡ true
few_map f items h = subst (λ n. (nat_lt 0 n && nat_le n 32) ≡ true) (sym (length-map items f)) h

-- a body of its size speaks of 1 to 32 keys
pub keys_of-few : (body : Body) → body_has_size body ≡ true → is_few (keys_of body) ≡ true
keys_of-few (Independent ops) h = few_map key_of ops h
keys_of-few (Prelim locks) h = few_map (λ lock. lock.key) locks h
keys_of-few (Commit keys writes) h = h
keys_of-few (Abort keys) h = h

-- and 1 to 32 shards take part in it
pub participants-few : (body : Body) → body_has_size body ≡ true → is_few (participants_of body) ≡ true
participants-few body h =
    let keys = keys_of body in
    let parts = and_parts (nat_lt 0 (length keys)) (nat_le (length keys) 32) (keys_of-few body h) in
    few_from (shards_of keys)
    (shards_of-some keys (ltb-true 0 (length keys) parts.0))
    (omega (arith, length-shards_of keys, leb-true (length keys) 32 parts.1))

pub ruleset participant_laws = (participants-ascend, has_shard-participants, participants-few)
