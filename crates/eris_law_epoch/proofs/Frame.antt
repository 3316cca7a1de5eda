-- One replica changes at a time: a write at one replica leaves each other one as it was. It is used by every law
-- that follows a replica from one moment to the next.
use Rattle.std.proofs.Common.{◌≡◌, ◌⊎◌, inl, inr, ℕ, zero, suc, ◌+◌, ◌<◌, List, [], ◌∷◌, map, Option, Some, None, replicate, refl, sym, ap, ◌∙◌, arith}
use Rattle.std.specs.List.{range_with_len}
use Rattle.std.specs.Prelude.{slice_get, slice_set}
use Rattle.eris_base.specs.declared.ids.ReplicaId.{ReplicaId}
use Rattle.eris_base.specs.declared.ids.ShardId.{ShardId}
use Rattle.eris_base.specs.declared.ids.View.{View}
use Rattle.eris_base.proofs.IdLaws.{shard_equal}
use Rattle.eris_rules.specs.ReplicaStates.{EpochReplica, fresh}
use Rattle.eris_rules.specs.Addressees.{replica_count}
use Rattle.eris_rules.specs.Worlds.{in_row, replica_at, with_in_row, with_replica}
use Rattle.eris_law_epoch.specs.EpochWorlds.{EpochSystem, fresh_replicas, first_epoch_world}
use Rattle.eris_law_epoch.specs.Reading.{or_fresh, read}

pub read-some : (system : EpochSystem) (rows : List (List EpochReplica)) (shard : ShardId) (replica : ReplicaId) (state : EpochReplica)
    → replica_at rows shard replica ≡ Some state → read system rows shard replica ≡ state
unfolding read
read-some system rows shard replica state h = ap (or_fresh (fresh system.epoch shard)) h

pub get-set : {X : Type 0} (xs : List X) (i j : ℕ) (old y : X) → slice_get xs i ≡ Some old → ((j ≡ i) × (slice_get (slice_set xs i y) j ≡ Some y)) ⊎ (slice_get (slice_set xs i y) j ≡ slice_get xs j)
get-set [] i j old y h = absurd (cc)
get-set (x ∷ xs) zero zero old y h = inl (refl, refl)
get-set (x ∷ xs) zero (suc j) old y h = inr refl
get-set (x ∷ xs) (suc i) zero old y h = inr refl
get-set (x ∷ xs) (suc i) (suc j) old y h = elim (get-set xs i j old y h) [ inl e ↦ inl (ap suc e.0, e.1) | inr e ↦ inr e ]

pub get-set_same : {X : Type 0} (xs : List X) (i : ℕ) (old y : X) → slice_get xs i ≡ Some old → slice_get (slice_set xs i y) i ≡ Some y
get-set_same [] i old y h = absurd (cc)
get-set_same (x ∷ xs) zero old y h = refl
get-set_same (x ∷ xs) (suc i) old y h = get-set_same xs i old y h

-- names are their numbers
pub view_equal : (a b : View) → a.0 ≡ b.0 → a ≡ b
view_equal a b e = λ i. record { 0 = e i }

pub replica_equal : (a b : ReplicaId) → a.0 ≡ b.0 → a ≡ b
replica_equal a b e = λ i. record { 0 = e i }

module _ (system : EpochSystem) where
  -- it is the written one, or it reads as before
  abbrev pub IsWritten : List (List EpochReplica) → ShardId → ReplicaId → EpochReplica → ShardId → ReplicaId → Type 0
  IsWritten rows shard replica made a b =
      ((a ≡ shard) × (b ≡ replica) × (read system (with_replica rows shard replica made) a b ≡ made))
      ⊎ (read system (with_replica rows shard replica made) a b ≡ read system rows a b)

  after_write : (rows : List (List EpochReplica)) (s r : ℕ) (y : EpochReplica) (row : List EpochReplica) (a : ShardId) (b : ReplicaId) → slice_get rows s ≡ Some row
      → ((a.0 ≡ s) × (slice_get (slice_set rows s (slice_set row r y)) a.0 ≡ Some (slice_set row r y))) ⊎ (slice_get (slice_set rows s (slice_set row r y)) a.0 ≡ slice_get rows a.0)
      → ((b.0 ≡ r) × (slice_get (slice_set row r y) b.0 ≡ Some y)) ⊎ (slice_get (slice_set row r y) b.0 ≡ slice_get row b.0)
      → ((a.0 ≡ s) × (b.0 ≡ r) × (read system (slice_set rows s (slice_set row r y)) a b ≡ y)) ⊎ (read system (slice_set rows s (slice_set row r y)) a b ≡ read system rows a b)
  unfolding read replica_at
  after_write rows s r y row a b o (inr e) f = inr (ap (λ found. or_fresh (fresh system.epoch a) (in_row found b.0)) e)
  after_write rows s r y row a b o (inl e) (inl f) = inl (e.0, f.0, ap (λ found. or_fresh (fresh system.epoch a) (in_row found b.0)) e.1 ∙ ap (or_fresh (fresh system.epoch a)) f.1)
  after_write rows s r y row a b o (inl e) (inr f) =
      let u : slice_get rows a.0 ≡ Some row = ap (slice_get rows) e.0 ∙ o in
      inr (ap (λ found. or_fresh (fresh system.epoch a) (in_row found b.0)) e.1
      ∙ ap (or_fresh (fresh system.epoch a)) f
      ∙ sym (ap (λ found. or_fresh (fresh system.epoch a) (in_row found b.0)) u))

  written_some : (rows : List (List EpochReplica)) (s r : ℕ) (old y : EpochReplica) (o : Option (List EpochReplica)) → slice_get rows s ≡ o → in_row o r ≡ Some old → (a : ShardId) (b : ReplicaId)
      → ((a.0 ≡ s) × (b.0 ≡ r) × (read system (with_in_row rows s o r y) a b ≡ y)) ⊎ (read system (with_in_row rows s o r y) a b ≡ read system rows a b)
  written_some rows s r old y None o h a b = absurd (cc)
  written_some rows s r old y (Some row) o h a b = after_write rows s r y row a b o (get-set rows s a.0 row (slice_set row r y) o) (get-set row r b.0 old y h)

  pub written : (rows : List (List EpochReplica)) (shard : ShardId) (replica : ReplicaId) (old made : EpochReplica) → replica_at rows shard replica ≡ Some old
      → (a : ShardId) (b : ReplicaId) → IsWritten rows shard replica made a b
  unfolding replica_at with_replica
  written rows shard replica old made h a b = elim (written_some rows shard.0 replica.0 old made (slice_get rows shard.0) refl h a b) [
    | inl e ↦ inl (shard_equal a shard e.0, replica_equal b replica e.1, e.2)
    | inr e ↦ inr e
  ]

  same_some : (rows : List (List EpochReplica)) (s : ShardId) (r : ReplicaId) (old y : EpochReplica) (o : Option (List EpochReplica)) → slice_get rows s.0 ≡ o → in_row o r.0 ≡ Some old → read system (with_in_row rows s.0 o r.0 y) s r ≡ y
  unfolding read replica_at
  same_some rows s r old y None o h = absurd (cc)
  same_some rows s r old y (Some row) o h =
      ap (λ found. or_fresh (fresh system.epoch s) (in_row found r.0)) (get-set_same rows s.0 row (slice_set row r.0 y) o)
      ∙ ap (or_fresh (fresh system.epoch s)) (get-set_same row r.0 old y h)

  -- the written one reads as it was written
  pub written-same : (rows : List (List EpochReplica)) (shard : ShardId) (replica : ReplicaId) (old made : EpochReplica) → replica_at rows shard replica ≡ Some old
      → read system (with_replica rows shard replica made) shard replica ≡ made
  unfolding replica_at with_replica
  written-same rows shard replica old made h = same_some rows shard replica old made (slice_get rows shard.0) refl h

-- ---- which replicas there are
-- there are so many rows of so many replicas
pub record IsGrid (shards replicas : ℕ) (rows : List (List EpochReplica)) : Type 0 where
  pub at : (shard : ShardId) (replica : ReplicaId) (state : EpochReplica) → replica_at rows shard replica ≡ Some state → (shard.0 < shards) × (replica.0 < replicas)

get_set-some : {X : Type 0} (xs : List X) (i j : ℕ) (y z : X) → slice_get (slice_set xs i y) j ≡ Some z → (x : X) × (slice_get xs j ≡ Some x)
get_set-some [] i j y z h = absurd (cc)
get_set-some (x ∷ xs) zero zero y z h = (x, refl)
get_set-some (x ∷ xs) zero (suc j) y z h = (z, h)
get_set-some (x ∷ xs) (suc i) zero y z h = (x, refl)
get_set-some (x ∷ xs) (suc i) (suc j) y z h = get_set-some xs i j y z h

pub replica_there : (rows : List (List EpochReplica)) (shard : ShardId) (replica : ReplicaId) (made : EpochReplica) (a : ShardId) (b : ReplicaId) (state : EpochReplica)
    → replica_at (with_replica rows shard replica made) a b ≡ Some state → (was : EpochReplica) × (replica_at rows a b ≡ Some was)
unfolding replica_at with_replica
replica_there rows shard replica made a b state h = by_row (slice_get rows shard.0) refl h
  where
    in_other : (o : Option (List EpochReplica)) → slice_get rows a.0 ≡ o → in_row o b.0 ≡ Some state → (was : EpochReplica) × (in_row (slice_get rows a.0) b.0 ≡ Some was)
    in_other o e k = (state, ap (λ found. in_row found b.0) e ∙ k)

    by_row : (o : Option (List EpochReplica)) → slice_get rows shard.0 ≡ o → in_row (slice_get (with_in_row rows shard.0 o replica.0 made) a.0) b.0 ≡ Some state
        → (was : EpochReplica) × (in_row (slice_get rows a.0) b.0 ≡ Some was)
    by_row None o k = in_other (slice_get rows a.0) refl k
    by_row (Some row) o k = elim (get-set rows shard.0 a.0 row (slice_set row replica.0 made) o) [
      | inl e ↦ (let w = get_set-some row replica.0 b.0 made state (ap (λ found. in_row found b.0) (sym e.1) ∙ k) in (w.0, ap (λ found. in_row found b.0) (ap (slice_get rows) e.0 ∙ o) ∙ w.1))
      | inr e ↦ (state, ap (λ found. in_row found b.0) (sym e) ∙ k)
    ]

pub IsGrid-written : (n m : ℕ) (rows : List (List EpochReplica)) (shard : ShardId) (replica : ReplicaId) (made : EpochReplica) → IsGrid n m rows → IsGrid n m (with_replica rows shard replica made)
IsGrid-written n m rows shard replica made grid =
    record { at = λ a b state h. let w = replica_there rows shard replica made a b state h in grid.at a b w.0 w.1 }

-- at the start each replica is fresh, and there are as many as the config says
get-replicate : {X : Type 0} (n i : ℕ) (x y : X) → slice_get (replicate n x) i ≡ Some y → (i < n) × (x ≡ y)
get-replicate zero i x y h = absurd (cc)
get-replicate (suc n) zero x y h = (omega arith, cc)
get-replicate (suc n) (suc i) x y h = let rest = get-replicate n i x y h in (omega (arith, rest.0), rest.1)

in_range : (from many s r n : ℕ) (make : ℕ → EpochReplica) (state : EpochReplica)
    → in_row (slice_get (map (λ number. replicate n (make number)) (range_with_len from many)) s) r ≡ Some state → (s < many) × (r < n) × (make (from + s) ≡ state)
in_range from zero s r n make state h = absurd (cc)
in_range from (suc many) zero r n make state h =
    let rest = get-replicate n r (make from) state h in
    (omega arith, rest.0, ap make (plus_zero from) ∙ rest.1)
  where
    plus_zero : (m : ℕ) → m + 0 ≡ m
    plus_zero m = omega arith
in_range from (suc many) (suc s) r n make state h =
    let rest = in_range (from + 1) many s r n make state h in
    (omega (arith, rest.0), rest.1, ap make (next from s) ∙ rest.2)
  where
    next : (m k : ℕ) → m + suc k ≡ (m + 1) + k
    next m k = omega arith

pub first_grid : (system : EpochSystem) → IsGrid system.config.shards (replica_count system.config) (first_epoch_world system).replicas
unfolding first_epoch_world fresh_replicas replica_at
first_grid system = record {
  at = λ shard replica state h.
      let found = in_range 0 system.config.shards shard.0 replica.0 (replica_count system.config) (λ number. fresh system.epoch (record { 0 = number })) state h in
      (found.0, found.1);
}

pub first_fresh : (system : EpochSystem) (shard : ShardId) (replica : ReplicaId) → read system (first_epoch_world system).replicas shard replica ≡ fresh system.epoch shard
unfolding first_epoch_world fresh_replicas replica_at read
first_fresh system shard replica = by_found (in_row (slice_get (map (λ number. fresh_replicas system (record { 0 = number })) (range_with_len 0 system.config.shards)) shard.0) replica.0) refl
  where
    by_found : (o : Option EpochReplica) → in_row (slice_get (map (λ number. fresh_replicas system (record { 0 = number })) (range_with_len 0 system.config.shards)) shard.0) replica.0 ≡ o
        → or_fresh (fresh system.epoch shard) o ≡ fresh system.epoch shard
    by_found None h = refl
    by_found (Some state) h =
        sym (in_range 0 system.config.shards shard.0 replica.0 (replica_count system.config) (λ number. fresh system.epoch (record { 0 = number })) state h).2
        ∙ ap (λ number. fresh system.epoch (record { 0 = number })) (from_zero shard.0)
      where
        from_zero : (n : ℕ) → 0 + n ≡ n
        from_zero n = omega arith
