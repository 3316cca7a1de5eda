-- What is read of rows of replicas after a write at one of them, whatever the rows have: states of whole worlds
-- and states within one epoch alike.
use Rattle.std.proofs.Common.{◌≡◌, ◌⊎◌, inl, inr, ℕ, List, Option, Some, None, refl, sym, ap, ◌∙◌, subst}
use Rattle.std.proofs.lemmas.Bool.{cases_eq}
use Rattle.std.specs.Prelude.{slice_get, slice_set}
use Rattle.eris_base.specs.declared.ids.ReplicaId.{ReplicaId}
use Rattle.eris_base.specs.declared.ids.ShardId.{ShardId}
use Rattle.eris_base.proofs.IdLaws.{shard_equal}
use Rattle.eris_rules.specs.ReplicaStates.{ReplicaState}
use Rattle.eris_rules.specs.Worlds.{in_row, replica_at, with_in_row, with_replica}
use Rattle.eris_law_epoch.proofs.Frame.{replica_equal, get-set, get-set_same}
use Rattle.eris_law_agreement.specs.Alone.{or_first, state_of}

module _ {X : Type 0} where
  cell_write : (rows : List (List X)) (s r : ℕ) (y : X) (row : List X) (a b : ℕ) → slice_get rows s ≡ Some row
      → ((a ≡ s) × (slice_get (slice_set rows s (slice_set row r y)) a ≡ Some (slice_set row r y))) ⊎ (slice_get (slice_set rows s (slice_set row r y)) a ≡ slice_get rows a)
      → ((b ≡ r) × (slice_get (slice_set row r y) b ≡ Some y)) ⊎ (slice_get (slice_set row r y) b ≡ slice_get row b)
      → ((a ≡ s) × (b ≡ r) × (in_row (slice_get (slice_set rows s (slice_set row r y)) a) b ≡ Some y)) ⊎ (in_row (slice_get (slice_set rows s (slice_set row r y)) a) b ≡ in_row (slice_get rows a) b)
  cell_write rows s r y row a b o (inr e) f = inr (ap (λ found. in_row found b) e)
  cell_write rows s r y row a b o (inl e) (inl f) = inl (e.0, f.0, ap (λ found. in_row found b) e.1 ∙ f.1)
  cell_write rows s r y row a b o (inl e) (inr f) =
      let u : slice_get rows a ≡ Some row = ap (slice_get rows) e.0 ∙ o in
      inr (ap (λ found. in_row found b) e.1 ∙ f ∙ sym (ap (λ found. in_row found b) u))

  cell_some : (rows : List (List X)) (s r : ℕ) (old y : X) (o : Option (List X)) → slice_get rows s ≡ o → in_row o r ≡ Some old → (a b : ℕ)
      → ((a ≡ s) × (b ≡ r) × (in_row (slice_get (with_in_row rows s o r y) a) b ≡ Some y)) ⊎ (in_row (slice_get (with_in_row rows s o r y) a) b ≡ in_row (slice_get rows a) b)
  cell_some rows s r old y None o h a b = absurd (cc)
  cell_some rows s r old y (Some row) o h a b = cell_write rows s r y row a b o (get-set rows s a row (slice_set row r y) o) (get-set row r b old y h)

  -- what stands at a replica after a write: it is the written one, or as before
  pub cell : (rows : List (List X)) (shard : ShardId) (replica : ReplicaId) (old made : X) → replica_at rows shard replica ≡ Some old → (a : ShardId) (b : ReplicaId)
      → ((a ≡ shard) × (b ≡ replica) × (replica_at (with_replica rows shard replica made) a b ≡ Some made)) ⊎ (replica_at (with_replica rows shard replica made) a b ≡ replica_at rows a b)
  unfolding replica_at with_replica
  cell rows shard replica old made h a b = elim (cell_some rows shard.0 replica.0 old made (slice_get rows shard.0) refl h a.0 b.0) [
    | inl e ↦ inl (shard_equal a shard e.0, replica_equal b replica e.1, e.2)
    | inr e ↦ inr e
  ]

  same_some : (rows : List (List X)) (s r : ℕ) (old y : X) (o : Option (List X)) → slice_get rows s ≡ o → in_row o r ≡ Some old → in_row (slice_get (with_in_row rows s o r y) s) r ≡ Some y
  same_some rows s r old y None o h = absurd (cc)
  same_some rows s r old y (Some row) o h = ap (λ found. in_row found r) (get-set_same rows s row (slice_set row r y) o) ∙ get-set_same row r old y h

  pub cell-same : (rows : List (List X)) (shard : ShardId) (replica : ReplicaId) (old made : X) → replica_at rows shard replica ≡ Some old
      → replica_at (with_replica rows shard replica made) shard replica ≡ Some made
  unfolding replica_at with_replica
  cell-same rows shard replica old made h = same_some rows shard.0 replica.0 old made (slice_get rows shard.0) refl h

pub state_of-some : (rows : List (List ReplicaState)) (shard : ShardId) (replica : ReplicaId) (state : ReplicaState) → replica_at rows shard replica ≡ Some state
    → state_of rows shard replica ≡ state
unfolding state_of
state_of-some rows shard replica state h = ap (or_first shard) h

pub state-same : (rows : List (List ReplicaState)) (shard : ShardId) (replica : ReplicaId) (old made : ReplicaState) → replica_at rows shard replica ≡ Some old
    → state_of (with_replica rows shard replica made) shard replica ≡ made
state-same rows shard replica old made h = state_of-some (with_replica rows shard replica made) shard replica made (cell-same rows shard replica old made h)

pub state-other : (rows : List (List ReplicaState)) (shard : ShardId) (replica : ReplicaId) (old made : ReplicaState) → replica_at rows shard replica ≡ Some old
    → (a : ShardId) (b : ReplicaId) → (a ≡ shard → b ≡ replica → ⊥) → state_of (with_replica rows shard replica made) a b ≡ state_of rows a b
unfolding state_of
state-other rows shard replica old made h a b apart = elim (cell rows shard replica old made h a b) [
  | inl e ↦ absurd (apart e.0 e.1)
  | inr e ↦ ap (or_first a) e
]

-- what holds at one replica, and at each other one, holds everywhere
pub everywhere : (P : ShardId → ReplicaId → Type 0) (shard : ShardId) (replica : ReplicaId) → P shard replica
    → ((a : ShardId) (b : ReplicaId) → (a ≡ shard → b ≡ replica → ⊥) → P a b) → (a : ShardId) (b : ReplicaId) → P a b
everywhere P shard replica here there a b = elim (cases_eq a.0 shard.0) [
  | inr apart ↦ there a b (λ e d. apart (ap (λ (x : ShardId). x.0) e))
  | inl e ↦ elim (cases_eq b.0 replica.0) [
    | inr apart ↦ there a b (λ d f. apart (ap (λ (x : ReplicaId). x.0) f))
    | inl d ↦ subst (λ x. P x b) (sym (shard_equal a shard e)) (subst (λ y. P shard y) (sym (replica_equal b replica d)) here)
  ]
]
