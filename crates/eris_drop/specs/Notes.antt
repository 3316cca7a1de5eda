-- Notes of temporary drops, and when a place is decided.
use Rattle.std.specs.Prelude.{ℕ, ◌+◌, ◌*◌, ◌<◌, Bool, not, ◌==◌, ◌&&◌, IsTrue, nat_lt, List, [], ◌∷◌, ◌++◌, map, if◌then◌else◌}
use Rattle.std.specs.List.{filter, list_any, list_all, range_with_len}
use Rattle.eris_base.specs.declared.config.Config.{Config}
use Rattle.eris_base.specs.declared.ids.Place.{Place}
use Rattle.eris_base.specs.declared.ids.ReplicaId.{ReplicaId}
use Rattle.eris_base.specs.declared.ids.ShardId.{ShardId}
use Rattle.eris_base.specs.declared.ids.View.{View}
use Rattle.eris_base.specs.Quorums.{learner_of, has_replica, are_quorum}
use Rattle.eris_log.specs.Places.{same_place}
use Rattle.eris_drop.specs.declared.drop_note.DropNote.{DropNote}

-- two notes that are equal
unfoldable pub same_note : DropNote → DropNote → Bool
same_note some other =
    same_place some.place other.place
    && (some.shard.0 == other.shard.0 && (some.replica.0 == other.replica.0 && some.view.0 == other.view.0))

-- the note is there
unfoldable pub has_note : List DropNote → DropNote → Bool
has_note notes note = list_any (λ other. same_note other note) notes

-- the notes with one more; a repeated one changes nothing
unfoldable pub note : List DropNote → DropNote → List DropNote
note notes another = if has_note notes another then notes else notes ++ another ∷ []

-- the notes without those of the place
unfoldable pub forget : List DropNote → Place → List DropNote
forget notes place = filter (λ other. not (same_place other.place place)) notes

-- a note of the place by one of the shard's 2f+1 replicas, in the view
unfoldable pub is_noted_in : ℕ → Place → ShardId → View → DropNote → Bool
is_noted_in f place shard view other =
    same_place other.place place
    && (other.shard.0 == shard.0 && (nat_lt other.replica.0 (2 * f + 1) && other.view.0 == view.0))

-- the replicas of the shard that noted the place in the view
abbrev pub noted_replicas : ℕ → List DropNote → Place → ShardId → View → List ReplicaId
noted_replicas f notes place shard view =
    map (λ other. other.replica) (filter (λ other. is_noted_in f place shard view other) notes)

-- f+1 different replicas of the shard noted the place in the view, the view's learner among them
unfoldable pub is_drop_quorum : ℕ → List DropNote → Place → ShardId → View → Bool
is_drop_quorum f notes place shard view =
    has_replica (noted_replicas f notes place shard view) (learner_of view f)
    && are_quorum (noted_replicas f notes place shard view) f

-- there is a view in which they did. It is then the view of one of their notes.
unfoldable pub has_drop_quorum : ℕ → List DropNote → Place → ShardId → Bool
has_drop_quorum f notes place shard =
    list_any (λ other. is_noted_in f place shard other.view other && is_drop_quorum f notes place shard other.view) notes

-- there is one for every shard
unfoldable pub decided : Config → List DropNote → Place → Bool
decided config notes place =
    list_all (λ number. has_drop_quorum config.f notes place (record { 0 = number })) (range_with_len 0 config.shards)

-- the same without a computation: each shard has a view with a quorum
pub record HasDropQuorum (f : ℕ) (notes : List DropNote) (place : Place) (shard : ShardId) : Type 0 where
  pub view : View
  pub learner : IsTrue (has_replica (noted_replicas f notes place shard view) (learner_of view f))
  pub quorum : IsTrue (are_quorum (noted_replicas f notes place shard view) f)

pub record IsDecided (config : Config) (notes : List DropNote) (place : Place) : Type 0 where
  pub at : (shard : ShardId) → shard.0 < config.shards → HasDropQuorum config.f notes place shard
