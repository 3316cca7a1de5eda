-- What a replica notes on its way into a view: the last part that each replica sent it.
use Rattle.std.specs.Prelude.{ℕ, Bool, List, [], ◌∷◌, nat_lt, map, fold, if◌then◌else◌}
use Rattle.eris_base.specs.declared.ids.ReplicaId.{ReplicaId}
use Rattle.eris_base.specs.declared.ids.View.{View}
use Rattle.eris_base.specs.Quorums.{same_replica, are_quorum}
use Rattle.eris_log.specs.PartValues.{PartValue}
use Rattle.eris_log.specs.Parts.{merge}

-- the view, how many faults the shard outlives, and the noted parts by replica ascending, each replica once
pub record ViewTallyValue : Type 0 where
  pub view : View
  pub f : ℕ
  pub noted : List (ReplicaId × PartValue)

unfoldable pub no_parts : View → ℕ → ViewTallyValue
no_parts view f = record { view = view; f = f; noted = [] }

-- the noted parts with this one in place of what its replica had
unfoldable pub with_part : List (ReplicaId × PartValue) → ReplicaId → PartValue → List (ReplicaId × PartValue)
with_part [] replica part = (replica, part) ∷ []
with_part (other ∷ noted) replica part =
    if nat_lt replica.0 other.0.0 then (replica, part) ∷ other ∷ noted
    else if same_replica replica other.0 then (replica, part) ∷ noted
    else other ∷ with_part noted replica part

-- the tally that notes the part of the replica; the last one of a replica counts
unfoldable pub note_part : ViewTallyValue → ReplicaId → PartValue → ViewTallyValue
note_part tally replica part = record tally { noted = with_part tally.noted replica part }

-- the replicas whose parts are noted
abbrev pub replicas_of : List (ReplicaId × PartValue) → List ReplicaId
replicas_of noted = map (λ one. one.0) noted

-- the noted replicas with this one are at least f+1 different ones
unfoldable pub is_ready : ViewTallyValue → ReplicaId → Bool
is_ready tally own = are_quorum (own ∷ replicas_of tally.noted) tally.f

-- the part with all noted parts merged into it, by replica ascending
unfoldable pub union_of : List (ReplicaId × PartValue) → PartValue → PartValue
union_of noted part = fold (λ made one. merge made one.1) part noted
