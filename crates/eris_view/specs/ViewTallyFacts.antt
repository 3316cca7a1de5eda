-- What a tally of a view keeps, and what an unfinished union leaves.
use Rattle.std.specs.Prelude.{◌≡◌, ◌<◌, ℕ, Bool, IsTrue, List, length, take}
use Rattle.std.specs.Ordering.{nat_cmp}
use Rattle.eris_base.specs.declared.ids.ReplicaId.{ReplicaId}
use Rattle.eris_log.specs.Growth.{OfOneShard}
use Rattle.eris_log.specs.PartValues.{PartValue}
use Rattle.eris_log.specs.Sorted.{ascends}
use Rattle.eris_base.specs.Each.{Each}
use Rattle.eris_view.specs.ViewTallies.{ViewTallyValue, union_of}

-- the replicas of the noted parts strictly ascend
abbrev pub replicas_ascend : List (ReplicaId × PartValue) → Bool
replicas_ascend noted = ascends (λ one. one.0.0) nat_cmp noted

-- the facts that a tally keeps
pub record IsViewTally (tally : ViewTallyValue) : Type 0 where
  pub ascend : IsTrue (replicas_ascend tally.noted)

-- the noted parts are of the part's epoch and shard
abbrev pub AreOfShard : PartValue → List (ReplicaId × PartValue) → Type 0
AreOfShard part noted = Each (λ one. OfOneShard part one.1) noted

-- some of the noted parts were merged into the part, from the first replica on, but not all of them
pub record IsUnionBegun (noted : List (ReplicaId × PartValue)) (before after : PartValue) : Type 0 where
  pub count : ℕ
  pub few : count < length noted
  pub merged : after ≡ union_of (take count noted) before
