-- The replicas of a config, one by one.
use Rattle.std.proofs.Common.{◌≡◌, ℕ, ◌+◌, List, [], ◌∷◌, ◌++◌, map, refl, sym, ap, ◌∙◌, append_assoc, append-nil, arith}
use Rattle.std.specs.List.{flat_map, range_with_len}
use Rattle.std.proofs.lemmas.List.Concat.{flat_map-append}
use Rattle.std.proofs.lemmas.List.FromFn.{map-range_with_len_more}
use Rattle.eris_base.specs.declared.ids.ReplicaId.{ReplicaId}
use Rattle.eris_base.specs.declared.ids.ShardId.{ShardId}
use Rattle.eris_report_range.specs.ReportRanges.{replica_at}

pub one_more_replica : (before names more : List (ShardId × ReplicaId)) (shard n : ℕ) →
    names ≡ before ++ map (replica_at shard) (range_with_len 0 n) → more ≡ names ++ replica_at shard n ∷ [] →
    more ≡ before ++ map (replica_at shard) (range_with_len 0 (n + 1))
one_more_replica before names more shard n so_far pushed =
    pushed ∙ ap (λ (z : List (ShardId × ReplicaId)). z ++ replica_at shard n ∷ []) so_far
    ∙ append_assoc before (map (replica_at shard) (range_with_len 0 n)) (replica_at shard n ∷ [])
    ∙ ap (λ (z : List (ShardId × ReplicaId)). before ++ z) (sym (map-range_with_len_more (replica_at shard) 0 n n (omega arith)))

map_self : (xs : List ℕ) → map (λ x. x) xs ≡ xs
map_self [] = refl
map_self (x ∷ xs) = ap (λ (z : List ℕ). x ∷ z) (map_self xs)

range_more : (n : ℕ) → range_with_len 0 (n + 1) ≡ range_with_len 0 n ++ n ∷ []
range_more n =
    sym (map_self (range_with_len 0 (n + 1))) ∙ map-range_with_len_more (λ x. x) 0 n n (omega arith)
    ∙ ap (λ (z : List ℕ). z ++ n ∷ []) (map_self (range_with_len 0 n))

abbrev named : ℕ → ℕ → List (ShardId × ReplicaId)
named count shard = map (replica_at shard) (range_with_len 0 count)

pub one_more_shard : (names more : List (ShardId × ReplicaId)) (count n : ℕ) →
    names ≡ flat_map (λ shard. map (replica_at shard) (range_with_len 0 count)) (range_with_len 0 n) →
    more ≡ names ++ map (replica_at n) (range_with_len 0 count) →
    more ≡ flat_map (λ shard. map (replica_at shard) (range_with_len 0 count)) (range_with_len 0 (n + 1))
one_more_shard names more count n so_far added =
    added ∙ ap (λ (z : List (ShardId × ReplicaId)). z ++ named count n) so_far
    ∙ ap (λ (z : List (ShardId × ReplicaId)). flat_map (named count) (range_with_len 0 n) ++ z) (sym (append-nil (named count n)))
    ∙ sym (flat_map-append (named count) (range_with_len 0 n) (n ∷ []))
    ∙ ap (flat_map (named count)) (sym (range_more n))

pub ruleset replica_steps = (one_more_replica)

pub ruleset shard_steps = (one_more_shard)
