-- The other replicas of a shard, with one number more; used by the loop that lists them.
use Rattle.std.proofs.Common.{◌≡◌, ◌==◌, ◌+◌, ℕ, Bool, true, false, not, cond, List, [], ◌∷◌, ◌++◌, map, filter, refl, ap, ◌∙◌}
use Rattle.std.specs.List.{range_with_len}
use Rattle.eris_base.specs.declared.ids.Node.{Node}
use Rattle.eris_base.proofs.Numbers.{range_more}
use Rattle.eris_rules.specs.Addressees.{replica_node}
use Rattle.eris_rules.specs.ReplicaStates.{Member}
use Rattle.eris_member.specs.MemberValues.{other_node}

-- those among the numbers, and among so many from 0 on
abbrev pub others_among : Member → List ℕ → List Node
others_among me numbers = map (λ number. replica_node me.shard number) (filter (λ number. not (number == me.replica.0)) numbers)

abbrev pub others_upto : Member → ℕ → List Node
others_upto me count = others_among me (range_with_len 0 count)

one_more : (me : Member) (numbers : List ℕ) (number : ℕ) → others_among me (numbers ++ number ∷ []) ≡ others_among me numbers ++ other_node me number
one_more me [] number = by_test (number == me.replica.0)
  where
    by_test : (t : Bool) → map (λ (n : ℕ). replica_node me.shard n) (cond (not t) (number ∷ []) []) ≡ cond t [] (replica_node me.shard number ∷ [])
    by_test true = refl
    by_test false = refl
one_more me (first ∷ numbers) number = by_test (first == me.replica.0) (one_more me numbers number)
  where
    by_test : (t : Bool) → others_among me (numbers ++ number ∷ []) ≡ others_among me numbers ++ other_node me number
        → map (λ (n : ℕ). replica_node me.shard n) (cond (not t) (first ∷ filter (λ (n : ℕ). not (n == me.replica.0)) (numbers ++ number ∷ [])) (filter (λ (n : ℕ). not (n == me.replica.0)) (numbers ++ number ∷ [])))
        ≡ map (λ (n : ℕ). replica_node me.shard n) (cond (not t) (first ∷ filter (λ (n : ℕ). not (n == me.replica.0)) numbers) (filter (λ (n : ℕ). not (n == me.replica.0)) numbers)) ++ other_node me number
    by_test true rest = rest
    by_test false rest = ap (λ (nodes : List Node). replica_node me.shard first ∷ nodes) rest

pub others_more : (me : Member) (n : ℕ) → others_upto me (n + 1) ≡ others_upto me n ++ other_node me n
others_more me n = ap (λ (numbers : List ℕ). others_among me numbers) (range_more n) ∙ one_more me (range_with_len 0 n) n

pub ruleset other_replicas = (others_more)
