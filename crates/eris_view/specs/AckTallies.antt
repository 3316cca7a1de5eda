-- What the learner of a view knows of the lengths of the other replicas' parts, and how far a quorum has
-- come.
use Rattle.std.specs.Prelude.{◌≡◌, ◌≤◌, ◌⊎◌, ℕ, zero, suc, Bool, true, ◌&&◌, nat_lt, nat_le, max, List, [], ◌∷◌, count_by, if◌then◌else◌}
use Rattle.eris_base.specs.declared.ids.ReplicaId.{ReplicaId}
use Rattle.eris_base.specs.Quorums.{same_replica}

-- how many faults the shard outlives, and the acknowledged lengths by replica ascending, each replica once
pub record AckTallyValue : Type 0 where
  pub f : ℕ
  pub acks : List (ReplicaId × ℕ)

unfoldable pub no_acks : ℕ → AckTallyValue
no_acks f = record { f = f; acks = [] }

-- the lengths with one more; of each replica the greatest is kept
unfoldable pub with_ack : List (ReplicaId × ℕ) → ReplicaId → ℕ → List (ReplicaId × ℕ)
with_ack [] replica length = (replica, length) ∷ []
with_ack (ack ∷ acks) replica length =
    if nat_lt replica.0 ack.0.0 then (replica, length) ∷ ack ∷ acks
    else if same_replica replica ack.0 then (replica, max ack.1 length) ∷ acks
    else ack ∷ with_ack acks replica length

-- the tally that notes the length of the replica
unfoldable pub note_length : AckTallyValue → ReplicaId → ℕ → AckTallyValue
note_length tally replica length = record tally { acks = with_ack tally.acks replica length }

-- how many acknowledged lengths are at least the number
unfoldable pub how_many_have : List (ReplicaId × ℕ) → ℕ → ℕ
how_many_have acks number = count_by (λ ack. nat_le number ack.1) acks

-- the own length and the acknowledged ones of at least the number are together at least f+1, the own among
-- them
unfoldable pub quorum_has : AckTallyValue → ℕ → ℕ → Bool
quorum_has tally own number = nat_le number own && nat_le tally.f (how_many_have tally.acks number)

-- the greatest number that passes, at most this one; 0 where none does
unfoldable pub greatest : (ℕ → Bool) → ℕ → ℕ
greatest test zero = 0
greatest test (suc number) = if test (suc number) then suc number else greatest test number

-- how far a quorum has come: the greatest number, at most the own length, that f+1 have, the own among them
unfoldable pub settled : AckTallyValue → ℕ → ℕ
settled tally own = greatest (quorum_has tally own) own

-- a quorum has this number, or it is 0, and none has a greater one
pub record IsSettled (tally : AckTallyValue) (own number : ℕ) : Type 0 where
  pub within : number ≤ own
  pub shared : (number ≡ 0) ⊎ (quorum_has tally own number ≡ true)
  pub greatest : (other : ℕ) → quorum_has tally own other ≡ true → other ≤ number
