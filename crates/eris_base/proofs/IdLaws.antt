-- Clients, shards and epochs are their numbers.
use Rattle.std.proofs.Common.{◌≡◌, ◌==◌, true}
use Rattle.std.proofs.lemmas.Bool.{eqb-true}
use Rattle.eris_base.specs.declared.ids.ClientId.{ClientId}
use Rattle.eris_base.specs.declared.ids.Epoch.{Epoch}
use Rattle.eris_base.specs.declared.ids.ShardId.{ShardId}

pub client_equal : (some other : ClientId) → some.0 ≡ other.0 → some ≡ other
client_equal some other same = λ i. record { 0 = same i }

pub epoch_equal : (some other : Epoch) → some.0 ≡ other.0 → some ≡ other
epoch_equal some other same = λ i. record { 0 = same i }

pub shard_equal : (some other : ShardId) → some.0 ≡ other.0 → some ≡ other
shard_equal some other same = λ i. record { 0 = same i }

-- the test of their numbers is true for equal ones alone
pub shard_by_test : (some other : ShardId) → (some.0 == other.0) ≡ true → some ≡ other
shard_by_test some other h = shard_equal some other (eqb-true some.0 other.0 h)
