-- WHY NO EVENT OF A DRILL IS REFUSED where its world stands as it should: clients and shards are the bank's, replicas are up, and
-- a client asks again for what it submitted.
use Rattle.std.proofs.Common.{◌≡◌, ◌≤◌, ◌+◌, ◌%◌, ◌&&◌, ℕ, Bool, true, false, cond, not, Option, Some, None, is_none, is_some, List, [], ◌∷◌, refl, ap, ◌∙◌, arith}
use Rattle.std.proofs.lemmas.Bool.Decides.{nat_tests}
use Rattle.std.proofs.lemmas.Bool.{and_from}
use Rattle.std.specs.List.{list_any}
use Rattle.eris_base.specs.declared.ids.ReplicaId.{ReplicaId}
use Rattle.eris_base.specs.declared.ids.ShardId.{ShardId}
use Rattle.eris_txn.specs.declared.key.Key.{Key}
use Rattle.eris_event.specs.declared.refusal.Refusal.{Refusal}
use Rattle.eris_event.specs.declared.refusal.Refusal.TheVariants.{NoSuchClient, NoSuchShard, NoSuchTxn, NoSuchReplica, Crashed}
use Rattle.eris_rules.specs.declared.transaction.Transaction.{Transaction}
use Rattle.eris_rules.specs.ClientStates.{ClientState, transaction_at}
use Rattle.eris_rules.specs.Happenings.{submitted_at, transaction_of}
use Rattle.eris_rules.specs.Known.{knows_client, knows_keys, knows_replica, knows_shard}
use Rattle.eris_rules.specs.Refusals.{cause, retry_cause, submit_cause, timer_cause}
use Rattle.eris_rules.specs.Worlds.{WorldState, has_crashed, same_replica_of}
use Rattle.eris_drill.specs.DrillLines.{account, bank, payee, payer, teller}
use Rattle.eris_drill.specs.declared.turn.Turn.{Turn}
use Rattle.eris_law_drill_run.proofs.Standing.{HasSubmitted}

free : (first second : Bool) (cause other : Option Refusal) → first ≡ true → second ≡ true → cond (not first) cause (cond (not second) other None) ≡ None
free true true cause other is too = refl
free true false cause other is too = absurd (cc)
free false second cause other is too = absurd (cc)

free_but : (first second : Bool) (cause other : Option Refusal) → first ≡ true → second ≡ false → cond (not first) cause (cond second other None) ≡ None
free_but true true cause other is off = absurd (cc)
free_but true false cause other is off = refl
free_but false second cause other is off = absurd (cc)

-- ---- who is of the bank
pub teller_known : (at : ℕ) → knows_client bank (teller at) ≡ true
unfolding teller bank
teller_known at = grind (arith, nat_tests)

pub account_known : (number : ℕ) → knows_shard bank (account number).shard ≡ true
unfolding account bank
account_known number = grind (arith, nat_tests)

pub key_known : (number : ℕ) → knows_keys bank (account number ∷ []) ≡ true
unfolding knows_keys
key_known number = and_from _ _ (account_known number) refl

pub keys_known : (turn : Turn) → knows_keys bank (payer turn ∷ payee turn ∷ []) ≡ true
unfolding knows_keys payer payee
keys_known turn = and_from _ _ (account_known turn.payer) (and_from _ _ (account_known ((turn.payer + 1 + turn.distance) % 16)) refl)

-- ---- submissions
pub submit_free : (at : ℕ) (keys : List Key) → knows_keys bank keys ≡ true → submit_cause bank (teller at) keys ≡ None
unfolding submit_cause
submit_free at keys known = free (knows_client bank (teller at)) (knows_keys bank keys) (Some NoSuchClient) (Some NoSuchShard) (teller_known at) known

-- ---- timers
-- the replica isn't among those that crashed
abbrev pub IsUp : List (ShardId × ReplicaId) → ShardId → ReplicaId → Type 0
IsUp down shard replica = list_any (same_replica_of shard replica) down ≡ false

pub timer_free : (world : WorldState) (down : List (ShardId × ReplicaId)) (shard : ShardId) (replica : ReplicaId) → world.crashed ≡ down
    → (knows_shard bank shard && knows_replica bank replica) ≡ true → IsUp down shard replica → timer_cause bank world shard replica ≡ None
unfolding timer_cause has_crashed
timer_free world down shard replica is known up =
    free_but (knows_shard bank shard && knows_replica bank replica) (list_any (same_replica_of shard replica) world.crashed) (Some NoSuchReplica) (Some Crashed) known
    (ap (list_any (same_replica_of shard replica)) is ∙ up)

-- ---- retries
there_is : (found : Option Transaction) → is_some found ≡ true → is_none found ≡ false
there_is None is = absurd (cc)
there_is (Some transaction) is = refl

submitted_there : (world : WorldState) (client number count : ℕ) → HasSubmitted world client count → 1 ≤ number → number ≤ count
    → is_none (submitted_at world (record { client = record { 0 = client }; number = number })) ≡ false
unfolding submitted_at
submitted_there world client number count has some few =
    ap (λ (found : Option ClientState). is_none (transaction_of found (record { client = record { 0 = client }; number = number }))) has.there
    ∙ there_is (transaction_at has.state (record { client = record { 0 = client }; number = number })) (has.known number some few)

pub retry_free : (world : WorldState) (at number count : ℕ) → HasSubmitted world (at % 8) count → 1 ≤ number → number ≤ count → retry_cause bank world (teller at) number ≡ None
unfolding retry_cause teller
retry_free world at number count has some few =
    free_but (knows_client bank (teller at)) (is_none (submitted_at world (record { client = teller at; number = number }))) (Some NoSuchClient) (Some NoSuchTxn)
    (teller_known at) (submitted_there world (at % 8) number count has some few)
