-- ONE EVENT THAT IS TAKEN: what holds at every moment holds after it, with one more down where it is a crash, and
-- with as much more to come as it causes.
use Rattle.std.proofs.Common.{◌≡◌, ◌≤◌, ◌<◌, ◌+◌, ◌-◌, ℕ, Bool, true, false, cond, ◌==◌, nat_lt, Option, Some, None, List, [], ◌∷◌, length, refl, sym, subst, arith}
use Rattle.std.proofs.lemmas.Bool.{ltb-false}
use Rattle.std.specs.Option.{option_or}
use Rattle.eris_base.specs.declared.ids.ClientId.{ClientId}
use Rattle.eris_base.specs.declared.ids.ReplicaId.{ReplicaId}
use Rattle.eris_base.specs.declared.ids.ShardId.{ShardId}
use Rattle.eris_base.specs.ConfigLimits.{ConfigValue}
use Rattle.eris_txn.specs.declared.op.Op.{Op}
use Rattle.eris_msg.specs.declared.outgoing.Outgoing.{Outgoing}
use Rattle.eris_event.specs.declared.event.Event.{Event}
use Rattle.eris_event.specs.declared.refusal.Refusal.{Refusal}
use Rattle.eris_rules.specs.Happenings.{after_client, happens}
use Rattle.eris_rules.specs.Refusals.{cause, frame_sizes, limit_met, refusal}
use Rattle.eris_rules.specs.Runs.{taken_by, world_after}
use Rattle.eris_rules.specs.Worlds.{WorldState, with_sends}
use Rattle.eris_law_agreement.proofs.Moments.{taken}
use Rattle.eris_law_course.specs.Accepted.{IsEventFit}
use Rattle.eris_law_calm.specs.Calm.{IsCalm}
use Rattle.eris_law_calm.specs.Crashes.{one_if}
use Rattle.eris_law_calm_step.specs.CalmEvents.{crashes_on, is_calm, packets_for}
use Rattle.eris_law_calm_step.proofs.Flowing.{calm_flow}
use Rattle.eris_law_calm_step.proofs.Submitting.{calm_crashed, calm_submitted, crashed_world, takes_submission}

-- ---- an event that is taken
pub record WasTaken (config : ConfigValue) (world : WorldState) (event : Event) : Type 0 where
  pub no_cause : cause config world event ≡ None
  pub few : length (happens config world event).sent ≤ 262144

few_by : (sent : List Outgoing) → limit_met sent ≡ None → length sent ≤ 262144
unfolding limit_met
few_by sent h = by_test (nat_lt 262144 (length sent)) refl h
  where
    by_test : (b : Bool) → nat_lt 262144 (length sent) ≡ b → cond b (Some Refusal.Packets) (cond (nat_lt 67108864 (frame_sizes sent)) (Some Refusal.Bytes) None) ≡ None → length sent ≤ 262144
    by_test true e k = absurd (cc)
    by_test false e k = ltb-false 262144 (length sent) e

pub was_taken : (config : ConfigValue) (world after : WorldState) (event : Event) → world_after config world event ≡ Some after → WasTaken config world event
unfolding world_after refusal
was_taken config world after event h = by_cause (cause config world event) refl (limit_met (happens config world event).sent) refl h
  where
    by_cause : (why : Option Refusal) → cause config world event ≡ why → (met : Option Refusal) → limit_met (happens config world event).sent ≡ met → taken_by (happens config world event) (option_or why met) ≡ Some after → WasTaken config world event
    by_cause None e None m k = record { no_cause = e; few = few_by _ m }
    by_cause None e (Some met) m k = absurd (cc)
    by_cause (Some why) e met m k = absurd (cc)

pub some_ops : (ops : List Op) → (ops ≡ [] → ⊥) → 0 < length ops
some_ops [] h = absurd (h refl)
some_ops (op ∷ ops) h = omega arith

module _ (config : ConfigValue) where
  pub weaker : (limits more : ShardId → ℕ) (budget greater : ℕ) (world : WorldState) → ((shard : ShardId) → limits shard ≤ more shard) → budget ≤ greater → IsCalm config limits budget world → IsCalm config more greater world
  weaker limits more budget greater world up high (done, rest, calm) = (
    done,
    rest,
    record {
      queue = calm.queue;
      few_sent = calm.few_sent;
      weighs = omega (arith, calm.weighs, high);
      stamping = calm.stamping;
      stampings = calm.stampings;
      epoch = calm.epoch;
      counters = calm.counters;
      fine = calm.fine;
      cells = calm.cells;
      few = λ shard. (let was = calm.few shard in let le = up shard in omega (arith, was, le));
      first_up = calm.first_up;
      clients = calm.clients;
      whole = calm.whole;
      jobs = calm.jobs;
    },
  )

  submit_calm : (limits : ShardId → ℕ) (budget : ℕ) (world : WorldState) (client : ClientId) (ops : List Op) → IsEventFit (Event.Submit client ops) → WasTaken config world (Event.Submit client ops)
      → IsCalm config limits budget world → IsCalm config limits (budget + packets_for config (Event.Submit client ops)) (happens config world (Event.Submit client ops))
  unfolding happens cause after_client with_sends
  submit_calm limits budget world client ops fits is (done, rest, calm) =
      let some = some_ops ops fits in
      let same = takes_submission config limits budget world done rest client ops some is.no_cause calm in
      subst (λ (w : WorldState). IsCalm config limits (budget + packets_for config (Event.Submit client ops)) w) (sym same)
      (done, _, calm_submitted config limits budget world done rest client ops some is.no_cause calm (subst (λ (w : WorldState). length w.sent ≤ 262144) same is.few))

  crash_calm : (limits : ShardId → ℕ) (budget : ℕ) (world : WorldState) (shard : ShardId) (replica : ReplicaId) → is_calm (Event.Crash shard replica) ≡ true → IsCalm config limits budget world
      → IsCalm config (λ other. limits other + one_if (crashes_on other (Event.Crash shard replica))) (budget + 0) (happens config world (Event.Crash shard replica))
  unfolding happens
  crash_calm limits budget world shard replica not_first (done, rest, calm) =
      weaker (λ other. limits other + one_if (shard.0 == other.0)) (λ other. limits other + one_if (shard.0 == other.0)) budget (budget + 0) (crashed_world config limits budget world done rest shard replica not_first calm) (λ other. omega arith) (omega arith)
      (done, rest, calm_crashed config limits budget world done rest shard replica not_first calm)

  -- ONE EVENT
  pub event_calm : (limits : ShardId → ℕ) (budget : ℕ) (world : WorldState) (event : Event) → is_calm event ≡ true → IsEventFit event → WasTaken config world event → IsCalm config limits budget world
      → IsCalm config (λ shard. limits shard + one_if (crashes_on shard event)) (budget + packets_for config event) (happens config world event)
  event_calm limits budget world (Event.Submit client ops) calm fit is now =
      weaker limits (λ shard. limits shard + 0) _ _ (happens config world (Event.Submit client ops)) (λ shard. omega arith) (omega arith) (submit_calm limits budget world client ops fit is now)
  event_calm limits budget world Event.Flow calm fit is now =
      weaker limits (λ shard. limits shard + 0) (budget - 1) (budget + 0) (happens config world Event.Flow) (λ shard. omega arith) (omega arith) (calm_flow config limits budget world now is.few)
  event_calm limits budget world (Event.Crash shard replica) calm fit is now = crash_calm limits budget world shard replica calm now
  event_calm limits budget world event calm fit is now = absurd (cc)

  -- AND ITS WORLD is calm
  pub after_calm : (limits : ShardId → ℕ) (budget : ℕ) (world next : WorldState) (event : Event) → is_calm event ≡ true → IsEventFit event → world_after config world event ≡ Some next → IsCalm config limits budget world
      → IsCalm config (λ shard. limits shard + one_if (crashes_on shard event)) (budget + packets_for config event) next
  after_calm limits budget world next event calm fit e now =
      subst (IsCalm config (λ shard. limits shard + one_if (crashes_on shard event)) (budget + packets_for config event)) (taken config world next event e) (event_calm limits budget world event calm fit (was_taken config world next event e) now)

  -- A DELIVERY takes some of what is to come
  pub after_flow : (limits : ShardId → ℕ) (budget : ℕ) (world next : WorldState) → world_after config world Event.Flow ≡ Some next → IsCalm config limits budget world → IsCalm config limits (budget - 1) next
  after_flow limits budget world next e now =
      let is = was_taken config world next Event.Flow e in
      subst (IsCalm config limits (budget - 1)) (taken config world next Event.Flow e) (calm_flow config limits budget world now is.few)
