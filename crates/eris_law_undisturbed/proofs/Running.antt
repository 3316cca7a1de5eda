-- A RUN THAT NOTHING DISTURBS: what holds at every moment holds at its end, where nothing waits any more.
use Rattle.std.proofs.Common.{◌≡◌, ◌+◌, ◌-◌, ◌⊎◌, inl, inr, ℕ, zero, suc, Bool, true, false, cond, Option, Some, None, List, [], ◌∷◌, ◌++◌, length, replicate, refl, sym, subst, arith}
use Rattle.std.proofs.lemmas.Bool.{and_parts}
use Rattle.std.specs.List.{filter, list_all}
use Rattle.eris_base.specs.declared.ids.ClientId.{ClientId}
use Rattle.eris_base.specs.declared.ids.ShardId.{ShardId}
use Rattle.eris_base.specs.declared.ids.TxnId.{TxnId}
use Rattle.eris_base.specs.ConfigLimits.{ConfigValue}
use Rattle.eris_txn.specs.declared.history.HistoryEvent.{HistoryEvent}
use Rattle.eris_txn.specs.declared.op.Op.{Op}
use Rattle.eris_txn.specs.declared.txn.Txn.{Txn}
use Rattle.eris_event.specs.declared.event.Event.{Event}
use Rattle.eris_rules.specs.ClientStates.{next_id}
use Rattle.eris_rules.specs.Clients.{begins_half, submit}
use Rattle.eris_law_epoch.specs.Members.{In}
use Rattle.eris_law_epoch.proofs.Members.{In-right}
use Rattle.eris_rules.specs.Happenings.{after_client, happens}
use Rattle.eris_rules.specs.Refusals.{cause}
use Rattle.eris_rules.specs.Runs.{run_from, world_after}
use Rattle.eris_rules.specs.Worlds.{WorldState, with_sends}
use Rattle.eris_rules.proofs.RunLaws.{none_run}
use Rattle.eris_law_agreement.proofs.Moments.{taken}
use Rattle.eris_law_course.specs.Accepted.{AreEventsFit, IsEventFit}
use Rattle.eris_law_calm.specs.Calm.{IsCalm, Submitted}
use Rattle.eris_law_calm.specs.Crashes.{one_if}
use Rattle.eris_law_calm_step.specs.CalmEvents.{crashes_on, is_calm, packets_for}
use Rattle.eris_law_calm_step.proofs.Stepping.{WasTaken, was_taken, after_calm, after_flow, some_ops, weaker}
use Rattle.eris_law_calm_step.proofs.Submitting.{client_is, takes_submission}
use Rattle.eris_law_undisturbed.specs.Undisturbed.{crashes, packets_for_all}
use Rattle.eris_law_undisturbed.proofs.Growing.{run_grows}

module _ (config : ConfigValue) where
  count_one : (b : Bool) (event : Event) (rest : List Event) → one_if b + length rest ≡ length (cond b (event ∷ rest) rest)
  count_one true event rest = omega arith
  count_one false event rest = omega arith

  -- EVENTS, one after another
  pub run_calm : (limits : ShardId → ℕ) (budget : ℕ) (world : WorldState) (events : List Event) (last : WorldState) → list_all is_calm events ≡ true → AreEventsFit events
      → run_from config (Some world) events ≡ Some last → IsCalm config limits budget world → IsCalm config (λ shard. limits shard + crashes shard events) (budget + packets_for_all config events) last
  unfolding run_from
  run_calm limits budget world [] last calm fit h now =
      let same : world ≡ last = cc in
      weaker config limits (λ shard. limits shard + 0) budget (budget + 0) last (λ shard. omega arith) (omega arith) (subst (IsCalm config limits budget) same now)
  run_calm limits budget world (event ∷ events) last calm fit h now =
      by_next (world_after config world event) refl h
      (λ next k is. run_calm (λ shard. limits shard + one_if (crashes_on shard event)) (budget + packets_for config event) next events last (and_parts _ _ calm).1 fit.1 k is)
    where
      by_next : (next : Option WorldState) → world_after config world event ≡ next → run_from config next events ≡ Some last
          → ((next : WorldState) → run_from config (Some next) events ≡ Some last → IsCalm config (λ shard. limits shard + one_if (crashes_on shard event)) (budget + packets_for config event) next
          → IsCalm config (λ shard. (limits shard + one_if (crashes_on shard event)) + crashes shard events) ((budget + packets_for config event) + packets_for_all config events) last)
          → IsCalm config (λ shard. limits shard + crashes shard (event ∷ events)) (budget + packets_for_all config (event ∷ events)) last
      by_next None e k rest = absurd (none_run config events last k)
      by_next (Some next) e k rest =
          let after = after_calm config limits budget world next event (and_parts _ _ calm).0 fit.0 e now in
          weaker config (λ shard. (limits shard + one_if (crashes_on shard event)) + crashes shard events) (λ shard. limits shard + crashes shard (event ∷ events)) _ _ last
          (λ shard. (let one = count_one (crashes_on shard event) event (filter (crashes_on shard) events) in omega (arith, one))) (omega arith) (rest next k after)

  -- THE LAST DELIVERIES
  pub flows_calm : (limits : ShardId → ℕ) (budget : ℕ) (world : WorldState) (count : ℕ) (last : WorldState) → run_from config (Some world) (replicate count Event.Flow) ≡ Some last
      → IsCalm config limits budget world → IsCalm config limits (budget - count) last
  unfolding run_from
  flows_calm limits budget world zero last h now = let same : world ≡ last = cc in weaker config limits limits budget (budget - 0) last (λ shard. omega arith) (omega arith) (subst (IsCalm config limits budget) same now)
  flows_calm limits budget world (suc count) last h now = by_next (world_after config world Event.Flow) refl h (λ next k is. flows_calm limits (budget - 1) next count last k is)
    where
      by_next : (next : Option WorldState) → world_after config world Event.Flow ≡ next → run_from config next (replicate count Event.Flow) ≡ Some last
          → ((next : WorldState) → run_from config (Some next) (replicate count Event.Flow) ≡ Some last → IsCalm config limits (budget - 1) next → IsCalm config limits ((budget - 1) - count) last) → IsCalm config limits (budget - suc count) last
      by_next None e k rest = absurd (none_run config (replicate count Event.Flow) last k)
      by_next (Some next) e k rest =
          let after = after_flow config limits budget world next e now in
          weaker config limits limits _ _ last (λ shard. omega arith) (omega arith) (rest next k after)

  -- ---- what the history has of it
  is_submitted : (limits : ShardId → ℕ) (budget : ℕ) (world : WorldState) (client : ClientId) (ops : List Op) → IsEventFit (Event.Submit client ops) → WasTaken config world (Event.Submit client ops) → IsCalm config limits budget world
      → (id : TxnId) × (id.client ≡ client) × Submitted (happens config world (Event.Submit client ops)).history id ops
  unfolding happens cause after_client with_sends submit begins_half
  is_submitted limits budget world client ops fit is (done, rest, now) =
      let some = some_ops ops fit in
      let same = takes_submission config limits budget world done rest client ops some is.no_cause now in
      let at = client_is config limits budget world done rest client ops some is.no_cause now in
      let id = next_id (record { config = config; client = client }) at.0 in
      (id, refl, subst (λ (w : WorldState). Submitted w.history id ops) (sym same) (In-right (HistoryEvent.Submit id (Txn.Whole ops)) world.history (HistoryEvent.Submit id (Txn.Whole ops) ∷ []) (inl refl)))

  event_submits : (limits : ShardId → ℕ) (budget : ℕ) (world : WorldState) (client : ClientId) (ops : List Op) (event : Event) → Event.Submit client ops ≡ event → IsEventFit event → WasTaken config world event → IsCalm config limits budget world
      → (id : TxnId) × (id.client ≡ client) × Submitted (happens config world event).history id ops
  event_submits limits budget world client ops event same =
      subst (λ (e : Event). IsEventFit e → WasTaken config world e → IsCalm config limits budget world → (id : TxnId) × (id.client ≡ client) × Submitted (happens config world e).history id ops) same
      (λ fit is now. is_submitted limits budget world client ops fit is now)

  -- EACH SUBMISSION stands in the history
  pub submissions_stand : (limits : ShardId → ℕ) (budget : ℕ) (world : WorldState) (events : List Event) (last : WorldState) → list_all is_calm events ≡ true → AreEventsFit events → run_from config (Some world) events ≡ Some last → IsCalm config limits budget world
      → (client : ClientId) (ops : List Op) → In (Event.Submit client ops) events → (id : TxnId) × (id.client ≡ client) × Submitted last.history id ops
  unfolding run_from
  submissions_stand limits budget world [] last calm fit h now client ops i = absurd i
  submissions_stand limits budget world (event ∷ events) last calm fit h now client ops i =
      by_next (world_after config world event) refl h i
      (λ next k is later. submissions_stand (λ shard. limits shard + one_if (crashes_on shard event)) (budget + packets_for config event) next events last (and_parts _ _ calm).1 fit.1 k is client ops later)
    where
      by_next : (next : Option WorldState) → world_after config world event ≡ next → run_from config next events ≡ Some last → (Event.Submit client ops ≡ event) ⊎ In (Event.Submit client ops) events
          → ((next : WorldState) → run_from config (Some next) events ≡ Some last → IsCalm config (λ shard. limits shard + one_if (crashes_on shard event)) (budget + packets_for config event) next
          → In (Event.Submit client ops) events → (id : TxnId) × (id.client ≡ client) × Submitted last.history id ops)
          → (id : TxnId) × (id.client ≡ client) × Submitted last.history id ops
      by_next None e k j rest = absurd (none_run config events last k)
      by_next (Some next) e k (inl same) rest =
          let here = event_submits limits budget world client ops event same fit.0 (was_taken config world next event e) now in
          let then_on = run_grows config next events last k in
          (here.0, here.1, then_on _ (subst (λ (w : WorldState). Submitted w.history here.0 ops) (taken config world next event e) here.2))
      by_next (Some next) e k (inr later) rest =
          let after = after_calm config limits budget world next event (and_parts _ _ calm).0 fit.0 e now in
          rest next k after later

-- a run of two lists, one after the other
pub run_parts : (config : ConfigValue) (start : Option WorldState) (front back : List Event) (last : WorldState) → run_from config start (front ++ back) ≡ Some last
    → (middle : WorldState) × (run_from config start front ≡ Some middle) × (run_from config (Some middle) back ≡ Some last)
unfolding run_from
run_parts config None front back last h = absurd (cc)
run_parts config (Some world) [] back last h = (world, refl, h)
run_parts config (Some world) (event ∷ front) back last h = run_parts config (world_after config world event) front back last h
