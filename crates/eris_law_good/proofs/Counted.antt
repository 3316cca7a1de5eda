-- WHAT A CLIENT OF THE WORLD COUNTED is said over the order: what came to it was sent. So each event of the history is
-- counted as evidence asks.
use Rattle.std.proofs.Common.{ℕ, ◌≤◌, List, arith}
use Rattle.eris_base.specs.declared.ids.ClientId.{ClientId}
use Rattle.eris_base.specs.declared.ids.ShardId.{ShardId}
use Rattle.eris_base.specs.declared.ids.TxnId.{TxnId}
use Rattle.eris_base.specs.ConfigLimits.{ConfigValue}
use Rattle.eris_base.specs.Each.{Each}
use Rattle.eris_txn.specs.declared.answer.Answer.{Answer}
use Rattle.eris_txn.specs.declared.body.Body.{Body}
use Rattle.eris_locks.specs.States.{phase_of}
use Rattle.eris_event.specs.declared.event.Event.{Event}
use Rattle.eris_rules.specs.WorldOrders.{order}
use Rattle.eris_serial.specs.Evidence.{Counted}
use Rattle.eris_serial.proofs.Runnable.{Each-in, Each-of}
use Rattle.eris_law_agreement.specs.EpochRuns.{servers_at}
use Rattle.eris_law_agreement.specs.WorldMoments.{world_at}
use Rattle.eris_law_client.specs.ClientRuns.{history_to}
use Rattle.eris_law_client.specs.Counts.{CountedOn}
use Rattle.eris_law_client.proofs.Evident.{history_counted}
use Rattle.eris_law_course.specs.Accepted.{AreEventsFit, IsAccepted}
use Rattle.eris_law_course.specs.Inputs.{identity, inputs_of}
use Rattle.eris_law_course.proofs.Calls.{aborts_others}
use Rattle.eris_law_course.proofs.Courses.{event_from}
use Rattle.eris_law_course.proofs.Delivered.{delivered}
use Rattle.eris_law_course.proofs.Merged.{history_with}
use Rattle.eris_law_evidence.specs.Fronts.{IsSaidFrom}
use Rattle.eris_law_evidence.specs.Heard.{AllWasSent}
use Rattle.eris_law_evidence.proofs.CountedFronts.{counted_front, counted_said}

module _ (config : ConfigValue) (events : List Event) where
  -- all that came to a client in place by its moment was sent by then
  pub all_sent : (client : ClientId) (number j : ℕ) → number ≤ j → AllWasSent config (servers_at config events j).sent (inputs_of config events client) number
  all_sent client number j le = λ at message before came ok.
      let sent = delivered config events client j at message (omega (arith, before, le)) came ok in
      record { to = sent.to; there = sent.there }

  -- AN ANSWER THAT WAS COUNTED is said from that moment on
  pub counted_from : (client : ClientId) (number j : ℕ) → number ≤ j → (id : TxnId) (body : Body) (shard : ShardId) (answer : Answer)
      → CountedOn (identity config client) (inputs_of config events client) number id body shard answer → IsSaidFrom config events j shard id (phase_of body) answer
  counted_from client number j le id body shard answer on =
      counted_front (identity config client) events j (inputs_of config events client) number (all_sent client number j le) id body shard answer on

  -- EACH EVENT of the history is counted
  pub events_counted : IsAccepted config events → AreEventsFit events → (k : ℕ) → Each (Counted (world_at config events k).history (order (world_at config events k))) (world_at config events k).history
  events_counted ok fit k =
      Each-of (Counted (world_at config events k).history (order (world_at config events k))) (world_at config events k).history
      (λ event i. let from = event_from config events k event i in
      Each-in (Counted (world_at config events k).history (order (world_at config events k))) (history_to (identity config from.client) (inputs_of config events from.client) k) event
      (history_counted (identity config from.client) (inputs_of config events from.client) (aborts_others config events ok from.client) k (world_at config events k).history (order (world_at config events k))
      (history_with config events ok fit from.client from.there k)
      (counted_said (identity config from.client) events k k (omega arith) (inputs_of config events from.client) k (all_sent from.client k k (omega arith))))
      from.stands)
