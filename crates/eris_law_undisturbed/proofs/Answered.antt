-- WHERE NOTHING WAITS ANY MORE, each transaction is answered: the votes of all replicas that are up have come, and on
-- each shard they are a majority with the learner's answer. So a script that nothing disturbs answers all that it submits.
use Rattle.std.proofs.Common.{◌≡◌, ◌≤◌, ◌+◌, ◌-◌, ℕ, zero, suc, true, false, ◌==◌, Some, List, [], ◌∷◌, ◌++◌, replicate, refl, ap, sym, ◌∙◌, subst, arith}
use Rattle.std.proofs.lemmas.Bool.{and_from, and_parts, eq-eqb}
use Rattle.std.specs.List.{list_all}
use Rattle.eris_base.specs.declared.ids.ClientId.{ClientId}
use Rattle.eris_base.specs.declared.ids.ShardId.{ShardId}
use Rattle.eris_base.specs.declared.ids.TxnId.{TxnId}
use Rattle.eris_base.specs.declared.stamp.Stamp.{Stamp}
use Rattle.eris_base.specs.ConfigLimits.{ConfigValue}
use Rattle.eris_base.proofs.Each.{Each-left}
use Rattle.eris_txn.specs.declared.history.HistoryEvent.{HistoryEvent}
use Rattle.eris_txn.specs.declared.op.Op.{Op}
use Rattle.eris_txn.specs.declared.txn.Txn.{Txn}
use Rattle.eris_txn.specs.Bodies.{has_shard, participants_of}
use Rattle.eris_msg.specs.declared.message.Message.{Message}
use Rattle.eris_msg.specs.declared.outgoing.Outgoing.{Outgoing}
use Rattle.eris_event.specs.declared.event.Event.{Event}
use Rattle.eris_rules.specs.declared.transaction.Course.{Course}
use Rattle.eris_rules.specs.declared.transaction.Transaction.{Transaction}
use Rattle.eris_rules.specs.ClientStates.{body_of}
use Rattle.eris_rules.specs.Runs.{run, run_from}
use Rattle.eris_rules.specs.Votes.{is_complete, is_counted}
use Rattle.eris_rules.specs.Worlds.{WorldState, first_world}
use Rattle.eris_law_epoch.specs.Members.{In}
use Rattle.eris_law_epoch.proofs.Members.{any_from}
use Rattle.eris_law_course.specs.Accepted.{AreEventsFit, IsEventFit}
use Rattle.eris_law_calm.specs.Calm.{Coming, Done, Down, Heard, IsAnswered, IsCalm, IsCalmWorld, IsOpen, Job, Open, Progress, Said, Spread, Stage, Unstamped, Way, shards_of_ops, weight}
use Rattle.eris_law_calm.specs.Crashes.{is_down}
use Rattle.eris_law_calm.specs.Noted.{HasVote}
use Rattle.eris_law_undisturbed.proofs.Starting.{calm_start}
use Rattle.eris_law_calm.proofs.Voting.{all_pass, majority_counts}
use Rattle.eris_law_calm_step.specs.CalmEvents.{is_calm}
use Rattle.eris_law_undisturbed.specs.Undisturbed.{AreAnswered, IsUndisturbed, crashes, packets_for_all}
use Rattle.eris_law_undisturbed.proofs.Growing.{run_grows}
use Rattle.eris_law_undisturbed.proofs.Running.{flows_calm, run_calm, run_parts, submissions_stand}

some_weight : (config : ConfigValue) (message : Message) → 1 ≤ weight config message
some_weight config (Message.Ask asker id body) = omega arith
some_weight config (Message.Txn packet) = omega arith
some_weight config message = omega arith

module _ (config : ConfigValue) (limits : ShardId → ℕ) (few : (shard : ShardId) → limits shard ≤ config.f) (world : WorldState) where
  -- what weighs nothing is empty
  none_rest : (done rest : List Outgoing) → IsCalmWorld config limits 0 world done rest → IsCalmWorld config limits 0 world done []
  none_rest done [] calm = calm
  none_rest done (one ∷ rest) calm = let some = some_weight config one.message in absurd (omega (arith, some, calm.weighs))

  module _ (done : List Outgoing) (calm : IsCalmWorld config limits 0 world done []) where
    heard_by : (id : TxnId) (ops : List Op) (transaction : Transaction) (stamp : Stamp) (shard : ShardId) (replica : ℕ) → is_down world.crashed shard.0 replica ≡ false
        → Stage world.crashed [] id ops stamp transaction.votes shard replica → HasVote transaction.votes shard (record { 0 = replica }) stamp
    heard_by id ops transaction stamp shard replica up (Coming i) = absurd i
    heard_by id ops transaction stamp shard replica up (Down down) = let clash : true ≡ false = sym down ∙ up in absurd (cc)
    heard_by id ops transaction stamp shard replica up (Said found learner i) = absurd i
    heard_by id ops transaction stamp shard replica up (Heard vote) = vote

    -- all participants are counted
    all_counted : (id : TxnId) (ops : List Op) (transaction : Transaction) → IsOpen config.f transaction → Way config world.crashed [] id ops transaction.votes
        → list_all (λ shard. is_counted transaction.counted shard) (shards_of_ops ops) ≡ true
    all_counted id ops transaction opened (Unstamped i) = absurd i
    all_counted id ops transaction opened (Spread stamp each) =
        all_pass (λ shard. is_counted transaction.counted shard) (shards_of_ops ops) (λ shard i.
        let named : has_shard (shards_of_ops ops) shard ≡ true = any_from (λ (other : ShardId). other.0 == shard.0) (shards_of_ops ops) shard i (eq-eqb shard.0 shard.0 refl) in
        majority_counts config.f transaction.votes transaction.counted shard stamp world.crashed opened.counts (let down = calm.few shard in let most = few shard in omega (arith, down, most)) (calm.first_up shard)
        (λ replica low up. heard_by id ops transaction stamp shard replica up (each shard replica named low)))

    answered_by : (id : TxnId) (ops : List Op) (job : Job config world.history world.clients world.crashed [] id ops) → Progress config world.history world.crashed [] id ops job.transaction → IsAnswered id world.history
    unfolding is_complete
    answered_by id ops job (Done finished answered) = answered
    answered_by id ops job (Open opened way) =
        let whole : is_complete job.transaction ≡ true =
        subst (λ (c : Course). list_all (λ shard. is_counted job.transaction.counted shard) (participants_of (body_of c)) ≡ true) (sym job.course) (all_counted id ops job.transaction opened way) in
        let clash : true ≡ false = sym whole ∙ opened.incomplete in absurd (cc)

    each_answered : (id : TxnId) (txn : Txn) → In (HistoryEvent.Submit id txn) world.history → IsAnswered id world.history
    each_answered id txn i =
        let whole = calm.whole id txn i in
        let job = calm.jobs id whole.0 (subst (λ (t : Txn). In (HistoryEvent.Submit id t) world.history) whole.1 i) in
        answered_by id whole.0 job job.progress

  pub all_answered : IsCalm config limits 0 world → AreAnswered world.history world.history
  all_answered (done, rest, calm) = record { at = each_answered done (none_rest done rest calm) }

-- A SCRIPT THAT NOTHING DISTURBS ANSWERS each transaction that it submits
pub undisturbed_answers : (config : ConfigValue) (events : List Event) (world : WorldState) → IsUndisturbed config events → AreEventsFit events → run config events ≡ Some world
    → AreAnswered world.history world.history
unfolding run
undisturbed_answers config events world is fit h =
    let first_fit = Each-left IsEventFit is.front (replicate is.flows Event.Flow) (subst AreEventsFit is.are fit) in
    let parts = run_parts config (Some (first_world config)) is.front (replicate is.flows Event.Flow) world (ap (λ (list : List Event). run_from config (Some (first_world config)) list) (sym is.are) ∙ h) in
    let middle = run_calm config (λ shard. 0) 0 (first_world config) is.front parts.0 is.calm first_fit parts.1 (calm_start config) in
    let last = flows_calm config (λ shard. 0 + crashes shard is.front) (0 + packets_for_all config is.front) parts.0 is.flows world parts.2 middle in
    let none : (0 + packets_for_all config is.front) - is.flows ≡ 0 = omega (arith, is.enough) in
    all_answered config (λ shard. 0 + crashes shard is.front) (λ shard. (let most = is.few shard in omega (arith, most))) world
    (subst (λ (budget : ℕ). IsCalm config (λ shard. 0 + crashes shard is.front) budget world) none last)

-- and whatever comes after, these are still answered
pub first_answers : (config : ConfigValue) (events more : List Event) (world : WorldState) → IsUndisturbed config events → AreEventsFit events → run config (events ++ more) ≡ Some world
    → (middle : WorldState) × (run config events ≡ Some middle) × AreAnswered middle.history world.history
unfolding run
first_answers config events more world is fit h =
    let parts = run_parts config (Some (first_world config)) events more world h in
    let answered = undisturbed_answers config events parts.0 is fit parts.1 in
    (parts.0, parts.1, record { at = λ id txn i. (let now = answered.at id txn i in (now.0, run_grows config parts.0 more world parts.2 _ now.1)) })

-- and each submission of its events stands in the history
pub submissions_there : (config : ConfigValue) (events : List Event) (world : WorldState) → IsUndisturbed config events → AreEventsFit events → run config events ≡ Some world
    → (client : ClientId) (ops : List Op) → In (Event.Submit client ops) events → (id : TxnId) × (id.client ≡ client) × In (HistoryEvent.Submit id (Txn.Whole ops)) world.history
unfolding run
submissions_there config events world is fit h client ops i =
    submissions_stand config (λ shard. 0) 0 (first_world config) events world (ap (λ (list : List Event). list_all is_calm list) is.are ∙ all_calm is.front is.flows is.calm) fit h (calm_start config) client ops i
  where
    all_calm : (front : List Event) (count : ℕ) → list_all is_calm front ≡ true → list_all is_calm (front ++ replicate count Event.Flow) ≡ true
    all_calm [] zero calm = refl
    all_calm [] (suc count) calm = all_calm [] count refl
    all_calm (event ∷ front) count calm = and_from _ _ (and_parts _ _ calm).0 (all_calm front count (and_parts _ _ calm).1)
