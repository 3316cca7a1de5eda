-- The five rules: evidence for a history by an order of packets makes it serial with the order's lines. All else here
-- but `FirstPackets` and `CutOrigins` is used by this file.
use Rattle.std.proofs.Common.{◌≡◌, ℕ, Bool, true, false, cond, Option, Some, None, List, [], ◌∷◌, ◌++◌, map, refl, ap, sym, ◌∙◌, subst, map-id, ◌⊎◌, inl, inr}
use Rattle.std.proofs.lemmas.Bool.{both_ways, cases_Bool}
use Rattle.std.specs.Prelude.{IsTrue, IsFalse}
use Rattle.eris_base.specs.declared.ids.Phase.{Phase}
use Rattle.eris_base.specs.declared.ids.ShardId.{ShardId}
use Rattle.eris_base.specs.declared.ids.TxnId.{TxnId}
use Rattle.eris_base.specs.Each.{Each, EachAfter}
use Rattle.eris_base.proofs.Each.{Each-weaker}
use Rattle.eris_txn.specs.declared.answer.Answer.{Answer}
use Rattle.eris_txn.specs.declared.answer.Answer.TheVariants.{Ops, Committed, Aborted}
use Rattle.eris_txn.specs.declared.body.Body.{Body}
use Rattle.eris_txn.specs.declared.body.Body.TheVariants.{Independent, Prelim, Commit, Abort}
use Rattle.eris_txn.specs.declared.history.HistoryEvent.{HistoryEvent}
use Rattle.eris_txn.specs.declared.history.HistoryEvent.TheVariants.{Submit, Read, Answer as Answered, Told}
use Rattle.eris_txn.specs.declared.key.Key.{Key}
use Rattle.eris_txn.specs.declared.op.OpAnswer.{OpAnswer}
use Rattle.eris_txn.specs.declared.packet.Packet.{Packet}
use Rattle.eris_txn.specs.declared.txn.Txn.{Txn}
use Rattle.eris_txn.specs.declared.txn.Txn.TheVariants.{General}
use Rattle.eris_txn.specs.Bodies.{any_on}
use Rattle.eris_txn.specs.Keys.{Values, no_values}
use Rattle.eris_txn.specs.Operations.{answers, key_of}
use Rattle.eris_txn.specs.PlanValues.{PlanValue}
use Rattle.eris_locks.specs.Law.{HasPacket, IsPlain, IsRight, plain_end}
use Rattle.eris_locks.specs.LockTable.{run_state}
use Rattle.eris_locks.specs.ShardRun.{outcome_in as outcome_on}
use Rattle.eris_locks.specs.Shards.{is_on, names_shard, on_shard}
use Rattle.eris_locks.specs.States.{empty, is_conclusory}
use Rattle.eris_locks.specs.WellFormed.{is_commit}
use Rattle.eris_law_lock.proofs.Once.{never_aborted, stands_once}
use Rattle.eris_law_lock.proofs.SaidFrom.{ran}
use Rattle.eris_audit.specs.declared.outcome.Outcome.{Outcome}
use Rattle.eris_audit.specs.Histories.{is_submitted, txn_of}
use Rattle.eris_audit.specs.IsSerial.{AnsweredStandsBefore, EqualsRun, FollowsAnswered, HasItsLine, IsAnswer, IsOrderLine, IsOutcome, IsSerial, IsToldOutcome, is_done, is_whole}
use Rattle.eris_audit.specs.Lines.{Line, has_line, outcome_in}
use Rattle.eris_audit.specs.SerialRun.{result_in, result_of, values_after}
use Rattle.eris_audit.proofs.Places.{Each-at}
use Rattle.eris_order.specs.Orders.{lines, outcome_at, outcome_from, outcome_of}
use Rattle.eris_serial.specs.Evidence.{AnswerEvidence, AnsweredFirst, BodyOrigin, ByOutcome, ByRefusal, ByWhole, Counted, Evidence, HasCommitEvidence, HasOwn, Origins, OutcomeEvidence, ReadEvidence, RefusalEvidence, SubmittedLater, WholeEvidence}
use Rattle.eris_serial.specs.Shares.{share}
use Rattle.eris_serial.specs.Transactions.{takes_part}
use Rattle.eris_law_serial.proofs.AtShard.{op_on}
use Rattle.eris_law_serial.proofs.OneMap.{IsAnswered, RunsAlong, guards-at, runs_along}
use Rattle.eris_law_serial.proofs.OrderLines.{CommitsBehindOwn, aborted_line, committed_line, each_line, has_its_line, line_has_result, line_of_outcome, lines_before, none_concluded, outcome_cases}
use Rattle.eris_law_serial.proofs.OrderOrigins.{origins_of}
use Rattle.eris_serial.proofs.CountedStands.{own_from_shard, prelim_is_own, read_has_own, refusal_has_own, some_shard, whole_has_own}
use Rattle.eris_serial.proofs.Runnable.{Each-in, plan_can_run}
use Rattle.eris_law_serial.proofs.Parts.{answers-one_each, shares_decide, values-one_each}
use Rattle.eris_law_serial.proofs.ShardByShard.{AllMeet, shard_answer}
use Rattle.eris_law_serial.proofs.Sound.{outcome-on_shard}
use Rattle.eris_law_serial.proofs.WellFormedOrder.{Known, all_known, all_sound, finds_there, right, right_values, runs_of}

-- the maps at the end of the shards' plain runs
abbrev pub lasts_of : List Packet → ShardId → Values
lasts_of order shard = plain_end (on_shard shard order)

module _ (txn : TxnId → Txn) (order : List Packet) (origins : Origins txn order) where
  start : AllMeet txn (runs_of txn order origins) (lasts_of order) no_values [] [] order
  start shard = (
    record { values = no_values; seen = []; decided = [] },
    record { agree = λ key on. refl; seen_is = λ id part. refl; decided_is = λ id part. refl; inside = λ served stands. stands; ends = refl },
  )

  -- of an order alone: the serial run along its lines
  pub order_runs : RunsAlong txn (runs_of txn order origins) (lasts_of order) no_values (lines order)
  order_runs =
      runs_along txn (runs_of txn order origins) (lasts_of order) (λ shard id some other. stands_once (on_shard shard order) no_values [] [] id some other) order no_values [] []
      (all_sound txn order origins) start

  -- THE SERIAL MAP, CUT TO A SHARD, IS THE SHARD'S MAP
  pub one_map : (shard : ShardId) (key : Key) → is_on shard key ≡ true → values_after txn (lines order) no_values key ≡ plain_end (on_shard shard order) key
  one_map shard key on = order_runs.ends shard key on

kind_of_line : (txn : Txn) (body : Body) (decided : Bool) (later : Option Answer) → BodyOrigin txn body → is_conclusory body ≡ false → is_done (outcome_of body decided later) ≡ is_whole txn
kind_of_line txn (Independent ops) decided later origin own = ap is_whole (sym origin)
kind_of_line txn (Prelim locks) decided later origin own = either decided later ∙ ap is_whole (sym origin.1)
  where
    either : (test : Bool) (said : Option Answer) → is_done (cond test Outcome.Aborted (outcome_from said)) ≡ false
    either true said = refl
    either false None = refl
    either false (Some (Ops answers)) = refl
    either false (Some (Answer.Values values)) = refl
    either false (Some Committed) = refl
    either false (Some Aborted) = refl
kind_of_line txn (Commit keys writes) decided later origin own = cc
kind_of_line txn (Abort keys) decided later origin own = cc

-- what holds of a packet and makes rule 1 hold of its line
record LineOrigin (history : List HistoryEvent) (packet : Packet) : Type 0 where
  submitted : IsTrue (is_submitted history packet.id)
  body : BodyOrigin (txn_of history packet.id) packet.body

line_origins : (history : List HistoryEvent) (packets : List Packet) → Each (λ packet. IsTrue (is_submitted history packet.id)) packets
    → Each (λ packet. BodyOrigin (txn_of history packet.id) packet.body) packets → Each (LineOrigin history) packets
line_origins history [] submitted bodies = tt
line_origins history (packet ∷ packets) submitted bodies = (record { submitted = submitted.0; body = bodies.0 }, line_origins history packets submitted.1 bodies.1)

module _ (history : List HistoryEvent) (order : List Packet) (evidence : Evidence history order) where
  abbrev txn : TxnId → Txn
  txn = txn_of history

  origins : Origins txn order
  origins = origins_of history order evidence

  abbrev order_lines : List Line
  order_lines = lines order

  runs : RunsAlong txn (runs_of txn order origins) (lasts_of order) no_values order_lines
  runs = order_runs txn order origins

  once : (shard : ShardId) (id : TxnId) (some other : Answer) → IsPlain (on_shard shard order) id some → IsPlain (on_shard shard order) id other → some ≡ other
  once shard id some other = stands_once (on_shard shard order) no_values [] [] id some other

  answer_has_own : (id : TxnId) (answer : Answer) → AnswerEvidence history id answer order → HasOwn id order
  answer_has_own id answer (ByWhole whole) = whole_has_own txn id answer order whole
  answer_has_own id answer (ByRefusal refusal) = refusal_has_own txn id answer order refusal
  answer_has_own id answer (ByOutcome own) =
      read_has_own history evidence.submits id own.values order (Each-in (Counted history order) history (Read id own.values) evidence.counted own.read)

  line_there : (id : TxnId) → HasOwn id order → has_line order_lines id ≡ true
  line_there id has = has_its_line id order [] [] has refl

  -- A COMMIT before which no conclusory packet stands has its preliminary before it: it finds it holding
  commits_behind : (id : TxnId) → CommitsBehindOwn id order
  commits_behind id front after packet split is commits none = subst (λ i. HasOwn i front) is (by_body packet.body refl commits known.commit)
    where
      known : Known txn order origins packet
      known = Each-at (Known txn order origins) order (all_known txn order origins) front after packet split

      held_there : (shard : ShardId) → names_shard shard packet ≡ true → HasOwn packet.id front
      held_there shard named = by_decided ((run_state empty (on_shard shard front)).decided packet.id) refl
        where
          by_decided : (decided : Option Answer) → (run_state empty (on_shard shard front)).decided packet.id ≡ decided → HasOwn packet.id front
          by_decided (Some answer) at =
              absurd
              (none_concluded shard id front none
              (subst (λ (i : TxnId). HasPacket i Phase.Conclude (on_shard shard front)) is ((ran (on_shard shard front)).state.decided packet.id answer at)))
          by_decided None at =
              own_from_shard shard packet.id Phase.Prelim front prelim_is_own
              ((ran (on_shard shard front)).state.held packet.id (finds_there txn order origins shard front after packet split known named commits at))

      by_body : (body : Body) → packet.body ≡ body → is_commit body ≡ true → HasCommitEvidence txn order packet.id body → HasOwn packet.id front
      by_body (Independent ops) at commit has = absurd (both_ways _ refl commit)
      by_body (Prelim locks) at commit has = absurd (both_ways _ refl commit)
      by_body (Commit keys writes) at commit has =
          let some = some_shard has.read.plan.keys (plan_can_run history packet.id has.read.plan evidence.submits has.read.is).some_key in
          held_there some.0 (known.shards some.0 ∙ (ap (takes_part some.0) has.read.is ∙ some.1))
      by_body (Abort keys) at commit has = absurd (both_ways _ refl commit)

  -- THE OUTCOME THAT A SHARD SAID is the order's
  said_outcome : (id : TxnId) (answer : Answer) → OutcomeEvidence txn id answer order → outcome_at id order ≡ Some answer
  said_outcome id answer outcome =
      sym (outcome-on_shard txn (runs_of txn order origins) outcome.shard id order (all_sound txn order origins) outcome.part)
      ∙ right txn order origins outcome.shard id Phase.Conclude answer outcome.said

  refused_outcome : (id : TxnId) (answer : Answer) → RefusalEvidence txn id answer order → outcome_at id order ≡ Some Aborted
  refused_outcome id answer refusal =
      sym (outcome-on_shard txn (runs_of txn order origins) refusal.shard id order (all_sound txn order origins) refusal.part)
      ∙ by_right (right txn order origins refusal.shard id Phase.Prelim Aborted refusal.said)
    where
      by_right : IsRight (on_shard refusal.shard order) Phase.Prelim id Aborted → outcome_on id (on_shard refusal.shard order) ≡ Some Aborted
      by_right (inl read) = absurd (never_aborted (on_shard refusal.shard order) no_values [] [] id read.plain)
      by_right (inr early) = early.outcome

  aborted_there : (id : TxnId) (plan : PlanValue) → txn id ≡ General plan → outcome_at id order ≡ Some Aborted → has_line order_lines id ≡ true → outcome_in order_lines id ≡ Some Outcome.Aborted
  aborted_there id plan is outcome has = aborted_line txn id plan is order [] [] evidence.bodies (inr outcome) has

  committed_there : (id : TxnId) (plan : PlanValue) → txn id ≡ General plan → outcome_at id order ≡ Some Committed → outcome_in order_lines id ≡ Some Outcome.Committed
  committed_there id plan is outcome = committed_line txn id plan is order [] [] evidence.bodies (commits_behind id) refl refl outcome

  -- THE VALUES READ are those of the serial run
  read_equals : (id : TxnId) (values : List (Option ℕ)) → ReadEvidence txn id values order → result_in txn order_lines no_values id ≡ Some (Answer.Values values)
  read_equals id values read =
      let found = line_has_result txn id order_lines no_values (line_there id (read_has_own history evidence.submits id values order read)) in
      let answered = runs.results id found.0 found.1 in
      found.1 ∙ ap (λ (a : Answer). Some a) (answered.result ∙ (ap (λ t. result_of t answered.values) read.is ∙ ap Answer.Values (sym (same found.0 answered))))
    where
      same_share : (found : Answer) (answered : IsAnswered txn (runs_of txn order origins) (lasts_of order) id found) (shard : ShardId) → takes_part shard (txn id) ≡ true
          → share (is_on shard) read.plan.keys values ≡ share (is_on shard) read.plan.keys (map answered.values read.plan.keys)
      same_share found answered shard part =
          let both : Answer.Values (share (is_on shard) read.plan.keys values) ≡ Answer.Values (share (is_on shard) read.plan.keys (map answered.values read.plan.keys)) =
          once shard id _ _ (right_values txn order origins shard id (share (is_on shard) read.plan.keys values) (read.said shard part)) (answered.shards shard part)
          ∙ ap (λ t. shard_answer shard t answered.values) read.is in
          cc

      same : (found : Answer) (answered : IsAnswered txn (runs_of txn order origins) (lasts_of order) id found) → values ≡ map answered.values read.plan.keys
      same found answered =
          shares_decide (Option ℕ) (λ key. key) read.plan.keys values (map answered.values read.plan.keys) read.each (values-one_each read.plan.keys answered.values)
          (λ shard on. same_share found answered shard (ap (takes_part shard) read.is ∙ (ap (λ keys. any_on keys shard) (sym (map-id read.plan.keys)) ∙ on)))

  -- AND SO IS THE ANSWER OF A WHOLE
  whole_equals : (id : TxnId) (answer : Answer) → WholeEvidence txn id answer order → result_in txn order_lines no_values id ≡ Some answer
  whole_equals id answer whole =
      let found = line_has_result txn id order_lines no_values (line_there id (whole_has_own txn id answer order whole)) in
      let answered = runs.results id found.0 found.1 in
      found.1 ∙ ap (λ (a : Answer). Some a) (answered.result ∙ (ap (λ t. result_of t answered.values) whole.is ∙ (ap Ops (sym (same found.0 answered)) ∙ sym whole.answer_is)))
    where
      same_share : (found : Answer) (answered : IsAnswered txn (runs_of txn order origins) (lasts_of order) id found) (shard : ShardId) → takes_part shard (txn id) ≡ true
          → share (op_on shard) whole.operations whole.answers ≡ share (op_on shard) whole.operations (answers whole.operations answered.values)
      same_share found answered shard part =
          let both : Ops (share (op_on shard) whole.operations whole.answers) ≡ Ops (share (op_on shard) whole.operations (answers whole.operations answered.values)) =
          once shard id _ _ (right txn order origins shard id Phase.Whole (Ops (share (op_on shard) whole.operations whole.answers)) (whole.said shard part)) (answered.shards shard part)
          ∙ ap (λ t. shard_answer shard t answered.values) whole.is in
          cc

      same : (found : Answer) (answered : IsAnswered txn (runs_of txn order origins) (lasts_of order) id found) → whole.answers ≡ answers whole.operations answered.values
      same found answered =
          shares_decide OpAnswer key_of whole.operations whole.answers (answers whole.operations answered.values) whole.each (answers-one_each whole.operations answered.values)
          (λ shard on. same_share found answered shard (ap (takes_part shard) whole.is ∙ on))

  is_outcome : (id : TxnId) (answer : Answer) (plan : PlanValue) → txn id ≡ General plan → outcome_at id order ≡ Some answer → has_line order_lines id ≡ true → IsOutcome order_lines id answer
  is_outcome id answer plan is outcome has = by_case (outcome_cases id answer order outcome)
    where
      by_case : ((answer ≡ Committed) ⊎ (answer ≡ Aborted)) → IsOutcome order_lines id answer
      by_case (inl commits) = subst (IsOutcome order_lines id) (sym commits) (committed_there id plan is (outcome ∙ ap (λ (a : Answer). Some a) commits))
      by_case (inr aborts) = subst (IsOutcome order_lines id) (sym aborts) (aborted_there id plan is (outcome ∙ ap (λ (a : Answer). Some a) aborts) has)

  answer_equals : (id : TxnId) (answer : Answer) → AnswerEvidence history id answer order → IsAnswer history order_lines id answer (txn id)
  answer_equals id answer (ByWhole whole) = subst (IsAnswer history order_lines id answer) (sym whole.is) (whole_equals id answer whole)
  answer_equals id answer (ByRefusal refusal) =
      subst (IsAnswer history order_lines id answer) (sym refusal.is)
      (is_outcome id answer refusal.plan refusal.is (refused_outcome id answer refusal ∙ ap (λ (a : Answer). Some a) (sym refusal.answer_is)) (line_there id (refusal_has_own txn id answer order refusal)))
  answer_equals id answer (ByOutcome own) =
      subst (IsAnswer history order_lines id answer) (sym own.outcome.is)
      (is_outcome id answer own.outcome.plan own.outcome.is (said_outcome id answer own.outcome) (line_there id (answer_has_own id answer (ByOutcome own))))

  told_outcome : (id : TxnId) (answer : Answer) → OutcomeEvidence txn id answer order → IsOutcome order_lines id answer ⊎ ((answer ≡ Answer.Aborted) × IsFalse (has_line order_lines id))
  told_outcome id answer outcome = by_case (outcome_cases id answer order (said_outcome id answer outcome)) (cases_Bool (has_line order_lines id))
    where
      by_case : ((answer ≡ Committed) ⊎ (answer ≡ Aborted)) → ((has_line order_lines id ≡ true) ⊎ (has_line order_lines id ≡ false))
          → IsOutcome order_lines id answer ⊎ ((answer ≡ Answer.Aborted) × IsFalse (has_line order_lines id))
      by_case (inl commits) line =
          inl (subst (IsOutcome order_lines id) (sym commits) (committed_there id outcome.plan outcome.is (said_outcome id answer outcome ∙ ap (λ (a : Answer). Some a) commits)))
      by_case (inr aborts) (inl has) =
          inl (subst (IsOutcome order_lines id) (sym aborts) (aborted_there id outcome.plan outcome.is (said_outcome id answer outcome ∙ ap (λ (a : Answer). Some a) aborts) has))
      by_case (inr aborts) (inr none) = inr (aborts, none)

  -- rule 2
  has_line_by : (event : HistoryEvent) → Counted history order event → HasItsLine order_lines event
  has_line_by (Submit id other) counted = tt
  has_line_by (Read id values) counted = line_there id (read_has_own history evidence.submits id values order counted)
  has_line_by (Answered id answer) counted = line_there id (answer_has_own id answer counted)
  has_line_by (Told asker id answer) counted =
      λ commits. line_of_outcome id Outcome.Committed order_lines (committed_there id counted.plan counted.is (said_outcome id answer counted ∙ ap (λ (a : Answer). Some a) commits))

  -- rule 3
  equal_by : (event : HistoryEvent) → Counted history order event → EqualsRun history order_lines event
  equal_by (Submit id other) counted = tt
  equal_by (Read id values) counted = read_equals id values counted
  equal_by (Answered id answer) counted = answer_equals id answer counted
  equal_by (Told asker id answer) counted = tt

  -- rule 4
  before_by : (id : TxnId) (event : HistoryEvent) → AnsweredFirst order id event → AnsweredStandsBefore order_lines id event
  before_by id (Submit other txn') behind = tt
  before_by id (Read other values) behind = tt
  before_by id (Answered answered answer) behind = λ has has'. lines_before answered id order [] [] behind refl has'
  before_by id (Told asker other answer) behind = tt

  follows_by : (before : List HistoryEvent) (event : HistoryEvent) → SubmittedLater order before event → FollowsAnswered order_lines before event
  follows_by before (Submit id other) later = Each-weaker (AnsweredFirst order id) (AnsweredStandsBefore order_lines id) (before_by id) before later
  follows_by before (Read id values) later = tt
  follows_by before (Answered id answer) later = tt
  follows_by before (Told asker id answer) later = tt

  follows_all : (before events : List HistoryEvent) → EachAfter (SubmittedLater order) before events → EachAfter (FollowsAnswered order_lines) before events
  follows_all before [] later = tt
  follows_all before (event ∷ events) later = (follows_by before event later.0, follows_all (before ++ event ∷ []) events later.1)

  -- rule 5
  told_by : (event : HistoryEvent) → Counted history order event → IsToldOutcome order_lines event
  told_by (Submit id other) counted = tt
  told_by (Read id values) counted = tt
  told_by (Answered id answer) counted = tt
  told_by (Told asker id answer) counted = told_outcome id answer counted

  -- EVIDENCE MAKES THE HISTORY SERIAL
  pub serial_order : IsSerial history (lines order)
  serial_order = record {
    order_lines = each_line (IsOrderLine history) (LineOrigin history)
        (λ before packet decided later new origin own. record { once = new; submitted = origin.submitted; kind = kind_of_line (txn packet.id) packet.body decided later origin.body own }) order [] [] []
        (λ id unseen. refl) (line_origins history order evidence.submitted evidence.bodies);
    have_lines = Each-weaker (Counted history order) (HasItsLine order_lines) has_line_by history evidence.counted;
    guards = guards-at history [] order_lines runs.guards;
    equal = Each-weaker (Counted history order) (EqualsRun history order_lines) equal_by history evidence.counted;
    follows = follows_all [] history evidence.later;
    told = Each-weaker (Counted history order) (IsToldOutcome order_lines) told_by history evidence.counted;
  }
