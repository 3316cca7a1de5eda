-- What a half that is complete has: every shard that takes part is counted, and what its client makes of the counted
-- answers. Used where a client's event is taken apart.
use Rattle.std.proofs.Common.{◌≡◌, ℕ, suc, Bool, true, false, cond, ◌||◌, ◌==◌, Option, Some, None, List, [], ◌∷◌, length, map, refl, ap, sym, ◌∙◌, subst, inl, inr, map-id}
use Rattle.std.specs.Prelude.{◌⊎◌}
use Rattle.std.specs.List.{count_by, filter, find, list_all, list_any}
use Rattle.std.specs.Option.{option_map}
use Rattle.std.proofs.lemmas.Bool.{and_parts, cases_Bool, cond_both, eqb-true, or_parts}
use Rattle.std.proofs.lemmas.List.Sums.{length-filter}
use Rattle.eris_base.specs.declared.ids.ShardId.{ShardId}
use Rattle.eris_base.specs.declared.ids.TxnId.{TxnId}
use Rattle.eris_base.specs.Each.{Each}
use Rattle.eris_base.proofs.IdLaws.{shard_by_test}
use Rattle.eris_txn.specs.declared.answer.Answer.{Answer}
use Rattle.eris_txn.specs.declared.body.Body.{Body}
use Rattle.eris_txn.specs.declared.body.Body.TheVariants.{Independent, Prelim, Commit, Abort}
use Rattle.eris_txn.specs.declared.key.Key.{Key}
use Rattle.eris_txn.specs.declared.lock.Lock.{Lock}
use Rattle.eris_txn.specs.declared.op.Op.{Op}
use Rattle.eris_txn.specs.declared.op.OpAnswer.{OpAnswer}
use Rattle.eris_txn.specs.Bodies.{any_on, has_shard, keys_of, participants_of}
use Rattle.eris_txn.specs.Operations.{key_of}
use Rattle.eris_txn.specs.PlanValues.{PlanValue}
use Rattle.eris_txn.specs.Plans.{locks_of}
use Rattle.eris_txn.proofs.BodyLaws.{has_shard-participants}
use Rattle.eris_general.specs.Outcomes.{is_aborted, outcome_of}
use Rattle.eris_locks.specs.Shards.{is_on}
use Rattle.eris_locks.specs.States.{is_conclusory}
use Rattle.eris_rules.specs.Assembling.{assemble}
use Rattle.eris_rules.specs.Clients.{all_op_answers, all_values, answer_of_shard, op_answers_in, values_in}
use Rattle.eris_rules.specs.ClientStates.{ClientIdentity}
use Rattle.eris_rules.specs.Votes.{answer_fits, is_counted, items_on}
use Rattle.eris_serial.specs.Joining.{IsJoined, TakesInTurn, shards_in_order}
use Rattle.eris_serial.proofs.JoinedShares.{gave_by_length, taken_is_joined}
use Rattle.eris_serial.proofs.Runnable.{prelim_keys}
use Rattle.eris_law_client.specs.ClientRuns.{ClientInput}
use Rattle.eris_law_client.specs.Counts.{CountedOn}
use Rattle.eris_law_client.specs.Rests.{AllCommit, OneAborts, OutcomeRests}

-- A CLIENT JOINS ANSWERS BY TAKING IN TURN
pub assemble_takes_in_turn : (A : Type 0) → TakesInTurn {A = A} assemble
assemble_takes_in_turn A = record { none = λ given. refl; next = λ shard shards given item rest is. rw (is, assemble) refl }

unsome : {X : Type 0} (x y : X) → Some x ≡ Some y → x ≡ y
unsome x y h = cc

-- ---- the answer of a counted shard
module _ (P : ShardId → Answer → Type 0) where
  of_shard : (counted : List (ShardId × Answer)) (shard : ShardId) (answer : Answer) → Each (λ pair. P pair.0 pair.1) counted → answer_of_shard counted shard ≡ Some answer → P shard answer
  of_shard [] shard answer each h = absurd (cc)
  of_shard (pair ∷ counted) shard answer each h = by_test (pair.0.0 == shard.0) refl h (of_shard counted shard answer each.1)
    where
      by_test : (test : Bool) → (pair.0.0 == shard.0) ≡ test
          → option_map (λ (p : ShardId × Answer). p.1) (cond test (Some pair) (find (λ (p : ShardId × Answer). p.0.0 == shard.0) counted)) ≡ Some answer
          → (answer_of_shard counted shard ≡ Some answer → P shard answer) → P shard answer
      by_test true same is rest = subst (λ (s : ShardId). P s answer) (shard_by_test pair.0 shard same) (subst (λ (a : Answer). P pair.0 a) (unsome pair.1 answer is) each.0)
      by_test false apart is rest = rest is

  -- a shard that is counted with `Aborted`
  aborting : (counted : List (ShardId × Answer)) → Each (λ pair. P pair.0 pair.1) counted → list_any is_aborted (map (λ (p : ShardId × Answer). p.1) counted) ≡ true → (shard : ShardId) × P shard Answer.Aborted
  aborting [] each h = absurd (cc)
  aborting (pair ∷ counted) each h = by_answer pair.1 refl h (aborting counted each.1)
    where
      by_answer : (answer : Answer) → pair.1 ≡ answer → (is_aborted answer || list_any is_aborted (map (λ (p : ShardId × Answer). p.1) counted)) ≡ true
          → (list_any is_aborted (map (λ (p : ShardId × Answer). p.1) counted) ≡ true → (shard : ShardId) × P shard Answer.Aborted) → (shard : ShardId) × P shard Answer.Aborted
      by_answer (Answer.Ops answers) is k rest = rest k
      by_answer (Answer.Values values) is k rest = rest k
      by_answer Answer.Committed is k rest = rest k
      by_answer Answer.Aborted is k rest = (pair.0, subst (λ (a : Answer). P pair.0 a) is each.0)

counted_answer : (counted : List (ShardId × Answer)) (shard : ShardId) → is_counted counted shard ≡ true → (answer : Answer) × (answer_of_shard counted shard ≡ Some answer)
counted_answer [] shard h = absurd (cc)
counted_answer (pair ∷ counted) shard h = by_test (pair.0.0 == shard.0) h (counted_answer counted shard)
  where
    by_test : (test : Bool) → (test || is_counted counted shard) ≡ true → (is_counted counted shard ≡ true → (answer : Answer) × (answer_of_shard counted shard ≡ Some answer))
        → (answer : Answer) × (option_map (λ (p : ShardId × Answer). p.1) (cond test (Some pair) (find (λ (p : ShardId × Answer). p.0.0 == shard.0) counted)) ≡ Some answer)
    by_test true k rest = (pair.1, refl)
    by_test false k rest = rest k

none_aborts : (counted : List (ShardId × Answer)) → list_any is_aborted (map (λ (p : ShardId × Answer). p.1) counted) ≡ false → Each (λ pair. is_aborted pair.1 ≡ false) counted
none_aborts [] h = tt
none_aborts (pair ∷ counted) h =
    let parts = or_parts (is_aborted pair.1) (list_any is_aborted (map (λ (p : ShardId × Answer). p.1) counted)) h in
    (parts.0, none_aborts counted parts.1)

-- a test that holds of all holds of one that stands there
of_all : (test : ShardId → Bool) (shards : List ShardId) (shard : ShardId) → list_all test shards ≡ true → has_shard shards shard ≡ true → test shard ≡ true
of_all test [] shard all there = absurd (cc)
of_all test (other ∷ shards) shard all there =
    let parts = and_parts (test other) (list_all test shards) all in
    by_test (other.0 == shard.0) refl there parts.0 (of_all test shards shard parts.1)
  where
    by_test : (t : Bool) → (other.0 == shard.0) ≡ t → (t || has_shard shards shard) ≡ true → test other ≡ true → (has_shard shards shard ≡ true → test shard ≡ true) → test shard ≡ true
    by_test true same k own rest = subst (λ (s : ShardId). test s ≡ true) (shard_by_test other shard same) own
    by_test false apart k own rest = rest k

-- ---- how many items a shard has
none_left : {X : Type 0} (test : X → Bool) (items : List X) → list_any test items ≡ false → length (filter test items) ≡ 0
none_left test [] h = refl
none_left test (item ∷ items) h =
    let parts = or_parts (test item) (list_any test items) h in
    by_test (test item) parts.0 (none_left test items parts.1)
  where
    by_test : (t : Bool) → t ≡ false → length (filter test items) ≡ 0 → length (cond t (item ∷ filter test items) (filter test items)) ≡ 0
    by_test true k rest = cc
    by_test false k rest = rest

none_counted : {X : Type 0} (test : X → Bool) (items : List X) → list_any test items ≡ false → count_by test items ≡ 0
none_counted test items h = sym (length-filter test items) ∙ none_left test items h

left-map : {X Y : Type 0} (test : Y → Bool) (f : X → Y) (items : List X) → length (filter test (map f items)) ≡ length (filter (λ item. test (f item)) items)
left-map test f [] = refl
left-map test f (item ∷ items) = by_test (test (f item)) (left-map test f items)
  where
    by_test : (t : Bool) → length (filter test (map f items)) ≡ length (filter (λ item. test (f item)) items)
        → length (cond t (f item ∷ filter test (map f items)) (filter test (map f items))) ≡ length (cond t (item ∷ filter (λ item. test (f item)) items) (filter (λ item. test (f item)) items))
    by_test true rest = ap (λ (n : ℕ). suc n) rest
    by_test false rest = rest

count-map : {X Y : Type 0} (test : Y → Bool) (f : X → Y) (items : List X) → count_by test (map f items) ≡ length (filter (λ item. test (f item)) items)
count-map test f items = sym (length-filter test (map f items)) ∙ left-map test f items

-- ---- what an answer that fits is
ops_fit : (operations : List Op) (shard : ShardId) (answer : Answer) → answer_fits (Independent operations) shard answer ≡ true → answer ≡ Answer.Ops (op_answers_in (Some answer))
ops_fit operations shard (Answer.Ops answers) h = refl
ops_fit operations shard (Answer.Values values) h = cc
ops_fit operations shard Answer.Committed h = cc
ops_fit operations shard Answer.Aborted h = cc

ops_number : (operations : List Op) (shard : ShardId) (answer : Answer) → answer_fits (Independent operations) shard answer ≡ true → length (op_answers_in (Some answer)) ≡ items_on (Independent operations) shard
ops_number operations shard (Answer.Ops answers) h = eqb-true (length answers) (items_on (Independent operations) shard) h
ops_number operations shard (Answer.Values values) h = cc
ops_number operations shard Answer.Committed h = cc
ops_number operations shard Answer.Aborted h = cc

values_fit : (locks : List Lock) (shard : ShardId) (answer : Answer) → answer_fits (Prelim locks) shard answer ≡ true → is_aborted answer ≡ false → answer ≡ Answer.Values (values_in (Some answer))
values_fit locks shard (Answer.Ops answers) h k = cc
values_fit locks shard (Answer.Values values) h k = refl
values_fit locks shard Answer.Committed h k = cc
values_fit locks shard Answer.Aborted h k = cc

values_number : (locks : List Lock) (shard : ShardId) (answer : Answer) → answer_fits (Prelim locks) shard answer ≡ true → is_aborted answer ≡ false → length (values_in (Some answer)) ≡ items_on (Prelim locks) shard
values_number locks shard (Answer.Ops answers) h k = cc
values_number locks shard (Answer.Values values) h k = eqb-true (length values) (items_on (Prelim locks) shard) h
values_number locks shard Answer.Committed h k = cc
values_number locks shard Answer.Aborted h k = cc

outcome_fits : (body : Body) (shard : ShardId) (answer : Answer) → is_conclusory body ≡ true → answer_fits body shard answer ≡ true → is_aborted answer ≡ false → answer ≡ Answer.Committed
outcome_fits (Independent operations) shard answer c h k = cc
outcome_fits (Prelim locks) shard answer c h k = cc
outcome_fits (Commit keys writes) shard (Answer.Ops answers) c h k = cc
outcome_fits (Commit keys writes) shard (Answer.Values values) c h k = cc
outcome_fits (Commit keys writes) shard Answer.Committed c h k = refl
outcome_fits (Commit keys writes) shard Answer.Aborted c h k = cc
outcome_fits (Abort keys) shard (Answer.Ops answers) c h k = cc
outcome_fits (Abort keys) shard (Answer.Values values) c h k = cc
outcome_fits (Abort keys) shard Answer.Committed c h k = refl
outcome_fits (Abort keys) shard Answer.Aborted c h k = cc

module _ (me : ClientIdentity) (inputs : List ClientInput) (number : ℕ) (id : TxnId) (counted : List (ShardId × Answer)) where
  abbrev On : Body → ShardId → Answer → Type 0
  On body shard answer = CountedOn me inputs number id body shard answer

  abbrev IsWhole : Body → Type 0
  IsWhole body = list_all (λ shard. is_counted counted shard) (participants_of body) ≡ true

  -- EVERY SHARD THAT TAKES PART IS COUNTED
  pub counted_there : (body : Body) → Each (λ pair. On body pair.0 pair.1) counted → IsWhole body → (shard : ShardId) → any_on (keys_of body) shard ≡ true
      → (answer : Answer) × (answer_of_shard counted shard ≡ Some answer) × On body shard answer
  counted_there body each whole shard part =
      let found = counted_answer counted shard (of_all (λ shard. is_counted counted shard) (participants_of body) shard whole (has_shard-participants body shard ∙ part)) in
      (found.0, found.1, of_shard (On body) counted shard found.0 each found.1)

  -- each shard gave as many items as the body has there
  numbers : {A : Type 0} (items_in : Option Answer → List A) (body : Body) → items_in None ≡ [] → Each (λ pair. On body pair.0 pair.1) counted → IsWhole body
      → ((shard : ShardId) (answer : Answer) → answer_of_shard counted shard ≡ Some answer → On body shard answer → length (items_in (Some answer)) ≡ items_on body shard)
      → (shard : ShardId) → length (items_in (answer_of_shard counted shard)) ≡ items_on body shard
  numbers items_in body nothing each whole fits shard = by_answer (answer_of_shard counted shard) refl
    where
      absent : answer_of_shard counted shard ≡ None → ((any_on (keys_of body) shard ≡ true) ⊎ (any_on (keys_of body) shard ≡ false)) → items_on body shard ≡ 0
      absent is (inl part) = let found = counted_there body each whole shard part in let clash : Some found.0 ≡ None = sym found.1 ∙ is in absurd (cc)
      absent is (inr apart) = none_counted (λ (key : Key). key.shard.0 == shard.0) (keys_of body) apart

      by_answer : (found : Option Answer) → answer_of_shard counted shard ≡ found → length (items_in found) ≡ items_on body shard
      by_answer None is = ap (λ l. length l) nothing ∙ sym (absent is (cases_Bool (any_on (keys_of body) shard)))
      by_answer (Some answer) is = fits shard answer is (of_shard (On body) counted shard answer each is)

  -- ---- a whole transaction
  abbrev ops_given : ShardId → List OpAnswer
  ops_given shard = op_answers_in (answer_of_shard counted shard)

  -- WHAT IT ANSWERS IS JOINED of what the shards gave
  pub ops_joined : (operations : List Op) → Each (λ pair. On (Independent operations) pair.0 pair.1) counted → IsWhole (Independent operations)
      → IsJoined key_of operations ops_given (all_op_answers (Independent operations) counted)
  unfolding all_op_answers
  ops_joined operations each whole =
      taken_is_joined OpAnswer key_of assemble (assemble_takes_in_turn OpAnswer) operations ops_given
      (gave_by_length OpAnswer key_of operations ops_given
      (λ shard. numbers op_answers_in (Independent operations) refl each whole (λ s answer is on. ops_number operations s answer on.fits) shard
      ∙ count-map (λ (key : Key). key.shard.0 == shard.0) key_of operations))

  pub ops_counted : (operations : List Op) → Each (λ pair. On (Independent operations) pair.0 pair.1) counted → IsWhole (Independent operations)
      → (shard : ShardId) → any_on (map key_of operations) shard ≡ true → On (Independent operations) shard (Answer.Ops (ops_given shard))
  ops_counted operations each whole shard part =
      let found = counted_there (Independent operations) each whole shard part in
      subst (On (Independent operations) shard) (ops_fit operations shard found.0 found.2.fits ∙ ap (λ (a : Option Answer). Answer.Ops (op_answers_in a)) (sym found.1)) found.2

  -- ---- a preliminary
  abbrev values_given : ShardId → List (Option ℕ)
  values_given shard = values_in (answer_of_shard counted shard)

  module _ (plan : PlanValue) (each : Each (λ pair. On (Prelim (locks_of plan)) pair.0 pair.1) counted) (whole : IsWhole (Prelim (locks_of plan))) where
    keys_are : keys_of (Prelim (locks_of plan)) ≡ plan.keys
    keys_are = prelim_keys plan

    module _ (none : list_any is_aborted (map (λ (p : ShardId × Answer). p.1) counted) ≡ false) where
      not_aborted : (shard : ShardId) (answer : Answer) → answer_of_shard counted shard ≡ Some answer → is_aborted answer ≡ false
      not_aborted shard answer is = of_shard (λ s a. is_aborted a ≡ false) counted shard answer (none_aborts counted none) is

      -- THE VALUES THAT IT READ ARE JOINED of what the shards gave
      pub values_joined : IsJoined (λ key. key) plan.keys values_given (all_values (Prelim (locks_of plan)) counted)
      unfolding all_values
      values_joined =
          subst (λ (keys : List Key). IsJoined (λ key. key) plan.keys values_given (assemble (shards_in_order keys) values_given)) (sym keys_are)
          (subst (λ (keys : List Key). IsJoined (λ key. key) plan.keys values_given (assemble (shards_in_order keys) values_given)) (map-id plan.keys)
          (taken_is_joined (Option ℕ) (λ key. key) assemble (assemble_takes_in_turn (Option ℕ)) plan.keys values_given
          (gave_by_length (Option ℕ) (λ key. key) plan.keys values_given
          (λ shard. numbers values_in (Prelim (locks_of plan)) refl each whole (λ s answer is on. values_number (locks_of plan) s answer on.fits (not_aborted s answer is)) shard
          ∙ (ap (λ (keys : List Key). count_by (λ (key : Key). key.shard.0 == shard.0) keys) keys_are ∙ sym (length-filter (λ key. is_on shard key) plan.keys))))))

      pub values_counted : (shard : ShardId) → any_on plan.keys shard ≡ true → On (Prelim (locks_of plan)) shard (Answer.Values (values_given shard))
      values_counted shard part =
          let found = counted_there (Prelim (locks_of plan)) each whole shard (ap (λ (keys : List Key). any_on keys shard) keys_are ∙ part) in
          subst (On (Prelim (locks_of plan)) shard)
          (values_fit (locks_of plan) shard found.0 found.2.fits (not_aborted shard found.0 found.1) ∙ ap (λ (a : Option Answer). Answer.Values (values_in a)) (sym found.1)) found.2

    -- A REFUSAL is one shard's
    pub refused_counted : list_any is_aborted (map (λ (p : ShardId × Answer). p.1) counted) ≡ true → (shard : ShardId) × (any_on plan.keys shard ≡ true) × On (Prelim (locks_of plan)) shard Answer.Aborted
    refused_counted some =
        let found = aborting (On (Prelim (locks_of plan))) counted each some in
        (found.0, ap (λ (keys : List Key). any_on keys found.0) (sym keys_are) ∙ (sym (has_shard-participants (Prelim (locks_of plan)) found.0) ∙ found.1.part), found.1)

-- AN OUTCOME rests on every shard's conclusion
pub outcome_counted : (me : ClientIdentity) (inputs : List ClientInput) (number : ℕ) (id : TxnId) (counted : List (ShardId × Answer)) (body : Body) → is_conclusory body ≡ true
    → Each (λ pair. CountedOn me inputs (suc number) id body pair.0 pair.1) counted → list_all (λ shard. is_counted counted shard) (participants_of body) ≡ true
    → OutcomeRests me inputs number id body (outcome_of (map (λ pair. pair.1) counted))
outcome_counted me inputs number id counted body concludes each whole =
    cond_both (list_any is_aborted (map (λ (p : ShardId × Answer). p.1) counted)) Answer.Aborted Answer.Committed (OutcomeRests me inputs number id body)
    (λ some. let found = aborting (CountedOn me inputs (suc number) id body) counted each some in
    OneAborts refl found.0 (sym (has_shard-participants body found.0) ∙ found.1.part) found.1
    (λ other part. let there = counted_there me inputs (suc number) id counted body each whole other part in (there.0, there.2)))
    (λ none. AllCommit refl (λ shard part.
    let there = counted_there me inputs (suc number) id counted body each whole shard part in
    subst (CountedOn me inputs (suc number) id body shard)
    (outcome_fits body shard there.0 concludes there.2.fits (of_shard (λ s a. is_aborted a ≡ false) counted shard there.0 (none_aborts counted none) there.1)) there.2))
