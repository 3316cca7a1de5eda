-- A past of an order stands in it: the maps at its end, its lines with their outcomes, and their results.
use Rattle.std.proofs.Common.{◌≡◌, ◌⊎◌, inl, inr, ℕ, Bool, true, false, Option, Some, None, is_some, List, [], ◌∷◌, map, refl, ap, sym, ◌∙◌, subst, map-id}
use Rattle.std.proofs.lemmas.Bool.{both_ways, cases_Bool, cond-false, cond-true, eq-eqb, or_left, or_right}
use Rattle.eris_base.specs.declared.ids.Phase.{Phase}
use Rattle.eris_base.specs.declared.ids.ShardId.{ShardId}
use Rattle.eris_base.specs.declared.ids.TxnId.{TxnId}
use Rattle.eris_base.specs.Each.{Each}
use Rattle.eris_base.specs.TxnIds.{same_id}
use Rattle.eris_base.proofs.TxnIdLaws.{same_id-from, same_id-true}
use Rattle.eris_txn.specs.declared.answer.Answer.{Answer}
use Rattle.eris_txn.specs.declared.answer.Answer.TheVariants.{Ops}
use Rattle.eris_txn.specs.declared.body.Body.{Body}
use Rattle.eris_txn.specs.declared.body.Body.TheVariants.{Abort, Commit, Independent, Prelim}
use Rattle.eris_txn.specs.declared.key.Key.{Key}
use Rattle.eris_txn.specs.declared.op.Op.{Op}
use Rattle.eris_txn.specs.declared.op.OpAnswer.{OpAnswer}
use Rattle.eris_txn.specs.declared.packet.Packet.{Packet}
use Rattle.eris_txn.specs.declared.txn.Txn.{Txn}
use Rattle.eris_txn.specs.declared.txn.Txn.TheVariants.{General, Whole}
use Rattle.eris_txn.specs.Bodies.{any_on}
use Rattle.eris_txn.specs.Keys.{Values, no_values}
use Rattle.eris_txn.specs.Operations.{answers, key_of}
use Rattle.eris_locks.specs.declared.shard_packet.ShardPacket.{ShardPacket}
use Rattle.eris_locks.specs.Law.{HasPacket, StandsIn, plain_answers}
use Rattle.eris_locks.specs.LockTable.{run_state}
use Rattle.eris_locks.specs.Shards.{cut, cut_body, is_on, names_shard, on_shard}
use Rattle.eris_locks.specs.States.{empty, is_conclusory, is_prelim, phase_of}
use Rattle.eris_law_lock.proofs.Once.{answer_to, stands_once}
use Rattle.eris_audit.specs.declared.outcome.Outcome.{Outcome}
use Rattle.eris_audit.specs.Lines.{Line, has_line, outcome_in}
use Rattle.eris_audit.specs.SerialRun.{result_in, result_of, values_after}
use Rattle.eris_audit.proofs.TableLines.{is_some-outcome}
use Rattle.eris_audit.proofs.Turns.{NoRepeat, no_repeat}
use Rattle.eris_order.specs.Orders.{lines}
use Rattle.eris_serial.specs.Evidence.{HasOwn, IsIn, Origins}
use Rattle.eris_serial.specs.Shares.{share}
use Rattle.eris_serial.specs.Transactions.{CanRun, takes_part}
use Rattle.eris_serial.proofs.CountedStands.{some_shard}
use Rattle.eris_law_serial.proofs.AtShard.{op_on}
use Rattle.eris_law_serial.proofs.CutOrigins.{cut_origins}
use Rattle.eris_law_serial.proofs.FirstPackets.{line_is_own, lines_once, own_has_line}
use Rattle.eris_law_serial.proofs.OneMap.{IsAnswered}
use Rattle.eris_law_serial.proofs.OrderLines.{line_has_result, line_of_outcome}
use Rattle.eris_law_serial.proofs.Parts.{answers-one_each, shares_decide, values-one_each}
use Rattle.eris_law_serial.proofs.Rules.{lasts_of, one_map, order_runs}
use Rattle.eris_law_serial.proofs.ShardByShard.{shard_answer}
use Rattle.eris_law_serial.proofs.Sound.{conclusory-cut}
use Rattle.eris_law_serial.proofs.WellFormedOrder.{all_sound, runs_of, well_formed}
use Rattle.eris_law_past.specs.Pasts.{AllConcluded, HasConclusory, IsPast}
use Rattle.eris_law_past.proofs.Beginnings.{answers_begin}
use Rattle.eris_law_past.proofs.Ends.{concluded_of, values_are}
use Rattle.eris_law_past.proofs.Fates.{fate-on_shard, fate_begins, fate_on, lines-fate}

-- ---- lines
line_there : (lines : List Line) (line : Line) → IsIn line lines → has_line lines line.id ≡ true
line_there [] line there = absurd there
line_there (other ∷ lines) line (inl is) = or_left _ _ (same_id-from other.id line.id (ap (λ (one : Line). one.id) is))
line_there (other ∷ lines) line (inr there) = or_right _ _ (line_there lines line there)

outcome_there : (lines : List Line) (line : Line) → NoRepeat lines → IsIn line lines → outcome_in lines line.id ≡ Some line.outcome
outcome_there [] line once there = absurd there
outcome_there (other ∷ lines) line once (inl is) =
    cond-true (same_id other.id line.id) _ _ (same_id-from other.id line.id (ap (λ (one : Line). one.id) is)) ∙ ap (λ (one : Line). Some one.outcome) is
outcome_there (other ∷ lines) line once (inr there) =
    cond-false (same_id other.id line.id) _ _ (unlike (cases_Bool (same_id other.id line.id))) ∙ outcome_there lines line once.1 there
  where
    unlike : ((same_id other.id line.id ≡ true) ⊎ (same_id other.id line.id ≡ false)) → same_id other.id line.id ≡ false
    unlike (inl same) = absurd (both_ways _ once.0 (ap (has_line lines) (same_id-true other.id line.id same) ∙ line_there lines line there))
    unlike (inr apart) = apart

line_from : (lines : List Line) (id : TxnId) (outcome : Outcome) → outcome_in lines id ≡ Some outcome → IsIn (record { id = id; outcome = outcome }) lines
line_from [] id outcome is = absurd (let clash : None ≡ Some outcome = is in cc)
line_from (other ∷ lines) id outcome is = by_test (cases_Bool (same_id other.id id)) (line_from lines id outcome)
  where
    by_test : ((same_id other.id id ≡ true) ⊎ (same_id other.id id ≡ false)) → (outcome_in lines id ≡ Some outcome → IsIn (record { id = id; outcome = outcome }) lines)
        → IsIn (record { id = id; outcome = outcome }) (other ∷ lines)
    by_test (inl same) rest =
        let here : Some other.outcome ≡ Some outcome = sym (cond-true (same_id other.id id) _ _ same) ∙ is in
        let value : other.outcome ≡ outcome = cc in
        inl (λ i. record { id = same_id-true other.id id same i; outcome = value i })
    by_test (inr apart) rest = inr (rest (sym (cond-false (same_id other.id id) _ _ apart) ∙ is))

-- ---- packets
record OwnPacket (id : TxnId) (packets : List Packet) : Type 0 where
  packet : Packet
  there : IsIn packet packets
  of_id : packet.id ≡ id
  own : is_conclusory packet.body ≡ false

own_packet : (id : TxnId) (packets : List Packet) → HasOwn id packets → OwnPacket id packets
own_packet id [] has = absurd has
own_packet id (packet ∷ packets) (inl here) = record { packet = packet; there = inl refl; of_id = here.0; own = here.1 }
own_packet id (packet ∷ packets) (inr there) =
    let rest = own_packet id packets there in
    record { packet = rest.packet; there = inr rest.there; of_id = rest.of_id; own = rest.own }

own_from : (id : TxnId) (packet : Packet) (packets : List Packet) → IsIn packet packets → packet.id ≡ id → is_conclusory packet.body ≡ false → HasOwn id packets
own_from id packet [] there of_id own = absurd there
own_from id packet (other ∷ packets) (inl is) of_id own = inl (ap (λ (one : Packet). one.id) is ∙ of_id, ap (λ (one : Packet). is_conclusory one.body) is ∙ own)
own_from id packet (other ∷ packets) (inr there) of_id own = inr (own_from id packet packets there of_id own)

own_can_run : (txn : TxnId → Txn) (id : TxnId) (packets : List Packet) → Each (λ packet. CanRun (txn packet.id)) packets → HasOwn id packets → CanRun (txn id)
own_can_run txn id [] each has = absurd has
own_can_run txn id (packet ∷ packets) each (inl here) = subst (λ (one : TxnId). CanRun (txn one)) here.0 each.0
own_can_run txn id (packet ∷ packets) each (inr there) = own_can_run txn id packets each.1 there

shard_of : (txn : Txn) → CanRun txn → (shard : ShardId) × (takes_part shard txn ≡ true)
shard_of (Whole []) can = absurd (can refl)
shard_of (Whole (op ∷ ops)) can = ((key_of op).shard, or_left _ _ (eq-eqb (key_of op).shard.0 (key_of op).shard.0 refl))
shard_of (General plan) can = some_shard plan.keys can.some_key

conclude_phase : (body : Body) → is_conclusory body ≡ true → phase_of body ≡ Phase.Conclude
conclude_phase (Independent ops) is = absurd (both_ways _ refl is)
conclude_phase (Prelim locks) is = absurd (both_ways _ refl is)
conclude_phase (Commit keys writes) is = refl
conclude_phase (Abort keys) is = refl

prelim-cut : (shard : ShardId) (body : Body) → is_prelim (cut_body shard body) ≡ is_prelim body
prelim-cut shard (Independent ops) = refl
prelim-cut shard (Prelim locks) = refl
prelim-cut shard (Commit keys writes) = refl
prelim-cut shard (Abort keys) = refl

-- a conclusory packet stands on each shard that takes part
conclusory_on : (txn : TxnId → Txn) (shard : ShardId) (id : TxnId) (packets : List Packet) → Each (λ packet. (one : ShardId) → names_shard one packet ≡ takes_part one (txn packet.id)) packets
    → takes_part shard (txn id) ≡ true → HasConclusory id packets → HasPacket id Phase.Conclude (on_shard shard packets)
conclusory_on txn shard id [] shards part has = absurd has
conclusory_on txn shard id (packet ∷ packets) shards part has = by_test (names_shard shard packet) refl has (conclusory_on txn shard id packets shards.1 part)
  where
    by_test : (named : Bool) → names_shard shard packet ≡ named → HasConclusory id (packet ∷ packets) → (HasConclusory id packets → HasPacket id Phase.Conclude (on_shard shard packets))
        → HasPacket id Phase.Conclude (elim named [ true ↦ cut shard packet ∷ on_shard shard packets | false ↦ on_shard shard packets ])
    by_test true named (inl here) rest = inl (here.0, conclude_phase (cut_body shard packet.body) (conclusory-cut shard packet.body ∙ here.1))
    by_test true named (inr there) rest = inr (rest there)
    by_test false unnamed (inl here) rest =
        absurd (both_ways _ unnamed (shards.0 shard ∙ (ap (λ (one : TxnId). takes_part shard (txn one)) here.0 ∙ part)))
    by_test false unnamed (inr there) rest = rest there

each_on_shard : (P : ShardPacket → Type 0) (shard : ShardId) (packets : List Packet) → ((packet : Packet) → IsIn packet packets → names_shard shard packet ≡ true → P (cut shard packet))
    → Each P (on_shard shard packets)
each_on_shard P shard [] holds = tt
each_on_shard P shard (packet ∷ packets) holds = by_test (names_shard shard packet) refl (each_on_shard P shard packets (λ one there named. holds one (inr there) named))
  where
    by_test : (named : Bool) → names_shard shard packet ≡ named → Each P (on_shard shard packets)
        → Each P (elim named [ true ↦ cut shard packet ∷ on_shard shard packets | false ↦ on_shard shard packets ])
    by_test true named rest = (holds packet (inl refl) named, rest)
    by_test false unnamed rest = rest

-- ---- results: what every shard that takes part answers alike is one result
same_ops : (ops : List Op) (mine yours : Values) → ((shard : ShardId) → takes_part shard (Whole ops) ≡ true → shard_answer shard (Whole ops) mine ≡ shard_answer shard (Whole ops) yours)
    → answers ops mine ≡ answers ops yours
same_ops ops mine yours same =
    shares_decide OpAnswer key_of ops (answers ops mine) (answers ops yours) (answers-one_each ops mine) (answers-one_each ops yours) (λ shard on. share_same shard (same shard on))
  where
    share_same : (shard : ShardId) → Ops (share (op_on shard) ops (answers ops mine)) ≡ Ops (share (op_on shard) ops (answers ops yours)) → share (op_on shard) ops (answers ops mine) ≡ share (op_on shard) ops (answers ops yours)
    share_same shard is = cc

same_keys : (keys : List Key) (mine yours : Values)
    → ((shard : ShardId) → any_on keys shard ≡ true → Answer.Values (share (is_on shard) keys (map mine keys)) ≡ Answer.Values (share (is_on shard) keys (map yours keys)))
    → map mine keys ≡ map yours keys
same_keys keys mine yours same =
    shares_decide (Option ℕ) (λ key. key) keys (map mine keys) (map yours keys) (values-one_each keys mine) (values-one_each keys yours)
    (λ shard on. share_same shard (same shard (ap (λ some. any_on some shard) (sym (map-id keys)) ∙ on)))
  where
    share_same : (shard : ShardId) → Answer.Values (share (is_on shard) keys (map mine keys)) ≡ Answer.Values (share (is_on shard) keys (map yours keys))
        → share (is_on shard) keys (map mine keys) ≡ share (is_on shard) keys (map yours keys)
    share_same shard is = cc

same_result : (txn : Txn) (mine yours : Values) → ((shard : ShardId) → takes_part shard txn ≡ true → shard_answer shard txn mine ≡ shard_answer shard txn yours) → result_of txn mine ≡ result_of txn yours
same_result (Whole ops) mine yours same = ap Ops (same_ops ops mine yours same)
same_result (General plan) mine yours same = ap Answer.Values (same_keys plan.keys mine yours same)

-- ---- A PAST
module _ (txn : TxnId → Txn) (order part : List Packet) (origins : Origins txn order) (past : IsPast order part) where
  pub part_origins : Origins txn part
  part_origins = cut_origins txn order part origins past.closed

  pub shard_concluded : (shard : ShardId) → AllConcluded (on_shard shard part)
  shard_concluded shard = each_on_shard (λ one. is_prelim one.body ≡ true → HasPacket one.id Phase.Conclude (on_shard shard part)) shard part concluded
    where
      named_part : (packet : Packet) (packets : List Packet) → Each (λ one. (other : ShardId) → names_shard other one ≡ takes_part other (txn one.id)) packets → IsIn packet packets
          → names_shard shard packet ≡ takes_part shard (txn packet.id)
      named_part packet [] each there = absurd there
      named_part packet (other ∷ packets) each (inl is) = subst (λ (one : Packet). names_shard shard one ≡ takes_part shard (txn one.id)) is (each.0 shard)
      named_part packet (other ∷ packets) each (inr there) = named_part packet packets each.1 there

      concluded : (packet : Packet) → IsIn packet part → names_shard shard packet ≡ true → is_prelim (cut_body shard packet.body) ≡ true → HasPacket packet.id Phase.Conclude (on_shard shard part)
      concluded packet there named prelim =
          conclusory_on txn shard packet.id part part_origins.shards (sym (named_part packet part part_origins.shards there) ∙ named)
          (past.concluded packet there (sym (prelim-cut shard packet.body) ∙ prelim))

  -- THE MAPS
  pub values_stand : (shard : ShardId) (key : Key) → is_on shard key ≡ true → (run_state empty (on_shard shard part)).values key ≡ values_after txn (lines part) no_values key
  values_stand shard key on =
      ap (λ (values : Values). values key) (values_are (on_shard shard part) (well_formed txn part part_origins shard) (shard_concluded shard))
      ∙ sym (one_map txn part part_origins shard key on)

  -- THE OUTCOMES
  record StandsSo (id : TxnId) (outcome : Outcome) : Type 0 where
    there : outcome_in (lines order) id ≡ Some outcome
    ends : outcome ≡ Outcome.Pending → ⊥

  outcome_stands : (id : TxnId) (outcome : Outcome) → outcome_in (lines part) id ≡ Some outcome → StandsSo id outcome
  outcome_stands id outcome is = by_shard (shard_of (txn id) (own_can_run txn id part part_origins.can_run (line_is_own part id (line_of_outcome id outcome (lines part) is))))
    where
      by_shard : ((shard : ShardId) × (takes_part shard (txn id) ≡ true)) → StandsSo id outcome
      by_shard some =
          let shard = some.0 in
          let mine : fate_on id false (on_shard shard part) ≡ Some outcome =
          fate-on_shard txn (runs_of txn part part_origins) shard id part false (all_sound txn part part_origins) some.1 ∙ (sym (lines-fate id part [] [] refl) ∙ is) in
          let begins = fate_begins id outcome (on_shard shard part) (past.closed.rest shard) false
          (λ has. inr (concluded_of id (on_shard shard part) (on_shard shard part) (shard_concluded shard) has)) mine in
          record {
            there = lines-fate id order [] [] refl
                ∙ (sym (fate-on_shard txn (runs_of txn order origins) shard id order false (all_sound txn order origins) some.1)
                ∙ (ap (fate_on id false) (past.closed.begins shard) ∙ begins.stays));
            ends = begins.ends;
          }

  of_line : (line : Line) → IsIn line (lines part) → StandsSo line.id line.outcome
  of_line line there = outcome_stands line.id line.outcome (outcome_there (lines part) line (no_repeat [] (lines part) (lines_once part)) there)

  pub lines_stand : (line : Line) → IsIn line (lines part) → IsIn line (lines order)
  lines_stand line there = line_from (lines order) line.id line.outcome (of_line line there).there

  pub lines_decided : (line : Line) → IsIn line (lines part) → line.outcome ≡ Outcome.Pending → ⊥
  lines_decided line there = (of_line line there).ends

  pub outcomes_stand : (id : TxnId) → has_line (lines part) id ≡ true → outcome_in (lines part) id ≡ outcome_in (lines order) id
  outcomes_stand id has = by_found (outcome_in (lines part) id) refl
    where
      by_found : (found : Option Outcome) → outcome_in (lines part) id ≡ found → outcome_in (lines part) id ≡ outcome_in (lines order) id
      by_found (Some outcome) is = is ∙ sym (outcome_stands id outcome is).there
      by_found None is = absurd (both_ways _ (ap is_some is) (is_some-outcome (lines part) id ∙ has))

  -- THE RESULTS
  pub results_stand : (id : TxnId) → has_line (lines part) id ≡ true → result_in txn (lines part) no_values id ≡ result_in txn (lines order) no_values id
  results_stand id has =
      let own = own_packet id part (line_is_own part id has) in
      let mine = line_has_result txn id (lines part) no_values has in
      let yours = line_has_result txn id (lines order) no_values (own_has_line order id (own_from id own.packet order (past.closed.inside own.packet own.there) own.of_id own.own)) in
      mine.1 ∙ (ap (λ (answer : Answer). Some answer) (one_result mine.0 yours.0 ((order_runs txn part part_origins).results id mine.0 mine.1) ((order_runs txn order origins).results id yours.0 yours.1)) ∙ sym yours.1)
    where
      one_result : (mine yours : Answer) → IsAnswered txn (runs_of txn part part_origins) (lasts_of part) id mine → IsAnswered txn (runs_of txn order origins) (lasts_of order) id yours → mine ≡ yours
      one_result mine yours here there = here.result ∙ (same_result (txn id) here.values there.values same ∙ sym there.result)
        where
          same : (shard : ShardId) → takes_part shard (txn id) ≡ true → shard_answer shard (txn id) here.values ≡ shard_answer shard (txn id) there.values
          same shard takes =
              let begins = answers_begin (on_shard shard part) (past.closed.rest shard) (shard_concluded shard) (answer_to id (shard_answer shard (txn id) here.values)) (here.shards shard takes) in
              stands_once (on_shard shard order) no_values [] [] id (shard_answer shard (txn id) here.values) (shard_answer shard (txn id) there.values)
              (subst (λ (list : List ShardPacket). StandsIn (answer_to id (shard_answer shard (txn id) here.values)) (plain_answers list)) (sym (past.closed.begins shard)) begins)
              (there.shards shard takes)
