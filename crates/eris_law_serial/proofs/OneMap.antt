-- One map: along the lines of an order the serial run has the results that the shards answer, the guards of each
-- commit hold, and its map at the end is each shard's map at that shard's keys. Used by the rules.
use Rattle.std.proofs.Common.{◌≡◌, Bool, true, false, cond, Option, Some, List, [], ◌∷◌, ◌++◌, refl, ap, sym, ◌∙◌, subst}
use Rattle.std.proofs.lemmas.Bool.{both_ways}
use Rattle.eris_base.specs.declared.ids.ShardId.{ShardId}
use Rattle.eris_base.specs.declared.ids.TxnId.{TxnId}
use Rattle.eris_base.specs.Each.{Each, EachAfter}
use Rattle.eris_base.specs.TxnIds.{same_id, is_among}
use Rattle.eris_base.proofs.TxnIdLaws.{same_id-true}
use Rattle.eris_txn.specs.declared.answer.Answer.{Answer}
use Rattle.eris_txn.specs.declared.body.Body.{Body}
use Rattle.eris_txn.specs.declared.body.Body.TheVariants.{Independent, Prelim, Commit, Abort}
use Rattle.eris_txn.specs.declared.history.HistoryEvent.{HistoryEvent}
use Rattle.eris_txn.specs.declared.packet.Packet.{Packet}
use Rattle.eris_txn.specs.declared.txn.Txn.{Txn}
use Rattle.eris_txn.specs.declared.txn.Txn.TheVariants.{General}
use Rattle.eris_txn.specs.Keys.{Values, no_values}
use Rattle.eris_txn.specs.PlanValues.{PlanValue}
use Rattle.eris_txn.specs.Plans.{guards_hold}
use Rattle.eris_locks.specs.Law.{StandsIn}
use Rattle.eris_locks.specs.ShardRun.{Served}
use Rattle.eris_locks.specs.States.{is_conclusory}
use Rattle.eris_law_lock.proofs.Once.{answer_to}
use Rattle.eris_audit.specs.declared.outcome.Outcome.{Outcome}
use Rattle.eris_audit.specs.Histories.{txn_of}
use Rattle.eris_audit.specs.IsSerial.{GuardsHold}
use Rattle.eris_audit.specs.Lines.{Line}
use Rattle.eris_audit.specs.SerialRun.{guards_of, left_by_txn, result_in, result_of, values_after}
use Rattle.eris_audit.proofs.RunPlaces.{values_after-append}
use Rattle.eris_order.specs.Orders.{lines_from, outcome_at, outcome_from, outcome_of}
use Rattle.eris_serial.specs.Transactions.{takes_part, CanRun, CanRunPlan}
use Rattle.eris_law_serial.proofs.AtShard.{AgreeOn}
use Rattle.eris_law_serial.proofs.LineSteps.{by_packet, first_line}
use Rattle.eris_law_serial.proofs.ShardByShard.{AllMeet, GuardsAlong, after-acts, after-conclusory, after-repeated, answered_there, committed_here, shard_answer}
use Rattle.eris_law_serial.proofs.Sound.{BodySound, Sound}

-- guards that hold along the run hold at each line's point of it
pub guards-at : (history : List HistoryEvent) (before lines : List Line) → GuardsAlong (txn_of history) (values_after (txn_of history) before no_values) lines
    → EachAfter (GuardsHold history) before lines
guards-at history before [] along = tt
guards-at history before (line ∷ lines) along = (
  along.0,
  guards-at history (before ++ line ∷ []) lines
      (subst (λ (values : Values). GuardsAlong (txn_of history) values lines) (sym (values_after-append (txn_of history) before (line ∷ []) no_values)) along.1),
)

module _ (txn : TxnId → Txn) (runs : ShardId → List Served) (lasts : ShardId → Values) where
  -- a result of the serial run: it is had at some map, and each shard that takes part answers its share of it
  pub record IsAnswered (id : TxnId) (answer : Answer) : Type 0 where
    pub values : Values
    pub result : answer ≡ result_of (txn id) values
    pub shards : (shard : ShardId) → takes_part shard (txn id) ≡ true → StandsIn (answer_to id (shard_answer shard (txn id) values)) (runs shard)

  pub record RunsAlong (values : Values) (lines : List Line) : Type 0 where
    pub results : (id : TxnId) (answer : Answer) → result_in txn lines values id ≡ Some answer → IsAnswered id answer
    pub guards : GuardsAlong txn values lines
    pub ends : (shard : ShardId) → AgreeOn shard (values_after txn lines values) (lasts shard)

  guards_by_body : (id : TxnId) (body : Body) (decided : Bool) (later : Option Answer) (values : Values) → is_conclusory body ≡ false → BodySound txn runs id body → CanRun (txn id)
      → ((plan : PlanValue) → txn id ≡ General plan → CanRunPlan plan → outcome_from later ≡ Outcome.Committed → guards_hold plan.guards values ≡ true)
      → outcome_of body decided later ≡ Outcome.Committed → guards_hold (guards_of (txn id)) values ≡ true
  guards_by_body id (Independent ops) decided later values own sound fits guards commits = absurd (cc)
  guards_by_body id (Prelim locks) true later values own sound fits guards commits = absurd (cc)
  guards_by_body id (Prelim locks) false later values own sound fits guards commits =
      ap (λ t. guards_hold (guards_of t) values) sound.is ∙ guards sound.plan sound.is (subst CanRun sound.is fits) commits
  guards_by_body id (Commit keys writes) decided later values own sound fits guards commits = absurd (both_ways _ own refl)
  guards_by_body id (Abort keys) decided later values own sound fits guards commits = absurd (both_ways _ own refl)

  module _ (once : (shard : ShardId) (id : TxnId) (some other : Answer) → StandsIn (answer_to id some) (runs shard) → StandsIn (answer_to id other) (runs shard) → some ≡ other) where
    acts : (values : Values) (seen decided : List TxnId) (packet : Packet) (packets : List Packet) → Sound txn runs packet → Each (Sound txn runs) packets
        → AllMeet txn runs lasts values seen decided (packet ∷ packets) → is_conclusory packet.body ≡ false → is_among packet.id seen ≡ false
        → RunsAlong (left_by_txn (txn packet.id) (first_line packet decided packets).outcome values) (lines_from (packet.id ∷ seen) decided packets)
        → RunsAlong values (first_line packet decided packets ∷ lines_from (packet.id ∷ seen) decided packets)
    acts values seen decided packet packets sound sounds meet own new rest = record {
      results = λ id answer has. by_test id answer (same_id packet.id id) refl has;
      guards = (
        guards_by_body packet.id packet.body (is_among packet.id decided) (outcome_at packet.id packets) values own sound.body sound.can_run
            (λ plan is fits outcome. (committed_here txn runs lasts values seen decided packet packets sound sounds own new meet (λ shard some other. once shard packet.id some other) plan is fits outcome).1),
        rest.guards,
      );
      ends = rest.ends;
    }
      where
        left : Values
        left = left_by_txn (txn packet.id) (first_line packet decided packets).outcome values

        here : IsAnswered packet.id (result_of (txn packet.id) values)
        here = record { values = values; result = refl; shards = answered_there txn runs lasts values seen decided packet packets sound sounds own new meet }

        by_test : (id : TxnId) (answer : Answer) (test : Bool) → same_id packet.id id ≡ test
            → cond test (Some (result_of (txn packet.id) values)) (result_in txn (lines_from (packet.id ∷ seen) decided packets) left id) ≡ Some answer → IsAnswered id answer
        by_test id answer true same has =
            let is : result_of (txn packet.id) values ≡ answer = cc in
            subst (λ i. IsAnswered i answer) (same_id-true packet.id id same) (subst (IsAnswered packet.id) is here)
        by_test id answer false apart has = rest.results id answer has

    -- ALONG THE ORDER, from where every shard meets it
    pub runs_along : (packets : List Packet) (values : Values) (seen decided : List TxnId) → Each (Sound txn runs) packets → AllMeet txn runs lasts values seen decided packets
        → RunsAlong values (lines_from seen decided packets)
    runs_along [] values seen decided sounds meet = record {
      results = λ id answer has. absurd (cc);
      guards = tt;
      ends = λ shard key on. (meet shard).1.agree key on ∙ ap (λ (m : Values). m key) (meet shard).1.ends;
    }
    runs_along (packet ∷ packets) values seen decided sounds meet = by_packet (RunsAlong values) seen decided packet packets
        (λ concludes. runs_along packets values seen (packet.id ∷ decided) sounds.1 (after-conclusory txn runs lasts values seen decided packet packets sounds.0 concludes meet))
        (λ own again. runs_along packets values seen decided sounds.1 (after-repeated txn runs lasts values seen decided packet packets sounds.0 own again meet))
        (λ own new. acts values seen decided packet packets sounds.0 sounds.1 meet own new
        (runs_along packets (left_by_txn (txn packet.id) (first_line packet decided packets).outcome values) (packet.id ∷ seen) decided sounds.1
        (after-acts txn runs lasts values seen decided packet packets sounds.0 sounds.1 own new meet (λ shard some other. once shard packet.id some other))))
