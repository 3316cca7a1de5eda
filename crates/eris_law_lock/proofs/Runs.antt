-- A list of packets, step after step.
use Rattle.eris_base.specs.declared.ids.ClientId.{ClientId}
use Rattle.eris_base.specs.declared.ids.Place.{Place}
use Rattle.eris_base.specs.declared.ids.TxnId.{TxnId}
use Rattle.eris_law_lock.proofs.Arrive.{Next, arrive_right}
use Rattle.eris_law_lock.proofs.Conclude.{conclude_right}
use Rattle.eris_base.proofs.Each.{Each-append}
use Rattle.eris_law_lock.proofs.Fit.{Fit, Plain, waiting_in}
use Rattle.eris_law_lock.proofs.Keys.{on_key_kept, put_on_kept}
use Rattle.eris_law_lock.proofs.Log.{Entry}
use Rattle.eris_law_lock.proofs.Release.{GoodDone}
use Rattle.eris_base.specs.Each.{Each}
use Rattle.eris_locks.specs.LockTable.{run_dones, run_state, step, step_by}
use Rattle.eris_locks.specs.Locks.{alters}
use Rattle.eris_locks.specs.ShardRun.{outcome_in, plain_run, plain_values, writes_in}
use Rattle.eris_locks.specs.States.{StoreState, empty, holds}
use Rattle.eris_locks.specs.declared.done.Done.{Done}
use Rattle.eris_locks.specs.declared.shard_packet.ShardPacket.{ShardPacket}
use Rattle.eris_txn.specs.Keys.{Values, no_values}
use Rattle.eris_txn.specs.declared.answer.Answer.{Answer}
use Rattle.eris_txn.specs.declared.answer.Answer.TheVariants.{Aborted, Committed}
use Rattle.eris_txn.specs.declared.body.Body.{Body}
use Rattle.eris_txn.specs.declared.body.Body.TheVariants.{Abort, Commit, Independent, Prelim}
use Rattle.std.proofs.Common.{Bool, List, None, Some, [], ap, append_assoc, false, refl, sym, true, ◌++◌, ◌∙◌, ◌∷◌, ◌≡◌}
use Rattle.std.proofs.lemmas.Bool.{both_ways}

abbrev pub GoesWellHere : (TxnId → Bool) → StoreState → TxnId → List ShardPacket → Body → Type 0
GoesWellHere kind state id packets (Independent ops) = kind id ≡ false
GoesWellHere kind state id packets (Prelim ls) =
    (kind id ≡ true) × Each (λ write. alters write.key ls ≡ true) (writes_in id packets)
GoesWellHere kind state id packets (Commit keys writes) = state.decided id ≡ None → holds id state.holding ≡ true
GoesWellHere kind state id packets (Abort keys) = Unit {0}

abbrev pub GoesWell : (TxnId → Bool) → StoreState → List ShardPacket → Type 0
GoesWell kind state [] = Unit {0}
GoesWell kind state (packet ∷ packets) =
    GoesWellHere kind state packet.id packets packet.body × GoesWell kind (step state packet).state packets

step_right : (all : Plain) (kind : TxnId → Bool) (packets : List ShardPacket) (values : Values) (seen decided : List TxnId) (at : Place) (asker : ClientId) (id : TxnId) (body : Body) (state : StoreState) (entries : List Entry)
    → GoesWellHere kind state id packets body
    → Fit (record { all = all; kind = kind; rest = record { at = at; asker = asker; id = id; body = body } ∷ packets; reached = values; seen = seen; decided = decided }) state entries
    → state.waiting ≡ waiting_in entries
    → Next all kind packets (step_by body state (record { at = at; asker = asker; id = id; body = body }))
step_right all kind packets values seen decided at asker id (Independent ops) state entries well fit waiting =
    arrive_right all kind packets values seen decided at asker id (Independent ops) state entries refl (sym well) (λ x v a. on_key_kept ops x v a) fit waiting
step_right all kind packets values seen decided at asker id (Prelim ls) state entries well fit waiting =
    arrive_right all kind packets values seen decided at asker id (Prelim ls) state entries refl (sym well.0) (λ x v a. put_on_kept (writes_in id packets) ls x v well.1 a) fit waiting
step_right all kind packets values seen decided at asker id (Commit keys writes) state entries well fit waiting =
    conclude_right all kind packets values seen decided at asker id (Commit keys writes) Committed writes refl (λ i. refl) (λ i. refl) refl state entries fit waiting (λ n k. absurd (both_ways _ k (well n)))
step_right all kind packets values seen decided at asker id (Abort keys) state entries well fit waiting =
    conclude_right all kind packets values seen decided at asker id (Abort keys) Aborted [] refl (λ i. refl) (λ i. refl) refl state entries fit waiting (λ n k. (refl, refl))

-- the rest of a run
pub record Ended (all : Plain) (kind : TxnId → Bool) (state : StoreState) (dones : List Done) : Type 0 where
  pub good : Each (GoodDone all) dones
  pub next : Next all kind [] (record { state = state; dones = [] })

pub run_right : (packets : List ShardPacket) (all : Plain) (kind : TxnId → Bool) (values : Values) (seen decided : List TxnId) (state : StoreState) (entries : List Entry)
    → GoesWell kind state packets
    → Fit (record { all = all; kind = kind; rest = packets; reached = values; seen = seen; decided = decided }) state entries
    → state.waiting ≡ waiting_in entries
    → Ended all kind (run_state state packets) (run_dones state packets)
run_right [] all kind values seen decided state entries well fit waiting = record {
  good = tt;
  next =
      record { reached_now = values; seen_now = seen; decided_now = decided; right = record { log = entries; fit = fit; waiting = waiting; good = tt } };
}
run_right (packet ∷ packets) all kind values seen decided state entries well fit waiting =
    let n = step_right all kind packets values seen decided packet.at packet.asker packet.id packet.body state entries well.0 fit waiting in
    let r = run_right packets all kind n.reached_now n.seen_now n.decided_now (step state packet).state n.right.log well.1 n.right.fit n.right.waiting in
    record { good = Each-append _ (step state packet).dones (run_dones (step state packet).state packets) n.right.good r.good; next = r.next }

abbrev pub plain : List ShardPacket → Plain
plain packets =
    record { run = plain_run no_values [] [] packets; outcome = λ i. outcome_in i packets; values = plain_values no_values [] [] packets }

-- THE LAW, for the whole list
pub law_from : (packets : List ShardPacket) (kind : TxnId → Bool) → GoesWell kind empty packets
    → Ended (plain packets) kind (run_state empty packets) (run_dones empty packets)
law_from packets kind well = run_right packets (plain packets) kind no_values [] [] empty [] well
    (record {
      values = λ x. refl;
      order = tt;
      each = tt;
      distinct = tt;
      holding = λ p. refl;
      sound = λ id q answer h. absurd (no answer h);
      logged = λ id q h. absurd (both_ways _ refl h);
      linked = refl;
      reaches = refl;
      seen_is = λ i. refl;
      decided_is = λ i. refl;
      ends = refl;
      told = λ i answer h. absurd (no answer h);
      untold = λ i n. refl;
      ruled = λ i answer h. absurd (no answer h);
    }) refl
  where
    no : (answer : Answer) → None ≡ Some answer → ⊥
    no answer h = cc

-- the answers of a list are those of a beginning and then of its rest
pub dones_of_prefix : (packets rest : List ShardPacket) (state : StoreState)
    → run_dones state (packets ++ rest) ≡ run_dones state packets ++ run_dones (run_state state packets) rest
dones_of_prefix [] rest state = refl
dones_of_prefix (packet ∷ packets) rest state =
    ap (λ t. (step state packet).dones ++ t) (dones_of_prefix packets rest (step state packet).state)
    ∙ sym (append_assoc (step state packet).dones (run_dones (step state packet).state packets) (run_dones (run_state state (packet ∷ packets)) rest))
