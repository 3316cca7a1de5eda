-- WHAT A SHARD'S STORE ANSWERS IS IN THE MESSAGES' RANGES, where each packet of its log is in them and names
-- exactly its participants: so the shard has 1 to 32 items of what it answers by items, and each value is below
-- 2^64. Used for the learner's replies and for the late answers.
use Rattle.std.proofs.Common.{◌≡◌, ◌≤◌, ◌^◌, ◌==◌, ℕ, suc, Bool, true, false, ◌&&◌, ◌||◌, cond, not, Option, Some, None, List, [], ◌∷◌, ◌++◌, length, map, find, is_some, refl, ap, sym, ◌∙◌, subst, arith}
use Rattle.std.specs.Prelude.{⊤}
use Rattle.std.specs.List.{filter, list_any}
use Rattle.std.specs.Option.{option_map}
use Rattle.std.proofs.lemmas.Bool.{lt-ltb, le-leb, eq-eqb, and_from}
use Rattle.eris_base.specs.declared.ids.Epoch.{Epoch}
use Rattle.eris_base.specs.declared.ids.Phase.{Phase}
use Rattle.eris_base.specs.declared.ids.Phase.TheVariants as phases
use Rattle.eris_base.specs.declared.ids.Place.{Place}
use Rattle.eris_base.specs.declared.ids.ShardId.{ShardId}
use Rattle.eris_base.specs.declared.ids.TxnId.{TxnId}
use Rattle.eris_base.specs.Each.{Each}
use Rattle.eris_base.specs.Places.{number_in}
use Rattle.eris_base.specs.TxnIds.{same_id}
use Rattle.eris_base.proofs.Each.{Each-append, Each-filter}
use Rattle.eris_base.proofs.Booleans.{left_of, right_of}
use Rattle.eris_base.proofs.IdLaws.{shard_by_test}
use Rattle.eris_txn.specs.declared.answer.Answer.{Answer}
use Rattle.eris_txn.specs.declared.answer.Answer.TheVariants.{Committed, Aborted}
use Rattle.eris_txn.specs.declared.body.Body.{Body}
use Rattle.eris_txn.specs.declared.body.Body.TheVariants.{Independent, Prelim, Commit, Abort}
use Rattle.eris_txn.specs.declared.key.Key.{Key}
use Rattle.eris_txn.specs.declared.lock.Lock.{Lock}
use Rattle.eris_txn.specs.declared.op.Op.{Op}
use Rattle.eris_txn.specs.declared.op.Op.TheVariants.{Get, Put, Del, Add, Cas}
use Rattle.eris_txn.specs.declared.op.OpAnswer.{OpAnswer}
use Rattle.eris_txn.specs.declared.packet.Packet.{Packet}
use Rattle.eris_txn.specs.declared.plan.Write.{Write}
use Rattle.eris_txn.specs.Bodies.{keys_of, participants_of, has_shard, any_on}
use Rattle.eris_txn.specs.Keys.{Values, same_key, with_value}
use Rattle.eris_txn.specs.Operations.{key_of, has_value, sum_of, left_by, yes_or_no, answered, after, after_all, answers}
use Rattle.eris_txn.specs.Plans.{written}
use Rattle.eris_txn.proofs.BodyLaws.{has_shard-participants}
use Rattle.eris_txn.proofs.ValueLaws.{length-answers}
use Rattle.eris_epoch.proofs.SameLaws.{same_list-true}
use Rattle.eris_locks.specs.declared.done.Done.{Done}
use Rattle.eris_locks.specs.declared.shard_packet.ShardPacket.{ShardPacket}
use Rattle.eris_locks.specs.Locks.{locks_of}
use Rattle.eris_locks.specs.LockTable.{Stepped, also, all_also, only, nothing_done, done, answer_of, values_after, execute, release, arrive_new, arrive, aborted_late, end_holding, end_waiting, conclude_first, conclude, step_by, step, run_dones, run_state}
use Rattle.eris_locks.specs.Shards.{is_on, cut_body, cut, names_shard, on_shard}
use Rattle.eris_locks.specs.States.{StoreState, empty, same_phase, phase_of, is_prelim, note, decide, is_decided, holds, waits, is_prelim_of, no_longer_waiting, blocked}
use Rattle.eris_codec.specs.Codecs.{items_fit}
use Rattle.eris_codec.specs.Fields as f
use Rattle.eris_codec.proofs.FieldLaws.{at_most, tag_is}
use Rattle.eris_rules.specs.InPlace.{names_exactly, names_participants}
use Rattle.eris_law_range.specs.Answering.{PacketIsRight, AnswerFits, KeptFits, DoneFits}
use Rattle.eris_rules.specs.ReplicaAnswers.{is_late_above, late_answers, prompt_answer, answer_after, store_after, store_answers}

-- ---- values
abbrev ValueFits : ℕ → Type 0
ValueFits value = f.value.fits value ≡ true

abbrev FoundFits : Option ℕ → Type 0
FoundFits found = f.found.fits found ≡ true

abbrev ValuesFit : Values → Type 0
ValuesFit values = (key : Key) → FoundFits (values key)

-- an operation brings a value in its range, if it brings one
abbrev OpFits : Op → Type 0
OpFits (Get key) = ⊤
OpFits (Put key value) = ValueFits value
OpFits (Del key) = ⊤
OpFits (Add key more) = ⊤
OpFits (Cas key expected value) = ValueFits value

abbrev WriteFits : Write → Type 0
WriteFits write = ValueFits write.value

none_found : FoundFits None
unfolding f.found f.found_fits
none_found = refl

some_found : (value : ℕ) → ValueFits value → FoundFits (Some value)
unfolding f.found f.found_fits
some_found value h = h

value_found : (value : ℕ) → FoundFits (Some value) → ValueFits value
unfolding f.found f.found_fits
value_found value h = h

sum-fits : (before : Option ℕ) (more : ℕ) → ValueFits (sum_of before more)
unfolding f.value
sum-fits before more = lt-ltb (sum_of before more) (2 ^ 64) (omega arith)

cond_found : (test : Bool) (one other : Option ℕ) → FoundFits one → FoundFits other → FoundFits (cond test one other)
cond_found true one other h k = h
cond_found false one other h k = k

with_value-fits : (key : Key) (value : Option ℕ) (values : Values) → FoundFits value → ValuesFit values → ValuesFit (with_value key value values)
with_value-fits key value values h k other = cond_found (same_key key other) value (values other) h (k other)

left-fits : (op : Op) (before : Option ℕ) → OpFits op → FoundFits before → FoundFits (left_by op before)
left-fits (Get key) before h k = k
left-fits (Put key value) before h k = some_found value h
left-fits (Del key) before h k = none_found
left-fits (Add key more) before h k = some_found (sum_of before more) (sum-fits before more)
left-fits (Cas key expected value) before h k = cond_found (has_value before expected) (Some value) before (some_found value h) k

after-fits : (op : Op) (values : Values) → OpFits op → ValuesFit values → ValuesFit (after op values)
after-fits op values h k = with_value-fits (key_of op) (left_by op (values (key_of op))) values (left-fits op (values (key_of op)) h (k (key_of op))) k

after_all-fits : (ops : List Op) (values : Values) → Each OpFits ops → ValuesFit values → ValuesFit (after_all ops values)
after_all-fits [] values h k = k
after_all-fits (op ∷ ops) values h k = after_all-fits ops (after op values) h.1 (after-fits op values h.0 k)

written-fits : (writes : List Write) (values : Values) → Each WriteFits writes → ValuesFit values → ValuesFit (written writes values)
written-fits [] values h k = k
written-fits (write ∷ writes) values h k =
    written-fits writes (with_value write.key (Some write.value) values) h.1
    (with_value-fits write.key (Some write.value) values (some_found write.value h.0) k)

-- ---- answers
-- 1 to 32
abbrev IsFew : ℕ → Type 0
IsFew count = (f.from_to 1 32).fits count ≡ true

yes_or_no-fits : (test : Bool) → f.op_answer.fits (yes_or_no test) ≡ true
unfolding f.op_answer f.op_answer_fits
yes_or_no-fits true = refl
yes_or_no-fits false = refl

answered-fits : (op : Op) (before : Option ℕ) → FoundFits before → f.op_answer.fits (answered op before) ≡ true
unfolding f.op_answer f.op_answer_fits
answered-fits (Get key) None h = refl
answered-fits (Get key) (Some value) h = value_found value h
answered-fits (Put key value) before h = refl
answered-fits (Del key) before h = yes_or_no-fits (is_some before)
answered-fits (Add key more) before h = sum-fits before more
answered-fits (Cas key expected value) before h = yes_or_no-fits (has_value before expected)

answers-fit : (ops : List Op) (values : Values) (before : List OpAnswer) → Each OpFits ops → ValuesFit values → items_fit (λ _. f.op_answer) before (answers ops values) ≡ true
answers-fit [] values before h k = refl
answers-fit (op ∷ ops) values before h k =
    and_from _ _ (answered-fits op (values (key_of op)) (k (key_of op)))
    (answers-fit ops (after op values) (before ++ answered op (values (key_of op)) ∷ []) h.1 (after-fits op values h.0 k))

read-fit : (locks : List Lock) (values : Values) (before : List (Option ℕ)) → ValuesFit values → items_fit (λ _. f.found) before (map (λ lock. values lock.key) locks) ≡ true
read-fit [] values before k = refl
read-fit (lock ∷ locks) values before k = and_from _ _ (k lock.key) (read-fit locks values (before ++ values lock.key ∷ []) k)

length-read : (locks : List Lock) (values : Values) → length (map (λ lock. values lock.key) locks) ≡ length locks
length-read [] values = refl
length-read (lock ∷ locks) values = ap suc (length-read locks values)

-- what a shard has of a body
abbrev CutFits : Body → Type 0
CutFits (Independent ops) = IsFew (length ops) × Each OpFits ops
CutFits (Prelim locks) = IsFew (length locks)
CutFits (Commit keys writes) = Each WriteFits writes
CutFits (Abort keys) = ⊤

committed-fits : AnswerFits Committed
unfolding f.answer f.answer_fits
committed-fits = refl

aborted-fits : AnswerFits Aborted
unfolding f.answer f.answer_fits
aborted-fits = refl

answer_of-fits : (body : Body) (values : Values) → CutFits body → ValuesFit values → AnswerFits (answer_of body values)
unfolding f.answer f.answer_fits f.op_answers f.values
answer_of-fits (Independent ops) values h k = and_from _ _ (subst IsFew (sym (length-answers ops values)) h.0) (answers-fit ops values [] h.1 k)
answer_of-fits (Prelim locks) values h k = and_from _ _ (subst IsFew (sym (length-read locks values)) h) (read-fit locks values [] k)
answer_of-fits (Commit keys writes) values h k = refl
answer_of-fits (Abort keys) values h k = refl

values_after-fits : (body : Body) (values : Values) → CutFits body → ValuesFit values → ValuesFit (values_after body values)
values_after-fits (Independent ops) values h k = after_all-fits ops values h.1 k
values_after-fits (Prelim locks) values h k = k
values_after-fits (Commit keys writes) values h k = k
values_after-fits (Abort keys) values h k = k

-- ---- the store
pub record ShardPacketFits (packet : ShardPacket) : Type 0 where
  pub id : f.id.fits packet.id ≡ true
  pub body : CutFits packet.body

pub record StoreFits (state : StoreState) : Type 0 where
  pub values : ValuesFit state.values
  pub recorded : (id : TxnId) (phase : Phase) → KeptFits (state.recorded id phase)
  pub decided : (id : TxnId) → KeptFits (state.decided id)
  pub waiting : Each ShardPacketFits state.waiting

pub record SteppedFits (stepped : Stepped) : Type 0 where
  pub state : StoreFits stepped.state
  pub dones : Each DoneFits stepped.dones

cond_kept : (test : Bool) (one other : Option Answer) → KeptFits one → KeptFits other → KeptFits (cond test one other)
cond_kept true one other h k = h
cond_kept false one other h k = k

note-fits : (recorded : TxnId → Phase → Option Answer) (id : TxnId) (phase : Phase) (answer : Answer) → ((id : TxnId) (phase : Phase) → KeptFits (recorded id phase)) → AnswerFits answer
    → (other : TxnId) (kind : Phase) → KeptFits (note recorded id phase answer other kind)
note-fits recorded id phase answer h k other kind = cond_kept (same_id id other && same_phase phase kind) (Some answer) (recorded other kind) k (h other kind)

decide-fits : (decided : TxnId → Option Answer) (id : TxnId) (answer : Answer) → ((id : TxnId) → KeptFits (decided id)) → AnswerFits answer
    → (other : TxnId) → KeptFits (decide decided id answer other)
decide-fits decided id answer h k other = cond_kept (same_id id other) (Some answer) (decided other) k (h other)

also-fits : (first : Done) (stepped : Stepped) → DoneFits first → SteppedFits stepped → SteppedFits (also first stepped)
also-fits first stepped h k = record { state = k.state; dones = (h, k.dones) }

all_also-fits : (firsts : List Done) (stepped : Stepped) → Each DoneFits firsts → SteppedFits stepped → SteppedFits (all_also firsts stepped)
all_also-fits firsts stepped h k = record { state = k.state; dones = Each-append DoneFits firsts stepped.dones h k.dones }

only-fits : (state : StoreState) (first : Done) → StoreFits state → DoneFits first → SteppedFits (only state first)
only-fits state first h k = record { state = h; dones = (k, tt) }

nothing-fits : (state : StoreState) → StoreFits state → SteppedFits (nothing_done state)
nothing-fits state h = record { state = h; dones = tt }

rewait-fits : (state : StoreState) (waiting : List ShardPacket) → StoreFits state → Each ShardPacketFits waiting → StoreFits (record state { waiting = waiting })
rewait-fits state waiting h k = record { values = h.values; recorded = h.recorded; decided = h.decided; waiting = k }

execute-fits : (state : StoreState) (packet : ShardPacket) → StoreFits state → ShardPacketFits packet → StoreFits (execute state packet)
execute-fits state packet h k = record {
  values = values_after-fits packet.body state.values k.body h.values;
  recorded = note-fits state.recorded packet.id (phase_of packet.body) (answer_of packet.body state.values) h.recorded (answer_of-fits packet.body state.values k.body h.values);
  decided = h.decided;
  waiting = h.waiting;
}

done-fits : (at : Place) (packet : ShardPacket) (answer : Answer) (late : Bool) → ShardPacketFits packet → AnswerFits answer → DoneFits (done at packet answer late)
done-fits at packet answer late h k = record { id = h.id; answer = k }

release_one : (at : Place) (state : StoreState) (before : List ShardPacket) (packet : ShardPacket) (packets : List ShardPacket) (test : Bool)
    → blocked state.holding before (locks_of packet.body) ≡ test → StoreFits state → Each ShardPacketFits before → ShardPacketFits packet
    → ((state : StoreState) (before : List ShardPacket) → StoreFits state → Each ShardPacketFits before → SteppedFits (release at state before packets))
    → SteppedFits (release at state before (packet ∷ packets))
release_one at state before packet packets true e h k l more =
    rw (e, release) (more state (before ++ packet ∷ []) h (Each-append ShardPacketFits before (packet ∷ []) k (l, tt)))
release_one at state before packet packets false e h k l more =
    rw (e, release)
    (also-fits (done at packet (answer_of packet.body state.values) true) (release at (execute state packet) before packets)
    (done-fits at packet (answer_of packet.body state.values) true l (answer_of-fits packet.body state.values l.body h.values))
    (more (execute state packet) before (execute-fits state packet h l) k))

release-fits : (at : Place) (packets : List ShardPacket) → Each ShardPacketFits packets
    → (state : StoreState) (before : List ShardPacket) → StoreFits state → Each ShardPacketFits before → SteppedFits (release at state before packets)
release-fits at [] l state before h k = nothing-fits (record state { waiting = before }) (rewait-fits state before h k)
release-fits at (packet ∷ packets) l state before h k =
    release_one at state before packet packets (blocked state.holding before (locks_of packet.body)) refl h k l.0 (release-fits at packets l.1)

-- ---- the steps
refused-fits : (state : StoreState) (packet : ShardPacket) → StoreFits state → ShardPacketFits packet
    → SteppedFits (only (record state { recorded = note state.recorded packet.id (phase_of packet.body) Aborted }) (done packet.at packet Aborted false))
refused-fits state packet h k =
    only-fits (record state { recorded = note state.recorded packet.id (phase_of packet.body) Aborted }) (done packet.at packet Aborted false)
    (record { values = h.values; recorded = note-fits state.recorded packet.id (phase_of packet.body) Aborted h.recorded aborted-fits; decided = h.decided; waiting = h.waiting })
    (done-fits packet.at packet Aborted false k aborted-fits)

arrive_free : (state : StoreState) (packet : ShardPacket) (refused test : Bool) → (is_prelim packet.body && is_decided (state.decided packet.id)) ≡ refused
    → blocked state.holding state.waiting (locks_of packet.body) ≡ test → StoreFits state → ShardPacketFits packet → SteppedFits (arrive_new state packet)
arrive_free state packet true test d e h k = rw (d, arrive_new) (refused-fits state packet h k)
arrive_free state packet false true d e h k =
    rw (d, e, arrive_new) (nothing-fits (record state { waiting = state.waiting ++ packet ∷ [] })
    (rewait-fits state (state.waiting ++ packet ∷ []) h (Each-append ShardPacketFits state.waiting (packet ∷ []) h.waiting (k, tt))))
arrive_free state packet false false d e h k =
    rw (d, e, arrive_new) (only-fits (execute state packet) (done packet.at packet (answer_of packet.body state.values) false) (execute-fits state packet h k)
    (done-fits packet.at packet (answer_of packet.body state.values) false k (answer_of-fits packet.body state.values k.body h.values)))

arrive_by : (state : StoreState) (packet : ShardPacket) (found : Option Answer) (test : Bool) → state.recorded packet.id (phase_of packet.body) ≡ found
    → waits packet.id state.waiting ≡ test → KeptFits found → StoreFits state → ShardPacketFits packet → SteppedFits (arrive state packet)
arrive_by state packet (Some answer) test d e a h k = rw (d, arrive) (only-fits state (done packet.at packet answer false) h (done-fits packet.at packet answer false k a))
arrive_by state packet None true d e a h k = rw (d, e, arrive) (nothing-fits state h)
arrive_by state packet None false d e a h k =
    rw (d, e, arrive) (arrive_free state packet (is_prelim packet.body && is_decided (state.decided packet.id)) (blocked state.holding state.waiting (locks_of packet.body)) refl refl h k)

arrive-fits : (state : StoreState) (packet : ShardPacket) → StoreFits state → ShardPacketFits packet → SteppedFits (arrive state packet)
arrive-fits state packet h k =
    arrive_by state packet (state.recorded packet.id (phase_of packet.body)) (waits packet.id state.waiting) refl refl (h.recorded packet.id (phase_of packet.body)) h k

aborted_one : (at : Place) (id : TxnId) (packet : ShardPacket) (packets : List ShardPacket) (test : Bool) → is_prelim_of id packet ≡ test
    → ShardPacketFits packet → Each DoneFits (aborted_late at id packets) → Each DoneFits (aborted_late at id (packet ∷ packets))
aborted_one at id packet packets true e h k = rw (e, aborted_late) (done-fits at packet Aborted true h aborted-fits, tt)
aborted_one at id packet packets false e h k = rw (e, aborted_late) k

aborted_late-fit : (at : Place) (id : TxnId) (packets : List ShardPacket) → Each ShardPacketFits packets → Each DoneFits (aborted_late at id packets)
aborted_late-fit at id [] h = tt
aborted_late-fit at id (packet ∷ packets) h = aborted_one at id packet packets (is_prelim_of id packet) refl h.0 (aborted_late-fit at id packets h.1)

end_holding-fits : (state : StoreState) (packet : ShardPacket) (outcome : Answer) (writes : List Write) → StoreFits state → AnswerFits outcome → Each WriteFits writes
    → StoreFits (end_holding state packet outcome writes)
end_holding-fits state packet outcome writes h a w = record {
  values = written-fits writes state.values w h.values;
  recorded = h.recorded;
  decided = decide-fits state.decided packet.id outcome h.decided a;
  waiting = tt;
}

end_waiting-fits : (state : StoreState) (packet : ShardPacket) → StoreFits state → StoreFits (end_waiting state packet)
end_waiting-fits state packet h = record {
  values = h.values;
  recorded = note-fits state.recorded packet.id phases.Prelim Aborted h.recorded aborted-fits;
  decided = decide-fits state.decided packet.id Aborted h.decided aborted-fits;
  waiting = tt;
}

conclude_by : (state : StoreState) (packet : ShardPacket) (outcome : Answer) (writes : List Write) (test waiting : Bool) → holds packet.id state.holding ≡ test
    → list_any (is_prelim_of packet.id) state.waiting ≡ waiting → StoreFits state → ShardPacketFits packet → AnswerFits outcome → Each WriteFits writes
    → SteppedFits (conclude_first state packet outcome writes)
conclude_by state packet outcome writes true waiting d e h k a w =
    rw (d, conclude_first)
    (also-fits (done packet.at packet outcome false) (release packet.at (end_holding state packet outcome writes) [] state.waiting) (done-fits packet.at packet outcome false k a)
    (release-fits packet.at state.waiting h.waiting (end_holding state packet outcome writes) [] (end_holding-fits state packet outcome writes h a w) tt))
conclude_by state packet outcome writes false true d e h k a w =
    let rest = no_longer_waiting packet.id state.waiting in
    rw (d, e, conclude_first)
    (also-fits (done packet.at packet Aborted false) (all_also (aborted_late packet.at packet.id state.waiting) (release packet.at (end_waiting state packet) [] rest)) (done-fits packet.at packet Aborted false k aborted-fits)
    (all_also-fits (aborted_late packet.at packet.id state.waiting) (release packet.at (end_waiting state packet) [] rest) (aborted_late-fit packet.at packet.id state.waiting h.waiting)
    (release-fits packet.at rest (Each-filter ShardPacketFits (λ other. not (is_prelim_of packet.id other)) state.waiting h.waiting) (end_waiting state packet) [] (end_waiting-fits state packet h) tt)))
conclude_by state packet outcome writes false false d e h k a w =
    rw (d, e, conclude_first)
    (only-fits (record state { decided = decide state.decided packet.id Aborted }) (done packet.at packet Aborted false)
    (record { values = h.values; recorded = h.recorded; decided = decide-fits state.decided packet.id Aborted h.decided aborted-fits; waiting = h.waiting })
    (done-fits packet.at packet Aborted false k aborted-fits))

conclude_found : (state : StoreState) (packet : ShardPacket) (outcome : Answer) (writes : List Write) (found : Option Answer) → state.decided packet.id ≡ found → KeptFits found
    → StoreFits state → ShardPacketFits packet → AnswerFits outcome → Each WriteFits writes → SteppedFits (conclude state packet outcome writes)
conclude_found state packet outcome writes (Some decided) d e h k a w = rw (d, conclude) (only-fits state (done packet.at packet decided false) h (done-fits packet.at packet decided false k e))
conclude_found state packet outcome writes None d e h k a w =
    rw (d, conclude) (conclude_by state packet outcome writes (holds packet.id state.holding) (list_any (is_prelim_of packet.id) state.waiting) refl refl h k a w)

conclude-fits : (state : StoreState) (packet : ShardPacket) (outcome : Answer) (writes : List Write)
    → StoreFits state → ShardPacketFits packet → AnswerFits outcome → Each WriteFits writes → SteppedFits (conclude state packet outcome writes)
conclude-fits state packet outcome writes h k a w = conclude_found state packet outcome writes (state.decided packet.id) refl (h.decided packet.id) h k a w

step_by-fits : (state : StoreState) (packet : ShardPacket) (body : Body) → CutFits body → StoreFits state → ShardPacketFits packet → SteppedFits (step_by body state packet)
step_by-fits state packet (Independent ops) c h k = arrive-fits state packet h k
step_by-fits state packet (Prelim locks) c h k = arrive-fits state packet h k
step_by-fits state packet (Commit keys writes) c h k = conclude-fits state packet Committed writes h k committed-fits c
step_by-fits state packet (Abort keys) c h k = conclude-fits state packet Aborted [] h k aborted-fits tt

step-fits : (state : StoreState) (packet : ShardPacket) → StoreFits state → ShardPacketFits packet → SteppedFits (step state packet)
step-fits state packet h k = step_by-fits state packet packet.body k.body h k

run-fits : (state : StoreState) (packets : List ShardPacket) → StoreFits state → Each ShardPacketFits packets → StoreFits (run_state state packets) × Each DoneFits (run_dones state packets)
run-fits state [] h k = (h, tt)
run-fits state (packet ∷ packets) h k =
    let one = step-fits state packet h k.0 in
    let rest = run-fits (step state packet).state packets one.state k.1 in
    (rest.0, Each-append DoneFits (step state packet).dones (run_dones (step state packet).state packets) one.dones rest.1)

empty-fits : StoreFits empty
empty-fits = record { values = λ key. none_found; recorded = λ id phase. tt; decided = λ id. tt; waiting = tt }

-- ---- what a packet is to a shard
module _ {X : Type 0} (test : X → Bool) where
  filter_short : (xs : List X) → length (filter test xs) ≤ length xs
  filter_short [] = omega arith
  filter_short (x ∷ xs) = by_test (test x) (filter_short xs)
    where
      by_test : (t : Bool) → length (filter test xs) ≤ length xs → length (cond t (x ∷ filter test xs) (filter test xs)) ≤ length (x ∷ xs)
      by_test true h = omega arith
      by_test false h = omega arith

  -- some is left where one passes
  filter_some : {K : Type 0} (passes : K → Bool) (key : X → K) → ((x : X) → passes (key x) ≡ test x) → (xs : List X) → list_any passes (map key xs) ≡ true → 1 ≤ length (filter test xs)
  filter_some passes key same [] h = absurd cc
  filter_some passes key same (x ∷ xs) h = by_test (test x) (same x) (filter_some passes key same xs)
    where
      by_test : (t : Bool) → passes (key x) ≡ t → (list_any passes (map key xs) ≡ true → 1 ≤ length (filter test xs)) → 1 ≤ length (cond t (x ∷ filter test xs) (filter test xs))
      by_test true e more = omega arith
      by_test false e more = more (rw e at h)

few_left : (count all : ℕ) → IsFew all → 1 ≤ count → count ≤ all → IsFew count
few_left count all h some few =
    let most = at_most 1 32 all h in
    tag_is 1 32 count (lt-ltb count 256 (omega arith)) (and_from _ _ (le-leb 1 count some) (le-leb count 32 (omega arith)))

of_op : (op : Op) → f.op.fits op ≡ true → OpFits op
unfolding f.op f.op_fits
of_op (Get key) k = tt
of_op (Put key value) k = right_of (f.key.fits key) (f.value.fits value) k
of_op (Del key) k = tt
of_op (Add key more) k = tt
of_op (Cas key expected value) k = right_of (f.value.fits expected) (f.value.fits value) (right_of (f.key.fits key) (f.value.fits expected && f.value.fits value) k)

op_items : (ops before : List Op) → items_fit (λ _. f.op) before ops ≡ true → Each OpFits ops
op_items [] before h = tt
op_items (op ∷ ops) before h =
    let rest = items_fit (λ _. f.op) (before ++ op ∷ []) ops in
    (of_op op (left_of (f.op.fits op) rest h), op_items ops (before ++ op ∷ []) (right_of (f.op.fits op) rest h))

of_write : (write : Write) → f.write.fits write ≡ true → WriteFits write
unfolding f.write
of_write write k = right_of (f.key.fits write.key) (f.value.fits write.value) k

write_items : (writes before : List Write) → items_fit (λ _. f.write) before writes ≡ true → Each WriteFits writes
write_items [] before h = tt
write_items (write ∷ writes) before h =
    let rest = items_fit (λ _. f.write) (before ++ write ∷ []) writes in
    (of_write write (left_of (f.write.fits write) rest h), write_items writes (before ++ write ∷ []) (right_of (f.write.fits write) rest h))

cut_body-fits : (shard : ShardId) (body : Body) → f.body.fits body ≡ true → any_on (keys_of body) shard ≡ true → CutFits (cut_body shard body)
unfolding f.body f.body_fits f.ops f.locks f.writes
cut_body-fits shard (Independent ops) h on = (
  few_left (length (filter (λ op. is_on shard (key_of op)) ops)) (length ops) (left_of ((f.from_to 1 32).fits (length ops)) _ h)
      (filter_some (λ op. is_on shard (key_of op)) (λ key. key.shard.0 == shard.0) key_of (λ op. refl) ops on)
      (filter_short (λ op. is_on shard (key_of op)) ops),
  Each-filter OpFits (λ op. is_on shard (key_of op)) ops (op_items ops [] (right_of ((f.from_to 1 32).fits (length ops)) _ h)),
)
cut_body-fits shard (Prelim locks) h on =
    few_left (length (filter (λ (lock : Lock). is_on shard lock.key) locks)) (length locks) (left_of ((f.from_to 1 32).fits (length locks)) _ h)
    (filter_some (λ (lock : Lock). is_on shard lock.key) (λ key. key.shard.0 == shard.0) (λ lock. lock.key) (λ lock. refl) locks on)
    (filter_short (λ (lock : Lock). is_on shard lock.key) locks)
cut_body-fits shard (Commit keys writes) h on =
    Each-filter WriteFits (λ write. is_on shard write.key) writes
    (write_items writes [] (right_of ((f.from_to 0 32).fits (length writes)) _ (right_of (f.keys.fits keys) (f.writes.fits writes) h)))
cut_body-fits shard (Abort keys) h on = tt

-- the shards that a stamp names are those that it gives a number
named_shard : (places : List (ShardId × ℕ)) (shard : ShardId) → has_shard (map (λ place. place.0) places) shard ≡ is_some (number_in places shard)
named_shard [] shard = refl
named_shard (place ∷ places) shard = by_test (place.0.0 == shard.0) (named_shard places shard)
  where
    by_test : (t : Bool) → has_shard (map (λ place. place.0) places) shard ≡ is_some (option_map (λ (place : ShardId × ℕ). place.1) (find (λ place. place.0.0 == shard.0) places))
        → (t || has_shard (map (λ place. place.0) places) shard) ≡ is_some (option_map (λ (place : ShardId × ℕ). place.1) (cond t (Some place) (find (λ place. place.0.0 == shard.0) places)))
    by_test true h = refl
    by_test false h = h

-- the packet has a key of each shard that it names
pub on_named : (packet : Packet) (shard : ShardId) → names_participants packet ≡ true → names_shard shard packet ≡ true → any_on (keys_of packet.body) shard ≡ true
unfolding names_exactly
on_named packet shard exact named =
    let shards : map (λ place. place.0) packet.stamp.places ≡ participants_of packet.body = same_list-true (λ some other. some.0 == other.0) shard_by_test (λ some. eq-eqb some.0 some.0 refl) (map (λ place. place.0) packet.stamp.places) (participants_of packet.body) exact in
    sym (has_shard-participants packet.body shard) ∙ ap (λ (list : List ShardId). has_shard list shard) (sym shards) ∙ named_shard packet.stamp.places shard ∙ named

cut-fits : (shard : ShardId) (packet : Packet) → PacketIsRight packet → names_shard shard packet ≡ true → ShardPacketFits (cut shard packet)
unfolding f.packet
cut-fits shard packet h named =
    let behind = right_of (f.stamp.fits packet.stamp) (f.id.fits packet.id && (f.client.fits packet.asker && f.body.fits packet.body)) h.fits in
    let body = right_of (f.client.fits packet.asker) (f.body.fits packet.body) (right_of (f.id.fits packet.id) (f.client.fits packet.asker && f.body.fits packet.body) behind) in
    record {
      id = left_of (f.id.fits packet.id) (f.client.fits packet.asker && f.body.fits packet.body) behind;
      body = cut_body-fits shard packet.body body (on_named packet shard h.exact named);
    }

on_shard_one : (shard : ShardId) (packet : Packet) (packets : List Packet) (test : Bool) → names_shard shard packet ≡ test → PacketIsRight packet → Each ShardPacketFits (on_shard shard packets)
    → Each ShardPacketFits (on_shard shard (packet ∷ packets))
on_shard_one shard packet packets true e h k = rw (e, on_shard) (cut-fits shard packet h e, k)
on_shard_one shard packet packets false e h k = rw (e, on_shard) k

on_shard-fit : (shard : ShardId) (packets : List Packet) → Each PacketIsRight packets → Each ShardPacketFits (on_shard shard packets)
on_shard-fit shard [] h = tt
on_shard-fit shard (packet ∷ packets) h = on_shard_one shard packet packets (names_shard shard packet) refl h.0 (on_shard-fit shard packets h.1)

-- ---- over a log
pub late_answers-fit : (shard : ShardId) (epoch : Epoch) (log : List Packet) (number : ℕ) → Each PacketIsRight log → Each DoneFits (late_answers shard epoch log number)
unfolding late_answers store_answers
late_answers-fit shard epoch log number h =
    Each-filter DoneFits (is_late_above epoch number) (run_dones empty (on_shard shard log)) (run-fits empty (on_shard shard log) empty-fits (on_shard-fit shard log h)).1

prompt-fits : (dones : List Done) → Each DoneFits dones → KeptFits (prompt_answer dones)
unfolding prompt_answer
prompt-fits [] h = tt
prompt-fits (done ∷ dones) h = by_test (not done.late) (prompt-fits dones h.1)
  where
    by_test : (t : Bool) → KeptFits (option_map (λ (done : Done). done.answer) (find (λ done. not done.late) dones)) → KeptFits (option_map (λ (done : Done). done.answer) (cond t (Some done) (find (λ done. not done.late) dones)))
    by_test true k = h.0.answer
    by_test false k = k

-- what the store answers a packet that names the shard, after a log
pub answer_after-fits : (shard : ShardId) (log : List Packet) (packet : Packet) → Each PacketIsRight log → PacketIsRight packet → names_shard shard packet ≡ true → KeptFits (answer_after shard log packet)
unfolding answer_after store_after
answer_after-fits shard log packet h k named =
    prompt-fits (step (run_state empty (on_shard shard log)) (cut shard packet)).dones
    (step-fits (run_state empty (on_shard shard log)) (cut shard packet) (run-fits empty (on_shard shard log) empty-fits (on_shard-fit shard log h)).0 (cut-fits shard packet k named)).dones
