-- The plain run of a list goes like that of a beginning as far as that goes, where each preliminary of the beginning is
-- concluded in it: what it will write is found there.
use Rattle.std.proofs.Common.{◌≡◌, ◌⊎◌, inl, inr, Bool, true, false, cond, Option, List, [], ◌∷◌, ◌++◌, refl, ap, sym, subst}
use Rattle.std.proofs.lemmas.Bool.{both_ways, cases_Bool, or_left, or_right}
use Rattle.eris_base.specs.declared.ids.Phase.{Phase}
use Rattle.eris_base.specs.declared.ids.TxnId.{TxnId}
use Rattle.eris_base.specs.Each.{Each}
use Rattle.eris_base.specs.TxnIds.{is_among, same_id}
use Rattle.eris_base.proofs.Each.{Each-weaker}
use Rattle.eris_base.proofs.TxnIdLaws.{same_id-from}
use Rattle.eris_txn.specs.declared.answer.Answer.{Answer}
use Rattle.eris_txn.specs.declared.body.Body.{Body}
use Rattle.eris_txn.specs.declared.body.Body.TheVariants.{Abort, Commit, Independent, Prelim}
use Rattle.eris_txn.specs.declared.plan.Write.{Write}
use Rattle.eris_txn.specs.Keys.{Values, no_values}
use Rattle.eris_locks.specs.declared.shard_packet.ShardPacket.{ShardPacket}
use Rattle.eris_locks.specs.Law.{HasPacket, StandsIn, plain_answers}
use Rattle.eris_locks.specs.LockTable.{answer_of}
use Rattle.eris_locks.specs.ShardRun.{Served, left_after, outcome_by, outcome_in, plain_run, writes_at, writes_by, writes_in}
use Rattle.eris_locks.specs.States.{is_conclusory, is_prelim, phase_of}
use Rattle.eris_law_lock.proofs.Once.{answer_to}
use Rattle.eris_law_serial.proofs.Sound.{run-acts, run-conclusory, run-repeated}
use Rattle.eris_law_past.specs.Pasts.{AllConcluded}

-- of the packets of a list's rest, each preliminary was decided before or is concluded in it
abbrev pub StillConcluded : List TxnId → List ShardPacket → List ShardPacket → Type 0
StillConcluded decided all packets = Each (λ packet. is_prelim packet.body ≡ true → (is_among packet.id decided ≡ true) ⊎ HasPacket packet.id Phase.Conclude all) packets

-- ---- what a list's beginning says, where a conclusory packet of the id stands in it
writes_here : (body : Body) (mine yours : List Write) → phase_of body ≡ Phase.Conclude → writes_by body true mine ≡ writes_by body true yours
writes_here (Independent ops) mine yours is = cc
writes_here (Prelim locks) mine yours is = cc
writes_here (Commit keys writes) mine yours is = refl
writes_here (Abort keys) mine yours is = refl

outcome_here : (body : Body) (mine yours : Option Answer) → phase_of body ≡ Phase.Conclude → outcome_by body true mine ≡ outcome_by body true yours
outcome_here (Independent ops) mine yours is = cc
outcome_here (Prelim locks) mine yours is = cc
outcome_here (Commit keys writes) mine yours is = refl
outcome_here (Abort keys) mine yours is = refl

pub writes_begin : (id : TxnId) (packets rest : List ShardPacket) → HasPacket id Phase.Conclude packets → writes_in id (packets ++ rest) ≡ writes_in id packets
writes_begin id [] rest has = absurd has
writes_begin id (packet ∷ packets) rest (inl here) =
    let same : same_id id packet.id ≡ true = same_id-from id packet.id (sym here.0) in
    subst (λ (b : Bool). writes_by packet.body b (writes_in id (packets ++ rest)) ≡ writes_by packet.body b (writes_in id packets)) (sym same)
    (writes_here packet.body (writes_in id (packets ++ rest)) (writes_in id packets) here.1)
writes_begin id (packet ∷ packets) rest (inr there) = ap (writes_by packet.body (same_id id packet.id)) (writes_begin id packets rest there)

pub outcome_begins : (id : TxnId) (packets rest : List ShardPacket) → HasPacket id Phase.Conclude packets → outcome_in id (packets ++ rest) ≡ outcome_in id packets
outcome_begins id [] rest has = absurd has
outcome_begins id (packet ∷ packets) rest (inl here) =
    let same : same_id id packet.id ≡ true = same_id-from id packet.id (sym here.0) in
    subst (λ (b : Bool). outcome_by packet.body b (outcome_in id (packets ++ rest)) ≡ outcome_by packet.body b (outcome_in id packets)) (sym same)
    (outcome_here packet.body (outcome_in id (packets ++ rest)) (outcome_in id packets) here.1)
outcome_begins id (packet ∷ packets) rest (inr there) = ap (outcome_by packet.body (same_id id packet.id)) (outcome_begins id packets rest there)

-- ---- one packet further
concludes_not : (body : Body) → is_conclusory body ≡ false → phase_of body ≡ Phase.Conclude → ⊥
concludes_not (Independent ops) own is = cc
concludes_not (Prelim locks) own is = cc
concludes_not (Commit keys writes) own is = both_ways _ own refl
concludes_not (Abort keys) own is = both_ways _ own refl

pub behind_own : (id : TxnId) (packet : ShardPacket) (packets : List ShardPacket) → is_conclusory packet.body ≡ false → HasPacket id Phase.Conclude (packet ∷ packets) → HasPacket id Phase.Conclude packets
behind_own id packet packets own (inl here) = absurd (concludes_not packet.body own here.1)
behind_own id packet packets own (inr there) = there

still_own : (decided : List TxnId) (packet : ShardPacket) (all packets : List ShardPacket) → is_conclusory packet.body ≡ false
    → StillConcluded decided (packet ∷ all) packets → StillConcluded decided all packets
still_own decided packet all packets own each =
    Each-weaker (λ one. is_prelim one.body ≡ true → (is_among one.id decided ≡ true) ⊎ HasPacket one.id Phase.Conclude (packet ∷ all))
    (λ one. is_prelim one.body ≡ true → (is_among one.id decided ≡ true) ⊎ HasPacket one.id Phase.Conclude all)
    (λ one f prelim. by_place one (f prelim)) packets each
  where
    by_place : (one : ShardPacket) → (is_among one.id decided ≡ true) ⊎ HasPacket one.id Phase.Conclude (packet ∷ all) → (is_among one.id decided ≡ true) ⊎ HasPacket one.id Phase.Conclude all
    by_place one (inl before) = inl before
    by_place one (inr there) = inr (behind_own one.id packet all own there)

still_decided : (decided : List TxnId) (packet : ShardPacket) (all packets : List ShardPacket)
    → StillConcluded decided (packet ∷ all) packets → StillConcluded (packet.id ∷ decided) all packets
still_decided decided packet all packets each =
    Each-weaker (λ one. is_prelim one.body ≡ true → (is_among one.id decided ≡ true) ⊎ HasPacket one.id Phase.Conclude (packet ∷ all))
    (λ one. is_prelim one.body ≡ true → (is_among one.id (packet.id ∷ decided) ≡ true) ⊎ HasPacket one.id Phase.Conclude all)
    (λ one f prelim. by_place one (f prelim)) packets each
  where
    by_place : (one : ShardPacket) → (is_among one.id decided ≡ true) ⊎ HasPacket one.id Phase.Conclude (packet ∷ all)
        → (is_among one.id (packet.id ∷ decided) ≡ true) ⊎ HasPacket one.id Phase.Conclude all
    by_place one (inl before) = inl (or_right _ _ before)
    by_place one (inr (inl here)) = inl (or_left _ _ (same_id-from one.id packet.id (sym here.0)))
    by_place one (inr (inr there)) = inr there

-- what a first packet leaves
left_same : (body : Body) (id : TxnId) (decided : List TxnId) (values : Values) (packets rest : List ShardPacket) → (is_prelim body ≡ true → (is_among id decided ≡ true) ⊎ HasPacket id Phase.Conclude packets)
    → left_after body (writes_at id decided (packets ++ rest)) values ≡ left_after body (writes_at id decided packets) values
left_same (Independent ops) id decided values packets rest concluded = refl
left_same (Prelim locks) id decided values packets rest concluded = ap (λ writes. left_after (Prelim locks) writes values) (by_place (concluded refl))
  where
    by_place : (is_among id decided ≡ true) ⊎ HasPacket id Phase.Conclude packets → writes_at id decided (packets ++ rest) ≡ writes_at id decided packets
    by_place (inl before) =
        subst (λ (b : Bool). cond b [] (writes_in id (packets ++ rest)) ≡ cond b [] (writes_in id packets)) (sym before) refl
    by_place (inr there) = ap (λ (writes : List Write). cond (is_among id decided) [] writes) (writes_begin id packets rest there)
left_same (Commit keys writes) id decided values packets rest concluded = refl
left_same (Abort keys) id decided values packets rest concluded = refl

run_begins : (packets rest : List ShardPacket) (values : Values) (seen decided : List TxnId) → StillConcluded decided packets packets → (served : Served)
    → StandsIn served (plain_run values seen decided packets) → StandsIn served (plain_run values seen decided (packets ++ rest))
run_begins [] rest values seen decided each served stands = absurd stands
run_begins (packet ∷ packets) rest values seen decided each served stands =
    by_tests (cases_Bool (is_conclusory packet.body)) (cases_Bool (is_among packet.id seen))
    (λ own. run_begins packets rest values seen (packet.id ∷ decided) (still_decided decided packet packets packets each.1) served)
    (λ own. run_begins packets rest values seen decided (still_own decided packet packets packets own each.1) served)
    (λ own. run_begins packets rest (left_after packet.body (writes_at packet.id decided packets) values) (packet.id ∷ seen) decided (still_own decided packet packets packets own each.1) served)
  where
    leaves : (later : List ShardPacket) → Values
    leaves later = left_after packet.body (writes_at packet.id decided later) values

    here : is_conclusory packet.body ≡ false → is_prelim packet.body ≡ true → (is_among packet.id decided ≡ true) ⊎ HasPacket packet.id Phase.Conclude packets
    here own prelim = by_place (each.0 prelim)
      where
        by_place : (is_among packet.id decided ≡ true) ⊎ HasPacket packet.id Phase.Conclude (packet ∷ packets) → (is_among packet.id decided ≡ true) ⊎ HasPacket packet.id Phase.Conclude packets
        by_place (inl before) = inl before
        by_place (inr there) = inr (behind_own packet.id packet packets own there)

    first_or_later : is_conclusory packet.body ≡ false
        → (StandsIn served (plain_run (leaves packets) (packet.id ∷ seen) decided packets) → StandsIn served (plain_run (leaves packets) (packet.id ∷ seen) decided (packets ++ rest)))
        → StandsIn served (answer_to packet.id (answer_of packet.body values) ∷ plain_run (leaves packets) (packet.id ∷ seen) decided packets)
        → StandsIn served (answer_to packet.id (answer_of packet.body values) ∷ plain_run (leaves (packets ++ rest)) (packet.id ∷ seen) decided (packets ++ rest))
    first_or_later own later (inl first) = inl first
    first_or_later own later (inr there) =
        inr (subst (λ (v : Values). StandsIn served (plain_run v (packet.id ∷ seen) decided (packets ++ rest)))
        (sym (left_same packet.body packet.id decided values packets rest (here own))) (later there))

    by_tests : ((is_conclusory packet.body ≡ true) ⊎ (is_conclusory packet.body ≡ false)) → ((is_among packet.id seen ≡ true) ⊎ (is_among packet.id seen ≡ false))
        → (is_conclusory packet.body ≡ true → StandsIn served (plain_run values seen (packet.id ∷ decided) packets) → StandsIn served (plain_run values seen (packet.id ∷ decided) (packets ++ rest)))
        → (is_conclusory packet.body ≡ false → StandsIn served (plain_run values seen decided packets) → StandsIn served (plain_run values seen decided (packets ++ rest)))
        → (is_conclusory packet.body ≡ false → StandsIn served (plain_run (leaves packets) (packet.id ∷ seen) decided packets) → StandsIn served (plain_run (leaves packets) (packet.id ∷ seen) decided (packets ++ rest)))
        → StandsIn served (plain_run values seen decided (packet ∷ (packets ++ rest)))
    by_tests (inl concludes) t concluded repeated acted =
        subst (λ (l : List Served). StandsIn served l) (sym (run-conclusory values seen decided packet (packets ++ rest) concludes))
        (concluded concludes (subst (λ (l : List Served). StandsIn served l) (run-conclusory values seen decided packet packets concludes) stands))
    by_tests (inr own) (inl again) concluded repeated acted =
        subst (λ (l : List Served). StandsIn served l) (sym (run-repeated values seen decided packet (packets ++ rest) own again))
        (repeated own (subst (λ (l : List Served). StandsIn served l) (run-repeated values seen decided packet packets own again) stands))
    by_tests (inr own) (inr new) concluded repeated acted =
        subst (λ (l : List Served). StandsIn served l) (sym (run-acts values seen decided packet (packets ++ rest) own new))
        (first_or_later own (acted own) (subst (λ (l : List Served). StandsIn served l) (run-acts values seen decided packet packets own new) stands))

pub start_concluded : (all packets : List ShardPacket) → Each (λ packet. is_prelim packet.body ≡ true → HasPacket packet.id Phase.Conclude all) packets → StillConcluded [] all packets
start_concluded all packets each =
    Each-weaker (λ one. is_prelim one.body ≡ true → HasPacket one.id Phase.Conclude all)
    (λ one. is_prelim one.body ≡ true → (is_among one.id [] ≡ true) ⊎ HasPacket one.id Phase.Conclude all) (λ one f prelim. inr (f prelim)) packets each

-- THE ANSWERS OF A BEGINNING are answers of the whole
pub answers_begin : (packets rest : List ShardPacket) → AllConcluded packets → (served : Served) → StandsIn served (plain_answers packets) → StandsIn served (plain_answers (packets ++ rest))
answers_begin packets rest concluded served stands = run_begins packets rest no_values [] [] (start_concluded packets packets concluded) served stands
