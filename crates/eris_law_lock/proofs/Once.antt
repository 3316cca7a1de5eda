-- The plain run answers no id twice, and none by Aborted.
use Rattle.eris_base.specs.declared.ids.TxnId.{TxnId}
use Rattle.eris_base.proofs.TxnIdLaws.{same_id-from, same_id-true}
use Rattle.eris_locks.specs.Law.{EachIdOnce, StandsIn, is_served}
use Rattle.eris_locks.specs.LockTable.{answer_of}
use Rattle.eris_locks.specs.ShardRun.{Served, left_after, plain_run, writes_at, writes_in}
use Rattle.eris_locks.specs.States.{is_conclusory}
use Rattle.eris_base.specs.TxnIds.{is_among, same_id}
use Rattle.eris_locks.specs.declared.shard_packet.ShardPacket.{ShardPacket}
use Rattle.eris_txn.specs.Keys.{Values}
use Rattle.eris_txn.specs.declared.answer.Answer.{Answer}
use Rattle.eris_txn.specs.declared.answer.Answer.TheVariants.{Aborted}
use Rattle.eris_txn.specs.declared.body.Body.{Body}
use Rattle.eris_txn.specs.declared.body.Body.TheVariants.{Abort, Commit, Independent, Prelim}
use Rattle.std.proofs.Common.{Bool, List, [], ap, cond, false, inl, inr, refl, sym, true, ◌∙◌, ◌∷◌, ◌≡◌, ◌⊎◌}
use Rattle.std.proofs.lemmas.Bool.{both_ways, cases_Bool, or_from, or_left, or_right}

abbrev pub answer_to : TxnId → Answer → Served
answer_to id answer = record { id = id; answer = answer }

-- the plain run of a shard has nothing of an id that it has seen
pub not_again : (packets : List ShardPacket) (values : Values) (seen decided : List TxnId) (id : TxnId) (answer : Answer)
    → is_among id seen ≡ true → StandsIn (answer_to id answer) (plain_run values seen decided packets) → ⊥
not_again [] values seen decided id answer h = λ k. k
not_again (packet ∷ packets) values seen decided id answer h = by_test (is_conclusory packet.body) (is_among packet.id seen) refl
    (λ d. not_again packets values seen d id answer h) (λ others. not_again packets others (packet.id ∷ seen) decided id answer (or_right _ _ h))
  where
    by_test : (test other_test : Bool) → is_among packet.id seen ≡ other_test
        → ((d : List TxnId) → StandsIn (answer_to id answer) (plain_run values seen d packets) → ⊥)
        → ((others : Values) → StandsIn (answer_to id answer) (plain_run others (packet.id ∷ seen) decided packets) → ⊥)
        → StandsIn (answer_to id answer) (elim test [
          | true ↦ plain_run values seen (packet.id ∷ decided) packets
          | false ↦ elim other_test [
            | true ↦ plain_run values seen decided packets
            | false ↦ answer_to packet.id (answer_of packet.body values) ∷ plain_run (left_after packet.body (cond (is_among packet.id decided) [] (writes_in packet.id packets)) values) (packet.id ∷ seen) decided packets
          ]
        ]) → ⊥
    by_test true other_test e skip go k = skip (packet.id ∷ decided) k
    by_test false true e skip go k = skip decided k
    by_test false false e skip go (inl k) =
        let same = ap (λ (d : Served). d.id) k in
        both_ways _ e (ap (λ i. is_among i seen) same ∙ h)
    by_test false false e skip go (inr k) =
        go (left_after packet.body (cond (is_among packet.id decided) [] (writes_in packet.id packets)) values) k

-- and no id twice
pub stands_once : (packets : List ShardPacket) (values : Values) (seen decided : List TxnId) (id : TxnId) (answer b : Answer)
    → StandsIn (answer_to id answer) (plain_run values seen decided packets)
    → StandsIn (answer_to id b) (plain_run values seen decided packets) → answer ≡ b
stands_once [] values seen decided id answer b = λ h k. absurd h
stands_once (packet ∷ packets) values seen decided id answer b = by_test (is_conclusory packet.body) (is_among packet.id seen)
    (λ d. stands_once packets values seen d id answer b) (λ others. stands_once packets others (packet.id ∷ seen) decided id answer b)
  where
    after_it : (others : Values) (other_answer : Answer) → packet.id ≡ id
        → StandsIn (answer_to id other_answer) (plain_run others (packet.id ∷ seen) decided packets) → ⊥
    after_it others other_answer e k =
        not_again packets others (packet.id ∷ seen) decided id other_answer (or_left _ _ (same_id-from id packet.id (sym e))) k

    by_test : (test other_test : Bool)
        → ((d : List TxnId) → StandsIn (answer_to id answer) (plain_run values seen d packets) → StandsIn (answer_to id b) (plain_run values seen d packets) → answer ≡ b)
        → ((others : Values) → StandsIn (answer_to id answer) (plain_run others (packet.id ∷ seen) decided packets) → StandsIn (answer_to id b) (plain_run others (packet.id ∷ seen) decided packets) → answer ≡ b)
        → StandsIn (answer_to id answer) (elim test [
          | true ↦ plain_run values seen (packet.id ∷ decided) packets
          | false ↦ elim other_test [
            | true ↦ plain_run values seen decided packets
            | false ↦ answer_to packet.id (answer_of packet.body values) ∷ plain_run (left_after packet.body (cond (is_among packet.id decided) [] (writes_in packet.id packets)) values) (packet.id ∷ seen) decided packets
          ]
        ])
        → StandsIn (answer_to id b) (elim test [
          | true ↦ plain_run values seen (packet.id ∷ decided) packets
          | false ↦ elim other_test [
            | true ↦ plain_run values seen decided packets
            | false ↦ answer_to packet.id (answer_of packet.body values) ∷ plain_run (left_after packet.body (cond (is_among packet.id decided) [] (writes_in packet.id packets)) values) (packet.id ∷ seen) decided packets
          ]
        ]) → answer ≡ b
    by_test true other_test skip go h k = skip (packet.id ∷ decided) h k
    by_test false true skip go h k = skip decided h k
    by_test false false skip go (inl h) (inl k) = sym (ap (λ (d : Served). d.answer) h) ∙ ap (λ (d : Served). d.answer) k
    by_test false false skip go (inl h) (inr k) =
        absurd
        (after_it (left_after packet.body (cond (is_among packet.id decided) [] (writes_in packet.id packets)) values) b (ap (λ (d : Served). d.id) h) k)
    by_test false false skip go (inr h) (inl k) =
        absurd
        (after_it (left_after packet.body (cond (is_among packet.id decided) [] (writes_in packet.id packets)) values) answer (ap (λ (d : Served). d.id) k) h)
    by_test false false skip go (inr h) (inr k) =
        go (left_after packet.body (cond (is_among packet.id decided) [] (writes_in packet.id packets)) values) h k

-- nor does answer_to answer an id that it has seen
not_served : (packets : List ShardPacket) (values : Values) (seen decided : List TxnId) (id : TxnId) → is_among id seen ≡ true
    → is_served id (plain_run values seen decided packets) ≡ false
not_served [] values seen decided id h = refl
not_served (packet ∷ packets) values seen decided id h = by_test (is_conclusory packet.body) (is_among packet.id seen) refl
    (λ concluded. not_served packets values seen concluded id h) (λ others. not_served packets others (packet.id ∷ seen) decided id (or_right _ _ h))
  where
    apart : is_among packet.id seen ≡ false → ((same_id id packet.id ≡ true) ⊎ (same_id id packet.id ≡ false))
        → same_id id packet.id ≡ false
    apart e (inl test) = absurd (both_ways _ e (ap (λ i. is_among i seen) (sym (same_id-true id packet.id test)) ∙ h))
    apart e (inr test) = test

    by_test : (test other_test : Bool) → is_among packet.id seen ≡ other_test
        → ((concluded : List TxnId) → is_served id (plain_run values seen concluded packets) ≡ false)
        → ((others : Values) → is_served id (plain_run others (packet.id ∷ seen) decided packets) ≡ false)
        → is_served id (elim test [
          | true ↦ plain_run values seen (packet.id ∷ decided) packets
          | false ↦ elim other_test [
            | true ↦ plain_run values seen decided packets
            | false ↦ answer_to packet.id (answer_of packet.body values) ∷ plain_run (left_after packet.body (writes_at packet.id decided packets) values) (packet.id ∷ seen) decided packets
          ]
        ]) ≡ false
    by_test true other_test e skip go = skip (packet.id ∷ decided)
    by_test false true e skip go = skip decided
    by_test false false e skip go =
        or_from _ _ (apart e (cases_Bool (same_id id packet.id)))
        (go (left_after packet.body (writes_at packet.id decided packets) values))

-- THE PLAIN RUN ANSWERS NO ID TWICE
pub each_once : (packets : List ShardPacket) (values : Values) (seen decided : List TxnId)
    → EachIdOnce (plain_run values seen decided packets)
each_once [] values seen decided = tt
each_once (packet ∷ packets) values seen decided =
    by_test (is_conclusory packet.body) (is_among packet.id seen) (λ concluded. each_once packets values seen concluded)
    (λ others. each_once packets others (packet.id ∷ seen) decided)
  where
    by_test : (test other_test : Bool) → ((concluded : List TxnId) → EachIdOnce (plain_run values seen concluded packets))
        → ((others : Values) → EachIdOnce (plain_run others (packet.id ∷ seen) decided packets))
        → EachIdOnce (elim test [
          | true ↦ plain_run values seen (packet.id ∷ decided) packets
          | false ↦ elim other_test [
            | true ↦ plain_run values seen decided packets
            | false ↦ answer_to packet.id (answer_of packet.body values) ∷ plain_run (left_after packet.body (writes_at packet.id decided packets) values) (packet.id ∷ seen) decided packets
          ]
        ])
    by_test true other_test skip go = skip (packet.id ∷ decided)
    by_test false true skip go = skip decided
    by_test false false skip go = (
      not_served packets (left_after packet.body (writes_at packet.id decided packets) values) (packet.id ∷ seen) decided packet.id (or_left _ _ (same_id-from packet.id packet.id refl)),
      go (left_after packet.body (writes_at packet.id decided packets) values),
    )

no_abort : (body : Body) (values : Values) → is_conclusory body ≡ false → answer_of body values ≡ Aborted → ⊥
no_abort (Independent ops) values h e = cc
no_abort (Prelim ls) values h e = cc
no_abort (Commit keys writes) values h e = cc
no_abort (Abort keys) values h e = cc

-- AND NONE BY ABORTED
pub never_aborted : (packets : List ShardPacket) (values : Values) (seen decided : List TxnId) (id : TxnId)
    → StandsIn (answer_to id Aborted) (plain_run values seen decided packets) → ⊥
never_aborted [] values seen decided id = λ k. k
never_aborted (packet ∷ packets) values seen decided id =
    by_test (is_conclusory packet.body) refl (is_among packet.id seen) (λ d. never_aborted packets values seen d id)
    (λ others. never_aborted packets others (packet.id ∷ seen) decided id)
  where
    by_test : (test : Bool) → is_conclusory packet.body ≡ test → (other_test : Bool)
        → ((d : List TxnId) → StandsIn (answer_to id Aborted) (plain_run values seen d packets) → ⊥)
        → ((others : Values) → StandsIn (answer_to id Aborted) (plain_run others (packet.id ∷ seen) decided packets) → ⊥)
        → StandsIn (answer_to id Aborted) (elim test [
          | true ↦ plain_run values seen (packet.id ∷ decided) packets
          | false ↦ elim other_test [
            | true ↦ plain_run values seen decided packets
            | false ↦ answer_to packet.id (answer_of packet.body values) ∷ plain_run (left_after packet.body (writes_at packet.id decided packets) values) (packet.id ∷ seen) decided packets
          ]
        ]) → ⊥
    by_test true c other_test skip go k = skip (packet.id ∷ decided) k
    by_test false c true skip go k = skip decided k
    by_test false c false skip go (inl k) = no_abort packet.body values c (ap (λ (d : Served). d.answer) k)
    by_test false c false skip go (inr k) = go (left_after packet.body (writes_at packet.id decided packets) values) k
