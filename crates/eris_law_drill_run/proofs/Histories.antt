-- WHAT THE SUBMISSIONS OF A HISTORY SAY of its ids: an id's transaction is that of its first submission.
use Rattle.std.proofs.Common.{◌≡◌, ◌+◌, ◌⊎◌, inl, inr, Bool, true, false, cond, count_by, Option, Some, None, List, [], ◌∷◌, ◌++◌, length, refl, ap, sym, ◌∙◌, subst, one-add}
use Rattle.std.proofs.lemmas.Bool.{cases_Bool}
use Rattle.std.proofs.lemmas.List.Recursion.{is_count_by}
use Rattle.eris_base.specs.declared.ids.TxnId.{TxnId}
use Rattle.eris_base.specs.Each.{Each}
use Rattle.eris_base.specs.TxnIds.{same_id}
use Rattle.eris_base.proofs.TxnIdLaws.{same_id-true}
use Rattle.eris_txn.specs.declared.history.HistoryEvent.{HistoryEvent}
use Rattle.eris_txn.specs.declared.history.HistoryEvent.TheVariants as history
use Rattle.eris_txn.specs.declared.txn.Txn.{Txn}
use Rattle.eris_audit.specs.Histories.{first_submit}
use Rattle.eris_law_epoch.specs.Members.{In}
use Rattle.eris_drill.specs.Summaries.{is_submit}
use Rattle.eris_law_drill.specs.BankHistories.{Happened}
use Rattle.eris_law_drill_run.specs.Submissions.{submissions}

-- the first transaction of an id
abbrev pub look_up : List (TxnId × Txn) → TxnId → Option Txn
look_up [] id = None
look_up (pair ∷ pairs) id = cond (same_id pair.0 id) (Some pair.1) (look_up pairs id)

pub by_submissions : (events : List HistoryEvent) (id : TxnId) → first_submit events id ≡ look_up (submissions events) id
by_submissions [] id = refl
by_submissions (history.Submit other txn ∷ events) id = ap (λ (found : Option Txn). cond (same_id other id) (Some txn) found) (by_submissions events id)
by_submissions (history.Read other values ∷ events) id = by_submissions events id
by_submissions (history.Answer other answer ∷ events) id = by_submissions events id
by_submissions (history.Told asker other answer ∷ events) id = by_submissions events id

pub found_before : (some more : List (TxnId × Txn)) (id : TxnId) (txn : Txn) → look_up some id ≡ Some txn → look_up (some ++ more) id ≡ Some txn
found_before [] more id txn is = absurd (cc)
found_before (pair ∷ some) more id txn is = by_test (same_id pair.0 id) (λ later. found_before some more id txn later) is
  where
    by_test : (test : Bool) → (look_up some id ≡ Some txn → look_up (some ++ more) id ≡ Some txn) → cond test (Some pair.1) (look_up some id) ≡ Some txn → cond test (Some pair.1) (look_up (some ++ more) id) ≡ Some txn
    by_test true later here = here
    by_test false later here = later here

pub found_behind : (some more : List (TxnId × Txn)) (id : TxnId) → Each (λ pair. same_id pair.0 id ≡ false) some → look_up (some ++ more) id ≡ look_up more id
found_behind [] more id apart = refl
found_behind (pair ∷ some) more id apart =
    ap (λ (test : Bool). cond test (Some pair.1) (look_up (some ++ more) id)) apart.0 ∙ found_behind some more id apart.1

pub each_found : (P : Txn → Type 0) (pairs : List (TxnId × Txn)) (id : TxnId) (txn : Txn) → Each (λ pair. P pair.1) pairs → look_up pairs id ≡ Some txn → P txn
each_found P [] id txn each is = absurd (cc)
each_found P (pair ∷ pairs) id txn each is = by_test (same_id pair.0 id) (λ later. each_found P pairs id txn each.1 later) is
  where
    by_test : (test : Bool) → (look_up pairs id ≡ Some txn → P txn) → cond test (Some pair.1) (look_up pairs id) ≡ Some txn → P txn
    by_test true later here = let same : pair.1 ≡ txn = cc in subst P same each.0
    by_test false later here = later here

-- what is submitted stands in the history
pub submitted_in : (events : List HistoryEvent) (id : TxnId) (txn : Txn) → first_submit events id ≡ Some txn → In (HistoryEvent.Submit id txn) events
submitted_in [] id txn is = absurd (cc)
submitted_in (history.Submit other found ∷ events) id txn is = by_test (cases_Bool (same_id other id)) (λ later. submitted_in events id txn later)
  where
    by_test : ((same_id other id ≡ true) ⊎ (same_id other id ≡ false)) → (first_submit events id ≡ Some txn → In (HistoryEvent.Submit id txn) events)
        → In (HistoryEvent.Submit id txn) (history.Submit other found ∷ events)
    by_test (inl same) later =
        let here : Some found ≡ Some txn = sym (ap (λ (test : Bool). cond test (Some found) (first_submit events id)) same) ∙ is in
        let one : other ≡ id = same_id-true other id same in
        let value : found ≡ txn = cc in
        inl (λ i. HistoryEvent.Submit (sym one i) (sym value i))
    by_test (inr apart) later = inr (later (sym (ap (λ (test : Bool). cond test (Some found) (first_submit events id)) apart) ∙ is))
submitted_in (history.Read other values ∷ events) id txn is = inr (submitted_in events id txn is)
submitted_in (history.Answer other answer ∷ events) id txn is = inr (submitted_in events id txn is)
submitted_in (history.Told asker other answer ∷ events) id txn is = inr (submitted_in events id txn is)

pub happened_from : (event : HistoryEvent) (events : List HistoryEvent) → In event events → Happened event events
happened_from event [] there = absurd there
happened_from event (other ∷ events) (inl same) = inl same
happened_from event (other ∷ events) (inr later) = inr (happened_from event events later)

pub submission_in : (events : List HistoryEvent) (id : TxnId) (txn : Txn) → Happened (HistoryEvent.Submit id txn) events → In (id, txn) (submissions events)
submission_in [] id txn there = absurd there
submission_in (history.Submit other found ∷ events) id txn (inl same) =
    let one : id ≡ other = cc in
    let value : txn ≡ found = cc in
    inl (λ i. (one i, value i))
submission_in (history.Submit other found ∷ events) id txn (inr later) = inr (submission_in events id txn later)
submission_in (history.Read other values ∷ events) id txn (inl same) = absurd (cc)
submission_in (history.Read other values ∷ events) id txn (inr later) = submission_in events id txn later
submission_in (history.Answer other answer ∷ events) id txn (inl same) = absurd (cc)
submission_in (history.Answer other answer ∷ events) id txn (inr later) = submission_in events id txn later
submission_in (history.Told asker other answer ∷ events) id txn (inl same) = absurd (cc)
submission_in (history.Told asker other answer ∷ events) id txn (inr later) = submission_in events id txn later

one_event : (event : HistoryEvent) (events : List HistoryEvent) → length (submissions (event ∷ events)) ≡ cond (is_submit event) (1 + length (submissions events)) (length (submissions events))
unfolding is_submit
one_event (history.Submit id txn) events = sym (one-add (length (submissions events)))
one_event (history.Read id values) events = refl
one_event (history.Answer id answer) events = refl
one_event (history.Told asker id answer) events = refl

-- and they are as many as the events that submit
pub submissions_counted : (events : List HistoryEvent) → count_by is_submit events ≡ length (submissions events)
submissions_counted events = sym (is_count_by (λ (some : List HistoryEvent). length (submissions some)) is_submit refl one_event events)
