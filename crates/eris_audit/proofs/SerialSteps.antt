use Rattle.std.proofs.Common.{◌≡◌, ℕ, suc, ◌<◌, ◌≤◌, Bool, true, false, cond, Option, Some, None, IfSome, is_some, nat_lt, Bor, List, [], ◌∷◌, ◌++◌, length, get_or, slice_get, arith, refl, ap, sym, subst, ◌∙◌}
use Rattle.std.proofs.lemmas.Bool.{both_ways}
use Rattle.std.proofs.lemmas.Bool.Decides.{nat_tests}
use Rattle.std.proofs.lemmas.Option.{slice_get_past, slice_get_read}
use Rattle.std.specs.Option.{option_map}
use Rattle.std.specs.Prelude.{IsTrue}
use Rattle.eris_base.specs.declared.ids.TxnId.{TxnId}
use Rattle.eris_txn.specs.declared.answer.Answer.{Answer}
use Rattle.eris_txn.specs.declared.history.HistoryEvent.{HistoryEvent}
use Rattle.eris_txn.specs.declared.txn.Txn.{Txn}
use Rattle.eris_txn.specs.declared.txn.Txn.TheVariants.{Whole, General}
use Rattle.eris_txn.specs.Keys.{Values, no_values}
use Rattle.eris_txn.specs.Plans.{guards_hold}
use Rattle.eris_audit.specs.declared.outcome.Outcome.{Outcome}
use Rattle.eris_audit.specs.declared.outcome.Outcome.TheVariants.{Done, Committed, Aborted, Pending}
use Rattle.eris_audit.specs.Histories.{txn_of}
use Rattle.eris_audit.specs.IsSerial.{GuardsHold}
use Rattle.eris_audit.specs.Lines.{Line}
use Rattle.eris_audit.specs.SerialRun.{guards_of, left_by_step, left_by_txn, may_stand, result_in, result_of, results_of, step_result, values_after}
use Rattle.eris_audit.specs.Tables.{place_in}
use Rattle.eris_base.specs.TxnIds.{same_id}
use Rattle.eris_audit.proofs.RunPlaces.{values_after-append}

-- The serial run, step by step.

-- a transaction may stand where its guards hold, if it commits
stands-guards : (txn : Txn) (outcome : Outcome) (values : Values) → may_stand txn outcome values ≡ true → outcome ≡ Committed → IsTrue (guards_hold (guards_of txn) values)
stands-guards (Whole operations) outcome values stands commits = refl
stands-guards (General plan) Done values stands commits = absurd (cc)
stands-guards (General plan) Committed values stands commits = stands
stands-guards (General plan) Aborted values stands commits = absurd (cc)
stands-guards (General plan) Pending values stands commits = absurd (cc)

guards-stand : (txn : Txn) (outcome : Outcome) (values : Values) → (outcome ≡ Committed → IsTrue (guards_hold (guards_of txn) values)) → may_stand txn outcome values ≡ true
guards-stand (Whole operations) outcome values guards = refl
guards-stand (General plan) Done values guards = refl
guards-stand (General plan) Committed values guards = guards refl
guards-stand (General plan) Aborted values guards = refl
guards-stand (General plan) Pending values guards = refl

is_none : {X : Type 0} (x : X) (test : Bool) → cond test (Some x) None ≡ None → test ≡ false
is_none x true h = cc
is_none x false h = refl

is_there : {X : Type 0} (x y : X) (test : Bool) → cond test (Some x) None ≡ Some y → (test ≡ true) × (x ≡ y)
is_there x y true h = (refl, cc)
is_there x y false h = absurd (cc)

-- where a line has no result, a guard of it fails
pub no_result : (history : List HistoryEvent) (before : List Line) (line : Line) (values : Values) → values ≡ values_after (txn_of history) before no_values
    → step_result (txn_of history line.id) line.outcome values ≡ None → GuardsHold history before line → ⊥
no_result history before line values at none guards =
    both_ways _ (is_none _ _ none)
    (guards-stand (txn_of history line.id) line.outcome values (λ commits. subst (λ v. IsTrue (guards_hold (guards_of (txn_of history line.id)) v)) (sym at) (guards commits)))

-- and where it has one
pub record IsNextStep (history : List HistoryEvent) (before : List Line) (line : Line) (answer : Answer) (left : Values) : Type 0 where
  pub guards : GuardsHold history before line
  pub values : left ≡ values_after (txn_of history) (before ++ line ∷ []) no_values
  pub results : results_of (txn_of history) before no_values ++ answer ∷ [] ≡ results_of (txn_of history) (before ++ line ∷ []) no_values

results_of-append : (txn : TxnId → Txn) (front : List Line) (line : Line) (values : Values)
    → results_of txn front values ++ result_of (txn line.id) (values_after txn front values) ∷ [] ≡ results_of txn (front ++ line ∷ []) values
results_of-append txn [] line values = refl
results_of-append txn (first ∷ front) line values =
    ap (λ rest. result_of (txn first.id) values ∷ rest) (results_of-append txn front line (left_by_txn (txn first.id) first.outcome values))

pub next_step : (history : List HistoryEvent) (before : List Line) (line : Line) (answer : Answer) (values left : Values) → values ≡ values_after (txn_of history) before no_values
    → step_result (txn_of history line.id) line.outcome values ≡ Some answer
    → left ≡ left_by_step (txn_of history line.id) line.outcome values → IsNextStep history before line answer left
next_step history before line answer values left at some leaves =
    let txn = txn_of history line.id in
    let facts = is_there (result_of txn values) answer (may_stand txn line.outcome values) some in
    record {
      guards = λ commits. subst (λ v. IsTrue (guards_hold (guards_of txn) v)) at (stands-guards txn line.outcome values facts.0 commits);
      values =
          leaves
          ∙ ap (λ test. cond test (left_by_txn txn line.outcome values) values) facts.0
          ∙ ap (λ v. left_by_txn txn line.outcome v) at
          ∙ sym (values_after-append (txn_of history) before (line ∷ []) no_values);
      results =
          ap (λ last. results_of (txn_of history) before no_values ++ last ∷ []) (sym facts.1 ∙ ap (result_of txn) at)
          ∙ results_of-append (txn_of history) before line no_values;
    }

-- the result of an id stands at the place of its line
pub no_place : (txn : TxnId → Txn) (lines : List Line) (values : Values) (id : TxnId) → place_in lines id ≡ None → result_in txn lines values id ≡ None
no_place txn [] values id none = refl
no_place txn (line ∷ lines) values id none =
    by_test (no_place txn lines (left_by_txn (txn line.id) line.outcome values) id) (same_id line.id id) (place_in lines id) refl none
  where
    by_test : (place_in lines id ≡ None → result_in txn lines (left_by_txn (txn line.id) line.outcome values) id ≡ None)
        → (test : Bool) (rest : Option ℕ) → place_in lines id ≡ rest → cond test (Some 0) (option_map (λ place. suc place) rest) ≡ None
        → cond test (Some (result_of (txn line.id) values)) (result_in txn lines (left_by_txn (txn line.id) line.outcome values) id) ≡ None
    by_test later true rest at h = absurd (cc)
    by_test later false None at h = later at
    by_test later false (Some place) at h = absurd (cc)

pub result-place : (txn : TxnId → Txn) (lines : List Line) (values : Values) (id : TxnId) (place : ℕ) → place_in lines id ≡ Some place
    → slice_get (results_of txn lines values) place ≡ result_in txn lines values id
result-place txn [] values id place found = absurd (cc)
result-place txn (line ∷ lines) values id place found =
    by_test (result-place txn lines (left_by_txn (txn line.id) line.outcome values) id) (same_id line.id id) (place_in lines id) refl found
  where
    left : Values
    left = left_by_txn (txn line.id) line.outcome values

    result : Answer
    result = result_of (txn line.id) values

    by_test : ((n : ℕ) → place_in lines id ≡ Some n → slice_get (results_of txn lines left) n ≡ result_in txn lines left id)
        → (test : Bool) (rest : Option ℕ) → place_in lines id ≡ rest → cond test (Some 0) (option_map (λ n. suc n) rest) ≡ Some place
        → slice_get (result ∷ results_of txn lines left) place ≡ cond test (Some result) (result_in txn lines left id)
    by_test later true rest at h = let here : place ≡ 0 = cc in ap (slice_get (result ∷ results_of txn lines left)) here
    by_test later false None at h = absurd (cc)
    by_test later false (Some n) at h = let there : place ≡ suc n = cc in ap (slice_get (result ∷ results_of txn lines left)) there ∙ later n at

past_from : (i n : ℕ) → false ≡ nat_lt i n → n ≤ i
past_from i n past = grind (arith, nat_tests)

below_from : (i n : ℕ) → true ≡ nat_lt i n → i < n
below_from i n below = grind (arith, nat_tests)

-- an item that a look-up by place answers
pub found-item : {X : Type 0} (xs : List X) (i : ℕ) (found : Option (Bor X)) → is_some found ≡ nat_lt i (length xs) → IfSome found (λ x. x.now ≡ get_or xs i x.now)
    → option_map (λ x. x.now) found ≡ slice_get xs i
found-item xs i None inside is = sym (slice_get_past xs i (past_from i (length xs) inside))
found-item xs i (Some x) inside is = sym (slice_get_read xs (length xs) i x.now refl (below_from i (length xs) inside) is)
