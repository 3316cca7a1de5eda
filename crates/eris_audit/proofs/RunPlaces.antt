use Rattle.std.proofs.Common.{◌≡◌, Bool, true, false, Some, List, [], ◌∷◌, ◌++◌, refl, ap}
use Rattle.std.proofs.lemmas.Bool.{or_parts}
use Rattle.std.specs.Prelude.{IsTrue, IsFalse}
use Rattle.eris_base.specs.declared.ids.TxnId.{TxnId}
use Rattle.eris_txn.specs.declared.history.HistoryEvent.{HistoryEvent}
use Rattle.eris_txn.specs.declared.txn.Txn.{Txn}
use Rattle.eris_txn.specs.Keys.{Values}
use Rattle.eris_base.specs.Each.{EachAfter}
use Rattle.eris_audit.specs.IsSerial.{IsOrderLine}
use Rattle.eris_audit.specs.Lines.{Line, has_line, outcome_in, stands_before}
use Rattle.eris_audit.specs.SerialRun.{left_by_txn, result_of, values_after, result_in}
use Rattle.eris_base.specs.TxnIds.{same_id}
use Rattle.eris_audit.proofs.Places.{EachAfter-at}
use Rattle.eris_base.proofs.TxnIdLaws.{same_id-true, same_id-refl}

-- What the order and the serial run have for an id, at the place of its line.

pub values_after-append : (txn : TxnId → Txn) (front back : List Line) (values : Values)
    → values_after txn (front ++ back) values ≡ values_after txn back (values_after txn front values)
values_after-append txn [] back values = refl
values_after-append txn (line ∷ front) back values = values_after-append txn front back (left_by_txn (txn line.id) line.outcome values)

-- an id that doesn't stand in a list is neither its first line's nor in its rest
apart : (line : Line) (lines : List Line) (id : TxnId) → IsFalse (has_line (line ∷ lines) id) → IsFalse (same_id line.id id) × IsFalse (has_line lines id)
apart line lines id new = or_parts (same_id line.id id) (has_line lines id) new

pub result_in-at : (txn : TxnId → Txn) (front back : List Line) (line : Line) (values : Values) → IsFalse (has_line front line.id)
    → result_in txn (front ++ line ∷ back) values line.id ≡ Some (result_of (txn line.id) (values_after txn front values))
result_in-at txn [] back line values new = rw (same_id-refl line.id)
result_in-at txn (other ∷ front) back line values new =
    let parts = apart other front line.id new in
    rw parts.0 (result_in-at txn front back line (left_by_txn (txn other.id) other.outcome values) parts.1)

pub outcome_in-at : (front back : List Line) (line : Line) → IsFalse (has_line front line.id)
    → outcome_in (front ++ line ∷ back) line.id ≡ Some line.outcome
outcome_in-at [] back line new = rw (same_id-refl line.id)
outcome_in-at (other ∷ front) back line new =
    let parts = apart other front line.id new in
    rw parts.0 (outcome_in-at front back line parts.1)

pub stands_before-at : (front back : List Line) (line : Line) (id : TxnId) → IsFalse (has_line front line.id)
    → stands_before (front ++ line ∷ back) line.id id ≡ has_line back id
stands_before-at [] back line id new = rw (same_id-refl line.id)
stands_before-at (other ∷ front) back line id new =
    let parts = apart other front line.id new in
    rw parts.0 (stands_before-at front back line id parts.1)

-- by rule 1 no id stands before its own line
pub once_at : (history : List HistoryEvent) (lines : List Line) → EachAfter (IsOrderLine history) [] lines
    → (front back : List Line) (line : Line) → lines ≡ front ++ line ∷ back → IsFalse (has_line front line.id)
once_at history lines order_lines front back line split = (EachAfter-at (IsOrderLine history) [] lines order_lines front back line split).once

-- an id that stands in a list has a first line there
pub record HasFirstLine (lines : List Line) (id : TxnId) : Type 0 where
  pub front : List Line
  pub back : List Line
  pub line : Line
  pub split : lines ≡ front ++ line ∷ back
  pub is : line.id ≡ id
  pub new : IsFalse (has_line front id)

pub first_line : (lines : List Line) (id : TxnId) → IsTrue (has_line lines id) → HasFirstLine lines id
first_line [] id stands = absurd (cc)
first_line (line ∷ lines) id stands = by_test (same_id line.id id) refl (first_line lines id)
  where
    by_test : (test : Bool) → same_id line.id id ≡ test → (IsTrue (has_line lines id) → HasFirstLine lines id) → HasFirstLine (line ∷ lines) id
    by_test true same later = record { front = []; back = lines; line = line; split = refl; is = same_id-true line.id id same; new = refl }
    by_test false other later =
        let found = later (rw other at stands) in
        record { front = line ∷ found.front; back = found.back; line = found.line; split = ap (λ l. line ∷ l) found.split; is = found.is; new = rw other found.new }
