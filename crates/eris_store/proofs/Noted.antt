-- An answer that is noted stands in the map of its phase.
use Rattle.std.proofs.Common.{◌≡◌, ◌==◌, ◌&&◌, Bool, true, false, Option, Some, List, if◌then◌else◌, refl, ap, sym, ◌∙◌}
use mathlib.Core.Path.{fun_ext}
use Rattle.std.specs.BTreeMap.{is_at}
use Rattle.std.specs.Ordering.{is_eq, nat_cmp, ordering_then}
use Rattle.std.specs.declared.cmp.Ordering.{Ordering}
use Rattle.std.specs.declared.cmp.Ordering.TheVariants.{Less, Equal, Greater}
use Rattle.eris_base.proofs.Orders.{nat_tie}
use Rattle.eris_base.specs.declared.ids.Phase.{Phase}
use Rattle.eris_base.specs.declared.ids.TxnId.{TxnId}
use Rattle.eris_base.specs.TxnIds.{same_id}
use Rattle.eris_txn.specs.declared.answer.Answer.{Answer}
use Rattle.eris_locks.specs.States.{decide, note}
use Rattle.eris_store.specs.Ledgers.{AnswersValue, answer_in, id_cmp, recorded_in}

is_eq-then : (o p : Ordering) → is_eq (ordering_then o p) ≡ (is_eq o && is_eq p)
is_eq-then Less p = refl
is_eq-then Equal p = refl
is_eq-then Greater p = refl

-- ids are equal where their order ties
pub id_tie : (some other : TxnId) → is_at (id_cmp some) other ≡ same_id some other
unfolding same_id
id_tie some other =
    is_eq-then (nat_cmp some.client.0 other.client.0) (nat_cmp some.number other.number)
    ∙ ap (λ t. t && is_eq (nat_cmp some.number other.number)) (sym (nat_tie some.client.0 other.client.0))
    ∙ ap (λ t. (some.client.0 == other.client.0) && t) (sym (nat_tie some.number other.number))

and_true : (t : Bool) → (t && true) ≡ t
and_true true = refl
and_true false = refl

and_false : (t : Bool) → (t && false) ≡ false
and_false true = refl
and_false false = refl

-- one more answer, in one of the three maps
pub noted_whole : (old new : AnswersValue) (id : TxnId) (answer : Answer) → answer_in new.whole ≡ decide (answer_in old.whole) id answer
    → new.prelim ≡ old.prelim → new.conclude ≡ old.conclude → recorded_in new ≡ note (recorded_in old) id Phase.Whole answer
noted_whole old new id answer put prelim conclude = fun_ext (λ other. fun_ext (by_phase other))
  where
    by_phase : (other : TxnId) (kind : Phase) → recorded_in new other kind ≡ note (recorded_in old) id Phase.Whole answer other kind
    by_phase other Phase.Whole =
        ap (λ (f : TxnId → Option Answer). f other) put
        ∙ ap (λ t. if t then Some answer else answer_in old.whole other) (sym (and_true (same_id id other)))
    by_phase other Phase.Prelim =
        ap (λ (entries : List (TxnId × Answer)). answer_in entries other) prelim
        ∙ ap (λ t. if t then Some answer else answer_in old.prelim other) (sym (and_false (same_id id other)))
    by_phase other Phase.Conclude =
        ap (λ (entries : List (TxnId × Answer)). answer_in entries other) conclude
        ∙ ap (λ t. if t then Some answer else answer_in old.conclude other) (sym (and_false (same_id id other)))

pub noted_prelim : (old new : AnswersValue) (id : TxnId) (answer : Answer) → new.whole ≡ old.whole
    → answer_in new.prelim ≡ decide (answer_in old.prelim) id answer → new.conclude ≡ old.conclude
    → recorded_in new ≡ note (recorded_in old) id Phase.Prelim answer
noted_prelim old new id answer whole put conclude = fun_ext (λ other. fun_ext (by_phase other))
  where
    by_phase : (other : TxnId) (kind : Phase) → recorded_in new other kind ≡ note (recorded_in old) id Phase.Prelim answer other kind
    by_phase other Phase.Whole =
        ap (λ (entries : List (TxnId × Answer)). answer_in entries other) whole
        ∙ ap (λ t. if t then Some answer else answer_in old.whole other) (sym (and_false (same_id id other)))
    by_phase other Phase.Prelim =
        ap (λ (f : TxnId → Option Answer). f other) put
        ∙ ap (λ t. if t then Some answer else answer_in old.prelim other) (sym (and_true (same_id id other)))
    by_phase other Phase.Conclude =
        ap (λ (entries : List (TxnId × Answer)). answer_in entries other) conclude
        ∙ ap (λ t. if t then Some answer else answer_in old.conclude other) (sym (and_false (same_id id other)))

pub noted_conclude : (old new : AnswersValue) (id : TxnId) (answer : Answer) → new.whole ≡ old.whole → new.prelim ≡ old.prelim
    → answer_in new.conclude ≡ decide (answer_in old.conclude) id answer → recorded_in new ≡ note (recorded_in old) id Phase.Conclude answer
noted_conclude old new id answer whole prelim put = fun_ext (λ other. fun_ext (by_phase other))
  where
    by_phase : (other : TxnId) (kind : Phase) → recorded_in new other kind ≡ note (recorded_in old) id Phase.Conclude answer other kind
    by_phase other Phase.Whole =
        ap (λ (entries : List (TxnId × Answer)). answer_in entries other) whole
        ∙ ap (λ t. if t then Some answer else answer_in old.whole other) (sym (and_false (same_id id other)))
    by_phase other Phase.Prelim =
        ap (λ (entries : List (TxnId × Answer)). answer_in entries other) prelim
        ∙ ap (λ t. if t then Some answer else answer_in old.prelim other) (sym (and_false (same_id id other)))
    by_phase other Phase.Conclude =
        ap (λ (f : TxnId → Option Answer). f other) put
        ∙ ap (λ t. if t then Some answer else answer_in old.conclude other) (sym (and_true (same_id id other)))
