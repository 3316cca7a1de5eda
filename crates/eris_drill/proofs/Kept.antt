-- The transactions that are kept of a history by id are those of the first submits.
use Rattle.std.proofs.Common.{◌≡◌, ◌<◌, ◌+◌, ◌==◌, ◌&&◌, ℕ, Bool, true, false, cond, Option, Some, None, List, [], ◌∷◌, is_some, if◌then◌else◌, drop, length, slice_index_or, refl, ap, sym, ◌∙◌}
use Rattle.std.proofs.lemmas.List.{drop_more}
use Rattle.std.specs.BTreeMap.{is_at}
use Rattle.std.specs.Option.{option_or}
use Rattle.std.specs.Ordering.{is_eq, nat_cmp, ordering_then}
use Rattle.std.specs.declared.cmp.Ordering.{Ordering}
use Rattle.std.specs.declared.cmp.Ordering.TheVariants.{Less, Equal, Greater}
use Rattle.eris_base.proofs.Booleans.{none_from}
use Rattle.eris_base.proofs.Orders.{nat_tie}
use Rattle.eris_base.proofs.TxnIdLaws.{same_id-true}
use Rattle.eris_base.specs.declared.ids.TxnId.{TxnId}
use Rattle.eris_base.specs.TxnIds.{same_id}
use Rattle.eris_txn.specs.declared.history.HistoryEvent.{HistoryEvent}
use Rattle.eris_txn.specs.declared.txn.Txn.{Txn}
use Rattle.eris_audit.specs.Histories.{first_submit}
use Rattle.eris_drill.specs.Submitted.{id_cmp, with_first}
use Rattle.eris_drill.proofs.Submits.{submit_step}

is_eq-then : (o p : Ordering) → is_eq (ordering_then o p) ≡ (is_eq o && is_eq p)
is_eq-then Less p = refl
is_eq-then Equal p = refl
is_eq-then Greater p = refl

-- ids are equal where their order ties
id_tie : (some other : TxnId) → is_at (id_cmp some) other ≡ same_id some other
unfolding same_id
id_tie some other =
    is_eq-then (nat_cmp some.client.0 other.client.0) (nat_cmp some.number other.number)
    ∙ ap (λ t. t && is_eq (nat_cmp some.number other.number)) (sym (nat_tie some.client.0 other.client.0))
    ∙ ap (λ t. (some.client.0 == other.client.0) && t) (sym (nat_tie some.number other.number))

or_nothing : (kept : Option Txn) → kept ≡ option_or kept None
or_nothing None = refl
or_nothing (Some txn) = refl

or_more : (kept more : Option Txn) → is_some kept ≡ true → kept ≡ option_or kept more
or_more None more there = cc
or_more (Some txn) more there = refl

or_or : (kept next later : Option Txn) → option_or (option_or kept next) later ≡ option_or kept (option_or next later)
or_or None next later = refl
or_or (Some txn) next later = refl

-- an id of which a transaction is kept keeps it
pub first_stays : (kept : TxnId → Option Txn) (id : TxnId) (txn : Txn) → is_some (kept id) ≡ true
    → (other : TxnId) → kept other ≡ with_first kept id txn other
first_stays kept id txn there other = by_test (same_id id other) refl
  where
    by_test : (t : Bool) → same_id id other ≡ t → kept other ≡ option_or (kept other) (if t then Some txn else None)
    by_test true is = or_more (kept other) (Some txn) (ap (λ (it : TxnId). is_some (kept it)) (sym (same_id-true id other is)) ∙ there)
    by_test false is = or_nothing (kept other)

-- another one gets it
pub first_put : (old new : TxnId → Option Txn) (id : TxnId) (txn copy : Txn) → is_some (old id) ≡ false → copy ≡ txn
    → ((other : TxnId) → new other ≡ cond (is_at (id_cmp id) other) (Some copy) (old other))
    → (other : TxnId) → new other ≡ with_first old id txn other
first_put old new id txn copy none same puts other =
    puts other
    ∙ ap (λ (it : Txn). cond (is_at (id_cmp id) other) (Some it) (old other)) same
    ∙ ap (λ t. cond t (Some txn) (old other)) (id_tie id other)
    ∙ by_test (same_id id other) refl
  where
    by_test : (t : Bool) → same_id id other ≡ t → cond t (Some txn) (old other) ≡ option_or (old other) (if t then Some txn else None)
    by_test true is = ap (λ (kept : Option Txn). option_or kept (Some txn)) (sym (none_from (old other) (ap (λ (it : TxnId). is_some (old it)) (sym (same_id-true id other is)) ∙ none)))
    by_test false is = or_nothing (old other)

-- one event more
pub kept_on : (history : List HistoryEvent) (at : ℕ) (event : HistoryEvent) (old new : TxnId → Option Txn) → at < length history
    → event ≡ slice_index_or history at event → ((id : TxnId) → new id ≡ option_or (old id) (first_submit (event ∷ []) id))
    → ((id : TxnId) → option_or (old id) (first_submit (drop at history) id) ≡ first_submit history id)
    → (id : TxnId) → option_or (new id) (first_submit (drop (at + 1) history) id) ≡ first_submit history id
kept_on history at event old new few is more before id =
    ap (λ (kept : Option Txn). option_or kept (first_submit (drop (at + 1) history) id)) (more id)
    ∙ or_or (old id) (first_submit (event ∷ []) id) (first_submit (drop (at + 1) history) id)
    ∙ ap (λ (found : Option Txn). option_or (old id) found) (sym (submit_step event (drop (at + 1) history) id))
    ∙ ap (λ (rest : List HistoryEvent). option_or (old id) (first_submit rest id))
    (ap (λ (one : HistoryEvent). one ∷ drop (at + 1) history) is ∙ sym (drop_more history at event few))
    ∙ before id
