-- A client's transactions by id, which ascend: what is put twice, and what is taken out and put back. Used where a
-- transaction is changed.
use Rattle.std.proofs.Common.{◌≡◌, ℕ, cond, Option, Some, None, List, [], ◌∷◌, refl, ap, sym, ◌∙◌, subst, IfSome}
use Rattle.std.specs.BTreeMap.{is_at, insert_entry}
use Rattle.std.specs.Cmp.{IsTotalOrder}
use Rattle.std.specs.List.{AllByRecursion}
use Rattle.std.specs.List.Sorted.{IsStrictlySortedBy}
use Rattle.std.specs.Map.{keys_of, lookup, remove_entry}
use Rattle.std.specs.Ordering.{is_eq, match_ordering}
use Rattle.std.specs.declared.cmp.Ordering.{Ordering}
use Rattle.std.specs.declared.cmp.Ordering.TheVariants.{Less, Equal, Greater}
use Rattle.std.proofs.lemmas.Cmp.{nat_cmp_total, on_total, then_total, tied_itself}
use Rattle.eris_base.specs.declared.ids.TxnId.{TxnId}
use Rattle.eris_rules.specs.declared.transaction.Transaction.{Transaction}
use Rattle.eris_rules.specs.ClientStates.{ClientIdentity, ClientState, txn_id_cmp, with_transaction}
use Rattle.eris_rules.proofs.ClientIds.{one_id}
use Rattle.eris_client.specs.ClientValues.{StateValue}

ids_total : IsTotalOrder txn_id_cmp
ids_total = then_total (on_total (λ (id : TxnId). id.client.0) nat_cmp_total) (on_total (λ (id : TxnId). id.number) nat_cmp_total)

itself : (id : TxnId) → txn_id_cmp id id ≡ Equal
itself id = tied_itself ids_total id

abbrev Entries : Type 0
Entries = List (TxnId × Transaction)

abbrev put : Entries → TxnId → Transaction → Entries
put entries id transaction = insert_entry txn_id_cmp entries id transaction

-- WHAT IS PUT TWICE: the second stands
put_twice : (entries : Entries) (id : TxnId) (before after : Transaction) → put (put entries id before) id after ≡ put entries id after
put_twice [] id before after =
    ap (λ (order : Ordering). match_ordering order ((id, after) ∷ (id, before) ∷ []) ((id, after) ∷ []) ((id, before) ∷ put [] id after)) (itself id)
put_twice (entry ∷ entries) id before after = by_order (txn_id_cmp id entry.0) refl (put_twice entries id before after)
  where
    by_order : (order : Ordering) → txn_id_cmp id entry.0 ≡ order → put (put entries id before) id after ≡ put entries id after
        → put (match_ordering order ((id, before) ∷ entry ∷ entries) ((entry.0, before) ∷ entries) (entry ∷ put entries id before)) id after
        ≡ match_ordering order ((id, after) ∷ entry ∷ entries) ((entry.0, after) ∷ entries) (entry ∷ put entries id after)
    by_order Less is rest =
        ap (λ (order : Ordering). match_ordering order ((id, after) ∷ (id, before) ∷ entry ∷ entries) ((id, after) ∷ entry ∷ entries) ((id, before) ∷ put (entry ∷ entries) id after)) (itself id)
    by_order Equal is rest =
        ap (λ (order : Ordering). match_ordering order ((id, after) ∷ (entry.0, before) ∷ entries) ((entry.0, after) ∷ entries) ((entry.0, before) ∷ put entries id after)) is
    by_order Greater is rest =
        ap (λ (order : Ordering). match_ordering order ((id, after) ∷ entry ∷ put entries id before) ((entry.0, after) ∷ put entries id before) (entry ∷ put (put entries id before) id after)) is
        ∙ ap (λ (more : Entries). entry ∷ more) rest

-- in a state
pub put_again : (state : ClientState) (id : TxnId) (before after : Transaction) → with_transaction (with_transaction state id before) id after ≡ with_transaction state id after
unfolding with_transaction
put_again state id before after = ap (λ (entries : Entries). record state { transactions = entries }) (put_twice state.transactions id before after)

-- no id above the first that is asked for stands among ascending ones
none_there : (entries : Entries) (first : TxnId) (id : TxnId) → AllByRecursion (λ other. txn_id_cmp first other ≡ Less) (keys_of entries) → txn_id_cmp id first ≡ Less
    → lookup (is_at (txn_id_cmp id)) entries ≡ None
none_there [] first id above below = refl
none_there (entry ∷ entries) first id above below =
    ap (λ (order : Ordering). cond (is_eq order) (Some entry.1) (lookup (is_at (txn_id_cmp id)) entries)) (ids_total.trans id first entry.0 below above.0)
    ∙ none_there entries first id above.1 below

-- an id that is below the first of ascending entries is put in front of them
put_first : (entries : Entries) (id : TxnId) (transaction : Transaction) → AllByRecursion (λ other. txn_id_cmp id other ≡ Less) (keys_of entries)
    → put entries id transaction ≡ (id, transaction) ∷ entries
put_first [] id transaction above = refl
put_first (entry ∷ entries) id transaction above =
    ap (λ (order : Ordering). match_ordering order ((id, transaction) ∷ entry ∷ entries) ((entry.0, transaction) ∷ entries) (entry ∷ put entries id transaction)) above.0

abbrev taken : Entries → TxnId → Entries
taken entries id = remove_entry (is_at (txn_id_cmp id)) entries

-- WHAT IS TAKEN OUT AND PUT BACK changes nothing
put_back : (entries : Entries) (id : TxnId) (transaction : Transaction) → IsStrictlySortedBy txn_id_cmp (keys_of entries)
    → lookup (is_at (txn_id_cmp id)) entries ≡ Some transaction → put (taken entries id) id transaction ≡ entries
unfolding IsStrictlySortedBy
put_back [] id transaction sorted found = absurd (cc)
put_back (entry ∷ entries) id transaction sorted found = by_order (txn_id_cmp id entry.0) refl found (λ later. put_back entries id transaction sorted.1 later)
  where
    by_order : (order : Ordering) → txn_id_cmp id entry.0 ≡ order
        → cond (is_eq order) (Some entry.1) (lookup (is_at (txn_id_cmp id)) entries) ≡ Some transaction
        → (lookup (is_at (txn_id_cmp id)) entries ≡ Some transaction → put (taken entries id) id transaction ≡ entries)
        → put (cond (is_eq order) entries (entry ∷ taken entries id)) id transaction ≡ entry ∷ entries
    by_order Less is here rest =
        let none : lookup (is_at (txn_id_cmp id)) entries ≡ None = none_there entries entry.0 id sorted.0 is in
        absurd (cc)
    by_order Equal is here rest =
        let same : id ≡ entry.0 = one_id id entry.0 is in
        let own : entry.1 ≡ transaction = cc in
        put_first entries id transaction (subst (λ (first : TxnId). AllByRecursion (λ other. txn_id_cmp first other ≡ Less) (keys_of entries)) (sym same) sorted.0)
        ∙ (λ i. (same i, sym own i) ∷ entries)
    by_order Greater is here rest =
        ap (λ (order : Ordering). match_ordering order ((id, transaction) ∷ entry ∷ taken entries id) ((entry.0, transaction) ∷ taken entries id) (entry ∷ put (taken entries id) id transaction)) is
        ∙ ap (λ (more : Entries). entry ∷ more) (rest here)

abbrev kept : ClientIdentity → ℕ → Entries → StateValue
kept me submitted entries = record { me = me; state = record { submitted = submitted; transactions = entries } }

-- in a state, by what was found
pub taken_out : (me : ClientIdentity) (submitted : ℕ) (entries left : Entries) (id : TxnId) (found : Option Transaction) → IsStrictlySortedBy txn_id_cmp (keys_of entries)
    → found ≡ lookup (is_at (txn_id_cmp id)) entries → left ≡ taken entries id
    → IfSome found (λ transaction. kept me submitted entries ≡ record (kept me submitted left) { state = with_transaction (kept me submitted left).state id transaction })
unfolding with_transaction
taken_out me submitted entries left id None sorted is out = tt
taken_out me submitted entries left id (Some transaction) sorted is out =
    ap (λ (made : Entries). kept me submitted made) (sym (put_back entries id transaction sorted (sym is)) ∙ ap (λ (rest : Entries). put rest id transaction) (sym out))
