-- The order of the log as its entries go on.
use Rattle.eris_base.proofs.Each.{Each-append, Each-changed, Each-right}
use Rattle.eris_law_lock.proofs.Log.{Entry, InOrder, LaterApart, OpenApart, Status, has_acted, is_open, locks_in, with_status}
use Rattle.eris_txn.specs.declared.lock.Lock.{Lock}
use Rattle.std.proofs.Common.{Bool, List, [], false, true, ◌++◌, ◌∷◌, ◌≡◌}

module _ (conflicts : List Lock → List Lock → Bool) where
  -- the later ones are apart from an open one
  pub order_later : (earlier : List Entry) (entry : Entry) (following : List Entry)
      → InOrder conflicts (earlier ++ entry ∷ following) → is_open entry.status ≡ true
      → LaterApart conflicts (locks_in entry) following
  order_later [] entry following h o = h.0 o
  order_later (other ∷ earlier) entry following h o = order_later earlier entry following h.1 o

  -- the open ones before are apart from one that acted
  pub order_before : (earlier : List Entry) (entry : Entry) (following : List Entry)
      → InOrder conflicts (earlier ++ entry ∷ following) → has_acted entry.status ≡ true
      → OpenApart conflicts earlier (locks_in entry)
  order_before [] entry following h a = tt
  order_before (other ∷ earlier) entry following h a =
      ((λ o. (Each-right _ earlier (entry ∷ following) (h.0 o)).0 a), order_before earlier entry following h.1 a)

  -- one goes on
  pub order_changed : (earlier : List Entry) (entry : Entry) (following : List Entry) (status : Status)
      → InOrder conflicts (earlier ++ entry ∷ following) → is_open entry.status ≡ true
      → (has_acted status ≡ true → OpenApart conflicts earlier (locks_in entry))
      → InOrder conflicts (earlier ++ with_status status entry ∷ following)
  order_changed [] entry following status h o a = ((λ p. h.0 o), h.1)
  order_changed (other ∷ earlier) entry following status h o a =
      ((λ p. Each-changed _ earlier entry (with_status status entry) following (h.0 p) (λ k. (a k).0 p)), order_changed earlier entry following status h.1 o (λ k. (a k).1))

  -- one more comes, and hasn't acted
  pub order_added : (entries : List Entry) (entry : Entry) → InOrder conflicts entries → has_acted entry.status ≡ false
      → InOrder conflicts (entries ++ entry ∷ [])
  order_added [] entry h n = ((λ o. tt), tt)
  order_added (other ∷ entries) entry h n =
      ((λ o. Each-append _ entries (entry ∷ []) (h.0 o) ((λ k. absurd (no k)), tt)), order_added entries entry h.1 n)
    where
      no : has_acted entry.status ≡ true → ⊥
      no k = cc
