-- A blocked packet stays blocked, or is freed by locks that left.
use Rattle.std.proofs.Common.{Bool, List, [], ap, false, inl, inr, not, refl, true, ◌&&◌, ◌||◌, ◌++◌, ◌∙◌, ◌∷◌, ◌≡◌, ◌⊎◌}
use Rattle.std.proofs.lemmas.Bool.{and_from, and_parts, both_ways, or_cases, or_left, or_parts, or_right}
use Rattle.std.proofs.lemmas.List.Folds.{list_any-append}
use Rattle.std.specs.List.{list_any}
use Rattle.eris_base.specs.declared.ids.TxnId.{TxnId}
use Rattle.eris_txn.proofs.KeyLaws.{same_key-true}
use Rattle.eris_txn.specs.Keys.{same_key}
use Rattle.eris_txn.specs.declared.body.Body.{Body}
use Rattle.eris_txn.specs.declared.body.Body.TheVariants.{Abort, Commit, Independent, Prelim}
use Rattle.eris_txn.specs.declared.key.Key.{Key}
use Rattle.eris_txn.specs.declared.lock.Lock.{Lock}
use Rattle.eris_locks.specs.declared.held.Held.{Held}
use Rattle.eris_locks.specs.declared.shard_packet.ShardPacket.{ShardPacket}
use Rattle.eris_locks.specs.LockTable.{holding_after}
use Rattle.eris_locks.specs.Locks.{alters, clash, conflict, is_exclusive, locks_of}
use Rattle.eris_locks.specs.States.{blocked}
use Rattle.eris_law_queue.specs.Candidates.{is_behind_writer, is_freed, leaving}

-- an Exclusive lock of the key is in the way of all that the other is in the way of
clash_moved : (writer lock : Lock) (locks : List Lock) → same_key writer.key lock.key ≡ true → is_exclusive writer.mode ≡ true
    → list_any (clash lock) locks ≡ true → list_any (clash writer) locks ≡ true
clash_moved writer lock [] same writes h = absurd (both_ways _ refl h)
clash_moved writer lock (other ∷ locks) same writes h =
    by_place (or_cases (clash lock other) (list_any (clash lock) locks) h) (λ k. clash_moved writer lock locks same writes k)
  where
    here : clash lock other ≡ true → clash writer other ≡ true
    here k = and_from _ _
        (ap (λ (key : Key). same_key key other.key) (same_key-true writer.key lock.key same) ∙ (and_parts (same_key lock.key other.key) (is_exclusive lock.mode || is_exclusive other.mode) k).0)
        (or_left _ _ writes)

    by_place : ((clash lock other ≡ true) ⊎ (list_any (clash lock) locks ≡ true))
        → (list_any (clash lock) locks ≡ true → list_any (clash writer) locks ≡ true)
        → list_any (clash writer) (other ∷ locks) ≡ true
    by_place (inl k) later = or_left _ _ (here k)
    by_place (inr k) later = or_right _ _ (later k)

-- one that locks the key Exclusive conflicts with them
writer_conflicts : (lock : Lock) (own locks : List Lock) → alters lock.key own ≡ true → list_any (clash lock) locks ≡ true
    → conflict own locks ≡ true
unfolding conflict
writer_conflicts lock [] locks h k = absurd (both_ways _ refl h)
writer_conflicts lock (writer ∷ own) locks h k =
    by_place (or_cases (same_key writer.key lock.key && is_exclusive writer.mode) (alters lock.key own) h) (λ later. writer_conflicts lock own locks later k)
  where
    by_place : (((same_key writer.key lock.key && is_exclusive writer.mode) ≡ true) ⊎ (alters lock.key own ≡ true))
        → (alters lock.key own ≡ true → list_any (λ other. list_any (clash other) locks) own ≡ true)
        → list_any (λ other. list_any (clash other) locks) (writer ∷ own) ≡ true
    by_place (inl here) later =
        let parts = and_parts (same_key writer.key lock.key) (is_exclusive writer.mode) here in
        or_left _ _ (clash_moved writer lock locks parts.0 parts.1 k)
    by_place (inr there) later = or_right _ _ (later there)

-- and so a writer of the key that waits before blocks them
writer_blocks : (lock : Lock) (locks : List Lock) (before : List ShardPacket) → list_any (clash lock) locks ≡ true
    → is_behind_writer lock.key before ≡ true → list_any (λ packet. conflict (locks_of packet.body) locks) before ≡ true
writer_blocks lock locks [] h k = absurd (both_ways _ refl k)
writer_blocks lock locks (packet ∷ before) h k =
    by_place (or_cases (alters lock.key (locks_of packet.body)) (is_behind_writer lock.key before) k) (λ later. writer_blocks lock locks before h later)
  where
    by_place : ((alters lock.key (locks_of packet.body) ≡ true) ⊎ (is_behind_writer lock.key before ≡ true))
        → (is_behind_writer lock.key before ≡ true → list_any (λ other. conflict (locks_of other.body) locks) before ≡ true)
        → list_any (λ other. conflict (locks_of other.body) locks) (packet ∷ before) ≡ true
    by_place (inl here) later = or_left _ _ (writer_conflicts lock (locks_of packet.body) locks here h)
    by_place (inr there) later = or_right _ _ (later there)

-- WHAT CONFLICTED WITH LOCKS THAT LEFT, and isn't freed by them, waits behind a writer
pub left_or_behind : (left : List Lock) (holding : List Held) (before : List ShardPacket) (locks : List Lock)
    → conflict left locks ≡ true → is_freed left before locks ≡ false → blocked holding before locks ≡ true
unfolding conflict
left_or_behind [] holding before locks h free = absurd (both_ways _ refl h)
left_or_behind (lock ∷ left) holding before locks h free =
    by_place (or_cases (list_any (clash lock) locks) (list_any (λ other. list_any (clash other) locks) left) h)
    (λ later. left_or_behind left holding before locks later parts.1)
  where
    parts : ((list_any (clash lock) locks && not (is_behind_writer lock.key before)) ≡ false) × (is_freed left before locks ≡ false)
    parts = or_parts (list_any (clash lock) locks && not (is_behind_writer lock.key before)) (is_freed left before locks) free

    behind : (t : Bool) → is_behind_writer lock.key before ≡ t → (clashes : Bool) → list_any (clash lock) locks ≡ clashes → clashes ≡ true
        → (clashes && not t) ≡ false → is_behind_writer lock.key before ≡ true
    behind true e clashes c k n = e
    behind false e true c k n = absurd (both_ways _ n refl)
    behind false e false c k n = absurd (both_ways _ refl k)

    by_place : ((list_any (clash lock) locks ≡ true) ⊎ (list_any (λ other. list_any (clash other) locks) left ≡ true))
        → (list_any (λ other. list_any (clash other) locks) left ≡ true → blocked holding before locks ≡ true)
        → blocked holding before locks ≡ true
    by_place (inl here) later =
        or_right _ _ (writer_blocks lock locks before here
        (behind (is_behind_writer lock.key before) refl (list_any (clash lock) locks) refl here parts.0))
    by_place (inr there) later = later there

-- a test of a list with one more item in its middle
split_any : {X : Type 0} (test : X → Bool) (some : List X) (x : X) (others : List X) → list_any test (some ++ x ∷ others) ≡ true
    → (list_any test (some ++ others) ≡ true) ⊎ (test x ≡ true)
split_any test [] x others h = turned (or_cases (test x) (list_any test others) h)
  where
    turned : ((test x ≡ true) ⊎ (list_any test others ≡ true)) → (list_any test others ≡ true) ⊎ (test x ≡ true)
    turned (inl k) = inr k
    turned (inr k) = inl k
split_any test (y ∷ some) x others h = by_place (or_cases (test y) (list_any test (some ++ x ∷ others)) h) (λ k. split_any test some x others k)
  where
    more : ((list_any test (some ++ others) ≡ true) ⊎ (test x ≡ true)) → (list_any test (y ∷ (some ++ others)) ≡ true) ⊎ (test x ≡ true)
    more (inl k) = inl (or_right _ _ k)
    more (inr k) = inr k

    by_place : ((test y ≡ true) ⊎ (list_any test (some ++ x ∷ others) ≡ true))
        → (list_any test (some ++ x ∷ others) ≡ true → (list_any test (some ++ others) ≡ true) ⊎ (test x ≡ true))
        → (list_any test (y ∷ (some ++ others)) ≡ true) ⊎ (test x ≡ true)
    by_place (inl k) later = inl (or_left _ _ k)
    by_place (inr k) later = more (later k)

-- A HOLDER LEAVES
pub holder_left : (some others : List Held) (held : Held) (before : List ShardPacket) (locks : List Lock)
    → blocked (some ++ held ∷ others) before locks ≡ true → is_freed held.locks before locks ≡ false
    → blocked (some ++ others) before locks ≡ true
holder_left some others held before locks h free =
    by_place (or_cases (list_any (λ (other : Held). conflict other.locks locks) (some ++ held ∷ others)) (list_any (λ packet. conflict (locks_of packet.body) locks) before) h)
  where
    by_holder : ((list_any (λ (other : Held). conflict other.locks locks) (some ++ others) ≡ true) ⊎ (conflict held.locks locks ≡ true))
        → blocked (some ++ others) before locks ≡ true
    by_holder (inl k) = or_left _ _ k
    by_holder (inr k) = left_or_behind held.locks (some ++ others) before locks k free

    by_place : ((list_any (λ (other : Held). conflict other.locks locks) (some ++ held ∷ others) ≡ true) ⊎ (list_any (λ packet. conflict (locks_of packet.body) locks) before ≡ true))
        → blocked (some ++ others) before locks ≡ true
    by_place (inl k) = by_holder (split_any (λ (other : Held). conflict other.locks locks) some held others k)
    by_place (inr k) = or_right _ _ k

-- what was blocked is, or conflicted with the one of those before it that leaves
pub blocked_without : (holding : List Held) (some others : List ShardPacket) (packet : ShardPacket) (locks : List Lock)
    → blocked holding (some ++ packet ∷ others) locks ≡ true
    → (blocked holding (some ++ others) locks ≡ true) ⊎ (conflict (locks_of packet.body) locks ≡ true)
blocked_without holding some others packet locks h =
    by_place (or_cases (list_any (λ (held : Held). conflict held.locks locks) holding) (list_any (λ (other : ShardPacket). conflict (locks_of other.body) locks) (some ++ packet ∷ others)) h)
  where
    by_packet : ((list_any (λ (other : ShardPacket). conflict (locks_of other.body) locks) (some ++ others) ≡ true) ⊎ (conflict (locks_of packet.body) locks ≡ true))
        → (blocked holding (some ++ others) locks ≡ true) ⊎ (conflict (locks_of packet.body) locks ≡ true)
    by_packet (inl k) = inl (or_right _ _ k)
    by_packet (inr k) = inr k

    by_place : ((list_any (λ (held : Held). conflict held.locks locks) holding ≡ true) ⊎ (list_any (λ (other : ShardPacket). conflict (locks_of other.body) locks) (some ++ packet ∷ others) ≡ true))
        → (blocked holding (some ++ others) locks ≡ true) ⊎ (conflict (locks_of packet.body) locks ≡ true)
    by_place (inl k) = inl (or_left _ _ k)
    by_place (inr k) = by_packet (split_any (λ (other : ShardPacket). conflict (locks_of other.body) locks) some packet others k)

-- ONE THAT WAITS LEAVES
pub waiting_left : (holding : List Held) (some others : List ShardPacket) (packet : ShardPacket) (locks : List Lock)
    → blocked holding (some ++ packet ∷ others) locks ≡ true → is_freed (locks_of packet.body) (some ++ others) locks ≡ false
    → blocked holding (some ++ others) locks ≡ true
waiting_left holding some others packet locks h free = by_cause (blocked_without holding some others packet locks h)
  where
    by_cause : ((blocked holding (some ++ others) locks ≡ true) ⊎ (conflict (locks_of packet.body) locks ≡ true))
        → blocked holding (some ++ others) locks ≡ true
    by_cause (inl k) = k
    by_cause (inr k) = left_or_behind (locks_of packet.body) holding (some ++ others) locks k free

-- what is blocked is blocked beside one more holder
holding_more : (holding : List Held) (held : Held) (before : List ShardPacket) (locks : List Lock) → blocked holding before locks ≡ true
    → blocked (holding ++ held ∷ []) before locks ≡ true
holding_more holding held before locks h =
    by_place (or_cases (list_any (λ (other : Held). conflict other.locks locks) holding) (list_any (λ packet. conflict (locks_of packet.body) locks) before) h)
  where
    by_place : ((list_any (λ (other : Held). conflict other.locks locks) holding ≡ true) ⊎ (list_any (λ packet. conflict (locks_of packet.body) locks) before ≡ true))
        → blocked (holding ++ held ∷ []) before locks ≡ true
    by_place (inl k) = or_left _ _ (list_any-append (λ (other : Held). conflict other.locks locks) holding (held ∷ []) ∙ or_left _ _ k)
    by_place (inr k) = or_right _ _ k

held_blocks : (holding : List Held) (held : Held) (before : List ShardPacket) (locks : List Lock) → conflict held.locks locks ≡ true
    → blocked (holding ++ held ∷ []) before locks ≡ true
held_blocks holding held before locks k =
    or_left _ _ (list_any-append (λ (other : Held). conflict other.locks locks) holding (held ∷ []) ∙ or_right _ _ (or_left _ _ k))

still_blocked : (id : TxnId) (body : Body) (holding : List Held) (before : List ShardPacket) (locks : List Lock)
    → blocked holding before locks ≡ true → blocked (holding_after id body holding) before locks ≡ true
still_blocked id (Independent ops) holding before locks h = h
still_blocked id (Prelim own) holding before locks h = holding_more holding (record { id = id; locks = own }) before locks h
still_blocked id (Commit keys writes) holding before locks h = h
still_blocked id (Abort keys) holding before locks h = h

left_blocked : (id : TxnId) (body : Body) (holding : List Held) (before : List ShardPacket) (locks : List Lock)
    → conflict (locks_of body) locks ≡ true → is_freed (leaving body) before locks ≡ false
    → blocked (holding_after id body holding) before locks ≡ true
unfolding conflict
left_blocked id (Independent ops) holding before locks k free = left_or_behind (locks_of (Independent ops)) holding before locks k free
left_blocked id (Prelim own) holding before locks k free = held_blocks holding (record { id = id; locks = own }) before locks k
left_blocked id (Commit keys writes) holding before locks k free = absurd (both_ways _ refl k)
left_blocked id (Abort keys) holding before locks k free = absurd (both_ways _ refl k)

-- ONE OF THOSE THAT WAIT IS EXECUTED
pub blocked_after : (id : TxnId) (body : Body) (holding : List Held) (before : List ShardPacket) (locks : List Lock)
    → (blocked holding before locks ≡ true) ⊎ (conflict (locks_of body) locks ≡ true) → is_freed (leaving body) before locks ≡ false
    → blocked (holding_after id body holding) before locks ≡ true
blocked_after id body holding before locks (inl h) free = still_blocked id body holding before locks h
blocked_after id body holding before locks (inr k) free = left_blocked id body holding before locks k free
