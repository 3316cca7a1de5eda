-- What operations, writes and locks do at one key; and lock modes are a conflict.
use Rattle.eris_base.specs.Each.{Each}
use Rattle.eris_locks.specs.Locks.{IsConflict, alters, clash, conflict, is_exclusive, lock_of, mode_of, touches}
use Rattle.eris_txn.proofs.KeyLaws.{same_key-refl, same_key-symm, same_key-true}
use Rattle.eris_txn.specs.Keys.{Values, same_key}
use Rattle.eris_txn.specs.Operations.{after, after_all, answered, answers, key_of, left_by}
use Rattle.eris_txn.specs.Plans.{written}
use Rattle.eris_txn.specs.declared.key.Key.{Key}
use Rattle.eris_txn.specs.declared.lock.Lock.{Lock}
use Rattle.eris_txn.specs.declared.op.Op.{Op}
use Rattle.eris_txn.specs.declared.op.Op.TheVariants.{Add, Cas, Del, Get, Put}
use Rattle.eris_txn.specs.declared.plan.Write.{Write}
use Rattle.std.proofs.Common.{Bool, List, Option, Some, [], ap, cond, false, inl, inr, map, refl, sym, true, ℕ, ◌&&◌, ◌||◌, ◌∙◌, ◌∷◌, ◌≡◌, ◌⊎◌}
use Rattle.std.proofs.lemmas.Bool.{and_parts, both_ways, cases_Bool, cond-false, or_cases, or_from, or_left, or_parts, or_right}
use Rattle.std.specs.List.{list_any}

-- operations and writes at one key
abbrev pub on_key : List Op → Key → Option ℕ → Option ℕ
on_key [] key value = value
on_key (op ∷ ops) key value = on_key ops key (cond (same_key (key_of op) key) (left_by op value) value)

abbrev pub put_on : List Write → Key → Option ℕ → Option ℕ
put_on [] key value = value
put_on (write ∷ writes) key value = put_on writes key (cond (same_key write.key key) (Some write.value) value)

-- an operation at one key
after_at : (op : Op) (values : Values) (key : Key) → ((same_key (key_of op) key ≡ true) ⊎ (same_key (key_of op) key ≡ false))
    → after op values key ≡ cond (same_key (key_of op) key) (left_by op (values key)) (values key)
after_at op values key (inl t) =
    ap (λ k. cond (same_key (key_of op) key) (left_by op (values k)) (values key)) (same_key-true (key_of op) key t)
after_at op values key (inr t) = cond-false _ _ _ t ∙ sym (cond-false _ _ _ t)

pub after_all_at : (ops : List Op) (values : Values) (key : Key) → after_all ops values key ≡ on_key ops key (values key)
after_all_at [] values key = refl
after_all_at (op ∷ ops) values key =
    after_all_at ops (after op values) key ∙ ap (on_key ops key) (after_at op values key (cases_Bool (same_key (key_of op) key)))

pub written_at : (writes : List Write) (values : Values) (key : Key) → written writes values key ≡ put_on writes key (values key)
written_at [] values key = refl
written_at (write ∷ writes) values key = written_at writes (λ y. cond (same_key write.key y) (Some write.value) (values y)) key

one_kept : (op : Op) (b : Bool) (value : Option ℕ) → (b && is_exclusive (mode_of op)) ≡ false
    → cond b (left_by op value) value ≡ value
one_kept op false value h = refl
one_kept (Get k) true value h = refl
one_kept (Put k n) true value h = cc
one_kept (Del k) true value h = cc
one_kept (Add k n) true value h = cc
one_kept (Cas k e n) true value h = cc

-- a key that the operations only read
pub on_key_kept : (ops : List Op) (key : Key) (value : Option ℕ) → alters key (map lock_of ops) ≡ false
    → on_key ops key value ≡ value
on_key_kept [] key value h = refl
on_key_kept (op ∷ ops) key value h =
    let parts = or_parts _ _ h in
    ap (on_key ops key) (one_kept op (same_key (key_of op) key) value parts.0) ∙ on_key_kept ops key value parts.1

-- the answers go by the keys that are touched
pub answers_agree : (ops : List Op) (values others : Values)
    → ((key : Key) → touches key (map lock_of ops) ≡ true → values key ≡ others key) → answers ops values ≡ answers ops others
answers_agree [] values others h = refl
answers_agree (op ∷ ops) values others h =
    let head = ap (answered op) (h (key_of op) (or_left _ _ (same_key-refl (key_of op)))) in
    let tail = answers_agree ops (after op values) (after op others) (λ key t. ap (λ v. cond (same_key (key_of op) key) (left_by op v) (values key)) (h (key_of op) (or_left _ _ (same_key-refl (key_of op)))) ∙ ap (λ v. cond (same_key (key_of op) key) (left_by op (others (key_of op))) v) (h key (or_right _ _ t))) in
    cc

and_or_right : (k a b : Bool) → (k && (a || b)) ≡ false → (k && b) ≡ false
and_or_right true true b h = cc
and_or_right true false b h = h
and_or_right false a b h = refl

clash_free : (lock : Lock) (others : List Lock) (key : Key) → list_any (clash lock) others ≡ false → same_key lock.key key ≡ true
    → alters key others ≡ false
clash_free lock [] key h e = refl
clash_free lock (other_lock ∷ others) key h e =
    or_from _ _
    (ap (λ t. t && is_exclusive other_lock.mode) (ap (same_key other_lock.key) (sym (same_key-true lock.key key e)) ∙ same_key-symm other_lock.key lock.key) ∙ and_or_right (same_key lock.key other_lock.key) (is_exclusive lock.mode) (is_exclusive other_lock.mode) (or_parts (clash lock other_lock) (list_any (clash lock) others) h).0)
    (clash_free lock others key (or_parts (clash lock other_lock) (list_any (clash lock) others) h).1 e)

or_turned : (a b : Bool) → (a || b) ≡ (b || a)
or_turned true true = refl
or_turned true false = refl
or_turned false true = refl
or_turned false false = refl

or_swapped : (a b c d : Bool) → ((a || b) || (c || d)) ≡ ((a || c) || (b || d))
or_swapped true b c d = refl
or_swapped false true true d = refl
or_swapped false true false d = refl
or_swapped false false c d = refl

apart_first : (some others : List Lock) (key : Key) → conflict some others ≡ false → touches key some ≡ true
    → alters key others ≡ false
unfolding conflict
apart_first [] others key h t = cc
apart_first (lock ∷ some) others key h t =
    split (or_cases (same_key lock.key key) (touches key some) t)
    (apart_first some others key (or_parts (list_any (clash lock) others) (conflict some others) h).1)
  where
    split : ((same_key lock.key key ≡ true) ⊎ (touches key some ≡ true)) → (touches key some ≡ true → alters key others ≡ false)
        → alters key others ≡ false
    split (inl e) ih = clash_free lock others key (or_parts (list_any (clash lock) others) (conflict some others) h).0 e
    split (inr k) ih = ih k

clash_turned : (a b : Lock) → clash a b ≡ clash b a
clash_turned a b =
    ap (λ t. t && (is_exclusive a.mode || is_exclusive b.mode)) (same_key-symm a.key b.key)
    ∙ ap (λ t. same_key b.key a.key && t) (or_turned (is_exclusive a.mode) (is_exclusive b.mode))

clashes_turned : (lock : Lock) (others : List Lock)
    → list_any (clash lock) others ≡ list_any (λ other_lock. clash other_lock lock) others
clashes_turned lock [] = refl
clashes_turned lock (other_lock ∷ others) =
    ap (λ t. t || list_any (clash lock) others) (clash_turned lock other_lock)
    ∙ ap (λ t. clash other_lock lock || t) (clashes_turned lock others)

conflict_none : (others : List Lock) → conflict others [] ≡ false
unfolding conflict
conflict_none [] = refl
conflict_none (other_lock ∷ others) = conflict_none others

conflict_more : (others : List Lock) (lock : Lock) (some : List Lock)
    → conflict others (lock ∷ some) ≡ (list_any (λ other_lock. clash other_lock lock) others || conflict others some)
unfolding conflict
conflict_more [] lock some = refl
conflict_more (other_lock ∷ others) lock some =
    ap (λ t. (clash other_lock lock || list_any (clash other_lock) some) || t) (conflict_more others lock some)
    ∙ or_swapped (clash other_lock lock) (list_any (clash other_lock) some) (list_any (λ z. clash z lock) others) (conflict others some)

conflict_turned : (some others : List Lock) → conflict some others ≡ conflict others some
unfolding conflict
conflict_turned [] others = sym (conflict_none others)
conflict_turned (lock ∷ some) others =
    ap (λ t. t || conflict some others) (clashes_turned lock others)
    ∙ ap (λ t. list_any (λ y. clash y lock) others || t) (conflict_turned some others)
    ∙ sym (conflict_more others lock some)

-- LOCK MODES ARE A CONFLICT as the law asks for one
pub modes_conflict : IsConflict conflict
modes_conflict = record { symmetric = conflict_turned; reads_only = apart_first }

pub touches_from_alters : (locks : List Lock) (key : Key) → alters key locks ≡ true → touches key locks ≡ true
touches_from_alters [] key h = h
touches_from_alters (lock ∷ locks) key h =
    split (or_cases (same_key lock.key key && is_exclusive lock.mode) (alters key locks) h) (touches_from_alters locks key)
  where
    split : (((same_key lock.key key && is_exclusive lock.mode) ≡ true) ⊎ (alters key locks ≡ true))
        → (alters key locks ≡ true → touches key locks ≡ true) → touches key (lock ∷ locks) ≡ true
    split (inl e) ih =
        or_left (same_key lock.key key) (touches key locks) (and_parts (same_key lock.key key) (is_exclusive lock.mode) e).0
    split (inr k) ih = or_right (same_key lock.key key) (touches key locks) (ih k)

-- the values of a list of locks go by the keys that are touched
pub reads_agree : (locks : List Lock) (values others : Values) → ((key : Key) → touches key locks ≡ true → values key ≡ others key)
    → map (λ lock. values lock.key) locks ≡ map (λ lock. others lock.key) locks
reads_agree [] values others h = refl
reads_agree (lock ∷ locks) values others h =
    let head = h lock.key (or_left _ _ (same_key-refl lock.key)) in
    let tail = reads_agree locks values others (λ key t. h key (or_right _ _ t)) in
    cc

pub put_on_kept : (writes : List Write) (locks : List Lock) (key : Key) (value : Option ℕ)
    → Each (λ write. alters write.key locks ≡ true) writes → alters key locks ≡ false → put_on writes key value ≡ value
put_on_kept [] locks key value h a = refl
put_on_kept (w ∷ writes) locks key value h a =
    ap (put_on writes key) (cond-false (same_key w.key key) (Some w.value) value (apart (cases_Bool (same_key w.key key))))
    ∙ put_on_kept writes locks key value h.1 a
  where
    apart : ((same_key w.key key ≡ true) ⊎ (same_key w.key key ≡ false)) → same_key w.key key ≡ false
    apart (inl e) = absurd (both_ways _ a (ap (λ k. alters k locks) (sym (same_key-true w.key key e)) ∙ h.0))
    apart (inr e) = e
