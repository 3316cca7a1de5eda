-- The log beside a run of the store, and what its entries make of a key.
use Rattle.eris_law_lock.proofs.Keys.{after_all_at, on_key, put_on, touches_from_alters, written_at}
use Rattle.eris_base.specs.Each.{Each}
use Rattle.eris_locks.specs.Locks.{IsConflict, alters, locks_of, touches}
use Rattle.eris_locks.specs.ShardRun.{left_after}
use Rattle.eris_locks.specs.declared.shard_packet.ShardPacket.{ShardPacket}
use Rattle.eris_txn.specs.Keys.{Values}
use Rattle.eris_txn.specs.declared.body.Body.{Body}
use Rattle.eris_txn.specs.declared.body.Body.TheVariants.{Abort, Commit, Independent, Prelim}
use Rattle.eris_txn.specs.declared.key.Key.{Key}
use Rattle.eris_txn.specs.declared.lock.Lock.{Lock}
use Rattle.eris_txn.specs.declared.plan.Write.{Write}
use Rattle.std.proofs.Common.{Bool, List, Option, [], ap, cond, false, inl, inr, refl, sym, true, ℕ, ◌++◌, ◌∙◌, ◌∷◌, ◌≡◌, ◌⊎◌}
use Rattle.std.proofs.lemmas.Bool.{cases_Bool, cond-false, cond-true}

-- how far a transaction has come in the store: it waits, holds its locks, is complete, or was aborted before it was executed
pub data Status : Type 0 where
  Waits : Status
  Holds : Status
  Complete : Status
  Void : Status

-- the writes are those of the plain run
pub record Entry : Type 0 where
  pub packet : ShardPacket
  pub writes : List Write
  pub status : Status

abbrev pub is_open : Status → Bool
is_open Waits = true
is_open Holds = true
is_open Complete = false
is_open Void = false

abbrev pub has_acted : Status → Bool
has_acted Waits = false
has_acted Holds = true
has_acted Complete = true
has_acted Void = false

abbrev pub is_complete : Status → Bool
is_complete Waits = false
is_complete Holds = false
is_complete Complete = true
is_complete Void = false

abbrev pub is_void : Status → Bool
is_void Waits = false
is_void Holds = false
is_void Complete = false
is_void Void = true

abbrev pub locks_in : Entry → List Lock
locks_in entry = locks_of entry.packet.body

-- what a transaction leaves at one key
abbrev pub left_at : Body → List Write → Key → Option ℕ → Option ℕ
left_at (Independent ops) own_writes key value = on_key ops key value
left_at (Prelim ls) own_writes key value = put_on own_writes key value
left_at (Commit keys writes) own_writes key value = value
left_at (Abort keys) own_writes key value = value

pub left_after_at : (body : Body) (own_writes : List Write) (values : Values) (key : Key)
    → left_after body own_writes values key ≡ left_at body own_writes key (values key)
left_after_at (Independent ops) own_writes values key = after_all_at ops values key
left_after_at (Prelim ls) own_writes values key = written_at own_writes values key
left_after_at (Commit keys writes) own_writes values key = refl
left_after_at (Abort keys) own_writes values key = refl

abbrev pub effect : Entry → Key → Option ℕ → Option ℕ
effect entry key value = left_at entry.packet.body entry.writes key value

-- the complete transactions' effects on a key, and those of all
abbrev pub current : Key → List Entry → Option ℕ → Option ℕ
current key [] value = value
current key (entry ∷ entries) value = current key entries (cond (is_complete entry.status) (effect entry key value) value)

abbrev pub final : Key → List Entry → Option ℕ → Option ℕ
final key [] value = value
final key (entry ∷ entries) value = final key entries (effect entry key value)

-- an effect is on keys that are locked Exclusive, and there is none after an abort
pub record Lawful (entry : Entry) : Type 0 where
  pub kept : (key : Key) (value : Option ℕ) → alters key (locks_in entry) ≡ false → effect entry key value ≡ value
  pub void : is_void entry.status ≡ true → (key : Key) (value : Option ℕ) → effect entry key value ≡ value

abbrev pub AllLawful : List Entry → Type 0
AllLawful entries = Each Lawful entries

module _ (conflicts : List Lock → List Lock → Bool) where
  -- none of the later ones that acted conflicts with these locks
  abbrev pub LaterApart : List Lock → List Entry → Type 0
  LaterApart locks entries = Each (λ e. has_acted e.status ≡ true → conflicts locks (locks_in e) ≡ false) entries

  -- none of the open ones conflicts with these locks
  abbrev pub OpenApart : List Entry → List Lock → Type 0
  OpenApart entries locks = Each (λ e. is_open e.status ≡ true → conflicts (locks_in e) locks ≡ false) entries

  -- where one is open, the later ones that acted don't conflicts with it
  abbrev pub InOrder : List Entry → Type 0
  InOrder [] = Unit {0}
  InOrder (entry ∷ entries) = (is_open entry.status ≡ true → LaterApart (locks_in entry) entries) × InOrder entries

abbrev pub with_status : Status → Entry → Entry
with_status status entry = record entry { status = status }

complete_acted : (status : Status) → is_complete status ≡ true → has_acted status ≡ true
complete_acted Waits h = cc
complete_acted Holds h = cc
complete_acted Complete h = refl
complete_acted Void h = cc

one_before : (entry : Entry) (key : Key) (value : Option ℕ) (status : Status) → entry.status ≡ status → Lawful entry
    → (is_open status ≡ true → alters key (locks_in entry) ≡ false)
    → cond (is_complete status) (effect entry key value) value ≡ effect entry key value
one_before entry key value Waits is w a = sym (w.kept key value (a refl))
one_before entry key value Holds is w a = sym (w.kept key value (a refl))
one_before entry key value Complete is w a = refl
one_before entry key value Void is w a = sym (w.void (ap is_void is) key value)

pub current-append : (key : Key) (earlier following : List Entry) (value : Option ℕ)
    → current key (earlier ++ following) value ≡ current key following (current key earlier value)
current-append key [] following value = refl
current-append key (entry ∷ earlier) following value =
    current-append key earlier following (cond (is_complete entry.status) (effect entry key value) value)

pub final-append : (key : Key) (earlier following : List Entry) (value : Option ℕ)
    → final key (earlier ++ following) value ≡ final key following (final key earlier value)
final-append key [] following value = refl
final-append key (entry ∷ earlier) following value = final-append key earlier following (effect entry key value)

-- FOR ANY CONFLICT that is symmetric and without which two share only keys that both only read
module _ (conflicts : List Lock → List Lock → Bool) (lawful : IsConflict conflicts) where
  -- at a key that the locks touch, later complete ones do nothing
  pub current_later : (locks : List Lock) (entries : List Entry) (key : Key) (value : Option ℕ) → AllLawful entries
      → LaterApart conflicts locks entries → touches key locks ≡ true → current key entries value ≡ value
  current_later locks [] key value w a t = refl
  current_later locks (entry ∷ entries) key value w a t =
      ap (current key entries) (here (cases_Bool (is_complete entry.status))) ∙ current_later locks entries key value w.1 a.1 t
    where
      here : ((is_complete entry.status ≡ true) ⊎ (is_complete entry.status ≡ false))
          → cond (is_complete entry.status) (effect entry key value) value ≡ value
      here (inl c) =
          cond-true _ _ _ c
          ∙ w.0.kept key value (lawful.reads_only locks (locks_in entry) key (a.0 (complete_acted entry.status c)) t)
      here (inr c) = cond-false _ _ _ c

  -- at a key that the locks touch, the complete ones before are as good as all
  pub current_before : (entries : List Entry) (locks : List Lock) (key : Key) (value : Option ℕ) → AllLawful entries
      → OpenApart conflicts entries locks → touches key locks ≡ true → current key entries value ≡ final key entries value
  current_before [] locks key value w a t = refl
  current_before (entry ∷ entries) locks key value w a t =
      ap (current key entries) (one_before entry key value entry.status refl w.0 (λ o. lawful.reads_only locks (locks_in entry) key (lawful.symmetric locks (locks_in entry) ∙ a.0 o) t)) ∙ current_before entries locks key (effect entry key value) w.1 a.1 t

  -- WHAT AN UNBLOCKED TRANSACTION READS is what the plain run has at its point
  pub read_at_point : (earlier : List Entry) (entry : Entry) (following : List Entry) (key : Key) (value : Option ℕ)
      → AllLawful earlier → AllLawful following → OpenApart conflicts earlier (locks_in entry)
      → LaterApart conflicts (locks_in entry) following → is_complete entry.status ≡ false → touches key (locks_in entry) ≡ true
      → current key (earlier ++ entry ∷ following) value ≡ final key earlier value
  read_at_point earlier entry following key value lawful_entry well o l c t =
      current-append key earlier (entry ∷ following) value
      ∙ (ap (current key following) (cond-false _ _ _ c)
      ∙ (current_later (locks_in entry) following key (current key earlier value) well l t
      ∙ current_before earlier (locks_in entry) key value lawful_entry o t))

  -- WHAT IT LEAVES takes its place among the complete ones
  pub left_in_place : (earlier : List Entry) (entry : Entry) (following : List Entry) (key : Key) (value : Option ℕ)
      → AllLawful following → LaterApart conflicts (locks_in entry) following → Lawful entry → is_complete entry.status ≡ false
      → current key (earlier ++ with_status Complete entry ∷ following) value ≡ effect entry key (current key (earlier ++ entry ∷ following) value)
  left_in_place earlier entry following key value well l lawful_entry c = by_cases (cases_Bool (alters key (locks_in entry)))
    where
      before : Option ℕ
      before = current key earlier value

      left : current key (earlier ++ with_status Complete entry ∷ following) value ≡ current key following (effect entry key before)
      left = current-append key earlier (with_status Complete entry ∷ following) value

      right : current key (earlier ++ entry ∷ following) value ≡ current key following before
      right = current-append key earlier (entry ∷ following) value ∙ ap (current key following) (cond-false _ _ _ c)

      by_cases : ((alters key (locks_in entry) ≡ true) ⊎ (alters key (locks_in entry) ≡ false))
          → current key (earlier ++ with_status Complete entry ∷ following) value ≡ effect entry key (current key (earlier ++ entry ∷ following) value)
      by_cases (inl a) =
          let t = touches_from_alters (locks_in entry) key a in
          let one = current_later (locks_in entry) following key (effect entry key before) well l t in
          let two = current_later (locks_in entry) following key before well l t in
          left ∙ (one ∙ ap (effect entry key) (sym (right ∙ two)))
      by_cases (inr a) =
          let one = lawful_entry.kept key before a in
          let two = lawful_entry.kept key (current key following before) a in
          left ∙ (ap (current key following) one ∙ (sym two ∙ ap (effect entry key) (sym right)))
