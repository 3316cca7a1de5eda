use Rattle.std.specs.Prelude.{◌≡◌, Bool, true, false, List, [], map, ◌&&◌, ◌||◌}
use Rattle.std.specs.List.{list_any}
use Rattle.eris_txn.specs.declared.body.Body.{Body}
use Rattle.eris_txn.specs.declared.body.Body.TheVariants.{Independent, Prelim, Commit, Abort}
use Rattle.eris_txn.specs.declared.key.Key.{Key}
use Rattle.eris_txn.specs.declared.lock.Lock.{Lock}
use Rattle.eris_txn.specs.declared.lock.Mode.{Mode}
use Rattle.eris_txn.specs.declared.lock.Mode.TheVariants.{Shared, Exclusive}
use Rattle.eris_txn.specs.declared.op.Op.{Op}
use Rattle.eris_txn.specs.declared.op.Op.TheVariants.{Get, Put, Del, Add, Cas}
use Rattle.eris_txn.specs.Keys.{same_key}
use Rattle.eris_txn.specs.Operations.{key_of}

-- how an operation locks its key: alone, where it isn't a Get
abbrev pub mode_of : Op → Mode
mode_of (Get key) = Shared
mode_of (Put key value) = Exclusive
mode_of (Del key) = Exclusive
mode_of (Add key more) = Exclusive
mode_of (Cas key expected value) = Exclusive

abbrev pub lock_of : Op → Lock
lock_of op = record { key = key_of op; mode = mode_of op }

-- The locks of a body: one for each operation, so that a key is locked alone where some operation on it
-- isn't a Get; a preliminary has its own; a Commit and an Abort have none.
abbrev pub locks_of : Body → List Lock
locks_of (Independent ops) = map lock_of ops
locks_of (Prelim locks) = locks
locks_of (Commit keys writes) = []
locks_of (Abort keys) = []

abbrev pub is_exclusive : Mode → Bool
is_exclusive Shared = false
is_exclusive Exclusive = true

-- two locks of one key, of which at least one is exclusive
abbrev pub clash : Lock → Lock → Bool
clash some other = same_key some.key other.key && (is_exclusive some.mode || is_exclusive other.mode)

-- some lock of the one list clashes with some lock of the other
unfoldable pub conflict : List Lock → List Lock → Bool
conflict some others = list_any (λ lock. list_any (clash lock) others) some

-- the locks have the key, in whatever mode
abbrev pub touches : Key → List Lock → Bool
touches key locks = list_any (λ lock. same_key lock.key key) locks

-- the locks have the key alone
abbrev pub alters : Key → List Lock → Bool
alters key locks = list_any (λ lock. same_key lock.key key && is_exclusive lock.mode) locks

-- All that the law asks of a conflict: it is symmetric, and where there is none, the two share only keys
-- that both only read.
pub record IsConflict (conflicts : List Lock → List Lock → Bool) : Type 0 where
  pub symmetric : (some others : List Lock) → conflicts some others ≡ conflicts others some
  pub reads_only : (some others : List Lock) (key : Key) → conflicts some others ≡ false → touches key some ≡ true → alters key others ≡ false
