-- The late answers to waiting preliminaries that are aborted.
use Rattle.eris_base.specs.declared.ids.Phase.{Phase}
use Rattle.eris_base.specs.declared.ids.Place.{Place}
use Rattle.eris_base.specs.declared.ids.TxnId.{TxnId}
use Rattle.eris_base.specs.Each.{Each}
use Rattle.eris_locks.specs.LockTable.{aborted_late, done}
use Rattle.eris_locks.specs.States.{is_prelim, is_prelim_of, phase_of}
use Rattle.eris_locks.specs.declared.done.Done.{Done}
use Rattle.eris_locks.specs.declared.shard_packet.ShardPacket.{ShardPacket}
use Rattle.eris_txn.specs.declared.answer.Answer.TheVariants.{Aborted}
use Rattle.eris_txn.specs.declared.body.Body.{Body}
use Rattle.eris_txn.specs.declared.body.Body.TheVariants.{Abort, Commit, Independent, Prelim}
use Rattle.std.proofs.Common.{Bool, List, [], false, refl, true, ◌∷◌, ◌≡◌}

pub prelim_phase : (body : Body) → is_prelim body ≡ true → phase_of body ≡ Phase.Prelim
prelim_phase (Independent ops) h = cc
prelim_phase (Prelim ls) h = refl
prelim_phase (Commit keys writes) h = cc
prelim_phase (Abort keys) h = cc

-- what holds of the late answer to each waiting preliminary of that id
pub each_aborted_late : (P : Done → Type 0) (at : Place) (id : TxnId) (waiters : List ShardPacket)
    → (Each (λ waiter. is_prelim_of id waiter ≡ true → P (done at waiter Aborted true)) waiters)
    → Each P (aborted_late at id waiters)
each_aborted_late P at id [] h = tt
each_aborted_late P at id (waiter ∷ waiters) h = by_test (is_prelim_of id waiter) refl (each_aborted_late P at id waiters h.1)
  where
    by_test : (test : Bool) → is_prelim_of id waiter ≡ test → Each P (aborted_late at id waiters)
        → Each P (elim test [ true ↦ done at waiter Aborted true ∷ [] | false ↦ aborted_late at id waiters ])
    by_test true e ih = (h.0 e, tt)
    by_test false e ih = ih
