-- Releasing keeps the log, and its answers are right.
use Rattle.eris_base.specs.declared.ids.ClientId.{ClientId}
use Rattle.eris_base.specs.declared.ids.Place.{Place}
use Rattle.eris_base.specs.declared.ids.TxnId.{TxnId}
use Rattle.eris_law_lock.proofs.Act.{act, acted, acts}
use Rattle.eris_law_lock.proofs.Fit.{Fit, Good, Plain, Point, entry_of, is_waiting, waiting_in, waiting_in-append}
use Rattle.eris_law_lock.proofs.Log.{Complete, Entry, Holds, Status, Void, Waits}
use Rattle.eris_base.specs.Each.{Each}
use Rattle.eris_locks.specs.LockTable.{Stepped, also, answer_of, done, execute, release}
use Rattle.eris_locks.specs.Locks.{locks_of}
use Rattle.eris_locks.specs.States.{StoreState, blocked, phase_of}
use Rattle.eris_locks.specs.declared.done.Done.{Done}
use Rattle.eris_locks.specs.declared.shard_packet.ShardPacket.{ShardPacket}
use Rattle.eris_txn.specs.declared.answer.Answer.{Answer}
use Rattle.eris_txn.specs.declared.body.Body.{Body}
use Rattle.eris_txn.specs.declared.body.Body.TheVariants.{Abort, Commit, Independent, Prelim}
use Rattle.eris_txn.specs.declared.plan.Write.{Write}
use Rattle.std.proofs.Common.{Bool, List, [], ap, append_assoc, cond, false, refl, subst, sym, true, ◌++◌, ◌∙◌, ◌∷◌, ◌≡◌}
use Rattle.std.proofs.lemmas.Bool.{cond-false}
use Rattle.std.proofs.lemmas.List.{append-nil}

abbrev pub GoodDone : Plain → Done → Type 0
GoodDone T given = Good T given.phase given.id given.answer

-- after a step some log fits, and each answer is the plain run's
pub record Right (point : Point) (stepped : Stepped) : Type 0 where
  pub log : List Entry
  pub fit : Fit point stepped.state log
  pub waiting : stepped.state.waiting ≡ waiting_in log
  pub good : Each (GoodDone point.all) stepped.dones

pub rewait : (point : Point) (state : StoreState) (waiters : List ShardPacket) (entries : List Entry) → Fit point state entries
    → Fit point (record state { waiting = waiters }) entries
rewait point state waiters entries f =
    record { values = f.values; order = f.order; each = f.each; distinct = f.distinct; holding = f.holding; sound = f.sound; logged = f.logged; linked = f.linked; reaches = f.reaches; seen_is = f.seen_is; decided_is = f.decided_is; ends = f.ends; told = f.told; untold = f.untold; ruled = f.ruled }

pub acts_on : (body : Body) → is_waiting (acts body) ≡ false
acts_on (Independent ops) = refl
acts_on (Prelim ls) = refl
acts_on (Commit keys writes) = refl
acts_on (Abort keys) = refl

pub passed : (entries : List Entry) (entry : Entry) (before : List ShardPacket) → before ≡ waiting_in entries
    → is_waiting entry.status ≡ false → before ≡ waiting_in (entries ++ entry ∷ [])
passed entries entry before w n =
    w
    ∙ (sym (append-nil (waiting_in entries)) ∙ (ap (λ t. waiting_in entries ++ t) (sym (cond-false _ _ _ n)) ∙ sym (waiting_in-append entries (entry ∷ []))))

answered_late : (point : Point) (step_at : Place) (packet : ShardPacket) (answer : Answer) (stepped : Stepped)
    → Good point.all (phase_of packet.body) packet.id answer → Right point stepped
    → Right point (also (done step_at packet answer true) stepped)
answered_late point step_at packet answer stepped g h = record { log = h.log; fit = h.fit; waiting = h.waiting; good = (g, h.good) }

module _ (point : Point) (step_at : Place) where
  abbrev Rest : List Entry → Type 0
  Rest following =
      (state : StoreState) (earlier : List Entry) (before : List ShardPacket) → before ≡ waiting_in earlier → Fit point state
      (earlier ++ following) → Right point (release step_at state before (waiting_in following))

  module _ (at : Place) (asker : ClientId) (id : TxnId) (body : Body) (writes : List Write) (following : List Entry) (ih : Rest following) (state : StoreState) (earlier : List Entry) (before : List ShardPacket) (w : before ≡ waiting_in earlier) where
    release_one : Fit point state (earlier ++ entry_of at asker id body writes Waits ∷ following) → (t : Bool)
        → blocked state.holding before (locks_of body) ≡ t
        → Right point (release step_at state before (record { at = at; asker = asker; id = id; body = body } ∷ waiting_in following))
    release_one fit true t =
        rw (t, release) (ih state (earlier ++ entry_of at asker id body writes Waits ∷ []) (before ++ record { at = at; asker = asker; id = id; body = body } ∷ []) (ap (λ list. list ++ record { at = at; asker = asker; id = id; body = body } ∷ []) w ∙ sym (waiting_in-append earlier (entry_of at asker id body writes Waits ∷ []))) (rw append_assoc fit))
    release_one fit false t =
        let free : blocked state.holding (waiting_in earlier) (locks_of body) ≡ false = subst (λ (list : List ShardPacket). blocked state.holding list (locks_of body) ≡ false) w t in
        let a = act point state earlier at asker id body writes following fit free in
        rw (t, release) (answered_late point step_at (record { at = at; asker = asker; id = id; body = body }) (answer_of body state.values) (release step_at (execute state (record { at = at; asker = asker; id = id; body = body })) before (waiting_in following)) a.1
        (ih (execute state (record { at = at; asker = asker; id = id; body = body })) (earlier ++ acted at asker id body writes ∷ []) before (passed earlier (acted at asker id body writes) before w (acts_on body)) (rw append_assoc a.0)))

    release_head : (status : Status) → Fit point state (earlier ++ entry_of at asker id body writes status ∷ following)
        → Right point (release step_at state before (cond (is_waiting status) (record { at = at; asker = asker; id = id; body = body } ∷ waiting_in following) (waiting_in following)))
    release_head Waits fit = release_one fit (blocked state.holding before (locks_of body)) refl
    release_head Holds fit =
        ih state (earlier ++ entry_of at asker id body writes Holds ∷ []) before
        (passed earlier (entry_of at asker id body writes Holds) before w refl) (rw append_assoc fit)
    release_head Complete fit =
        ih state (earlier ++ entry_of at asker id body writes Complete ∷ []) before
        (passed earlier (entry_of at asker id body writes Complete) before w refl) (rw append_assoc fit)
    release_head Void fit =
        ih state (earlier ++ entry_of at asker id body writes Void ∷ []) before
        (passed earlier (entry_of at asker id body writes Void) before w refl) (rw append_assoc fit)

  -- RELEASING keeps the fit, and its answers are right
  pub release_right : (following : List Entry) → Rest following
  release_right [] s es before w fit = record {
    log = es ++ [];
    fit = rewait point s before (es ++ []) fit;
    waiting = w ∙ (sym (append-nil (waiting_in es)) ∙ sym (waiting_in-append es []));
    good = tt;
  }
  release_right (entry ∷ following) s es before w fit =
      release_head entry.packet.at entry.packet.asker entry.packet.id entry.packet.body entry.writes following (release_right following) s es before w entry.status fit
