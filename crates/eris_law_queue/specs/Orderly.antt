use Rattle.std.specs.Prelude.{◌≡◌, true, false, List, [], ◌∷◌, ⊤}
use Rattle.eris_base.specs.declared.ids.Phase.{Phase}
use Rattle.eris_base.specs.declared.ids.TxnId.{TxnId}
use Rattle.eris_base.specs.Each.{Each, EachAfter}
use Rattle.eris_base.specs.TxnIds.{same_id}
use Rattle.eris_locks.specs.declared.held.Held.{Held}
use Rattle.eris_locks.specs.declared.shard_packet.ShardPacket.{ShardPacket}
use Rattle.eris_locks.specs.Locks.{locks_of}
use Rattle.eris_locks.specs.States.{StoreState, blocked, holds, is_conclusory, is_decided, phase_of}

-- no two packets that wait have one id
abbrev pub WaitOnce : List ShardPacket → Type 0
WaitOnce [] = ⊤
WaitOnce (packet ∷ packets) = Each (λ other. same_id packet.id other.id ≡ false) packets × WaitOnce packets

-- no two preliminaries that hold have one id
abbrev pub HoldOnce : List Held → Type 0
HoldOnce [] = ⊤
HoldOnce (held ∷ holding) = Each (λ other. same_id held.id other.id ≡ false) holding × HoldOnce holding

-- each packet that waits is blocked, by a holder or by one that waits before it
abbrev pub AllBlocked : List Held → List ShardPacket → Type 0
AllBlocked holding waiting = EachAfter (λ before packet. blocked holding before (locks_of packet.body) ≡ true) [] waiting

-- WHAT IS TRUE OF A STORE'S STATE in every state that it reaches
pub record IsOrderly (state : StoreState) : Type 0 where
  pub stuck : AllBlocked state.holding state.waiting
  pub wait_once : WaitOnce state.waiting
  pub hold_once : HoldOnce state.holding
  -- what waits is no Commit and no Abort, and has no answer yet
  pub acts : Each (λ packet. is_conclusory packet.body ≡ false) state.waiting
  pub fresh : Each (λ packet. is_decided (state.recorded packet.id (phase_of packet.body)) ≡ false) state.waiting
  -- what holds has one
  pub held : (id : TxnId) → holds id state.holding ≡ true → is_decided (state.recorded id Phase.Prelim) ≡ true
