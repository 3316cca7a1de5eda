use Rattle.std.specs.Prelude.{◌≡◌, Bool, true, false, None, List, [], ◌∷◌, ⊤}
use Rattle.eris_txn.specs.declared.body.Body.{Body}
use Rattle.eris_txn.specs.declared.body.Body.TheVariants.{Independent, Prelim, Commit, Abort}
use Rattle.eris_locks.specs.declared.shard_packet.ShardPacket.{ShardPacket}
use Rattle.eris_base.specs.Each.{Each}
use Rattle.eris_locks.specs.Locks.{alters}
use Rattle.eris_locks.specs.LockTable.{step}
use Rattle.eris_locks.specs.States.{StoreState, holds, empty}

-- What two packets of one id may be: not an Independent and a Prelim, nor two Prelims of different locks;
-- and a Commit writes keys alone that the Prelim locks Exclusive.
abbrev pub Agree : Body → Body → Type 0
Agree (Independent ops) (Prelim locks) = ⊥
Agree (Prelim locks) (Independent ops) = ⊥
Agree (Prelim locks) (Prelim others) = locks ≡ others
Agree (Prelim locks) (Commit keys writes) = Each (λ write. alters write.key locks ≡ true) writes
Agree (Commit keys writes) (Prelim locks) = Each (λ write. alters write.key locks ≡ true) writes
Agree some other = ⊤

-- a packet agrees with each one of its id
abbrev pub AgreeWith : ShardPacket → List ShardPacket → Type 0
AgreeWith packet packets = Each (λ other. packet.id ≡ other.id → Agree packet.body other.body) packets

abbrev pub is_commit : Body → Bool
is_commit (Independent ops) = false
is_commit (Prelim locks) = false
is_commit (Commit keys writes) = true
is_commit (Abort keys) = false

-- each first Commit of an id finds its preliminary holding
abbrev pub FindsHolding : StoreState → List ShardPacket → Type 0
FindsHolding state [] = ⊤
FindsHolding state (packet ∷ packets) =
    (is_commit packet.body ≡ true → state.decided packet.id ≡ None → holds packet.id state.holding ≡ true)
    × FindsHolding (step state packet).state packets

-- THE LISTS over which the store's answers are those of the plain run
pub record WellFormed (packets : List ShardPacket) : Type 0 where
  pub agree : Each (λ packet. AgreeWith packet packets) packets
  pub finds : FindsHolding empty packets
