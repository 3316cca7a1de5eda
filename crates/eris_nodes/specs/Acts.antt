-- What a client does of itself, as the rules have it.
use Rattle.std.specs.Prelude.{◌≡◌, ◌==◌, true, false, ⊤, List}
use Rattle.eris_base.specs.declared.ids.TxnId.{TxnId}
use Rattle.eris_txn.specs.declared.key.Key.{Key}
use Rattle.eris_txn.specs.declared.txn.Txn.{Txn}
use Rattle.eris_client.specs.ClientRanges.{TxnFits}
use Rattle.eris_codec.specs.Fields as f
use Rattle.eris_rules.specs.Clients.{abort, retry, submit}
use Rattle.eris_rules.specs.ClientStates.{ClientIdentity, ClientOut, ClientState}
use Rattle.eris_nodes.specs.declared.act.Act.{Act}
use Rattle.eris_nodes.specs.ClientRows.{HasRoom}

abbrev pub acts : Act → ClientIdentity → ClientState → ClientOut
acts (Act.Submit txn) me state = submit me state txn
acts (Act.Retry number) me state = retry me state number
acts (Act.Abort id keys) me state = abort me state id keys

pub record CanSubmit (state : ClientState) (txn : Txn) : Type 0 where
  pub room : HasRoom state
  pub ranges : TxnFits txn

pub record CanAbort (me : ClientIdentity) (id : TxnId) (keys : List Key) : Type 0 where
  pub another : (me.client.0 == id.client.0) ≡ false
  pub known : f.id.fits id ≡ true
  pub locked : f.keys.fits keys ≡ true

-- what it does is in its ranges
abbrev pub CanAct : ClientIdentity → ClientState → Act → Type 0
CanAct me state (Act.Submit txn) = CanSubmit state txn
CanAct me state (Act.Retry number) = ⊤
CanAct me state (Act.Abort id keys) = CanAbort me id keys
