-- What a client keeps and sends stays in the messages' ranges.
use Rattle.std.specs.Prelude.{◌≡◌, ◌≤◌, true, List, length, map, ⊤}
use Rattle.eris_base.specs.declared.ids.TxnId.{TxnId}
use Rattle.eris_base.specs.Each.{Each}
use Rattle.eris_txn.specs.declared.body.Body.TheVariants.{Independent, Abort}
use Rattle.eris_txn.specs.declared.key.Key.{Key}
use Rattle.eris_txn.specs.declared.plan.How.{How}
use Rattle.eris_txn.specs.declared.plan.How.TheVariants.{Put, Plus, Minus}
use Rattle.eris_txn.specs.declared.plan.Setting.{Setting}
use Rattle.eris_txn.specs.declared.txn.Txn.{Txn}
use Rattle.eris_txn.specs.Operations.{key_of}
use Rattle.eris_txn.specs.PlanValues.{PlanValue}
use Rattle.eris_codec.specs.Fields as f
use Rattle.eris_codec.specs.Ranges.{body_fits}
use Rattle.eris_in_place.specs.MessageRanges.{SendsFit}
use Rattle.eris_rules.specs.declared.transaction.Course.{Course}
use Rattle.eris_rules.specs.declared.transaction.Course.TheVariants.{Executing, Reading, Concluding, Aborting}
use Rattle.eris_rules.specs.declared.transaction.Transaction.{Transaction}
use Rattle.eris_rules.specs.ClientStates.{ClientIdentity, ClientOut, ClientState, course_of}

abbrev pub HowFits : How → Type 0
HowFits (Put value) = f.value.fits value ≡ true
HowFits (Plus more) = ⊤
HowFits (Minus less) = ⊤

abbrev pub SettingFits : Setting → Type 0
SettingFits setting = (f.key.fits setting.key ≡ true) × HowFits setting.how

-- the keys and what is set are in their ranges
pub record PlanFits (plan : PlanValue) : Type 0 where
  pub keys : f.keys.fits plan.keys ≡ true
  pub few : length plan.settings ≤ 32
  pub settings : Each SettingFits plan.settings

abbrev pub CourseFits : Course → Type 0
CourseFits (Executing ops) = body_fits (Independent ops) ≡ true
CourseFits (Reading plan) = PlanFits plan
CourseFits (Concluding plan body) = PlanFits plan × (body_fits body ≡ true)
CourseFits (Aborting keys) = body_fits (Abort keys) ≡ true

-- a transaction that can be submitted
abbrev pub TxnFits : Txn → Type 0
TxnFits txn = CourseFits (course_of txn)

pub record EntryFits (entry : TxnId × Transaction) : Type 0 where
  pub id : f.id.fits entry.0 ≡ true
  pub course : CourseFits entry.1.course

-- A CLIENT whose number, and whose transactions' ids and bodies, are in their ranges
pub record StateFits (me : ClientIdentity) (state : ClientState) : Type 0 where
  pub client : f.client.fits me.client ≡ true
  pub transactions : Each EntryFits state.transactions

pub record StepFits (me : ClientIdentity) (out : ClientOut) : Type 0 where
  pub state : StateFits me out.state
  pub sends : SendsFit out.sends

-- the keys of a transaction
abbrev pub keys_in : Txn → List Key
keys_in (Txn.Whole ops) = map key_of ops
keys_in (Txn.General plan) = plan.keys
