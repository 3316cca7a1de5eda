use Rattle.std.proofs.Common.{arith, subst}
use Rattle.eris_law_epoch.specs.Stamped.{IsStampingOf}
use Rattle.eris_law_epoch.proofs.StampList.{stamps}
use Rattle.eris_law_agreement.specs.EpochRuns.{system_of}
use Rattle.eris_law_agreement.proofs.Reduction.{is_epoch_run, own_events}
use Rattle.eris_law_agreement.proofs.law.stamps_are_numbered.Goals as goal

pub returns : goal.returns
returns c = record {
  numbered = λ config events k epoch.
      subst (IsStampingOf (system_of config events k epoch)) ((is_epoch_run config events k epoch).alone k (omega arith)).stamping
      (stamps (system_of config events k epoch) (own_events config events k epoch) k);
}
