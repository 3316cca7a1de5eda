use Rattle.std.proofs.Common.{◌≡◌, sym, subst, arith}
use Rattle.std.proofs.lemmas.Grind.{common_steps}
use Rattle.eris_sequencer.specs.Sequencers.{first_stampings}
use Rattle.eris_sequencer.specs.StampingFacts.{AreStampings}
use Rattle.eris_sequencer.proofs.SequencerLaws.{AreStampings-first}
use Rattle.eris_sequencer.proofs.sequencers.Sequencers.new.Goals as goal

pub invariant_of-result : goal.invariant_of-result
unfolding first_stampings
invariant_of-result c =
    let made : c.push.new.self.items ≡ first_stampings c.args.config = grind (arith, common_steps) in
    λ unspent. subst (AreStampings c.args.config) (sym made) (AreStampings-first c.args.config)
