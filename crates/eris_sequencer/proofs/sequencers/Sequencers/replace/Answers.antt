use Rattle.std.proofs.Common.{◌≡◌, ◌<◌, ◌-◌, ◌^◌, false, sym, subst, arith}
use Rattle.std.proofs.lemmas.Grind.{common_steps}
use Rattle.eris_sequencer.specs.Sequencers.{newest_of, replace}
use Rattle.eris_sequencer.specs.StampingFacts.{AreStampings}
use Rattle.eris_sequencer.proofs.SequencerLaws.{AreStampings-replaced}
use Rattle.eris_sequencer.proofs.sequencers.Sequencers.replace.Goals as goal

pub invariant_of-self-2 : goal.invariant_of-self-2
unfolding replace
invariant_of-self-2 c =
    let unspent : c.self.inside.spent ≡ false = grind (arith, common_steps) in
    let made : c.push.new.self.items ≡ replace c.self.inside.config c.self.inside.stampings.items = grind (arith, common_steps) in
    let more : (newest_of c.self.inside.stampings.items).0 < 2 ^ 32 - 1 = grind (arith, common_steps) in
    λ done. subst (AreStampings c.self.inside.config) (sym made) (AreStampings-replaced c.self.inside.config c.self.inside.stampings.items (c.self.invariant unspent) more)
