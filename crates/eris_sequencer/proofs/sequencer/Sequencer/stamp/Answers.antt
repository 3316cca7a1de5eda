use Rattle.std.proofs.Common.{◌≡◌, take, arith}
use Rattle.std.proofs.lemmas.Grind.{common_steps}
use Rattle.eris_txn.specs.Bodies.{participants_of}
use Rattle.eris_sequencer.specs.Stamps.{next_places, with_numbers}
use Rattle.eris_sequencer.proofs.StampLaws.{take-with_numbers, AreRaised-after}
use Rattle.eris_sequencer.proofs.sequencer.Sequencer.stamp.Goals as goal

pub returns-clause-raised : goal.returns-clause-raised
returns-clause-raised c =
    let set : take c.self.inside.shards c.set_all.new.counters ≡ with_numbers c.args.self.now.counters (next_places c.args.self.now.counters (participants_of c.args.body)) = grind (arith, common_steps, take-with_numbers) in
    AreRaised-after _ _ _ c.requires.shards set
