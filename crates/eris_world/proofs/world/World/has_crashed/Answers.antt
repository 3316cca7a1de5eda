use Rattle.std.proofs.Common.{ap, ◌∙◌}
use Rattle.eris_world.specs.contracts.world.World.{the_view}
use Rattle.eris_world.specs.WorldValues.{WorldValue}
use Rattle.eris_rules.specs.Worlds.{has_crashed}
use Rattle.eris_world.proofs.Steps.{crashed_in}
use Rattle.eris_world.proofs.world.World.has_crashed.Goals as goal

pub returns : goal.returns
returns c =
    c.has_crashed.ensures ∙ crashed_in (the_view c.self.inside).state c.as_slice.result.now c.args.shard c.args.replica c.as_slice.ensures
    ∙ ap (λ (v : WorldValue). has_crashed v.state c.args.shard c.args.replica) c.self.view_is
