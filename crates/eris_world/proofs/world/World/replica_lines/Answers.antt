use Rattle.std.proofs.Common.{◌≡◌, false, ap, sym, subst, ◌∙◌}
use Rattle.std.specs.Prelude.{IfOk}
use Rattle.eris_rules.specs.Reports.{all_lines}
use Rattle.eris_world.specs.WorldValues.{WorldValue}
use Rattle.eris_world.proofs.world.World.replica_lines.Goals as goal

pub lines-requires : goal.lines-requires
lines-requires c =
    let unspent : c.self.inside.spent ≡ false = ap (λ (v : WorldValue). v.spent) c.self.view_is ∙ c.requires in
    (c.self.invariant unspent).of_replicas.unspent

pub returns : goal.returns
returns c =
    subst (λ (v : WorldValue). IfOk c.lines.result (λ lines. lines ≡ all_lines c.args.self.now.state 0 v.state.replicas)) c.self.view_is
    (c.lines.ensures c.args.self.now.state (sym (c.as_slice.ensures ∙ ap (λ (v : WorldValue). v.state.crashed) c.self.view_is)))
