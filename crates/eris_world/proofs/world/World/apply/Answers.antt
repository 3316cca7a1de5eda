use Rattle.std.proofs.Common.{◌≡◌, false, ap, sym, subst, ◌∙◌}
use Rattle.eris_world.specs.contracts.world.World.{the_view}
use Rattle.eris_world.specs.WorldValues.{WorldValue, IsCause}
use Rattle.std.proofs.Common.{Bool}
use Rattle.eris_event.specs.declared.refusal.Refusal.{Refusal}
use Rattle.eris_world.proofs.Causes.{happened, met_is_cause, told_is_cause}
use Rattle.eris_world.proofs.world.World.apply.Goals as goal

pub returns-in-Err : goal.returns-in-Err
returns-in-Err c =
    let unspent : c.self.inside.spent ≡ false = ap (λ (v : WorldValue). v.spent) c.self.view_is ∙ c.requires.unspent in
    record {
      ok = tt;
      stays = tt;
      refused = told_is_cause c.args.self.now.config c.args.self.now.state c.args.event c.in-Err.refusal c.in-Err.ensures;
      unchanged = λ e. ap (λ (b : Bool). record (the_view c.self.inside) { spent = b }) (c.is_end-self-inside.ensures ∙ e ∙ sym unspent) ∙ c.self.view_is;
      spent = λ e. c.is_end-self-inside.ensures ∙ e;
    }

pub returns-in-Ok-happen-clause-ok : goal.returns-in-Ok-happen-clause-ok
returns-in-Ok-happen-clause-ok c = happened c.args.self.now c.happen.new.self c.args.event c.in-Ok.ensures c.in-Ok-happen.ensures.ok

pub returns-in-Err-happen-clause-refused : goal.returns-in-Err-happen-clause-refused
returns-in-Err-happen-clause-refused c =
    subst (λ (z : Refusal). IsCause c.args.self.now.config c.args.self.now.state c.args.event z) (sym c.refusal_of.ensures)
    (met_is_cause c.args.self.now.config c.args.self.now.state c.args.event c.in-Err-happen.fault c.in-Ok.ensures c.in-Err-happen.ensures.err)
