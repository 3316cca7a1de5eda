use Rattle.std.proofs.Common.{rules, ap, ◌∙◌}
use Rattle.std.proofs.lemmas.Fn.{filter_same}
use Rattle.eris_locks.specs.States.{no_longer_holding}
use Rattle.eris_plain_store.proofs.packets.no_longer_holding.Goals as goal

pub returns : goal.returns
returns c =
    c.from_vec.ensures
    ∙ (filter_same _ _ _ (λ x b f' k. search rules) _ _ c.retain.ensures.filtered ∙ ap (no_longer_holding c.args.id) c.into_vec-items.ensures)
