use Rattle.std.proofs.Common.{◌≡◌, ◌≤◌, false, ap, sym, subst, ◌∙◌}
use Rattle.eris_network.specs.Networks.{NetworkValue}
use Rattle.eris_world.specs.contracts.world.World.{the_view}
use Rattle.eris_world.specs.WorldValues.{WorldValue}
use Rattle.eris_base.specs.ConfigLimits.{ConfigValue}
use Rattle.eris_in_place.specs.MessageRanges.{SendsFit}
use Rattle.eris_sequencer.specs.Asks.{Asked, ask}
use Rattle.eris_law_event_range.proofs.AskRanges.{asks_are_in_range}
use Rattle.eris_world.proofs.Steps.{sequencer_err, sequencer_ok}
use Rattle.eris_world.proofs.world.World.sequencer_takes.Goals as goal

pub send-requires-clause-fits : goal.send-requires-clause-fits
send-requires-clause-fits c =
    let unspent : c.self.inside.spent ≡ false = ap (λ (v : WorldValue). v.spent) c.self.view_is ∙ c.requires.unspent in
    let whole = c.self.invariant unspent in
    let few = subst (λ (z : ConfigValue). z.shards ≤ 64) (sym whole.of_sequencers.of_config) c.shards-shards.ensures.fits.few_shards in
    let fit = asks_are_in_range c.self.inside.sequencers.config c.self.inside.sequencers.stampings c.args.epoch c.args.message c.newest-newest.ensures.fits few c.requires.fits in
    subst SendsFit (sym c.as_slice.ensures) (subst (λ (z : Asked). SendsFit z.sends) (sym c.in-Ok.ensures.ok) fit)

pub returns-in-Err-send-clause-err : goal.returns-in-Err-send-clause-err
returns-in-Err-send-clause-err c =
    let unspent : c.self.inside.spent ≡ false = ap (λ (v : WorldValue). v.spent) c.self.view_is ∙ c.requires.unspent in
    let whole = c.self.invariant unspent in
    sequencer_err (the_view c.self.inside) c.args.self.now c.self.view_is c.args.epoch c.args.message c.ask.new.self.stampings c.in-Ok.sends c.as_slice.result.now c.in-Err-send.fault
    (c.in-Ok.ensures.ok ∙ ap (λ z. ask z c.self.inside.sequencers.stampings c.args.epoch c.args.message) whole.of_sequencers.of_config) c.as_slice.ensures c.in-Err-send.ensures.err

pub returns-clause-ok : goal.returns-clause-ok
returns-clause-ok c =
    let unspent : c.self.inside.spent ≡ false = ap (λ (v : WorldValue). v.spent) c.self.view_is ∙ c.requires.unspent in
    let whole = c.self.invariant unspent in
    sequencer_ok (the_view c.self.inside) c.args.self.now c.self.view_is c.args.epoch c.args.message c.ask.new.self.stampings c.in-Ok.sends c.as_slice.result.now c.send.new.self.sent c.send.new.self.waiting c.requires.unspent
    (c.in-Ok.ensures.ok ∙ ap (λ z. ask z c.self.inside.sequencers.stampings c.args.epoch c.args.message) whole.of_sequencers.of_config) c.as_slice.ensures
    (ap (λ (n : NetworkValue). n.sent) c.in-Ok-send.ensures.ok) (ap (λ (n : NetworkValue). n.waiting) c.in-Ok-send.ensures.ok) c.in-Ok-send.ensures.room
