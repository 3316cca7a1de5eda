use Rattle.std.proofs.Common.{List, slice_get, ap, sym, ◌∙◌}
use Rattle.eris_txn.specs.declared.answer.Answer.{Answer}
use Rattle.eris_txn.specs.Keys.{no_values}
use Rattle.eris_audit.specs.Histories.{txn_of}
use Rattle.eris_audit.proofs.SerialSteps.{found-item, no_place, result-place}
use Rattle.eris_audit.proofs.run.find_result.Goals as goal

pub returns-in-Some : goal.returns-in-Some
returns-in-Some c =
    found-item c.args.results.now c.in-Some.place c.get.result c.get.ensures.lookup.0 c.get.ensures.lookup.1
    ∙ ap (λ (results : List Answer). slice_get results c.in-Some.place) c.requires
    ∙ result-place (txn_of c.args.history.now) c.args.table.now no_values c.args.id.now c.in-Some.place (sym c.place_of.ensures.place ∙ c.in-Some.is)

pub returns-in-None : goal.returns-in-None
returns-in-None c = sym (no_place (txn_of c.args.history.now) c.args.table.now no_values c.args.id.now (sym c.place_of.ensures.place ∙ c.in-None.is))
