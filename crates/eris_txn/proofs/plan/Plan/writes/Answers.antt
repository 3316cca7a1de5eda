use Rattle.std.proofs.Common.{◌≡◌, ◌≤◌, false, Option, List, length, MatchOption, IfSome, sym, subst, ap, ◌∙◌}
use Rattle.eris_txn.specs.declared.plan.Write.{Write}
use Rattle.eris_txn.specs.Plans.{value_in, guards_hold, settled, written, writes_of}
use Rattle.eris_txn.proofs.PlanLaws.{writes_of-settles}
use Rattle.eris_txn.proofs.PlanSizes.{writes_of-few}
use Rattle.eris_txn.proofs.plan.Plan.writes.Goals as goal

pub returns-clause-few : goal.returns-clause-few
returns-clause-few c =
    let plan = c.args.self.now in
    let P : Option (List Write) → Type 0 = λ found. IfSome found (λ writes. length writes ≤ 32) in
    subst P (sym c.in_ok-found.ensures.exact) (writes_of-few plan (value_in plan.keys c.args.values.now) c.found_writes.ensures.fits)

pub returns-clause-settles : goal.returns-clause-settles
returns-clause-settles c = λ have same.
    let plan = c.args.self.now in
    let P : Option (List Write) → Type 0 = λ found. MatchOption found (guards_hold plan.guards have ≡ false) (λ writes. written writes have ≡ settled plan.settings have) in
    subst P (sym (c.in_ok-found.ensures.exact ∙ ap (λ values. writes_of plan (value_in plan.keys values)) same)) (writes_of-settles plan have c.found_writes.ensures.fits)
