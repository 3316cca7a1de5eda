use Rattle.std.proofs.Common.{◌≡◌, sym, subst, rules}
use Rattle.eris_log.specs.PartValues.{PartValue}
use Rattle.eris_log.specs.Parts.{merge, IsUnion}
use Rattle.eris_log.specs.Laws.Parts.{IsUnion-merge}
use Rattle.eris_log.proofs.part.PartMerge.merge.Goals as goal

pub returns-clause-union : goal.returns-clause-union
unfolding merge
returns-clause-union c =
    let e : _ ≡ merge c.args.self.now c.args.other.now = search rules in
    subst (λ (made : PartValue). IsUnion c.args.self.now c.args.other.now made) (sym e) (IsUnion-merge c.args.self.now c.args.other.now)
