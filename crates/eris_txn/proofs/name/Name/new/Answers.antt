use Rattle.std.proofs.Common.{arith, subst, sym, ◌++◌, length, drop, replicate, ℕ, List, ◌∙◌}
use Rattle.eris_txn.specs.NameCells.{AreCells}
use Rattle.eris_txn.proofs.NameParts.{filled}
use Rattle.eris_txn.proofs.name.Name.new.Goals as goal

pub invariant_of-result : goal.invariant_of-result
invariant_of-result c =
    let bytes = c.args.bytes.now in
    let P : List ℕ → Type 0 = λ xs. AreCells (xs ++ drop (length bytes) (replicate 16 0)) (length bytes) in
    subst P (sym c.copy_from_slice.ensures.after) (filled bytes (omega arith) (omega arith) (sym c.are_name_bytes.ensures ∙ c.if-not-are_name_bytes.false))
