-- The cells that a name is written into.
use Rattle.std.proofs.Common.{◌≡◌, ℕ, ◌<◌, ◌≤◌, ◌&&◌, true, List, length, drop, replicate, ◌++◌, IsTrue, nat_lt, nat_le, sym, ◌∙◌, arith, length-append, length-drop, subst}
use Rattle.std.proofs.Math.Seq.{take-append_seam, drop-append_seam}
use Rattle.std.proofs.lemmas.List.{drop-replicate}
use Rattle.std.proofs.lemmas.Bool.{and_from, lt-ltb, le-leb}
use Rattle.std.specs.List.{list_all}
use Rattle.eris_txn.specs.Names.{is_name, is_name_byte}
use Rattle.eris_txn.specs.NameCells.{AreCells}

is_name_from : (bytes : List ℕ) → 0 < length bytes → length bytes ≤ 16 → list_all is_name_byte bytes ≡ true → IsTrue (is_name bytes)
is_name_from bytes some few each =
    and_from (nat_lt 0 (length bytes) && nat_le (length bytes) 16) (list_all is_name_byte bytes)
    (and_from (nat_lt 0 (length bytes)) (nat_le (length bytes) 16) (lt-ltb 0 (length bytes) some) (le-leb (length bytes) 16 few))
    each

-- the bytes of a name, and zeros behind them
pub filled : (bytes : List ℕ) → 0 < length bytes → length bytes ≤ 16 → list_all is_name_byte bytes ≡ true → AreCells (bytes ++ drop (length bytes) (replicate 16 0)) (length bytes)
filled bytes some few each = record {
  few = few;
  whole =
      let zeros : List ℕ = replicate 16 0 in
      omega (arith, length-append bytes (drop (length bytes) zeros), length-drop (length bytes) zeros);
  name = subst (λ xs. IsTrue (is_name xs)) (sym (take-append_seam bytes (drop (length bytes) (replicate 16 0)))) (is_name_from bytes some few each);
  rest = drop-append_seam bytes (drop (length bytes) (replicate 16 0)) ∙ drop-replicate {X = ℕ} (length bytes) 16 0;
}
