use Rattle.std.specs.Prelude.{◌≡◌, ℕ, ◌-◌, ◌≤◌, List, length, take, drop, replicate, ◌++◌, IsTrue}
use Rattle.std.proofs.Common.{sym, ◌∙◌, ap, arith}
use Rattle.std.proofs.lemmas.List.{length-take-le, take-append-drop}
use Rattle.eris_txn.specs.Names.{is_name}

-- sixteen cells of which the first few are a name and the others 0
pub record AreCells (cells : List ℕ) (len : ℕ) : Type 0 where
  pub few : len ≤ 16
  pub whole : length cells ≡ 16
  pub name : IsTrue (is_name (take len cells))
  pub rest : drop len cells ≡ replicate (16 - len) 0

-- a name gives its length and its cells back
pub len_back : (cells : List ℕ) (len : ℕ) → AreCells cells len → length (take len cells) ≡ len
len_back cells len facts = length-take-le len cells (omega arith)

pub cells_back : (cells : List ℕ) (len : ℕ) → AreCells cells len → take len cells ++ replicate (16 - length (take len cells)) 0 ≡ cells
cells_back cells len facts =
    ap (λ n. take len cells ++ replicate (16 - n) 0) (len_back cells len facts)
    ∙ ap (λ xs. take len cells ++ xs) (sym facts.rest)
    ∙ take-append-drop len cells
