use Rattle.std.specs.Prelude.{ℕ, List, ◌∷◌, [], ◌++◌, codes}
use Rattle.std.specs.List.{flat_map}
use Rattle.eris_txn.specs.declared.op.Op.{Op}
use Rattle.eris_txn.specs.declared.op.Op.TheVariants.{Get, Put, Del, Add, Cas}
use Rattle.eris_words.specs.Decimal.{decimal}
use Rattle.eris_words.specs.Words.{key_word}

-- an operation
abbrev pub op_words : Op → List (List ℕ)
op_words (Get key) = codes "get" ∷ key_word key ∷ []
op_words (Put key value) = codes "put" ∷ key_word key ∷ decimal value ∷ []
op_words (Del key) = codes "del" ∷ key_word key ∷ []
op_words (Add key value) = codes "add" ∷ key_word key ∷ decimal value ∷ []
op_words (Cas key expected value) = codes "cas" ∷ key_word key ∷ decimal expected ∷ decimal value ∷ []

-- an operation that follows another
abbrev pub next_op_words : Op → List (List ℕ)
next_op_words op = codes ";" ∷ op_words op

-- operations, a `;` between each two
abbrev pub ops_words : List Op → List (List ℕ)
ops_words [] = []
ops_words (op ∷ ops) = op_words op ++ flat_map next_op_words ops
