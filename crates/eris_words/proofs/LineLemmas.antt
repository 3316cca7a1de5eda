use Rattle.std.proofs.Common.{◌≡◌, ℕ, List, [], ◌∷◌, ◌++◌, ap, sym, append-nil, append_assoc}
use Rattle.std.specs.List.{join_with_byte}
use Rattle.std.proofs.lemmas.List.Concat.{flat_map-append}
use Rattle.eris_words.specs.Words.{spaced}

-- a line's words are its first one and the others, a space before each
pub joined : (word : List ℕ) (words : List (List ℕ)) → join_with_byte 32 (word ∷ words) ≡ word ++ spaced words
joined word [] = sym (append-nil word)
joined word (next ∷ words) = ap (λ rest. word ++ 32 ∷ rest) (joined next words)

pub ruleset joining = (joined, append_assoc)

pub ruleset lines_joined = (flat_map-append, append_assoc)
