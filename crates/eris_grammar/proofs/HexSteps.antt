-- Bytes as pairs of digits, read pair by pair.
use Rattle.std.proofs.Common.{◌≡◌, ℕ, ◌<◌, Option, Some, None, option_map, List, [], ◌∷◌, ◌++◌, length, ap, sym, ◌∙◌, refl, arith, append_assoc, append-nil}
use Rattle.eris_grammar.specs.Fields.{byte_of, hex_value, onto, read_pairs}

regrouped : (bytes : List ℕ) (byte : ℕ) (more : Option (List ℕ)) →
    option_map (λ rest. bytes ++ rest) (onto (Some byte) more) ≡ option_map (λ rest. (bytes ++ byte ∷ []) ++ rest) more
regrouped bytes byte (Some rest) = ap (λ all. Some all) (sym (append_assoc bytes (byte ∷ []) rest))
regrouped bytes byte None = refl

-- one pair more
pub pair_read : (digits after bytes : List ℕ) (high low byte : ℕ) (total : Option (List ℕ)) → digits ≡ high ∷ low ∷ after →
    Some byte ≡ byte_of (hex_value high) (hex_value low) → option_map (λ rest. bytes ++ rest) (read_pairs digits) ≡ total →
    option_map (λ rest. (bytes ++ byte ∷ []) ++ rest) (read_pairs after) ≡ total
pair_read digits after bytes high low byte total is value so_far =
    sym (regrouped bytes byte (read_pairs after))
    ∙ ap (λ first. option_map (λ rest. bytes ++ rest) (onto first (read_pairs after))) value
    ∙ ap (λ text. option_map (λ rest. bytes ++ rest) (read_pairs text)) (sym is)
    ∙ so_far

-- a pair that is none
pub pair_refused : (digits after bytes : List ℕ) (high low : ℕ) (total : Option (List ℕ)) → digits ≡ high ∷ low ∷ after →
    None ≡ byte_of (hex_value high) (hex_value low) → option_map (λ rest. bytes ++ rest) (read_pairs digits) ≡ total → total ≡ None
pair_refused digits after bytes high low total is value so_far =
    sym so_far
    ∙ ap (λ text. option_map (λ rest. bytes ++ rest) (read_pairs text)) is
    ∙ ap (λ first. option_map (λ rest. bytes ++ rest) (onto first (read_pairs after))) (sym value)

-- a digit that is left alone
pub digit_refused : (digits bytes : List ℕ) (total : Option (List ℕ)) → 0 < length digits → length digits < 2 →
    option_map (λ rest. bytes ++ rest) (read_pairs digits) ≡ total → total ≡ None
digit_refused [] bytes total some few so_far = absurd (omega arith)
digit_refused (digit ∷ []) bytes total some few so_far = sym so_far
digit_refused (high ∷ low ∷ after) bytes total some few so_far = absurd (omega arith)

pub all_read : (digits bytes : List ℕ) (total : Option (List ℕ)) → length digits ≡ 0 →
    option_map (λ rest. bytes ++ rest) (read_pairs digits) ≡ total → total ≡ Some bytes
all_read [] bytes total none so_far = sym so_far ∙ ap (λ all. Some all) (append-nil bytes)
all_read (digit ∷ digits) bytes total none so_far = absurd (omega arith)

pub ruleset pair_steps = (pair_read, pair_refused, digit_refused, all_read)
