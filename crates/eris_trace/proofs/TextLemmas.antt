-- Words of a line, one part after another.
use Rattle.std.proofs.Common.{◌≡◌, ℕ, List, [], ◌∷◌, ◌++◌, Result, Ok, Err, OnOk, ap, ◌∙◌, append_assoc}
use Rattle.std.proofs.lemmas.List.Concat.{flat_map-append}
use Rattle.eris_words.specs.Words.{spaced}
use Rattle.eris_words.proofs.LineLemmas.{joined}

-- a line's words, a space before each but the first, in parts
pub ruleset told = (joined, flat_map-append, append_assoc)

-- a word, and then others
pub word_told : {T E : Type 0} (result : Result T E) (start next last word : List ℕ) (words : List (List ℕ)) → next ≡ start ++ 32 ∷ word
    → OnOk result (last ≡ next ++ spaced words) → OnOk result (last ≡ start ++ spaced (word ∷ words))
word_told (Ok done) start next last word words first rest = rest ∙ ap (λ list. list ++ spaced words) first ∙ append_assoc start (32 ∷ word) (spaced words)
word_told (Err error) start next last word words first rest = rest

-- three parts, and what ends the line
regrouped : (start some others word end : List ℕ) → (((start ++ some) ++ others) ++ word) ++ end ≡ start ++ (((some ++ others) ++ word) ++ end)
regrouped start some others word end = simp append_assoc

pub parts_told : {T E : Type 0} (result : Result T E) (start first second third last some others word : List ℕ) → first ≡ start ++ some → second ≡ first ++ others
    → third ≡ second ++ word → OnOk result (last ≡ third ++ 10 ∷ []) → OnOk result (last ≡ start ++ (((some ++ others) ++ word) ++ 10 ∷ []))
parts_told (Ok done) start first second third last some others word one two three four =
    four ∙ ap (λ list. list ++ 10 ∷ []) (three ∙ ap (λ list. list ++ word) (two ∙ ap (λ list. list ++ others) one)) ∙ regrouped start some others word (10 ∷ [])
parts_told (Err error) start first second third last some others word one two three four = four
