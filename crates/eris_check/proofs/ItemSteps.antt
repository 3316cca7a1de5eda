-- Items, read one by one.
use Rattle.std.proofs.Common.{◌≡◌, ℕ, Option, Some, None, Result, Ok, Err, List, [], ◌∷◌, ◌++◌, sym, ap, ◌∙◌, append-nil}
use Rattle.eris_words.specs.declared.reason.Reason.{Reason}
use Rattle.eris_words.specs.declared.reason.Reason.TheVariants.{Word}
use Rattle.eris_words.specs.Forms.{◌>>=◌, said}
use Rattle.eris_words.proofs.FormLaws.{regrouped, with_front}
use Rattle.eris_check.specs.ReportFields.{items}

items_more : {X : Type 0} (value : List ℕ → Option X) (word : List ℕ) (words : List (List ℕ)) (x : X) → value word ≡ Some x →
    items value (word ∷ words) ≡ (items value words >>= λ xs. Ok (x ∷ xs))
unfolding items
items_more value word words x is = ap (λ found. said found Word >>= λ x. items value words >>= λ xs. Ok (x ∷ xs)) is

items_stop : {X : Type 0} (value : List ℕ → Option X) (word : List ℕ) (words : List (List ℕ)) → value word ≡ None → items value (word ∷ words) ≡ Err Word
unfolding items
items_stop value word words none = ap (λ found. said found Word >>= λ x. items value words >>= λ xs. Ok (x ∷ xs)) none

-- one more item
pub item_goes_on : {X : Type 0} (value : List ℕ → Option X) (front : List X) (words after : List (List ℕ)) (word : List ℕ) (x : X) (total : Result (List X) Reason) →
    words ≡ word ∷ after → value word ≡ Some x → with_front front (items value words) ≡ total → with_front (front ++ x ∷ []) (items value after) ≡ total
item_goes_on value front words after word x total next is so_far =
    sym (regrouped front x (items value after))
    ∙ ap (with_front front) (sym (ap (items value) next ∙ items_more value word after x is))
    ∙ so_far

-- a word that says none
pub item_refused : {X : Type 0} (value : List ℕ → Option X) (front : List X) (words after : List (List ℕ)) (word : List ℕ) (total : Result (List X) Reason) →
    words ≡ word ∷ after → value word ≡ None → with_front front (items value words) ≡ total → total ≡ Err Word
item_refused value front words after word total next none so_far =
    sym so_far ∙ ap (with_front front) (ap (items value) next ∙ items_stop value word after none)

-- the end of the line
pub items_end : {X : Type 0} (value : List ℕ → Option X) (front : List X) (words : List (List ℕ)) (total : Result (List X) Reason) →
    words ≡ [] → with_front front (items value words) ≡ total → total ≡ Ok front
unfolding items
items_end value front words total none so_far =
    sym so_far ∙ ap (λ (z : List (List ℕ)). with_front front (items value z)) none ∙ ap (λ xs. Ok xs) (append-nil front)

pub ruleset item_steps = (item_goes_on, item_refused, items_end)
