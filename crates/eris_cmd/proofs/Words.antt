-- A list of one word, by the bytes of that word: the words of the command line are told apart by this.
use Rattle.std.proofs.Common.{◌≡◌, ℕ, Bool, true, false, IsTrue, bytes_eq, List, [], ◌∷◌, length, get_or, ap, sym, ◌∙◌, arith, map}
use Rattle.std.proofs.lemmas.Slice.Eq.{bytes_eq-Decides}

one_item : {X : Type 0} (xs : List X) (x : X) → length xs ≡ 1 → x ≡ get_or xs 0 x → xs ≡ x ∷ []
one_item [] x one first = absurd (omega arith)
one_item (y ∷ []) x one first = ap (λ z. z ∷ []) (sym first)
one_item (y ∷ z ∷ more) x one first = absurd (omega arith)

-- the words of a command line that has one
pub alone : {X : Type 0} (spelled : X → List ℕ) (xs : List X) (x : X) (word : List ℕ) → length xs ≡ 1 → x ≡ get_or xs 0 x → word ≡ spelled x → map spelled xs ≡ word ∷ []
alone spelled xs x word one first is = ap (map spelled) (one_item xs x one first) ∙ ap (λ text. text ∷ []) (sym is)

same_head : (bytes word : List ℕ) → bytes ∷ [] ≡ word ∷ [] → bytes ≡ word
same_head bytes word alone = cc

-- a word is another where a test says so
pub is_word : (word text : List ℕ) (test : Bool) → test ≡ bytes_eq word text → IsTrue test → word ≡ text
is_word word text test tests holds = (bytes_eq-Decides word text).0 (sym tests ∙ holds)

pub no_word : (word text : List ℕ) (test : Bool) → test ≡ bytes_eq word text → test ≡ false → word ∷ [] ≡ text ∷ [] → ⊥
no_word word text test tests fails alone = let holds : bytes_eq word text ≡ true = (bytes_eq-Decides word text).1 (same_head word text alone) in cc
