-- The words of a drill, read. Used where the words of the command line are read.
use Rattle.std.proofs.Common.{◌≡◌, ◌≤◌, ℕ, Bool, IsTrue, bytes_eq, IfSome, Option, Some, None, List, [], ◌∷◌, codes, length, get_or, map, ap, sym, ◌∙◌, arith, lit<, subst}
use Rattle.std.proofs.lemmas.Slice.Eq.{bytes_eq-Decides}
use Rattle.eris_words.specs.Decimal.{read_decimal}
use Rattle.eris_words.proofs.DecimalLaws.{read_decimal-decimal, read_decimal_only}
use Rattle.eris_cmd.specs.Commands.{IsDrill, IsNumberWord}

pub reads : (word : List ℕ) (number : ℕ) → read_decimal 500 word ≡ Some number → 1 ≤ number → IsNumberWord word number
reads word number read some = let only = read_decimal_only 500 word number (lit< tt) read in record { is = only.0; some = some; few = only.1 }

-- the number that a word writes, where it is one of a drill
pub number_reads : (word : List ℕ) (number : ℕ) (found : Option ℕ) → read_decimal 500 word ≡ Some number → IfSome found (λ drill. (drill ≡ number) × (1 ≤ number) × (number ≤ 500)) → IfSome found (IsNumberWord word)
number_reads word number None read some = tt
number_reads word number (Some drill) read some = subst (λ (n : ℕ). IsNumberWord word n) (sym some.0) (reads word number read some.1)

pub read_back : (word : List ℕ) (number : ℕ) → IsNumberWord word number → read_decimal 500 word ≡ Some number
read_back word number is = ap (read_decimal 500) is.is ∙ read_decimal-decimal 500 number (lit< tt) is.few

-- two words, of which the first is `drill`
two_items : {X : Type 0} (xs : List X) (x y : X) → length xs ≡ 2 → x ≡ get_or xs 0 x → y ≡ get_or xs 1 y → xs ≡ x ∷ y ∷ []
two_items [] x y two first second = absurd (omega arith)
two_items (a ∷ []) x y two first second = absurd (omega arith)
two_items (a ∷ b ∷ []) x y two first second = let one : x ≡ a = first in let other : y ≡ b = second in cc
two_items (a ∷ b ∷ c ∷ more) x y two first second = absurd (omega arith)

drill_some : (words : List (List ℕ)) (word : List ℕ) (result : Option ℕ) → words ≡ codes "drill" ∷ word ∷ [] → IfSome result (IsNumberWord word) → IfSome result (IsDrill words)
drill_some words word None are written = tt
drill_some words word (Some number) are written = record { word = word; are = are; written = written }

pub names_drill : {X : Type 0} (spelled : X → List ℕ) (xs : List X) (x y : X) (test : Bool) (word : List ℕ) (result : Option ℕ) → length xs ≡ 2 → x ≡ get_or xs 0 x → y ≡ get_or xs 1 y
    → test ≡ bytes_eq (spelled x) (codes "drill") → IsTrue test → word ≡ spelled y → IfSome result (IsNumberWord word) → IfSome result (IsDrill (map spelled xs))
names_drill spelled xs x y test word result two first second tests spells_drill same written =
    let drill : spelled x ≡ codes "drill" = (bytes_eq-Decides (spelled x) (codes "drill")).0 (sym tests ∙ spells_drill) in
    let spells : map spelled xs ≡ codes "drill" ∷ word ∷ [] = ap (map spelled) (two_items xs x y two first second) ∙ cc in
    drill_some (map spelled xs) word result spells written

-- ---- told apart
pub same_number : (words : List (List ℕ)) (n m : ℕ) → IsDrill words n → IsDrill words m → n ≡ m
same_number words n m one other =
    let a = one.are in
    let b = other.are in
    let word : one.word ≡ other.word = cc in
    let first = read_back one.word n one.written in
    let second = read_back other.word m other.written in
    cc

-- what holds of the drill that is run holds of any that the words name: it is the same
pub for_number : {words : List (List ℕ)} {n : ℕ} (P : ℕ → Type 0) → IsDrill words n → P n → (m : ℕ) → IsDrill words m → P m
for_number {words} {n} P known holds m asked = subst P (same_number words n m known asked) holds
