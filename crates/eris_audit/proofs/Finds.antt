use Rattle.std.proofs.Common.{◌≡◌, ℕ, suc, ◌+◌, ◌<◌, ◌≤◌, List, [], ◌∷◌, ◌++◌, length, take, drop, get_or, refl, ap, sym, subst, ◌∙◌, add-one, drop-cons, arith}
use Rattle.std.proofs.lemmas.List.{length-take-le, take-append-drop, take_all, take_more}
use Rattle.eris_base.specs.Each.{EachAfter}
use Rattle.eris_audit.specs.declared.order_line.OrderLine.{OrderLine}
use Rattle.eris_audit.specs.Lines.{Line, line_of, lines_of}
use Rattle.eris_audit.specs.Verdicts.{FailsFirst}
use Rattle.eris_audit.proofs.Places.{EachAfter-append, EachAfter-at}

-- A loop over a list that stops at the first item that lacks a property.

-- the list at one of its items
pub at_item : {X : Type 0} (xs : List X) (i : ℕ) (x : X) → i < length xs → x ≡ get_or xs i x → xs ≡ take i xs ++ x ∷ drop (i + 1) xs
at_item xs i x below is =
    sym (take-append-drop i xs)
    ∙ ap (λ rest. take i xs ++ rest) (drop-cons xs i x below ∙ ap (λ first. first ∷ drop (suc i) xs) (sym is) ∙ ap (λ n. x ∷ drop n xs) (sym (add-one i)))

pub take-next : {X : Type 0} (xs : List X) (i : ℕ) (x : X) → i < length xs → x ≡ get_or xs i x → take (i + 1) xs ≡ take i xs ++ x ∷ []
take-next xs i x below is = take_more xs i x below ∙ ap (λ last. take i xs ++ last ∷ []) (sym is)

pub each_next : {X : Type 0} (P : List X → X → Type 0) (xs : List X) (x : X) → EachAfter P [] xs → P xs x → EachAfter P [] (xs ++ x ∷ [])
each_next P xs x each holds = EachAfter-append P [] xs (x ∷ []) each (holds, tt)

-- each item up to this one has the property
pub holds_next : {X : Type 0} (P : List X → X → Type 0) (xs : List X) (i : ℕ) (x : X) → i < length xs → x ≡ get_or xs i x
    → EachAfter P [] (take i xs) → P (take i xs) x → EachAfter P [] (take (i + 1) xs)
holds_next P xs i x below is each holds = subst (EachAfter P []) (sym (take-next xs i x below is)) (each_next P (take i xs) x each holds)

-- each item before this one has it, and this one lacks it
pub fails_here : {X : Type 0} (P : List X → X → Type 0) (xs : List X) (i : ℕ) (x : X) → i < length xs → x ≡ get_or xs i x
    → EachAfter P [] (take i xs) → (P (take i xs) x → ⊥) → FailsFirst P xs (i + 1)
fails_here P xs i x below is each lacks = record {
  front = take i xs;
  item = x;
  back = drop (i + 1) xs;
  split = at_item xs i x below is;
  holds = each;
  fails = lacks;
  counted = ap (λ n. n + 1) (sym (length-take-le i xs (omega arith)));
}

-- each item has it
pub holds_all : {X : Type 0} (P : List X → X → Type 0) (xs : List X) (i : ℕ) → length xs ≤ i → EachAfter P [] (take i xs) → EachAfter P [] xs
holds_all P xs i past each = subst (EachAfter P []) (take_all i xs past) each

-- the lines of an order

lines_of-append : (some more : List OrderLine) → lines_of (some ++ more) ≡ lines_of some ++ lines_of more
lines_of-append [] more = refl
lines_of-append (line ∷ some) more = ap (λ lines. line_of line ∷ lines) (lines_of-append some more)

pub length-lines_of : (order : List OrderLine) → length (lines_of order) ≡ length order
length-lines_of [] = refl
length-lines_of (line ∷ order) = ap (λ n. suc n) (length-lines_of order)

-- the lines up to this one
pub lines-next : (order : List OrderLine) (i : ℕ) (line : OrderLine) (lines : List Line) → i < length order → line ≡ get_or order i line
    → lines ≡ lines_of (take i order) → lines ++ line_of line ∷ [] ≡ lines_of (take (i + 1) order)
lines-next order i line lines below is front =
    ap (λ some. some ++ line_of line ∷ []) front
    ∙ sym (lines_of-append (take i order) (line ∷ []))
    ∙ ap lines_of (sym (take-next order i line below is))

-- the lines before this one have the property, and this one lacks it
pub line_fails : (P : List Line → Line → Type 0) (order : List OrderLine) (i : ℕ) (line : OrderLine) (lines : List Line) → i < length order → line ≡ get_or order i line
    → lines ≡ lines_of (take i order) → EachAfter P [] lines → (P lines (line_of line) → ⊥) → FailsFirst P (lines_of order) (i + 1)
line_fails P order i line lines below is front each lacks = record {
  front = lines;
  item = line_of line;
  back = lines_of (drop (i + 1) order);
  split =
      ap lines_of (at_item order i line below is)
      ∙ lines_of-append (take i order) (line ∷ drop (i + 1) order)
      ∙ ap (λ some. some ++ line_of line ∷ lines_of (drop (i + 1) order)) (sym front);
  holds = each;
  fails = lacks;
  counted = ap (λ n. n + 1) (sym (ap length front ∙ length-lines_of (take i order) ∙ length-take-le i order (omega arith)));
}

-- a property of each line, at this one
pub line_holds : (P : List Line → Line → Type 0) (order : List OrderLine) (i : ℕ) (line : OrderLine) → i < length order → line ≡ get_or order i line
    → EachAfter P [] (lines_of order) → P (lines_of (take i order)) (line_of line)
line_holds P order i line below is each =
    EachAfter-at P [] (lines_of order) each (lines_of (take i order)) (lines_of (drop (i + 1) order)) (line_of line)
    (ap lines_of (at_item order i line below is) ∙ lines_of-append (take i order) (line ∷ drop (i + 1) order))
