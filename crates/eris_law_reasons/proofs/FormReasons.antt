-- A form refuses words for a reason of the grammar where each word of it does.
use Rattle.std.proofs.Common.{ℕ, zero, suc, Bool, true, false, cond, bytes_eq, codes, IfErr, IfSome, Option, Some, None, Result, Ok, Err, List, [], ◌∷◌, length}
use Rattle.std.specs.List.{AllByRecursion, find}
use Rattle.eris_grammar.specs.FixedWords.{of_table, spelled_so}
use Rattle.eris_words.specs.declared.reason.Reason.{Reason}
use Rattle.eris_words.specs.declared.reason.Reason.TheVariants.{Word}
use Rattle.eris_words.specs.Forms.{Form, ◌>>=◌, next_word, said, pair, arm, ended, whole, expect, next_item, more_items, more}
use Rattle.eris_law_reasons.specs.Reasons.{IsOfGrammar}

-- what is read, or a reason of the grammar
abbrev pub IsByGrammar : {X : Type 0} → Result X Reason → Type 0
IsByGrammar read = IfErr read IsOfGrammar

-- a form that reads words so, whatever they are
abbrev pub ReadsByGrammar : {X : Type 0} → Form X → Type 0
ReadsByGrammar c = (words : List (List ℕ)) → IsByGrammar (c.read words)

-- ---- one after the other
pub bound : {A B : Type 0} (r : Result A Reason) (next : A → Result B Reason) → IsByGrammar r → ((x : A) → IsByGrammar (next x)) → IsByGrammar (r >>= next)
bound (Ok x) next here later = later x
bound (Err reason) next here later = here

pub either : {A : Type 0} (test : Bool) (first other : Result A Reason) → IsByGrammar first → IsByGrammar other → IsByGrammar (cond test first other)
either true first other here there = here
either false first other here there = there

-- ---- words
next_refused : (words : List (List ℕ)) → IsByGrammar (next_word words)
next_refused [] = tt
next_refused (word ∷ words) = tt

pub said_refused : {X : Type 0} (value : Option X) (reason : Reason) → IsOfGrammar reason → IsByGrammar (said value reason)
said_refused (Some x) reason of_grammar = tt
said_refused None reason of_grammar = of_grammar

pub one_word_refused : {X : Type 0} (reason : Reason) (value : List ℕ → Option X) → IsOfGrammar reason → (words : List (List ℕ))
    → IsByGrammar {X = X × List (List ℕ)} (next_word words >>= λ w. said (value w.0) reason >>= λ x. Ok (x, w.1))
one_word_refused reason value of_grammar words =
    bound (next_word words) (λ w. said (value w.0) reason >>= λ x. Ok (x, w.1)) (next_refused words)
    (λ w. bound (said (value w.0) reason) (λ x. Ok (x, w.1)) (said_refused (value w.0) reason of_grammar) (λ x. tt))

pub expect_refused : (text : List ℕ) (words : List (List ℕ)) → IsByGrammar (expect text words)
expect_refused text words =
    bound (next_word words) (λ w. cond (bytes_eq w.0 text) (Ok w.1) (Err Word)) (next_refused words) (λ w. either (bytes_eq w.0 text) (Ok w.1) (Err Word) tt tt)

-- ---- forms of forms
pub pair_refused : {X Y : Type 0} (c : Form X) (d : Form Y) → ReadsByGrammar c → ReadsByGrammar d → ReadsByGrammar (pair c d)
pair_refused c d first second words =
    bound (c.read words) (λ x. d.read x.1 >>= λ y. Ok ((x.0, y.0), y.1)) (first words)
    (λ x. bound (d.read x.1) (λ y. Ok ((x.0, y.0), y.1)) (second x.1) (λ y. tt))

pub arm_refused : {A X : Type 0} (to : A → X) (c : Form A) → ReadsByGrammar c → (words : List (List ℕ)) → IsByGrammar (arm to c words)
arm_refused to c reads words = bound (c.read words) (λ a. Ok (to a.0, a.1)) (reads words) (λ a. tt)

pub ended_refused : {X : Type 0} (read : X × List (List ℕ)) → IsByGrammar (ended read)
ended_refused (x, []) = tt
ended_refused (x, word ∷ words) = tt

pub whole_refused : {X : Type 0} (c : Form X) → ReadsByGrammar c → (words : List (List ℕ)) → IsByGrammar (whole c words)
whole_refused c reads words = bound (c.read words) ended (reads words) ended_refused

-- ---- more of a kind
next_item_refused : {X : Type 0} (item : Form X) → ReadsByGrammar item → (words : List (List ℕ)) → IsByGrammar (next_item item words)
next_item_refused item reads words = bound (expect (codes ";") words) item.read (expect_refused (codes ";") words) reads

items_refused : {X : Type 0} (item : Form X) → ReadsByGrammar item → (most : ℕ) (words : List (List ℕ)) → IsByGrammar (more_items item most words)
items_refused item reads most [] = tt
items_refused item reads zero (word ∷ words) = tt
items_refused item reads (suc most) (word ∷ words) =
    bound (next_item item (word ∷ words)) (λ x. more_items item most x.1 >>= λ xs. Ok (x.0 ∷ xs)) (next_item_refused item reads (word ∷ words))
    (λ x. bound (more_items item most x.1) (λ xs. Ok (x.0 ∷ xs)) (items_refused item reads most x.1) (λ xs. tt))

pub more_refused : {X : Type 0} (item : Form X) → ReadsByGrammar item → (words : List (List ℕ)) → IsByGrammar (more item words)
more_refused item reads words = items_refused item reads (length words) words

-- ---- a word of a table, and what stands behind it. What holds of each entry of a table holds of the one that is found.
found_all : {T : Type 0} (P : T → Type 0) (test : T → Bool) (all : List T) → AllByRecursion P all → IfSome (find test all) P
found_all P test [] each = tt
found_all P test (known ∷ all) each = by_test (test known) (found_all P test all each.1)
  where
    by_test : (here : Bool) → IfSome (find test all) P → IfSome (cond here (Some known) (find test all)) P
    by_test true rest = each.0
    by_test false rest = rest

pub led_refused : {T X : Type 0} (text : T → List ℕ) (all : List T) (behind : T → List (List ℕ) → Result X Reason)
    → AllByRecursion (λ known. (words : List (List ℕ)) → IsByGrammar (behind known words)) all → (words : List (List ℕ))
    → IsByGrammar ((of_table text all).read words >>= λ asked. behind asked.0 asked.1)
led_refused text all behind each [] = tt
led_refused {T = T} text all behind each (word ∷ words) =
    by_entry (spelled_so text all word) (found_all (λ known. (words : List (List ℕ)) → IsByGrammar (behind known words)) (λ known. bytes_eq (text known) word) all each)
  where
    by_entry : (found : Option T) → IfSome found (λ known. (words : List (List ℕ)) → IsByGrammar (behind known words))
        → IsByGrammar (◌>>=◌ {A = T × List (List ℕ)} (said found Word >>= λ known. Ok (known, words)) (λ asked. behind asked.0 asked.1))
    by_entry (Some known) reads = reads words
    by_entry None reads = tt
