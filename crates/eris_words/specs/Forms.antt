-- A form says how a value is written in the words of a line, how it is read from them, and which values are written so. Words are
-- read from the left, and the first one that doesn't fit tells why the line is refused.
use Rattle.std.specs.Prelude.{◌≡◌, ⊤, ℕ, zero, suc, Bool, false, ◌&&◌, Option, Some, None, Result, Ok, Err, List, [], ◌∷◌, ◌++◌, length, bytes_eq, codes, if◌then◌else◌}
use Rattle.eris_words.specs.declared.line_fault.LineFault.{LineFault}
use Rattle.eris_words.specs.declared.line_fault.LineFault.TheVariants as fault
use Rattle.eris_words.specs.declared.reason.Reason.{Reason}
use Rattle.eris_words.specs.declared.reason.Reason.TheVariants.{End, Word}

-- what is read, with the words behind it; or why a word is refused
abbrev pub Read : Type 0 → Type 0
Read X = Result (X × List (List ℕ)) Reason

-- what is read goes on to what reads the rest
infixl 10 ◌>>=◌
abbrev pub ◌>>=◌ : {A B : Type 0} → Result A Reason → (A → Result B Reason) → Result B Reason
(Ok x) >>= next = next x
(Err reason) >>= next = Err reason

pub record Form (X : Type 0) : Type 0 where
  pub spell : X → List (List ℕ)
  pub read : List (List ℕ) → Read X
  pub fits : X → Bool

-- the next word; a line may end too early
abbrev pub next_word : List (List ℕ) → Read (List ℕ)
next_word [] = Err End
next_word (word ∷ words) = Ok (word, words)

-- what a word says; else it is refused for this reason
abbrev pub said : {X : Type 0} → Option X → Reason → Result X Reason
said (Some x) reason = Ok x
said None reason = Err reason

-- one word
abbrev pub one_word : {X : Type 0} → Reason → (X → List ℕ) → (List ℕ → Option X) → (X → Bool) → Form X
one_word reason spell value fits = record {
  spell = λ x. spell x ∷ [];
  read = λ words. next_word words >>= λ w. said (value w.0) reason >>= λ x. Ok (x, w.1);
  fits = λ x. fits x;
}

-- one after the other
abbrev pub pair : {X Y : Type 0} → Form X → Form Y → Form (X × Y)
pair c d = record {
  spell = λ p. c.spell p.0 ++ d.spell p.1;
  read = λ words. c.read words >>= λ x. d.read x.1 >>= λ y. Ok ((x.0, y.0), y.1);
  fits = λ p. c.fits p.0 && d.fits p.1;
}

-- the same under another name
abbrev pub named : {X Y : Type 0} → (X → Y) → (Y → X) → Form X → Form Y
named to from c = record {
  spell = λ y. c.spell (from y);
  read = λ words. c.read words >>= λ x. Ok (to x.0, x.1);
  fits = λ y. c.fits (from y);
}

-- what a form reads, made into something else
abbrev pub arm : {A X : Type 0} → (A → X) → Form A → List (List ℕ) → Read X
arm to c words = c.read words >>= λ a. Ok (to a.0, a.1)

-- a word of a table, and behind it what that word asks for
abbrev pub led : {T X : Type 0} → Form T → (T → List (List ℕ) → Read X) → (X → List (List ℕ)) → (X → Bool) → Form X
led lead behind spell fits = record {
  spell = λ x. spell x;
  read = λ words. lead.read words >>= λ t. behind t.0 t.1;
  fits = λ x. fits x;
}

-- nothing follows; a line may go on too long
abbrev pub ended : {X : Type 0} → X × List (List ℕ) → Result X Reason
ended (x, []) = Ok x
ended (x, word ∷ words) = Err End

-- all the words that are left
abbrev pub whole : {X : Type 0} → Form X → List (List ℕ) → Result X Reason
whole c words = c.read words >>= ended

-- this word, and then those that are answered
abbrev pub expect : List ℕ → List (List ℕ) → Result (List (List ℕ)) Reason
expect text words = next_word words >>= λ w. if bytes_eq w.0 text then Ok w.1 else Err Word

-- whether this word is the next
abbrev pub is_next : List ℕ → List (List ℕ) → Bool
is_next text [] = false
is_next text (word ∷ words) = bytes_eq word text

-- one more of a kind, behind a `;`
abbrev pub next_item : {X : Type 0} → Form X → List (List ℕ) → Read X
next_item item words = expect (codes ";") words >>= item.read

-- more of a kind to the end of the line. There are at most as many as there are words.
abbrev pub more_items : {X : Type 0} → Form X → ℕ → List (List ℕ) → Result (List X) Reason
more_items item most [] = Ok []
more_items item zero (word ∷ words) = Err End
more_items item (suc most) (word ∷ words) =
    next_item item (word ∷ words) >>= λ x. more_items item most x.1 >>= λ xs. Ok (x.0 ∷ xs)

abbrev pub more : {X : Type 0} → Form X → List (List ℕ) → Result (List X) Reason
more item words = more_items item (length words) words

-- what a reader's refusal says of what reading gives
abbrev pub Refuses : {Y : Type 0} → LineFault → Result Y Reason → Type 0
Refuses (fault.Bad reason) read = read ≡ Err reason
Refuses fault.NoMemory read = ⊤

-- what a reader answered, seen by a view, is what reading gives, unless memory ran out
abbrev pub Gives : {X Y : Type 0} → (X → Y) → Result X LineFault → Result Y Reason → Type 0
Gives view (Ok x) read = read ≡ Ok (view x)
Gives view (Err stop) read = Refuses stop read
