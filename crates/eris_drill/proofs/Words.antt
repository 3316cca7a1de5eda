-- The words of a generator, one after another: used by the code that draws the turns, and by the one that prints.
use Rattle.std.proofs.Common.{◌≡◌, ◌∙◌, ◌+◌, ◌*◌, ℕ, zero, suc, ap, refl, arith}
use Rattle.std.proofs.lemmas.Grind.{flat_map-append}
use Rattle.std.proofs.lemmas.List.{append_assoc}
use Rattle.rand_pcg.specs.Lcg.{Lcg, state_after, next_state, next}
use Rattle.rand_pcg.specs.Pcg.{multiplier_64}
use Rattle.eris_drill.specs.Draws.{after_words}

pub ruleset lines_joined = (flat_map-append, append_assoc)

-- the generator after one word
pub one_word : (from : Lcg) → after_words 1 from ≡ next 64 multiplier_64 from
unfolding after_words state_after
one_word from = refl

zero_sum : (more : ℕ) → more ≡ 0 + more
zero_sum more = omega arith

suc_sum : (first more : ℕ) → suc (first + more) ≡ suc first + more
suc_sum first more = omega arith

states : (w m increment first more state : ℕ) → state_after w m increment more (state_after w m increment first state) ≡ state_after w m increment (first + more) state
unfolding state_after
states w m increment zero more state = ap (λ (words : ℕ). state_after w m increment words state) (zero_sum more)
states w m increment (suc first) more state =
    states w m increment first more (next_state w m increment state) ∙ ap (λ (words : ℕ). state_after w m increment words state) (suc_sum first more)

-- some words, and then more
pub words_on : (first more : ℕ) (from : Lcg) → after_words more (after_words first from) ≡ after_words (first + more) from
unfolding after_words
words_on first more from = ap (λ (state : ℕ). record from { state = state }) (states 64 multiplier_64 from.increment first more from.state)

pub two_words : (from : Lcg) → after_words 1 (after_words 1 from) ≡ after_words 2 from
two_words from = words_on 1 1 from

pub three_words : (from : Lcg) → after_words 1 (after_words 2 from) ≡ after_words 3 from
three_words from = words_on 2 1 from

pub four_words : (from : Lcg) → after_words 1 (after_words 3 from) ≡ after_words 4 from
four_words from = words_on 3 1 from

pub five_words : (from : Lcg) → after_words 1 (after_words 4 from) ≡ after_words 5 from
five_words from = words_on 4 1 from

pub ruleset drawing = (two_words, three_words, four_words, five_words)

five_more : (turn : ℕ) → 5 * turn + 5 ≡ 5 * (turn + 1)
five_more turn = omega arith

-- the words of one turn more
pub next_words : (turn : ℕ) (from : Lcg) → after_words 5 (after_words (5 * turn) from) ≡ after_words (5 * (turn + 1)) from
next_words turn from = words_on (5 * turn) 5 from ∙ ap (λ (words : ℕ). after_words words from) (five_more turn)

-- the generator before the first word
pub no_words : (from : Lcg) → from ≡ after_words 0 from
unfolding after_words state_after
no_words from = refl
