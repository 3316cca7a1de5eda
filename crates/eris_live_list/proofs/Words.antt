-- The words of a generator, one after another.
use Rattle.std.proofs.Common.{◌≡◌, ◌∙◌, ◌+◌, ℕ, zero, suc, ap, refl, arith}
use Rattle.rand_pcg.specs.Lcg.{Lcg, state_after, next_state, next}
use Rattle.rand_pcg.specs.Pcg.{multiplier_64}
use Rattle.eris_live_list.specs.LiveLists.{after_words}

-- the generator after one word
pub one_word : (from : Lcg) → after_words 1 from ≡ next 64 multiplier_64 from
unfolding after_words state_after
one_word from = refl

zero_sum : (more : ℕ) → more ≡ 0 + more
zero_sum more = omega arith

suc_sum : (first more : ℕ) → suc (first + more) ≡ suc first + more
suc_sum first more = omega arith

states : (w m increment first more state : ℕ) → state_after w m increment more (state_after w m increment first state) ≡ state_after w m increment (first + more) state
unfolding state_after
states w m increment zero more state = ap (λ (words : ℕ). state_after w m increment words state) (zero_sum more)
states w m increment (suc first) more state =
    states w m increment first more (next_state w m increment state) ∙ ap (λ (words : ℕ). state_after w m increment words state) (suc_sum first more)

-- some words, and then more
words_on : (first more : ℕ) (from : Lcg) → after_words more (after_words first from) ≡ after_words (first + more) from
unfolding after_words
words_on first more from = ap (λ (state : ℕ). record from { state = state }) (states 64 multiplier_64 from.increment first more from.state)

-- one word, and then more
pub word_first : (more : ℕ) (from : Lcg) → after_words more (after_words 1 from) ≡ after_words (suc more) from
word_first more from = words_on 1 more from ∙ ap (λ (words : ℕ). after_words words from) (omega arith)

-- the generator before the first word
pub no_words : (from : Lcg) → from ≡ after_words 0 from
unfolding after_words state_after
no_words from = refl
