-- What a client submits, one after another.
use Rattle.std.proofs.Common.{◌≡◌, ◌∙◌, ◌+◌, ◌==◌, ℕ, zero, suc, Bool, true, false, cond, List, [], ◌∷◌, ◌++◌, length, ap, refl, arith, eq-eqb}
use Rattle.std.specs.List.{filter}
use Rattle.rand_pcg.specs.Lcg.{Lcg}
use Rattle.eris_base.specs.declared.ids.ClientId.{ClientId}
use Rattle.eris_event.specs.declared.event.Event.{Event}
use Rattle.eris_live_list.specs.LiveJournals.{is_submission_of, submissions_of}
use Rattle.eris_live_list.specs.LiveLists.{after_words, draw, draws_of, increments, live_list, submission, submissions_from, transfer}
use Rattle.eris_live_list.proofs.Words.{no_words, word_first}

-- one more
pub submissions-more : (client : ClientId) (from : Lcg) (count : ℕ)
    → submissions_from client from (suc count) ≡ submissions_from client from count ++ submission client (draw 2 (after_words count from)) ∷ []
unfolding submissions_from
submissions-more client from zero = ap (λ (at : Lcg). submission client (draw 2 at) ∷ []) (no_words from)
submissions-more client from (suc count) =
    ap (λ (events : List Event). submission client (draw 2 from) ∷ events)
    (submissions-more client (after_words 1 from) count
    ∙ ap (λ (at : Lcg). submissions_from client (after_words 1 from) count ++ submission client (draw 2 at) ∷ []) (word_first count from))

-- some, and then more
submissions-parts : (client : ClientId) (some more : ℕ) (from : Lcg)
    → submissions_from client from (some + more) ≡ submissions_from client from some ++ submissions_from client (after_words some from) more
unfolding submissions_from
submissions-parts client zero more from =
    ap (submissions_from client from) (let e : 0 + more ≡ more = omega arith in e) ∙ ap (λ (at : Lcg). submissions_from client at more) (no_words from)
submissions-parts client (suc some) more from =
    ap (submissions_from client from) (let e : suc some + more ≡ suc (some + more) = omega arith in e)
    ∙ ap (λ (events : List Event). submission client (draw 2 from) ∷ events)
    (submissions-parts client some more (after_words 1 from)
    ∙ ap (λ (at : Lcg). submissions_from client (after_words 1 from) some ++ submissions_from client at more) (word_first some from))

pub list-parts : (seed : ℕ) (client : ClientId) (some more : ℕ)
    → live_list seed client (some + more) ≡ live_list seed client some ++ submissions_from client (after_words some (draws_of seed client)) more
unfolding live_list
list-parts seed client some more = submissions-parts client some more (draws_of seed client)

long : (client : ClientId) (from : Lcg) (count : ℕ) → length (submissions_from client from count) ≡ count
unfolding submissions_from
long client from zero = refl
long client from (suc count) = ap suc (long client (after_words 1 from) count)

pub list-long : (seed : ℕ) (client : ClientId) (rounds : ℕ) → length (live_list seed client rounds) ≡ rounds
unfolding live_list
list-long seed client rounds = long client (draws_of seed client) rounds

-- each is a submission of the client
is_own : (client : ClientId) (drawn : ℕ) → is_submission_of client (submission client drawn) ≡ true
unfolding submission
is_own client drawn = by_test (drawn == 0)
  where
    by_test : (test : Bool) → is_submission_of client (cond test (Event.Submit client increments) (Event.General client transfer)) ≡ true
    by_test true = eq-eqb client.0 client.0 refl
    by_test false = eq-eqb client.0 client.0 refl

all_own : (client : ClientId) (from : Lcg) (count : ℕ) → submissions_of client (submissions_from client from count) ≡ submissions_from client from count
unfolding submissions_of submissions_from
all_own client from zero = refl
all_own client from (suc count) =
    let event : Event = submission client (draw 2 from) in
    let rest : List Event = submissions_from client (after_words 1 from) count in
    ap (λ (test : Bool). cond test (event ∷ filter (is_submission_of client) rest) (filter (is_submission_of client) rest)) (is_own client (draw 2 from))
    ∙ ap (λ (events : List Event). event ∷ events) (all_own client (after_words 1 from) count)

pub list-own : (seed : ℕ) (client : ClientId) (rounds : ℕ) → submissions_of client (live_list seed client rounds) ≡ live_list seed client rounds
unfolding live_list
list-own seed client rounds = all_own client (draws_of seed client) rounds
