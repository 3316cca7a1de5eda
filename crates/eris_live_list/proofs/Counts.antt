-- What is counted in journals, and their rounds.
use Rattle.std.proofs.Common.{◌≡◌, ◌≤◌, ◌∙◌, ◌+◌, ℕ, zero, suc, Bool, true, false, cond, List, [], ◌∷◌, ◌++◌, length, take, ap, sym, refl, arith, append-nil, append_assoc, length-append}
use Rattle.std.specs.List.{filter}
use Rattle.std.proofs.lemmas.List.{take-append-drop}
use Rattle.std.proofs.lemmas.List.Elements.{filter-append}
use Rattle.eris_base.specs.declared.ids.ClientId.{ClientId}
use Rattle.eris_event.specs.declared.event.Event.{Event}
use Rattle.eris_law_live.specs.FirstDeliveries.{firsts, is_first}
use Rattle.eris_live_list.specs.LiveJournals.{alarms, before_round, begin_of, is_alarm, is_submission_of, others, round_of, submissions_of}

-- each event is a first delivery, or one of the others
pub all_counted : (before events : List Event) → firsts before events + others before events ≡ length events
unfolding firsts others
all_counted before [] = refl
all_counted before (event ∷ events) = by_test (is_first before event) (all_counted (before ++ event ∷ []) events)
  where
    by_test : (test : Bool) → firsts (before ++ event ∷ []) events + others (before ++ event ∷ []) events ≡ length events
        → (cond test 1 0 + firsts (before ++ event ∷ []) events) + (cond test 0 1 + others (before ++ event ∷ []) events) ≡ suc (length events)
    by_test true rest = omega (arith, rest)
    by_test false rest = omega (arith, rest)

pub others-append : (before some more : List Event) → others before (some ++ more) ≡ others before some + others (before ++ some) more
unfolding others
others-append before [] more = ap (λ (list : List Event). others list more) (sym (append-nil before)) ∙ (let e : others (before ++ []) more ≡ 0 + others (before ++ []) more = omega arith in e)
others-append before (event ∷ some) more =
    ap (λ (n : ℕ). cond (is_first before event) 0 1 + n)
    (others-append (before ++ event ∷ []) some more ∙ ap (λ (list : List Event). others (before ++ event ∷ []) some + others list more) (append_assoc before (event ∷ []) some))
    ∙ (let e : cond (is_first before event) 0 1 + (others (before ++ event ∷ []) some + others (before ++ event ∷ some) more) ≡ cond (is_first before event) 0 1 + others (before ++ event ∷ []) some + others (before ++ event ∷ some) more = omega arith in e)

pub alarms-append : (some more : List Event) → alarms (some ++ more) ≡ alarms some + alarms more
unfolding alarms
alarms-append some more = ap (λ (events : List Event). length events) (filter-append is_alarm some more) ∙ length-append (filter is_alarm some) (filter is_alarm more)

pub submissions-append : (client : ClientId) (some more : List Event) → submissions_of client (some ++ more) ≡ submissions_of client some ++ submissions_of client more
unfolding submissions_of
submissions-append client some more = filter-append (is_submission_of client) some more

-- ---- rounds
take-less : {A : Type 0} (low high : ℕ) (xs : List A) → low ≤ high → take low (take high xs) ≡ take low xs
take-less zero high xs le = refl
take-less (suc low) zero xs le = absurd (omega (arith, le))
take-less (suc low) (suc high) [] le = refl
take-less (suc low) (suc high) (x ∷ xs) le = ap (λ (l : List _). x ∷ l) (take-less low high xs (omega (arith, le)))

pub round_cut : (marks : List ℕ) (round : ℕ) (journal : List Event) → begin_of marks round ≤ begin_of marks (suc round)
    → before_round marks (suc round) journal ≡ before_round marks round journal ++ round_of marks round journal
round_cut marks round journal rise =
    sym (take-append-drop (begin_of marks round) (before_round marks (suc round) journal))
    ∙ ap (λ (events : List Event). events ++ round_of marks round journal) (take-less (begin_of marks round) (begin_of marks (suc round)) journal rise)
