-- FIRST DELIVERIES: they are as many as the packets that were delivered, so at most as many as were sent; and a packet
-- is delivered by its own node alone.
use Rattle.std.proofs.Common.{◌≡◌, inl, inr, ℕ, zero, suc, ◌<◌, ◌≤◌, ◌+◌, ◌==◌, ◌||◌, not, List, [], ◌∷◌, ◌++◌, length, length-append, append-nil, append_assoc, Bool, true, false, cond, Option, Some, None, refl, sym, ap, ◌∙◌, arith, eq-eqb, ne_eqb}
use Rattle.std.proofs.lemmas.Bool.{cases_Bool, cases_eq}
use Rattle.eris_base.specs.declared.ids.Epoch.{Epoch}
use Rattle.eris_base.specs.Each.{Each}
use Rattle.eris_event.specs.declared.event.Event.{Event}
use Rattle.eris_rules.specs.Happenings.{happens}
use Rattle.eris_rules.specs.Refusals.{refusal}
use Rattle.eris_rules.specs.Runs.{run, run_from}
use Rattle.eris_rules.specs.Worlds.{WorldState, first_world}
use Rattle.eris_law_live.specs.FirstDeliveries.{delivers, firsts, is_delivered, is_first}
use Rattle.eris_law_live.specs.LiveBooks.{is_live}
use Rattle.eris_law_live.specs.LiveNodes.{live_config}
use Rattle.eris_law_live.proofs.LiveRuns.{run-cons, run-sent}
use Rattle.eris_law_live.proofs.Waiting.{delivered-more, delivery_found}
use Rattle.std.proofs.lemmas.Option.{slice_get_within}

-- ---- how many numbers below a bound pass a test
count_below : (ℕ → Bool) → ℕ → ℕ
count_below test zero = 0
count_below test (suc bound) = count_below test bound + cond (test bound) 1 0

bit_low : (test : Bool) → cond test 1 0 ≤ 1
bit_low true = omega arith
bit_low false = omega arith

count_low : (test : ℕ → Bool) (bound : ℕ) → count_below test bound ≤ bound
unfolding count_below
count_low test zero = omega arith
count_low test (suc bound) = let few = count_low test bound in let one = bit_low (test bound) in omega (arith, few, one)

count_same : (some other : ℕ → Bool) (bound : ℕ) → ((k : ℕ) → k < bound → some k ≡ other k) → count_below some bound ≡ count_below other bound
unfolding count_below
count_same some other zero same = refl
count_same some other (suc bound) same =
    ap (λ (n : ℕ). n + cond (some bound) 1 0) (count_same some other bound (λ k low. same k (omega (arith, low))))
    ∙ ap (λ (test : Bool). count_below other bound + cond test 1 0) (same bound (omega arith))

-- one more number passes
count_more : (some other : ℕ → Bool) (at bound : ℕ) → at < bound → some at ≡ false → other at ≡ true → ((k : ℕ) → (k ≡ at → ⊥) → some k ≡ other k) → count_below other bound ≡ 1 + count_below some bound
unfolding count_below
count_more some other at zero low off on same = absurd (omega (arith, low))
count_more some other at (suc bound) low off on same = elim (cases_eq at bound) [
  | inl here ↦
      (let below = count_same some other bound (λ k less. same k (λ e. omega (arith, e, here, less))) in
      let out : some bound ≡ false = ap some (sym here) ∙ off in
      let within : other bound ≡ true = ap other (sym here) ∙ on in
      ap (λ (test : Bool). count_below other bound + cond test 1 0) within
      ∙ ap (λ (n : ℕ). n + 1) (sym below)
      ∙ (let e : count_below some bound + 1 ≡ 1 + (count_below some bound + 0) = omega arith in e)
      ∙ ap (λ (test : Bool). 1 + (count_below some bound + cond test 1 0)) (sym out))
  | inr apart ↦
      (let rest = count_more some other at bound (omega (arith, low, apart)) off on same in
      let here : other bound ≡ some bound = sym (same bound (λ e. apart (sym e))) in
      ap (λ (n : ℕ). n + cond (other bound) 1 0) rest
      ∙ ap (λ (test : Bool). 1 + count_below some bound + cond test 1 0) here
      ∙ (let e : 1 + count_below some bound + cond (some bound) 1 0 ≡ 1 + (count_below some bound + cond (some bound) 1 0) = omega arith in e))
]

-- ---- one more event
or_true : (test : Bool) → (test || true) ≡ true
or_true true = refl
or_true false = refl

or_false : (test : Bool) → (test || false) ≡ test
or_false true = refl
or_false false = refl

-- nothing new is delivered
none_new : (before : List Event) (event : Event) (bound : ℕ) → ((k : ℕ) → delivers k event ≡ false) → count_below (is_delivered (before ++ event ∷ [])) bound ≡ count_below (is_delivered before) bound
none_new before event bound none =
    count_same (is_delivered (before ++ event ∷ [])) (is_delivered before) bound
    (λ k low. delivered-more before event k ∙ ap (λ (test : Bool). is_delivered before k || test) (none k) ∙ or_false (is_delivered before k))

again : (before : List Event) (packet : ℕ) (epoch : Option Epoch) (bound : ℕ) → is_delivered before packet ≡ true
    → count_below (is_delivered (before ++ Event.Deliver packet epoch ∷ [])) bound ≡ count_below (is_delivered before) bound
again before packet epoch bound old = count_same (is_delivered (before ++ Event.Deliver packet epoch ∷ [])) (is_delivered before) bound (λ k low. delivered-more before (Event.Deliver packet epoch) k ∙ elim (cases_eq packet k) [
  | inl same ↦
      (let is : is_delivered before k ≡ true = ap (is_delivered before) (sym same) ∙ old in
      ap (λ (test : Bool). test || (packet == k)) is ∙ sym is)
  | inr apart ↦ ap (λ (test : Bool). is_delivered before k || test) (ne_eqb packet k apart) ∙ or_false (is_delivered before k)
])

for_first : (before : List Event) (packet : ℕ) (epoch : Option Epoch) (bound : ℕ) → packet < bound → is_delivered before packet ≡ false
    → count_below (is_delivered (before ++ Event.Deliver packet epoch ∷ [])) bound ≡ 1 + count_below (is_delivered before) bound
for_first before packet epoch bound low new =
    count_more (is_delivered before) (is_delivered (before ++ Event.Deliver packet epoch ∷ [])) packet bound low new
    (delivered-more before (Event.Deliver packet epoch) packet ∙ ap (λ (test : Bool). is_delivered before packet || test) (eq-eqb packet packet refl) ∙ or_true (is_delivered before packet))
    (λ k apart. sym (delivered-more before (Event.Deliver packet epoch) k ∙ ap (λ (test : Bool). is_delivered before k || test) (ne_eqb packet k (λ e. apart (sym e))) ∙ or_false (is_delivered before k)))

-- the delivered packets, counted in front of an event and behind it
one_counted : (before : List Event) (event : Event) (world : WorldState) (bound : ℕ) → is_live event ≡ true → refusal live_config world event ≡ None → length world.sent ≤ bound
    → count_below (is_delivered (before ++ event ∷ [])) bound ≡ cond (is_first before event) 1 0 + count_below (is_delivered before) bound
one_counted before (Event.Deliver packet epoch) world bound live free few =
    (let found = delivery_found world packet epoch free in
    let low = slice_get_within world.sent packet found.0 found.1 in
    elim (cases_Bool (is_delivered before packet)) [
      | inl old ↦ again before packet epoch bound old ∙ sym (ap (λ (test : Bool). cond (not test) 1 0 + count_below (is_delivered before) bound) old ∙ (let e : 0 + count_below (is_delivered before) bound ≡ count_below (is_delivered before) bound = omega arith in e))
      | inr new ↦ for_first before packet epoch bound (omega (arith, low, few)) new ∙ sym (ap (λ (test : Bool). cond (not test) 1 0 + count_below (is_delivered before) bound) new)
    ])
one_counted before (Event.Submit client ops) world bound live free few = none_new before (Event.Submit client ops) bound (λ k. refl) ∙ (let e : count_below (is_delivered before) bound ≡ 0 + count_below (is_delivered before) bound = omega arith in e)
one_counted before (Event.General client plan) world bound live free few = none_new before (Event.General client plan) bound (λ k. refl) ∙ (let e : count_below (is_delivered before) bound ≡ 0 + count_below (is_delivered before) bound = omega arith in e)
one_counted before (Event.Retry client n) world bound live free few = none_new before (Event.Retry client n) bound (λ k. refl) ∙ (let e : count_below (is_delivered before) bound ≡ 0 + count_below (is_delivered before) bound = omega arith in e)
one_counted before (Event.Abort asker id) world bound live free few = absurd (cc)
one_counted before Event.Flow world bound live free few = absurd (cc)
one_counted before Event.Lose world bound live free few = absurd (cc)
one_counted before (Event.Probe shard replica) world bound live free few = none_new before (Event.Probe shard replica) bound (λ k. refl) ∙ (let e : count_below (is_delivered before) bound ≡ 0 + count_below (is_delivered before) bound = omega arith in e)
one_counted before (Event.Suspect shard replica) world bound live free few = none_new before (Event.Suspect shard replica) bound (λ k. refl) ∙ (let e : count_below (is_delivered before) bound ≡ 0 + count_below (is_delivered before) bound = omega arith in e)
one_counted before (Event.Sync shard replica) world bound live free few = none_new before (Event.Sync shard replica) bound (λ k. refl) ∙ (let e : count_below (is_delivered before) bound ≡ 0 + count_below (is_delivered before) bound = omega arith in e)
one_counted before (Event.Crash shard replica) world bound live free few = absurd (cc)
one_counted before Event.Nudge world bound live free few = none_new before Event.Nudge bound (λ k. refl) ∙ (let e : count_below (is_delivered before) bound ≡ 0 + count_below (is_delivered before) bound = omega arith in e)
one_counted before Event.Replace world bound live free few = none_new before Event.Replace bound (λ k. refl) ∙ (let e : count_below (is_delivered before) bound ≡ 0 + count_below (is_delivered before) bound = omega arith in e)
one_counted before (Event.Noise node bytes) world bound live free few = absurd (cc)

-- ---- along a run
sent_few : (world last : WorldState) (events : List Event) → run_from live_config (Some world) events ≡ Some last → length world.sent ≤ length last.sent
sent_few world last events runs =
    let on = run-sent live_config world last events runs in
    let long = ap length on.is ∙ length-append world.sent on.more in
    omega (arith, long)

all_counted : (before events : List Event) (world last : WorldState) → Each (λ event. is_live event ≡ true) events → run_from live_config (Some world) events ≡ Some last
    → firsts before events + count_below (is_delivered before) (length last.sent) ≡ count_below (is_delivered (before ++ events)) (length last.sent)
unfolding firsts
all_counted before [] world last live runs =
    (let e : 0 + count_below (is_delivered before) (length last.sent) ≡ count_below (is_delivered before) (length last.sent) = omega arith in e)
    ∙ ap (λ (events : List Event). count_below (is_delivered events) (length last.sent)) (sym (append-nil before))
all_counted before (event ∷ events) world last live runs =
    let parts = run-cons live_config world last event events runs in
    let one = one_counted before event world (length last.sent) live.0 parts.0 (sent_few world last (event ∷ events) runs) in
    let rest = all_counted (before ++ event ∷ []) events (happens live_config world event) last live.1 parts.1 in
    (let e : cond (is_first before event) 1 0 + firsts (before ++ event ∷ []) events + count_below (is_delivered before) (length last.sent) ≡ firsts (before ++ event ∷ []) events + count_below (is_delivered (before ++ event ∷ [])) (length last.sent) = omega (arith, one) in e)
    ∙ rest
    ∙ ap (λ (list : List Event). count_below (is_delivered list) (length last.sent)) (append_assoc before (event ∷ []) events)

none_yet : (bound : ℕ) → count_below (is_delivered []) bound ≡ 0
unfolding count_below is_delivered
none_yet zero = refl
none_yet (suc bound) = ap (λ (n : ℕ). n + 0) (none_yet bound)

-- THEY ARE AT MOST AS MANY as the sent packets
pub firsts_few : (events : List Event) (world : WorldState) → Each (λ event. is_live event ≡ true) events → run live_config events ≡ Some world → firsts [] events ≤ length world.sent
unfolding run
firsts_few events world live runs =
    let same = all_counted [] events (first_world live_config) world live runs in
    let none = none_yet (length world.sent) in
    let few = count_low (is_delivered events) (length world.sent) in
    omega (arith, same, none, few)

-- those of two lists, one behind the other
pub firsts-append : (before some more : List Event) → firsts before (some ++ more) ≡ firsts before some + firsts (before ++ some) more
unfolding firsts
firsts-append before [] more = ap (λ (list : List Event). firsts list more) (sym (append-nil before)) ∙ (let e : firsts (before ++ []) more ≡ 0 + firsts (before ++ []) more = omega arith in e)
firsts-append before (event ∷ some) more =
    ap (λ (n : ℕ). cond (is_first before event) 1 0 + n)
    (firsts-append (before ++ event ∷ []) some more ∙ ap (λ (list : List Event). firsts (before ++ event ∷ []) some + firsts list more) (append_assoc before (event ∷ []) some))
    ∙ (let e : cond (is_first before event) 1 0 + (firsts (before ++ event ∷ []) some + firsts (before ++ event ∷ some) more) ≡ cond (is_first before event) 1 0 + firsts (before ++ event ∷ []) some + firsts (before ++ event ∷ some) more = omega arith in e)
