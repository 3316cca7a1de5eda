-- What a world takes, event by event: one, and the same again and again. Used where a line is run.
use Rattle.std.proofs.Common.{◌≡◌, ℕ, zero, suc, ◌+◌, ◌-◌, ◌^◌, ◌≤◌, ◌<◌, Bool, true, false, Option, Some, None, is_some, Result, Ok, Err, List, [], ◌∷◌, ◌++◌, length, replicate, refl, ap, sym, ◌∙◌, subst, arith, ◌⊎◌, inl, inr, IsTrue}
use Rattle.std.specs.Option.{option_or}
use Rattle.std.specs.Prelude.{slice_get, ◌||◌}
use Rattle.std.proofs.lemmas.List.{replicate-append-replicate}
use Rattle.eris_base.specs.ConfigLimits.{ConfigValue}
use Rattle.eris_base.specs.Each.{Each}
use Rattle.eris_event.specs.declared.event.Event.{Event}
use Rattle.eris_event.specs.declared.event.Event.TheVariants.{Flow, Lose}
use Rattle.eris_grammar.specs.declared.line.Line.{Line}
use Rattle.eris_grammar.specs.declared.line.Line.TheVariants as line
use Rattle.eris_event.specs.EventRanges.{fits_event}
use Rattle.eris_grammar.specs.LineForms.{line_of}
use Rattle.eris_grammar.proofs.SpellingLaws.{read_as_spelled}
use Rattle.eris_event.specs.declared.refusal.Refusal.{Refusal}
use Rattle.eris_event.specs.declared.refusal.Refusal.TheVariants as refusals
use Rattle.eris_rules.specs.ClientStates.{ClientState, first_client}
use Rattle.eris_rules.specs.Happenings.{flows, happens, loses}
use Rattle.eris_rules.specs.Refusals.{cause, frame_sizes, limit_met, refusal}
use Rattle.eris_rules.specs.Runs.{taken_by, world_after}
use Rattle.eris_rules.specs.Worlds.{WorldState, first_world}
use Rattle.eris_sequencer.specs.Sequencers.{first_stampings, newest_of}
use Rattle.eris_world.specs.WorldValues.{CanGoOn, EventFits, HasRoom, IsCause, WorldValue}
use Rattle.eris_world.proofs.Events.{second_none}
use Rattle.eris_status.specs.declared.refused.Stop.{Stop}
use Rattle.eris_status.specs.declared.refused.Stop.TheVariants as stops
use Rattle.eris_run.specs.LineRuns.{IsFine, IsStopOf, LineFits, Takes, begins, begun, cost, submissions}
use Rattle.eris_status.specs.Stops.{stop_at}
use Rattle.eris_run.specs.ScriptRuns.{after_event, after_events, told, unless}
use Rattle.eris_run.proofs.BegunLaws.{event_adds, small_cost}

-- ---- room for one more event
rooms : (clients : List ClientState) → submissions clients < 4294967295 → Each HasRoom clients
rooms [] few = tt
rooms (client ∷ clients) few = (omega arith, rooms clients (omega arith))

pub can_go_on : (world : WorldState) → begun world + 1 < 2 ^ 32 → CanGoOn world
unfolding newest_of
can_go_on world few = record { clients = rooms world.clients (omega arith); epochs = omega arith }

-- ---- one event
-- an event that isn't refused
pub record Taken (config : ConfigValue) (world next : WorldState) (event : Event) : Type 0 where
  pub after : after_event config world event ≡ Ok next
  pub within : limit_met next.sent ≡ None
  pub few : begun next ≤ begun world + cost event

pub taken : (config : ConfigValue) (world next : WorldState) (event : Event) → world_after config world event ≡ Some next → Taken config world next event
unfolding world_after refusal after_event
taken config world next event took = of_refusal (option_or (cause config world event) (limit_met (happens config world event).sent)) refl took
  where
    of_refusal : (found : Option Refusal) → option_or (cause config world event) (limit_met (happens config world event).sent) ≡ found → taken_by (happens config world event) found ≡ Some next → Taken config world next event
    of_refusal None is took =
        let same : happens config world event ≡ next = cc in
        record {
          after = ap (λ (found : Option Refusal). unless found (happens config world event)) is ∙ ap (λ (w : WorldState). Ok w) same;
          within = subst (λ (w : WorldState). limit_met w.sent ≡ None) same (second_none (cause config world event) _ is);
          few = subst (λ (w : WorldState). begun w ≤ begun world + cost event) same (event_adds config world event);
        }
    of_refusal (Some why) is took = absurd cc

refused_after : (config : ConfigValue) (world : WorldState) (event : Event) (why : Refusal) → refusal config world event ≡ Some why → after_event config world event ≡ Err why
unfolding after_event
refused_after config world event why found = ap (λ (found : Option Refusal). unless found (happens config world event)) found

one_ok : (config : ConfigValue) (world next : WorldState) (event : Event) → after_event config world event ≡ Ok next → after_events config world (event ∷ []) ≡ Ok next
unfolding after_events
one_ok config world next event took = rw (took, after_events) refl

one_err : (config : ConfigValue) (world : WorldState) (event : Event) (events : List Event) (why : Refusal) → after_event config world event ≡ Err why → after_events config world (event ∷ events) ≡ Err why
unfolding after_events
one_err config world event events why refused = rw (refused, after_events) refl

pub takes_event : (before after : WorldValue) (event : Event) → IsFine before → world_after before.config before.state event ≡ Some after.state → after ≡ record before { state = after.state } → Takes before after (event ∷ []) (cost event)
takes_event before after event fine took stays =
    let one = taken before.config before.state after.state event took in
    record {
      ran = one_ok before.config before.state after.state event one.after;
      same = ap (λ (w : WorldValue). w.config) stays;
      fine = record { unspent = ap (λ (w : WorldValue). w.spent) stays ∙ fine.unspent; within = one.within };
      few = one.few;
    }

refuses_one : (before : WorldValue) (event : Event) (number : ℕ) (why : Refusal) → refusal before.config before.state event ≡ Some why → told number (after_events before.config before.state (event ∷ [])) ≡ Err (stop_at number why)
refuses_one before event number why found = ap (told number) (one_err before.config before.state event [] why (refused_after before.config before.state event why found))

pub refuses_event : (before : WorldValue) (event : Event) (number : ℕ) (why : Refusal) → IsCause before.config before.state event why → IsStopOf (told number (after_events before.config before.state (event ∷ []))) (stop_at number why)
refuses_event before event number refusals.NoMemory found = tt
refuses_event before event number why found = refuses_one before event number why found

pub ruleset events = (can_go_on, takes_event, refuses_event)

-- ---- events one after another
append_after : (config : ConfigValue) (first : Result WorldState Refusal) (v : WorldState) (xs ys : List Event)
    → ((next : WorldState) → after_events config next xs ≡ Ok v → after_events config next (xs ++ ys) ≡ after_events config v ys)
    → (elim first as (λ _. Result WorldState Refusal) [ Ok next ↦ after_events config next xs | Err why ↦ Err why ]) ≡ Ok v
    → (elim first as (λ _. Result WorldState Refusal) [ Ok next ↦ after_events config next (xs ++ ys) | Err why ↦ Err why ]) ≡ after_events config v ys
append_after config (Ok next) v xs ys later ran = later next ran
append_after config (Err why) v xs ys later ran = absurd cc

-- a run of two lists is a run of the first, and then of the second
pub after_append : (config : ConfigValue) (w v : WorldState) (xs ys : List Event) → after_events config w xs ≡ Ok v → after_events config w (xs ++ ys) ≡ after_events config v ys
unfolding after_events
after_append config w v [] ys ran = let same : w ≡ v = cc in ap (λ (u : WorldState). after_events config u ys) same
after_append config w v (event ∷ xs) ys ran = append_after config (after_event config w event) v xs ys (λ next rest. after_append config next v xs ys rest) ran

takes_both : {a b c : WorldValue} {xs ys : List Event} {m n : ℕ} → Takes a b xs m → Takes b c ys n → Takes a c (xs ++ ys) (m + n)
takes_both {a} {b} {c} {xs} {ys} {m} {n} first second = record {
  ran = after_append a.config a.state b.state xs ys first.ran ∙ subst (λ (config : ConfigValue). after_events config b.state ys ≡ Ok c.state) first.same second.ran;
  same = second.same ∙ first.same;
  fine = second.fine;
  few = let one = first.few in let two = second.few in omega arith;
}

pub takes_none : {a : WorldValue} → IsFine a → Takes a a [] 0
unfolding after_events
takes_none {a} fine = record { ran = refl; same = refl; fine = fine; few = omega arith }

split : (n m : ℕ) (event : Event) → replicate (n + m) event ≡ replicate n event ++ replicate m event
split n m event = sym (replicate-append-replicate n m event)

-- one more of the same
pub takes_again : {a b c : WorldValue} (event : Event) (n : ℕ) → Takes a b (replicate n event) 0 → Takes b c (event ∷ []) 0 → Takes a c (replicate (n + 1) event) 0
takes_again {a} {b} {c} event n first second = rw (split n 1 event) (takes_both first second)

-- ---- where nothing waits
none_first : {X : Type 0} (xs : List X) → is_some (slice_get xs 0) ≡ false → xs ≡ []
none_first [] none = refl
none_first (x ∷ xs) none = absurd cc

idle_flow : (config : ConfigValue) (w : WorldState) → w.waiting ≡ [] → limit_met w.sent ≡ None → after_event config w Flow ≡ Ok w
unfolding after_event refusal happens cause
idle_flow config w idle within =
    let same : flows config w w.waiting ≡ w = ap (flows config w) idle in
    ap (λ (v : WorldState). unless (limit_met v.sent) v) same ∙ ap (λ (found : Option Refusal). unless found w) within

idle_loss : (config : ConfigValue) (w : WorldState) → w.waiting ≡ [] → limit_met w.sent ≡ None → after_event config w Lose ≡ Ok w
unfolding after_event refusal happens cause
idle_loss config w idle within =
    let same : loses w w.waiting ≡ w = ap (loses w) idle in
    ap (λ (v : WorldState). unless (limit_met v.sent) v) same ∙ ap (λ (found : Option Refusal). unless found w) within

stands : (config : ConfigValue) (w : WorldState) (event : Event) (n : ℕ) → after_event config w event ≡ Ok w → after_events config w (replicate n event) ≡ Ok w
unfolding after_events
stands config w event zero same = refl
stands config w event (suc n) same = let rest = stands config w event n same in rw (same, after_events) rest

takes_rest : {a b : WorldValue} (event : Event) (n times : ℕ) → after_event b.config b.state event ≡ Ok b.state → Takes a b (replicate n event) 0 → n ≤ times → Takes a b (replicate times event) 0
takes_rest {a} {b} event n times same run within =
    let all : times ≡ n + (times - n) = omega arith in
    let rest : Takes b b (replicate (times - n) event) 0 = record { ran = stands b.config b.state event (times - n) same; same = refl; fine = run.fine; few = omega arith } in
    rw all (rw (split n (times - n) event) (takes_both run rest))

-- the flows and losses that are left change nothing
pub flows_rest : {a b : WorldValue} (n times : ℕ) → Takes a b (replicate n Flow) 0 → n ≤ times → is_some (slice_get b.state.waiting 0) ≡ false → Takes a b (replicate times Flow) 0
flows_rest {a} {b} n times run within none = takes_rest Flow n times (idle_flow b.config b.state (none_first _ none) run.fine.within) run within

pub losses_rest : {a b : WorldValue} (n times : ℕ) → Takes a b (replicate n Lose) 0 → n ≤ times → is_some (slice_get b.state.waiting 0) ≡ false → Takes a b (replicate times Lose) 0
losses_rest {a} {b} n times run within none = takes_rest Lose n times (idle_loss b.config b.state (none_first _ none) run.fine.within) run within

-- one of them is refused
refused_rest : (config : ConfigValue) (w : WorldState) (event : Event) (n number : ℕ) (stop : Stop) → 0 < n
    → told number (after_events config w (event ∷ [])) ≡ Err stop → told number (after_events config w (replicate n event)) ≡ Err stop
unfolding after_events
refused_rest config w event zero number stop some refused = absurd (omega arith)
refused_rest config w event (suc n) number stop some refused = of_first (after_event config w event) refused
  where
    of_first : (first : Result WorldState Refusal) → told number (elim first as (λ _. Result WorldState Refusal) [ Ok next ↦ Ok next | Err why ↦ Err why ]) ≡ Err stop
        → told number (elim first as (λ _. Result WorldState Refusal) [ Ok next ↦ after_events config next (replicate n event) | Err why ↦ Err why ]) ≡ Err stop
    of_first (Ok next) found = absurd cc
    of_first (Err why) found = found

refused_again : {a b : WorldValue} (event : Event) (n times number : ℕ) (stop : Stop) → Takes a b (replicate n event) 0 → n < times
    → told number (after_events b.config b.state (event ∷ [])) ≡ Err stop → told number (after_events a.config a.state (replicate times event)) ≡ Err stop
refused_again {a} {b} event n times number stop run within found =
    let all : times ≡ n + (times - n) = omega arith in
    ap (λ (some : List Event). told number (after_events a.config a.state some)) (ap (λ (count : ℕ). replicate count event) all ∙ split n (times - n) event)
    ∙ ap (told number) (after_append a.config a.state b.state (replicate n event) (replicate (times - n) event) run.ran)
    ∙ subst (λ (config : ConfigValue). told number (after_events config b.state (replicate (times - n) event)) ≡ Err stop) run.same
    (refused_rest b.config b.state event (times - n) number stop (omega arith) found)

pub refuses_again : {a b : WorldValue} (event : Event) (n times number : ℕ) (stop : Stop) → Takes a b (replicate n event) 0 → n < times
    → IsStopOf (told number (after_events b.config b.state (event ∷ []))) stop → IsStopOf (told number (after_events a.config a.state (replicate times event))) stop
refuses_again {a} {b} event n times number (stops.Refused refused) run within found = refused_again event n times number (stops.Refused refused) run within found
refuses_again {a} {b} event n times number stops.NoMemory run within found = tt

-- ---- what a line says
at_most_one : (before after : WorldValue) (events : List Event) (most : ℕ) → Takes before after events most → most ≤ 1 → Takes before after events 1
at_most_one before after events most took small = record {
  ran = took.ran;
  same = took.same;
  fine = took.fine;
  few = let few = took.few in omega arith;
}

pub said_nothing : (world : WorldValue) → IsFine world → Takes world world [] 1
said_nothing world fine = at_most_one world world [] 0 (takes_none fine) (omega arith)

pub said_one : (before after : WorldValue) (event : Event) → Takes before after (event ∷ []) (cost event) → Takes before after (event ∷ []) 1
said_one before after event took = at_most_one before after (event ∷ []) (cost event) took (small_cost event)

pub said_many : (before after : WorldValue) (events : List Event) → Takes before after events 0 → Takes before after events 1
said_many before after events took = at_most_one before after events 0 took (omega arith)

pub ruleset sayings = (said_nothing, said_one, said_many)

-- ---- what is read is in the grammar's ranges
of_version : (version : ℕ) (event : Event) → (version ≡ 1) ⊎ (version ≡ 2) → IsTrue (fits_event version event) → EventFits event
of_version version event (inl one) fits = either (fits_event 1 event) (fits_event 2 event) (inl (subst (λ (n : ℕ). fits_event n event ≡ true) one fits))
  where
    either : (x y : Bool) → (x ≡ true) ⊎ (y ≡ true) → (x || y) ≡ true
    either true y h = refl
    either false true h = refl
    either false false (inl h) = absurd cc
    either false false (inr h) = absurd cc
of_version version event (inr two) fits = either (fits_event 1 event) (fits_event 2 event) (inr (subst (λ (n : ℕ). fits_event n event ≡ true) two fits))
  where
    either : (x y : Bool) → (x ≡ true) ⊎ (y ≡ true) → (x || y) ≡ true
    either true y h = refl
    either false true h = refl
    either false false (inl h) = absurd cc
    either false false (inr h) = absurd cc

pub reads_fit : (version : ℕ) (text : List ℕ) (said : Line) → (version ≡ 1) ⊎ (version ≡ 2) → line_of version text ≡ Ok said → LineFits said
reads_fit version text line.Skip known read = tt
reads_fit version text (line.One event) known read = of_version version event known (((read_as_spelled version text).events event).0 read).fits
reads_fit version text (line.Flow times) known read = tt
reads_fit version text (line.Lose times) known read = tt

pub ruleset readings = (reads_fit)

-- ---- a world as it begins
no_submissions : (n : ℕ) → submissions (replicate n first_client) ≡ 0
unfolding first_client
no_submissions zero = refl
no_submissions (suc n) = let rest = no_submissions n in omega arith

pub begins_fine : (config : ConfigValue) (world : WorldValue) → world ≡ begins config → IsFine world
unfolding first_world limit_met frame_sizes
begins_fine config world fresh = rw fresh (record { unspent = refl; within = refl })

pub begins_few : (config : ConfigValue) (world : WorldValue) → world ≡ begins config → begun world.state ≡ 1
unfolding first_world first_stampings
begins_few config world fresh =
    let none : submissions (first_world config).clients ≡ 0 = no_submissions config.clients in
    let one : length (first_world config).stampings ≡ 1 = refl in
    ap (λ (w : WorldValue). begun w.state) fresh ∙ omega arith

pub ruleset beginnings = (begins_fine, begins_few)
