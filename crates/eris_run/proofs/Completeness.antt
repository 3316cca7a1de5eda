-- A script whose events are all taken is run to its end. Used where a script of which no line is refused is answered by its report.
use Rattle.std.proofs.Common.{◌≡◌, ℕ, ◌+◌, ◌≤◌, Bool, false, cond, nat_lt, Option, Some, None, Result, Ok, Err, List, [], ◌∷◌, ◌++◌, length, ap, sym, ◌∙◌, refl, subst, arith}
use Rattle.std.proofs.lemmas.Bool.Decides.{nat_tests}
use Rattle.eris_base.specs.ConfigLimits.{ConfigValue}
use Rattle.eris_event.specs.declared.event.Event.{Event}
use Rattle.eris_grammar.specs.declared.header.Header.{Header}
use Rattle.eris_grammar.specs.declared.line.Line.{Line}
use Rattle.eris_words.specs.declared.reason.Reason.{Reason}
use Rattle.eris_words.specs.Cuts.{lines}
use Rattle.eris_grammar.specs.Headers.{header_of}
use Rattle.eris_grammar.specs.LineForms.{line_of}
use Rattle.eris_grammar.specs.Scripts.{BadLine, Script, events_from, events_of, script, script_in, with_config, with_events}
use Rattle.eris_event.specs.declared.refusal.Refusal.{Refusal}
use Rattle.eris_rules.specs.Happenings.{happens}
use Rattle.eris_rules.specs.Refusals.{refusal}
use Rattle.eris_rules.specs.Runs.{run, run_from, taken_by, world_after}
use Rattle.eris_rules.specs.Worlds.{WorldState, first_world}
use Rattle.eris_rules.proofs.RunLaws.{none_run}
use Rattle.eris_status.specs.declared.refused.Stop.{Stop}
use Rattle.eris_status.specs.declared.status.Status.TheVariants.{Done, TooLarge}
use Rattle.eris_run.specs.Calls.{input_limit, status_due, status_for}
use Rattle.eris_run.specs.ScriptRuns.{after_event, after_events, after_header, after_line, after_lines, after_read, after_said, after_text, outcome, ran_in, told, unless}

-- ---- a run is one with causes
is_ran : (config : ConfigValue) (w v : WorldState) (events : List Event) → run_from config (Some w) events ≡ Some v → after_events config w events ≡ Ok v
unfolding after_events run_from world_after after_event
is_ran config w v [] ran = let same : w ≡ v = cc in ap (λ (u : WorldState). Ok u) same
is_ran config w v (event ∷ events) ran = of_refusal (refusal config w event) (λ next rest. is_ran config next v events rest) ran
  where
    of_refusal : (found : Option Refusal) → ((next : WorldState) → run_from config (Some next) events ≡ Some v → after_events config next events ≡ Ok v)
        → run_from config (taken_by (happens config w event) found) events ≡ Some v
        → (elim (unless found (happens config w event)) as (λ _. Result WorldState Refusal) [ Ok next ↦ after_events config next events | Err why ↦ Err why ]) ≡ Ok v
    of_refusal None later rest = later (happens config w event) rest
    of_refusal (Some why) later rest = absurd (none_run config events v rest)

-- ---- a run of two lists stops between them
record Between (config : ConfigValue) (w v : WorldState) (xs ys : List Event) : Type 0 where
  middle : WorldState
  first : after_events config w xs ≡ Ok middle
  second : after_events config middle ys ≡ Ok v

between : (config : ConfigValue) (w v : WorldState) (xs ys : List Event) → after_events config w (xs ++ ys) ≡ Ok v → Between config w v xs ys
unfolding after_events
between config w v [] ys ran = record { middle = w; first = refl; second = ran }
between config w v (event ∷ xs) ys ran = of_first (after_event config w event) refl (λ next. between config next v xs ys) ran
  where
    of_first : (first : Result WorldState Refusal) → after_event config w event ≡ first
        → ((next : WorldState) → after_events config next (xs ++ ys) ≡ Ok v → Between config next v xs ys)
        → (elim first as (λ _. Result WorldState Refusal) [ Ok next ↦ after_events config next (xs ++ ys) | Err why ↦ Err why ]) ≡ Ok v
        → Between config w v (event ∷ xs) ys
    of_first (Ok next) is later same =
        let rest = later next same in
        record {
          middle = rest.middle;
          first = ap (λ (found : Result WorldState Refusal). elim found as (λ _. Result WorldState Refusal) [ Ok u ↦ after_events config u xs | Err why ↦ Err why ]) is ∙ rest.first;
          second = rest.second;
        }
    of_first (Err why) is later same = absurd cc

-- ---- lines whose events are taken are
line_runs : (version : ℕ) (config : ConfigValue) (number : ℕ) (w next : WorldState) (text : List ℕ) (said : Line) → line_of version text ≡ Ok said → after_events config w (events_of said) ≡ Ok next → after_line version config number w text ≡ Ok next
unfolding after_line after_said
line_runs version config number w next text said read ran = ap (after_read config number w) read ∙ ap (told number) ran

record Read (events : List Event) (first : List Event) (rest : Result (List Event) BadLine) : Type 0 where
  more : List Event
  is : rest ≡ Ok more
  joined : events ≡ first ++ more

read_in : (events first : List Event) (rest : Result (List Event) BadLine) → with_events first rest ≡ Ok events → Read events first rest
read_in events first (Ok more) same = let equal : first ++ more ≡ events = cc in record { more = more; is = refl; joined = sym equal }
read_in events first (Err bad) same = absurd cc

lines_run : (version : ℕ) (config : ConfigValue) (number : ℕ) (w v : WorldState) (texts : List (List ℕ)) (events : List Event) → events_from version number texts ≡ Ok events → after_events config w events ≡ Ok v
    → after_lines version config number w texts ≡ Ok v
unfolding after_lines events_from after_events
lines_run version config number w v [] events says ran =
    let none : [] ≡ events = cc in
    let still : after_events config w [] ≡ Ok v = subst (λ (some : List Event). after_events config w some ≡ Ok v) (sym none) ran in
    let same : w ≡ v = cc in
    ap (λ (u : WorldState). Ok u) same
lines_run version config number w v (text ∷ texts) events says ran = of_read (line_of version text) refl (λ next more is rest. lines_run version config (number + 1) next v texts more is rest) says
  where
    of_read : (read : Result Line Reason) → line_of version text ≡ read
        → ((next : WorldState) (more : List Event) → events_from version (number + 1) texts ≡ Ok more → after_events config next more ≡ Ok v → after_lines version config (number + 1) next texts ≡ Ok v)
        → ◌≡◌ {A = Result (List Event) BadLine} (elim read as (λ _. Result (List Event) BadLine) [ Ok said ↦ with_events (events_of said) (events_from version (number + 1) texts) | Err why ↦ Err (record { line = number; reason = why }) ]) (Ok events)
        → (elim (after_line version config number w text) as (λ _. Result WorldState Stop) [ Ok next ↦ after_lines version config (number + 1) next texts | Err stop ↦ Err stop ]) ≡ Ok v
    of_read (Ok said) is later same =
        let parts = read_in events (events_of said) (events_from version (number + 1) texts) same in
        let cut = between config w v (events_of said) parts.more (subst (λ (some : List Event). after_events config w some ≡ Ok v) parts.joined ran) in
        ap (λ (here : Result WorldState Stop). elim here as (λ _. Result WorldState Stop) [ Ok next ↦ after_lines version config (number + 1) next texts | Err stop ↦ Err stop ])
        (line_runs version config number w cut.middle text said is cut.first)
        ∙ later cut.middle parts.more parts.is cut.second
    of_read (Err why) is later same = absurd cc

-- ---- and so is a script
header_runs : (texts : List (List ℕ)) (whole : Script) (world : WorldState) (header : Header) (read : Result (List Event) BadLine)
    → events_from header.version 2 texts ≡ read → with_config header.config read ≡ Ok whole → run whole.config whole.events ≡ Some world
    → after_header (Ok header) texts ≡ Ok (record { config = whole.config; world = world })
unfolding run
header_runs texts whole world header (Ok events) is same ran =
    let equal : record { config = header.config; events = events } ≡ whole = cc in
    subst (λ (s : Script). run_from s.config (Some (first_world s.config)) s.events ≡ Some world → after_header (Ok header) texts ≡ Ok (record { config = s.config; world = world })) equal
    (λ runs. ap (ran_in header.config)
    (lines_run header.version header.config 2 (first_world header.config) world texts events is (is_ran header.config (first_world header.config) world events runs)))
    ran
header_runs texts whole world header (Err bad) is same ran = absurd cc

texts_run : (texts : List (List ℕ)) (whole : Script) (world : WorldState) → script_in texts ≡ Ok whole → run whole.config whole.events ≡ Some world → after_text texts ≡ Ok (record { config = whole.config; world = world })
texts_run [] whole world is ran = absurd cc
texts_run (first ∷ texts) whole world is ran = of_header (header_of first) is
  where
    of_header : (read : Result Header Reason)
        → ◌≡◌ {A = Result Script BadLine} (elim read as (λ _. Result Script BadLine) [ Ok header ↦ with_config header.config (events_from header.version 2 texts) | Err why ↦ Err (record { line = 1; reason = why }) ]) (Ok whole)
        → after_header read texts ≡ Ok (record { config = whole.config; world = world })
    of_header (Ok header) same = header_runs texts whole world header (events_from header.version 2 texts) refl same ran
    of_header (Err why) same = absurd cc

pub script_runs : (bytes : List ℕ) (whole : Script) (world : WorldState) → script bytes ≡ Ok whole → run whole.config whole.events ≡ Some world → outcome bytes ≡ Ok (record { config = whole.config; world = world })
unfolding script outcome
script_runs bytes whole world is ran = texts_run (lines bytes) whole world is ran

-- WHERE NO LINE IS REFUSED, Done is due
pub done_due : (bytes : List ℕ) (whole : Script) (world : WorldState) → length bytes ≤ input_limit → script bytes ≡ Ok whole → run whole.config whole.events ≡ Some world → status_due bytes ≡ Done
done_due bytes whole world within is ran =
    let small : nat_lt input_limit (length bytes) ≡ false = grind (arith, nat_tests) in
    ap (λ (large : Bool). cond large (TooLarge 0) (status_for (outcome bytes))) small ∙ ap status_for (script_runs bytes whole world is ran)
