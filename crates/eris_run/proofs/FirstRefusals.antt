-- What a run refuses is the first line that is refused, and has a number above 0. Used where a refused script is told.
use Rattle.std.proofs.Common.{◌≡◌, inl, inr, ℕ, ◌+◌, ◌<◌, Option, Some, None, Result, Ok, Err, IfErr, List, [], ◌∷◌, ◌++◌, length, ap, sym, ◌∙◌, refl, arith}
use Rattle.eris_base.specs.ConfigLimits.{ConfigValue}
use Rattle.eris_event.specs.declared.event.Event.{Event}
use Rattle.eris_grammar.specs.declared.header.Header.{Header}
use Rattle.eris_grammar.specs.declared.line.Line.{Line}
use Rattle.eris_words.specs.declared.reason.Reason.{Reason}
use Rattle.eris_words.specs.declared.reason.Reason.TheVariants as reasons
use Rattle.eris_words.specs.Cuts.{lines, words}
use Rattle.eris_grammar.specs.Headers.{header_of}
use Rattle.eris_grammar.specs.LineForms.{line_of}
use Rattle.eris_grammar.specs.Scripts.{BadLine, events_from, events_of, with_events}
use Rattle.eris_event.specs.declared.refusal.Refusal.{Refusal}
use Rattle.eris_rules.specs.Happenings.{happens}
use Rattle.eris_rules.specs.Refusals.{refusal}
use Rattle.eris_rules.specs.Runs.{run}
use Rattle.eris_rules.specs.Worlds.{WorldState, first_world}
use Rattle.eris_status.specs.declared.refused.Refused.{Refused}
use Rattle.eris_status.specs.declared.refused.Stop.{Stop}
use Rattle.eris_status.specs.declared.refused.Stop.TheVariants as stops
use Rattle.eris_status.specs.declared.refused.Why.{Why}
use Rattle.eris_status.specs.declared.refused.Why.TheVariants as whys
use Rattle.eris_run.specs.FirstRefused.{IsFirstRefused, RefusesBehind, RefusesEvent, RefusesHeader, RefusesText, first_of}
use Rattle.eris_run.specs.LineRuns.{IfRefused, IsStopOf}
use Rattle.eris_run.specs.ScriptRuns.{Ran, after_event, after_events, after_header, after_line, after_lines, after_read, after_said, after_text, outcome, ran_in, told, unless}
use Rattle.eris_status.specs.Stops.{stop_for, why_of}
use Rattle.eris_run.proofs.EventRuns.{after_append}
use Rattle.eris_run.proofs.ScriptLaws.{line_taken, ran_is}

-- ---- the first event that is refused
found_cause : (config : ConfigValue) (w : WorldState) (event : Event) (cause : Refusal) → after_event config w event ≡ Err cause → refusal config w event ≡ Some cause
unfolding after_event
found_cause config w event cause refused = of_refusal (refusal config w event) refused
  where
    of_refusal : (found : Option Refusal) → unless found (happens config w event) ≡ Err cause → found ≡ Some cause
    of_refusal None same = absurd cc
    of_refusal (Some why) same = let is : why ≡ cause = cc in ap (λ (r : Refusal). Some r) is

record Among (config : ConfigValue) (w : WorldState) (events : List Event) (cause : Refusal) : Type 0 where
  front : List Event
  event : Event
  back : List Event
  cut : events ≡ front ++ event ∷ back
  before : WorldState
  ran : after_events config w front ≡ Ok before
  found : refusal config before event ≡ Some cause

among : (config : ConfigValue) (w : WorldState) (events : List Event) (cause : Refusal) → after_events config w events ≡ Err cause → Among config w events cause
unfolding after_events
among config w [] cause refused = absurd cc
among config w (event ∷ events) cause refused = of_first (after_event config w event) refl (λ next. among config next events cause) refused
  where
    of_first : (first : Result WorldState Refusal) → after_event config w event ≡ first
        → ((next : WorldState) → after_events config next events ≡ Err cause → Among config next events cause)
        → (elim first as (λ _. Result WorldState Refusal) [ Ok next ↦ after_events config next events | Err why ↦ Err why ]) ≡ Err cause
        → Among config w (event ∷ events) cause
    of_first (Ok next) is later same =
        let rest = later next same in
        record {
          front = event ∷ rest.front;
          event = rest.event;
          back = rest.back;
          cut = ap (λ (more : List Event). event ∷ more) rest.cut;
          before = rest.before;
          ran =
              ap (λ (first : Result WorldState Refusal). elim first as (λ _. Result WorldState Refusal) [ Ok v ↦ after_events config v rest.front | Err why ↦ Err why ]) is
              ∙ rest.ran;
          found = rest.found;
        }
    of_first (Err why) is later same =
        let equal : why ≡ cause = cc in
        record {
          front = [];
          event = event;
          back = events;
          cut = refl;
          before = w;
          ran = refl;
          found = found_cause config w event cause (is ∙ ap (λ (r : Refusal). Err r) equal);
        }

event_refused : (config : ConfigValue) (w : WorldState) (events : List Event) (cause : Refusal) → after_events config w events ≡ Err cause → RefusesEvent config w events cause
event_refused config w events cause refused =
    let found = among config w events cause refused in
    record {
      front = found.front;
      event = found.event;
      back = found.back;
      cut = found.cut;
      before = found.before;
      ran = ran_is config w found.before found.front found.ran;
      found = found.found;
    }

-- ---- why a line is refused
-- the line of this number is refused, for this cause
record RefusesHere (number : ℕ) (found : Option Why) (refused : Refused) : Type 0 where
  here : refused.line ≡ number
  told : found ≡ Some refused.why

refuses_here : (number : ℕ) (found : Option Why) (refused : Refused) → ◌≡◌ {A = Result WorldState Stop} (Err (stop_for number found)) (Err (stops.Refused refused)) → RefusesHere number found refused
refuses_here number None refused same = absurd cc
refuses_here number (Some why) refused same =
    let equal : record { line = number; why = why } ≡ refused = cc in
    record { here = sym (ap (λ (r : Refused). r.line) equal); told = ap (λ (r : Refused). Some r.why) equal }

said_refused : (version : ℕ) (config : ConfigValue) (number : ℕ) (w : WorldState) (text : List ℕ) (said : Line) (refused : Refused) → line_of version text ≡ Ok said
    → (ran : Result WorldState Refusal) → after_events config w (events_of said) ≡ ran → told number ran ≡ Err (stops.Refused refused)
    → (refused.line ≡ number) × RefusesText version config w text refused.why
said_refused version config number w text said refused read (Ok next) is same = absurd cc
said_refused version config number w text said refused read (Err cause) is same =
    let found = refuses_here number (why_of cause) refused same in
    (found.here, inr (record { said = said; read = read; cause = cause; refused = event_refused config w (events_of said) cause is; told = found.told }))

text_refused : (version : ℕ) (config : ConfigValue) (number : ℕ) (w : WorldState) (text : List ℕ) (refused : Refused) → after_line version config number w text ≡ Err (stops.Refused refused)
    → (refused.line ≡ number) × RefusesText version config w text refused.why
unfolding after_line after_said
text_refused version config number w text refused found = of_read (line_of version text) refl found
  where
    of_read : (read : Result Line Reason) → line_of version text ≡ read → after_read config number w read ≡ Err (stops.Refused refused)
        → (refused.line ≡ number) × RefusesText version config w text refused.why
    of_read (Ok said) is same = said_refused version config number w text said refused is (after_events config w (events_of said)) refl same
    of_read (Err reason) is same =
        let equal : record { line = number; why = whys.Reason reason } ≡ refused = cc in
        (sym (ap (λ (r : Refused). r.line) equal), inl (record { reason = reason; found = is; told = sym (ap (λ (r : Refused). r.why) equal) }))

-- ---- the first line that is refused, of lines from this number on
record AmongLines (version : ℕ) (config : ConfigValue) (number : ℕ) (w : WorldState) (texts : List (List ℕ)) (refused : Refused) : Type 0 where
  front : List (List ℕ)
  text : List ℕ
  back : List (List ℕ)
  cut : texts ≡ front ++ text ∷ back
  here : refused.line ≡ length front + number
  events : List Event
  says : events_from version number front ≡ Ok events
  world : WorldState
  ran : after_events config w events ≡ Ok world
  refuses : RefusesText version config world text refused.why

among_lines : (version : ℕ) (config : ConfigValue) (number : ℕ) (w : WorldState) (texts : List (List ℕ)) (refused : Refused) → after_lines version config number w texts ≡ Err (stops.Refused refused) → AmongLines version config number w texts refused
unfolding after_lines events_from after_events
among_lines version config number w [] refused found = absurd cc
among_lines version config number w (text ∷ texts) refused found = of_line (after_line version config number w text) refl (λ next. among_lines version config (number + 1) next texts refused) found
  where
    of_line : (here : Result WorldState Stop) → after_line version config number w text ≡ here
        → ((next : WorldState) → after_lines version config (number + 1) next texts ≡ Err (stops.Refused refused) → AmongLines version config (number + 1) next texts refused)
        → (elim here as (λ _. Result WorldState Stop) [ Ok next ↦ after_lines version config (number + 1) next texts | Err stop ↦ Err stop ]) ≡ Err (stops.Refused refused)
        → AmongLines version config number w (text ∷ texts) refused
    of_line (Ok next) is later same =
        let one = line_taken version config number w next text is in
        let rest = later next same in
        let at : refused.line ≡ length rest.front + (number + 1) = rest.here in
        record {
          front = text ∷ rest.front;
          text = rest.text;
          back = rest.back;
          cut = ap (λ (more : List (List ℕ)). text ∷ more) rest.cut;
          here = omega arith;
          events = events_of one.said ++ rest.events;
          says =
              ap (λ (read : Result Line Reason). elim read as (λ _. Result (List Event) BadLine) [ Ok said ↦ with_events (events_of said) (events_from version (number + 1) rest.front) | Err why ↦ Err (record { line = number; reason = why }) ]) one.says
              ∙ ap (with_events (events_of one.said)) rest.says;
          world = rest.world;
          ran = after_append config w next (events_of one.said) rest.events one.ran ∙ rest.ran;
          refuses = rest.refuses;
        }
    of_line (Err stop) is later same =
        let found = text_refused version config number w text refused (is ∙ same) in
        record {
          front = [];
          text = text;
          back = texts;
          cut = refl;
          here = let at : refused.line ≡ number = found.0 in omega arith;
          events = [];
          says = refl;
          world = w;
          ran = refl;
          refuses = found.1;
        }

-- ---- of a whole script
behind : (bytes first : List ℕ) (texts : List (List ℕ)) (header : Header) (refused : Refused) → lines bytes ≡ first ∷ texts → header_of first ≡ Ok header
    → after_lines header.version header.config 2 (first_world header.config) texts ≡ Err (stops.Refused refused) → RefusesBehind bytes refused.line refused.why
unfolding run
behind bytes first texts header refused cut is_header found =
    let rest = among_lines header.version header.config 2 (first_world header.config) texts refused found in
    record {
      first = first;
      front = rest.front;
      text = rest.text;
      back = rest.back;
      cut = cut ∙ ap (λ (more : List (List ℕ)). first ∷ more) rest.cut;
      here = rest.here;
      header = header;
      is_header = is_header;
      events = rest.events;
      says = rest.says;
      world = rest.world;
      ran = ran_is header.config (first_world header.config) rest.world rest.events rest.ran;
      refused = rest.refuses;
    }

err_in : (config : ConfigValue) (ran : Result WorldState Stop) (stop : Stop) → ran_in config ran ≡ Err stop → ran ≡ Err stop
err_in config (Ok v) stop same = absurd cc
err_in config (Err other) stop same = let equal : other ≡ stop = cc in ap (λ (s : Stop). Err s) equal

at_header : (bytes : List ℕ) (texts : List (List ℕ)) (reason : Reason) (refused : Refused) → lines bytes ≡ texts → header_of (first_of texts) ≡ Err reason
    → ◌≡◌ {A = Result Ran Stop} (Err (stops.Refused (record { line = 1; why = whys.Reason reason }))) (Err (stops.Refused refused)) → RefusesHeader bytes refused.line refused.why
at_header bytes texts reason refused cut is same =
    let equal : record { line = 1; why = whys.Reason reason } ≡ refused = cc in
    record {
      here = sym (ap (λ (r : Refused). r.line) equal);
      reason = reason;
      found = ap (λ (some : List (List ℕ)). header_of (first_of some)) cut ∙ is;
      told = sym (ap (λ (r : Refused). r.why) equal);
    }

abbrev none_named : Result Header Reason
none_named = Err reasons.Header

no_header : header_of [] ≡ none_named
unfolding header_of words
no_header = refl

of_texts : (bytes : List ℕ) (texts : List (List ℕ)) (refused : Refused) → lines bytes ≡ texts → after_text texts ≡ Err (stops.Refused refused) → IsFirstRefused bytes refused.line refused.why
of_texts bytes [] refused cut found = inl (at_header bytes [] reasons.Header refused cut no_header found)
of_texts bytes (first ∷ texts) refused cut found = of_header (header_of first) refl found
  where
    of_header : (read : Result Header Reason) → header_of first ≡ read → after_header read texts ≡ Err (stops.Refused refused) → IsFirstRefused bytes refused.line refused.why
    of_header (Ok header) is same =
        inr (behind bytes first texts header refused cut is (err_in header.config (after_lines header.version header.config 2 (first_world header.config) texts) (stops.Refused refused) same))
    of_header (Err reason) is same = inl (at_header bytes (first ∷ texts) reason refused cut is same)

-- WHAT IS REFUSED is the first line that is
pub first_refused : (bytes : List ℕ) (refused : Refused) → outcome bytes ≡ Err (stops.Refused refused) → IsFirstRefused bytes refused.line refused.why
unfolding outcome
first_refused bytes refused found = of_texts bytes (lines bytes) refused refl found

first_at_stop : (bytes : List ℕ) (stop : Stop) → IsStopOf (outcome bytes) stop → IfRefused stop (λ refused. IsFirstRefused bytes refused.line refused.why)
first_at_stop bytes (stops.Refused refused) found = first_refused bytes refused found
first_at_stop bytes stops.NoMemory found = tt

pub first_at_end : {X : Type 0} (bytes : List ℕ) (result : Result X Stop) → IfErr result (IsStopOf (outcome bytes))
    → IfErr result (λ stop. IfRefused stop (λ refused. IsFirstRefused bytes refused.line refused.why))
first_at_end bytes (Ok world) found = tt
first_at_end bytes (Err stop) found = first_at_stop bytes stop found

-- and its number is above 0
pub first_above : (bytes : List ℕ) (line : ℕ) (why : Why) → IsFirstRefused bytes line why → 0 < line
first_above bytes line why (inl header) = let here = header.here in omega arith
first_above bytes line why (inr behind) = let here = behind.here in omega arith
