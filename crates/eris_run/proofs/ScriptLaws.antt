-- A script that runs to its end is one of the grammar, and its events lead to the world that is left.
use Rattle.std.proofs.Common.{◌≡◌, ℕ, ◌+◌, Option, Some, None, Result, Ok, Err, List, [], ◌∷◌, ◌++◌, ap, sym, ◌∙◌, refl}
use Rattle.eris_base.specs.ConfigLimits.{ConfigValue}
use Rattle.eris_event.specs.declared.event.Event.{Event}
use Rattle.eris_grammar.specs.declared.header.Header.{Header}
use Rattle.eris_grammar.specs.declared.line.Line.{Line}
use Rattle.eris_words.specs.declared.reason.Reason.{Reason}
use Rattle.eris_words.specs.Cuts.{lines}
use Rattle.eris_grammar.specs.Headers.{header_of}
use Rattle.eris_grammar.specs.LineForms.{line_of}
use Rattle.eris_grammar.specs.Scripts.{BadLine, Script, events_from, events_of, script, script_in, with_config, with_events}
use Rattle.eris_event.specs.declared.refusal.Refusal.{Refusal}
use Rattle.eris_rules.specs.Happenings.{happens}
use Rattle.eris_rules.specs.Refusals.{refusal}
use Rattle.eris_rules.specs.Runs.{run, run_from, taken_by, world_after}
use Rattle.eris_rules.specs.Worlds.{WorldState, first_world}
use Rattle.eris_world.specs.WorldValues.{WorldValue}
use Rattle.eris_status.specs.declared.refused.Stop.{Stop}
use Rattle.eris_run.specs.LineRuns.{IsAfterScript, IsWorldOf}
use Rattle.eris_run.specs.ScriptRuns.{Ran, after_event, after_events, after_header, after_line, after_lines, after_read, after_said, after_text, outcome, ran_in, told, unless}
use Rattle.eris_run.proofs.EventRuns.{after_append}

-- ---- a run with causes is a run
one_is : (config : ConfigValue) (w next : WorldState) (event : Event) → after_event config w event ≡ Ok next → world_after config w event ≡ Some next
unfolding after_event world_after
one_is config w next event took = of_refusal (refusal config w event) took
  where
    of_refusal : (found : Option Refusal) → unless found (happens config w event) ≡ Ok next → taken_by (happens config w event) found ≡ Some next
    of_refusal None same = cc
    of_refusal (Some why) same = absurd cc

pub ran_is : (config : ConfigValue) (w v : WorldState) (events : List Event) → after_events config w events ≡ Ok v → run_from config (Some w) events ≡ Some v
unfolding after_events run_from
ran_is config w v [] ran = let same : w ≡ v = cc in ap (λ (u : WorldState). Some u) same
ran_is config w v (event ∷ events) ran = of_first (after_event config w event) refl ran (λ next rest. ran_is config next v events rest)
  where
    of_first : (first : Result WorldState Refusal) → after_event config w event ≡ first
        → (elim first as (λ _. Result WorldState Refusal) [ Ok next ↦ after_events config next events | Err why ↦ Err why ]) ≡ Ok v
        → ((next : WorldState) → after_events config next events ≡ Ok v → run_from config (Some next) events ≡ Some v)
        → run_from config (world_after config w event) events ≡ Some v
    of_first (Ok next) is rest later = ap (λ (found : Option WorldState). run_from config found events) (one_is config w next event is) ∙ later next rest
    of_first (Err why) is rest later = absurd cc

-- ---- lines that were taken say events that were
told_ok : (number : ℕ) (ran : Result WorldState Refusal) (v : WorldState) → told number ran ≡ Ok v → ran ≡ Ok v
told_ok number (Ok next) v same = let is : next ≡ v = cc in ap (λ (w : WorldState). Ok w) is
told_ok number (Err why) v same = absurd cc

pub record LineTaken (version : ℕ) (config : ConfigValue) (w v : WorldState) (text : List ℕ) : Type 0 where
  pub said : Line
  pub says : line_of version text ≡ Ok said
  pub ran : after_events config w (events_of said) ≡ Ok v

pub line_taken : (version : ℕ) (config : ConfigValue) (number : ℕ) (w v : WorldState) (text : List ℕ) → after_line version config number w text ≡ Ok v → LineTaken version config w v text
unfolding after_line after_said
line_taken version config number w v text took = of_read (line_of version text) refl took
  where
    of_read : (read : Result Line Reason) → line_of version text ≡ read → after_read config number w read ≡ Ok v → LineTaken version config w v text
    of_read (Ok said) is ran = record { said = said; says = is; ran = told_ok number (after_events config w (events_of said)) v ran }
    of_read (Err reason) is ran = absurd cc

record LinesTaken (version : ℕ) (config : ConfigValue) (number : ℕ) (w v : WorldState) (texts : List (List ℕ)) : Type 0 where
  events : List Event
  says : events_from version number texts ≡ Ok events
  ran : after_events config w events ≡ Ok v

lines_taken : (version : ℕ) (config : ConfigValue) (number : ℕ) (w v : WorldState) (texts : List (List ℕ)) → after_lines version config number w texts ≡ Ok v → LinesTaken version config number w v texts
unfolding after_lines events_from after_events
lines_taken version config number w v [] took = let same : w ≡ v = cc in record { events = []; says = refl; ran = ap (λ (z : WorldState). Ok z) same }
lines_taken version config number w v (text ∷ texts) took = of_line (after_line version config number w text) refl (λ next. lines_taken version config (number + 1) next v texts) took
  where
    of_line : (here : Result WorldState Stop) → after_line version config number w text ≡ here
        → ((next : WorldState) → after_lines version config (number + 1) next texts ≡ Ok v → LinesTaken version config (number + 1) next v texts)
        → (elim here as (λ _. Result WorldState Stop) [ Ok next ↦ after_lines version config (number + 1) next texts | Err stop ↦ Err stop ]) ≡ Ok v
        → LinesTaken version config number w v (text ∷ texts)
    of_line (Ok next) is later found =
        let one = line_taken version config number w next text is in
        let rest = later next found in
        record {
          events = events_of one.said ++ rest.events;
          says =
              ap (λ (read : Result Line Reason). elim read as (λ _. Result (List Event) BadLine) [ Ok said ↦ with_events (events_of said) (events_from version (number + 1) texts) | Err why ↦ Err (record { line = number; reason = why }) ]) one.says
              ∙ ap (with_events (events_of one.said)) rest.says;
          ran = after_append config w next (events_of one.said) rest.events one.ran ∙ rest.ran;
        }
    of_line (Err stop) is later found = absurd cc

-- A SCRIPT that ran to its end
pub record ScriptTaken (bytes : List ℕ) (ran : Ran) : Type 0 where
  pub whole : Script
  pub is_script : script bytes ≡ Ok whole
  pub config : ran.config ≡ whole.config
  pub runs : run whole.config whole.events ≡ Some ran.world

behind : (header : Header) (texts : List (List ℕ)) (ran : Ran) → ran_in header.config (after_lines header.version header.config 2 (first_world header.config) texts) ≡ Ok ran
    → (events : List Event) × (with_config header.config (events_from header.version 2 texts) ≡ Ok (record { config = header.config; events = events })) × (ran.config ≡ header.config) × (run header.config events ≡ Some ran.world)
unfolding run
behind header texts ran took = of_lines (after_lines header.version header.config 2 (first_world header.config) texts) refl took
  where
    of_lines : (found : Result WorldState Stop) → after_lines header.version header.config 2 (first_world header.config) texts ≡ found → ran_in header.config found ≡ Ok ran
        → (events : List Event) × (with_config header.config (events_from header.version 2 texts) ≡ Ok (record { config = header.config; events = events })) × (ran.config ≡ header.config) × (run header.config events ≡ Some ran.world)
    of_lines (Ok v) is same =
        let equal : record { config = header.config; world = v } ≡ ran = cc in
        let all = lines_taken header.version header.config 2 (first_world header.config) v texts is in (
          all.events,
          ap (with_config header.config) all.says,
          sym (ap (λ (r : Ran). r.config) equal),
          ran_is header.config (first_world header.config) v all.events all.ran ∙ ap (λ (r : Ran). Some r.world) equal,
        )
    of_lines (Err stop) is same = absurd cc

text_taken : (texts : List (List ℕ)) (ran : Ran) → after_text texts ≡ Ok ran → (whole : Script) × (script_in texts ≡ Ok whole) × (ran.config ≡ whole.config) × (run whole.config whole.events ≡ Some ran.world)
text_taken [] ran took = absurd cc
text_taken (first ∷ texts) ran took = of_header (header_of first) refl took
  where
    of_header : (read : Result Header Reason) → header_of first ≡ read → after_header read texts ≡ Ok ran
        → (whole : Script) × (script_in (first ∷ texts) ≡ Ok whole) × (ran.config ≡ whole.config) × (run whole.config whole.events ≡ Some ran.world)
    of_header (Ok header) is found =
        let all = behind header texts ran found in (
          record { config = header.config; events = all.0 },
          ap (λ (read : Result Header Reason). elim read as (λ _. Result Script BadLine) [ Ok head ↦ with_config head.config (events_from head.version 2 texts) | Err why ↦ Err (record { line = 1; reason = why }) ]) is ∙ all.1,
          all.2,
          all.3,
        )
    of_header (Err why) is found = absurd cc

pub script_taken : (bytes : List ℕ) (ran : Ran) → outcome bytes ≡ Ok ran → ScriptTaken bytes ran
unfolding outcome script
script_taken bytes ran took = let t = text_taken (lines bytes) ran took in record { whole = t.0; is_script = t.1; config = t.2; runs = t.3 }

pub world_of : (bytes : List ℕ) (world : WorldValue) → IsAfterScript bytes world → IsWorldOf bytes world
world_of bytes world after =
    let t = script_taken bytes (record { config = world.config; world = world.state }) after.ran in
    record { whole = t.whole; is_script = t.is_script; config = t.config; ran = t.runs; unspent = after.unspent }
