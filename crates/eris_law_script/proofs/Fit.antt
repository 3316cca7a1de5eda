-- WHAT A SCRIPT SAYS IS FIT, since each line is read as an event in the ranges of events; so whatever the script, its run is good.
use Rattle.std.proofs.Common.{◌≡◌, ℕ, zero, suc, ◌+◌, List, [], ◌∷◌, ◌++◌, Ok, Err, Some, Result, replicate, refl, subst}
use Rattle.eris_base.specs.ConfigLimits.{ConfigValue}
use Rattle.eris_base.proofs.Each.{Each-append}
use Rattle.eris_event.specs.declared.event.Event.{Event}
use Rattle.eris_event.specs.declared.event.Event.TheVariants as event
use Rattle.eris_grammar.specs.declared.header.Header.{Header}
use Rattle.eris_grammar.specs.declared.line.Line.{Line}
use Rattle.eris_grammar.specs.declared.line.Line.TheVariants as line
use Rattle.eris_words.specs.declared.reason.Reason.{Reason}
use Rattle.eris_words.specs.Cuts.{lines}
use Rattle.eris_grammar.specs.Headers.{header_of}
use Rattle.eris_grammar.specs.LineForms.{line_of}
use Rattle.eris_grammar.specs.Scripts.{BadLine, Script, events_from, events_of, script, script_in, with_config, with_events}
use Rattle.eris_grammar.proofs.SpellingLaws.{read_as_spelled}
use Rattle.eris_law_course.specs.Accepted.{AreEventsFit, IsEventFit}
use Rattle.eris_rules.specs.Good.{Good}
use Rattle.eris_rules.specs.Runs.{run}
use Rattle.eris_rules.specs.Worlds.{WorldState}
use Rattle.eris_law_good.proofs.Goodness.{good_run}
use Rattle.eris_law_good.proofs.Ranged.{ranged_fits}

same_each : (n : ℕ) (one : Event) → IsEventFit one → AreEventsFit (replicate n one)
same_each zero one h = tt
same_each (suc n) one h = (h, same_each n one h)

-- a line's events
pub line_fits : (version : ℕ) (text : List ℕ) (said : Line) → line_of version text ≡ Ok said → AreEventsFit (events_of said)
line_fits version text line.Skip h = tt
line_fits version text (line.One one) h = (ranged_fits version one (((read_as_spelled version text).events one).0 h).fits, tt)
line_fits version text (line.Flow times) h = same_each times event.Flow tt
line_fits version text (line.Lose times) h = same_each times event.Lose tt

with_fit : (events more : List Event) (read : Result (List Event) BadLine) → AreEventsFit events → ((rest : List Event) → read ≡ Ok rest → AreEventsFit rest) → with_events events read ≡ Ok more → AreEventsFit more
with_fit events more (Ok rest) fit fits h = let is : events ++ rest ≡ more = cc in subst AreEventsFit is (Each-append IsEventFit events rest fit (fits rest refl))
with_fit events more (Err bad) fit fits h = absurd (cc)

from_fit : (version number : ℕ) (texts : List (List ℕ)) (events : List Event) → events_from version number texts ≡ Ok events → AreEventsFit events
unfolding events_from
from_fit version number [] events h = let is : [] ≡ events = cc in subst AreEventsFit is tt
from_fit version number (text ∷ texts) events h = by_line (line_of version text) refl h (λ rest k. from_fit version (number + 1) texts rest k)
  where
    by_line : (found : Result Line Reason) → line_of version text ≡ found
        → ◌≡◌ {A = Result (List Event) BadLine} (elim found [ Ok said ↦ with_events (events_of said) (events_from version (number + 1) texts) | Err why ↦ Err (record { line = number; reason = why }) ]) (Ok events)
        → ((rest : List Event) → events_from version (number + 1) texts ≡ Ok rest → AreEventsFit rest) → AreEventsFit events
    by_line (Ok said) e k rest = with_fit (events_of said) events (events_from version (number + 1) texts) (line_fits version text said e) rest k
    by_line (Err why) e k rest = absurd (cc)

config_fit : (config : ConfigValue) (read : Result (List Event) BadLine) (whole : Script) → ((events : List Event) → read ≡ Ok events → AreEventsFit events) → with_config config read ≡ Ok whole → AreEventsFit whole.events
config_fit config (Ok events) whole fits h = let is : record { config = config; events = events } ≡ whole = cc in subst (λ (s : Script). AreEventsFit s.events) is (fits events refl)
config_fit config (Err bad) whole fits h = absurd (cc)

-- THE EVENTS OF A SCRIPT are fit
pub script_fits : (bytes : List ℕ) (whole : Script) → script bytes ≡ Ok whole → AreEventsFit whole.events
unfolding script
script_fits bytes whole h = by_lines (lines bytes) h
  where
    by_header : (texts : List (List ℕ)) (found : Result Header Reason)
        → ◌≡◌ {A = Result Script BadLine} (elim found [ Ok header ↦ with_config header.config (events_from header.version 2 texts) | Err why ↦ Err (record { line = 1; reason = why }) ]) (Ok whole) → AreEventsFit whole.events
    by_header texts (Ok header) k = config_fit header.config (events_from header.version 2 texts) whole (λ events e. from_fit header.version 2 texts events e) k
    by_header texts (Err why) k = absurd (cc)

    by_lines : (texts : List (List ℕ)) → script_in texts ≡ Ok whole → AreEventsFit whole.events
    by_lines [] k = absurd (cc)
    by_lines (first ∷ texts) k = by_header texts (header_of first) k

-- whatever the script: it owes nothing more
pub good_script : (bytes : List ℕ) (whole : Script) (world : WorldState) → script bytes ≡ Ok whole → run whole.config whole.events ≡ Some world → Good world
good_script bytes whole world said h = good_run whole.config whole.events (script_fits bytes whole said) world h
