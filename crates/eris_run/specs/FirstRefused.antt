-- THE FIRST LINE OF A SCRIPT THAT IS REFUSED, in the words of the grammar and of the world's rules: all before it is read and
-- taken; and it isn't read itself, or one of its events is refused.
use Rattle.std.specs.Prelude.{◌≡◌, ◌⊎◌, ℕ, ◌+◌, Some, Ok, Err, List, [], ◌∷◌, ◌++◌, length}
use Rattle.eris_base.specs.ConfigLimits.{ConfigValue}
use Rattle.eris_event.specs.declared.event.Event.{Event}
use Rattle.eris_grammar.specs.declared.header.Header.{Header}
use Rattle.eris_grammar.specs.declared.line.Line.{Line}
use Rattle.eris_words.specs.declared.reason.Reason.{Reason}
use Rattle.eris_words.specs.Cuts.{lines}
use Rattle.eris_grammar.specs.Headers.{header_of}
use Rattle.eris_grammar.specs.LineForms.{line_of}
use Rattle.eris_grammar.specs.Scripts.{events_from, events_of}
use Rattle.eris_event.specs.declared.refusal.Refusal.{Refusal}
use Rattle.eris_rules.specs.Refusals.{refusal}
use Rattle.eris_rules.specs.Runs.{run, run_from}
use Rattle.eris_rules.specs.Worlds.{WorldState}
use Rattle.eris_status.specs.declared.refused.Why.{Why}
use Rattle.eris_status.specs.declared.refused.Why.TheVariants as whys
use Rattle.eris_status.specs.Stops.{why_of}

-- the first of these events are taken, and the next is refused
pub record RefusesEvent (config : ConfigValue) (world : WorldState) (events : List Event) (cause : Refusal) : Type 0 where
  pub front : List Event
  pub event : Event
  pub back : List Event
  pub cut : events ≡ front ++ event ∷ back
  pub before : WorldState
  pub ran : run_from config (Some world) front ≡ Some before
  pub found : refusal config before event ≡ Some cause

-- the line is of no form
pub record IsUnread (version : ℕ) (text : List ℕ) (why : Why) : Type 0 where
  pub reason : Reason
  pub found : line_of version text ≡ Err reason
  pub told : why ≡ whys.Reason reason

-- the line is read, and the world refuses one of its events
pub record IsUntaken (version : ℕ) (config : ConfigValue) (world : WorldState) (text : List ℕ) (why : Why) : Type 0 where
  pub said : Line
  pub read : line_of version text ≡ Ok said
  pub cause : Refusal
  pub refused : RefusesEvent config world (events_of said) cause
  pub told : why_of cause ≡ Some why

abbrev pub RefusesText : ℕ → ConfigValue → WorldState → List ℕ → Why → Type 0
RefusesText version config world text why = IsUnread version text why ⊎ IsUntaken version config world text why

abbrev pub first_of : List (List ℕ) → List ℕ
first_of [] = []
first_of (first ∷ texts) = first

-- the first line is no header
pub record RefusesHeader (bytes : List ℕ) (line : ℕ) (why : Why) : Type 0 where
  pub here : line ≡ 1
  pub reason : Reason
  pub found : header_of (first_of (lines bytes)) ≡ Err reason
  pub told : why ≡ whys.Reason reason

-- the lines between the header and this one say events, which are taken; and this one is refused
pub record RefusesBehind (bytes : List ℕ) (line : ℕ) (why : Why) : Type 0 where
  pub first : List ℕ
  pub front : List (List ℕ)
  pub text : List ℕ
  pub back : List (List ℕ)
  pub cut : lines bytes ≡ first ∷ front ++ text ∷ back
  pub here : line ≡ length front + 2
  pub header : Header
  pub is_header : header_of first ≡ Ok header
  pub events : List Event
  pub says : events_from header.version 2 front ≡ Ok events
  pub world : WorldState
  pub ran : run header.config events ≡ Some world
  pub refused : RefusesText header.version header.config world text why

abbrev pub IsFirstRefused : List ℕ → ℕ → Why → Type 0
IsFirstRefused bytes line why = RefusesHeader bytes line why ⊎ RefusesBehind bytes line why
