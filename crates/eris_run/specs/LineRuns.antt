-- How the lines of a script take a world on.
use Rattle.std.specs.Prelude.{◌≡◌, ℕ, ◌+◌, ◌≤◌, ⊤, false, None, Some, List, [], ◌∷◌, length, Result, Ok, Err}
use Rattle.eris_base.specs.ConfigLimits.{ConfigValue}
use Rattle.eris_event.specs.declared.event.Event.{Event}
use Rattle.eris_event.specs.declared.event.Event.TheVariants as event
use Rattle.eris_grammar.specs.declared.line.Line.{Line}
use Rattle.eris_grammar.specs.declared.line.Line.TheVariants as line
use Rattle.eris_words.specs.Cuts.{lines}
use Rattle.eris_grammar.specs.Scripts.{Script, script}
use Rattle.eris_rules.specs.ClientStates.{ClientState}
use Rattle.eris_rules.specs.Refusals.{limit_met}
use Rattle.eris_rules.specs.Runs.{run}
use Rattle.eris_rules.specs.Worlds.{WorldState, first_world}
use Rattle.eris_world.specs.WorldValues.{EventFits, WorldValue}
use Rattle.eris_status.specs.declared.refused.Refused.{Refused}
use Rattle.eris_status.specs.declared.refused.Stop.{Stop}
use Rattle.eris_status.specs.declared.refused.Stop.TheVariants as stops
use Rattle.eris_run.specs.ScriptRuns.{after_events, after_line, after_lines, outcome}

-- what holds where a line was refused
abbrev pub IfRefused : Stop → (Refused → Type 0) → Type 0
IfRefused (stops.Refused refused) P = P refused
IfRefused stops.NoMemory P = ⊤

-- the run stops as the rules say; where memory ran out they say nothing
abbrev pub IsStopOf : {A : Type 0} → Result A Stop → Stop → Type 0
IsStopOf found (stops.Refused refused) = found ≡ Err (stops.Refused refused)
IsStopOf found stops.NoMemory = ⊤

-- how much all clients submitted
abbrev pub submissions : List ClientState → ℕ
submissions [] = 0
submissions (client ∷ clients) = client.submitted + submissions clients

-- how many submissions there were, and how many sequencers
abbrev pub begun : WorldState → ℕ
begun world = submissions world.clients + length world.stampings

-- a world that can go on, and has sent no more than may be sent
pub record IsFine (world : WorldValue) : Type 0 where
  pub unspent : world.spent ≡ false
  pub within : limit_met world.state.sent ≡ None

-- how many submissions and sequencers an event may add
abbrev pub cost : Event → ℕ
cost event.Flow = 0
cost event.Lose = 0
cost other = 1

-- a world took events, which added at most so many submissions and sequencers
pub record Takes (before after : WorldValue) (events : List Event) (most : ℕ) : Type 0 where
  pub ran : after_events before.config before.state events ≡ Ok after.state
  pub same : after.config ≡ before.config
  pub fine : IsFine after
  pub few : begun after.state ≤ begun before.state + most

-- what a line says is in the ranges of the grammar
abbrev pub LineFits : Line → Type 0
LineFits line.Skip = ⊤
LineFits (line.One event) = EventFits event
LineFits (line.Flow times) = ⊤
LineFits (line.Lose times) = ⊤

-- a world took the line of this number
pub record TakesLine (version number : ℕ) (before after : WorldValue) (text : List ℕ) : Type 0 where
  pub ran : after_line version before.config number before.state text ≡ Ok after.state
  pub same : after.config ≡ before.config
  pub fine : IsFine after
  pub few : begun after.state ≤ begun before.state + 1

-- a world took the lines behind a header
pub record TakesLines (version : ℕ) (before after : WorldValue) (text : List ℕ) : Type 0 where
  pub ran : after_lines version before.config 2 before.state (lines text) ≡ Ok after.state
  pub same : after.config ≡ before.config
  pub unspent : after.spent ≡ false

-- a world as it begins
abbrev pub begins : ConfigValue → WorldValue
begins config = record { config = config; state = first_world config; spent = false }

-- the world is that after the script
pub record IsAfterScript (text : List ℕ) (world : WorldValue) : Type 0 where
  pub ran : outcome text ≡ Ok (record { config = world.config; world = world.state })
  pub unspent : world.spent ≡ false

-- the bytes are a script, and the world is that after its events
pub record IsWorldOf (text : List ℕ) (world : WorldValue) : Type 0 where
  pub whole : Script
  pub is_script : script text ≡ Ok whole
  pub config : world.config ≡ whole.config
  pub ran : run whole.config whole.events ≡ Some world.state
  pub unspent : world.spent ≡ false
