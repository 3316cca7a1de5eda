-- What the words of a line spell. An event has one spelling, but that the clauses of a plan may be mixed: its guards and its settings
-- keep their order among themselves.
use Rattle.std.specs.Prelude.{◌≡◌, ◌↔◌, ◌^◌, ◌<◌, ℕ, Ok, List, [], ◌∷◌, ◌++◌, map, codes, IsTrue}
use Rattle.std.specs.List.{flat_map}
use Rattle.eris_txn.specs.PlanValues.{PlanValue}
use Rattle.eris_grammar.specs.declared.clause.Clause.{Clause}
use Rattle.eris_event.specs.declared.event.Event.{Event}
use Rattle.eris_event.specs.declared.event.Event.TheVariants as event
use Rattle.eris_grammar.specs.declared.line.Line.TheVariants as line
use Rattle.eris_words.specs.Cuts.{is_skipped, words}
use Rattle.eris_words.specs.Decimal.{decimal}
use Rattle.eris_grammar.specs.EventText.{event_words}
use Rattle.eris_event.specs.EventRanges.{fits_event}
use Rattle.eris_grammar.specs.LineForms.{line_of}
use Rattle.eris_grammar.specs.PlanForms.{clause_words, guards_in, settings_in}
use Rattle.eris_words.specs.Words.{key_word}

-- `lock K K ; CLAUSE ; CLAUSE`
pub record SpellsPlan (words : List (List ℕ)) (plan : PlanValue) : Type 0 where
  pub clauses : List Clause
  pub spelled : words ≡ codes "lock" ∷ (map key_word plan.keys ++ flat_map (λ clause. codes ";" ∷ clause_words clause) clauses)
  pub guards : guards_in clauses ≡ plan.guards
  pub settings : settings_in clauses ≡ plan.settings

-- `general C` and a plan
pub record SpellsGeneral (words : List (List ℕ)) (client : ℕ) (plan : PlanValue) : Type 0 where
  pub behind : List (List ℕ)
  pub spelled : words ≡ codes "general" ∷ decimal client ∷ behind
  pub planned : SpellsPlan behind plan

-- the words of a line that is one event. A flow and a loss are lines of their own, since they have a count.
abbrev pub Spells : ℕ → List (List ℕ) → Event → Type 0
Spells version words (event.Submit client ops) = words ≡ event_words version (event.Submit client ops)
Spells version words (event.General client plan) = SpellsGeneral words client.0 plan
Spells version words (event.Retry client number) = words ≡ event_words version (event.Retry client number)
Spells version words (event.Abort asker id) = words ≡ event_words version (event.Abort asker id)
Spells version words (event.Deliver packet epoch) = words ≡ event_words version (event.Deliver packet epoch)
Spells version words event.Flow = ⊥
Spells version words event.Lose = ⊥
Spells version words (event.Probe shard replica) = words ≡ event_words version (event.Probe shard replica)
Spells version words (event.Suspect shard replica) = words ≡ event_words version (event.Suspect shard replica)
Spells version words (event.Sync shard replica) = words ≡ event_words version (event.Sync shard replica)
Spells version words (event.Crash shard replica) = words ≡ event_words version (event.Crash shard replica)
Spells version words event.Nudge = words ≡ event_words version event.Nudge
Spells version words event.Replace = words ≡ event_words version event.Replace
Spells version words (event.Noise node bytes) = words ≡ event_words version (event.Noise node bytes)

-- an event that the words spell, its fields in the ranges of the version
pub record Says (version : ℕ) (words : List (List ℕ)) (event : Event) : Type 0 where
  pub spelled : Spells version words event
  pub fits : IsTrue (fits_event version event)

-- a word and a count
pub record SaysTimes (words : List (List ℕ)) (word : List ℕ) (times : ℕ) : Type 0 where
  pub spelled : words ≡ word ∷ decimal times ∷ []
  pub fits : times < 2 ^ 32

-- a line is read as just what it spells
pub record IsReadAsSpelled (version : ℕ) (text : List ℕ) : Type 0 where
  pub skips : (line_of version text ≡ Ok line.Skip) ↔ IsTrue (is_skipped text)
  pub events : (event : Event) → (line_of version text ≡ Ok (line.One event)) ↔ Says version (words text) event
  pub flows : (times : ℕ) → (line_of version text ≡ Ok (line.Flow times)) ↔ SaysTimes (words text) (codes "flow") times
  pub loses : (times : ℕ) → (line_of version text ≡ Ok (line.Lose times)) ↔ SaysTimes (words text) (codes "lose") times
