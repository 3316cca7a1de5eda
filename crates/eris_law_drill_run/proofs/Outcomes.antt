-- WHAT COMES OF A DRILL: its lines are read, and its events have no cause to be refused, so a line is refused for a limit alone.
use Rattle.std.proofs.Common.{◌≡◌, ◌≤◌, ◌+◌, ℕ, Bool, true, false, cond, nat_lt, Option, Some, None, Result, Ok, Err, List, [], ◌∷◌, ◌++◌, length, refl, ap, sym, ◌∙◌, subst}
use Rattle.std.specs.List.{flat_map}
use Rattle.std.specs.Prelude.{⊤}
use Rattle.std.specs.Option.{option_or}
use Rattle.eris_base.specs.Each.{Each}
use Rattle.eris_base.specs.ConfigLimits.{ConfigValue}
use Rattle.eris_msg.specs.declared.outgoing.Outgoing.{Outgoing}
use Rattle.eris_event.specs.declared.event.Event.{Event}
use Rattle.eris_grammar.specs.declared.header.Header.{Header}
use Rattle.eris_grammar.specs.declared.line.Line.{Line}
use Rattle.eris_words.specs.declared.reason.Reason.{Reason}
use Rattle.eris_grammar.specs.Scripts.{Script, events_of}
use Rattle.eris_event.specs.declared.refusal.Refusal.{Refusal}
use Rattle.eris_event.specs.declared.refusal.Refusal.TheVariants as refusals
use Rattle.eris_rules.specs.Happenings.{happens}
use Rattle.eris_rules.specs.Refusals.{cause, frame_sizes, limit_met, refusal}
use Rattle.eris_rules.specs.Runs.{run}
use Rattle.eris_rules.specs.Worlds.{WorldState, first_world}
use Rattle.eris_event.specs.declared.limit.Limit.{Limit}
use Rattle.eris_event.specs.declared.limit.Limit.TheVariants as limits
use Rattle.eris_status.specs.declared.refused.Stop.{Stop}
use Rattle.eris_status.specs.declared.refused.Stop.TheVariants as stops
use Rattle.eris_status.specs.declared.refused.Why.{Why}
use Rattle.eris_status.specs.declared.refused.Why.TheVariants as whys
use Rattle.eris_run.specs.ScriptRuns.{Ran, after_event, after_events, after_header, after_line, after_lines, after_read, after_said, after_text, outcome, ran_in, told, unless}
use Rattle.eris_status.specs.Stops.{stop_for, why_of}
use Rattle.eris_run.proofs.ScriptLaws.{script_taken}
use Rattle.eris_drill.specs.DrillLines.{bank, drill_lines}
use Rattle.eris_drill.specs.DrillText.{drill_text, line_text}
use Rattle.eris_law_drill.specs.Reading.{IsRead, drill_events}
use Rattle.eris_law_drill.proofs.ReadLines.{drill_read, header_read}
use Rattle.eris_law_drill_run.specs.Takings.{AreTaken, after_all}
use Rattle.eris_law_drill_run.proofs.Money.{drill_taken}
use Rattle.eris_law_drill.proofs.DrillScripts.{drill_cut, drill_is_script, texts_of}

-- the cause is a limit
abbrev IsLimit : Option Why → Type 0
IsLimit found = (limit : Limit) × (found ≡ Some (whys.Limit limit))

-- ---- events
-- none is refused, or the first that is meets a limit
abbrev EndsWell : Result WorldState Refusal → WorldState → Type 0
EndsWell (Ok next) last = next ≡ last
EndsWell (Err cause) last = IsLimit (why_of cause)

met_limit : (sent : List Outgoing) (found : Option Refusal) → limit_met sent ≡ found → (next : WorldState) → EndsWell (unless found next) next
unfolding limit_met
met_limit sent found is next = by_tests (nat_lt 262144 (length sent)) (nat_lt 67108864 (frame_sizes sent)) is
  where
    by_tests : (many large : Bool) → cond many (Some refusals.Packets) (cond large (Some refusals.Bytes) None) ≡ found → EndsWell (unless found next) next
    by_tests true large same = subst (λ (one : Option Refusal). EndsWell (unless one next) next) same (limits.Packets, refl)
    by_tests false true same = subst (λ (one : Option Refusal). EndsWell (unless one next) next) same (limits.Bytes, refl)
    by_tests false false same = subst (λ (one : Option Refusal). EndsWell (unless one next) next) same refl

event_ends : (config : ConfigValue) (world : WorldState) (event : Event) → cause config world event ≡ None → EndsWell (after_event config world event) (happens config world event)
unfolding after_event refusal
event_ends config world event free =
    subst (λ (found : Option Refusal). EndsWell (unless (option_or found (limit_met (happens config world event).sent)) (happens config world event)) (happens config world event)) (sym free)
    (met_limit (happens config world event).sent (limit_met (happens config world event).sent) refl (happens config world event))

events_end : (config : ConfigValue) (world : WorldState) (events : List Event) → AreTaken config world events → EndsWell (after_events config world events) (after_all config world events)
unfolding after_events
events_end config world [] all = refl
events_end config world (event ∷ events) all =
    by_first (after_event config world event) (event_ends config world event all.0) (events_end config (happens config world event) events all.1)
  where
    by_first : (here : Result WorldState Refusal) → EndsWell here (happens config world event) → EndsWell (after_events config (happens config world event) events) (after_all config (happens config world event) events)
        → EndsWell (elim here [ Ok next ↦ after_events config next events | Err cause ↦ Err cause ]) (after_all config (happens config world event) events)
    by_first (Ok next) first more = subst (λ (now : WorldState). EndsWell (after_events config now events) (after_all config (happens config world event) events)) (sym first) more
    by_first (Err why) first more = first

taken_front : (config : ConfigValue) (world : WorldState) (events more : List Event) → AreTaken config world (events ++ more) → AreTaken config world events
taken_front config world [] more all = tt
taken_front config world (event ∷ events) more all = (all.0, taken_front config (happens config world event) events more all.1)

taken_back : (config : ConfigValue) (world : WorldState) (events more : List Event) → AreTaken config world (events ++ more) → AreTaken config (after_all config world events) more
taken_back config world [] more all = all
taken_back config world (event ∷ events) more all = taken_back config (happens config world event) events more all.1

-- ---- lines
-- a line is refused, and the cause is a limit
abbrev StopsAtLimit : Stop → Type 0
StopsAtLimit stop = (line : ℕ) × (limit : Limit) × (stop ≡ stops.Refused (record { line = line; why = whys.Limit limit }))

abbrev LineEnds : Result WorldState Stop → WorldState → Type 0
LineEnds (Ok next) last = next ≡ last
LineEnds (Err stop) last = StopsAtLimit stop

abbrev LinesEnd : Result WorldState Stop → Type 0
LinesEnd (Ok next) = ⊤
LinesEnd (Err stop) = StopsAtLimit stop

told_ends : (number : ℕ) (found : Result WorldState Refusal) (last : WorldState) → EndsWell found last → LineEnds (told number found) last
told_ends number (Ok next) last ends = ends
told_ends number (Err why) last ends = (number, ends.0, ap (stop_for number) ends.1)

line_ends : (number : ℕ) (world : WorldState) (said : Line) → IsRead said → AreTaken bank world (events_of said) → LineEnds (after_line 1 bank number world (line_text said)) (after_all bank world (events_of said))
unfolding after_line after_said
line_ends number world said read all =
    subst (λ (found : Result Line Reason). LineEnds (after_read bank number world found) (after_all bank world (events_of said))) (sym read)
    (told_ends number (after_events bank world (events_of said)) (after_all bank world (events_of said)) (events_end bank world (events_of said) all))

lines_end : (number : ℕ) (world : WorldState) (said : List Line) → Each IsRead said → AreTaken bank world (flat_map events_of said) → LinesEnd (after_lines 1 bank number world (texts_of said))
unfolding after_lines
lines_end number world [] read all = tt
lines_end number world (line ∷ said) read all =
    by_first (after_line 1 bank number world (line_text line)) (line_ends number world line read.0 (taken_front bank world (events_of line) (flat_map events_of said) all))
    (lines_end (number + 1) (after_all bank world (events_of line)) said read.1 (taken_back bank world (events_of line) (flat_map events_of said) all))
  where
    by_first : (here : Result WorldState Stop) → LineEnds here (after_all bank world (events_of line)) → LinesEnd (after_lines 1 bank (number + 1) (after_all bank world (events_of line)) (texts_of said))
        → LinesEnd (elim here [ Ok next ↦ after_lines 1 bank (number + 1) next (texts_of said) | Err stop ↦ Err stop ])
    by_first (Ok next) first more = subst (λ (now : WorldState). LinesEnd (after_lines 1 bank (number + 1) now (texts_of said))) (sym first) more
    by_first (Err stop) first more = first

-- ---- the whole script
abbrev DrillEnds : Result Ran Stop → Type 0
DrillEnds (Ok ran) = ⊤
DrillEnds (Err stop) = StopsAtLimit stop

ran_ends : (found : Result WorldState Stop) → LinesEnd found → DrillEnds (ran_in bank found)
ran_ends (Ok next) ends = tt
ran_ends (Err stop) ends = ends

all_taken : (number : ℕ) → AreTaken bank (first_world bank) (flat_map events_of (drill_lines number))
unfolding drill_events
all_taken number = drill_taken number

drill_ends : (number : ℕ) → number ≤ 500 → DrillEnds (outcome (drill_text number))
unfolding outcome
drill_ends number few =
    subst (λ (texts : List (List ℕ)). DrillEnds (after_text texts)) (sym (drill_cut number few))
    (subst (λ (read : Result Header Reason). DrillEnds (after_header read (texts_of (drill_lines number)))) (sym header_read)
    (ran_ends (after_lines 1 bank 2 (first_world bank) (texts_of (drill_lines number))) (lines_end 2 (first_world bank) (drill_lines number) (drill_read number few) (all_taken number))))

pub drill_limit : (number : ℕ) → number ≤ 500 → (stop : Stop) → outcome (drill_text number) ≡ Err stop → (line : ℕ) × (limit : Limit) × (stop ≡ stops.Refused (record { line = line; why = whys.Limit limit }))
drill_limit number few stop is = subst DrillEnds is (drill_ends number few)

-- where it is a world, it is the run's
same_script : (number : ℕ) (whole : Script) → number ≤ 500 → ◌≡◌ {A = Script} whole (record { config = bank; events = drill_events number }) → (world : WorldState) → run whole.config whole.events ≡ Some world
    → run bank (drill_events number) ≡ Some world
same_script number whole few same world ran = ap (λ (one : Script). run one.config one.events) (sym same) ∙ ran

pub drill_ran : (number : ℕ) → number ≤ 500 → (ran : Ran) → outcome (drill_text number) ≡ Ok ran → (ran.config ≡ bank) × (run bank (drill_events number) ≡ Some ran.world)
drill_ran number few ran is =
    let taken = script_taken (drill_text number) ran is in
    let read = drill_is_script number few in
    let script_is = taken.is_script in
    let same : taken.whole ≡ record { config = bank; events = drill_events number } = cc in
    (taken.config ∙ ap (λ (one : Script). one.config) same, same_script number taken.whole few same ran.world taken.runs)
