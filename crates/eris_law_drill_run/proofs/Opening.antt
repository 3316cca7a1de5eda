-- THE OPENING OF A DRILL IS UNDISTURBED: 16 puts, of one key each, and 112 deliveries.
use Rattle.std.proofs.Common.{◌≡◌, ◌≤◌, ℕ, true, Some, List, [], ◌∷◌, ◌++◌, append_assoc, refl, ap, ◌∙◌, subst, lit≤}
use Rattle.std.proofs.lemmas.Grind.{flat_map-append}
use Rattle.std.specs.List.{flat_map, list_all}
use Rattle.eris_base.specs.declared.ids.ShardId.{ShardId}
use Rattle.eris_base.proofs.Each.{Each-left}
use Rattle.eris_event.specs.declared.event.Event.{Event}
use Rattle.eris_grammar.specs.declared.line.Line.{Line}
use Rattle.eris_grammar.specs.declared.line.Line.TheVariants.{One}
use Rattle.eris_grammar.specs.Scripts.{events_of}
use Rattle.eris_rules.specs.Runs.{run}
use Rattle.eris_rules.specs.Worlds.{WorldState}
use Rattle.eris_law_course.specs.Accepted.{AreEventsFit, IsEventFit}
use Rattle.eris_law_script.proofs.Fit.{script_fits}
use Rattle.eris_law_undisturbed.specs.Undisturbed.{AreAnswered, crashes, packets_for_all}
use Rattle.eris_law_script.specs.UndisturbedScripts.{AreUndisturbed, is_calm_line}
use Rattle.eris_law_undisturbed.proofs.Answered.{undisturbed_answers}
use Rattle.eris_law_script.proofs.Lines.{undisturbed_lines}
use Rattle.eris_drill.specs.DrillLines.{account, bank, below, closing, drill_lines, opening, opening_put, teller, turn_lines}
use Rattle.eris_drill.specs.DrillText.{drill_text}
use Rattle.eris_law_drill.specs.Reading.{drill_events}
use Rattle.eris_law_drill_run.proofs.Carrying.{said}
use Rattle.eris_law_drill.proofs.DrillScripts.{drill_is_script}

abbrev puts : List Line
puts = below (λ (number : ℕ). One (opening_put number) ∷ []) 16

calm : list_all is_calm_line puts ≡ true
unfolding below opening_put
calm = refl

few : (shard : ShardId) → crashes shard (flat_map events_of puts) ≤ bank.f
unfolding below opening_put bank
few shard = lit≤ tt

enough : packets_for_all bank (flat_map events_of puts) ≤ 112
unfolding below opening_put account teller bank
enough = lit≤ tt

pub opening_undisturbed : AreUndisturbed bank opening
unfolding opening
opening_undisturbed = record { front = puts; flows = 112; skipped = 0; are = refl; calm = calm; few = few; enough = enough }

-- ---- what is behind it
abbrev pub behind_opening : ℕ → List Event
behind_opening number = said (below (turn_lines number) number) ++ (said (closing number) ++ said (closing number))

pub drill_parts : (number : ℕ) → drill_events number ≡ said opening ++ behind_opening number
unfolding drill_events drill_lines
drill_parts number =
    flat_map-append events_of (opening ++ below (turn_lines number) number ++ closing number) (closing number)
    ∙ ap (λ (front : List Event). front ++ said (closing number))
    (flat_map-append events_of (opening ++ below (turn_lines number) number) (closing number)
    ∙ ap (λ (front : List Event). front ++ said (closing number)) (flat_map-append events_of opening (below (turn_lines number) number)))
    ∙ append_assoc (said opening ++ said (below (turn_lines number) number)) (said (closing number)) (said (closing number))
    ∙ append_assoc (said opening) (said (below (turn_lines number) number)) (said (closing number) ++ said (closing number))

-- what a drill submits can be run
pub drill_fits : (number : ℕ) → number ≤ 500 → AreEventsFit (drill_events number)
drill_fits number few = script_fits (drill_text number) (record { config = bank; events = drill_events number }) (drill_is_script number few)

pub opening_fits : AreEventsFit (said opening)
opening_fits = Each-left IsEventFit (said opening) (behind_opening 1) (subst AreEventsFit (drill_parts 1) (drill_fits 1 (lit≤ tt)))

pub opening_answered : (middle : WorldState) → run bank (said opening) ≡ Some middle → AreAnswered middle.history middle.history
opening_answered middle ran = undisturbed_answers bank (said opening) middle (undisturbed_lines bank opening opening_undisturbed) opening_fits ran
