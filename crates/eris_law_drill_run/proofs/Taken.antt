-- WHAT IS TAKEN is accepted at each moment of a run, and refused for a limit alone; a run that gives a world took all.
use Rattle.std.proofs.Common.{◌≡◌, ℕ, zero, suc, Option, Some, None, List, [], ◌∷◌, ◌++◌, refl, ap, sym, ◌∙◌, subst, append-nil, append_assoc}
use Rattle.std.specs.Prelude.{slice_get}
use Rattle.std.specs.Option.{option_or}
use Rattle.eris_base.specs.ConfigLimits.{ConfigValue}
use Rattle.eris_txn.specs.declared.history.HistoryEvent.{HistoryEvent}
use Rattle.eris_event.specs.declared.event.Event.{Event}
use Rattle.eris_event.specs.declared.refusal.Refusal.{Refusal}
use Rattle.eris_rules.specs.Happenings.{happens}
use Rattle.eris_rules.specs.Refusals.{cause, limit_met, refusal}
use Rattle.eris_rules.specs.Runs.{run, run_from, world_after}
use Rattle.eris_rules.specs.Worlds.{WorldState, first_world, with_event}
use Rattle.eris_rules.proofs.RunLaws.{none_run}
use Rattle.eris_law_agreement.specs.Continuing.{Continues}
use Rattle.eris_law_agreement.specs.NodeSteps.{event_of_step, step_of}
use Rattle.eris_law_agreement.specs.WorldMoments.{moment_from}
use Rattle.eris_law_agreement.proofs.Moments.{moment-cons, taken}
use Rattle.eris_law_agreement.proofs.NodeLocality.{history_one}
use Rattle.eris_law_course.specs.Accepted.{IsAccepted}
use Rattle.eris_law_drill_run.specs.Takings.{AreTaken, after_all}

module _ (config : ConfigValue) where
  taken_at : (world : WorldState) (events : List Event) → AreTaken config world events → (k : ℕ) (event : Event) → slice_get events k ≡ Some event → cause config (moment_from config world events k) event ≡ None
  unfolding moment_from
  taken_at world [] all k event there = absurd (cc)
  taken_at world (first ∷ events) all zero event there = let same : first ≡ event = cc in subst (λ (one : Event). cause config world one ≡ None) same all.0
  taken_at world (first ∷ events) all (suc k) event there =
      ap (λ (now : WorldState). cause config now event) (moment-cons config world first events k) ∙ taken_at (happens config world first) events all.1 k event there

  pub taken_accepted : (events : List Event) → AreTaken config (first_world config) events → IsAccepted config events
  taken_accepted events all k event there = taken_at (first_world config) events all k event there

  -- the world of a run
  pub run_after : (world : WorldState) (events : List Event) (last : WorldState) → run_from config (Some world) events ≡ Some last → last ≡ after_all config world events
  unfolding run_from
  run_after world [] last ran = cc
  run_after world (event ∷ events) last ran = by_next (world_after config world event) refl ran (λ next later. run_after next events last later)
    where
      by_next : (next : Option WorldState) → world_after config world event ≡ next → run_from config next events ≡ Some last → ((next : WorldState) → run_from config (Some next) events ≡ Some last → last ≡ after_all config next events)
          → last ≡ after_all config (happens config world event) events
      by_next None is later more = absurd (none_run config events last later)
      by_next (Some next) is later more = more next later ∙ ap (λ (now : WorldState). after_all config now events) (sym (taken config world next event is))

  front_taken : (world : WorldState) (front : List Event) (event : Event) (back : List Event) → AreTaken config world (front ++ event ∷ back) → cause config (after_all config world front) event ≡ None
  front_taken world [] event back all = all.0
  front_taken world (first ∷ front) event back all = front_taken (happens config world first) front event back all.1

  -- an event that is refused meets a limit
  pub refused_by_limit : (events front : List Event) (event : Event) (back : List Event) (before : WorldState) → AreTaken config (first_world config) events → events ≡ front ++ event ∷ back
      → run config front ≡ Some before → refusal config before event ≡ limit_met (happens config before event).sent
  unfolding run refusal
  refused_by_limit events front event back before all cut ran =
      let here : before ≡ after_all config (first_world config) front = run_after (first_world config) front before ran in
      let none : cause config before event ≡ None =
      ap (λ (now : WorldState). cause config now event) here ∙ front_taken (first_world config) front event back (subst (AreTaken config (first_world config)) cut all) in
      ap (λ (found : Option Refusal). option_or found (limit_met (happens config before event).sent)) none

  -- ---- histories only grow
  one_more : (history : List HistoryEvent) (found : Option HistoryEvent) → Continues history (with_event history found)
  one_more history None = record { more = []; is = sym (append-nil history) }
  one_more history (Some event) = record { more = event ∷ []; is = refl }

  goes_on : (some middle all : List HistoryEvent) → Continues some middle → Continues middle all → Continues some all
  goes_on some middle all first last = record {
    more = first.more ++ last.more;
    is = last.is ∙ ap (λ (list : List HistoryEvent). list ++ last.more) first.is ∙ append_assoc some first.more last.more;
  }

  pub history_grows : (world : WorldState) (events : List Event) → Continues world.history (after_all config world events).history
  history_grows world [] = record { more = []; is = sym (append-nil world.history) }
  history_grows world (event ∷ events) =
      goes_on world.history (happens config world event).history (after_all config (happens config world event) events).history
      (subst (λ (list : List HistoryEvent). Continues world.history list) (sym (history_one config world event)) (one_more world.history (event_of_step config world (step_of world event))))
      (history_grows (happens config world event) events)
