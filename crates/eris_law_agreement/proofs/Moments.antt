-- The moments of a run and the run itself: where the run gives a world, it is the last moment; and the first
-- events of an accepted list are an accepted list.
use Rattle.std.proofs.Common.{◌≡◌, ℕ, zero, suc, List, [], ◌∷◌, ◌++◌, length, Option, Some, None, refl, sym, ap, ◌∙◌}
use Rattle.std.specs.Prelude.{slice_get}
use Rattle.eris_base.specs.ConfigLimits.{ConfigValue}
use Rattle.eris_event.specs.declared.event.Event.{Event}
use Rattle.eris_event.specs.declared.refusal.Refusal.{Refusal}
use Rattle.eris_rules.specs.Happenings.{happens}
use Rattle.eris_rules.specs.Refusals.{refusal}
use Rattle.eris_rules.specs.Runs.{taken_by, world_after, run_from, run}
use Rattle.eris_rules.specs.Worlds.{WorldState, first_world}
use Rattle.eris_law_agreement.specs.WorldMoments.{perhaps, moment_from, world_at}

pub moment-cons : (config : ConfigValue) (world : WorldState) (event : Event) (events : List Event) (number : ℕ)
    → moment_from config world (event ∷ events) (suc number) ≡ moment_from config (happens config world event) events number
unfolding moment_from
moment-cons config world event events zero = refl
moment-cons config world event events (suc number) = ap (λ before. perhaps config before (slice_get events number)) (moment-cons config world event events number)

pub moment-nil : (config : ConfigValue) (world : WorldState) (number : ℕ) → moment_from config world [] number ≡ world
unfolding moment_from
moment-nil config world zero = refl
moment-nil config world (suc number) = moment-nil config world number

-- an event that is taken leaves what it does
pub taken : (config : ConfigValue) (world after : WorldState) (event : Event) → world_after config world event ≡ Some after → happens config world event ≡ after
unfolding world_after
taken config world after event h = by_refusal (refusal config world event) h
  where
    by_refusal : (why : Option Refusal) → taken_by (happens config world event) why ≡ Some after → happens config world event ≡ after
    by_refusal None k = cc
    by_refusal (Some cause) k = absurd (cc)

run_from-moment : (config : ConfigValue) (world last : WorldState) (events : List Event) → run_from config (Some world) events ≡ Some last
    → last ≡ moment_from config world events (length events)
unfolding run_from moment_from
run_from-moment config world last [] h = cc
run_from-moment config world last (event ∷ events) h = by_next (world_after config world event) refl h (λ next k. run_from-moment config next last events k)
  where
    by_next : (next : Option WorldState) → world_after config world event ≡ next → run_from config next events ≡ Some last
        → ((after : WorldState) → run_from config (Some after) events ≡ Some last → last ≡ moment_from config after events (length events))
        → last ≡ perhaps config (moment_from config world (event ∷ events) (length events)) (slice_get (event ∷ events) (length events))
    by_next None e k rest = absurd (none events k)
      where
        none : (others : List Event) → run_from config None others ≡ Some last → ⊥
        none others q = absurd (cc)
    by_next (Some next) e k rest =
        rest next k
        ∙ ap (λ made. moment_from config made events (length events)) (sym (taken config world next event e))
        ∙ sym (moment-cons config world event events (length events))

-- THE LAST MOMENT is the run's world
pub run-moment : (config : ConfigValue) (events : List Event) (world : WorldState) → run config events ≡ Some world → world ≡ world_at config events (length events)
unfolding run
run-moment config events world h = run_from-moment config (first_world config) world events h

run_from-front : (config : ConfigValue) (start : Option WorldState) (last : WorldState) (front back : List Event) → run_from config start (front ++ back) ≡ Some last
    → (middle : WorldState) × (run_from config start front ≡ Some middle)
unfolding run_from
run_from-front config None last front back h = absurd (cc)
run_from-front config (Some world) last [] back h = (world, refl)
run_from-front config (Some world) last (event ∷ front) back h = run_from-front config (world_after config world event) last front back h

-- THE FIRST EVENTS of an accepted list are an accepted list
pub front_accepted : (config : ConfigValue) (front back : List Event) (last : WorldState) → run config (front ++ back) ≡ Some last
    → (middle : WorldState) × (run config front ≡ Some middle)
unfolding run
front_accepted config front back last h = run_from-front config (Some (first_world config)) last front back h
