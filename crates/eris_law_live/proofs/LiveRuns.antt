-- Runs by their first and by their last event; and what was sent stays.
use Rattle.std.proofs.Common.{◌≡◌, ℕ, zero, suc, List, [], ◌∷◌, ◌++◌, Option, Some, None, refl, sym, ap, ◌∙◌, append_assoc, append-nil, subst}
use Rattle.std.specs.Prelude.{slice_get}
use Rattle.eris_base.specs.ConfigLimits.{ConfigValue}
use Rattle.eris_event.specs.declared.event.Event.{Event}
use Rattle.eris_event.specs.declared.refusal.Refusal.{Refusal}
use Rattle.eris_rules.specs.Happenings.{happens}
use Rattle.eris_rules.specs.Refusals.{refusal}
use Rattle.eris_rules.specs.Runs.{run_from, taken_by, world_after}
use Rattle.eris_rules.specs.Worlds.{WorldState}
use Rattle.eris_rules.proofs.RunLaws.{none_run}
use Rattle.eris_law_agreement.specs.Continuing.{Continues}
use Rattle.eris_law_agreement.specs.NodeSteps.{sends_of_step, step_of}
use Rattle.eris_law_agreement.proofs.NodeLocality.{sent_one}

-- ---- lists
pub get-front : {X : Type 0} (xs more : List X) (at : ℕ) (x : X) → slice_get xs at ≡ Some x → slice_get (xs ++ more) at ≡ Some x
get-front [] more at x h = absurd (cc)
get-front (y ∷ xs) more zero x h = h
get-front (y ∷ xs) more (suc at) x h = get-front xs more at x h

pub continues_self : {X : Type 0} (xs : List X) → Continues xs xs
continues_self xs = record { more = []; is = sym (append-nil xs) }

pub continues_on : {X : Type 0} (xs ys zs : List X) → Continues xs ys → Continues ys zs → Continues xs zs
continues_on {X = X} xs ys zs f g = record { more = f.more ++ g.more; is = g.is ∙ ap (λ (list : List X). list ++ g.more) f.is ∙ append_assoc xs f.more g.more }

pub get-on : {X : Type 0} (xs ys : List X) (at : ℕ) (x : X) → Continues xs ys → slice_get xs at ≡ Some x → slice_get ys at ≡ Some x
get-on {X = X} xs ys at x on h = ap (λ (list : List X). slice_get list at) on.is ∙ get-front xs on.more at x h

module _ (config : ConfigValue) where
  -- the first event of a run was taken
  pub run-cons : (world last : WorldState) (event : Event) (events : List Event) → run_from config (Some world) (event ∷ events) ≡ Some last
      → (refusal config world event ≡ None) × (run_from config (Some (happens config world event)) events ≡ Some last)
  unfolding run_from world_after
  run-cons world last event events h = by_refusal (refusal config world event) refl h
    where
      by_refusal : (why : Option Refusal) → refusal config world event ≡ why → run_from config (taken_by (happens config world event) why) events ≡ Some last
          → (refusal config world event ≡ None) × (run_from config (Some (happens config world event)) events ≡ Some last)
      by_refusal None e k = (e, k)
      by_refusal (Some cause) e k = absurd (none_run config events last k)

  pub run-taken : (world : WorldState) (event : Event) (events : List Event) → refusal config world event ≡ None
      → run_from config (Some world) (event ∷ events) ≡ run_from config (Some (happens config world event)) events
  unfolding run_from world_after
  run-taken world event events free = ap (λ (why : Option Refusal). run_from config (taken_by (happens config world event) why) events) free

  pub run-nil : (world last : WorldState) → run_from config (Some world) [] ≡ Some last → world ≡ last
  unfolding run_from
  run-nil world last h = cc

  run-one : (world : WorldState) (event : Event) → refusal config world event ≡ None → run_from config (Some world) (event ∷ []) ≡ Some (happens config world event)
  unfolding run_from
  run-one world event free = run-taken world event [] free

  -- one more event, that isn't refused
  pub run-snoc : (world last : WorldState) (events : List Event) (event : Event) → run_from config (Some world) events ≡ Some last → refusal config last event ≡ None
      → run_from config (Some world) (events ++ event ∷ []) ≡ Some (happens config last event)
  run-snoc world last [] event h free =
      subst (λ (w : WorldState). run_from config (Some w) (event ∷ []) ≡ Some (happens config last event)) (sym (run-nil world last h)) (run-one last event free)
  run-snoc world last (first ∷ events) event h free =
      let parts = run-cons world last first events h in
      run-taken world first (events ++ event ∷ []) parts.0 ∙ run-snoc (happens config world first) last events event parts.1 free

  -- what was sent stays
  pub run-sent : (world last : WorldState) (events : List Event) → run_from config (Some world) events ≡ Some last → Continues world.sent last.sent
  run-sent world last [] h = subst (λ (w : WorldState). Continues world.sent w.sent) (run-nil world last h) (continues_self world.sent)
  run-sent world last (event ∷ events) h =
      continues_on world.sent (happens config world event).sent last.sent
      (record { more = sends_of_step config world (step_of world event); is = sent_one config world event })
      (run-sent (happens config world event) last events (run-cons world last event events h).1)
