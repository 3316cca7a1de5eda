-- EVENTS THAT CARRY A WORLD from one property to another, none of which has a cause to be refused.
use Rattle.std.proofs.Common.{◌≡◌, ◌<◌, ℕ, zero, suc, None, List, [], ◌∷◌, ◌++◌, replicate, refl, sym, subst, arith}
use Rattle.std.proofs.lemmas.Grind.{flat_map-append}
use Rattle.std.specs.List.{flat_map}
use Rattle.eris_base.specs.ConfigLimits.{ConfigValue}
use Rattle.eris_event.specs.declared.event.Event.{Event}
use Rattle.eris_grammar.specs.declared.line.Line.{Line}
use Rattle.eris_grammar.specs.Scripts.{events_of}
use Rattle.eris_rules.specs.Happenings.{happens}
use Rattle.eris_rules.specs.Refusals.{cause}
use Rattle.eris_rules.specs.Worlds.{WorldState}
use Rattle.eris_drill.specs.DrillLines.{bank, below}
use Rattle.eris_law_drill_run.specs.Takings.{AreTaken, after_all}

pub after-append : (config : ConfigValue) (world : WorldState) (events more : List Event) → after_all config world (events ++ more) ≡ after_all config (after_all config world events) more
after-append config world [] more = refl
after-append config world (event ∷ events) more = after-append config (happens config world event) events more

taken-append : (config : ConfigValue) (world : WorldState) (events more : List Event) → AreTaken config world events → AreTaken config (after_all config world events) more → AreTaken config world (events ++ more)
taken-append config world [] more first next = next
taken-append config world (event ∷ events) more first next = (first.0, taken-append config (happens config world event) events more first.1 next)

pub record Carries (P : WorldState → Type 0) (events : List Event) (Q : WorldState → Type 0) : Type 0 where
  pub taken : (world : WorldState) → P world → AreTaken bank world events
  pub leaves : (world : WorldState) → P world → Q (after_all bank world events)

pub carries_none : (P : WorldState → Type 0) → Carries P [] P
carries_none P = record { taken = λ world now. tt; leaves = λ world now. now }

pub carries_one : (P Q : WorldState → Type 0) (event : Event) → ((world : WorldState) → P world → cause bank world event ≡ None) → ((world : WorldState) → P world → Q (happens bank world event)) → Carries P (event ∷ []) Q
carries_one P Q event free leaves = record { taken = λ world now. (free world now, tt); leaves = leaves }

pub carries-append : (P Q R : WorldState → Type 0) (events more : List Event) → Carries P events Q → Carries Q more R → Carries P (events ++ more) R
carries-append P Q R events more first next = record {
  taken = λ world now. taken-append bank world events more (first.taken world now) (next.taken (after_all bank world events) (first.leaves world now));
  leaves = λ world now. subst R (sym (after-append bank world events more)) (next.leaves (after_all bank world events) (first.leaves world now));
}

pub carries_each : (P : WorldState → Type 0) (event : Event) (times : ℕ) → Carries P (event ∷ []) P → Carries P (replicate times event) P
carries_each P event zero one = carries_none P
carries_each P event (suc times) one = carries-append P P P (event ∷ []) (replicate times event) one (carries_each P event times one)

-- ---- the events of lines
abbrev pub said : List Line → List Event
said lines = flat_map events_of lines

abbrev pub CarriesLines : (WorldState → Type 0) → List Line → (WorldState → Type 0) → Type 0
CarriesLines P lines Q = Carries P (said lines) Q

pub lines-append : (P Q R : WorldState → Type 0) (lines more : List Line) → CarriesLines P lines Q → CarriesLines Q more R → CarriesLines P (lines ++ more) R
lines-append P Q R lines more first next =
    subst (λ (events : List Event). Carries P events R) (sym (flat_map-append events_of lines more)) (carries-append P Q R (said lines) (said more) first next)

pub lines_then : (P Q R : WorldState → Type 0) (line : Line) (lines : List Line) → Carries P (events_of line) Q → CarriesLines Q lines R → CarriesLines P (line ∷ lines) R
lines_then P Q R line lines first next = carries-append P Q R (events_of line) (said lines) first next

-- what the numbers below n stand for
pub lines_below : (P : ℕ → WorldState → Type 0) (lines : ℕ → List Line) (n : ℕ) → ((k : ℕ) → k < n → CarriesLines (P k) (lines k) (P (suc k))) → CarriesLines (P 0) (below lines n) (P n)
unfolding below
lines_below P lines zero each = carries_none (P 0)
lines_below P lines (suc n) each =
    lines-append (P 0) (P n) (P (suc n)) (below lines n) (lines n) (lines_below P lines n (λ k low. each k (step k n low))) (each n (last n))
  where
    step : (k m : ℕ) → k < m → k < suc m
    step k m low = omega (arith, low)

    last : (m : ℕ) → m < suc m
    last m = omega arith
