use Rattle.std.specs.Prelude.{◌≡◌, ◌⊎◌, ℕ, ◌+◌, Option, Some, None, List, [], ◌∷◌, ◌++◌, length}
use Rattle.eris_txn.specs.declared.history.HistoryEvent.{HistoryEvent}
use Rattle.eris_audit.specs.declared.verdict.Verdict.{Verdict}
use Rattle.eris_audit.specs.declared.verdict.Verdict.TheVariants.{Yes, No}
use Rattle.eris_base.specs.Each.{EachAfter}
use Rattle.eris_audit.specs.IsSerial.{IsOrderLine, HasItsLine, GuardsHold, EqualsRun, FollowsAnswered, IsToldOutcome}
use Rattle.eris_audit.specs.Lines.{Line}

-- the number, from 1, of the first item that lacks a property, which may speak of the items before it too
pub record FailsFirst {X : Type 0} (P : List X → X → Type 0) (xs : List X) (line : ℕ) : Type 0 where
  pub front : List X
  pub item : X
  pub back : List X
  pub split : xs ≡ front ++ item ∷ back
  pub holds : EachAfter P [] front
  pub fails : P front item → ⊥
  pub counted : line ≡ length front + 1

-- what is found by a rule that asks this property: the first item that lacks it, or none where each has it
abbrev pub Finds : {X : Type 0} → (List X → X → Type 0) → List X → Option ℕ → Type 0
Finds P xs None = EachAfter P [] xs
Finds P xs (Some line) = FailsFirst P xs line

-- a property of an item alone
abbrev pub alone : {X : Type 0} → (X → Type 0) → List X → X → Type 0
alone P before x = P x

-- where an item lacks what the rule asks of it, the verdict is No with the rule and the first such item;
-- else the rules after this one give it
abbrev pub Judged : {X : Type 0} → ℕ → (List X → X → Type 0) → List X → (Verdict → Type 0) → Verdict → Type 0
Judged rule P xs Rest verdict =
    ((line : ℕ) × (verdict ≡ No rule line) × FailsFirst P xs line)
    ⊎ EachAfter P [] xs × Rest verdict

-- the verdict where rules 1 to 4 hold
abbrev pub FromRule5 : List HistoryEvent → List Line → Verdict → Type 0
FromRule5 history lines = Judged 5 (alone (IsToldOutcome lines)) history (λ verdict. verdict ≡ Yes)

-- the verdict where rules 1 to 3 hold
abbrev pub FromRule4 : List HistoryEvent → List Line → Verdict → Type 0
FromRule4 history lines = Judged 4 (FollowsAnswered lines) history (FromRule5 history lines)

-- the verdict where rules 1 and 2 hold and each guard does: rule 3 judges the events
abbrev pub FromEvents : List HistoryEvent → List Line → Verdict → Type 0
FromEvents history lines = Judged 3 (alone (EqualsRun history lines)) history (FromRule4 history lines)

-- the verdict where rules 1 and 2 hold: rule 3 judges the guards first
abbrev pub FromGuards : List HistoryEvent → List Line → Verdict → Type 0
FromGuards history lines = Judged 3 (GuardsHold history) lines (FromEvents history lines)

-- the verdict where rule 1 holds
abbrev pub FromRule2 : List HistoryEvent → List Line → Verdict → Type 0
FromRule2 history lines = Judged 2 (alone (HasItsLine lines)) history (FromGuards history lines)

-- THE VERDICT on a history and an order: the five rules judge one after another
abbrev pub IsVerdict : List HistoryEvent → List Line → Verdict → Type 0
IsVerdict history lines = Judged 1 (IsOrderLine history) lines (FromRule2 history lines)
