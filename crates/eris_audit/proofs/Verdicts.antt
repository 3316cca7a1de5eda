use Rattle.std.specs.Prelude.{◌↔◌}
use Rattle.std.proofs.Common.{Option, Some, None, ◌≡◌, ℕ, ◌+◌, suc, List, [], ◌∷◌, ◌++◌, length, inl, inr, refl, sym, ◌∙◌, ap, subst, append_assoc}
use Rattle.std.proofs.lemmas.List.{append-nil}
use Rattle.eris_txn.specs.declared.history.HistoryEvent.{HistoryEvent}
use Rattle.eris_audit.specs.declared.verdict.Verdict.{Verdict}
use Rattle.eris_audit.specs.declared.verdict.Verdict.TheVariants.{Yes, No}
use Rattle.eris_base.specs.Each.{Each, EachAfter}
use Rattle.eris_audit.specs.IsSerial.{IsSerial}
use Rattle.eris_audit.specs.Lines.{Line}
use Rattle.eris_audit.specs.Verdicts.{FailsFirst, Finds, alone, Judged, FromRule5, FromRule4, FromEvents, FromGuards, FromRule2, IsVerdict}
use Rattle.eris_audit.proofs.Places.{EachAfter-at}

-- What a verdict says.

-- a property of each item alone
pub alone-each : {X : Type 0} (P : X → Type 0) (before xs : List X) → EachAfter (alone P) before xs → Each P xs
alone-each P before [] each = tt
alone-each P before (x ∷ xs) each = (each.0, alone-each P (before ++ x ∷ []) xs each.1)

pub each-alone : {X : Type 0} (P : X → Type 0) (before xs : List X) → Each P xs → EachAfter (alone P) before xs
each-alone P before [] each = tt
each-alone P before (x ∷ xs) each = (each.0, each-alone P (before ++ x ∷ []) xs each.1)

-- where an item lacks the property, not each has it
pub fails-not_each : {X : Type 0} (P : List X → X → Type 0) (xs : List X) (line : ℕ) → FailsFirst P xs line → EachAfter P [] xs → ⊥
fails-not_each P xs line fails each = fails.fails (EachAfter-at P [] xs each fails.front fails.back fails.item fails.split)

-- of two places where items lack the property, and before which each has it, none is before the other
same_place : {X : Type 0} (P : List X → X → Type 0) (before front other back rest : List X) (x y : X)
    → EachAfter P before front → EachAfter P before other → (P (before ++ front) x → ⊥) → (P (before ++ other) y → ⊥)
    → front ++ x ∷ back ≡ other ++ y ∷ rest → length front ≡ length other
same_place P before [] [] back rest x y each more fails lacks cut = refl
same_place P before [] (z ∷ other) back rest x y each more fails lacks cut =
    let head : z ≡ x = cc in
    absurd (fails (subst (λ l. P l x) (sym (append-nil before)) (subst (P before) head more.0)))
same_place P before (z ∷ front) [] back rest x y each more fails lacks cut =
    let head : z ≡ y = cc in
    absurd (lacks (subst (λ l. P l y) (sym (append-nil before)) (subst (P before) head each.0)))
same_place P before (z ∷ front) (w ∷ other) back rest x y each more fails lacks cut =
    let head : w ≡ z = cc in
    let tail : front ++ x ∷ back ≡ other ++ y ∷ rest = cc in
    ap (λ n. suc n) (same_place P (before ++ z ∷ []) front other back rest x y each.1
    (subst (λ v. EachAfter P (before ++ v ∷ []) other) head more.1)
    (λ holds. fails (subst (λ l. P l x) (append_assoc before (z ∷ []) front) holds))
    (λ holds. lacks (subst (λ l. P l y) (append_assoc before (w ∷ []) other) (subst (λ v. P ((before ++ v ∷ []) ++ other) y) (sym head) holds)))
    tail)

-- the first item that lacks a property is one
pub one_line : {X : Type 0} (P : List X → X → Type 0) (xs : List X) (line other : ℕ) → FailsFirst P xs line → FailsFirst P xs other → line ≡ other
one_line P xs line other some more =
    some.counted
    ∙ ap (λ n. n + 1) (same_place P [] some.front more.front some.back more.back some.item more.item some.holds more.holds some.fails more.fails (sym some.split ∙ more.split))
    ∙ sym more.counted

-- one rule gives one verdict, where those after it do
abbrev pub GivesOne : (Verdict → Type 0) → Type 0
GivesOne Rest = (some other : Verdict) → Rest some → Rest other → some ≡ other

judged_one : {X : Type 0} (rule : ℕ) (P : List X → X → Type 0) (xs : List X) (Rest : Verdict → Type 0) → GivesOne Rest → GivesOne (Judged rule P xs Rest)
judged_one rule P xs Rest one some other (inl fails) (inl more) =
    fails.1 ∙ ap (λ line. No rule line) (one_line P xs fails.0 more.0 fails.2 more.2) ∙ sym more.1
judged_one rule P xs Rest one some other (inl fails) (inr holds) = absurd (fails-not_each P xs fails.0 fails.2 holds.0)
judged_one rule P xs Rest one some other (inr holds) (inl fails) = absurd (fails-not_each P xs fails.0 fails.2 holds.0)
judged_one rule P xs Rest one some other (inr holds) (inr more) = one some other holds.1 more.1

-- a history and an order have at most one verdict
pub one_verdict : (history : List HistoryEvent) (lines : List Line) (some other : Verdict)
    → IsVerdict history lines some → IsVerdict history lines other → some ≡ other
one_verdict history lines =
    judged_one 1 _ _ _
    (judged_one 2 _ _ _
    (judged_one 3 _ _ _
    (judged_one 3 _ _ _
    (judged_one 4 _ _ _
    (judged_one 5 _ _ _
    (λ some other left right. left ∙ sym right))))))

-- where a rule holds, the verdict is that of the rules after it
judged_rest : {X : Type 0} (rule : ℕ) (P : List X → X → Type 0) (xs : List X) (Rest : Verdict → Type 0) (verdict : Verdict)
    → EachAfter P [] xs → Judged rule P xs Rest verdict → Rest verdict
judged_rest rule P xs Rest verdict each (inl fails) = absurd (fails-not_each P xs fails.0 fails.2 each)
judged_rest rule P xs Rest verdict each (inr holds) = holds.1

-- where the verdict is Yes, the rule holds, and so do those after it
judged_yes : {X : Type 0} (rule : ℕ) (P : List X → X → Type 0) (xs : List X) (Rest : Verdict → Type 0)
    → Judged rule P xs Rest Yes → EachAfter P [] xs × Rest Yes
judged_yes rule P xs Rest (inl fails) = absurd (let no = fails.1 in cc)
judged_yes rule P xs Rest (inr holds) = holds

-- YES is the verdict of the serial histories alone
pub yes-serial : (history : List HistoryEvent) (lines : List Line) → IsVerdict history lines Yes → IsSerial history lines
yes-serial history lines verdict =
    let order_lines = judged_yes 1 _ _ (FromRule2 history lines) verdict in
    let have_lines = judged_yes 2 _ _ (FromGuards history lines) order_lines.1 in
    let guards = judged_yes 3 _ _ (FromEvents history lines) have_lines.1 in
    let equal = judged_yes 3 _ _ (FromRule4 history lines) guards.1 in
    let follows = judged_yes 4 _ _ (FromRule5 history lines) equal.1 in
    let told = judged_yes 5 _ _ (λ verdict. verdict ≡ Yes) follows.1 in
    record {
      order_lines = order_lines.0;
      have_lines = alone-each _ [] history have_lines.0;
      guards = guards.0;
      equal = alone-each _ [] history equal.0;
      follows = follows.0;
      told = alone-each _ [] history told.0;
    }

-- and of each of them
pub serial-yes : (history : List HistoryEvent) (lines : List Line) (verdict : Verdict)
    → IsSerial history lines → IsVerdict history lines verdict → verdict ≡ Yes
serial-yes history lines verdict serial is =
    judged_rest 5 _ _ (λ verdict. verdict ≡ Yes) verdict (each-alone _ [] history serial.told)
    (judged_rest 4 _ _ (FromRule5 history lines) verdict serial.follows
    (judged_rest 3 _ _ (FromRule4 history lines) verdict (each-alone _ [] history serial.equal)
    (judged_rest 3 _ _ (FromEvents history lines) verdict serial.guards
    (judged_rest 2 _ _ (FromGuards history lines) verdict (each-alone _ [] history serial.have_lines)
    (judged_rest 1 _ _ (FromRule2 history lines) verdict serial.order_lines is)))))

-- both of a verdict
pub verdict-serial : (history : List HistoryEvent) (lines : List Line) (verdict : Verdict)
    → IsVerdict history lines verdict → (verdict ≡ Yes) ↔ IsSerial history lines
verdict-serial history lines verdict is =
    (λ yes. yes-serial history lines (subst (IsVerdict history lines) yes is), λ serial. serial-yes history lines verdict serial is)

-- what a rule that finds a line gives, and one that finds none
pub found_line : {X : Type 0} (rule : ℕ) (P : List X → X → Type 0) (xs : List X) (Rest : Verdict → Type 0) (found : Option ℕ) (line : ℕ)
    → Finds P xs found → found ≡ Some line → Judged rule P xs Rest (No rule line)
found_line rule P xs Rest found line finds is = inl (line, refl, subst (Finds P xs) is finds)

pub found_none : {X : Type 0} (rule : ℕ) (P : List X → X → Type 0) (xs : List X) (Rest : Verdict → Type 0) (found : Option ℕ) (verdict : Verdict)
    → Finds P xs found → found ≡ None → Rest verdict → Judged rule P xs Rest verdict
found_none rule P xs Rest found verdict finds is rest = inr (subst (Finds P xs) is finds, rest)
