use Rattle.std.proofs.Common.{◌≡◌, ◌⊎◌, ℕ, suc, ◌≤◌, max, nat_lt, Bool, true, false, cond, ◌||◌, Option, Some, None, List, [], ◌∷◌, ◌++◌, is_some, refl, ap, sym, ◌∙◌, inl, inr, arith}
use Rattle.std.proofs.lemmas.Bool.{both_ways, cases_Bool, or_parts, leb-true, le-leb}
use Rattle.std.proofs.lemmas.Bool.Decides.{nat_tests}
use Rattle.std.specs.Option.{option_map}
use Rattle.std.specs.Prelude.{IsFalse}
use Rattle.eris_base.specs.declared.ids.TxnId.{TxnId}
use Rattle.eris_txn.specs.declared.history.HistoryEvent.{HistoryEvent}
use Rattle.eris_txn.specs.declared.history.HistoryEvent.TheVariants.{Submit, Read, Answer as Answered, Told}
use Rattle.eris_base.specs.Each.{Each, EachAfter}
use Rattle.eris_audit.specs.IsSerial.{AnsweredStandsBefore, FollowsAnswered, IsOrderLine}
use Rattle.eris_audit.specs.Lines.{Line, StandsOnce, has_line, stands_before}
use Rattle.eris_audit.specs.Tables.{place_in}
use Rattle.eris_audit.specs.Turns.{greatest_answered, is_behind, is_in_turn, number_answered, number_of}
use Rattle.eris_base.specs.TxnIds.{same_id}
use Rattle.eris_base.proofs.TxnIdLaws.{same_id-true, same_id-refl}
use Rattle.eris_audit.proofs.TableLines.{is_some-place}

-- Where an id's line stands, by the numbers of the lines.

max_below : (m n j : ℕ) → m ≤ j → n ≤ j → max m n ≤ j
max_below m n j some other = omega arith

first_below : (m n j : ℕ) → max m n ≤ j → m ≤ j
first_below m n j below = omega arith

second_below : (m n j : ℕ) → max m n ≤ j → n ≤ j
second_below m n j below = omega arith

max-zero : (n : ℕ) → max n 0 ≡ max 0 n
max-zero n = omega arith

max-thrice : (m n k : ℕ) → max m (max n k) ≡ max (max m n) k
max-thrice m n k = omega arith

-- no id stands twice, from the front on
abbrev pub NoRepeat : List Line → Type 0
NoRepeat [] = Unit {0}
NoRepeat (line ∷ lines) = IsFalse (has_line lines line.id) × NoRepeat lines

or_true : (some other : Bool) → some ≡ true → (some || other) ≡ true
or_true true other h = refl
or_true false other h = cc

has_line-front : (front back : List Line) (id : TxnId) → has_line front id ≡ true → has_line (front ++ back) id ≡ true
has_line-front [] back id h = cc
has_line-front (line ∷ front) back id h = by_test (same_id line.id id) (has_line-front front back id) h
  where
    by_test : (test : Bool) → (has_line front id ≡ true → has_line (front ++ back) id ≡ true) → (test || has_line front id) ≡ true → (test || has_line (front ++ back) id) ≡ true
    by_test true later h = refl
    by_test false later h = later h

pub has_line-last : (front : List Line) (line : Line) → has_line (front ++ line ∷ []) line.id ≡ true
has_line-last [] line = or_true _ _ (same_id-refl line.id)
has_line-last (first ∷ front) line = by_test (same_id first.id line.id) (has_line-last front line)
  where
    by_test : (test : Bool) → has_line (front ++ line ∷ []) line.id ≡ true → (test || has_line (front ++ line ∷ []) line.id) ≡ true
    by_test true h = refl
    by_test false h = h

not_again : (before lines : List Line) (id : TxnId) → has_line before id ≡ true → EachAfter StandsOnce before lines → has_line lines id ≡ false
not_again before [] id stands once = refl
not_again before (line ∷ lines) id stands once =
    by_test (cases_Bool (same_id line.id id)) (not_again (before ++ line ∷ []) lines id (has_line-front before (line ∷ []) id stands) once.1)
  where
    by_test : ((same_id line.id id ≡ true) ⊎ (same_id line.id id ≡ false)) → has_line lines id ≡ false → (same_id line.id id || has_line lines id) ≡ false
    by_test (inl same) later = absurd (both_ways _ once.0 (ap (has_line before) (same_id-true line.id id same) ∙ stands))
    by_test (inr apart) later = ap (λ test. test || has_line lines id) apart ∙ later

pub no_repeat : (before lines : List Line) → EachAfter StandsOnce before lines → NoRepeat lines
no_repeat before [] once = tt
no_repeat before (line ∷ lines) once =
    (not_again (before ++ line ∷ []) lines line.id (has_line-last before line) once.1, no_repeat (before ++ line ∷ []) lines once.1)

-- by rule 1 no id stands twice
pub order_lines-once : (history : List HistoryEvent) (before lines : List Line) → EachAfter (IsOrderLine history) before lines → EachAfter StandsOnce before lines
order_lines-once history before [] each = tt
order_lines-once history before (line ∷ lines) each = (each.0.once, order_lines-once history (before ++ line ∷ []) lines each.1)

-- an id that doesn't stand in a list stands behind none of it
none_behind : (lines : List Line) (first second : TxnId) → has_line lines second ≡ false → stands_before lines first second ≡ false
none_behind [] first second absent = refl
none_behind (line ∷ lines) first second absent =
    let parts = or_parts (same_id line.id second) (has_line lines second) absent in
    by_test (same_id line.id first) parts.1 (none_behind lines first second parts.1)
  where
    by_test : (test : Bool) → has_line lines second ≡ false → stands_before lines first second ≡ false → cond test (has_line lines second) (stands_before lines first second) ≡ false
    by_test true absent later = absent
    by_test false absent later = later

not_below_zero : (i j : ℕ) → Some 0 ≡ Some j → nat_lt i j ≡ false
not_below_zero i j is = let zero_is : j ≡ 0 = cc in grind (arith, nat_tests)

zero_below : (i j n : ℕ) → Some 0 ≡ Some i → Some (suc n) ≡ Some j → nat_lt i j ≡ true
zero_below i j n is there = let zero_is : i ≡ 0 = cc in let more : j ≡ suc n = cc in grind (arith, nat_tests)

both_more : (i j m n : ℕ) → Some (suc m) ≡ Some i → Some (suc n) ≡ Some j → nat_lt i j ≡ nat_lt m n
both_more i j m n is there = let some : i ≡ suc m = cc in let more : j ≡ suc n = cc in grind (arith, nat_tests)

first_place : (line : Line) (lines : List Line) (id : TxnId) (i : ℕ) → same_id line.id id ≡ true → place_in (line ∷ lines) id ≡ Some i → Some 0 ≡ Some i
first_place line lines id i same at = ap (λ test. cond test (Some 0) (option_map (λ n. suc n) (place_in lines id))) (sym same) ∙ at

later_place : (line : Line) (lines : List Line) (id : TxnId) (i : ℕ) → same_id line.id id ≡ false → place_in (line ∷ lines) id ≡ Some i
    → option_map (λ n. suc n) (place_in lines id) ≡ Some i
later_place line lines id i apart at = ap (λ test. cond test (Some 0) (option_map (λ n. suc n) (place_in lines id))) (sym apart) ∙ at

-- of two lines the one of the lesser place stands before the other
places_order : (lines : List Line) → NoRepeat lines → (first second : TxnId) (i j : ℕ) → place_in lines first ≡ Some i → place_in lines second ≡ Some j
    → stands_before lines first second ≡ nat_lt i j
places_order [] once first second i j at there = absurd (cc)
places_order (line ∷ lines) once first second i j at there =
    by_tests (cases_Bool (same_id line.id first)) (cases_Bool (same_id line.id second)) (places_order lines once.1 first second)
  where
    branch : (test : Bool) → same_id line.id first ≡ test → stands_before (line ∷ lines) first second ≡ cond test (has_line lines second) (stands_before lines first second)
    branch test is = ap (λ t. cond t (has_line lines second) (stands_before lines first second)) is

    absent : same_id line.id second ≡ true → has_line lines second ≡ false
    absent same = ap (has_line lines) (sym (same_id-true line.id second same)) ∙ once.0

    behind : same_id line.id first ≡ true → (q : Option ℕ) → place_in lines second ≡ q → option_map (λ n. suc n) q ≡ Some j → stands_before (line ∷ lines) first second ≡ nat_lt i j
    behind f None is more = absurd (cc)
    behind f (Some n) is more =
        branch true f ∙ sym (is_some-place lines second) ∙ ap is_some is ∙ sym (zero_below i j n (first_place line lines first i f at) more)

    after : same_id line.id first ≡ false → (p q : Option ℕ) → place_in lines first ≡ p → place_in lines second ≡ q → option_map (λ n. suc n) p ≡ Some i → option_map (λ n. suc n) q ≡ Some j
        → ((m n : ℕ) → place_in lines first ≡ Some m → place_in lines second ≡ Some n → stands_before lines first second ≡ nat_lt m n)
        → stands_before (line ∷ lines) first second ≡ nat_lt i j
    after f None q is there_is less more later = absurd (cc)
    after f (Some m) None is there_is less more later = absurd (cc)
    after f (Some m) (Some n) is there_is less more later = branch false f ∙ later m n is there_is ∙ sym (both_more i j m n less more)

    by_tests : ((same_id line.id first ≡ true) ⊎ (same_id line.id first ≡ false)) → ((same_id line.id second ≡ true) ⊎ (same_id line.id second ≡ false))
        → ((m n : ℕ) → place_in lines first ≡ Some m → place_in lines second ≡ Some n → stands_before lines first second ≡ nat_lt m n)
        → stands_before (line ∷ lines) first second ≡ nat_lt i j
    by_tests (inl f) (inl s) later = branch true f ∙ absent s ∙ sym (not_below_zero i j (first_place line lines second j s there))
    by_tests (inl f) (inr s) later = behind f (place_in lines second) refl (later_place line lines second j s there)
    by_tests (inr f) (inl s) later = branch false f ∙ none_behind lines first second (absent s) ∙ sym (not_below_zero i j (first_place line lines second j s there))
    by_tests (inr f) (inr s) later =
        after f (place_in lines first) (place_in lines second) refl refl (later_place line lines first i f at) (later_place line lines second j s there) later

number_below : (i j : ℕ) → true ≡ nat_lt i j → suc i ≤ j
number_below i j below = grind (arith, nat_tests)

below_number : (i j : ℕ) → suc i ≤ j → nat_lt i j ≡ true
below_number i j below = grind (arith, nat_tests)

nothing_below : (j : ℕ) → 0 ≤ j
nothing_below j = omega arith

module _ (lines : List Line) (once : NoRepeat lines) (id : TxnId) (j : ℕ) (at : place_in lines id ≡ Some j) where
  has_it : has_line lines id ≡ true
  has_it = sym (is_some-place lines id) ∙ ap is_some at

  -- an answered line stands before this one exactly where its number is at most this one's place
  stands_below : (event : HistoryEvent) → AnsweredStandsBefore lines id event → number_answered lines event ≤ j
  stands_below (Submit other txn) stands = nothing_below j
  stands_below (Read other values) stands = nothing_below j
  stands_below (Answered other answer) stands = by_place (place_in lines other) refl stands
    where
      by_place : (p : Option ℕ) → place_in lines other ≡ p → AnsweredStandsBefore lines id (Answered other answer) → number_of p ≤ j
      by_place None is stands = nothing_below j
      by_place (Some i) is stands = number_below i j (sym (stands (sym (is_some-place lines other) ∙ ap is_some is) has_it) ∙ places_order lines once other id i j is at)
  stands_below (Told asker other answer) stands = nothing_below j

  below_stands : (event : HistoryEvent) → number_answered lines event ≤ j → AnsweredStandsBefore lines id event
  below_stands (Submit other txn) below = tt
  below_stands (Read other values) below = tt
  below_stands (Answered other answer) below = by_place (place_in lines other) refl below
    where
      by_place : (p : Option ℕ) → place_in lines other ≡ p → number_of p ≤ j → AnsweredStandsBefore lines id (Answered other answer)
      by_place None is below = λ has it. absurd (both_ways _ (sym (is_some-place lines other) ∙ ap is_some is) has)
      by_place (Some i) is below = λ has it. places_order lines once other id i j is at ∙ below_number i j below
  below_stands (Told asker other answer) below = tt

  all_below : (before : List HistoryEvent) → Each (AnsweredStandsBefore lines id) before → greatest_answered lines before ≤ j
  all_below [] each = nothing_below j
  all_below (event ∷ before) each = max_below (number_answered lines event) (greatest_answered lines before) j (stands_below event each.0) (all_below before each.1)

  below_all : (before : List HistoryEvent) → greatest_answered lines before ≤ j → Each (AnsweredStandsBefore lines id) before
  below_all [] below = tt
  below_all (event ∷ before) below =
      (below_stands event (first_below (number_answered lines event) (greatest_answered lines before) j below), below_all before (second_below (number_answered lines event) (greatest_answered lines before) j below))

-- an id with no line stands behind all
no_line : (lines : List Line) (id : TxnId) → place_in lines id ≡ None → (before : List HistoryEvent) → Each (AnsweredStandsBefore lines id) before
no_line lines id none [] = tt
no_line lines id none (event ∷ before) = (of event, no_line lines id none before)
  where
    of : (event : HistoryEvent) → AnsweredStandsBefore lines id event
    of (Submit other txn) = tt
    of (Read other values) = tt
    of (Answered other answer) = λ has it. absurd (both_ways _ (sym (is_some-place lines id) ∙ ap is_some none) it)
    of (Told asker other answer) = tt

pub in_turn-follows : (lines : List Line) → NoRepeat lines → (before : List HistoryEvent) (event : HistoryEvent) → is_in_turn lines (greatest_answered lines before) event ≡ true
    → FollowsAnswered lines before event
in_turn-follows lines once before (Submit id txn) turn = by_place (place_in lines id) refl turn
  where
    by_place : (p : Option ℕ) → place_in lines id ≡ p → is_behind p (greatest_answered lines before) ≡ true → Each (AnsweredStandsBefore lines id) before
    by_place None is turn = no_line lines id is before
    by_place (Some j) is turn = below_all lines once id j is before (leb-true (greatest_answered lines before) j turn)
in_turn-follows lines once before (Read id values) turn = tt
in_turn-follows lines once before (Answered id answer) turn = tt
in_turn-follows lines once before (Told asker id answer) turn = tt

pub follows-in_turn : (lines : List Line) → NoRepeat lines → (before : List HistoryEvent) (event : HistoryEvent) → FollowsAnswered lines before event
    → is_in_turn lines (greatest_answered lines before) event ≡ true
follows-in_turn lines once before (Submit id txn) follows = by_place (place_in lines id) refl
  where
    by_place : (p : Option ℕ) → place_in lines id ≡ p → is_behind p (greatest_answered lines before) ≡ true
    by_place None is = refl
    by_place (Some j) is = le-leb (greatest_answered lines before) j (all_below lines once id j is before follows)
follows-in_turn lines once before (Read id values) follows = refl
follows-in_turn lines once before (Answered id answer) follows = refl
follows-in_turn lines once before (Told asker id answer) follows = refl

pub greatest-next : (lines : List Line) (before : List HistoryEvent) (event : HistoryEvent)
    → greatest_answered lines (before ++ event ∷ []) ≡ max (greatest_answered lines before) (number_answered lines event)
greatest-next lines [] event = max-zero (number_answered lines event)
greatest-next lines (first ∷ before) event =
    ap (max (number_answered lines first)) (greatest-next lines before event)
    ∙ max-thrice (number_answered lines first) (greatest_answered lines before) (number_answered lines event)
