-- THE ORDER OF A BANK'S SERIAL HISTORY IS A DAY: the puts were answered before a turn was submitted, so they stand before
-- it; each line's transaction is what was submitted.
use Rattle.std.proofs.Common.{◌≡◌, ◌<◌, ◌⊎◌, inl, inr, ◌||◌, ℕ, Bool, true, false, cond, Option, Some, is_some, unwrap_or, List, [], ◌∷◌, ◌++◌, refl, ap, sym, ◌∙◌, subst, IsTrue}
use Rattle.std.proofs.lemmas.Bool.{cases_Bool, both_ways}
use Rattle.std.proofs.lemmas.List.{append-nil, append_assoc}
use Rattle.eris_base.specs.declared.ids.TxnId.{TxnId}
use Rattle.eris_base.specs.Each.{Each, EachAfter}
use Rattle.eris_base.specs.TxnIds.{same_id}
use Rattle.eris_base.proofs.Each.{Each-right, Each-with, Each-weaker}
use Rattle.eris_base.proofs.TxnIdLaws.{same_id-true}
use Rattle.eris_txn.specs.declared.answer.Answer.{Answer}
use Rattle.eris_txn.specs.declared.history.HistoryEvent.{HistoryEvent}
use Rattle.eris_txn.specs.declared.history.HistoryEvent.TheVariants as history
use Rattle.eris_txn.specs.declared.txn.Txn.{Txn}
use Rattle.eris_txn.specs.declared.txn.Txn.TheVariants.{Whole}
use Rattle.eris_audit.specs.declared.order_line.OrderLine.{OrderLine}
use Rattle.eris_audit.specs.Histories.{first_submit, is_submitted, txn_of}
use Rattle.eris_audit.specs.IsSerial.{AnsweredStandsBefore, FollowsAnswered, HasItsLine, IsOrderLine, IsSerial}
use Rattle.eris_audit.specs.Lines.{Line, has_line, lines_of, stands_before}
use Rattle.eris_audit.proofs.Turns.{order_lines-once}
use Rattle.eris_law_drill.specs.BankHistories.{Happened, IsBankHistory}
use Rattle.eris_law_drill.specs.Banks.{IsDay, IsPut, IsTurn, Opens, OpensSome}
use Rattle.eris_law_drill.proofs.Splitting.{IsSplit, StandFirst, once_in, split}

-- HISTORIES

-- what a list of events doesn't submit, the events behind it do
behind_submit : (early late : List HistoryEvent) (id : TxnId) → is_submitted early id ≡ false → first_submit (early ++ late) id ≡ first_submit late id
behind_submit [] late id none = refl
behind_submit (history.Submit other txn ∷ early) late id none = by_test (same_id other id) (λ more. behind_submit early late id more) none
  where
    by_test : (test : Bool) → (is_submitted early id ≡ false → first_submit (early ++ late) id ≡ first_submit late id) →
        is_some (cond test (Some txn) (first_submit early id)) ≡ false → cond test (Some txn) (first_submit (early ++ late) id) ≡ first_submit late id
    by_test true more found = absurd (cc)
    by_test false more found = more found
behind_submit (history.Read other values ∷ early) late id none = behind_submit early late id none
behind_submit (history.Answer other answer ∷ early) late id none = behind_submit early late id none
behind_submit (history.Told asker other answer ∷ early) late id none = behind_submit early late id none

-- a first submit happened
first_happened : (events : List HistoryEvent) (id : TxnId) → IsTrue (is_submitted events id) →
    (txn : Txn) × (first_submit events id ≡ Some txn) × Happened (history.Submit id txn) events
first_happened [] id known = absurd (cc)
first_happened (history.Submit other txn ∷ events) id known = by_test (cases_Bool (same_id other id)) (λ more. first_happened events id more) known
  where
    by_test : ((same_id other id ≡ true) ⊎ (same_id other id ≡ false)) → (IsTrue (is_submitted events id) → (found : Txn) × (first_submit events id ≡ Some found) × Happened (history.Submit id found) events)
        → is_some (cond (same_id other id) (Some txn) (first_submit events id)) ≡ true
        → (found : Txn) × (cond (same_id other id) (Some txn) (first_submit events id) ≡ Some found) × Happened (history.Submit id found) (history.Submit other txn ∷ events)
    by_test (inl same) more found =
        (txn, ap (λ (test : Bool). cond test (Some txn) (first_submit events id)) same, inl (ap (λ (one : TxnId). history.Submit one txn) (sym (same_id-true other id same))))
    by_test (inr apart) more found =
        let later = more (sym (ap (λ (test : Bool). is_some (cond test (Some txn) (first_submit events id))) apart) ∙ found) in
        (later.0, ap (λ (test : Bool). cond test (Some txn) (first_submit events id)) apart ∙ later.1, inr later.2)
first_happened (history.Read other values ∷ events) id known = let later = first_happened events id known in (later.0, later.1, inr later.2)
first_happened (history.Answer other answer ∷ events) id known = let later = first_happened events id known in (later.0, later.1, inr later.2)
first_happened (history.Told asker other answer ∷ events) id known = let later = first_happened events id known in (later.0, later.1, inr later.2)

at_happened : (P : HistoryEvent → Type 0) (events : List HistoryEvent) (event : HistoryEvent) → Each P events → Happened event events → P event
at_happened P [] event each there = absurd there
at_happened P (first ∷ events) event each (inl same) = subst P (sym same) each.0
at_happened P (first ∷ events) event each (inr later) = at_happened P events event each.1 later

happened_on : (early late : List HistoryEvent) (event : HistoryEvent) → Happened event early → Happened event (early ++ late)
happened_on [] late event there = absurd there
happened_on (first ∷ early) late event (inl same) = inl same
happened_on (first ∷ early) late event (inr later) = inr (happened_on early late event later)

-- what is asked of an event and those before it holds where it happened behind a front
after_front : (lines : List Line) (before early late : List HistoryEvent) → EachAfter (FollowsAnswered lines) before (early ++ late) → EachAfter (FollowsAnswered lines) (before ++ early) late
after_front lines before [] late each = subst (λ (seen : List HistoryEvent). EachAfter (FollowsAnswered lines) seen late) (sym (append-nil before)) each
after_front lines before (event ∷ early) late each =
    subst (λ (seen : List HistoryEvent). EachAfter (FollowsAnswered lines) seen late) (append_assoc before (event ∷ []) early)
    (after_front lines (before ++ event ∷ []) early late each.1)

-- what was answered in the front stands before what is submitted behind it
follows : (lines : List Line) (early seen late : List HistoryEvent) (id answered : TxnId) (txn : Txn) (answer : Answer) →
    EachAfter (FollowsAnswered lines) (early ++ seen) late → Happened (history.Submit id txn) late → Happened (history.Answer answered answer) early →
    has_line lines answered ≡ true → has_line lines id ≡ true → stands_before lines answered id ≡ true
follows lines early seen [] id answered txn answer each there known first second = absurd there
follows lines early seen (event ∷ late) id answered txn answer each (inl same) known first second =
    at_happened (AnsweredStandsBefore lines id) (early ++ seen) (history.Answer answered answer)
    (subst (λ (one : HistoryEvent). FollowsAnswered lines (early ++ seen) one) (sym same) each.0) (happened_on early seen (history.Answer answered answer) known) first second
follows lines early seen (event ∷ late) id answered txn answer each (inr later) known first second =
    follows lines early (seen ++ event ∷ []) late id answered txn answer
    (subst (λ (all : List HistoryEvent). EachAfter (FollowsAnswered lines) all late) (append_assoc early seen (event ∷ [])) each.1) later known first second

submitted_of : (events : List HistoryEvent) (before : List Line) (lines : List OrderLine) → EachAfter (IsOrderLine events) before (lines_of lines) → Each (λ line. is_submitted events line.id ≡ true) lines
submitted_of events before [] each = tt
submitted_of events before (line ∷ lines) each = (each.0.submitted, submitted_of events (before ++ record { id = line.id; outcome = line.outcome } ∷ []) lines each.1)

line_submitted : (events : List HistoryEvent) (lines : List OrderLine) (id : TxnId) → Each (λ line. is_submitted events line.id ≡ true) lines → has_line (lines_of lines) id ≡ true → is_submitted events id ≡ true
line_submitted events [] id each there = absurd (cc)
line_submitted events (line ∷ lines) id each there = by_test (cases_Bool (same_id line.id id)) (λ more. line_submitted events lines id each.1 more) there
  where
    by_test : ((same_id line.id id ≡ true) ⊎ (same_id line.id id ≡ false)) → (has_line (lines_of lines) id ≡ true → is_submitted events id ≡ true) →
        (same_id line.id id || has_line (lines_of lines) id) ≡ true → is_submitted events id ≡ true
    by_test (inl same) more known = ap (is_submitted events) (sym (same_id-true line.id id same)) ∙ each.0
    by_test (inr apart) more known = more (sym (ap (λ (test : Bool). test || has_line (lines_of lines) id) apart) ∙ known)

-- a line of an account's put
opens_from : (kind : TxnId → Bool) (txn : TxnId → Txn) (front back : List OrderLine) (id : TxnId) (number : ℕ) → has_line (lines_of (front ++ back)) id ≡ true → kind id ≡ true →
    Each (λ line. kind line.id ≡ false) back → IsPut (txn id) number → Opens txn number front
opens_from kind txn [] [] id number there is others put = absurd (cc)
opens_from kind txn [] (line ∷ back) id number there is others put = by_test (cases_Bool (same_id line.id id)) (λ more. opens_from kind txn [] back id number more is others.1 put) there
  where
    by_test : ((same_id line.id id ≡ true) ⊎ (same_id line.id id ≡ false)) → (has_line (lines_of back) id ≡ true → Opens txn number []) →
        (same_id line.id id || has_line (lines_of back) id) ≡ true → Opens txn number []
    by_test (inl same) more known = both_ways _ others.0 (ap kind (same_id-true line.id id same) ∙ is)
    by_test (inr apart) more known = more (sym (ap (λ (test : Bool). test || has_line (lines_of back) id) apart) ∙ known)
opens_from kind txn (line ∷ front) back id number there is others put = by_test (cases_Bool (same_id line.id id)) (λ more. opens_from kind txn front back id number more is others put) there
  where
    by_test : ((same_id line.id id ≡ true) ⊎ (same_id line.id id ≡ false)) → (has_line (lines_of (front ++ back)) id ≡ true → Opens txn number front) →
        (same_id line.id id || has_line (lines_of (front ++ back)) id) ≡ true → Opens txn number (line ∷ front)
    by_test (inl same) more known = inl (subst (λ (one : TxnId). IsPut (txn one) number) (sym (same_id-true line.id id same)) put)
    by_test (inr apart) more known = inr (more (sym (ap (λ (test : Bool). test || has_line (lines_of (front ++ back)) id) apart) ∙ known))

module _ (events : List HistoryEvent) (lines : List OrderLine) (bank : IsBankHistory events) (serial : IsSerial events (lines_of lines)) where
  abbrev is_early : TxnId → Bool
  is_early id = is_submitted bank.early id

  submitted : Each (λ line. is_submitted events line.id ≡ true) lines
  submitted = submitted_of events [] lines serial.order_lines

  late_turn : (id : TxnId) → is_submitted events id ≡ true → is_early id ≡ false → (txn : Txn) × (first_submit events id ≡ Some txn) × Happened (history.Submit id txn) bank.late
  late_turn id known other =
      let same : first_submit events id ≡ first_submit bank.late id = ap (λ (all : List HistoryEvent). first_submit all id) bank.are ∙ behind_submit bank.early bank.late id other in
      let found = first_happened bank.late id (sym (ap (λ (one : Option Txn). is_some one) same) ∙ known) in
      (found.0, same ∙ found.1, found.2)

  is_turn : (id : TxnId) → is_submitted events id ≡ true → is_early id ≡ false → IsTurn (txn_of events id)
  is_turn id known other =
      let found = late_turn id known other in
      subst IsTurn (sym (ap (λ (one : Option Txn). unwrap_or one (Whole [])) found.1)) (bank.turns id found.0 found.2)

  puts_first : StandFirst is_early lines
  puts_first first second is other there too =
      let asked = late_turn second (line_submitted events lines second submitted too) other in
      let answered = bank.answered first is in
      follows (lines_of lines) bank.early [] bank.late second first asked.0 answered.answer
      (subst (λ (seen : List HistoryEvent). EachAfter (FollowsAnswered (lines_of lines)) seen bank.late) (sym (append-nil bank.early))
      (after_front (lines_of lines) [] bank.early bank.late (subst (λ (all : List HistoryEvent). EachAfter (FollowsAnswered (lines_of lines)) [] all) bank.are serial.follows)))
      asked.2 answered.there there too

  parts : IsSplit is_early lines
  parts = split is_early lines (once_in [] lines (order_lines-once events [] (lines_of lines) serial.order_lines)) puts_first

  put_line : (number : ℕ) → number < 16 → Opens (txn_of events) number parts.front
  put_line number low =
      let put = bank.all number low in
      let answered = bank.answered put.id put.submitted in
      let there : has_line (lines_of lines) put.id ≡ true =
      at_happened (HasItsLine (lines_of lines)) events (history.Answer put.id answered.answer) serial.have_lines
      (subst (λ (all : List HistoryEvent). Happened (history.Answer put.id answered.answer) all) (sym bank.are)
      (happened_on bank.early bank.late (history.Answer put.id answered.answer) answered.there)) in
      opens_from is_early (txn_of events) parts.front parts.back put.id number
      (sym (ap (λ (all : List OrderLine). has_line (lines_of all) put.id) parts.are) ∙ there) put.submitted parts.others put.put

  front_puts : Each (OpensSome (txn_of events)) parts.front
  front_puts =
      Each-weaker (λ (line : OrderLine). is_early line.id ≡ true) (OpensSome (txn_of events))
      (λ line is. let put = bank.puts line.id is in record { number = put.number; put = put.put }) parts.front parts.kinds

  back_turns : Each (λ line. IsTurn (txn_of events line.id)) parts.back
  back_turns =
      Each-with (λ (line : OrderLine). is_submitted events line.id ≡ true) (λ (line : OrderLine). is_early line.id ≡ false) (λ (line : OrderLine). IsTurn (txn_of events line.id))
      (λ line known other. is_turn line.id known other) parts.back
      (Each-right (λ (line : OrderLine). is_submitted events line.id ≡ true) parts.front parts.back
      (subst (λ (all : List OrderLine). Each (λ line. is_submitted events line.id ≡ true) all) parts.are submitted))
      parts.others

  -- THE DAY of a serial history
  pub day_of : IsDay (txn_of events) lines
  day_of = record {
    front = parts.front;
    back = parts.back;
    are = parts.are;
    puts = front_puts;
    all = put_line;
    turns = back_turns;
  }
