-- What the lines of an order say: no id has two; each transaction whose own packet stands in the order has one; they
-- stand in the order of first packets; and a line has the outcome that the id's first conclusory packet says. Used by
-- the rules.
use Rattle.std.proofs.Common.{◌≡◌, Bool, true, false, cond, ◌||◌, Option, Some, None, List, [], ◌∷◌, ◌++◌, refl, ap, sym, ◌∙◌, subst, ◌⊎◌, inl, inr}
use Rattle.std.proofs.lemmas.Bool.{both_ways, cases_Bool, cond-true, cond-false, or_cases, or_from, or_left, or_parts, or_right}
use Rattle.std.proofs.lemmas.List.Folds.{list_any-append}
use Rattle.eris_base.specs.declared.ids.Phase.{Phase}
use Rattle.eris_base.specs.declared.ids.ShardId.{ShardId}
use Rattle.eris_base.specs.declared.ids.TxnId.{TxnId}
use Rattle.eris_base.specs.Each.{Each, EachAfter}
use Rattle.eris_base.specs.TxnIds.{same_id, is_among}
use Rattle.eris_base.proofs.TxnIdLaws.{same_id-apart, same_id-from, same_id-true}
use Rattle.eris_txn.specs.declared.answer.Answer.{Answer}
use Rattle.eris_txn.specs.declared.answer.Answer.TheVariants.{Committed, Aborted}
use Rattle.eris_txn.specs.declared.body.Body.{Body}
use Rattle.eris_txn.specs.declared.body.Body.TheVariants.{Independent, Prelim, Commit, Abort}
use Rattle.eris_txn.specs.declared.packet.Packet.{Packet}
use Rattle.eris_txn.specs.declared.txn.Txn.{Txn}
use Rattle.eris_txn.specs.declared.txn.Txn.TheVariants.{Whole, General}
use Rattle.eris_txn.specs.Keys.{Values}
use Rattle.eris_txn.specs.PlanValues.{PlanValue}
use Rattle.eris_locks.specs.Law.{HasPacket}
use Rattle.eris_locks.specs.ShardRun.{outcome_by}
use Rattle.eris_locks.specs.Shards.{cut, cut_body, names_shard, on_shard}
use Rattle.eris_locks.specs.States.{is_conclusory, phase_of}
use Rattle.eris_locks.specs.WellFormed.{is_commit}
use Rattle.eris_law_lock.proofs.InTime.{outcome_later}
use Rattle.eris_audit.specs.declared.outcome.Outcome.{Outcome}
use Rattle.eris_audit.specs.Lines.{Line, has_line, outcome_in, stands_before}
use Rattle.eris_audit.specs.SerialRun.{left_by_txn, result_in, result_of}
use Rattle.eris_order.specs.Orders.{lines_from, outcome_at, outcome_from, outcome_of}
use Rattle.eris_serial.specs.Evidence.{BodyOrigin, HasOwn, StandsBehind}
use Rattle.eris_law_serial.proofs.LineSteps.{by_packet, first_line}
use Rattle.eris_law_serial.proofs.Sound.{outcome-other}

-- A CONCLUSORY PACKET ON A SHARD is one of the order
concludes_some : (shard : ShardId) (body : Body) (later : Option Answer) → phase_of (cut_body shard body) ≡ Phase.Conclude → outcome_by body true later ≡ None → ⊥
concludes_some shard (Independent ops) later is none = cc
concludes_some shard (Prelim locks) later is none = cc
concludes_some shard (Commit keys writes) later is none = cc
concludes_some shard (Abort keys) later is none = cc

pub none_concluded : (shard : ShardId) (id : TxnId) (packets : List Packet) → outcome_at id packets ≡ None → HasPacket id Phase.Conclude (on_shard shard packets) → ⊥
none_concluded shard id [] none = λ has. has
none_concluded shard id (packet ∷ packets) none =
    by_test (names_shard shard packet) (none_concluded shard id packets (outcome_later packet.body (same_id id packet.id) (outcome_at id packets) none))
  where
    by_test : (named : Bool) → (HasPacket id Phase.Conclude (on_shard shard packets) → ⊥)
        → HasPacket id Phase.Conclude (elim named [ true ↦ cut shard packet ∷ on_shard shard packets | false ↦ on_shard shard packets ]) → ⊥
    by_test true rest (inl here) =
        concludes_some shard packet.body (outcome_at id packets) here.1
        (subst (λ test. outcome_by packet.body test (outcome_at id packets) ≡ None) (same_id-from id packet.id (sym here.0)) none)
    by_test true rest (inr there) = rest there
    by_test false rest there = rest there

-- NO ID HAS TWO LINES, and what holds of each own packet holds of its line
module _ (P : List Line → Line → Type 0) (Q : Packet → Type 0)
    (line_of : (before : List Line) (packet : Packet) (decided : Bool) (later : Option Answer) → has_line before packet.id ≡ false → Q packet → is_conclusory packet.body ≡ false
    → P before (record { id = packet.id; outcome = outcome_of packet.body decided later })) where
  pub each_line : (packets : List Packet) (seen decided : List TxnId) (before : List Line) → ((id : TxnId) → is_among id seen ≡ false → has_line before id ≡ false) → Each Q packets
      → EachAfter P before (lines_from seen decided packets)
  each_line [] seen decided before known each = tt
  each_line (packet ∷ packets) seen decided before known each = by_packet (EachAfter P before) seen decided packet packets
      (λ concludes. each_line packets seen (packet.id ∷ decided) before known each.1)
      (λ own again. each_line packets seen decided before known each.1)
      (λ own new. (
        line_of before packet (is_among packet.id decided) (outcome_at packet.id packets) (known packet.id new) each.0 own,
        each_line packets (packet.id ∷ seen) decided (before ++ first_line packet decided packets ∷ []) next each.1,
      ))
    where
      next : (id : TxnId) → is_among id (packet.id ∷ seen) ≡ false → has_line (before ++ first_line packet decided packets ∷ []) id ≡ false
      next id new =
          let parts = or_parts (same_id id packet.id) (is_among id seen) new in
          list_any-append (λ (line : Line). same_id line.id id) before (first_line packet decided packets ∷ [])
          ∙ or_from _ _ (known id parts.1) (or_from _ _ (same_id-apart id packet.id parts.0) refl)

-- A TRANSACTION WHOSE OWN PACKET STANDS IN THE ORDER HAS A LINE
pub has_its_line : (id : TxnId) (packets : List Packet) (seen decided : List TxnId) → HasOwn id packets → is_among id seen ≡ false → has_line (lines_from seen decided packets) id ≡ true
has_its_line id [] seen decided has new = absurd has
has_its_line id (packet ∷ packets) seen decided has new =
    let rest = λ (s d : List TxnId) (there : HasOwn id packets) (unseen : is_among id s ≡ false). has_its_line id packets s d there unseen in
    by_packet (λ lines. has_line lines id ≡ true) seen decided packet packets (concluded rest has) (repeated rest has) (acts rest (cases_Bool (same_id id packet.id)) has)
  where
    concluded : ((s d : List TxnId) → HasOwn id packets → is_among id s ≡ false → has_line (lines_from s d packets) id ≡ true) → HasOwn id (packet ∷ packets)
        → is_conclusory packet.body ≡ true → has_line (lines_from seen (packet.id ∷ decided) packets) id ≡ true
    concluded rest (inl here) concludes = absurd (both_ways _ here.1 concludes)
    concluded rest (inr there) concludes = rest seen (packet.id ∷ decided) there new

    repeated : ((s d : List TxnId) → HasOwn id packets → is_among id s ≡ false → has_line (lines_from s d packets) id ≡ true) → HasOwn id (packet ∷ packets)
        → is_conclusory packet.body ≡ false → is_among packet.id seen ≡ true → has_line (lines_from seen decided packets) id ≡ true
    repeated rest (inl here) own again = absurd (both_ways _ new (ap (λ i. is_among i seen) (sym here.0) ∙ again))
    repeated rest (inr there) own again = rest seen decided there new

    acts : ((s d : List TxnId) → HasOwn id packets → is_among id s ≡ false → has_line (lines_from s d packets) id ≡ true)
        → ((same_id id packet.id ≡ true) ⊎ (same_id id packet.id ≡ false)) → HasOwn id (packet ∷ packets) → is_conclusory packet.body ≡ false → is_among packet.id seen ≡ false
        → has_line (first_line packet decided packets ∷ lines_from (packet.id ∷ seen) decided packets) id ≡ true
    acts rest (inl same) h own first = or_left _ _ (same_id-from packet.id id (sym (same_id-true id packet.id same)))
    acts rest (inr apart) (inl here) own first = or_left _ _ (same_id-from packet.id id here.0)
    acts rest (inr apart) (inr there) own first = or_right _ _ (rest (packet.id ∷ seen) decided there (or_from _ _ apart new))

-- WHERE AN ID STANDS BEHIND ANOTHER IN THE ORDER, so do their lines
pub lines_before : (first second : TxnId) (packets : List Packet) (seen decided : List TxnId) → StandsBehind packets first second → is_among first seen ≡ false
    → has_line (lines_from seen decided packets) second ≡ true → stands_before (lines_from seen decided packets) first second ≡ true
lines_before first second [] seen decided behind new = λ has. absurd (both_ways _ refl has)
lines_before first second (packet ∷ packets) seen decided behind new = by_packet (λ lines. has_line lines second ≡ true → stands_before lines first second ≡ true) seen decided packet packets
    (λ concludes has. lines_before first second packets seen (packet.id ∷ decided) (λ front after other split is own. past_conclusory concludes front (behind (packet ∷ front) after other (ap (λ l. packet ∷ l) split) is own)) new has)
    (λ own again has. lines_before first second packets seen decided (λ front after other split is other_own. past_repeated again front (behind (packet ∷ front) after other (ap (λ l. packet ∷ l) split) is other_own)) new has)
    (λ own unseen has. acts (λ goes unseen' h. lines_before first second packets (packet.id ∷ seen) decided goes unseen' h) own (cases_Bool (same_id first packet.id)) (or_cases _ _ has))
  where
    past_conclusory : is_conclusory packet.body ≡ true → (front : List Packet) → HasOwn first (packet ∷ front) → HasOwn first front
    past_conclusory concludes front (inl here) = absurd (both_ways _ here.1 concludes)
    past_conclusory concludes front (inr there) = there

    past_repeated : is_among packet.id seen ≡ true → (front : List Packet) → HasOwn first (packet ∷ front) → HasOwn first front
    past_repeated again front (inl here) = absurd (both_ways _ new (ap (λ i. is_among i seen) (sym here.0) ∙ again))
    past_repeated again front (inr there) = there

    past_other : same_id first packet.id ≡ false → (front : List Packet) → HasOwn first (packet ∷ front) → HasOwn first front
    past_other apart front (inl here) = absurd (both_ways _ apart (same_id-from first packet.id (sym here.0)))
    past_other apart front (inr there) = there

    acts : (StandsBehind packets first second → is_among first (packet.id ∷ seen) ≡ false → has_line (lines_from (packet.id ∷ seen) decided packets) second ≡ true
        → stands_before (lines_from (packet.id ∷ seen) decided packets) first second ≡ true)
        → is_conclusory packet.body ≡ false
        → ((same_id first packet.id ≡ true) ⊎ (same_id first packet.id ≡ false)) → ((same_id packet.id second ≡ true) ⊎ (has_line (lines_from (packet.id ∷ seen) decided packets) second ≡ true))
        → stands_before (first_line packet decided packets ∷ lines_from (packet.id ∷ seen) decided packets) first second ≡ true
    acts rest own test (inl is_second) = absurd (behind [] packets packet refl (same_id-true packet.id second is_second) own)
    acts rest own (inl same) (inr later) = cond-true _ _ _ (same_id-from packet.id first (sym (same_id-true first packet.id same))) ∙ later
    acts rest own (inr apart) (inr later) =
        cond-false _ _ _ (same_id-apart first packet.id apart)
        ∙ rest (λ front after other split is other_own. past_other apart front (behind (packet ∷ front) after other (ap (λ l. packet ∷ l) split) is other_own)) (or_from _ _ apart new) later

pub outcome-own : (body : Body) (here : Bool) (later : Option Answer) → is_conclusory body ≡ false → outcome_by body here later ≡ later
outcome-own (Independent ops) here later own = refl
outcome-own (Prelim locks) here later own = refl
outcome-own (Commit keys writes) here later own = cc
outcome-own (Abort keys) here later own = cc

-- each Commit of an id before which no conclusory packet of it stands has an own packet of it before it
abbrev pub CommitsBehindOwn : TxnId → List Packet → Type 0
CommitsBehindOwn id packets =
    (front after : List Packet) (packet : Packet) → packets ≡ front ++ packet ∷ after → packet.id ≡ id → is_commit packet.body ≡ true → outcome_at id front ≡ None → HasOwn id front

module _ (txn : TxnId → Txn) (id : TxnId) (plan : PlanValue) (is : txn id ≡ General plan) where
  general_outcome : (body : Body) → is_conclusory body ≡ false → BodyOrigin (txn id) body → (decided : Bool) (later : Option Answer)
      → outcome_of body decided later ≡ cond decided Outcome.Aborted (outcome_from later)
  general_outcome (Independent ops) own origin decided later = absurd (clash (sym origin ∙ is))
    where
      clash : Whole ops ≡ General plan → ⊥
      clash equal = cc
  general_outcome (Prelim locks) own origin decided later = refl
  general_outcome (Commit keys writes) own origin decided later = cc
  general_outcome (Abort keys) own origin decided later = cc

  -- the outcome of its line
  line_outcome : (packet : Packet) (decided : List TxnId) (packets : List Packet) (outcome : Outcome) → packet.id ≡ id → is_conclusory packet.body ≡ false → BodyOrigin (txn packet.id) packet.body
      → cond (is_among id decided) Outcome.Aborted (outcome_from (outcome_at id packets)) ≡ outcome → (first_line packet decided packets).outcome ≡ outcome
  line_outcome packet decided packets outcome same own origin says =
      general_outcome packet.body own (subst (λ i. BodyOrigin (txn i) packet.body) same origin) (is_among packet.id decided) (outcome_at packet.id packets)
      ∙ (ap (λ i. cond (is_among i decided) Outcome.Aborted (outcome_from (outcome_at i packets))) same ∙ says)

  here : (packet : Packet) (decided : List TxnId) (packets : List Packet) (lines : List Line) (outcome : Outcome) → same_id id packet.id ≡ true
      → (first_line packet decided packets).outcome ≡ outcome → outcome_in (first_line packet decided packets ∷ lines) id ≡ Some outcome
  here packet decided packets lines outcome same says =
      cond-true _ _ _ (same_id-from packet.id id (sym (same_id-true id packet.id same))) ∙ ap (λ (o : Outcome). Some o) says

  there : (packet : Packet) (decided : List TxnId) (packets : List Packet) (lines : List Line) (found : Option Outcome) → same_id id packet.id ≡ false
      → outcome_in lines id ≡ found → outcome_in (first_line packet decided packets ∷ lines) id ≡ found
  there packet decided packets lines found apart rest = cond-false _ _ _ (same_id-apart id packet.id apart) ∙ rest

  -- AN ABORTED ID has that outcome, if it has a line
  pub aborted_line : (packets : List Packet) (seen decided : List TxnId) → Each (λ packet. BodyOrigin (txn packet.id) packet.body) packets
      → ((is_among id decided ≡ true) ⊎ (outcome_at id packets ≡ Some Aborted))
      → has_line (lines_from seen decided packets) id ≡ true → outcome_in (lines_from seen decided packets) id ≡ Some Outcome.Aborted
  aborted_line [] seen decided origins aborted = λ has. absurd (both_ways _ refl has)
  aborted_line (packet ∷ packets) seen decided origins aborted =
      by_packet (λ lines. has_line lines id ≡ true → outcome_in lines id ≡ Some Outcome.Aborted) seen decided packet packets
      (λ concludes has. aborted_line packets seen (packet.id ∷ decided) origins.1 (concluded (cases_Bool (same_id id packet.id)) aborted) has)
      (λ own again has. aborted_line packets seen decided origins.1 (plain own aborted) has)
      (λ own new has. acts (λ d h. aborted_line packets (packet.id ∷ seen) decided origins.1 d h) own (cases_Bool (same_id id packet.id)) (or_cases _ _ has))
    where
      concluded : ((same_id id packet.id ≡ true) ⊎ (same_id id packet.id ≡ false)) → ((is_among id decided ≡ true) ⊎ (outcome_at id (packet ∷ packets) ≡ Some Aborted))
          → (is_among id (packet.id ∷ decided) ≡ true) ⊎ (outcome_at id packets ≡ Some Aborted)
      concluded (inl same) said = inl (or_left _ _ same)
      concluded (inr apart) (inl before) = inl (or_right _ _ before)
      concluded (inr apart) (inr later) = inr (sym (outcome-other packet.body (same_id id packet.id) (outcome_at id packets) apart) ∙ later)

      plain : is_conclusory packet.body ≡ false → ((is_among id decided ≡ true) ⊎ (outcome_at id (packet ∷ packets) ≡ Some Aborted))
          → (is_among id decided ≡ true) ⊎ (outcome_at id packets ≡ Some Aborted)
      plain own (inl before) = inl before
      plain own (inr later) = inr (sym (outcome-own packet.body (same_id id packet.id) (outcome_at id packets) own) ∙ later)

      says : ((is_among id decided ≡ true) ⊎ (outcome_at id packets ≡ Some Aborted)) → cond (is_among id decided) Outcome.Aborted (outcome_from (outcome_at id packets)) ≡ Outcome.Aborted
      says (inl before) = rw before
      says (inr later) = rw later (either (is_among id decided))
        where
          either : (test : Bool) → cond test Outcome.Aborted Outcome.Aborted ≡ Outcome.Aborted
          either true = refl
          either false = refl

      acts : (((is_among id decided ≡ true) ⊎ (outcome_at id packets ≡ Some Aborted)) → has_line (lines_from (packet.id ∷ seen) decided packets) id ≡ true
          → outcome_in (lines_from (packet.id ∷ seen) decided packets) id ≡ Some Outcome.Aborted)
          → is_conclusory packet.body ≡ false → ((same_id id packet.id ≡ true) ⊎ (same_id id packet.id ≡ false))
          → ((same_id packet.id id ≡ true) ⊎ (has_line (lines_from (packet.id ∷ seen) decided packets) id ≡ true))
          → outcome_in (first_line packet decided packets ∷ lines_from (packet.id ∷ seen) decided packets) id ≡ Some Outcome.Aborted
      acts rest own (inl same) has =
          here packet decided packets _ Outcome.Aborted same (line_outcome packet decided packets Outcome.Aborted (sym (same_id-true id packet.id same)) own origins.0 (says (plain own aborted)))
      acts rest own (inr apart) (inl is_it) = absurd (both_ways _ (same_id-apart id packet.id apart) is_it)
      acts rest own (inr apart) (inr later) = there packet decided packets _ _ apart (rest (plain own aborted) later)

  -- A COMMITTED ID, whose Commits stand behind its preliminary, has that outcome
  pub committed_line : (packets : List Packet) (seen decided : List TxnId) → Each (λ packet. BodyOrigin (txn packet.id) packet.body) packets → CommitsBehindOwn id packets
      → is_among id seen ≡ false → is_among id decided ≡ false → outcome_at id packets ≡ Some Committed → outcome_in (lines_from seen decided packets) id ≡ Some Outcome.Committed
  committed_line [] seen decided origins behind new undecided outcome = absurd (clash outcome)
    where
      clash : None ≡ Some Committed → ⊥
      clash equal = cc
  committed_line (packet ∷ packets) seen decided origins behind new undecided outcome = by_packet (λ lines. outcome_in lines id ≡ Some Outcome.Committed) seen decided packet packets
      (λ concludes. concluded (λ s d goes n u o. committed_line packets s d origins.1 goes n u o) (cases_Bool (same_id id packet.id)) concludes)
      (λ own again. committed_line packets seen decided origins.1
      (λ front after other split same commits none. past_repeated again front (behind (packet ∷ front) after other (ap (λ l. packet ∷ l) split) same commits (outcome-own packet.body (same_id id packet.id) (outcome_at id front) own ∙ none)))
      new undecided (sym (outcome-own packet.body (same_id id packet.id) (outcome_at id packets) own) ∙ outcome))
      (λ own unseen. acts (λ s d goes n u o. committed_line packets s d origins.1 goes n u o) (cases_Bool (same_id id packet.id)) own)
    where
      first_commits : (body : Body) → is_conclusory body ≡ true → (is_commit body ≡ true → ⊥) → outcome_by body true (outcome_at id packets) ≡ Some Committed → ⊥
      first_commits (Independent ops) concludes not said = both_ways _ refl concludes
      first_commits (Prelim locks) concludes not said = both_ways _ refl concludes
      first_commits (Commit keys writes) concludes not said = not refl
      first_commits (Abort keys) concludes not said = cc

      past_conclusory : is_conclusory packet.body ≡ true → (front : List Packet) → HasOwn id (packet ∷ front) → HasOwn id front
      past_conclusory concludes front (inl at_head) = absurd (both_ways _ at_head.1 concludes)
      past_conclusory concludes front (inr later) = later

      past_repeated : is_among packet.id seen ≡ true → (front : List Packet) → HasOwn id (packet ∷ front) → HasOwn id front
      past_repeated again front (inl at_head) = absurd (both_ways _ new (ap (λ i. is_among i seen) (sym at_head.0) ∙ again))
      past_repeated again front (inr later) = later

      past_other : same_id id packet.id ≡ false → (front : List Packet) → HasOwn id (packet ∷ front) → HasOwn id front
      past_other apart front (inl at_head) = absurd (both_ways _ apart (same_id-from id packet.id (sym at_head.0)))
      past_other apart front (inr later) = later

      concluded : ((s d : List TxnId) → CommitsBehindOwn id packets → is_among id s ≡ false → is_among id d ≡ false → outcome_at id packets ≡ Some Committed
          → outcome_in (lines_from s d packets) id ≡ Some Outcome.Committed)
          → ((same_id id packet.id ≡ true) ⊎ (same_id id packet.id ≡ false)) → is_conclusory packet.body ≡ true → outcome_in (lines_from seen (packet.id ∷ decided) packets) id ≡ Some Outcome.Committed
      concluded rest (inl same) concludes =
          absurd
          (first_commits packet.body concludes (λ commits. behind [] packets packet refl (sym (same_id-true id packet.id same)) commits refl)
          (subst (λ test. outcome_by packet.body test (outcome_at id packets) ≡ Some Committed) same outcome))
      concluded rest (inr apart) concludes =
          rest seen (packet.id ∷ decided)
          (λ front after other split same commits none. past_conclusory concludes front (behind (packet ∷ front) after other (ap (λ l. packet ∷ l) split) same commits (outcome-other packet.body (same_id id packet.id) (outcome_at id front) apart ∙ none)))
          new (or_from _ _ apart undecided) (sym (outcome-other packet.body (same_id id packet.id) (outcome_at id packets) apart) ∙ outcome)

      acts : ((s d : List TxnId) → CommitsBehindOwn id packets → is_among id s ≡ false → is_among id d ≡ false → outcome_at id packets ≡ Some Committed
          → outcome_in (lines_from s d packets) id ≡ Some Outcome.Committed)
          → ((same_id id packet.id ≡ true) ⊎ (same_id id packet.id ≡ false)) → is_conclusory packet.body ≡ false
          → outcome_in (first_line packet decided packets ∷ lines_from (packet.id ∷ seen) decided packets) id ≡ Some Outcome.Committed
      acts rest (inl same) own =
          here packet decided packets _ Outcome.Committed same
          (line_outcome packet decided packets Outcome.Committed (sym (same_id-true id packet.id same)) own origins.0
          (rw (undecided, sym (outcome-own packet.body (same_id id packet.id) (outcome_at id packets) own) ∙ outcome) refl))
      acts rest (inr apart) own =
          there packet decided packets _ _ apart
          (rest (packet.id ∷ seen) decided
          (λ front after other split same commits none. past_other apart front (behind (packet ∷ front) after other (ap (λ l. packet ∷ l) split) same commits (outcome-own packet.body (same_id id packet.id) (outcome_at id front) own ∙ none)))
          (or_from _ _ apart new) undecided (sym (outcome-own packet.body (same_id id packet.id) (outcome_at id packets) own) ∙ outcome))

-- an id with an outcome has a line
pub line_of_outcome : (id : TxnId) (outcome : Outcome) (lines : List Line) → outcome_in lines id ≡ Some outcome → has_line lines id ≡ true
line_of_outcome id outcome [] is = cc
line_of_outcome id outcome (line ∷ lines) is = by_test (same_id line.id id) is (line_of_outcome id outcome lines)
  where
    by_test : (test : Bool) → cond test (Some line.outcome) (outcome_in lines id) ≡ Some outcome → (outcome_in lines id ≡ Some outcome → has_line lines id ≡ true) → (test || has_line lines id) ≡ true
    by_test true found rest = refl
    by_test false found rest = rest found

-- the serial run has a result for each line
pub line_has_result : (txn : TxnId → Txn) (id : TxnId) (lines : List Line) (values : Values) → has_line lines id ≡ true → (answer : Answer) × (result_in txn lines values id ≡ Some answer)
line_has_result txn id [] values has = absurd (both_ways _ refl has)
line_has_result txn id (line ∷ lines) values has = by_test (same_id line.id id) has (line_has_result txn id lines (left_by_txn (txn line.id) line.outcome values))
  where
    by_test : (test : Bool) → (test || has_line lines id) ≡ true
        → (has_line lines id ≡ true → (answer : Answer) × (result_in txn lines (left_by_txn (txn line.id) line.outcome values) id ≡ Some answer))
        → (answer : Answer) × (cond test (Some (result_of (txn line.id) values)) (result_in txn lines (left_by_txn (txn line.id) line.outcome values) id) ≡ Some answer)
    by_test true found rest = (result_of (txn line.id) values, refl)
    by_test false found rest = rest found

-- what a first conclusory packet says is Committed or Aborted
pub outcome_cases : (id : TxnId) (answer : Answer) (packets : List Packet) → outcome_at id packets ≡ Some answer → (answer ≡ Committed) ⊎ (answer ≡ Aborted)
outcome_cases id answer [] is = absurd (clash is)
  where
    clash : None ≡ Some answer → ⊥
    clash equal = cc
outcome_cases id answer (packet ∷ packets) is = by_body packet.body (same_id id packet.id) is (outcome_cases id answer packets)
  where
    by_body : (body : Body) (test : Bool) → outcome_by body test (outcome_at id packets) ≡ Some answer → (outcome_at id packets ≡ Some answer → (answer ≡ Committed) ⊎ (answer ≡ Aborted))
        → (answer ≡ Committed) ⊎ (answer ≡ Aborted)
    by_body (Independent ops) test said rest = rest said
    by_body (Prelim locks) test said rest = rest said
    by_body (Commit keys writes) true said rest = inl (cc)
    by_body (Commit keys writes) false said rest = rest said
    by_body (Abort keys) true said rest = inr (cc)
    by_body (Abort keys) false said rest = rest said
