-- THE RUN OF A DRILL: where each event comes, it has no cause to be refused; and at the end all has been submitted, in order.
use Rattle.std.proofs.Common.{◌≡◌, ◌≤◌, ◌<◌, ◌+◌, ◌/◌, ◌%◌, ◌==◌, ◌⊎◌, inl, inr, ℕ, zero, suc, Bool, true, false, cond, nat_lt, ◌&&◌, None, List, [], ◌∷◌, ◌++◌, length, length-append, append_assoc, append-nil, refl, ap, sym, ◌∙◌, subst, arith, lit<, lit≤, eq-eqb, eqb-true}
use Rattle.std.proofs.lemmas.Bool.{both_ways, cases_lt, and_from}
use Rattle.std.proofs.lemmas.Bool.Decides.{nat_tests}
use Rattle.eris_base.specs.declared.ids.ReplicaId.{ReplicaId}
use Rattle.eris_base.specs.declared.ids.ShardId.{ShardId}
use Rattle.eris_base.specs.declared.ids.TxnId.{TxnId}
use Rattle.eris_txn.specs.declared.op.Op.TheVariants.{Get}
use Rattle.eris_txn.specs.declared.txn.Txn.{Txn}
use Rattle.eris_txn.specs.declared.txn.Txn.TheVariants.{Whole, General}
use Rattle.eris_event.specs.declared.event.Event.{Event}
use Rattle.eris_event.specs.declared.event.Event.TheVariants as event
use Rattle.eris_grammar.specs.declared.line.Line.{Line}
use Rattle.eris_grammar.specs.declared.line.Line.TheVariants.{One, Flow, Lose}
use Rattle.eris_rules.specs.Clients.{submit}
use Rattle.eris_rules.specs.Happenings.{happens}
use Rattle.eris_rules.specs.Known.{knows_replica, knows_shard}
use Rattle.eris_rules.specs.Refusals.{cause}
use Rattle.eris_rules.specs.Worlds.{WorldState}
use Rattle.eris_law_agreement.specs.NodeSteps.{OfClient, step_of}
use Rattle.eris_drill.specs.declared.turn.Turn.{Turn}
use Rattle.eris_drill.specs.Draws.{turn_at}
use Rattle.eris_drill.specs.DrillLines.{account, asked, bank, below, closing, drill_lines, noon, opening, opening_put, payee, payer, retry_lines, settler, teller, transfer, turn_lines, upkeep, weather}
use Rattle.eris_law_drill.specs.Reading.{drill_events}
use Rattle.eris_law_drill.proofs.ReadLines.{settler_low}
use Rattle.eris_law_drill_run.specs.Submissions.{asked_txn, drill_submissions, first_puts, first_turns, id_at, put_of}
use Rattle.eris_law_drill_run.proofs.Carrying.{Carries, CarriesLines, carries_each, carries_none, carries_one, lines-append, lines_below, lines_then}
use Rattle.eris_law_drill_run.proofs.Causes.{IsUp, key_known, keys_known, retry_free, submit_free, timer_free}
use Rattle.eris_law_drill_run.proofs.QuietEvents.{IsQuietEvent, acts_crash}
use Rattle.eris_law_drill_run.proofs.Standing.{Stands, share, stands_crashed, stands_quiet, stands_submitted}

abbrev Pairs : Type 0
Pairs = List (TxnId × Txn)

-- who is down: the first learner, behind noon
abbrev pub down : Bool → List (ShardId × ReplicaId)
down late = cond late ((record { 0 = 0 }, record { 0 = 0 }) ∷ []) []

-- how many there are
one_each : (list : ℕ → Pairs) (n : ℕ) → ((k : ℕ) → length (list k) ≡ 1) → length (below list n) ≡ n
unfolding below
one_each list zero one = refl
one_each list (suc n) one =
    let before = one_each list n one in
    let last = one n in
    let both = length-append (below list n) (list n) in
    omega (arith, before, last, both)

pub length_puts : (n : ℕ) → length (first_puts n) ≡ n
unfolding first_puts
length_puts n = one_each (λ (number : ℕ). (id_at number, put_of number) ∷ []) n (λ k. refl)

pub length_turns : (number n : ℕ) → length (first_turns number n) ≡ n
unfolding first_turns
length_turns number n = one_each (λ (turn : ℕ). (id_at (16 + turn), asked_txn (turn_at number turn)) ∷ []) n (λ k. refl)

length_done : (number n : ℕ) → length (first_puts 16 ++ first_turns number n) ≡ 16 + n
length_done number n =
    let puts = length_puts 16 in
    let turns = length_turns number n in
    let both = length-append (first_puts 16) (first_turns number n) in
    omega (arith, puts, turns, both)

-- ---- the event of one submission
submits : (crashed : List (ShardId × ReplicaId)) (done : Pairs) (n : ℕ) (e : Event) (txn : Txn) → length done ≡ n
    → ((world : WorldState) → step_of world e ≡ OfClient (teller n) (λ me state. submit me state txn))
    → ((world : WorldState) → cause bank world e ≡ None)
    → ((world : WorldState) → (happens bank world e).crashed ≡ world.crashed)
    → Carries (Stands crashed done) (e ∷ []) (Stands crashed (done ++ (id_at n, txn) ∷ []))
submits crashed done n e txn is step free same =
    carries_one (Stands crashed done) (Stands crashed (done ++ (id_at n, txn) ∷ [])) e (λ world stands. free world)
    (λ world stands. subst (λ (at : ℕ). Stands crashed (done ++ (id_at at, txn) ∷ []) (happens bank world e)) is
    (stands_submitted crashed done world stands e txn (step world ∙ ap (λ (at : ℕ). OfClient (teller at) (λ me state. submit me state txn)) (sym is)) (same world)))

put_step : (at : ℕ) (world : WorldState) → step_of world (opening_put at) ≡ OfClient (teller at) (λ me state. submit me state (put_of at))
unfolding step_of opening_put
put_step at world = refl

put_free : (at : ℕ) (world : WorldState) → cause bank world (opening_put at) ≡ None
unfolding cause opening_put
put_free at world = submit_free at (account at ∷ []) (key_known at)

put_crash : (at : ℕ) (world : WorldState) → (happens bank world (opening_put at)).crashed ≡ world.crashed
unfolding happens opening_put
put_crash at world = acts_crash bank world (teller at) _

put_carries : (at : ℕ) → CarriesLines (Stands [] (first_puts at)) (One (opening_put at) ∷ []) (Stands [] (first_puts (suc at)))
unfolding first_puts below
put_carries at = submits [] (first_puts at) at (opening_put at) (put_of at) (length_puts at) (put_step at) (put_free at) (put_crash at)

-- the clients have their turns in the same order all day
same_turn : (turn : ℕ) → turn % 8 ≡ (16 + turn) % 8
same_turn turn = omega arith

same_teller : (turn : ℕ) → teller turn ≡ teller (16 + turn)
unfolding teller
same_teller turn = ap (λ (at : ℕ). record { 0 = at }) (same_turn turn)

asked_step : (turn : ℕ) (drawn : Turn) (world : WorldState) → step_of world (asked (teller turn) drawn) ≡ OfClient (teller turn) (λ me state. submit me state (asked_txn drawn))
unfolding step_of asked asked_txn
asked_step turn drawn world = by_kind (drawn.kind == 0)
  where
    by_kind : (test : Bool) → step_of world (cond test (event.Submit (teller turn) (Get (payer drawn) ∷ Get (payee drawn) ∷ [])) (event.General (teller turn) (transfer drawn)))
        ≡ OfClient (teller turn) (λ me state. submit me state (cond test (Whole (Get (payer drawn) ∷ Get (payee drawn) ∷ [])) (General (transfer drawn))))
    by_kind true = refl
    by_kind false = refl

asked_free : (turn : ℕ) (drawn : Turn) (world : WorldState) → cause bank world (asked (teller turn) drawn) ≡ None
unfolding cause asked transfer
asked_free turn drawn world = by_kind (drawn.kind == 0)
  where
    by_kind : (test : Bool) → cause bank world (cond test (event.Submit (teller turn) (Get (payer drawn) ∷ Get (payee drawn) ∷ [])) (event.General (teller turn) (transfer drawn))) ≡ None
    by_kind true = submit_free turn (payer drawn ∷ payee drawn ∷ []) (keys_known drawn)
    by_kind false = submit_free turn (payer drawn ∷ payee drawn ∷ []) (keys_known drawn)

asked_crash : (turn : ℕ) (drawn : Turn) (world : WorldState) → (happens bank world (asked (teller turn) drawn)).crashed ≡ world.crashed
unfolding happens asked
asked_crash turn drawn world = by_kind (drawn.kind == 0)
  where
    by_kind : (test : Bool) → (happens bank world (cond test (event.Submit (teller turn) (Get (payer drawn) ∷ Get (payee drawn) ∷ [])) (event.General (teller turn) (transfer drawn)))).crashed ≡ world.crashed
    by_kind true = acts_crash bank world (teller turn) _
    by_kind false = acts_crash bank world (teller turn) _

asked_carries : (crashed : List (ShardId × ReplicaId)) (done : Pairs) (turn : ℕ) (drawn : Turn) → length done ≡ 16 + turn
    → Carries (Stands crashed done) (asked (teller turn) drawn ∷ []) (Stands crashed (done ++ (id_at (16 + turn), asked_txn drawn) ∷ []))
asked_carries crashed done turn drawn is =
    submits crashed done (16 + turn) (asked (teller turn) drawn) (asked_txn drawn) is
    (λ world. asked_step turn drawn world ∙ ap (λ client. OfClient client (λ me state. submit me state (asked_txn drawn))) (same_teller turn)) (asked_free turn drawn) (asked_crash turn drawn)

-- ---- events that submit nothing
shard_known : (shard : ℕ) → shard < 4 → knows_shard bank (record { 0 = shard }) ≡ true
unfolding bank
shard_known shard few = grind (arith, nat_tests)

place_known : (replica : ℕ) → replica < 3 → knows_replica bank (record { 0 = replica }) ≡ true
unfolding bank
place_known replica low = grind (arith, nat_tests)

replica_known : (shard replica : ℕ) → shard < 4 → replica < 3 → (knows_shard bank (record { 0 = shard }) && knows_replica bank (record { 0 = replica })) ≡ true
replica_known shard replica few low = and_from _ _ (shard_known shard few) (place_known replica low)

module _ (crashed : List (ShardId × ReplicaId)) (done : Pairs) where
  abbrev Now : WorldState → Type 0
  Now = Stands crashed done

  quiet_carries : (e : Event) → IsQuietEvent e → ((world : WorldState) → Now world → cause bank world e ≡ None) → Carries Now (e ∷ []) Now
  quiet_carries e quiet free = carries_one Now Now e free (λ world stands. stands_quiet crashed done world stands e quiet)

  flow_one : Carries Now (event.Flow ∷ []) Now
  unfolding cause
  flow_one = quiet_carries event.Flow tt (λ world stands. refl)

  lose_one : Carries Now (event.Lose ∷ []) Now
  unfolding cause
  lose_one = quiet_carries event.Lose tt (λ world stands. refl)

  nudge_one : Carries Now (event.Nudge ∷ []) Now
  unfolding cause
  nudge_one = quiet_carries event.Nudge tt (λ world stands. refl)

  sync_one : (shard replica : ℕ) → shard < 4 → replica < 3 → IsUp crashed (record { 0 = shard }) (record { 0 = replica })
      → Carries Now (event.Sync (record { 0 = shard }) (record { 0 = replica }) ∷ []) Now
  unfolding cause
  sync_one shard replica few low up =
      quiet_carries (event.Sync (record { 0 = shard }) (record { 0 = replica })) tt
      (λ world stands. timer_free world crashed (record { 0 = shard }) (record { 0 = replica }) stands.crashed (replica_known shard replica few low) up)

  suspect_one : (shard replica : ℕ) → shard < 4 → replica < 3 → IsUp crashed (record { 0 = shard }) (record { 0 = replica })
      → Carries Now (event.Suspect (record { 0 = shard }) (record { 0 = replica }) ∷ []) Now
  unfolding cause
  suspect_one shard replica few low up =
      quiet_carries (event.Suspect (record { 0 = shard }) (record { 0 = replica })) tt
      (λ world stands. timer_free world crashed (record { 0 = shard }) (record { 0 = replica }) stands.crashed (replica_known shard replica few low) up)

  then_flow : (times : ℕ) (lines : List Line) (Q : WorldState → Type 0) → CarriesLines Now lines Q → CarriesLines Now (Flow times ∷ lines) Q
  then_flow times lines Q more = lines_then Now Now Q (Flow times) lines (carries_each Now event.Flow times flow_one) more

  then_lose : (times : ℕ) (lines : List Line) (Q : WorldState → Type 0) → CarriesLines Now lines Q → CarriesLines Now (Lose times ∷ lines) Q
  then_lose times lines Q more = lines_then Now Now Q (Lose times) lines (carries_each Now event.Lose times lose_one) more

  flows : (times : ℕ) → CarriesLines Now (Flow times ∷ []) Now
  flows times = then_flow times [] Now (carries_none Now)

  weather_carries : (drawn : Turn) → CarriesLines Now (weather drawn) Now
  unfolding weather
  weather_carries drawn = by_weather (drawn.weather == 0)
    where
      by_weather : (test : Bool) → CarriesLines Now (cond test (Flow 5 ∷ Lose 1 ∷ Flow 60 ∷ []) (Flow 60 ∷ [])) Now
      by_weather true = then_flow 5 (Lose 1 ∷ Flow 60 ∷ []) Now (then_lose 1 (Flow 60 ∷ []) Now (flows 60))
      by_weather false = flows 60

  upkeep_carries : (first times : ℕ) → first < 3 → IsUp crashed (record { 0 = 0 }) (record { 0 = first }) → ((shard : ℕ) → 1 ≤ shard → IsUp crashed (record { 0 = shard }) (record { 0 = 0 }))
      → CarriesLines Now (upkeep first times) Now
  unfolding upkeep
  upkeep_carries first times low up others =
      let first_sync : Line = One (event.Sync (record { 0 = 0 }) (record { 0 = first })) in
      let second_sync : Line = One (event.Sync (record { 0 = 1 }) (record { 0 = 0 })) in
      let third_sync : Line = One (event.Sync (record { 0 = 2 }) (record { 0 = 0 })) in
      let last_sync : Line = One (event.Sync (record { 0 = 3 }) (record { 0 = 0 })) in
      lines_then Now Now Now (One event.Nudge) (first_sync ∷ second_sync ∷ third_sync ∷ last_sync ∷ Flow times ∷ []) nudge_one
      (lines_then Now Now Now first_sync (second_sync ∷ third_sync ∷ last_sync ∷ Flow times ∷ []) (sync_one 0 first (lit< tt) low up)
      (lines_then Now Now Now second_sync (third_sync ∷ last_sync ∷ Flow times ∷ []) (sync_one 1 0 (lit< tt) (lit< tt) (others 1 (lit≤ tt)))
      (lines_then Now Now Now third_sync (last_sync ∷ Flow times ∷ []) (sync_one 2 0 (lit< tt) (lit< tt) (others 2 (lit≤ tt)))
      (lines_then Now Now Now last_sync (Flow times ∷ []) (sync_one 3 0 (lit< tt) (lit< tt) (others 3 (lit≤ tt))) (flows times)))))

  few_enough : (turn number all : ℕ) → turn < number → all ≡ 16 + number → 3 + turn / 8 ≤ share all (turn % 8)
  few_enough turn number all low is = omega (arith, low, is)

  a_turn : (turn : ℕ) → turn % 8 < 8
  a_turn turn = omega arith

  some_number : (turn : ℕ) → 1 ≤ 3 + turn / 8
  some_number turn = omega arith

  retry_carries : (turn number : ℕ) → turn < number → length done ≡ 16 + number → CarriesLines Now (retry_lines turn) Now
  unfolding retry_lines cause
  retry_carries turn number low is =
      lines_then Now Now Now (One (event.Retry (teller turn) (3 + turn / 8))) (Flow 60 ∷ [])
      (quiet_carries (event.Retry (teller turn) (3 + turn / 8)) tt
      (λ world stands. retry_free world turn (3 + turn / 8) (share (length done) (turn % 8)) (stands.clients (turn % 8) (a_turn turn)) (some_number turn) (few_enough turn number (length done) low is)))
      (flows 60)

-- ---- noon
other_shard : (shard : ℕ) → 1 ≤ shard → IsUp (down true) (record { 0 = shard }) (record { 0 = 0 })
other_shard shard some = grind (arith, nat_tests)

other_up : (late : Bool) (shard : ℕ) → 1 ≤ shard → IsUp (down late) (record { 0 = shard }) (record { 0 = 0 })
other_up true shard some = other_shard shard some
other_up false shard some = refl

noon_carries : (done : Pairs) → CarriesLines (Stands [] done) noon (Stands (down true) done)
unfolding noon cause
noon_carries done =
    let crash : Line = One (event.Crash (record { 0 = 0 }) (record { 0 = 0 })) in
    let second : Line = One (event.Suspect (record { 0 = 0 }) (record { 0 = 1 })) in
    let third : Line = One (event.Suspect (record { 0 = 0 }) (record { 0 = 2 })) in
    lines_then (Stands [] done) (Stands (down true) done) (Stands (down true) done) crash (second ∷ third ∷ Flow 60 ∷ [])
    (carries_one (Stands [] done) (Stands (down true) done) (event.Crash (record { 0 = 0 }) (record { 0 = 0 }))
    (λ world stands. timer_free world [] (record { 0 = 0 }) (record { 0 = 0 }) stands.crashed (replica_known 0 0 (lit< tt) (lit< tt)) refl)
    (λ world stands. stands_crashed [] done world stands (record { 0 = 0 }) (record { 0 = 0 })))
    (lines_then (Stands (down true) done) (Stands (down true) done) (Stands (down true) done) second (third ∷ Flow 60 ∷ [])
    (suspect_one (down true) done 0 1 (lit< tt) (lit< tt) refl)
    (lines_then (Stands (down true) done) (Stands (down true) done) (Stands (down true) done) third (Flow 60 ∷ [])
    (suspect_one (down true) done 0 2 (lit< tt) (lit< tt) refl) (flows (down true) done 60)))

-- noon comes in its turn: before it nobody is down, and behind it the learner is
noon_by : (done : Pairs) (now before after : Bool) → (now ≡ true → (before ≡ false) × (after ≡ true)) → (now ≡ false → before ≡ after)
    → CarriesLines (Stands (down before) done) (cond now noon []) (Stands (down after) done)
noon_by done true true after here there = let clash : true ≡ false = (here refl).0 in absurd (cc)
noon_by done true false true here there = noon_carries done
noon_by done true false false here there = let clash : false ≡ true = (here refl).1 in absurd (cc)
noon_by done false true true here there = carries_none (Stands (down true) done)
noon_by done false true false here there = let clash : true ≡ false = there refl in absurd (cc)
noon_by done false false true here there = let clash : false ≡ true = there refl in absurd (cc)
noon_by done false false false here there = carries_none (Stands (down false) done)

not_yet : (turn half : ℕ) → turn ≡ half → nat_lt half turn ≡ false
not_yet turn half is = grind (arith, nat_tests)

from_now : (turn half : ℕ) → turn ≡ half → nat_lt half (suc turn) ≡ true
from_now turn half is = grind (arith, nat_tests)

as_before : (turn half : ℕ) → (turn ≡ half → ⊥) → nat_lt half turn ≡ nat_lt half (suc turn)
as_before turn half apart = by_place (cases_lt half turn)
  where
    late : (m k : ℕ) → m < k → nat_lt m k ≡ true
    late m k low = grind (arith, nat_tests)

    early : (m k : ℕ) → k ≤ m → nat_lt m k ≡ false
    early m k low = grind (arith, nat_tests)

    by_place : ((half < turn) ⊎ (turn ≤ half)) → nat_lt half turn ≡ nat_lt half (suc turn)
    by_place (inl behind) = late half turn behind ∙ sym (late half (suc turn) (omega (arith, behind)))
    by_place (inr before) = early half turn before ∙ sym (early half (suc turn) (omega (arith, before, apart)))

noon_where : (done : Pairs) (turn half : ℕ) → CarriesLines (Stands (down (nat_lt half turn)) done) (cond (turn == half) noon []) (Stands (down (nat_lt half (suc turn))) done)
noon_where done turn half =
    noon_by done (turn == half) (nat_lt half turn) (nat_lt half (suc turn))
    (λ is. let same = eqb-true turn half is in (not_yet turn half same, from_now turn half same))
    (λ is. as_before turn half (λ same. (let found = eq-eqb turn half same in both_ways _ is found)))

-- the replica of the first shard that is asked to settle is up
settler_by : (early late : Bool) → (early ≡ true → late ≡ false) → (early ≡ false → late ≡ true) → IsUp (down late) (record { 0 = 0 }) (record { 0 = cond early 0 1 })
settler_by true true before behind = let clash : true ≡ false = before refl in absurd (cc)
settler_by true false before behind = refl
settler_by false true before behind = refl
settler_by false false before behind = refl

still_early : (turn half : ℕ) → nat_lt turn half ≡ true → nat_lt half (suc turn) ≡ false
still_early turn half is = grind (arith, nat_tests)

already_late : (turn half : ℕ) → nat_lt turn half ≡ false → nat_lt half (suc turn) ≡ true
already_late turn half is = grind (arith, nat_tests)

settler_up : (number turn : ℕ) → IsUp (down (nat_lt (number / 2) (suc turn))) (record { 0 = 0 }) (record { 0 = settler number turn })
unfolding settler
settler_up number turn = settler_by (nat_lt turn (number / 2)) (nat_lt (number / 2) (suc turn)) (still_early turn (number / 2)) (already_late turn (number / 2))

second_up : (late : Bool) → IsUp (down late) (record { 0 = 0 }) (record { 0 = 1 })
second_up true = refl
second_up false = refl

-- ---- A TURN
abbrev Behind : ℕ → ℕ → WorldState → Type 0
Behind number turn = Stands (down (nat_lt (number / 2) turn)) (first_puts 16 ++ first_turns number turn)

due_carries : (crashed : List (ShardId × ReplicaId)) (done : Pairs) (first : ℕ) (due : Bool) → first < 3 → IsUp crashed (record { 0 = 0 }) (record { 0 = first }) → ((shard : ℕ) → 1 ≤ shard → IsUp crashed (record { 0 = shard }) (record { 0 = 0 }))
    → CarriesLines (Stands crashed done) (cond due (upkeep first 60) []) (Stands crashed done)
due_carries crashed done first true low up others = upkeep_carries crashed done first 60 low up others
due_carries crashed done first false low up others = carries_none (Stands crashed done)

turn_more : (number turn : ℕ) → (first_puts 16 ++ first_turns number turn) ++ (id_at (16 + turn), asked_txn (turn_at number turn)) ∷ [] ≡ first_puts 16 ++ first_turns number (suc turn)
unfolding first_turns below
turn_more number turn = append_assoc (first_puts 16) (first_turns number turn) ((id_at (16 + turn), asked_txn (turn_at number turn)) ∷ [])

turn_carries : (number turn : ℕ) → CarriesLines (Behind number turn) (turn_lines number turn) (Behind number (suc turn))
unfolding turn_lines
turn_carries number turn =
    let late : Bool = nat_lt (number / 2) (suc turn) in
    let drawn : Turn = turn_at number turn in
    let before : Pairs = first_puts 16 ++ first_turns number turn in
    lines-append (Behind number turn) (Behind number (suc turn)) (Behind number (suc turn)) (cond (turn == number / 2) noon [] ++ One (asked (teller turn) drawn) ∷ weather drawn)
    (cond (turn % 4 == 3) (upkeep (settler number turn) 60) [])
    (lines-append (Behind number turn) (Stands (down late) before) (Behind number (suc turn)) (cond (turn == number / 2) noon []) (One (asked (teller turn) drawn) ∷ weather drawn)
    (noon_where before turn (number / 2))
    (subst (λ (after : Pairs). CarriesLines (Stands (down late) before) (One (asked (teller turn) drawn) ∷ weather drawn) (Stands (down late) after)) (turn_more number turn)
    (lines_then (Stands (down late) before) (Stands (down late) (before ++ (id_at (16 + turn), asked_txn drawn) ∷ [])) (Stands (down late) (before ++ (id_at (16 + turn), asked_txn drawn) ∷ []))
    (One (asked (teller turn) drawn)) (weather drawn) (asked_carries (down late) before turn drawn (length_done number turn))
    (weather_carries (down late) (before ++ (id_at (16 + turn), asked_txn drawn) ∷ []) drawn))))
    (due_carries (down late) (first_puts 16 ++ first_turns number (suc turn)) (settler number turn) (turn % 4 == 3) (settler_low number turn) (settler_up number turn) (other_up late))

-- ---- THE WHOLE DAY
no_puts : first_puts 0 ≡ []
unfolding first_puts below
no_puts = refl

puts_carry : CarriesLines (Stands [] []) (below (λ (number : ℕ). One (opening_put number) ∷ []) 16) (Stands [] (first_puts 16))
puts_carry =
    subst (λ (done : Pairs). CarriesLines (Stands [] done) (below (λ (number : ℕ). One (opening_put number) ∷ []) 16) (Stands [] (first_puts 16))) no_puts
    (lines_below (λ (k : ℕ). Stands [] (first_puts k)) (λ (number : ℕ). One (opening_put number) ∷ []) 16 (λ k low. put_carries k))

pub opening_carries : CarriesLines (Stands [] []) opening (Stands [] (first_puts 16))
unfolding opening
opening_carries =
    lines-append (Stands [] []) (Stands [] (first_puts 16)) (Stands [] (first_puts 16)) (below (λ (number : ℕ). One (opening_put number) ∷ []) 16) (Flow 112 ∷ [])
    puts_carry (flows [] (first_puts 16) 112)

closing_carries : (late : Bool) (done : Pairs) (number : ℕ) → length done ≡ 16 + number → CarriesLines (Stands (down late) done) (closing number) (Stands (down late) done)
unfolding closing
closing_carries late done number is =
    lines-append (Stands (down late) done) (Stands (down late) done) (Stands (down late) done) (below retry_lines number) (upkeep 1 200)
    (lines_below (λ (k : ℕ). Stands (down late) done) retry_lines number (λ turn low. retry_carries (down late) done turn number low is))
    (upkeep_carries (down late) done 1 200 (lit< tt) (second_up late) (other_up late))

never_before : (half : ℕ) → nat_lt half 0 ≡ false
never_before half = grind (arith, nat_tests)

opened : (number : ℕ) → CarriesLines (Stands [] []) opening (Behind number 0)
unfolding first_turns below
opened number =
    subst (λ (late : Bool). CarriesLines (Stands [] []) opening (Stands (down late) (first_puts 16 ++ []))) (sym (never_before (number / 2)))
    (subst (λ (done : Pairs). CarriesLines (Stands [] []) opening (Stands [] done)) (sym (append-nil (first_puts 16))) opening_carries)

pub drill_carries : (number : ℕ) → Carries (Stands [] []) (drill_events number) (Stands (down (nat_lt (number / 2) number)) (drill_submissions number))
unfolding drill_events drill_lines drill_submissions
drill_carries number =
    lines-append (Stands [] []) (Behind number number) (Behind number number) (opening ++ below (turn_lines number) number ++ closing number) (closing number)
    (lines-append (Stands [] []) (Behind number number) (Behind number number) (opening ++ below (turn_lines number) number) (closing number)
    (lines-append (Stands [] []) (Behind number 0) (Behind number number) opening (below (turn_lines number) number) (opened number)
    (lines_below (Behind number) (turn_lines number) number (λ turn low. turn_carries number turn)))
    (closing_carries (nat_lt (number / 2) number) (first_puts 16 ++ first_turns number number) number (length_done number number)))
    (closing_carries (nat_lt (number / 2) number) (first_puts 16 ++ first_turns number number) number (length_done number number))
