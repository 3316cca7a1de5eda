-- EACH LINE OF A DRILL IS READ as what it was made from.
use Rattle.std.proofs.Common.{◌≡◌, ◌≤◌, ◌<◌, ◌+◌, ◌/◌, ◌%◌, ◌==◌, ◌∙◌, ◌^◌, ◌-◌, ℕ, zero, suc, Bool, true, false, cond, nat_le, nat_lt, Result, Ok, List, [], ◌∷◌, ◌++◌, refl, ap, arith, codes, lit<}
use Rattle.std.proofs.lemmas.Bool.Decides.{nat_tests}
use Rattle.std.proofs.lemmas.Bool.{and_from}
use Rattle.eris_base.specs.Each.{Each}
use Rattle.eris_base.proofs.Each.{Each-append}
use Rattle.eris_txn.specs.declared.op.Op.TheVariants.{Get}
use Rattle.eris_event.specs.declared.event.Event.{Event}
use Rattle.eris_event.specs.declared.event.Event.TheVariants as event
use Rattle.eris_grammar.specs.declared.line.Line.{Line}
use Rattle.eris_grammar.specs.declared.line.Line.TheVariants.{One, Flow, Lose}
use Rattle.eris_words.specs.declared.reason.Reason.{Reason}
use Rattle.eris_words.specs.Decimal.{decimal}
use Rattle.eris_grammar.specs.Fields.{count, number}
use Rattle.eris_words.specs.Cuts.{words}
use Rattle.eris_grammar.specs.Headers.{header_of}
use Rattle.eris_event.specs.EventRanges.{fits_event, fits_count, fits_replica}
use Rattle.eris_grammar.specs.LineForms.{line_saying}
use Rattle.eris_grammar.proofs.FieldLaws.{is_count}
use Rattle.eris_grammar.proofs.SpellingLaws.{event_back, read_as_spelled}
use Rattle.eris_words.proofs.SplitLaws.{words_joined}
use Rattle.eris_words.proofs.FormLaws.{are_plain}
use Rattle.eris_drill.specs.declared.turn.Turn.{Turn}
use Rattle.eris_drill.specs.Draws.{turn_at}
use Rattle.eris_drill.specs.DrillLines.{asked, bank, below, closing, drill_lines, noon, opening, opening_put, payee, payer, retry_lines, settler, teller, transfer, turn_lines, upkeep, weather}
use Rattle.eris_law_drill.specs.Reading.{IsRead}
use Rattle.eris_law_drill.proofs.Fitting.{asked_fits, put_fits, retry_fits, turn_drawn}

-- an event's line
one_read : (e : Event) → fits_event 1 e ≡ true → line_saying e ≡ One e → IsRead (One e)
one_read e fits saying = event_back 1 e fits ∙ ap (λ (said : Line). ok said) saying
  where
    ok : Line → Result Line Reason
    ok said = Ok said

count_fits : (times : ℕ) → times < 2 ^ 32 → fits_count times ≡ true
unfolding count number
count_fits times low = fits times low
  where
    fits : (n : ℕ) → n < 2 ^ 32 → nat_le n (2 ^ 32 - 1) ≡ true
    fits n few = grind (arith, nat_tests)

flow_plain : (times : ℕ) → times < 2 ^ 32 → are_plain (codes "flow" ∷ decimal times ∷ []) ≡ true
unfolding count number
flow_plain times low = is_count.plain times (count_fits times low)

lose_plain : (times : ℕ) → times < 2 ^ 32 → are_plain (codes "lose" ∷ decimal times ∷ []) ≡ true
unfolding count number
lose_plain times low = is_count.plain times (count_fits times low)

flow_read : (times : ℕ) → times < 2 ^ 32 → IsRead (Flow times)
flow_read times low = ((read_as_spelled 1 (codes "flow " ++ decimal times)).flows times).1 (record {
  spelled = words_joined (codes "flow") (decimal times ∷ []) (flow_plain times low);
  fits = low;
})

lose_read : (times : ℕ) → times < 2 ^ 32 → IsRead (Lose times)
lose_read times low = ((read_as_spelled 1 (codes "lose " ++ decimal times)).loses times).1 (record {
  spelled = words_joined (codes "lose") (decimal times ∷ []) (lose_plain times low);
  fits = low;
})

each_below : (P : Line → Type 0) (lines : ℕ → List Line) (n : ℕ) → ((k : ℕ) → k < n → Each P (lines k)) → Each P (below lines n)
unfolding below
each_below P lines zero each = tt
each_below P lines (suc n) each = Each-append P (below lines n) (lines n) (each_below P lines n (λ k low. each k (step k n low))) (each n (last n))
  where
    step : (k m : ℕ) → k < m → k < suc m
    step k m low = omega (arith, low)

    last : (m : ℕ) → m < suc m
    last m = omega arith

put_read : (at : ℕ) → at < 16 → IsRead (One (opening_put at))
unfolding opening_put
put_read at low = one_read (opening_put at) (put_fits at low) refl

opening_read : Each IsRead opening
unfolding opening
opening_read =
    Each-append IsRead (below (λ (at : ℕ). One (opening_put at) ∷ []) 16) (Flow 112 ∷ [])
    (each_below IsRead (λ (at : ℕ). One (opening_put at) ∷ []) 16 (λ at low. (put_read at low, tt)))
    (flow_read 112 (lit< tt), tt)

asked_one : (at : ℕ) (turn : Turn) → line_saying (asked (teller at) turn) ≡ One (asked (teller at) turn)
unfolding asked
asked_one at turn = by_kind (turn.kind == 0)
  where
    by_kind : (test : Bool) →
        line_saying (cond test (event.Submit (teller at) (Get (payer turn) ∷ Get (payee turn) ∷ [])) (event.General (teller at) (transfer turn)))
        ≡ One (cond test (event.Submit (teller at) (Get (payer turn) ∷ Get (payee turn) ∷ [])) (event.General (teller at) (transfer turn)))
    by_kind true = refl
    by_kind false = refl

weather_read : (turn : Turn) → Each IsRead (weather turn)
unfolding weather
weather_read turn = by_weather (turn.weather == 0)
  where
    by_weather : (test : Bool) → Each IsRead (cond test (Flow 5 ∷ Lose 1 ∷ Flow 60 ∷ []) (Flow 60 ∷ []))
    by_weather true = (flow_read 5 (lit< tt), (lose_read 1 (lit< tt), (flow_read 60 (lit< tt), tt)))
    by_weather false = (flow_read 60 (lit< tt), tt)

timer_fits : (shard at : ℕ) → shard < 4 → at < 3 → fits_replica (record { 0 = shard }) (record { 0 = at }) ≡ true
timer_fits shard at few low = and_from _ _ (shard_fits shard few) (at_fits at low)
  where
    shard_fits : (n : ℕ) → n < 4 → nat_le n 255 ≡ true
    shard_fits n small = grind (arith, nat_tests)

    at_fits : (n : ℕ) → n < 3 → nat_le n 255 ≡ true
    at_fits n small = grind (arith, nat_tests)

noon_read : Each IsRead noon
unfolding noon
noon_read = (
  one_read (event.Crash (record { 0 = 0 }) (record { 0 = 0 })) (timer_fits 0 0 (lit< tt) (lit< tt)) refl,
  (
    one_read (event.Suspect (record { 0 = 0 }) (record { 0 = 1 })) (timer_fits 0 1 (lit< tt) (lit< tt)) refl,
    (
      one_read (event.Suspect (record { 0 = 0 }) (record { 0 = 2 })) (timer_fits 0 2 (lit< tt) (lit< tt)) refl,
      (flow_read 60 (lit< tt), tt),
    ),
  ),
)

sync_read : (shard at : ℕ) → shard < 4 → at < 3 → IsRead (One (event.Sync (record { 0 = shard }) (record { 0 = at })))
sync_read shard at few low = one_read (event.Sync (record { 0 = shard }) (record { 0 = at })) (timer_fits shard at few low) refl

upkeep_read : (first flows : ℕ) → first < 3 → flows < 2 ^ 32 → Each IsRead (upkeep first flows)
unfolding upkeep
upkeep_read first flows low few = (
  one_read event.Nudge refl refl,
  (
    sync_read 0 first (lit< tt) low,
    (sync_read 1 0 (lit< tt) (lit< tt), (sync_read 2 0 (lit< tt) (lit< tt), (sync_read 3 0 (lit< tt) (lit< tt), (flow_read flows few, tt)))),
  ),
)

pub settler_low : (number turn : ℕ) → settler number turn < 3
unfolding settler
settler_low number turn = by_test (nat_lt turn (number / 2))
  where
    by_test : (test : Bool) → cond test 0 1 < 3
    by_test true = lit< tt
    by_test false = lit< tt

turn_read : (number turn : ℕ) → Each IsRead (turn_lines number turn)
unfolding turn_lines
turn_read number turn =
    Each-append IsRead (cond (turn == number / 2) noon [] ++ One (asked (teller turn) (turn_at number turn)) ∷ weather (turn_at number turn))
    (cond (turn % 4 == 3) (upkeep (settler number turn) 60) [])
    (Each-append IsRead (cond (turn == number / 2) noon []) (One (asked (teller turn) (turn_at number turn)) ∷ weather (turn_at number turn))
    (where_noon (turn == number / 2)) (
      one_read (asked (teller turn) (turn_at number turn)) (asked_fits turn (turn_at number turn) (turn_drawn number turn)) (asked_one turn (turn_at number turn)),
      weather_read (turn_at number turn),
    ))
    (where_due (turn % 4 == 3))
  where
    where_noon : (test : Bool) → Each IsRead (cond test noon [])
    where_noon true = noon_read
    where_noon false = tt

    where_due : (test : Bool) → Each IsRead (cond test (upkeep (settler number turn) 60) [])
    where_due true = upkeep_read (settler number turn) 60 (settler_low number turn) (lit< tt)
    where_due false = tt

retries_read : (turn : ℕ) → turn < 500 → Each IsRead (retry_lines turn)
unfolding retry_lines
retries_read turn low = (one_read (event.Retry (teller turn) (3 + turn / 8)) (retry_fits turn low) refl, (flow_read 60 (lit< tt), tt))

closing_read : (number : ℕ) → number ≤ 500 → Each IsRead (closing number)
unfolding closing
closing_read number few =
    Each-append IsRead (below retry_lines number) (upkeep 1 200)
    (each_below IsRead retry_lines number (λ turn low. retries_read turn (within turn low))) (upkeep_read 1 200 (lit< tt) (lit< tt))
  where
    within : (turn : ℕ) → turn < number → turn < 500
    within turn low = omega (arith, low, few)

-- ALL LINES
pub drill_read : (number : ℕ) → number ≤ 500 → Each IsRead (drill_lines number)
unfolding drill_lines
drill_read number few =
    Each-append IsRead (opening ++ below (turn_lines number) number ++ closing number) (closing number)
    (Each-append IsRead (opening ++ below (turn_lines number) number) (closing number)
    (Each-append IsRead opening (below (turn_lines number) number) opening_read (each_below IsRead (turn_lines number) number (λ turn low. turn_read number turn)))
    (closing_read number few))
    (closing_read number few)

pub header_read : header_of (codes "eris 1 4 1 8") ≡ Ok (record { version = 1; config = bank })
unfolding header_of words bank
header_read = refl
