-- HOW LONG A DRILL'S SCRIPT IS: its lines are few and short, so it is no longer than a script may be.
use Rattle.std.proofs.Common.{◌≡◌, ◌≤◌, ◌+◌, ◌*◌, ◌/◌, ◌%◌, ◌==◌, ℕ, zero, suc, Bool, true, false, cond, List, [], ◌∷◌, ◌++◌, length, length-append, refl, arith, codes, lit≤, mul-suc}
use Rattle.eris_base.specs.Each.{Each}
use Rattle.eris_grammar.specs.declared.line.Line.{Line}
use Rattle.eris_grammar.specs.declared.line.Line.TheVariants.{One, Flow, Lose}
use Rattle.eris_drill.specs.declared.turn.Turn.{Turn}
use Rattle.eris_drill.specs.Draws.{turn_at}
use Rattle.eris_drill.specs.DrillLines.{asked, below, closing, drill_lines, noon, opening, opening_put, retry_lines, settler, teller, turn_lines, upkeep, weather}
use Rattle.eris_drill.specs.DrillText.{drill_text, line_text, lines_text}
use Rattle.eris_law_drill.proofs.LineBytes.{IsFine, drill_fine}

-- ---- how many lines
below_few : (items : ℕ → List Line) (most n : ℕ) → ((k : ℕ) → length (items k) ≤ most) → length (below items n) ≤ most * n
unfolding below
below_few items most zero few = omega arith
below_few items most (suc n) few =
    let before = below_few items most n few in
    let last = few n in
    let whole = length-append (below items n) (items n) in
    let more = mul-suc most n in
    omega (arith, before, last, whole, more)

opening_few : length opening ≤ 17
unfolding opening
opening_few =
    let puts = below_few (λ (number : ℕ). One (opening_put number) ∷ []) 1 16 (λ k. lit≤ tt) in
    let whole = length-append (below (λ (number : ℕ). One (opening_put number) ∷ []) 16) (Flow 112 ∷ []) in
    omega (arith, puts, whole)

weather_few : (turn : Turn) → length (weather turn) ≤ 3
unfolding weather
weather_few turn = by_weather (turn.weather == 0)
  where
    by_weather : (test : Bool) → length (cond test (Flow 5 ∷ Lose 1 ∷ Flow 60 ∷ []) (Flow 60 ∷ [])) ≤ 3
    by_weather true = lit≤ tt
    by_weather false = lit≤ tt

noon_few : (now : Bool) → length (cond now noon []) ≤ 4
unfolding noon
noon_few true = lit≤ tt
noon_few false = lit≤ tt

upkeep_few : (first flows : ℕ) → length (upkeep first flows) ≤ 6
unfolding upkeep
upkeep_few first flows = lit≤ tt

due_few : (first : ℕ) (due : Bool) → length (cond due (upkeep first 60) []) ≤ 6
due_few first true = upkeep_few first 60
due_few first false = lit≤ tt

turn_few : (number turn : ℕ) → length (turn_lines number turn) ≤ 14
unfolding turn_lines
turn_few number turn =
    let drawn : Turn = turn_at number turn in
    let first : List Line = cond (turn == number / 2) noon [] in
    let second : List Line = One (asked (teller turn) drawn) ∷ weather drawn in
    let third : List Line = cond (turn % 4 == 3) (upkeep (settler number turn) 60) [] in
    sums first second (weather drawn) third refl (noon_few (turn == number / 2)) (weather_few drawn) (due_few (settler number turn) (turn % 4 == 3))
  where
    sums : (first second more third : List Line) → length second ≡ suc (length more) → length first ≤ 4 → length more ≤ 3 → length third ≤ 6 → length ((first ++ second) ++ third) ≤ 14
    sums first second more third is four three six =
        let front = length-append first second in
        let whole = length-append (first ++ second) third in
        omega (arith, is, four, three, six, front, whole)

retries_few : (turn : ℕ) → length (retry_lines turn) ≤ 2
unfolding retry_lines
retries_few turn = lit≤ tt

closing_few : (number : ℕ) → length (closing number) ≤ 2 * number + 6
unfolding closing
closing_few number =
    let retries = below_few retry_lines 2 number retries_few in
    let last = upkeep_few 1 200 in
    let whole = length-append (below retry_lines number) (upkeep 1 200) in
    omega (arith, retries, last, whole)

drill_few : (number : ℕ) → length (drill_lines number) ≤ 18 * number + 29
unfolding drill_lines
drill_few number =
    let turns = below_few (turn_lines number) 14 number (turn_few number) in
    let closings = closing_few number in
    let first = length-append opening (below (turn_lines number) number) in
    let second = length-append (opening ++ below (turn_lines number) number) (closing number) in
    let third = length-append (opening ++ below (turn_lines number) number ++ closing number) (closing number) in
    omega (arith, opening_few, turns, closings, first, second, third)

-- ---- how many bytes
lines_short : (said : List Line) → Each IsFine said → length (lines_text said) ≤ 409 * length said
lines_short [] fine = lit≤ tt
lines_short (line ∷ said) fine =
    let more = lines_short said fine.1 in
    let ended = length-append (line_text line) (10 ∷ []) in
    let whole = length-append (line_text line ++ 10 ∷ []) (lines_text said) in
    omega (arith, fine.0.short, more, ended, whole)

pub drill_short : (number : ℕ) → number ≤ 500 → length (drill_text number) ≤ 4194304
unfolding drill_text
drill_short number few =
    let lines = lines_short (drill_lines number) (drill_fine number few) in
    let many = drill_few number in
    let whole = length-append (codes "eris 1 4 1 8" ++ 10 ∷ []) (lines_text (drill_lines number)) in
    omega (arith, few, lines, many, whole)
