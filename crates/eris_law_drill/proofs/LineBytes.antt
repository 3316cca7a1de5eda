-- THE BYTES OF A DRILL'S LINES: none of them is LF or CR, so the script is cut just behind each line; and they are few.
use Rattle.std.proofs.Common.{◌≡◌, ◌≤◌, ◌<◌, ◌+◌, ◌*◌, ◌/◌, ◌%◌, ◌==◌, ◌^◌, ◌&&◌, ℕ, Bool, true, false, cond, nat_le, nat_lt, List, [], ◌∷◌, ◌++◌, length, length-append, append_assoc, refl, ap, sym, ◌∙◌, subst, arith, codes, lit<, lit≤, leb-true, le-leb}
use Rattle.std.proofs.lemmas.Bool.Decides.{nat_tests}
use Rattle.std.proofs.lemmas.Bool.{and_from}
use Rattle.std.specs.Char.{is_digit}
use Rattle.std.specs.List.{join_with_byte, list_all}
use Rattle.eris_base.specs.Each.{Each}
use Rattle.eris_base.proofs.Each.{Each-append}
use Rattle.eris_base.proofs.Booleans.{left_of, right_of}
use Rattle.eris_txn.specs.declared.op.Op.TheVariants.{Get, Put}
use Rattle.eris_event.specs.declared.event.Event.{Event}
use Rattle.eris_event.specs.declared.event.Event.TheVariants as event
use Rattle.eris_grammar.specs.declared.line.Line.{Line}
use Rattle.eris_grammar.specs.declared.line.Line.TheVariants.{One, Flow, Lose}
use Rattle.eris_words.specs.Decimal.{decimal}
use Rattle.eris_grammar.specs.EventText.{event_words}
use Rattle.eris_words.specs.Words.{key_word, spaced}
use Rattle.eris_words.proofs.DecimalLaws.{digits_of_decimal}
use Rattle.eris_words.proofs.LineLemmas.{joined}
use Rattle.eris_words.proofs.DigitLemmas.{few_digits}
use Rattle.eris_drill.specs.declared.turn.Turn.{Turn}
use Rattle.eris_drill.specs.Draws.{turn_at}
use Rattle.eris_drill.specs.DrillLines.{account, asked, below, closing, drill_lines, noon, opening, opening_put, payee, payer, retry_lines, settler, teller, transfer, turn_lines, upkeep, weather}
use Rattle.eris_drill.specs.DrillText.{line_text}
use Rattle.eris_law_drill.specs.Banks.{IsDrawn}
use Rattle.eris_law_drill.proofs.Fitting.{turn_drawn}
use Rattle.eris_law_drill.proofs.Below.{each_below}

-- a byte that neither ends a line nor stands at its end
abbrev pub is_ink : ℕ → Bool
is_ink byte = nat_lt 31 byte

abbrev pub are_ink : List ℕ → Bool
are_ink text = list_all is_ink text

-- the bytes of a line, and how many they are
pub record IsFine (line : Line) : Type 0 where
  pub ink : are_ink (line_text line) ≡ true
  pub short : length (line_text line) ≤ 408

ink-append : (xs ys : List ℕ) → are_ink xs ≡ true → are_ink ys ≡ true → are_ink (xs ++ ys) ≡ true
ink-append [] ys left right = right
ink-append (x ∷ xs) ys left right = and_from (is_ink x) (are_ink (xs ++ ys)) (left_of (is_ink x) (are_ink xs) left) (ink-append xs ys (right_of (is_ink x) (are_ink xs) left) right)

-- ---- words, and the line that they make
abbrev is_word : List ℕ → Bool
is_word word = are_ink word && nat_le (length word) 23

abbrev are_words : List (List ℕ) → Bool
are_words words = list_all is_word words

word_short : (word : List ℕ) → is_word word ≡ true → length word ≤ 23
word_short word is = leb-true (length word) 23 (right_of (are_ink word) (nat_le (length word) 23) is)

spaced_ink : (words : List (List ℕ)) → are_words words ≡ true → are_ink (spaced words) ≡ true
spaced_ink [] all = refl
spaced_ink (word ∷ words) all =
    ink-append word (spaced words) (left_of (are_ink word) (nat_le (length word) 23) (left_of (is_word word) (are_words words) all)) (spaced_ink words (right_of (is_word word) (are_words words) all))

spaced_short : (words : List (List ℕ)) → are_words words ≡ true → length (spaced words) ≤ 24 * length words
spaced_short [] all = lit≤ tt
spaced_short (word ∷ words) all =
    let first = word_short word (left_of (is_word word) (are_words words) all) in
    let more = spaced_short words (right_of (is_word word) (are_words words) all) in
    let whole = length-append word (spaced words) in
    omega (arith, first, more, whole)

line_ink : (word : List ℕ) (words : List (List ℕ)) → are_words (word ∷ words) ≡ true → are_ink (join_with_byte 32 (word ∷ words)) ≡ true
line_ink word words all =
    ap are_ink (joined word words)
    ∙ ink-append word (spaced words) (left_of (are_ink word) (nat_le (length word) 23) (left_of (is_word word) (are_words words) all)) (spaced_ink words (right_of (is_word word) (are_words words) all))

line_short : (word : List ℕ) (words : List (List ℕ)) → are_words (word ∷ words) ≡ true → length words ≤ 16 → length (join_with_byte 32 (word ∷ words)) ≤ 408
line_short word words all few =
    let first = word_short word (left_of (is_word word) (are_words words) all) in
    let more = spaced_short words (right_of (is_word word) (are_words words) all) in
    let whole = length-append word (spaced words) in
    let line : length (join_with_byte 32 (word ∷ words)) ≡ length (word ++ spaced words) = ap length (joined word words) in
    omega (arith, few, first, more, whole, line)

event_fine : (e : Event) (word : List ℕ) (words : List (List ℕ)) → event_words 1 e ≡ word ∷ words → are_words (word ∷ words) ≡ true → length words ≤ 16 → IsFine (One e)
event_fine e word words is all few = record {
  ink = ap (λ (some : List (List ℕ)). are_ink (join_with_byte 32 some)) is ∙ line_ink word words all;
  short = subst (λ (some : List (List ℕ)). length (join_with_byte 32 some) ≤ 408) (sym is) (line_short word words all few);
}

-- ---- numbers
digit_ink : (byte : ℕ) → is_digit byte 10 ≡ true → is_ink byte ≡ true
digit_ink byte is = grind (arith, nat_tests)

digits_ink : (word : List ℕ) → list_all (λ byte. is_digit byte 10) word ≡ true → are_ink word ≡ true
digits_ink [] all = refl
digits_ink (byte ∷ word) all =
    and_from (is_ink byte) (are_ink word) (digit_ink byte (left_of (is_digit byte 10) (list_all (λ other. is_digit other 10) word) all))
    (digits_ink word (right_of (is_digit byte 10) (list_all (λ other. is_digit other 10) word) all))

number_ink : (n : ℕ) → n < 2 ^ 64 → are_ink (decimal n) ≡ true
number_ink n small = digits_ink (decimal n) (digits_of_decimal n small)

few_bytes : (n : ℕ) → n ≤ 20 → nat_le n 23 ≡ true
few_bytes n low = le-leb n 23 (omega (arith, low))

number_word : (n : ℕ) → n < 2 ^ 64 → is_word (decimal n) ≡ true
number_word n small = and_from (are_ink (decimal n)) (nat_le (length (decimal n)) 23) (number_ink n small) (few_bytes (length (decimal n)) (few_digits n small))

-- ---- keys
letter_ink : (number : ℕ) → is_ink (48 + number / 4) ≡ true
letter_ink number = grind (arith, nat_tests)

shard_small : (number : ℕ) → number % 4 < 2 ^ 64
shard_small number = omega arith

key_bytes : (word name : List ℕ) → length word ≤ 20 → length name ≡ 3 → nat_le (length (word ++ name)) 23 ≡ true
key_bytes word name few is = let whole = length-append word name in le-leb (length (word ++ name)) 23 (omega (arith, few, is, whole))

account_word : (number : ℕ) → is_word (key_word (account number)) ≡ true
unfolding account
account_word number =
    let name : List ℕ = 47 ∷ 97 ∷ (48 + number / 4) ∷ [] in
    ap is_word (append_assoc (decimal (number % 4)) (47 ∷ []) (97 ∷ (48 + number / 4) ∷ []))
    ∙ and_from (are_ink (decimal (number % 4) ++ name)) (nat_le (length (decimal (number % 4) ++ name)) 23)
    (ink-append (decimal (number % 4)) name (number_ink (number % 4) (shard_small number)) (and_from (is_ink (48 + number / 4)) true (letter_ink number) refl))
    (key_bytes (decimal (number % 4)) name (few_digits (number % 4) (shard_small number)) refl)

payer_word : (turn : Turn) → is_word (key_word (payer turn)) ≡ true
unfolding payer
payer_word turn = account_word turn.payer

payee_word : (turn : Turn) → is_word (key_word (payee turn)) ≡ true
unfolding payee
payee_word turn = account_word ((turn.payer + 1 + turn.distance) % 16)

-- ---- events
teller_small : (at : ℕ) → at % 8 < 2 ^ 64
teller_small at = omega arith

teller_word : (at : ℕ) → is_word (decimal (teller at).0) ≡ true
unfolding teller
teller_word at = number_word (at % 8) (teller_small at)

put_fine : (at : ℕ) → IsFine (One (opening_put at))
unfolding opening_put
put_fine at =
    event_fine (event.Submit (teller at) (Put (account at) 1000 ∷ [])) (codes "submit") (decimal (teller at).0 ∷ codes "put" ∷ key_word (account at) ∷ decimal 1000 ∷ []) refl
    (and_from _ _ (teller_word at) (and_from _ _ (account_word at) (and_from _ _ (number_word 1000 (lit< tt)) refl))) (lit≤ tt)

reading_fine : (at : ℕ) (turn : Turn) → IsFine (One (event.Submit (teller at) (Get (payer turn) ∷ Get (payee turn) ∷ [])))
reading_fine at turn =
    event_fine (event.Submit (teller at) (Get (payer turn) ∷ Get (payee turn) ∷ [])) (codes "submit")
    (decimal (teller at).0 ∷ codes "get" ∷ key_word (payer turn) ∷ codes ";" ∷ codes "get" ∷ key_word (payee turn) ∷ []) refl
    (and_from _ _ (teller_word at) (and_from _ _ (payer_word turn) (and_from _ _ (payee_word turn) refl))) (lit≤ tt)

amount_small : (amount : ℕ) → amount ≤ 100 → amount < 2 ^ 64
amount_small amount low = omega (arith, low)

transfer_fine : (at : ℕ) (turn : Turn) → IsDrawn turn → IsFine (One (event.General (teller at) (transfer turn)))
unfolding transfer
transfer_fine at turn drawn =
    let amount = number_word turn.amount (amount_small turn.amount drawn.amount) in
    let from = payer_word turn in
    let to = payee_word turn in
    event_fine (event.General (teller at) (transfer turn)) (codes "general")
    (decimal (teller at).0 ∷ codes "lock" ∷ key_word (payer turn) ∷ key_word (payee turn)
    ∷ codes ";" ∷ codes "guard" ∷ key_word (payer turn) ∷ decimal turn.amount
    ∷ codes ";" ∷ codes "minus" ∷ key_word (payer turn) ∷ decimal turn.amount
    ∷ codes ";" ∷ codes "plus" ∷ key_word (payee turn) ∷ decimal turn.amount ∷ []) refl
    (and_from _ _ (teller_word at) (and_from _ _ from (and_from _ _ to (and_from _ _ from (and_from _ _ amount (and_from _ _ from (and_from _ _ amount (and_from _ _ to (and_from _ _ amount refl)))))))))
    (lit≤ tt)

asked_fine : (at : ℕ) (turn : Turn) → IsDrawn turn → IsFine (One (asked (teller at) turn))
unfolding asked
asked_fine at turn drawn = by_kind (turn.kind == 0)
  where
    by_kind : (test : Bool) → IsFine (One (cond test (event.Submit (teller at) (Get (payer turn) ∷ Get (payee turn) ∷ [])) (event.General (teller at) (transfer turn))))
    by_kind true = reading_fine at turn
    by_kind false = transfer_fine at turn drawn

-- a word of five bytes, and a number
times_short : (word number : List ℕ) → length word ≡ 5 → length number ≤ 20 → length (word ++ number) ≤ 408
times_short word number is few = let whole = length-append word number in omega (arith, is, few, whole)

flow_fine : (times : ℕ) → times < 2 ^ 64 → IsFine (Flow times)
flow_fine times small = record {
  ink = ink-append (codes "flow ") (decimal times) refl (number_ink times small);
  short = times_short (codes "flow ") (decimal times) refl (few_digits times small);
}

lose_fine : (times : ℕ) → times < 2 ^ 64 → IsFine (Lose times)
lose_fine times small = record {
  ink = ink-append (codes "lose ") (decimal times) refl (number_ink times small);
  short = times_short (codes "lose ") (decimal times) refl (few_digits times small);
}

pair_fine : (e : Event) (word : List ℕ) (first second : ℕ) → event_words 1 e ≡ word ∷ decimal first ∷ decimal second ∷ [] → is_word word ≡ true → first < 2 ^ 64 → second < 2 ^ 64 → IsFine (One e)
pair_fine e word first second is known few low =
    event_fine e word (decimal first ∷ decimal second ∷ []) is (and_from _ _ known (and_from _ _ (number_word first few) (and_from _ _ (number_word second low) refl))) (lit≤ tt)

-- ---- lines
opening_fine : Each IsFine opening
unfolding opening
opening_fine =
    Each-append IsFine (below (λ (at : ℕ). One (opening_put at) ∷ []) 16) (Flow 112 ∷ [])
    (each_below IsFine (λ (at : ℕ). One (opening_put at) ∷ []) 16 (λ at low. (put_fine at, tt)))
    (flow_fine 112 (lit< tt), tt)

weather_fine : (turn : Turn) → Each IsFine (weather turn)
unfolding weather
weather_fine turn = by_weather (turn.weather == 0)
  where
    by_weather : (test : Bool) → Each IsFine (cond test (Flow 5 ∷ Lose 1 ∷ Flow 60 ∷ []) (Flow 60 ∷ []))
    by_weather true = (flow_fine 5 (lit< tt), (lose_fine 1 (lit< tt), (flow_fine 60 (lit< tt), tt)))
    by_weather false = (flow_fine 60 (lit< tt), tt)

noon_fine : Each IsFine noon
unfolding noon
noon_fine = (
  pair_fine (event.Crash (record { 0 = 0 }) (record { 0 = 0 })) (codes "crash") 0 0 refl refl (lit< tt) (lit< tt),
  (
    pair_fine (event.Suspect (record { 0 = 0 }) (record { 0 = 1 })) (codes "suspect") 0 1 refl refl (lit< tt) (lit< tt),
    (pair_fine (event.Suspect (record { 0 = 0 }) (record { 0 = 2 })) (codes "suspect") 0 2 refl refl (lit< tt) (lit< tt), (flow_fine 60 (lit< tt), tt)),
  ),
)

sync_fine : (shard at : ℕ) → shard < 2 ^ 64 → at < 2 ^ 64 → IsFine (One (event.Sync (record { 0 = shard }) (record { 0 = at })))
sync_fine shard at few low = pair_fine (event.Sync (record { 0 = shard }) (record { 0 = at })) (codes "sync") shard at refl refl few low

upkeep_fine : (first flows : ℕ) → first < 2 ^ 64 → flows < 2 ^ 64 → Each IsFine (upkeep first flows)
unfolding upkeep
upkeep_fine first flows low few = (
  event_fine event.Nudge (codes "nudge") [] refl refl (lit≤ tt),
  (
    sync_fine 0 first (lit< tt) low,
    (
      sync_fine 1 0 (lit< tt) (lit< tt),
      (sync_fine 2 0 (lit< tt) (lit< tt), (sync_fine 3 0 (lit< tt) (lit< tt), (flow_fine flows few, tt))),
    ),
  ),
)

settler_small : (number turn : ℕ) → settler number turn < 2 ^ 64
unfolding settler
settler_small number turn = by_test (nat_lt turn (number / 2))
  where
    by_test : (test : Bool) → cond test 0 1 < 2 ^ 64
    by_test true = lit< tt
    by_test false = lit< tt

turn_fine : (number turn : ℕ) → Each IsFine (turn_lines number turn)
unfolding turn_lines
turn_fine number turn =
    Each-append IsFine (cond (turn == number / 2) noon [] ++ One (asked (teller turn) (turn_at number turn)) ∷ weather (turn_at number turn))
    (cond (turn % 4 == 3) (upkeep (settler number turn) 60) [])
    (Each-append IsFine (cond (turn == number / 2) noon []) (One (asked (teller turn) (turn_at number turn)) ∷ weather (turn_at number turn))
    (where_noon (turn == number / 2)) (asked_fine turn (turn_at number turn) (turn_drawn number turn), weather_fine (turn_at number turn)))
    (where_due (turn % 4 == 3))
  where
    where_noon : (test : Bool) → Each IsFine (cond test noon [])
    where_noon true = noon_fine
    where_noon false = tt

    where_due : (test : Bool) → Each IsFine (cond test (upkeep (settler number turn) 60) [])
    where_due true = upkeep_fine (settler number turn) 60 (settler_small number turn) (lit< tt)
    where_due false = tt

retry_small : (turn number : ℕ) → number ≤ 500 → turn < number → 3 + turn / 8 < 2 ^ 64
retry_small turn number few low = omega (arith, few, low)

retry_fine : (turn number : ℕ) → number ≤ 500 → turn < number → Each IsFine (retry_lines turn)
unfolding retry_lines teller
retry_fine turn number few low = (pair_fine (event.Retry (record { 0 = turn % 8 }) (3 + turn / 8)) (codes "retry") (turn % 8) (3 + turn / 8) refl refl (teller_small turn) (retry_small turn number few low), (flow_fine 60 (lit< tt), tt))

closing_fine : (number : ℕ) → number ≤ 500 → Each IsFine (closing number)
unfolding closing
closing_fine number few =
    Each-append IsFine (below retry_lines number) (upkeep 1 200) (each_below IsFine retry_lines number (λ turn low. retry_fine turn number few low)) (upkeep_fine 1 200 (lit< tt) (lit< tt))

-- ---- all lines
pub drill_fine : (number : ℕ) → number ≤ 500 → Each IsFine (drill_lines number)
unfolding drill_lines
drill_fine number few =
    Each-append IsFine (opening ++ below (turn_lines number) number ++ closing number) (closing number)
    (Each-append IsFine (opening ++ below (turn_lines number) number) (closing number)
    (Each-append IsFine opening (below (turn_lines number) number) opening_fine (each_below IsFine (turn_lines number) number (λ turn low. turn_fine number turn)))
    (closing_fine number few))
    (closing_fine number few)
