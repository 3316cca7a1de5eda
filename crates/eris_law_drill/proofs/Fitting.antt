-- THE EVENTS OF A DRILL FIT THE GRAMMAR: their numbers are in its ranges, and a transfer is a plan.
use Rattle.std.proofs.Common.{◌≡◌, ◌≤◌, ◌<◌, ◌+◌, ◌/◌, ◌%◌, ◌==◌, ℕ, Bool, true, false, cond, ◌-◌, ◌^◌, Option, None, List, [], ◌∷◌, nat_le, refl, ap, arith}
use Rattle.std.proofs.lemmas.Bool.Decides.{nat_tests}
use Rattle.std.proofs.lemmas.Bool.{and_from}
use Rattle.std.specs.Prelude.{is_none}
use Rattle.eris_txn.specs.declared.key.Key.{Key}
use Rattle.eris_txn.specs.declared.op.Op.TheVariants.{Get}
use Rattle.eris_txn.specs.declared.plan.Guard.{Guard}
use Rattle.eris_txn.specs.declared.plan.PlanFault.{PlanFault}
use Rattle.eris_txn.specs.declared.plan.Setting.{Setting}
use Rattle.eris_txn.specs.PlanFaults.{plan_fault}
use Rattle.eris_event.specs.declared.event.Event.TheVariants as event
use Rattle.eris_event.specs.EventRanges.{fits_event, is_plan, fits_value, fits_client, fits_key}
use Rattle.eris_drill.specs.declared.turn.Turn.{Turn}
use Rattle.eris_drill.specs.Draws.{turn_at, turn_from}
use Rattle.eris_drill.specs.DrillLines.{account, asked, opening_put, payee, payer, teller, transfer}
use Rattle.eris_drill.proofs.AccountKeys.{account_name, transfer_is_plan}
use Rattle.eris_drill.proofs.Turns.{distance_fits, payer_fits}
use Rattle.eris_law_drill.specs.Banks.{IsDrawn}

low_shard : (number : ℕ) → nat_le (number % 4) 15 ≡ true
low_shard number = grind (arith, nat_tests)

below_256 : (number : ℕ) → nat_le (number % 8) 255 ≡ true
below_256 number = grind (arith, nat_tests)

pub key_fits : (number : ℕ) → number < 16 → fits_key 1 (account number) ≡ true
unfolding account
key_fits number low = and_from _ _ (low_shard number) (account_name number low)

pub put_fits : (number : ℕ) → number < 16 → fits_event 1 (opening_put number) ≡ true
unfolding opening_put teller
put_fits number low = and_from _ _ (below_256 number) (and_from _ _ (and_from _ _ (key_fits number low) refl) refl)

behind : (turn : Turn) → (turn.payer + 1 + turn.distance) % 16 < 16
behind turn = omega arith

payer_key : (turn : Turn) → IsDrawn turn → fits_key 1 (payer turn) ≡ true
unfolding payer
payer_key turn drawn = key_fits turn.payer drawn.payer

payee_key : (turn : Turn) → fits_key 1 (payee turn) ≡ true
unfolding payee
payee_key turn = key_fits ((turn.payer + 1 + turn.distance) % 16) (behind turn)

small : (amount : ℕ) → amount ≤ 100 → nat_le amount (2 ^ 64 - 1) ≡ true
small amount low = grind (arith, nat_tests)

amount_fits : (turn : Turn) → IsDrawn turn → fits_value turn.amount ≡ true
amount_fits turn drawn = small turn.amount drawn.amount

none_found : (keys : List Key) (guards : List Guard) (settings : List Setting) → plan_fault keys guards settings ≡ None → is_none (plan_fault keys guards settings) ≡ true
none_found keys guards settings none = ap (λ (found : Option PlanFault). is_none found) none

transfer_fits : (turn : Turn) → IsDrawn turn → is_plan 1 (transfer turn) ≡ true
unfolding transfer
transfer_fits turn drawn =
    let from = payer_key turn drawn in
    let to = payee_key turn in
    let amount = amount_fits turn drawn in
    let keys = and_from _ _ from (and_from _ _ to refl) in
    let guards = and_from _ _ (and_from _ _ from amount) refl in
    let settings = and_from _ _ (and_from _ _ from amount) (and_from _ _ (and_from _ _ to amount) refl) in
    let planned = none_found (transfer turn).keys (transfer turn).guards (transfer turn).settings (transfer_is_plan turn drawn.payer drawn.distance) in
    and_from _ _ (and_from _ _ (and_from _ _ (and_from _ _ (and_from _ _ keys guards) settings) refl) refl) planned

client_fits : (at : ℕ) → fits_client (record { 0 = at % 8 }) ≡ true
client_fits at = below_256 at

pub asked_fits : (at : ℕ) (turn : Turn) → IsDrawn turn → fits_event 1 (asked (teller at) turn) ≡ true
unfolding asked teller
asked_fits at turn drawn = by_kind (turn.kind == 0)
  where
    by_kind : (test : Bool) → fits_event 1 (cond test (event.Submit (record { 0 = at % 8 }) (Get (payer turn) ∷ Get (payee turn) ∷ [])) (event.General (record { 0 = at % 8 }) (transfer turn))) ≡ true
    by_kind true = and_from _ _ (client_fits at) (and_from _ _ refl (and_from _ _ refl (and_from _ _ (payer_key turn drawn) (and_from _ _ (payee_key turn) refl))))
    by_kind false = and_from _ _ (client_fits at) (transfer_fits turn drawn)

retry_number : (turn : ℕ) → turn < 500 → nat_le (3 + turn / 8) (2 ^ 32 - 1) ≡ true
retry_number turn low = grind (arith, nat_tests)

pub retry_fits : (turn : ℕ) → turn < 500 → fits_event 1 (event.Retry (teller turn) (3 + turn / 8)) ≡ true
unfolding teller
retry_fits turn low = and_from _ _ (below_256 turn) (retry_number turn low)

word_amount : (word : ℕ) → word % 100 + 1 ≤ 100
word_amount word = omega arith

amount_drawn : (number turn : ℕ) → (turn_at number turn).amount ≤ 100
unfolding turn_at turn_from
amount_drawn number turn = word_amount _

-- what is drawn is in its bounds
pub turn_drawn : (number turn : ℕ) → IsDrawn (turn_at number turn)
turn_drawn number turn = record { payer = payer_fits number turn; distance = distance_fits number turn; amount = amount_drawn number turn }
