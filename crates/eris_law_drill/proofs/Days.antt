-- A DAY'S VALUES: after the puts each account has 1000, and the turns keep the sum.
use Rattle.std.proofs.Common.{◌≡◌, ◌<◌, ◌⊎◌, inl, inr, ◌*◌, ◌%◌, ◌^◌, ℕ, zero, suc, true, false, Option, Some, unwrap_or, List, [], ◌∷◌, ◌++◌, refl, ap, sym, ◌∙◌, arith, subst}
use Rattle.std.proofs.lemmas.Bool.{cases_Bool}
use Rattle.eris_base.specs.declared.ids.TxnId.{TxnId}
use Rattle.eris_base.specs.Each.{Each}
use Rattle.eris_txn.specs.declared.txn.Txn.{Txn}
use Rattle.eris_txn.specs.Keys.{Values, no_values, same_key, with_value}
use Rattle.eris_txn.proofs.KeyLaws.{same_key-true}
use Rattle.eris_txn.proofs.ValueLaws.{with_value-other, with_value-same}
use Rattle.eris_audit.specs.declared.order_line.OrderLine.{OrderLine}
use Rattle.eris_audit.specs.declared.outcome.Outcome.{Outcome}
use Rattle.eris_audit.specs.SerialRun.{left_by_step}
use Rattle.eris_drill.specs.DrillLines.{account}
use Rattle.eris_drill.specs.Summaries.{after_steps}
use Rattle.eris_law_drill.specs.Banks.{IsDay, IsPut, IsTurn, OnlyAccounts, Opens, OpensSome, worth}
use Rattle.eris_law_drill.proofs.Transfers.{set_only, transfer_keeps, transfer_only, turn_leaves}

-- a put sets its account, whatever its outcome
put_leaves : (txn : Txn) (outcome : Outcome) (values : Values) (number : ℕ) → IsPut txn number → left_by_step txn outcome values ≡ with_value (account number) (Some 1000) values
put_leaves txn outcome values number put = ap (λ (one : Txn). left_by_step one outcome values) put.is

-- an account that has 1000 has it after another put
kept_by_put : (values : Values) (put number : ℕ) → values (account number) ≡ Some 1000 → with_value (account put) (Some 1000) values (account number) ≡ Some 1000
kept_by_put values put number has = by_test (cases_Bool (same_key (account put) (account number)))
  where
    by_test : ((same_key (account put) (account number) ≡ true) ⊎ (same_key (account put) (account number) ≡ false)) → with_value (account put) (Some 1000) values (account number) ≡ Some 1000
    by_test (inl same) =
        ap (with_value (account put) (Some 1000) values) (sym (same_key-true (account put) (account number) same)) ∙ with_value-same (account put) (Some 1000) values
    by_test (inr apart) = with_value-other (account put) (Some 1000) values (account number) apart ∙ has

module _ (txn : TxnId → Txn) where
  kept_by_puts : (lines : List OrderLine) (values : Values) (number : ℕ) → Each (OpensSome txn) lines → values (account number) ≡ Some 1000 →
      after_steps txn lines values (account number) ≡ Some 1000
  unfolding after_steps
  kept_by_puts [] values number puts has = has
  kept_by_puts (line ∷ lines) values number puts has =
      kept_by_puts lines (left_by_step (txn line.id) line.outcome values) number puts.1
      (ap (λ (left : Values). left (account number)) (put_leaves (txn line.id) line.outcome values puts.0.number puts.0.put) ∙ kept_by_put values puts.0.number number has)

  opened : (lines : List OrderLine) (values : Values) (number : ℕ) → Each (OpensSome txn) lines → Opens txn number lines →
      after_steps txn lines values (account number) ≡ Some 1000
  unfolding after_steps
  opened [] values number puts opens = absurd opens
  opened (line ∷ lines) values number puts (inl put) =
      kept_by_puts lines (left_by_step (txn line.id) line.outcome values) number puts.1
      (ap (λ (left : Values). left (account number)) (put_leaves (txn line.id) line.outcome values number put) ∙ with_value-same (account number) (Some 1000) values)
  opened (line ∷ lines) values number puts (inr later) = opened lines (left_by_step (txn line.id) line.outcome values) number puts.1 later

  puts_only : (lines : List OrderLine) (values : Values) → Each (OpensSome txn) lines → OnlyAccounts values → OnlyAccounts (after_steps txn lines values)
  unfolding after_steps
  puts_only [] values puts only = only
  puts_only (line ∷ lines) values puts only =
      puts_only lines (left_by_step (txn line.id) line.outcome values) puts.1
      (subst OnlyAccounts (sym (put_leaves (txn line.id) line.outcome values puts.0.number puts.0.put)) (set_only values puts.0.number (Some 1000) puts.0.put.known only))

  turns_only : (lines : List OrderLine) (values : Values) → Each (λ line. IsTurn (txn line.id)) lines → OnlyAccounts values → OnlyAccounts (after_steps txn lines values)
  unfolding after_steps
  turns_only [] values turns only = only
  turns_only (line ∷ lines) values turns only =
      turns_only lines (left_by_step (txn line.id) line.outcome values) turns.1
      (turn_leaves OnlyAccounts (txn line.id) line.outcome values turns.0.turn turns.0.is only (transfer_only values turns.0.turn turns.0.drawn only))

  turns_keep : (lines : List OrderLine) (values : Values) (sum : ℕ) → Each (λ line. IsTurn (txn line.id)) lines → worth values 16 % 2 ^ 64 ≡ sum →
      worth (after_steps txn lines values) 16 % 2 ^ 64 ≡ sum
  unfolding after_steps
  turns_keep [] values sum turns have = have
  turns_keep (line ∷ lines) values sum turns have =
      turns_keep lines (left_by_step (txn line.id) line.outcome values) sum turns.1
      (turn_leaves (λ (left : Values). worth left 16 % 2 ^ 64 ≡ sum) (txn line.id) line.outcome values turns.0.turn turns.0.is have
      (transfer_keeps values turns.0.turn turns.0.drawn ∙ have))

  joined : (front back : List OrderLine) (values : Values) → after_steps txn (front ++ back) values ≡ after_steps txn back (after_steps txn front values)
  unfolding after_steps
  joined [] back values = refl
  joined (line ∷ front) back values = joined front back (left_by_step (txn line.id) line.outcome values)

-- accounts that have 1000 each
thousands : (values : Values) (n : ℕ) → ((number : ℕ) → number < n → values (account number) ≡ Some 1000) → worth values n ≡ 1000 * n
unfolding worth
thousands values zero each = refl
thousands values (suc n) each =
    let before = thousands values n (λ number low. each number (omega (arith, low))) in
    let last : unwrap_or (values (account n)) 0 ≡ 1000 = ap (λ (found : Option ℕ). unwrap_or found 0) (each n (omega arith)) in
    omega (arith, before, last)

sixteen : (whole : ℕ) → whole ≡ 1000 * 16 → whole % 2 ^ 64 ≡ 16000
sixteen whole is = omega (arith, is)

-- THE DAY: at its end the accounts have 16000 together
pub day_worth : (txn : TxnId → Txn) (lines : List OrderLine) → IsDay txn lines → worth (after_steps txn lines no_values) 16 % 2 ^ 64 ≡ 16000
day_worth txn lines day =
    ap (λ (left : Values). worth left 16 % 2 ^ 64) (ap (λ (all : List OrderLine). after_steps txn all no_values) day.are ∙ joined txn day.front day.back no_values)
    ∙ turns_keep txn day.back (after_steps txn day.front no_values) 16000 day.turns
    (sixteen (worth (after_steps txn day.front no_values) 16)
    (thousands (after_steps txn day.front no_values) 16 (λ number low. opened txn day.front no_values number day.puts (day.all number low))))

pub day_only : (txn : TxnId → Txn) (lines : List OrderLine) → IsDay txn lines → OnlyAccounts (after_steps txn lines no_values)
day_only txn lines day =
    subst OnlyAccounts (sym (ap (λ (all : List OrderLine). after_steps txn all no_values) day.are ∙ joined txn day.front day.back no_values))
    (turns_only txn day.back (after_steps txn day.front no_values) day.turns (puts_only txn day.front no_values day.puts (λ key none. refl)))
