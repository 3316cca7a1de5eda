-- THE HISTORY OF A DRILL IS A BANK'S: the puts are submitted and answered first, and what is submitted behind them are turns.
use Rattle.std.proofs.Common.{◌≡◌, ◌≤◌, ◌<◌, ◌+◌, ◌/◌, ◌%◌, ◌==◌, ◌⊎◌, inl, inr, ℕ, zero, suc, Bool, true, false, cond, Option, Some, None, is_some, unwrap_or, IsTrue, List, [], ◌∷◌, ◌++◌, refl, ap, sym, ◌∙◌, subst, arith}
use Rattle.std.proofs.lemmas.Bool.{cases_Bool, cases_lt}
use Rattle.eris_base.specs.declared.ids.TxnId.{TxnId}
use Rattle.eris_base.specs.Each.{Each}
use Rattle.eris_base.specs.TxnIds.{same_id}
use Rattle.eris_base.proofs.TxnIdLaws.{same_id-refl, same_id-true}
use Rattle.eris_txn.specs.declared.history.HistoryEvent.{HistoryEvent}
use Rattle.eris_txn.specs.declared.op.Op.TheVariants.{Get}
use Rattle.eris_txn.specs.declared.txn.Txn.{Txn}
use Rattle.eris_txn.specs.declared.txn.Txn.TheVariants.{Whole, General}
use Rattle.eris_audit.specs.Histories.{first_submit, is_submitted, txn_of}
use Rattle.eris_law_epoch.specs.Members.{In}
use Rattle.eris_law_epoch.proofs.Members.{Each-at}
use Rattle.eris_law_undisturbed.specs.Undisturbed.{AreAnswered}
use Rattle.eris_drill.specs.declared.turn.Turn.{Turn}
use Rattle.eris_drill.specs.Draws.{turn_at}
use Rattle.eris_drill.specs.DrillLines.{below, payee, payer, teller, transfer}
use Rattle.eris_law_drill.specs.BankHistories.{Happened, HasPut, IsBankHistory, IsSomePut, WasAnswered}
use Rattle.eris_law_drill.specs.Banks.{IsTurn}
use Rattle.eris_law_drill.proofs.Fitting.{turn_drawn}
use Rattle.eris_law_drill_run.specs.Submissions.{asked_txn, first_puts, first_turns, id_at, put_of, submissions}
use Rattle.eris_law_drill.proofs.Below.{each_below}
use Rattle.eris_law_drill_run.proofs.ClientSteps.{submissions-append}
use Rattle.eris_law_drill_run.proofs.Histories.{by_submissions, each_found, found_before, found_behind, happened_from, look_up, submission_in, submitted_in}

puts_are : Each (λ pair. IsSomePut pair.1) (first_puts 16)
unfolding first_puts
puts_are = each_below (λ (pair : TxnId × Txn). IsSomePut pair.1) (λ (number : ℕ). (id_at number, put_of number) ∷ []) 16 (λ k low. (record { number = k; put = record { known = low; is = refl } }, tt))

asked_is : (drawn : Turn) → (asked_txn drawn ≡ Whole (Get (payer drawn) ∷ Get (payee drawn) ∷ [])) ⊎ (asked_txn drawn ≡ General (transfer drawn))
unfolding asked_txn
asked_is drawn = by_kind (drawn.kind == 0)
  where
    by_kind : (test : Bool) → (cond test (Whole (Get (payer drawn) ∷ Get (payee drawn) ∷ [])) (General (transfer drawn)) ≡ Whole (Get (payer drawn) ∷ Get (payee drawn) ∷ []))
        ⊎ (cond test (Whole (Get (payer drawn) ∷ Get (payee drawn) ∷ [])) (General (transfer drawn)) ≡ General (transfer drawn))
    by_kind true = inl refl
    by_kind false = inr refl

turns_are : (number turns : ℕ) → Each (λ pair. IsTurn pair.1) (first_turns number turns)
unfolding first_turns
turns_are number turns =
    each_below (λ (pair : TxnId × Txn). IsTurn pair.1) (λ (turn : ℕ). (id_at (16 + turn), asked_txn (turn_at number turn)) ∷ []) turns (λ k low. (record { turn = turn_at number k; drawn = turn_drawn number k; is = asked_is (turn_at number k) }, tt))

-- ---- each put under its id
earlier_id : (k m : ℕ) → k < m → same_id (id_at k) (id_at m) ≡ false
unfolding id_at teller
earlier_id k m low = by_test (cases_Bool (same_id (id_at k) (id_at m)))
  where
    apart : k % 8 ≡ m % 8 → k / 8 + 1 ≡ m / 8 + 1 → ⊥
    apart clients numbers = omega (arith, low, clients, numbers)

    by_test : ((same_id (id_at k) (id_at m) ≡ true) ⊎ (same_id (id_at k) (id_at m) ≡ false)) → same_id (id_at k) (id_at m) ≡ false
    by_test (inl same) = let one = same_id-true (id_at k) (id_at m) same in absurd (apart (ap (λ (id : TxnId). id.client.0) one) (ap (λ (id : TxnId). id.number) one))
    by_test (inr other) = other

others_apart : (n : ℕ) → Each (λ pair. same_id pair.0 (id_at n) ≡ false) (first_puts n)
unfolding first_puts
others_apart n = each_below (λ (pair : TxnId × Txn). same_id pair.0 (id_at n) ≡ false) (λ (number : ℕ). (id_at number, put_of number) ∷ []) n (λ k low. (earlier_id k n low, tt))

put_found : (accounts number : ℕ) → number < accounts → look_up (first_puts accounts) (id_at number) ≡ Some (put_of number)
unfolding first_puts below
put_found zero number low = absurd (omega (arith, low))
put_found (suc accounts) number low = by_place (cases_lt number accounts) (λ before. put_found accounts number before)
  where
    last : number ≡ accounts → look_up (first_puts accounts ++ (id_at accounts, put_of accounts) ∷ []) (id_at number) ≡ Some (put_of number)
    last is =
        subst (λ (at : ℕ). look_up (first_puts accounts ++ (id_at accounts, put_of accounts) ∷ []) (id_at at) ≡ Some (put_of at)) (sym is)
        (found_behind (first_puts accounts) ((id_at accounts, put_of accounts) ∷ []) (id_at accounts) (others_apart accounts)
        ∙ ap (λ (test : Bool). cond test (Some (put_of accounts)) (look_up [] (id_at accounts))) (same_id-refl (id_at accounts)))

    by_place : ((number < accounts) ⊎ (accounts ≤ number)) → (number < accounts → look_up (first_puts accounts) (id_at number) ≡ Some (put_of number))
        → look_up (first_puts accounts ++ (id_at accounts, put_of accounts) ∷ []) (id_at number) ≡ Some (put_of number)
    by_place (inl before) earlier = found_before (first_puts accounts) ((id_at accounts, put_of accounts) ∷ []) (id_at number) (put_of number) (earlier before)
    by_place (inr here) earlier = last (omega (arith, here, low))

some_from : (found : Option Txn) → is_some found ≡ true → (txn : Txn) × (found ≡ Some txn)
some_from (Some txn) is = (txn, refl)
some_from None is = absurd (cc)

-- ---- THE HISTORY, in two parts
module _ (number : ℕ) (early late : List HistoryEvent) (first : submissions early ≡ first_puts 16) (second : submissions late ≡ first_turns number number) (answers : AreAnswered early early) where
  early_lookup : (id : TxnId) → first_submit early id ≡ look_up (first_puts 16) id
  early_lookup id = by_submissions early id ∙ ap (λ (pairs : List (TxnId × Txn)). look_up pairs id) first

  -- what is submitted early is the id's transaction in the whole history
  whole_txn : (id : TxnId) (txn : Txn) → look_up (first_puts 16) id ≡ Some txn → txn_of (early ++ late) id ≡ txn
  whole_txn id txn found =
      ap (λ (one : Option Txn). unwrap_or one (Whole []))
      (by_submissions (early ++ late) id
      ∙ ap (λ (pairs : List (TxnId × Txn)). look_up pairs id) (submissions-append early late ∙ ap (λ (pairs : List (TxnId × Txn)). pairs ++ submissions late) first)
      ∙ found_before (first_puts 16) (submissions late) id txn found)

  early_put : (id : TxnId) → IsTrue (is_submitted early id) → IsSomePut (txn_of (early ++ late) id)
  early_put id known =
      let found = some_from (first_submit early id) known in
      let there = sym (early_lookup id) ∙ found.1 in
      subst IsSomePut (sym (whole_txn id found.0 there)) (each_found IsSomePut (first_puts 16) id found.0 puts_are there)

  early_answered : (id : TxnId) → IsTrue (is_submitted early id) → WasAnswered id early
  early_answered id known =
      let found = some_from (first_submit early id) known in
      let answered = answers.at id found.0 (submitted_in early id found.0 found.1) in
      record { answer = answered.0; there = happened_from _ early answered.1 }

  has_put : (account : ℕ) → account < 16 → HasPut (early ++ late) early account
  has_put account low =
      let there = put_found 16 account low in
      record {
        id = id_at account;
        submitted = ap (λ (found : Option Txn). is_some found) (early_lookup (id_at account) ∙ there);
        put = record { known = low; is = whole_txn (id_at account) (put_of account) there };
      }

  late_turn : (id : TxnId) (txn : Txn) → Happened (HistoryEvent.Submit id txn) late → IsTurn txn
  late_turn id txn there =
      Each-at (λ (pair : TxnId × Txn). IsTurn pair.1) (first_turns number number) (id, txn) (turns_are number number)
      (subst (λ (pairs : List (TxnId × Txn)). In (id, txn) pairs) second (submission_in late id txn there))

  pub bank_history : IsBankHistory (early ++ late)
  bank_history = record { early = early; late = late; are = refl; puts = early_put; answered = early_answered; all = has_put; turns = late_turn }
