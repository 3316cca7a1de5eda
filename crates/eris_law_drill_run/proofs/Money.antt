-- THE DRILL KEEPS ITS MONEY: its history is a bank's and serial, so the total is 16000.
use Rattle.std.proofs.Common.{◌≡◌, ◌≤◌, ◌+◌, ℕ, count_by, Some, List, ◌++◌, length, length-append, ap, sym, ◌∙◌, subst, arith}
use Rattle.std.proofs.lemmas.List.{append_cancel_left}
use Rattle.eris_base.specs.declared.ids.TxnId.{TxnId}
use Rattle.eris_txn.specs.declared.txn.Txn.{Txn}
use Rattle.eris_txn.specs.Keys.{no_values}
use Rattle.eris_audit.specs.Histories.{txn_of}
use Rattle.eris_rules.specs.Good.{Good}
use Rattle.eris_rules.specs.Reports.{report_of}
use Rattle.eris_rules.specs.Runs.{run}
use Rattle.eris_rules.specs.WorldOrders.{lines_of_world}
use Rattle.eris_rules.specs.Worlds.{WorldState, first_world}
use Rattle.eris_law_agreement.specs.Continuing.{Continues}
use Rattle.eris_law_agreement.proofs.Moments.{front_accepted}
use Rattle.eris_law_good.proofs.Goodness.{good_run}
use Rattle.eris_drill.specs.DrillLines.{bank, opening}
use Rattle.eris_drill.specs.Summaries.{IsTotal, after_steps, is_submit, values_left}
use Rattle.eris_law_drill.specs.BankHistories.{IsBankHistory}
use Rattle.eris_law_drill.specs.Reading.{drill_events}
use Rattle.eris_law_drill.proofs.Days.{day_only, day_worth}
use Rattle.eris_law_drill.proofs.Serials.{day_of}
use Rattle.eris_law_drill.proofs.Totals.{total_is_worth}
use Rattle.eris_law_drill_run.specs.Submissions.{drill_submissions, first_puts, first_turns, submissions}
use Rattle.eris_law_drill_run.specs.Takings.{AreTaken, after_all}
use Rattle.eris_law_drill_run.proofs.BankDays.{bank_history}
use Rattle.eris_law_drill_run.proofs.Carrying.{after-append, said}
use Rattle.eris_law_drill_run.proofs.ClientSteps.{submissions-append}
use Rattle.eris_law_drill_run.proofs.DrillRuns.{drill_carries, length_puts, length_turns, opening_carries}
use Rattle.eris_law_drill_run.proofs.Histories.{submissions_counted}
use Rattle.eris_law_drill_run.proofs.Opening.{behind_opening, drill_fits, drill_parts, opening_answered}
use Rattle.eris_law_drill_run.proofs.Standing.{stands_first}
use Rattle.eris_law_drill_run.proofs.Taken.{history_grows, run_after}

-- NO EVENT has a cause to be refused
pub drill_taken : (number : ℕ) → AreTaken bank (first_world bank) (drill_events number)
drill_taken number = (drill_carries number).taken (first_world bank) stands_first

-- ALL IS SUBMITTED, in order
pub drill_submits : (number : ℕ) (world : WorldState) → run bank (drill_events number) ≡ Some world → submissions world.history ≡ drill_submissions number
unfolding run
drill_submits number world ran =
    ap (λ (now : WorldState). submissions now.history) (run_after bank (first_world bank) (drill_events number) world ran)
    ∙ ((drill_carries number).leaves (first_world bank) stands_first).history

length_drill : (number : ℕ) → length (drill_submissions number) ≡ 16 + number
unfolding drill_submissions
length_drill number =
    let puts = length_puts 16 in
    let turns = length_turns number number in
    let both = length-append (first_puts 16) (first_turns number number) in
    omega (arith, puts, turns, both)

pub drill_counts : (number : ℕ) (world : WorldState) → run bank (drill_events number) ≡ Some world → count_by is_submit world.history ≡ 16 + number
drill_counts number world ran = submissions_counted world.history ∙ ap length (drill_submits number world ran) ∙ length_drill number

-- THE HISTORY is a bank's
module _ (number : ℕ) (world : WorldState) (ran : run bank (drill_events number) ≡ Some world) where
  middle : WorldState
  middle = after_all bank (first_world bank) (said opening)

  middle_ran : run bank (said opening) ≡ Some middle
  unfolding run middle
  middle_ran =
      let front = front_accepted bank (said opening) (behind_opening number) world (ap (run bank) (sym (drill_parts number)) ∙ ran) in
      front.1 ∙ ap (λ (now : WorldState). Some now) (run_after bank (first_world bank) (said opening) front.0 front.1)

  middle_submits : submissions middle.history ≡ first_puts 16
  unfolding middle
  middle_submits = (opening_carries.leaves (first_world bank) stands_first).history

  world_is : world ≡ after_all bank middle (behind_opening number)
  unfolding run middle
  world_is =
      run_after bank (first_world bank) (drill_events number) world ran
      ∙ ap (after_all bank (first_world bank)) (drill_parts number)
      ∙ after-append bank (first_world bank) (said opening) (behind_opening number)

  parts : Continues middle.history world.history
  parts = subst (λ (now : WorldState). Continues middle.history now.history) (sym world_is) (history_grows bank middle (behind_opening number))

  late_submits : submissions parts.more ≡ first_turns number number
  unfolding drill_submissions
  late_submits =
      append_cancel_left (first_puts 16) (submissions parts.more) (first_turns number number)
      (ap (λ (puts : List (TxnId × Txn)). puts ++ submissions parts.more) (sym middle_submits)
      ∙ sym (submissions-append middle.history parts.more)
      ∙ ap submissions (sym parts.is)
      ∙ drill_submits number world ran)

  pub drill_history : IsBankHistory world.history
  drill_history =
      subst IsBankHistory (sym parts.is) (bank_history number middle.history parts.more middle_submits late_submits (opening_answered middle middle_ran))

-- A RUN OF A DRILL is good
pub drill_good : (number : ℕ) → number ≤ 500 → (world : WorldState) → run bank (drill_events number) ≡ Some world → Good world
drill_good number few world ran = good_run bank (drill_events number) (drill_fits number few) world ran

-- AND KEEPS ITS MONEY
pub drill_total : (number : ℕ) → number ≤ 500 → (world : WorldState) → run bank (drill_events number) ≡ Some world
    → (total : ℕ) → IsTotal (values_left (report_of bank world)) total → total ≡ 16000
unfolding values_left report_of
drill_total number few world ran total whole =
    let day = day_of world.history (lines_of_world world) (drill_history number world ran) (drill_good number few world ran).serial in
    total_is_worth (after_steps (txn_of world.history) (lines_of_world world) no_values) total (day_only (txn_of world.history) (lines_of_world world) day) whole
    ∙ day_worth (txn_of world.history) (lines_of_world world) day
