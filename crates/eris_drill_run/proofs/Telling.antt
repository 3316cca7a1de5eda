-- What is due for a drill, and what its status then says. Used where the run of its script has ended.
use Rattle.std.proofs.Common.{◌≡◌, inl, ◌≤◌, ◌+◌, ℕ, Some, Result, Ok, Err, IfOk, List, count_by, ap, sym, ◌∙◌, subst, refl}
use Rattle.eris_rules.specs.Good.{Good}
use Rattle.eris_rules.specs.Reports.{report_of}
use Rattle.eris_rules.specs.Runs.{run}
use Rattle.eris_rules.specs.Worlds.{WorldState}
use Rattle.eris_drill.specs.DrillLines.{bank}
use Rattle.eris_drill.specs.DrillText.{drill_text}
use Rattle.eris_drill.specs.Summaries.{IsTotal, is_submit, values_left}
use Rattle.eris_law_drill.specs.Reading.{drill_events}
use Rattle.eris_status.specs.declared.due.Due.{Due}
use Rattle.eris_event.specs.declared.limit.Limit.{Limit}
use Rattle.eris_status.specs.declared.refused.Refused.{Refused}
use Rattle.eris_status.specs.declared.refused.Stop.{Stop}
use Rattle.eris_status.specs.declared.refused.Stop.TheVariants as stops
use Rattle.eris_status.specs.declared.refused.Why.{Why}
use Rattle.eris_status.specs.declared.refused.Why.TheVariants as whys
use Rattle.eris_status.specs.declared.status.Status.{Status}
use Rattle.eris_status.specs.declared.status.Status.TheVariants.{Done}
use Rattle.eris_status.specs.Statuses.{HasText, IfBadScript, IfTooLarge, status_of, IsRefusal}
use Rattle.eris_run.specs.Calls.{status_for}
use Rattle.eris_run.specs.ScriptRuns.{Ran, outcome}
use Rattle.eris_status.specs.Texts.{refusal_text}
use Rattle.eris_run.proofs.FirstRefusals.{first_refused}
use Rattle.eris_drill_run.specs.Days.{IsDueDay, IsSummaryOf, IsTextFor, MeetsLimit, SummarizesDay}

-- ---- the laws, of every drill: how it ends, that it is refused for a limit alone, how much it submits, that it is good, and that
-- it keeps its money
abbrev pub DrillsEnd : Type 0
DrillsEnd = (number : ℕ) → number ≤ 500 → (ran : Ran) → outcome (drill_text number) ≡ Ok ran → (ran.config ≡ bank) × (run bank (drill_events number) ≡ Some ran.world)

abbrev pub DrillsMeetLimits : Type 0
DrillsMeetLimits = (number : ℕ) → number ≤ 500 → (stop : Stop) → outcome (drill_text number) ≡ Err stop → (line : ℕ) × (limit : Limit) × (stop ≡ stops.Refused (record { line = line; why = whys.Limit limit }))

abbrev pub DrillsAccept : Type 0
DrillsAccept = (number : ℕ) → number ≤ 500 → (world : WorldState) → run bank (drill_events number) ≡ Some world → outcome (drill_text number) ≡ Ok (record { config = bank; world = world })

abbrev pub DrillsSubmit : Type 0
DrillsSubmit = (number : ℕ) (world : WorldState) → run bank (drill_events number) ≡ Some world → count_by is_submit world.history ≡ 16 + number

abbrev pub DrillsAreGood : Type 0
DrillsAreGood = (number : ℕ) → number ≤ 500 → (world : WorldState) → run bank (drill_events number) ≡ Some world → Good world

abbrev pub DrillsKeepMoney : Type 0
DrillsKeepMoney = (number : ℕ) → number ≤ 500 → (world : WorldState) → run bank (drill_events number) ≡ Some world → (total : ℕ) → IsTotal (values_left (report_of bank world)) total → total ≡ 16000

-- all that a status and a text say of the day
record Says (number : ℕ) (text : List ℕ) (status : Status) : Type 0 where
  done : status ≡ Done → SummarizesDay number text
  too_large : IfTooLarge status (MeetsLimit number text)
  no_bad_script : IfBadScript status (λ line reason. ⊥)

module _ {number : ℕ} (few : number ≤ 500) where
  day_told : (ran : Ran) (text : List ℕ) → DrillsEnd → DrillsSubmit → DrillsAreGood → DrillsKeepMoney → outcome (drill_text number) ≡ Ok ran → IsSummaryOf number ran.world text → Says number text Done
  unfolding report_of
  day_told ran text ends submit good keep is summary =
      let happened = (ends number few ran is).1 in
      record {
        done = λ _. record {
          world = ran.world;
          ran = happened;
          good = good number few ran.world happened;
          submitted = submit number ran.world happened;
          total = summary.total;
          sum = summary.sum;
          money = keep number few ran.world happened summary.total summary.sum;
          is = summary.is;
        };
        too_large = tt;
        no_bad_script = tt;
      }

  limit_told : (line : ℕ) (why : Why) (limit : Limit) → why ≡ whys.Limit limit → outcome (drill_text number) ≡ Err (stops.Refused (record { line = line; why = why })) → Says number (refusal_text line why) (status_of line why)
  limit_told line (whys.Reason reason) limit same is = absurd cc
  limit_told line (whys.Limit limit) other same is =
      record {
        done = λ done. absurd cc;
        too_large = record {
          limit = limit;
          first = first_refused (drill_text number) (record { line = line; why = whys.Limit limit }) is;
          refused = is;
          is = refl;
        };
        no_bad_script = tt;
      }

  -- ---- what is due for what comes of the drill's bytes
  pub day_due : DrillsEnd → DrillsSubmit → DrillsAreGood → DrillsKeepMoney → (ran : Ran) (due : Due) → outcome (drill_text number) ≡ Ok ran → due.status ≡ Done → IsSummaryOf number ran.world due.text
      → IsDueDay number due
  day_due ends submit good keep ran due is done summary =
      let all = subst (λ (status : Status). Says number due.text status) (sym done) (day_told ran due.text ends submit good keep is summary) in
      record {
        status = done ∙ sym (ap status_for is);
        text = subst (λ (found : Result Ran Stop). IsTextFor number found due.text) (sym is) summary;
        done = all.done;
        too_large = all.too_large;
        no_bad_script = all.no_bad_script;
        accepted = λ world ran. inl done;
        has_text = subst HasText (sym done) tt;
      }

  pub line_due : DrillsMeetLimits → DrillsAccept → (refused : Refused) (due : Due) → outcome (drill_text number) ≡ Err (stops.Refused refused) → IsRefusal refused due → IsDueDay number due
  line_due limits accept refused due is refusal =
      let met = limits number few (stops.Refused refused) is in
      let same = met.2 in
      let here : refused ≡ record { line = met.0; why = whys.Limit met.1 } = cc in
      let told = limit_told refused.line refused.why met.1 (ap (λ (r : Refused). r.why) here) is in
      let all = subst (λ (status : Status). Says number due.text status) (sym refusal.status)
      (subst (λ (text : List ℕ). Says number text (status_of refused.line refused.why)) (sym refusal.text) told) in
      record {
        status = refusal.status ∙ sym (ap status_for is);
        text = subst (λ (found : Result Ran Stop). IsTextFor number found due.text) (sym is) refusal.text;
        done = all.done;
        too_large = all.too_large;
        no_bad_script = all.no_bad_script;
        accepted = λ world ran. (let other = accept number few world ran in absurd cc);
        has_text = refusal.has_text;
      }

  -- ---- and for what the run of the script answers
  pub days_due : {E : Type 0} → DrillsEnd → DrillsSubmit → DrillsAreGood → DrillsKeepMoney → (ran : Ran) (result : Result Due E) → outcome (drill_text number) ≡ Ok ran
      → IfOk result (λ due. (due.status ≡ Done) × IsSummaryOf number ran.world due.text) → IfOk result (IsDueDay number)
  days_due ends submit good keep ran (Ok due) is ended = day_due ends submit good keep ran due is ended.0 ended.1
  days_due ends submit good keep ran (Err error) is ended = tt

  pub lines_due : {E : Type 0} → DrillsMeetLimits → DrillsAccept → (refused : Refused) (result : Result Due E) → outcome (drill_text number) ≡ Err (stops.Refused refused) → IfOk result (IsRefusal refused)
      → IfOk result (IsDueDay number)
  lines_due limits accept refused (Ok due) is refusal = line_due limits accept refused due is refusal
  lines_due limits accept refused (Err error) is refusal = tt
