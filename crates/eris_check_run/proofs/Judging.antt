-- What the bytes of a report are due says of them what it promises. Used where a report is judged.
use Rattle.std.proofs.Common.{◌≡◌, inl, inr, ℕ, ◌<◌, ◌≤◌, IfOk, Result, Ok, Err, List, [], length, ap, sym, ◌∙◌, subst, refl, arith}
use Rattle.eris_audit.proofs.Verdicts.{each-alone, one_verdict, serial-yes, yes-serial}
use Rattle.eris_audit.specs.declared.order_line.OrderLine.{OrderLine}
use Rattle.eris_audit.specs.declared.verdict.Verdict.{Verdict}
use Rattle.eris_audit.specs.declared.verdict.Verdict.TheVariants.{Yes, No}
use Rattle.eris_audit.specs.IsSerial.{IsSerial}
use Rattle.eris_audit.specs.Lines.{Line, lines_of}
use Rattle.eris_audit.specs.Verdicts.{IsVerdict}
use Rattle.eris_check.specs.ReportTexts.{AreJudged, IsFirstMisfit, IsTextOf}
use Rattle.eris_event.specs.declared.report.Report.{Report}
use Rattle.eris_status.specs.declared.due.Due.{Due}
use Rattle.eris_status.specs.declared.status.Status.{Status}
use Rattle.eris_status.specs.declared.status.Status.TheVariants.{BadReport, CheckedNo, Done, TooLarge}
use Rattle.eris_status.specs.Statuses.{HasVerdict, IfBadReport, IfTooLarge}
use Rattle.eris_status.specs.Texts.{too_large_text}
use Rattle.eris_check_run.specs.Checks.{IsAcceptedReport, IsCheckDue, IsChecked, IsJudged, IsJudgedSo, IsPastReports, IsVerdictDue, JudgesBroken, JudgesSerial, RefusesReport, check_limit}
use Rattle.eris_txn.specs.declared.history.HistoryEvent.{HistoryEvent}
use Rattle.eris_check_run.specs.VerdictTexts.{bad_report_text, verdict_status, verdict_text, yes_text}

-- ---- what each status says of bytes and a text, in one record
record Says (bytes text : List ℕ) (status : Status) : Type 0 where
  done : status ≡ Done → JudgesSerial bytes text
  no : status ≡ CheckedNo → JudgesBroken bytes text
  bad_report : IfBadReport status (RefusesReport bytes text)
  too_large : IfTooLarge status (IsPastReports bytes text)
  accepted : IsAcceptedReport bytes status
  has_verdict : HasVerdict status

whole : (bytes : List ℕ) (due : Due) → IsChecked bytes due.status due.text → Says bytes due.text due.status → IsCheckDue bytes due
whole bytes due checked all =
    record {
      checked = checked;
      done = all.done;
      no = all.no;
      bad_report = all.bad_report;
      too_large = all.too_large;
      accepted = all.accepted;
      has_verdict = all.has_verdict;
    }

-- more bytes than a report may have
says_past : (bytes text : List ℕ) → check_limit < length bytes → text ≡ too_large_text → Says bytes text (TooLarge 0)
says_past bytes text past is =
    record {
      done = λ other. absurd cc;
      no = λ other. absurd cc;
      bad_report = tt;
      too_large = (refl, past, is);
      accepted = λ report within of serial. absurd (omega (arith, within, past));
      has_verdict = tt;
    }

pub report_past : (bytes : List ℕ) (due : Due) → check_limit < length bytes → due.status ≡ TooLarge 0 → due.text ≡ too_large_text → IsCheckDue bytes due
report_past bytes due past status text =
    whole bytes due (inl (past, status, text)) (subst (Says bytes due.text) (sym status) (says_past bytes due.text past text))

module _ (bytes : List ℕ) (judged : AreJudged bytes) where
  says_serial : (text : List ℕ) (report : Report) → length bytes ≤ check_limit → IsTextOf report bytes → IsVerdict report.history (lines_of report.order) Yes
      → text ≡ verdict_text Yes → Says bytes text Done
  says_serial text report within of verdict is =
      record {
        done = λ _. record { within = within; report = report; of = of; serial = yes-serial report.history (lines_of report.order) verdict; is = is };
        no = λ other. absurd cc;
        bad_report = tt;
        too_large = tt;
        accepted = λ _ _ _ _. inl refl;
        has_verdict = tt;
      }

  never_serial : (report : Report) (rule number : ℕ) → IsVerdict report.history (lines_of report.order) (No rule number) → IsSerial report.history (lines_of report.order) → ⊥
  never_serial report rule number verdict serial = let yes = serial-yes report.history (lines_of report.order) (No rule number) serial verdict in cc

  says_broken : (text : List ℕ) (report : Report) (rule number : ℕ) → length bytes ≤ check_limit → IsTextOf report bytes → IsVerdict report.history (lines_of report.order) (No rule number)
      → text ≡ verdict_text (No rule number) → Says bytes text CheckedNo
  says_broken text report rule number within of verdict is =
      record {
        done = λ other. absurd cc;
        no = λ _. record {
          within = within;
          report = report;
          of = of;
          rule = rule;
          number = number;
          verdict = verdict;
          broken = never_serial report rule number verdict;
          is = is;
        };
        bad_report = tt;
        too_large = tt;
        accepted = λ other _ also serial.
            absurd (never_serial report rule number verdict
            (subst (λ (some : Report). IsSerial some.history (lines_of some.order)) (judged.one_report other report also of) serial));
        has_verdict = tt;
      }

  says_verdict : (text : List ℕ) (report : Report) (verdict : Verdict) → length bytes ≤ check_limit → IsTextOf report bytes → IsVerdict report.history (lines_of report.order) verdict
      → text ≡ verdict_text verdict → Says bytes text (verdict_status verdict)
  says_verdict text report Yes within of verdict is = says_serial text report within of verdict is
  says_verdict text report (No rule number) within of verdict is = says_broken text report rule number within of verdict is

  says_misfit : (text : List ℕ) (line : ℕ) → length bytes ≤ check_limit → IsFirstMisfit bytes line → text ≡ bad_report_text line → Says bytes text (BadReport line)
  says_misfit text line within misfit is =
      record {
        done = λ other. absurd cc;
        no = λ other. absurd cc;
        bad_report = record { within = within; misfit = misfit; is = is };
        too_large = tt;
        accepted = λ report _ of _. absurd (misfit.none (report, of));
        has_verdict = tt;
      }

  says : (status : Status) (text : List ℕ) → IsChecked bytes status text → Says bytes text status
  says status text (inl past) = subst (Says bytes text) (sym past.1) (says_past bytes text past.0 past.2)
  says status text (inr (within, inl (report, of, verdict, is, told, written))) =
      subst (Says bytes text) (sym told) (says_verdict text report verdict within of is written)
  says status text (inr (within, inr (line, misfit, told, written))) = subst (Says bytes text) (sym told) (says_misfit text line within misfit written)

  all_said : (some : Due) → IsChecked bytes some.status some.text → IsCheckDue bytes some
  all_said some checked = whole bytes some checked (says some.status some.text checked)

-- ---- and so for what a call answers
pub reports_past : {E : Type 0} (bytes : List ℕ) (result : Result Due E) → check_limit < length bytes
    → IfOk result (λ due. (due.status ≡ TooLarge 0) × (due.text ≡ too_large_text)) → IfOk result (IsCheckDue bytes)
reports_past bytes (Ok some) past is = report_past bytes some past is.0 is.1
reports_past bytes (Err error) past is = tt

pub reports_judged : {E : Type 0} (bytes : List ℕ) (result : Result Due E) → ((some : List ℕ) → AreJudged some) → length bytes ≤ check_limit
    → IfOk result (IsJudged bytes) → IfOk result (IsCheckDue bytes)
reports_judged bytes (Ok some) judged within is = all_said bytes (judged bytes) some (inr (within, is))
reports_judged bytes (Err error) judged within is = tt

pub verdicts_judged : {E : Type 0} (bytes : List ℕ) (report : Report) (result : Result Due E) → IsTextOf report bytes → IfOk result (IsVerdictDue report) → IfOk result (IsJudged bytes)
verdicts_judged bytes report (Ok some) of is = inl (report, of, is.verdict, is.judged, is.status, is.text)
verdicts_judged bytes report (Err error) of is = tt

is_due : (report : Report) (history : List HistoryEvent) (order : List OrderLine) (verdict : Verdict) (due : Due) → IsVerdict history (lines_of order) verdict
    → history ≡ report.history → order ≡ report.order → due.status ≡ verdict_status verdict → due.text ≡ verdict_text verdict → IsVerdictDue report due
is_due report history order verdict due is same_history same_order status text =
    record {
      verdict = verdict;
      judged = subst (λ (events : List HistoryEvent). IsVerdict events (lines_of report.order) verdict) same_history
          (subst (λ (lines : List OrderLine). IsVerdict history (lines_of lines) verdict) same_order is);
      status = status;
      text = text;
    }

pub verdicts_due : {E : Type 0} (report : Report) (history : List HistoryEvent) (order : List OrderLine) (verdict : Verdict) (result : Result Due E) → IsVerdict history (lines_of order) verdict
    → history ≡ report.history → order ≡ report.order → IfOk result (λ due. (due.status ≡ verdict_status verdict) × (due.text ≡ verdict_text verdict)) → IfOk result (IsVerdictDue report)
verdicts_due report history order verdict (Ok due) is same_history same_order told = is_due report history order verdict due is same_history same_order told.0 told.1
verdicts_due report history order verdict (Err error) is same_history same_order told = tt

pub misfits_judged : {E : Type 0} (bytes : List ℕ) (line : ℕ) (result : Result Due E) → IsFirstMisfit bytes line
    → IfOk result (λ due. (due.status ≡ BadReport line) × (due.text ≡ bad_report_text line)) → IfOk result (IsJudged bytes)
misfits_judged bytes line (Ok some) misfit is = inr (line, misfit, is.0, is.1)
misfits_judged bytes line (Err error) misfit is = tt

-- THE STATUS THAT IS DUE

-- a serial history has the verdict Yes
serial_verdict : (history : List HistoryEvent) (lines : List Line) → IsSerial history lines → IsVerdict history lines Yes
serial_verdict history lines serial =
    inr (
      serial.order_lines,
      inr (
        each-alone _ [] history serial.have_lines,
        inr (
          serial.guards,
          inr (each-alone _ [] history serial.equal, inr (serial.follows, inr (each-alone _ [] history serial.told, refl))),
        ),
      ),
    )

pub serial_passes : (bytes : List ℕ) (report : Report) → length bytes ≤ check_limit → IsTextOf report bytes → IsSerial report.history (lines_of report.order) → IsChecked bytes Done yes_text
serial_passes bytes report within of serial = inr (within, inl (report, of, Yes, serial_verdict report.history (lines_of report.order) serial, refl, refl))

-- no bytes are due two
same_verdict : (some other : Verdict) (status also : Status) (text written : List ℕ) → some ≡ other → status ≡ verdict_status some → text ≡ verdict_text some
    → also ≡ verdict_status other → written ≡ verdict_text other → (status ≡ also) × (text ≡ written)
same_verdict some other status also text written same told is tells has =
    (told ∙ ap verdict_status same ∙ sym tells, is ∙ ap verdict_text same ∙ sym has)

same_line : (some other : ℕ) (status also : Status) (text written : List ℕ) → some ≡ other → status ≡ BadReport some → text ≡ bad_report_text some
    → also ≡ BadReport other → written ≡ bad_report_text other → (status ≡ also) × (text ≡ written)
same_line some other status also text written same told is tells has = (told ∙ ap BadReport same ∙ sym tells, is ∙ ap bad_report_text same ∙ sym has)

one_judged : (bytes : List ℕ) → AreJudged bytes → (status also : Status) (text written : List ℕ) → IsJudgedSo bytes status text → IsJudgedSo bytes also written
    → (status ≡ also) × (text ≡ written)
one_judged bytes judged status also text written (inl (report, of, verdict, is, told, has)) (inl (other, other_of, other_verdict, other_is, other_told, other_has)) =
    let same = judged.one_report other report other_of of in
    let here = subst (λ (some : Report). IsVerdict some.history (lines_of some.order) other_verdict) same other_is in
    same_verdict verdict other_verdict status also text written (one_verdict report.history (lines_of report.order) verdict other_verdict is here) told has other_told other_has
one_judged bytes judged status also text written (inl (report, of, verdict, is, told, has)) (inr (line, misfit, also_told, also_has)) = absurd (misfit.none (report, of))
one_judged bytes judged status also text written (inr (line, misfit, also_told, also_has)) (inl (report, of, verdict, is, told, has)) = absurd (misfit.none (report, of))
one_judged bytes judged status also text written (inr (line, misfit, told, has)) (inr (other, other_misfit, other_told, other_has)) =
    same_line line other status also text written (judged.one_misfit line other misfit other_misfit) told has other_told other_has

pub one_status : ((some : List ℕ) → AreJudged some) → (bytes : List ℕ) (status also : Status) (text written : List ℕ) → IsChecked bytes status text → IsChecked bytes also written
    → (status ≡ also) × (text ≡ written)
one_status judged bytes status also text written (inl past) (inl more) = (past.1 ∙ sym more.1, past.2 ∙ sym more.2)
one_status judged bytes status also text written (inl past) (inr few) = (let large = past.0 in let small = few.0 in absurd (omega (arith, large, small)))
one_status judged bytes status also text written (inr few) (inl past) = (let large = past.0 in let small = few.0 in absurd (omega (arith, large, small)))
one_status judged bytes status also text written (inr few) (inr more) = one_judged bytes (judged bytes) status also text written few.1 more.1
