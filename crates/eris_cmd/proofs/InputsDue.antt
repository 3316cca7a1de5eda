-- What came of a source, and what is due for it. Used where the input of a command is read.
use Rattle.std.proofs.Common.{◌≡◌, ℕ, ◌<◌, ◌≤◌, IfSome, Option, Some, None, List, length, ap, sym, ◌∙◌, subst, refl, arith, true, nat_lt, cond, Bool}
use Rattle.eris_stream.specs.Transfers.{ReadsPast, ReadsToEnd}
use Rattle.eris_status.specs.declared.due.Due.{Due}
use Rattle.eris_status.specs.declared.status.Status.TheVariants.{TooLarge}
use Rattle.eris_status.specs.Texts.{too_large_text}
use Rattle.eris_check_run.specs.Checks.{IsAcceptedReport}
use Rattle.eris_migrate_run.specs.Migrates.{IsMigratable}
use Rattle.eris_run.specs.Calls.{IsAccepted}
use Rattle.eris_cmd.specs.declared.command.Command.{Command}
use Rattle.eris_cmd.specs.declared.command.Command.TheVariants.{Run, Check, Migrate}
use Rattle.eris_cmd.specs.Answers.{IsAnswer, IsDueOf}
use Rattle.eris_cmd.specs.Named.{input_limit_of}
use Rattle.eris_cmd.specs.Streams.{Comes, IsDueFor}
use Rattle.eris_cmd.proofs.CommandAnswers.{due_of_answer, past_answer}

same_limit : (command : Command) (one other : ℕ) → input_limit_of command ≡ Some one → input_limit_of command ≡ Some other → one ≡ other
same_limit command one other is also = cc

module _ {left left' : Option (List ℕ)} where
  came_whole : (limit : ℕ) (bytes : List ℕ) → ReadsToEnd left left' limit bytes → Comes limit left left' bytes
  came_whole limit bytes whole = record { came = whole.came; few = (let within = whole.within in omega (arith, within)); ended = λ _. whole.ended }

  came_past : (limit : ℕ) (past : ReadsPast left left' limit) → Comes limit left left' past.bytes
  came_past limit past =
      record {
        came = past.came;
        few = (let many = past.past in omega (arith, many));
        ended = λ within. (let many = past.past in absurd (omega (arith, within, many)));
      }

  at_limit : (command : Command) (limit : ℕ) (bytes : List ℕ) → input_limit_of command ≡ Some limit → Comes limit left left' bytes
      → (other : ℕ) → input_limit_of command ≡ Some other → Comes other left left' bytes
  at_limit command limit bytes is comes other also = subst (λ (most : ℕ). Comes most left left' bytes) (same_limit command limit other is also) comes

  -- ---- the whole input came
  pub due_for_whole : (command : Command) (limit : ℕ) (bytes : List ℕ) (due : Due) → input_limit_of command ≡ Some limit → ReadsToEnd left left' limit bytes → IsAnswer command bytes due
      → IsDueFor command left left' due
  due_for_whole command limit bytes due is whole answer =
      record { bytes = bytes; came = at_limit command limit bytes is (came_whole limit bytes whole); answer = answer }

  -- ---- more came than may
  pub due_for_past : (command : Command) (limit : ℕ) (due : Due) → input_limit_of command ≡ Some limit → ReadsPast left left' limit → (due.status ≡ TooLarge 0) × (due.text ≡ too_large_text)
      → IsDueFor command left left' due
  due_for_past command limit due is past told =
      let many = past.past in
      record {
        bytes = past.bytes;
        came = at_limit command limit past.bytes is (came_past limit past);
        answer = past_answer command limit past.bytes due is (omega (arith, many)) told.0 told.1;
      }

  pub due_for_nothing : (command : Command) (bytes : List ℕ) (due : Due) → input_limit_of command ≡ None → IsAnswer command bytes due → IsDueFor command left left' due
  due_for_nothing command bytes due is answer = record { bytes = bytes; came = λ limit some. absurd cc; answer = answer }

-- ---- what is due for all that a source has, by the command
pub on_some : {P Q : List ℕ → Type 0} (left : Option (List ℕ)) → ((bytes : List ℕ) → P bytes → Q bytes) → IfSome left P → IfSome left Q
on_some None gives says = tt
on_some (Some bytes) gives says = gives bytes says

-- of the whole input
pub due_for_all : (command : Command) (left : Option (List ℕ)) (limit : ℕ) (bytes : List ℕ) (due : Due) → IfSome left (λ all. (bytes ≡ all) × (length all ≤ limit))
    → IsAnswer command bytes due → IfSome left (λ all. IsDueOf command all due)
due_for_all command left limit bytes due is answer =
    on_some left (λ all same. subst (λ (some : List ℕ). IsDueOf command some due) same.0 (due_of_answer command bytes due answer)) is

-- of more than the command reads
pub past_for_all : (command : Command) (left : Option (List ℕ)) (limit : ℕ) (due : Due) → input_limit_of command ≡ Some limit → IfSome left (λ all. limit < length all)
    → (due.status ≡ TooLarge 0) × (due.text ≡ too_large_text) → IfSome left (λ all. IsDueOf command all due)
past_for_all command left limit due is past told =
    on_some left (λ all many. due_of_answer command all due (past_answer command limit all due is many told.0 told.1)) past

module _ (left : Option (List ℕ)) (due : Due) (command : Command) where
  pub run_due : command ≡ Run → IfSome left (λ bytes. IsDueOf command bytes due) → IfSome left (λ bytes. IsDueOf Run bytes due)
  run_due run is = on_some left (λ bytes says. subst (λ (some : Command). IsDueOf some bytes due) run says) is

  pub check_due : command ≡ Check → IfSome left (λ bytes. IsDueOf command bytes due) → IfSome left (λ bytes. IsDueOf Check bytes due)
  check_due check is = on_some left (λ bytes says. subst (λ (some : Command). IsDueOf some bytes due) check says) is

  pub migrate_due : command ≡ Migrate → IfSome left (λ bytes. IsDueOf command bytes due) → IfSome left (λ bytes. IsDueOf Migrate bytes due)
  migrate_due migrate is = on_some left (λ bytes says. subst (λ (some : Command). IsDueOf some bytes due) migrate says) is

  -- so what is accepted is answered
  pub run_accepted : command ≡ Run → IfSome left (λ bytes. IsDueOf command bytes due) → IfSome left (λ bytes. IsAccepted bytes due.status)
  run_accepted run is = on_some {P = λ bytes. IsDueOf Run bytes due} left (λ bytes says. says.2) (run_due run is)

  pub check_accepted : command ≡ Check → IfSome left (λ bytes. IsDueOf command bytes due) → IfSome left (λ bytes. IsAcceptedReport bytes due.status)
  check_accepted check is = on_some {P = λ bytes. IsDueOf Check bytes due} left (λ bytes says. says.1) (check_due check is)

  pub migrate_accepted : command ≡ Migrate → IfSome left (λ bytes. IsDueOf command bytes due) → IfSome left (λ bytes. IsMigratable bytes due.status)
  migrate_accepted migrate is = on_some {P = λ bytes. IsDueOf Migrate bytes due} left (λ bytes says. says.2) (migrate_due migrate is)
