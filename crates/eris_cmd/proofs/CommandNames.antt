-- The words of the command line, told apart by the command that they name.
use Rattle.std.proofs.Common.{◌≡◌, ◌⊎◌, inl, inr, ℕ, ap, Some, None, Option, List, [], ◌∷◌, codes, refl}
use Rattle.eris_cmd.specs.declared.command.Command.{Command}
use Rattle.eris_cmd.specs.declared.command.Command.TheVariants.{Run, Check, Migrate, Drill}
use Rattle.eris_cmd.specs.Commands.{IsCheck, IsDrill, IsKnown, IsMigrate, IsReader, IsRun}
use Rattle.eris_cmd.specs.Named.{Names, input_limit_of}
use Rattle.eris_cmd.proofs.Drills.{same_number}

-- ---- no words are two commands'
no_run_check : {words : List (List ℕ)} → IsRun words → IsCheck words → ⊥
no_run_check run check = cc

no_run_migrate : {words : List (List ℕ)} → IsRun words → IsMigrate words → ⊥
no_run_migrate run migrate = cc

no_check_migrate : {words : List (List ℕ)} → IsCheck words → IsMigrate words → ⊥
no_check_migrate check migrate = cc

no_drill : {words : List (List ℕ)} {number : ℕ} (word : List ℕ) → words ≡ word ∷ [] → IsDrill words number → ⊥
no_drill word alone drill = let are = drill.are in cc

-- ---- the command is the one that the words name
pub is_run : {words : List (List ℕ)} (command : Command) → Names words command → IsRun words → command ≡ Run
is_run Run named run = refl
is_run Check named run = absurd (no_run_check run named)
is_run Migrate named run = absurd (no_run_migrate run named)
is_run (Drill number) named run = absurd (no_drill _ run named)

pub is_check : {words : List (List ℕ)} (command : Command) → Names words command → IsCheck words → command ≡ Check
is_check Run named check = absurd (no_run_check named check)
is_check Check named check = refl
is_check Migrate named check = absurd (no_check_migrate check named)
is_check (Drill number) named check = absurd (no_drill _ check named)

pub is_migrate : {words : List (List ℕ)} (command : Command) → Names words command → IsMigrate words → command ≡ Migrate
is_migrate Run named migrate = absurd (no_run_migrate named migrate)
is_migrate Check named migrate = absurd (no_check_migrate named migrate)
is_migrate Migrate named migrate = refl
is_migrate (Drill number) named migrate = absurd (no_drill _ migrate named)

pub is_drill : {words : List (List ℕ)} (command : Command) → Names words command → (number : ℕ) → IsDrill words number → command ≡ Drill number
is_drill Run named number drill = absurd (no_drill _ named drill)
is_drill Check named number drill = absurd (no_drill _ named drill)
is_drill Migrate named number drill = absurd (no_drill _ named drill)
is_drill (Drill other) named number drill = ap Drill (same_number _ other number named drill)

-- ---- and the words are those that name it
pub names_run : {words : List (List ℕ)} (command : Command) → Names words command → command ≡ Run → IsRun words
names_run Run named same = named
names_run Check named same = absurd cc
names_run Migrate named same = absurd cc
names_run (Drill number) named same = absurd cc

pub names_check : {words : List (List ℕ)} (command : Command) → Names words command → command ≡ Check → IsCheck words
names_check Run named same = absurd cc
names_check Check named same = named
names_check Migrate named same = absurd cc
names_check (Drill number) named same = absurd cc

pub names_migrate : {words : List (List ℕ)} (command : Command) → Names words command → command ≡ Migrate → IsMigrate words
names_migrate Run named same = absurd cc
names_migrate Check named same = absurd cc
names_migrate Migrate named same = named
names_migrate (Drill number) named same = absurd cc

pub names_reader : {words : List (List ℕ)} (command : Command) → Names words command → (limit : ℕ) → input_limit_of command ≡ Some limit → IsReader words
names_reader Run named limit is = inl named
names_reader Check named limit is = inr (inl named)
names_reader Migrate named limit is = inr (inr named)
names_reader (Drill number) named limit is = absurd cc

pub drills_read_nothing : {words : List (List ℕ)} (command : Command) → Names words command → (number : ℕ) → IsDrill words number → input_limit_of command ≡ None
drills_read_nothing command named number drill = ap input_limit_of (is_drill command named number drill)

pub known : {words : List (List ℕ)} (command : Command) → Names words command → IsKnown words
known Run named = inl (inl named)
known Check named = inl (inr (inl named))
known Migrate named = inl (inr (inr named))
known (Drill number) named = inr (number, named)

-- words that are none of them
pub unknown : {words : List (List ℕ)} → (IsReader words → ⊥) → ((number : ℕ) → IsDrill words number → ⊥) → IsKnown words → ⊥
unknown reader drill (inl is) = reader is
unknown reader drill (inr named) = drill named.0 named.1
