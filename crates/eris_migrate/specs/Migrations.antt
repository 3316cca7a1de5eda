-- What migrating bytes gives.
use Rattle.std.specs.Prelude.{◌≡◌, ⊤, ℕ, Option, Some, List}
use Rattle.eris_grammar.specs.Scripts.{BadLine}
use Rattle.eris_migrate.specs.declared.fault.MigrateFault.{MigrateFault}
use Rattle.eris_migrate.specs.declared.fault.MigrateFault.TheVariants as fault
use Rattle.eris_migrate.specs.Migrated.{migrated}
use Rattle.eris_migrate.specs.Unread.{IsVersion1}

-- the bytes are a script of version 1, and this is its migrated text
pub record Migrates (bytes text : List ℕ) : Type 0 where
  pub old : IsVersion1 bytes
  pub is : text ≡ migrated bytes

-- a refusal names the first line that isn't read, and why
abbrev pub Refuses : Option BadLine → MigrateFault → Type 0
Refuses found (fault.Bad number why) = found ≡ Some (record { line = number; reason = why })
Refuses found fault.NoMemory = ⊤
