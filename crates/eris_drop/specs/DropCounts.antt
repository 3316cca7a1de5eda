use Rattle.std.specs.Prelude.{List}
use Rattle.eris_base.specs.declared.config.Config.{Config}
use Rattle.eris_drop.specs.declared.drop_note.DropNote.{DropNote}

-- the notes that came, each once, in the order in which they came
pub record DropCountValue : Type 0 where
  pub config : Config
  pub notes : List DropNote
