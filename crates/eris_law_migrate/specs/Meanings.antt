-- WHAT MIGRATING KEEPS: the migrated text is a script of version 2, of the config and the events of the script, line by line.
use Rattle.std.specs.Prelude.{◌≡◌, ⊤, ℕ, ◌≤◌, Ok, List, [], ◌∷◌, length}
use Rattle.eris_base.specs.ConfigLimits.{ConfigValue}
use Rattle.eris_grammar.specs.declared.line.Line.TheVariants.{Skip}
use Rattle.eris_grammar.specs.Headers.{header_of}
use Rattle.eris_grammar.specs.LineForms.{line_of}
use Rattle.eris_grammar.specs.Scripts.{Script, script}
use Rattle.eris_words.specs.Cuts.{lines}

-- LINES ARE READ ALIKE, one by one, those of a script of version 1 and those of its migrated text: so each keeps its number. A last line
-- that says nothing may be left out.
abbrev pub AreReadAlike : List (List ℕ) → List (List ℕ) → Type 0
AreReadAlike [] [] = ⊤
AreReadAlike [] (other ∷ others) = ⊥
AreReadAlike (text ∷ []) [] = line_of 1 text ≡ Ok Skip
AreReadAlike (text ∷ next ∷ texts) [] = ⊥
AreReadAlike (text ∷ texts) (other ∷ others) = (line_of 2 other ≡ line_of 1 text) × AreReadAlike texts others

-- the header of the one is of version 1 and that of the other of version 2, with the same config, and the lines behind them are read alike
pub record AreLinesAlike (bytes text : List ℕ) : Type 0 where
  pub config : ConfigValue
  pub first : List ℕ
  pub texts : List (List ℕ)
  pub cut : lines bytes ≡ first ∷ texts
  pub header : header_of first ≡ Ok (record { version = 1; config = config })
  pub new : List ℕ
  pub others : List (List ℕ)
  pub cut_new : lines text ≡ new ∷ others
  pub header_new : header_of new ≡ Ok (record { version = 2; config = config })
  pub alike : AreReadAlike texts others

-- both are scripts, of the same config and the same events; and the migrated one is no longer
pub record MeansTheSame (bytes text : List ℕ) : Type 0 where
  pub lines_alike : AreLinesAlike bytes text
  pub whole : Script
  pub is_script : script bytes ≡ Ok whole
  pub also : script text ≡ Ok whole
  pub no_longer : length text ≤ length bytes
