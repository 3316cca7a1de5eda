-- The lines and the bytes of a script that nothing disturbs.
use Rattle.std.specs.Prelude.{◌≡◌, ◌≤◌, ℕ, Bool, true, false, ◌+◌, List, [], ◌∷◌, ◌++◌, replicate, ⊤, Ok}
use Rattle.std.specs.List.{flat_map, list_all}
use Rattle.eris_base.specs.declared.ids.ShardId.{ShardId}
use Rattle.eris_base.specs.ConfigLimits.{ConfigValue}
use Rattle.eris_grammar.specs.declared.line.Line.{Line}
use Rattle.eris_words.specs.Cuts.{lines}
use Rattle.eris_grammar.specs.Headers.{header_of}
use Rattle.eris_grammar.specs.LineForms.{line_of}
use Rattle.eris_grammar.specs.Scripts.{events_of}
use Rattle.eris_law_calm_step.specs.CalmEvents.{is_calm}
use Rattle.eris_law_undisturbed.specs.Undisturbed.{crashes, packets_for_all}

-- THE LINES of an undisturbed script, behind its header: what says its events, then the deliveries, and then lines
-- that say nothing
abbrev pub is_calm_line : Line → Bool
is_calm_line Line.Skip = true
is_calm_line (Line.One event) = is_calm event
is_calm_line (Line.Flow times) = true
is_calm_line (Line.Lose times) = false

pub record AreUndisturbed (config : ConfigValue) (lines : List Line) : Type 0 where
  pub front : List Line
  pub flows : ℕ
  pub skipped : ℕ
  pub are : lines ≡ front ++ Line.Flow flows ∷ replicate skipped Line.Skip
  pub calm : list_all is_calm_line front ≡ true
  pub few : (shard : ShardId) → crashes shard (flat_map events_of front) ≤ config.f
  pub enough : packets_for_all config (flat_map events_of front) ≤ flows

-- texts that say these lines
abbrev pub Say : ℕ → List (List ℕ) → List Line → Type 0
Say version [] [] = ⊤
Say version [] (said ∷ lines) = ⊥
Say version (text ∷ texts) [] = ⊥
Say version (text ∷ texts) (said ∷ lines) = (line_of version text ≡ Ok said) × Say version texts lines

-- THE BYTES OF A SCRIPT: a header of this config, and texts that say these lines
pub record IsText (bytes : List ℕ) (config : ConfigValue) (said : List Line) : Type 0 where
  pub first : List ℕ
  pub texts : List (List ℕ)
  pub version : ℕ
  pub cut : lines bytes ≡ first ∷ texts
  pub headed : header_of first ≡ Ok (record { version = version; config = config })
  pub says : Say version texts said

-- AN UNDISTURBED SCRIPT, by its bytes
pub record IsUndisturbedScript (bytes : List ℕ) : Type 0 where
  pub config : ConfigValue
  pub said : List Line
  pub text : IsText bytes config said
  pub undisturbed : AreUndisturbed config said

-- and a script whose first lines are such
pub record BeginsUndisturbed (bytes : List ℕ) : Type 0 where
  pub config : ConfigValue
  pub said : List Line
  pub more : List Line
  pub text : IsText bytes config (said ++ more)
  pub undisturbed : AreUndisturbed config said
