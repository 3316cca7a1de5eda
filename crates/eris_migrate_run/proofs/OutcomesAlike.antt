-- Lines that are read alike, of the one version and of the other, take a system to the same end. Used where what comes of a migrated
-- script is told.
use Rattle.std.proofs.Common.{◌≡◌, ℕ, ◌+◌, Result, Ok, Err, List, [], ◌∷◌, ap, sym, ◌∙◌, refl}
use Rattle.eris_base.specs.ConfigLimits.{ConfigValue}
use Rattle.eris_grammar.specs.declared.header.Header.{Header}
use Rattle.eris_grammar.specs.declared.line.Line.TheVariants.{Skip}
use Rattle.eris_grammar.specs.LineForms.{line_of}
use Rattle.eris_law_migrate.specs.Meanings.{AreLinesAlike, AreReadAlike}
use Rattle.eris_rules.specs.Worlds.{WorldState, first_world}
use Rattle.eris_run.specs.ScriptRuns.{after_events, after_header, after_line, after_lines, after_read, after_said, after_text, outcome, ran_in}
use Rattle.eris_status.specs.declared.refused.Stop.{Stop}
use Rattle.eris_words.specs.declared.reason.Reason.{Reason}

-- ---- one line
line_alike : (config : ConfigValue) (number : ℕ) (world : WorldState) (text other : List ℕ) → line_of 2 other ≡ line_of 1 text
    → after_line 2 config number world other ≡ after_line 1 config number world text
unfolding after_line
line_alike config number world text other same = ap (after_read config number world) same

line_skipped : (config : ConfigValue) (number : ℕ) (world : WorldState) (text : List ℕ) → line_of 1 text ≡ Ok Skip → after_line 1 config number world text ≡ Ok world
unfolding after_line after_said after_events
line_skipped config number world text skips = ap (after_read config number world) skips

-- ---- the lines behind it
abbrev go_on : ℕ → ConfigValue → ℕ → List (List ℕ) → Result WorldState Stop → Result WorldState Stop
go_on version config number texts (Ok next) = after_lines version config (number + 1) next texts
go_on version config number texts (Err stop) = Err stop

goes_on : (version : ℕ) (config : ConfigValue) (number : ℕ) (world : WorldState) (text : List ℕ) (texts : List (List ℕ))
    → after_lines version config number world (text ∷ texts) ≡ go_on version config number texts (after_line version config number world text)
unfolding after_lines
goes_on version config number world text texts = of_line (after_line version config number world text)
  where
    of_line : (here : Result WorldState Stop)
        → (elim here as (λ _. Result WorldState Stop) [ Ok next ↦ after_lines version config (number + 1) next texts | Err stop ↦ Err stop ]) ≡ go_on version config number texts here
    of_line (Ok next) = refl
    of_line (Err stop) = refl

behind : (config : ConfigValue) (number : ℕ) (texts others : List (List ℕ)) (here : Result WorldState Stop)
    → ((next : WorldState) → after_lines 2 config (number + 1) next others ≡ after_lines 1 config (number + 1) next texts)
    → go_on 2 config number others here ≡ go_on 1 config number texts here
behind config number texts others (Ok next) later = later next
behind config number texts others (Err stop) later = refl

cons_alike : (config : ConfigValue) (number : ℕ) (world : WorldState) (text other : List ℕ) (texts others : List (List ℕ)) → line_of 2 other ≡ line_of 1 text
    → ((next : WorldState) → after_lines 2 config (number + 1) next others ≡ after_lines 1 config (number + 1) next texts)
    → after_lines 2 config number world (other ∷ others) ≡ after_lines 1 config number world (text ∷ texts)
cons_alike config number world text other texts others same later =
    goes_on 2 config number world other others
    ∙ ap (go_on 2 config number others) (line_alike config number world text other same)
    ∙ behind config number texts others (after_line 1 config number world text) later
    ∙ sym (goes_on 1 config number world text texts)

none_behind : (version : ℕ) (config : ConfigValue) (number : ℕ) (world : WorldState) → after_lines version config number world [] ≡ Ok world
unfolding after_lines
none_behind version config number world = refl

lines_alike : (config : ConfigValue) (number : ℕ) (world : WorldState) (texts others : List (List ℕ)) → AreReadAlike texts others
    → after_lines 2 config number world others ≡ after_lines 1 config number world texts
lines_alike config number world [] [] alike = none_behind 2 config number world ∙ sym (none_behind 1 config number world)
lines_alike config number world [] (other ∷ others) alike = absurd alike
lines_alike config number world (text ∷ []) [] alike =
    none_behind 2 config number world
    ∙ sym (goes_on 1 config number world text [] ∙ ap (go_on 1 config number []) (line_skipped config number world text alike) ∙ none_behind 1 config (number + 1) world)
lines_alike config number world (text ∷ next ∷ texts) [] alike = absurd alike
lines_alike config number world (text ∷ []) (other ∷ others) alike =
    cons_alike config number world text other [] others alike.0 (λ after. lines_alike config (number + 1) after [] others alike.1)
lines_alike config number world (text ∷ next ∷ texts) (other ∷ others) alike =
    cons_alike config number world text other (next ∷ texts) others alike.0 (λ after. lines_alike config (number + 1) after (next ∷ texts) others alike.1)

-- ---- WHAT COMES OF THE BYTES of either is the same
pub outcomes_alike : (bytes text : List ℕ) → AreLinesAlike bytes text → outcome text ≡ outcome bytes
unfolding outcome
outcomes_alike bytes text alike =
    ap after_text alike.cut_new
    ∙ ap (λ (read : Result Header Reason). after_header read alike.others) alike.header_new
    ∙ ap (ran_in alike.config) (lines_alike alike.config 2 (first_world alike.config) alike.texts alike.others alike.alike)
    ∙ sym (ap after_text alike.cut ∙ ap (λ (read : Result Header Reason). after_header read alike.texts) alike.header)
