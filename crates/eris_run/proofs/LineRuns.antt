-- How far a run of lines has come. Used where the lines of a script are run, and where its header is read.
use Rattle.std.proofs.Common.{◌≡◌, ℕ, ◌+◌, ◌<◌, ◌≤◌, Result, Ok, Err, IfOk, IfErr, List, [], ◌∷◌, length, ap, sym, ◌∙◌, refl, arith, subst}
use Rattle.eris_base.specs.ConfigLimits.{ConfigValue}
use Rattle.eris_grammar.specs.declared.header.Header.{Header}
use Rattle.eris_words.specs.declared.reason.Reason.{Reason}
use Rattle.eris_words.specs.declared.reason.Reason.TheVariants as reason
use Rattle.eris_words.specs.Cuts.{cut_lines, lines, words}
use Rattle.eris_grammar.specs.Headers.{header_of}
use Rattle.eris_rules.specs.Worlds.{WorldState, first_world}
use Rattle.eris_world.specs.WorldValues.{WorldValue}
use Rattle.eris_status.specs.declared.refused.Stop.{Stop}
use Rattle.eris_status.specs.declared.refused.Stop.TheVariants as stops
use Rattle.eris_status.specs.declared.refused.Why.TheVariants as whys
use Rattle.eris_run.specs.LineRuns.{IsAfterScript, IsFine, IsStopOf, TakesLine, TakesLines, begins, begun}
use Rattle.eris_run.specs.ScriptRuns.{after_header, after_line, after_lines, after_text, outcome, ran_in}

at_taken : (version : ℕ) (config : ConfigValue) (number : ℕ) (w next : WorldState) (text : List ℕ) (texts : List (List ℕ)) → after_line version config number w text ≡ Ok next →
    after_lines version config number w (text ∷ texts) ≡ after_lines version config (number + 1) next texts
unfolding after_lines
at_taken version config number w next text texts ran = rw (ran, after_lines) refl

at_refused : (version : ℕ) (config : ConfigValue) (number : ℕ) (w : WorldState) (text : List ℕ) (texts : List (List ℕ)) (stop : Stop) → after_line version config number w text ≡ Err stop →
    after_lines version config number w (text ∷ texts) ≡ Err stop
unfolding after_lines
at_refused version config number w text texts stop refused = rw (refused, after_lines) refl

at_end : (version : ℕ) (config : ConfigValue) (number : ℕ) (w : WorldState) → after_lines version config number w (lines []) ≡ Ok w
unfolding after_lines cut_lines
at_end version config number w = refl

-- the lines before the rest of a text were taken, and the rest begins with the line of this number
pub record HasRun (version : ℕ) (before now : WorldValue) (text rest : List ℕ) (number : ℕ) : Type 0 where
  pub same : after_lines version before.config 2 before.state (lines text) ≡ after_lines version before.config number now.state (lines rest)
  pub config : now.config ≡ before.config
  pub fine : IsFine now
  pub few : begun now.state + length rest ≤ begun before.state + length text
  pub small : number + length rest ≤ length text + 2

-- nothing was taken yet
pub none_run : (version : ℕ) (before : WorldValue) (text : List ℕ) → IsFine before → HasRun version before before text text 2
none_run version before text fine = record { same = refl; config = refl; fine = fine; few = omega arith; small = omega arith }

-- the first line of the rest was taken
pub one_more_run : {version : ℕ} {before now next : WorldValue} {text rest line : List ℕ} {number : ℕ} (more : List ℕ)
    → HasRun version before now text rest number → lines rest ≡ line ∷ lines more → length more < length rest
    → TakesLine version number now next line → HasRun version before next text more (number + 1)
one_more_run {version} {before} {now} {next} {text} {rest} {line} {number} more run first shorter took = record {
  same =
      run.same ∙ ap (after_lines version before.config number now.state) first
      ∙ at_taken version before.config number now.state next.state line (lines more) (subst (λ (config : ConfigValue). after_line version config number now.state line ≡ Ok next.state) run.config took.ran);
  config = took.same ∙ run.config;
  fine = took.fine;
  few = let few = run.few in let one = took.few in omega arith;
  small = let small = run.small in omega arith;
}

-- every line was taken
pub all_run : {version : ℕ} {before now : WorldValue} {text rest : List ℕ} {number : ℕ} → HasRun version before now text rest number → rest ≡ [] → TakesLines version before now text
all_run {version} {before} {now} {text} {rest} {number} run none = record {
  ran = run.same ∙ ap (λ (left : List ℕ). after_lines version before.config number now.state (lines left)) none ∙ at_end version before.config number now.state;
  same = run.config;
  unspent = run.fine.unspent;
}

-- the first line of the rest is refused
pub bad_stop : {version : ℕ} {before now : WorldValue} {text rest line : List ℕ} {number : ℕ} (stop : Stop) (more : List ℕ)
    → HasRun version before now text rest number → lines rest ≡ line ∷ lines more → IsStopOf (after_line version now.config number now.state line) stop
    → IsStopOf (after_lines version before.config 2 before.state (lines text)) stop
bad_stop {version} {before} {now} {text} {rest} {line} {number} (stops.Refused refused) more run first bad =
    run.same ∙ ap (after_lines version before.config number now.state) first
    ∙ at_refused version before.config number now.state line (lines more) (stops.Refused refused)
    (subst (λ (config : ConfigValue). after_line version config number now.state line ≡ Err (stops.Refused refused)) run.config bad)
bad_stop stops.NoMemory more run first bad = tt

-- this is the first line of a text, and the rest
pub record IsFirst (text line rest : List ℕ) : Type 0 where
  pub some : 0 < length text → lines text ≡ line ∷ lines rest
  pub none : text ≡ [] → line ≡ []

abbrev none_named : Result Header Reason
none_named = Err reason.Header

-- an empty line is no header
no_header : header_of [] ≡ none_named
unfolding header_of words
no_header = refl

-- the script is its header, and the lines behind it
by_header : (text line rest : List ℕ) → IsFirst text line rest → outcome text ≡ after_header (header_of line) (lines rest)
unfolding outcome cut_lines
by_header [] line rest first =
    sym (ap (λ (read : Result Header Reason). after_header read (lines rest)) (ap header_of (first.none refl) ∙ no_header))
by_header (byte ∷ bytes) line rest first = ap after_text (first.some (omega arith))

-- without the header there is no script
pub without_header : {text line rest : List ℕ} {why : Reason} → IsFirst text line rest → header_of line ≡ Err why → outcome text ≡ Err (stops.Refused (record { line = 1; why = whys.Reason why }))
without_header {text} {line} {rest} {why} first is_none = by_header text line rest first ∙ ap (λ (read : Result Header Reason). after_header read (lines rest)) is_none

-- behind the header the script is its lines
pub behind_header : {text line rest : List ℕ} {header : Header} → IsFirst text line rest → header_of line ≡ Ok header
    → outcome text ≡ ran_in header.config (after_lines header.version header.config 2 (first_world header.config) (lines rest))
behind_header {text} {line} {rest} {header} first is_header = by_header text line rest first ∙ ap (λ (read : Result Header Reason). after_header read (lines rest)) is_header

from_start : (version : ℕ) (config : ConfigValue) (world : WorldValue) (rest : List ℕ) → world ≡ begins config
    → after_lines version world.config 2 world.state (lines rest) ≡ after_lines version config 2 (first_world config) (lines rest)
from_start version config world rest fresh = ap (λ (w : WorldValue). after_lines version w.config 2 w.state (lines rest)) fresh

-- what was refused behind the header is refused of the script
refused_behind : (text rest : List ℕ) (header : Header) (stop : Stop)
    → outcome text ≡ ran_in header.config (after_lines header.version header.config 2 (first_world header.config) (lines rest))
    → IsStopOf (after_lines header.version header.config 2 (first_world header.config) (lines rest)) stop → IsStopOf (outcome text) stop
refused_behind text rest header (stops.Refused refused) same found = same ∙ ap (ran_in header.config) found
refused_behind text rest header stops.NoMemory same found = tt

-- the lines behind the header were taken, from the start
pub after_script : {text rest : List ℕ} {header : Header} {before world : WorldValue} → before ≡ begins header.config
    → outcome text ≡ ran_in header.config (after_lines header.version header.config 2 (first_world header.config) (lines rest))
    → TakesLines header.version before world rest → IsAfterScript text world
after_script {text} {rest} {header} {before} {world} fresh same took =
    let config : header.config ≡ world.config = sym (took.same ∙ ap (λ (w : WorldValue). w.config) fresh) in
    record {
      ran =
          same ∙ ap (ran_in header.config) (sym (from_start header.version header.config before rest fresh) ∙ took.ran)
          ∙ ap (λ (c : ConfigValue). Ok (record { config = c; world = world.state })) config;
      unspent = took.unspent;
    }

-- the lines behind the header were taken from the start, or one of them is refused
pub taken_from_start : {version : ℕ} {config : ConfigValue} {rest : List ℕ} {before world : WorldValue} → before ≡ begins config
    → TakesLines version before world rest → TakesLines version (begins config) world rest
taken_from_start {version} {config} {rest} {before} {world} fresh took = subst (λ (w : WorldValue). TakesLines version w world rest) fresh took

pub refused_from_start : (version : ℕ) (rest : List ℕ) {config : ConfigValue} {before : WorldValue} (stop : Stop) → before ≡ begins config
    → IsStopOf (after_lines version before.config 2 before.state (lines rest)) stop → IsStopOf (after_lines version config 2 (first_world config) (lines rest)) stop
refused_from_start version rest {config} {before} (stops.Refused refused) fresh found = sym (from_start version config before rest fresh) ∙ found
refused_from_start version rest {config} {before} stops.NoMemory fresh found = tt

-- so is the script
pub script_taken_so : (text rest : List ℕ) (header : Header) (result : Result WorldValue Stop)
    → outcome text ≡ ran_in header.config (after_lines header.version header.config 2 (first_world header.config) (lines rest))
    → IfOk result (λ (world : WorldValue). TakesLines header.version (begins header.config) world rest) → IfOk result (IsAfterScript text)
script_taken_so text rest header (Ok world) same took = after_script refl same took
script_taken_so text rest header (Err stop) same took = tt

pub script_refused_so : (text rest : List ℕ) (header : Header) (result : Result WorldValue Stop)
    → outcome text ≡ ran_in header.config (after_lines header.version header.config 2 (first_world header.config) (lines rest))
    → IfErr result (IsStopOf (after_lines header.version header.config 2 (first_world header.config) (lines rest))) → IfErr result (IsStopOf (outcome text))
script_refused_so text rest header (Ok world) same found = tt
script_refused_so text rest header (Err stop) same found = refused_behind text rest header stop same found
