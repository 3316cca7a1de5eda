-- FROM THE LINES OF A SCRIPT TO ITS EVENTS: the lines of an undisturbed script say an undisturbed list of events, and
-- what a script submits can be run.
use Rattle.std.proofs.Common.{◌≡◌, ◌+◌, ℕ, zero, suc, true, Some, Result, Ok, Err, List, [], ◌∷◌, ◌++◌, replicate, refl, ap, sym, ◌∙◌, subst, append-nil}
use Rattle.std.proofs.lemmas.Bool.{and_from, and_parts}
use Rattle.std.proofs.lemmas.Grind.{flat_map-append}
use Rattle.std.specs.List.{flat_map, list_all}
use Rattle.eris_base.specs.ConfigLimits.{ConfigValue}
use Rattle.eris_base.proofs.Each.{Each-left}
use Rattle.eris_event.specs.declared.event.Event.{Event}
use Rattle.eris_grammar.specs.declared.header.Header.{Header}
use Rattle.eris_grammar.specs.declared.line.Line.{Line}
use Rattle.eris_words.specs.declared.reason.Reason.{Reason}
use Rattle.eris_grammar.specs.Headers.{header_of}
use Rattle.eris_grammar.specs.LineForms.{line_of}
use Rattle.eris_grammar.specs.Scripts.{BadLine, Script, events_from, events_of, script, script_in, with_config, with_events}
use Rattle.eris_rules.specs.Runs.{run}
use Rattle.eris_rules.specs.Worlds.{WorldState}
use Rattle.eris_law_course.specs.Accepted.{AreEventsFit, IsEventFit}
use Rattle.eris_law_script.proofs.Fit.{script_fits}
use Rattle.eris_law_calm_step.specs.CalmEvents.{is_calm}
use Rattle.eris_law_undisturbed.specs.Undisturbed.{AreAnswered, IsUndisturbed}
use Rattle.eris_law_script.specs.UndisturbedScripts.{AreUndisturbed, BeginsUndisturbed, IsText, IsUndisturbedScript, Say, is_calm_line}
use Rattle.eris_law_undisturbed.proofs.Answered.{first_answers, undisturbed_answers}

-- ---- events of lines
abbrev said_events : List Line → List Event
said_events said = flat_map events_of said

none_said : (count : ℕ) → said_events (replicate count Line.Skip) ≡ []
none_said zero = refl
none_said (suc count) = none_said count

all-append : (some more : List Event) → list_all is_calm some ≡ true → list_all is_calm more ≡ true → list_all is_calm (some ++ more) ≡ true
all-append [] more h k = k
all-append (event ∷ some) more h k = and_from _ _ (and_parts _ _ h).0 (all-append some more (and_parts _ _ h).1 k)

calm_flows : (count : ℕ) → list_all is_calm (replicate count Event.Flow) ≡ true
calm_flows zero = refl
calm_flows (suc count) = calm_flows count

calm_said : (line : Line) → is_calm_line line ≡ true → list_all is_calm (events_of line) ≡ true
calm_said Line.Skip h = refl
calm_said (Line.One event) h = and_from _ _ h refl
calm_said (Line.Flow times) h = calm_flows times
calm_said (Line.Lose times) h = absurd (cc)

all_calm : (said : List Line) → list_all is_calm_line said ≡ true → list_all is_calm (said_events said) ≡ true
all_calm [] h = refl
all_calm (line ∷ said) h = all-append (events_of line) (said_events said) (calm_said line (and_parts _ _ h).0) (all_calm said (and_parts _ _ h).1)

-- THE LINES of an undisturbed script say such events
pub undisturbed_lines : (config : ConfigValue) (said : List Line) → AreUndisturbed config said → IsUndisturbed config (said_events said)
undisturbed_lines config said are = record {
  front = said_events are.front;
  flows = are.flows;
  are =
      ap said_events are.are
      ∙ flat_map-append events_of are.front (Line.Flow are.flows ∷ replicate are.skipped Line.Skip)
      ∙ ap (λ (rest : List Event). said_events are.front ++ (replicate are.flows Event.Flow ++ rest)) (none_said are.skipped)
      ∙ ap (λ (rest : List Event). said_events are.front ++ rest) (append-nil (replicate are.flows Event.Flow));
  calm = all_calm are.front are.calm;
  few = are.few;
  enough = are.enough;
}

-- ---- the events of a script are those of its lines
read_events : (version number : ℕ) (texts : List (List ℕ)) (said : List Line) → Say version texts said → events_from version number texts ≡ Ok (said_events said)
unfolding events_from
read_events version number [] [] says = refl
read_events version number [] (line ∷ said) says = absurd says
read_events version number (text ∷ texts) [] says = absurd says
read_events version number (text ∷ texts) (line ∷ said) says =
    by_line (line_of version text) says.0 (read_events version (number + 1) texts said says.1)
  where
    by_line : (read : Result Line Reason) → read ≡ Ok line → events_from version (number + 1) texts ≡ Ok (said_events said)
        → ◌≡◌ {A = Result (List Event) BadLine} (elim read [ Ok one ↦ with_events (events_of one) (events_from version (number + 1) texts) | Err why ↦ Err (record { line = number; reason = why }) ]) (Ok (events_of line ++ said_events said))
    by_line (Ok one) is rest = let same : one ≡ line = cc in ap (λ (l : Line). with_events (events_of l) (events_from version (number + 1) texts)) same ∙ ap (with_events (events_of line)) rest
    by_line (Err why) is rest = absurd (cc)

read_script : (bytes : List ℕ) (config : ConfigValue) (said : List Line) → IsText bytes config said → script bytes ≡ Ok (record { config = config; events = said_events said })
unfolding script
read_script bytes config said is =
    ap script_in is.cut ∙ by_header (header_of is.first) is.headed
  where
    by_header : (read : Result Header Reason) → read ≡ Ok (record { version = is.version; config = config })
        → ◌≡◌ {A = Result Script BadLine} (elim read [ Ok header ↦ with_config header.config (events_from header.version 2 is.texts) | Err why ↦ Err (record { line = 1; reason = why }) ]) (Ok (record { config = config; events = said_events said }))
    by_header (Ok header) h =
        let same : header ≡ record { version = is.version; config = config } = cc in
        ap (λ (one : Header). with_config one.config (events_from one.version 2 is.texts)) same ∙ ap (with_config config) (read_events is.version 2 is.texts said is.says)
    by_header (Err why) h = absurd (cc)

same_script : (bytes : List ℕ) (config : ConfigValue) (said : List Line) (made : Script) → IsText bytes config said → script bytes ≡ Ok made → made ≡ record { config = config; events = said_events said }
same_script bytes config said made is read =
    let both : ◌≡◌ {A = Result Script BadLine} (Ok made) (Ok (record { config = config; events = said_events said })) = sym read ∙ read_script bytes config said is in
    cc

-- AN UNDISTURBED SCRIPT answers each transaction that it submits
pub script_answers : (bytes : List ℕ) (made : Script) (world : WorldState) → IsUndisturbedScript bytes → script bytes ≡ Ok made → run made.config made.events ≡ Some world → AreAnswered world.history world.history
script_answers bytes made world is read h =
    let same = same_script bytes is.config is.said made is.text read in
    let fit = subst (λ (s : Script). AreEventsFit s.events) same (script_fits bytes made read) in
    undisturbed_answers is.config (said_events is.said) world (undisturbed_lines is.config is.said is.undisturbed) fit (ap (λ (s : Script). run s.config s.events) (sym same) ∙ h)

-- and any script answers the transactions of its first lines, where these are undisturbed
pub script_front_answers : (bytes : List ℕ) (made : Script) (world : WorldState) → (is : BeginsUndisturbed bytes) → script bytes ≡ Ok made → run made.config made.events ≡ Some world
    → (middle : WorldState) × (run made.config (flat_map events_of is.said) ≡ Some middle) × AreAnswered middle.history world.history
script_front_answers bytes made world is read h =
    let same = same_script bytes is.config (is.said ++ is.more) made is.text read in
    let events = ap (λ (s : Script). run s.config s.events) (sym same) ∙ h in
    let all_fit = subst (λ (s : Script). AreEventsFit s.events) same (script_fits bytes made read) in
    let fit = Each-left IsEventFit (said_events is.said) (said_events is.more) (subst AreEventsFit (flat_map-append events_of is.said is.more) all_fit) in
    let found = first_answers is.config (said_events is.said) (said_events is.more) world (undisturbed_lines is.config is.said is.undisturbed) fit (ap (λ (list : List Event). run is.config list) (sym (flat_map-append events_of is.said is.more)) ∙ events) in
    (found.0, ap (λ (s : Script). run s.config (said_events is.said)) same ∙ found.1, found.2)
