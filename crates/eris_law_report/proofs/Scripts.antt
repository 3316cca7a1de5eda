-- A SCRIPT'S EVENTS are in the ranges of its version, and begin no more than it has lines, so no more than it has bytes; and its
-- config is in the limits.
use Rattle.std.proofs.Common.{◌≡◌, ◌≤◌, ◌+◌, ◌==◌, ℕ, zero, suc, true, nat_le, length, replicate, Result, Ok, Err, List, [], ◌∷◌, ◌++◌, refl, subst, arith}
use Rattle.std.specs.Prelude.{if◌then◌else◌}
use Rattle.std.specs.List.{list_all, onto_first}
use Rattle.std.specs.Str.Lines.{strip_carriage_return}
use Rattle.std.proofs.lemmas.Bool.{and_from, and_parts, cond_both, leb-true}
use Rattle.std.proofs.lemmas.List.{length-map}
use Rattle.eris_base.specs.ConfigLimits.{ConfigValue, IsConfig}
use Rattle.eris_event.specs.declared.event.Event.{Event}
use Rattle.eris_event.specs.declared.event.Event.TheVariants as event
use Rattle.eris_event.specs.EventRanges.{fits_event}
use Rattle.eris_grammar.specs.declared.header.Header.{Header}
use Rattle.eris_grammar.specs.declared.line.Line.{Line}
use Rattle.eris_grammar.specs.declared.line.Line.TheVariants as line
use Rattle.eris_grammar.specs.Headers.{header_of, in_limits, most_clients, most_shards}
use Rattle.eris_grammar.specs.LineForms.{line_of}
use Rattle.eris_grammar.specs.Scripts.{BadLine, Script, events_from, events_of, script, script_in, with_config, with_events}
use Rattle.eris_grammar.proofs.HeaderLaws.{header_only}
use Rattle.eris_grammar.proofs.SpellingLaws.{read_as_spelled}
use Rattle.eris_words.specs.declared.reason.Reason.{Reason}
use Rattle.eris_words.specs.Cuts.{cut_lines, lines}
use Rattle.eris_law_report.specs.RangedRuns.{beginnings, is_beginning}

-- ---- lines are no more than bytes
onto_length : (byte : ℕ) (texts : List (List ℕ)) → length (onto_first byte texts) ≤ length texts + 1
onto_length byte [] = omega arith
onto_length byte (text ∷ texts) = omega arith

cut_length : (bytes : List ℕ) → length (cut_lines bytes) ≤ length bytes
unfolding cut_lines
cut_length [] = omega arith
cut_length (byte ∷ bytes) =
    cond_both (byte == 10) ([] ∷ cut_lines bytes) (onto_first byte (cut_lines bytes)) (λ texts. length texts ≤ length (byte ∷ bytes))
    (λ e. omega (arith, cut_length bytes)) (λ e. omega (arith, onto_length byte (cut_lines bytes), cut_length bytes))

lines_length : (bytes : List ℕ) → length (lines bytes) ≤ length bytes
lines_length bytes = omega (arith, cut_length bytes, length-map (cut_lines bytes) strip_carriage_return)

-- ---- lists of events
all_joined : (version : ℕ) (some more : List Event) → list_all (fits_event version) some ≡ true → list_all (fits_event version) more ≡ true → list_all (fits_event version) (some ++ more) ≡ true
all_joined version [] more h k = k
all_joined version (one ∷ some) more h k =
    let parts = and_parts (fits_event version one) (list_all (fits_event version) some) h in
    and_from (fits_event version one) (list_all (fits_event version) (some ++ more)) parts.0 (all_joined version some more parts.1 k)

beginnings_joined : (some more : List Event) → beginnings (some ++ more) ≡ beginnings some + beginnings more
beginnings_joined [] more = omega arith
beginnings_joined (one ∷ some) more = omega (arith, beginnings_joined some more)

-- copies of an event that begins nothing
copies_fit : (version : ℕ) (one : Event) → fits_event version one ≡ true → (times : ℕ) → list_all (fits_event version) (replicate times one) ≡ true
copies_fit version one h zero = refl
copies_fit version one h (suc times) = and_from (fits_event version one) (list_all (fits_event version) (replicate times one)) h (copies_fit version one h times)

flows_begin : (times : ℕ) → beginnings (replicate times event.Flow) ≡ 0
flows_begin zero = refl
flows_begin (suc times) = omega (arith, flows_begin times)

losses_begin : (times : ℕ) → beginnings (replicate times event.Lose) ≡ 0
losses_begin zero = refl
losses_begin (suc times) = omega (arith, losses_begin times)

-- ---- a line
line_fits : (version : ℕ) (text : List ℕ) (said : Line) → line_of version text ≡ Ok said → list_all (fits_event version) (events_of said) ≡ true
line_fits version text line.Skip h = refl
line_fits version text (line.One one) h = and_from (fits_event version one) true (((read_as_spelled version text).events one).0 h).fits refl
line_fits version text (line.Flow times) h = copies_fit version event.Flow refl times
line_fits version text (line.Lose times) h = copies_fit version event.Lose refl times

one_begins : (one : Event) → (if is_beginning one then 1 else 0) ≤ 1
one_begins one = cond_both (is_beginning one) 1 0 (λ n. n ≤ 1) (λ e. omega arith) (λ e. omega arith)

line_begins : (said : Line) → beginnings (events_of said) ≤ 1
line_begins line.Skip = omega arith
line_begins (line.One one) = omega (arith, one_begins one)
line_begins (line.Flow times) = omega (arith, flows_begin times)
line_begins (line.Lose times) = omega (arith, losses_begin times)

-- ---- lines
pub record AreRanged (version : ℕ) (count : ℕ) (events : List Event) : Type 0 where
  pub fits : list_all (fits_event version) events ≡ true
  pub few : beginnings events ≤ count

joined : (version count : ℕ) (some more : List Event) (read : Result (List Event) BadLine) → list_all (fits_event version) some ≡ true → beginnings some ≤ 1
    → ((rest : List Event) → read ≡ Ok rest → AreRanged version count rest) → with_events some read ≡ Ok more → AreRanged version (suc count) more
joined version count some more (Ok rest) h few k is =
    let same : some ++ rest ≡ more = cc in
    let ranged = k rest refl in
    subst (AreRanged version (suc count)) same
    (record { fits = all_joined version some rest h ranged.fits; few = omega (arith, few, ranged.few, beginnings_joined some rest) })
joined version count some more (Err bad) h few k is = absurd cc

lines_ranged : (version number : ℕ) (texts : List (List ℕ)) (events : List Event) → events_from version number texts ≡ Ok events → AreRanged version (length texts) events
unfolding events_from
lines_ranged version number [] events h = let same : [] ≡ events = cc in subst (AreRanged version 0) same (record { fits = refl; few = omega arith })
lines_ranged version number (text ∷ texts) events h = by_line (line_of version text) refl h (λ rest k. lines_ranged version (number + 1) texts rest k)
  where
    by_line : (found : Result Line Reason) → line_of version text ≡ found
        → ◌≡◌ {A = Result (List Event) BadLine} (elim found [ Ok said ↦ with_events (events_of said) (events_from version (number + 1) texts) | Err why ↦ Err (record { line = number; reason = why }) ]) (Ok events)
        → ((rest : List Event) → events_from version (number + 1) texts ≡ Ok rest → AreRanged version (length texts) rest) → AreRanged version (suc (length texts)) events
    by_line (Ok said) e k rest = joined version (length texts) (events_of said) events (events_from version (number + 1) texts) (line_fits version text said e) (line_begins said) rest k
    by_line (Err why) e k rest = absurd cc

-- ---- the header
shards_most : (version : ℕ) → most_shards version ≤ 64
shards_most version = cond_both (version == 1) 16 64 (λ n. n ≤ 64) (λ e. omega arith) (λ e. omega arith)

clients_most : (version : ℕ) → most_clients version ≤ 128
clients_most version = cond_both (version == 1) 32 128 (λ n. n ≤ 128) (λ e. omega arith) (λ e. omega arith)

config_fits : (version : ℕ) (config : ConfigValue) → in_limits version config ≡ true → IsConfig config
config_fits version config h =
    let fourth = and_parts _ (nat_le config.clients (most_clients version)) h in
    let third = and_parts _ (nat_le 1 config.clients) fourth.0 in
    let second = and_parts _ (nat_le config.f 3) third.0 in
    let first = and_parts (nat_le 1 config.shards) (nat_le config.shards (most_shards version)) second.0 in
    record {
      some_shard = leb-true 1 config.shards first.0;
      few_shards = omega (arith, leb-true config.shards (most_shards version) first.1, shards_most version);
      few_faults = leb-true config.f 3 second.1;
      some_client = leb-true 1 config.clients third.1;
      few_clients = omega (arith, leb-true config.clients (most_clients version) fourth.1, clients_most version);
    }

-- ---- THE SCRIPT
pub record IsRangedScript (count : ℕ) (whole : Script) : Type 0 where
  pub limits : IsConfig whole.config
  pub version : ℕ
  pub events : AreRanged version count whole.events

config_read : (header : Header) (count : ℕ) (read : Result (List Event) BadLine) (whole : Script) → IsConfig header.config → ((events : List Event) → read ≡ Ok events → AreRanged header.version count events)
    → with_config header.config read ≡ Ok whole → IsRangedScript count whole
config_read header count (Ok events) whole limits k is =
    let same : record { config = header.config; events = events } ≡ whole = cc in
    subst (IsRangedScript count) same (record { limits = limits; version = header.version; events = k events refl })
config_read header count (Err bad) whole limits k is = absurd cc

pub script_ranged : (bytes : List ℕ) (whole : Script) → script bytes ≡ Ok whole → IsRangedScript (length bytes) whole
unfolding script
script_ranged bytes whole h = by_lines (lines bytes) (lines_length bytes) h
  where
    wider : (few many : ℕ) → few ≤ many → IsRangedScript few whole → IsRangedScript many whole
    wider few many le k = record { limits = k.limits; version = k.version; events = record { fits = k.events.fits; few = omega (arith, k.events.few, le) } }

    by_header : (first : List ℕ) (texts : List (List ℕ)) (found : Result Header Reason) → header_of first ≡ found
        → ◌≡◌ {A = Result Script BadLine} (elim found [ Ok header ↦ with_config header.config (events_from header.version 2 texts) | Err why ↦ Err (record { line = 1; reason = why }) ]) (Ok whole)
        → IsRangedScript (length texts) whole
    by_header first texts (Ok header) e k =
        config_read header (length texts) (events_from header.version 2 texts) whole (config_fits header.version header.config (header_only first header e).fits)
        (λ events e. lines_ranged header.version 2 texts events e) k
    by_header first texts (Err why) e k = absurd cc

    by_lines : (texts : List (List ℕ)) → length texts ≤ length bytes → script_in texts ≡ Ok whole → IsRangedScript (length bytes) whole
    by_lines [] le k = absurd cc
    by_lines (first ∷ texts) le k = wider (length texts) (length bytes) (omega (arith, le)) (by_header first texts (header_of first) refl k)
