-- A header of version 1, migrated, is the header of version 2 of the same sizes.
use Rattle.std.proofs.Common.{◌≡◌, inr, ◌&&◌, ◌≤◌, ◌<◌, ℕ, Bool, true, nat_le, Result, Ok, List, [], ◌∷◌, ◌++◌, length, refl, sym, ap, ◌∙◌, arith, codes, lit<}
use Rattle.std.proofs.lemmas.Bool.Decides.{nat_tests}
use Rattle.std.proofs.lemmas.Fmt.{decimal_digit}
use Rattle.std.specs.List.{join_with_byte}
use Rattle.std.specs.Str.Lines.{strip_carriage_return}
use Rattle.eris_base.specs.ConfigLimits.{ConfigValue}
use Rattle.eris_grammar.specs.declared.header.Header.{Header}
use Rattle.eris_grammar.specs.Headers.{header_of, header_words, in_limits}
use Rattle.eris_grammar.proofs.HeaderLaws.{header_only}
use Rattle.eris_migrate.specs.Migrated.{migrated_header}
use Rattle.eris_words.specs.Cuts.{words}
use Rattle.eris_words.specs.Decimal.{decimal}
use Rattle.eris_law_lines.specs.EventScripts.{IsHeader, header_text}
use Rattle.eris_law_lines.proofs.EventScripts.{header_back, header_inked, stripped}
use Rattle.eris_law_lines.proofs.Ink.{are_ink, line_ink}
use Rattle.eris_law_migrate.proofs.LineTexts.{joined_words}

-- a header, migrated
pub record MigratedHeader (first : List ℕ) (config : ConfigValue) : Type 0 where
  pub reads : header_of (strip_carriage_return (migrated_header first)) ≡ Ok (record { version = 2; config = config })
  pub ink : are_ink (migrated_header first) ≡ true
  pub long : length (migrated_header first) ≡ length first
  pub some : 0 < length (migrated_header first)

wider : (config : ConfigValue) → in_limits 1 config ≡ true → in_limits 2 config ≡ true
wider config fine = grind (arith, nat_tests)

-- what stands behind the version
sizes : ConfigValue → List ℕ
sizes config = join_with_byte 32 (decimal config.shards ∷ decimal config.f ∷ decimal config.clients ∷ [])

changed : (behind : List ℕ) → migrated_header (codes "eris 1 " ++ behind) ≡ codes "eris 2 " ++ behind
unfolding migrated_header
changed behind = refl

new_text : (config : ConfigValue) → header_text (record { version = 2; config = config }) ≡ codes "eris 2 " ++ sizes config
unfolding sizes
new_text config = ap (λ (version : List ℕ). codes "eris " ++ (version ++ 32 ∷ sizes config)) (decimal_digit 2 (lit< tt))

old_text : (first : List ℕ) (header : Header) → words first ≡ header_words header → header.version ≡ 1 → first ≡ codes "eris 1 " ++ sizes header.config
unfolding sizes
old_text first header spelled old =
    sym (joined_words first) ∙ ap (join_with_byte 32) spelled
    ∙ ap (λ (version : ℕ). codes "eris " ++ (decimal version ++ 32 ∷ sizes header.config)) old
    ∙ ap (λ (version : List ℕ). codes "eris " ++ (version ++ 32 ∷ sizes header.config)) (decimal_digit 1 (lit< tt))

pub header_kept : (first : List ℕ) (header : Header) → header_of first ≡ Ok header → header.version ≡ 1 → MigratedHeader first header.config
header_kept first header read old =
    let says = header_only first header read in
    let new : Header = record { version = 2; config = header.config } in
    let fits : in_limits 1 header.config ≡ true = ap (λ (version : ℕ). in_limits version header.config) (sym old) ∙ says.fits in
    let is : IsHeader new = record { known = inr refl; fits = wider header.config fits } in
    let before = old_text first header says.spelled old in
    let same : migrated_header first ≡ header_text new = ap migrated_header before ∙ changed (sizes header.config) ∙ sym (new_text header.config) in
    let ink : are_ink (header_text new) ≡ true = line_ink (header_words new) (header_inked new is) in
    record {
      reads = ap (λ (text : List ℕ). header_of (strip_carriage_return text)) same ∙ ap header_of (stripped (header_text new) ink) ∙ header_back new is;
      ink = ap are_ink same ∙ ink;
      long = ap length same ∙ ap length (new_text header.config) ∙ ap length (sym before);
      some = (let whole = ap length (same ∙ new_text header.config) in omega (arith, whole));
    }
