-- A header is read as just what it spells.
use Rattle.std.proofs.Common.{◌≡◌, ◌⊎◌, ℕ, ◌≤◌, Bool, true, false, cond, ◌==◌, ◌&&◌, nat_le, bytes_eq, codes, IsTrue, Option, Some, None, Ok, List, [], ◌∷◌, refl, sym, ap, subst, ◌∙◌, inl, inr, arith, lit<}
use Rattle.std.proofs.lemmas.Bool.Decides.{nat_tests}
use Rattle.std.proofs.lemmas.Fmt.{decimal_digit}
use Rattle.std.proofs.lemmas.Slice.Eq.{bytes_eq-Decides}
use Rattle.eris_base.specs.ConfigLimits.{ConfigValue}
use Rattle.eris_grammar.specs.declared.header.Header.{Header}
use Rattle.eris_words.specs.declared.reason.Reason.TheVariants as reason
use Rattle.eris_words.specs.Cuts.{words}
use Rattle.eris_words.specs.Decimal.{decimal, read_decimal}
use Rattle.eris_words.specs.Forms.{said}
use Rattle.eris_grammar.specs.Headers.{SpellsHeader, config_of, header_of, header_words, headed, in_limits, sized, sizes_in, version_of, versioned}
use Rattle.eris_words.proofs.DecimalLaws.{read_decimal-decimal, read_decimal_only}

some_config : (a b : ConfigValue) → Some a ≡ Some b → a ≡ b
some_config a b same = cc

some_header : (a b : Header) → Some a ≡ Some b → a ≡ b
some_header a b same = cc

said_is : (o : Option Header) (h : Header) → said o reason.Header ≡ Ok h → o ≡ Some h
said_is (Some g) h read = ap (λ (z : Header). Some z) (same g h read)
  where
    same : (a b : Header) → said (Some a) reason.Header ≡ Ok b → a ≡ b
    same a b is = cc
said_is None h read = absurd cc

-- SIZES

config_takes : (a b c : Option ℕ) (config : ConfigValue) → config_of a b c ≡ Some config →
    (a ≡ Some config.shards) × (b ≡ Some config.f) × (c ≡ Some config.clients)
config_takes (Some a) (Some b) (Some c) config read =
    let same = some_config (record { shards = a; f = b; clients = c }) config read in
    (ap (λ (z : ConfigValue). Some z.shards) same, ap (λ (z : ConfigValue). Some z.f) same, ap (λ (z : ConfigValue). Some z.clients) same)
config_takes (Some a) (Some b) None config read = absurd cc
config_takes (Some a) None c config read = absurd cc
config_takes None b c config read = absurd cc

abbrev sizes_words : ConfigValue → List (List ℕ)
sizes_words config = decimal config.shards ∷ decimal config.f ∷ decimal config.clients ∷ []

three : {a b c x y z : List ℕ} → a ≡ x → b ≡ y → c ≡ z → a ∷ b ∷ c ∷ [] ≡ x ∷ y ∷ z ∷ []
three {a} {b} {c} {x} {y} {z} p q r =
    ap (λ (w : List ℕ). w ∷ b ∷ c ∷ []) p ∙ ap (λ (w : List ℕ). x ∷ w ∷ c ∷ []) q ∙ ap (λ (w : List ℕ). x ∷ y ∷ w ∷ []) r

sizes_takes : (ws : List (List ℕ)) (config : ConfigValue) → sizes_in ws ≡ Some config → ws ≡ sizes_words config
sizes_takes [] config read = absurd cc
sizes_takes (a ∷ []) config read = absurd cc
sizes_takes (a ∷ b ∷ []) config read = absurd cc
sizes_takes (a ∷ b ∷ c ∷ []) config read =
    let parts = config_takes (read_decimal 255 a) (read_decimal 255 b) (read_decimal 255 c) config read in
    three (read_decimal_only 255 a config.shards (lit< tt) parts.0).0 (read_decimal_only 255 b config.f (lit< tt) parts.1).0 (read_decimal_only 255 c config.clients (lit< tt) parts.2).0
sizes_takes (a ∷ b ∷ c ∷ word ∷ ws) config read = absurd cc

-- sizes in the limits have at most three digits
small_sizes : (version : ℕ) (config : ConfigValue) → IsTrue (in_limits version config) → (config.shards ≤ 64) × (config.f ≤ 3) × (config.clients ≤ 128)
small_sizes version config fine = of_version (version == 1) fine
  where
    of_version : (old : Bool) →
        (nat_le 1 config.shards && nat_le config.shards (cond old 16 64) && nat_le config.f 3 && nat_le 1 config.clients && nat_le config.clients (cond old 32 128)) ≡ true →
        (config.shards ≤ 64) × (config.f ≤ 3) × (config.clients ≤ 128)
    of_version true all = (grind (arith, nat_tests), grind (arith, nat_tests), grind (arith, nat_tests))
    of_version false all = (grind (arith, nat_tests), grind (arith, nat_tests), grind (arith, nat_tests))

sizes_again : (version : ℕ) (config : ConfigValue) → IsTrue (in_limits version config) → sizes_in (sizes_words config) ≡ Some config
sizes_again version config fine =
    let small = small_sizes version config fine in
    let shards : config.shards ≤ 255 = omega (arith, small.0) in
    let f : config.f ≤ 255 = omega (arith, small.1) in
    let clients : config.clients ≤ 255 = omega (arith, small.2) in
    rw (read_decimal-decimal 255 config.shards (lit< tt) shards, read_decimal-decimal 255 config.f (lit< tt) f, read_decimal-decimal 255 config.clients (lit< tt) clients) refl

-- THE LINE

sized_takes : (version : ℕ) (o : Option ConfigValue) (h : Header) → sized version o ≡ Some h → (h.version ≡ version) × (o ≡ Some h.config) × IsTrue (in_limits version h.config)
sized_takes version (Some config) h read = of_test (in_limits version config) refl read
  where
    of_test : (test : Bool) → in_limits version config ≡ test → cond test (Some (record { version = version; config = config })) None ≡ Some h →
        (h.version ≡ version) × (Some config ≡ Some h.config) × IsTrue (in_limits version h.config)
    of_test true is found =
        let same = some_header (record { version = version; config = config }) h found in (
          sym (ap (λ (z : Header). z.version) same),
          ap (λ (z : Header). Some z.config) same,
          subst (λ (z : Header). in_limits version z.config ≡ true) same is,
        )
    of_test false is found = absurd cc
sized_takes version None h read = absurd cc

version_takes : (word : List ℕ) (version : ℕ) → version_of word ≡ Some version → ((version ≡ 1) ⊎ (version ≡ 2)) × (word ≡ decimal version)
version_takes word version read = of_tests (bytes_eq word (codes "1")) (bytes_eq word (codes "2")) refl refl read
  where
    is_some : (a b : ℕ) → Some a ≡ Some b → a ≡ b
    is_some a b same = cc

    of_tests : (one two : Bool) → bytes_eq word (codes "1") ≡ one → bytes_eq word (codes "2") ≡ two → cond one (Some 1) (cond two (Some 2) None) ≡ Some version →
        ((version ≡ 1) ⊎ (version ≡ 2)) × (word ≡ decimal version)
    of_tests true two is other found =
        let same = is_some 1 version found in
        (inl (sym same), (bytes_eq-Decides word (codes "1")).0 is ∙ sym (decimal_digit 1 (lit< tt)) ∙ ap decimal same)
    of_tests false true is other found =
        let same = is_some 2 version found in
        (inr (sym same), (bytes_eq-Decides word (codes "2")).0 other ∙ sym (decimal_digit 2 (lit< tt)) ∙ ap decimal same)
    of_tests false false is other found = absurd cc

versioned_takes : (o : Option ℕ) (sizes : List (List ℕ)) (h : Header) → versioned o sizes ≡ Some h →
    (o ≡ Some h.version) × (sizes ≡ sizes_words h.config) × IsTrue (in_limits h.version h.config)
versioned_takes (Some version) sizes h read =
    let parts = sized_takes version (sizes_in sizes) h read in
    (ap (λ (n : ℕ). Some n) (sym parts.0), sizes_takes sizes h.config parts.1, subst (λ (n : ℕ). in_limits n h.config ≡ true) (sym parts.0) parts.2)
versioned_takes None sizes h read = absurd cc

headed_takes : (ws : List (List ℕ)) (h : Header) → headed ws ≡ Some h → SpellsHeader ws h
headed_takes [] h read = absurd cc
headed_takes (name ∷ []) h read = absurd cc
headed_takes (name ∷ version ∷ sizes) h read = of_test (bytes_eq name (codes "eris")) refl read
  where
    of_test : (test : Bool) → bytes_eq name (codes "eris") ≡ test → cond test (versioned (version_of version) sizes) None ≡ Some h → SpellsHeader (name ∷ version ∷ sizes) h
    of_test true is found =
        let parts = versioned_takes (version_of version) sizes h found in
        let v = version_takes version h.version parts.0 in
        record {
          spelled = ap (λ (w : List ℕ). w ∷ version ∷ sizes) ((bytes_eq-Decides name (codes "eris")).0 is)
              ∙ ap (λ (w : List ℕ). codes "eris" ∷ w ∷ sizes) v.1 ∙ ap (λ (z : List (List ℕ)). codes "eris" ∷ decimal h.version ∷ z) parts.1;
          known = v.0;
          fits = parts.2;
        }
    of_test false is found = absurd cc

version_again : (version : ℕ) → (version ≡ 1) ⊎ (version ≡ 2) → version_of (decimal version) ≡ Some version
version_again version (inl one) = ap (λ n. version_of (decimal n)) one ∙ ap version_of (decimal_digit 1 (lit< tt)) ∙ ap (λ n. Some n) (sym one)
version_again version (inr two) = ap (λ n. version_of (decimal n)) two ∙ ap version_of (decimal_digit 2 (lit< tt)) ∙ ap (λ n. Some n) (sym two)

headed_again : (h : Header) → (h.version ≡ 1) ⊎ (h.version ≡ 2) → IsTrue (in_limits h.version h.config) → headed (header_words h) ≡ Some h
headed_again h known fine =
    ap (λ o. versioned o (sizes_words h.config)) (version_again h.version known)
    ∙ ap (sized h.version) (sizes_again h.version h.config fine)
    ∙ ap (λ test. cond test (Some h) None) fine

pub header_only : (line : List ℕ) (h : Header) → header_of line ≡ Ok h → SpellsHeader (words line) h
unfolding header_of
header_only line h read = headed_takes (words line) h (said_is (headed (words line)) h read)

pub header_read : (line : List ℕ) (h : Header) → SpellsHeader (words line) h → header_of line ≡ Ok h
unfolding header_of
header_read line h says = ap (λ (z : List (List ℕ)). said (headed z) reason.Header) says.spelled ∙ ap (λ o. said o reason.Header) (headed_again h says.known says.fits)
