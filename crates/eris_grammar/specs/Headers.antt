-- The first line of a script: `eris V S F C`, its version and the sizes of the system.
use Rattle.std.specs.Prelude.{◌≡◌, ◌⊎◌, ℕ, ◌==◌, ◌&&◌, nat_le, Bool, Option, Some, None, Result, List, [], ◌∷◌, bytes_eq, codes, IsTrue, if◌then◌else◌}
use Rattle.eris_base.specs.ConfigLimits.{ConfigValue}
use Rattle.eris_grammar.specs.declared.header.Header.{Header}
use Rattle.eris_words.specs.declared.reason.Reason.{Reason}
use Rattle.eris_words.specs.declared.reason.Reason.TheVariants as reason
use Rattle.eris_words.specs.Cuts.{words}
use Rattle.eris_words.specs.Decimal.{decimal, read_decimal}
use Rattle.eris_words.specs.Forms.{said}

-- version 1 has 1 to 16 shards and 1 to 32 clients, version 2 has 1 to 64 and 1 to 128; both have 0 to 3 faults
abbrev pub most_shards : ℕ → ℕ
most_shards version = if version == 1 then 16 else 64

abbrev pub most_clients : ℕ → ℕ
most_clients version = if version == 1 then 32 else 128

abbrev pub in_limits : ℕ → ConfigValue → Bool
in_limits version config =
    nat_le 1 config.shards && nat_le config.shards (most_shards version) && nat_le config.f 3 && nat_le 1 config.clients
    && nat_le config.clients (most_clients version)

abbrev pub config_of : Option ℕ → Option ℕ → Option ℕ → Option ConfigValue
config_of (Some shards) (Some f) (Some clients) = Some (record { shards = shards; f = f; clients = clients })
config_of (Some shards) (Some f) None = None
config_of (Some shards) None clients = None
config_of None f clients = None

-- three numbers, and nothing more
abbrev pub sizes_in : List (List ℕ) → Option ConfigValue
sizes_in [] = None
sizes_in (shards ∷ []) = None
sizes_in (shards ∷ f ∷ []) = None
sizes_in (shards ∷ f ∷ clients ∷ []) = config_of (read_decimal 255 shards) (read_decimal 255 f) (read_decimal 255 clients)
sizes_in (shards ∷ f ∷ clients ∷ word ∷ words) = None

abbrev pub sized : ℕ → Option ConfigValue → Option Header
sized version (Some config) = if in_limits version config then Some (record { version = version; config = config }) else None
sized version None = None

-- the version that a word names
abbrev pub version_of : List ℕ → Option ℕ
version_of word = if bytes_eq word (codes "1") then Some 1 else if bytes_eq word (codes "2") then Some 2 else None

abbrev pub versioned : Option ℕ → List (List ℕ) → Option Header
versioned (Some version) sizes = sized version (sizes_in sizes)
versioned None sizes = None

abbrev pub headed : List (List ℕ) → Option Header
headed [] = None
headed (name ∷ []) = None
headed (name ∷ version ∷ sizes) = if bytes_eq name (codes "eris") then versioned (version_of version) sizes else None

-- what a first line says; any other one is refused with `Header`
unfoldable pub header_of : List ℕ → Result Header Reason
header_of line = said (headed (words line)) reason.Header

-- how a header is written
abbrev pub header_words : Header → List (List ℕ)
header_words header =
    codes "eris" ∷ decimal header.version ∷ decimal header.config.shards ∷ decimal header.config.f ∷ decimal header.config.clients ∷ []

-- words that are a header, its version and its sizes in their limits
pub record SpellsHeader (words : List (List ℕ)) (header : Header) : Type 0 where
  pub spelled : words ≡ header_words header
  pub known : (header.version ≡ 1) ⊎ (header.version ≡ 2)
  pub fits : IsTrue (in_limits header.version header.config)
