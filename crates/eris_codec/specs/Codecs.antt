-- A codec says how a value is spelled by bytes, which values have a spelling, and what reading bytes gives.
-- Codecs are made of smaller ones. What is read is a value and the bytes after it, or what is wrong with the
-- first field, from the left, that isn't there whole or breaks its rule.
use Rattle.std.specs.Prelude.{ℕ, zero, suc, ◌-◌, Bool, true, ◌&&◌, ◌==◌, nat_lt, List, [], ◌∷◌, ◌++◌, length, take, drop, slice_get, Option, Result, Ok, Err, if◌then◌else◌}
use Rattle.std.specs.List.{flat_map}
use Rattle.std.specs.Int.{Width, byte_len, from_be_bytes, to_be_bytes}
use Rattle.eris_codec.specs.declared.fault.DecodeReason.{DecodeReason}
use Rattle.eris_codec.specs.declared.fault.DecodeReason.TheVariants.{Short, Trailing}
use Rattle.eris_codec.specs.declared.fault.Wrong.{Wrong}

abbrev pub Read : Type 0 → Type 0
Read X = Result (X × List ℕ) Wrong

infixl 10 ◌>>=◌
abbrev pub ◌>>=◌ : {A B : Type 0} → Result A Wrong → (A → Result B Wrong) → Result B Wrong
(Ok x) >>= f = f x
(Err wrong) >>= f = Err wrong

-- wrong at the place where so many bytes are left
abbrev pub bad : {X : Type 0} → ℕ → DecodeReason → Result X Wrong
bad left reason = Err (record { left = left; reason = reason })

pub record Codec (X : Type 0) : Type 0 where
  pub spell : X → List ℕ
  pub fits : X → Bool
  pub read : List ℕ → Read X

-- a number below the limit, in some bytes, the greatest first
abbrev pub plain : Width → ℕ → Codec ℕ
plain w limit = record {
  spell = λ n. to_be_bytes w n;
  fits = λ n. nat_lt n limit;
  read = λ bytes. if nat_lt (length bytes) (byte_len w) then bad 0 Short else Ok (from_be_bytes w (take (byte_len w) bytes), drop (byte_len w) bytes);
}

-- no bytes
abbrev pub nothing : Codec (Unit {0})
nothing = record { spell = λ _. []; fits = λ _. true; read = λ bytes. Ok (tt, bytes) }

-- the values that meet a rule; what doesn't is wrong at its first byte
abbrev pub checked : {X : Type 0} → (X → Bool) → DecodeReason → Codec X → Codec X
checked ok reason c = record {
  spell = λ x. c.spell x;
  fits = λ x. c.fits x && ok x;
  read = λ bytes. c.read bytes >>= λ x. if ok x.0 then Ok x else bad (length bytes) reason;
}

-- one after the other
infixr 10 ◌⊗◌
abbrev pub ◌⊗◌ : {X Y : Type 0} → Codec X → Codec Y → Codec (X × Y)
c ⊗ d = record {
  spell = λ p. c.spell p.0 ++ d.spell p.1;
  fits = λ p. c.fits p.0 && d.fits p.1;
  read = λ bytes. c.read bytes >>= λ x. d.read x.1 >>= λ y. Ok ((x.0, y.0), y.1);
}

-- the same in another form
abbrev pub named : {X Y : Type 0} → (X → Y) → (Y → X) → Codec X → Codec Y
named to from c = record {
  spell = λ y. c.spell (from y);
  fits = λ y. c.fits (from y);
  read = λ bytes. c.read bytes >>= λ x. Ok (to x.0, x.1);
}

-- the same in another form, of which only the values that meet a rule are had
abbrev pub given : {X Y : Type 0} → (Y → Bool) → (X → Y) → (Y → X) → Codec X → Codec Y
given ok to from c = record {
  spell = λ y. c.spell (from y);
  fits = λ y. ok y && c.fits (from y);
  read = λ bytes. c.read bytes >>= λ x. Ok (to x.0, x.1);
}

-- the last item, if there is one
abbrev pub last_of : {X : Type 0} → List X → Option X
last_of xs = slice_get xs (length xs - 1)

-- items, each of which may depend on those before it
abbrev pub read_items : {X : Type 0} → (List X → Codec X) → List X → ℕ → List ℕ → Read (List X)
read_items item before zero bytes = Ok ([], bytes)
read_items item before (suc n) bytes = (item before).read bytes >>= λ x. read_items item (before ++ x.0 ∷ []) n x.1 >>= λ xs. Ok (x.0 ∷ xs.0, xs.1)

abbrev pub items_fit : {X : Type 0} → (List X → Codec X) → List X → List X → Bool
items_fit item before [] = true
items_fit item before (x ∷ xs) = (item before).fits x && items_fit item (before ++ x ∷ []) xs

-- a count, then so many items
abbrev pub listed : {X : Type 0} → Codec ℕ → (X → List ℕ) → (List X → Codec X) → Codec (List X)
listed count spell item = record {
  spell = λ xs. count.spell (length xs) ++ flat_map spell xs;
  fits = λ xs. count.fits (length xs) && items_fit item [] xs;
  read = λ bytes. count.read bytes >>= λ n. read_items item [] n.0 n.1;
}

-- a tag, then what stands behind it
abbrev pub tagged : {X : Type 0} → Codec ℕ → (X → List ℕ) → (X → Bool) → (ℕ → List ℕ → Read X) → Codec X
tagged tag spell fits behind = record {
  spell = λ x. spell x;
  fits = λ x. fits x;
  read = λ bytes. tag.read bytes >>= λ t. behind t.0 t.1;
}

-- what stands behind one tag
abbrev pub arm : {A X : Type 0} → (A → X) → Codec A → List ℕ → Read X
arm to c bytes = c.read bytes >>= λ a. Ok (to a.0, a.1)

-- all of the bytes
abbrev pub whole : {X : Type 0} → Codec X → List ℕ → Result X Wrong
whole c bytes = c.read bytes >>= λ x. if length x.1 == 0 then Ok x.0 else bad (length x.1) Trailing
