-- The bytes of a name, one after the other.
use Rattle.std.proofs.Common.{◌≡◌, ℕ, ◌+◌, ◌<◌, ◌≤◌, ◌&&◌, true, List, [], ◌∷◌, ◌++◌, length, take, drop, refl, ap, nat_lt, nat_le, arith}
use Rattle.std.specs.List.{list_all, flat_map}
use Rattle.std.proofs.lemmas.Bool.Decides.{nat_tests}
use Rattle.std.proofs.lemmas.List.{drop-drop, length-drop}
use Rattle.std.proofs.lemmas.List.Concat.{flat_map-cons}
use Rattle.std.proofs.Math.Seq.{take-add}
use Rattle.std.proofs.lemmas.Bool.{and_from, and_parts, leb-true, le-leb, lt-ltb, ltb-true}
use Rattle.eris_base.proofs.Booleans.{left_of, right_of}
use Rattle.eris_txn.specs.Names.{is_name_byte, is_name}
use Rattle.eris_codec.specs.Fields as f
use Rattle.eris_codec.specs.Codecs.{checked, items_fit}
use Rattle.eris_codec.specs.declared.fault.DecodeReason.TheVariants.{Range}
use Rattle.eris_codec.proofs.FieldLaws.{byte_single}

pub take_next : (bytes : List ℕ) (i x : ℕ) (after : List ℕ) → drop i bytes ≡ x ∷ after → take (i + 1) bytes ≡ take i bytes ++ x ∷ []
take_next bytes i x after e = rw (take-add i 1 bytes, e) refl

pub drop_next : (bytes : List ℕ) (i x : ℕ) (after : List ℕ) → drop i bytes ≡ x ∷ after → after ≡ drop (i + 1) bytes
drop_next bytes i x after e = rw (← drop-drop 1 i bytes, e) refl

pub within_next : (bytes : List ℕ) (i x : ℕ) (after : List ℕ) → drop i bytes ≡ x ∷ after → i + 1 ≤ length bytes
within_next bytes i x after e = omega (arith, length-drop i bytes, ap length e)

pub all_next : (xs : List ℕ) (x : ℕ) → list_all is_name_byte xs ≡ true → is_name_byte x ≡ true → list_all is_name_byte (xs ++ x ∷ []) ≡ true
all_next [] x h k = rw k refl
all_next (y ∷ ys) x h k =
    and_from (is_name_byte y) (list_all is_name_byte (ys ++ x ∷ [])) (left_of (is_name_byte y) (list_all is_name_byte ys) h) (all_next ys x (right_of (is_name_byte y) (list_all is_name_byte ys) h) k)

pub name_byte_small : (b : ℕ) → is_name_byte b ≡ true → b < 256
name_byte_small b h = grind (arith, nat_tests)

-- a name is spelled as it stands
pub name_spell : (bytes : List ℕ) → list_all is_name_byte bytes ≡ true → flat_map f.byte.spell bytes ≡ bytes
name_spell [] h = refl
name_spell (b ∷ bytes) h =
    let small : b < 256 = name_byte_small b (left_of (is_name_byte b) (list_all is_name_byte bytes) h) in
    rw (flat_map-cons f.byte.spell b bytes, byte_single b small, name_spell bytes (right_of (is_name_byte b) (list_all is_name_byte bytes) h)) refl

pub allowed_in : (bytes : List ℕ) → is_name bytes ≡ true → list_all is_name_byte bytes ≡ true
allowed_in bytes h = grind (arith, nat_tests)

-- and fits
pub name_items_fit : (before bytes : List ℕ) → list_all is_name_byte bytes ≡ true → items_fit (λ _. checked is_name_byte Range f.byte) before bytes ≡ true
unfolding f.byte
name_items_fit before [] h = refl
name_items_fit before (byte ∷ bytes) h =
    let parts = and_parts (is_name_byte byte) (list_all is_name_byte bytes) h in
    and_from (nat_lt byte 256 && is_name_byte byte) (items_fit (λ _. checked is_name_byte Range f.byte) (before ++ byte ∷ []) bytes)
    (and_from (nat_lt byte 256) (is_name_byte byte) (lt-ltb byte 256 (name_byte_small byte parts.0)) parts.0)
    (name_items_fit (before ++ byte ∷ []) bytes parts.1)

pub name_fits : (name : List ℕ) → is_name name ≡ true → f.name.fits name ≡ true
unfolding f.name f.from_to f.byte
name_fits name h =
    let sizes = and_parts (nat_lt 0 (length name)) (nat_le (length name) 16) (and_parts (nat_lt 0 (length name) && nat_le (length name) 16) (list_all is_name_byte name) h).0 in
    let some : 0 < length name = ltb-true 0 (length name) sizes.0 in
    let few : length name ≤ 16 = leb-true (length name) 16 sizes.1 in
    and_from (nat_lt (length name) 256 && (nat_le 1 (length name) && nat_le (length name) 16)) (items_fit (λ _. checked is_name_byte Range f.byte) [] name)
    (and_from (nat_lt (length name) 256) (nat_le 1 (length name) && nat_le (length name) 16) (lt-ltb (length name) 256 (omega arith))
    (and_from (nat_le 1 (length name)) (nat_le (length name) 16) (le-leb 1 (length name) (omega arith)) sizes.1))
    (name_items_fit [] name (and_parts (nat_lt 0 (length name) && nat_le (length name) 16) (list_all is_name_byte name) h).1)
