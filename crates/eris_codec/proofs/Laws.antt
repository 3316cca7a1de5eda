-- A codec reads what it spells, and nothing else: the laws of each way to make codecs of smaller ones.
use Rattle.std.proofs.Common.{◌≡◌, ℕ, zero, suc, ◌+◌, ◌<◌, ◌≤◌, Bool, true, false, cond, nat_lt, List, [], ◌∷◌, ◌++◌, length, get_or, take, drop, Result, Ok, Err, refl, sym, ap, subst, ◌∙◌, append_assoc, arith, inl, inr}
use Rattle.std.specs.List.{flat_map}
use Rattle.std.proofs.lemmas.List.Concat.{flat_map-cons}
use Rattle.std.specs.Int.{Width, byte_len, from_be_bytes, to_be_bytes}
use Rattle.std.proofs.lemmas.Bool.{cases_lt, ltb-false, le-ltb, ltb-true, lt-ltb, and_from}
use Rattle.std.proofs.lemmas.List.{take_at, drop_at, take-append-drop, length-append, length-take, get_or-drop, get_or-take, get_or_past}
use Rattle.eris_base.proofs.Booleans.{left_of, right_of}
use Rattle.eris_codec.specs.declared.fault.DecodeReason.{DecodeReason}
use Rattle.eris_codec.specs.declared.fault.DecodeReason.TheVariants.{Short}
use Rattle.eris_codec.specs.declared.fault.Wrong.{Wrong}
use Rattle.eris_codec.specs.Codecs.{Codec, ◌>>=◌, bad, plain, nothing, checked, ◌⊗◌, named, given, read_items, items_fit, listed, arm}

abbrev pub IsBytes : List ℕ → Type 0
IsBytes bytes = (i : ℕ) → get_or bytes i 0 < 256

pub IsBytes-drop : (n : ℕ) (bytes : List ℕ) → IsBytes bytes → IsBytes (drop n bytes)
IsBytes-drop n bytes h i = rw get_or-drop (h (n + i))

pub IsBytes-take : (n : ℕ) (bytes : List ℕ) → IsBytes bytes → IsBytes (take n bytes)
IsBytes-take n bytes h i =
    elim (cases_lt i n) [
      | inl lt ↦ rw (get_or-take n bytes i 0 lt) (h i)
      | inr le ↦ rw (get_or_past (take n bytes) i 0 (omega (arith, length-take n bytes))) (omega arith)
    ]

pub rest_bytes : (bytes front rest : List ℕ) → IsBytes bytes → bytes ≡ front ++ rest → IsBytes rest
rest_bytes bytes front rest h e = subst IsBytes (ap (drop (length front)) e ∙ drop_at front rest (length front) refl) (IsBytes-drop (length front) bytes h)

pub bind_ok : {A B : Type 0} (r : Result A Wrong) (f : A → Result B Wrong) (y : B) → (r >>= f) ≡ Ok y → (x : A) × (r ≡ Ok x) × (f x ≡ Ok y)
bind_ok (Ok x) f y e = (x, refl, e)
bind_ok (Err d) f y e = absurd cc

abbrev made : {A : Type 0} → A → Result A Wrong
made x = Ok x

pub ok_is : {A : Type 0} (x y : A) → made x ≡ made y → x ≡ y
ok_is x y e = cc

-- what was read is spelled at the front, and fits
pub record Takes {X : Type 0} (c : Codec X) (bytes : List ℕ) (x : X) (rest : List ℕ) : Type 0 where
  pub parts : bytes ≡ c.spell x ++ rest
  pub fits : c.fits x ≡ true

-- what is read was spelled; and what fits and was spelled is read, whatever follows it
pub record IsCodec {X : Type 0} (c : Codec X) : Type 0 where
  pub takes : (bytes : List ℕ) (x : X) (rest : List ℕ) → IsBytes bytes → c.read bytes ≡ Ok (x, rest) → Takes c bytes x rest
  pub again : (x : X) (rest : List ℕ) → c.fits x ≡ true → c.read (c.spell x ++ rest) ≡ Ok (x, rest)

-- ---- numbers
pub record IsWide (w : Width) (limit : ℕ) : Type 0 where
  pub len : (n : ℕ) → length (to_be_bytes w n) ≡ byte_len w
  pub back : (bytes : List ℕ) → length bytes ≡ byte_len w → IsBytes bytes → to_be_bytes w (from_be_bytes w bytes) ≡ bytes
  pub again : (n : ℕ) → n < limit → from_be_bytes w (to_be_bytes w n) ≡ n
  pub below : (bytes : List ℕ) → IsBytes bytes → from_be_bytes w bytes < limit

guard_ok : {A : Type 0} (b : Bool) (d : Wrong) (x y : A) → cond b (Err d) (Ok x) ≡ Ok y → (b ≡ false) × (x ≡ y)
guard_ok true d x y e = absurd cc
guard_ok false d x y e = (refl, cc)

pub is_plain : (w : Width) (limit : ℕ) → IsWide w limit → IsCodec (plain w limit)
is_plain w limit wide = record {
  takes = λ bytes n rest fits e.
      let g = guard_ok (nat_lt (length bytes) (byte_len w)) (record { left = 0; reason = Short }) (from_be_bytes w (take (byte_len w) bytes), drop (byte_len w) bytes) (n, rest) e in
      let long : byte_len w ≤ length bytes = ltb-false _ _ g.0 in
      let n-is : from_be_bytes w (take (byte_len w) bytes) ≡ n = ap (λ (p : ℕ × List ℕ). p.0) g.1 in
      let rest-is : drop (byte_len w) bytes ≡ rest = ap (λ (p : ℕ × List ℕ). p.1) g.1 in
      let front : to_be_bytes w n ≡ take (byte_len w) bytes = rw (← n-is) (wide.back (take (byte_len w) bytes) (omega (arith, length-take (byte_len w) bytes)) (IsBytes-take (byte_len w) bytes fits)) in
      record { parts = rw (front, ← rest-is) (sym (take-append-drop (byte_len w) bytes)); fits = lt-ltb _ _ (rw (← n-is) (wide.below (take (byte_len w) bytes) (IsBytes-take (byte_len w) bytes fits))) };
  again = λ n rest lt.
      let len = wide.len n in
      let long : nat_lt (length (to_be_bytes w n ++ rest)) (byte_len w) ≡ false = le-ltb _ _ (omega (arith, length-append (to_be_bytes w n) rest)) in
      rw (long, take_at (to_be_bytes w n) rest (byte_len w) len, drop_at (to_be_bytes w n) rest (byte_len w) len, wide.again n (ltb-true _ _ lt)) refl;
}

pub is_nothing : IsCodec nothing
is_nothing = record {
  takes = λ bytes x rest fits e. subst (λ (z : Unit {0} × List ℕ). Takes nothing bytes z.0 z.1) (ok_is (tt, bytes) (x, rest) e) (record { parts = refl; fits = refl });
  again = λ x rest fits. refl;
}

-- ---- combined
pub check_ok : {X : Type 0} (ok : X → Bool) (d : Wrong) (x y : X × List ℕ) → cond (ok x.0) (Ok x) (Err d) ≡ Ok y → (x ≡ y) × (ok y.0 ≡ true)
check_ok {X = X} ok d x y e =
    let split : (b : Bool) → b ≡ ok x.0 → cond b (made x) (Err d) ≡ Ok y → (x ≡ y) × (ok x.0 ≡ true) = elim [ true ↦ λ h g. (ok_is x y g, sym h) | false ↦ λ h g. absurd cc ] in
    let found = split (ok x.0) refl e in
    (found.0, subst (λ (z : X × List ℕ). ok z.0 ≡ true) found.0 found.1)

pub is_checked : {X : Type 0} (ok : X → Bool) (reason : DecodeReason) (c : Codec X) → IsCodec c → IsCodec (checked ok reason c)
is_checked {X = X} ok reason c h = record {
  takes = λ bytes x rest fits e.
      let b = bind_ok (c.read bytes) (λ x. cond (ok x.0) (Ok x) (bad (length bytes) reason)) (x, rest) e in
      let k = check_ok ok (record { left = length bytes; reason = reason }) b.0 (x, rest) b.2 in
      let t = h.takes bytes x rest fits (b.1 ∙ ap (λ (p : X × List ℕ). Ok p) k.0) in
      record { parts = t.parts; fits = and_from _ _ t.fits k.1 };
  again = λ x rest fits.
      rw (h.again x rest (left_of (c.fits x) (ok x) fits), right_of (c.fits x) (ok x) fits) refl;
}

-- what a rule asks holds of what was read
pub checked_holds : {X : Type 0} (ok : X → Bool) (reason : DecodeReason) (c : Codec X) (bytes : List ℕ) (x : X) (rest : List ℕ) → (checked ok reason c).read bytes ≡ Ok (x, rest) → ok x ≡ true
checked_holds ok reason c bytes x rest e =
    let b = bind_ok (c.read bytes) (λ x. cond (ok x.0) (Ok x) (bad (length bytes) reason)) (x, rest) e in
    (check_ok ok (record { left = length bytes; reason = reason }) b.0 (x, rest) b.2).1

pub checked_reads : {X : Type 0} (ok : X → Bool) (reason : DecodeReason) (c : Codec X) (bytes : List ℕ) (x : X) (rest : List ℕ) → (checked ok reason c).read bytes ≡ Ok (x, rest) → c.read bytes ≡ Ok (x, rest)
checked_reads {X = X} ok reason c bytes x rest e =
    let b = bind_ok (c.read bytes) (λ x. cond (ok x.0) (Ok x) (bad (length bytes) reason)) (x, rest) e in
    b.1 ∙ ap (λ (p : X × List ℕ). Ok p) (check_ok ok (record { left = length bytes; reason = reason }) b.0 (x, rest) b.2).0

-- the two that were read, and the bytes between them
pub record Reads {X Y : Type 0} (c : Codec X) (d : Codec Y) (bytes : List ℕ) (p : X × Y) (rest : List ℕ) : Type 0 where
  pub middle : List ℕ
  pub first : c.read bytes ≡ Ok (p.0, middle)
  pub second : d.read middle ≡ Ok (p.1, rest)

pub pair_reads : {X Y : Type 0} (c : Codec X) (d : Codec Y) (bytes : List ℕ) (p : X × Y) (rest : List ℕ) → (c ⊗ d).read bytes ≡ Ok (p, rest) → Reads c d bytes p rest
pair_reads {X = X} {Y = Y} c d bytes p rest e =
    let a = bind_ok (c.read bytes) (λ x. d.read x.1 >>= λ y. Ok ((x.0, y.0), y.1)) (p, rest) e in
    let b = bind_ok (d.read a.0.1) (λ y. Ok ((a.0.0, y.0), y.1)) (p, rest) a.2 in
    let found : Reads c d bytes (a.0.0, b.0.0) b.0.1 = record { middle = a.0.1; first = a.1; second = b.1 } in
    subst (λ (z : (X × Y) × List ℕ). Reads c d bytes z.0 z.1) (ok_is ((a.0.0, b.0.0), b.0.1) (p, rest) b.2) found

pub is_pair : {X Y : Type 0} (c : Codec X) (d : Codec Y) → IsCodec c → IsCodec d → IsCodec (c ⊗ d)
is_pair {X = X} {Y = Y} c d h k = record {
  takes = λ bytes p rest fits e.
      let r = pair_reads c d bytes p rest e in
      let t = h.takes bytes p.0 r.middle fits r.first in
      let u = k.takes r.middle p.1 rest (rest_bytes bytes (c.spell p.0) r.middle fits t.parts) r.second in
      record {
        parts = t.parts ∙ ap (λ (z : List ℕ). c.spell p.0 ++ z) u.parts ∙ sym (append_assoc (c.spell p.0) (d.spell p.1) rest);
        fits = and_from _ _ t.fits u.fits;
      };
  again = λ p rest fits.
      rw (append_assoc (c.spell p.0) (d.spell p.1) rest, h.again p.0 (d.spell p.1 ++ rest) (left_of (c.fits p.0) (d.fits p.1) fits), k.again p.1 rest (right_of (c.fits p.0) (d.fits p.1) fits)) refl;
}

-- what was read in another form
pub record ReadsAs {X Y : Type 0} (to : X → Y) (c : Codec X) (bytes : List ℕ) (y : Y) (rest : List ℕ) : Type 0 where
  pub x : X
  pub read : c.read bytes ≡ Ok (x, rest)
  pub is : to x ≡ y

pub as_reads : {X Y : Type 0} (to : X → Y) (c : Codec X) (bytes : List ℕ) (y : Y) (rest : List ℕ) → arm to c bytes ≡ Ok (y, rest) → ReadsAs to c bytes y rest
as_reads {X = X} {Y = Y} to c bytes y rest e =
    let a = bind_ok (c.read bytes) (λ x. Ok (to x.0, x.1)) (y, rest) e in
    let found : ReadsAs to c bytes (to a.0.0) a.0.1 = record { x = a.0.0; read = a.1; is = refl } in
    subst (λ (z : Y × List ℕ). ReadsAs to c bytes z.0 z.1) (ok_is (to a.0.0, a.0.1) (y, rest) a.2) found

pub is_given : {X Y : Type 0} (ok : Y → Bool) (to : X → Y) (from : Y → X) (c : Codec X) → ((y : Y) → ok y ≡ true → to (from y) ≡ y) → ((x : X) → from (to x) ≡ x) → ((x : X) → ok (to x) ≡ true) → IsCodec c → IsCodec (given ok to from c)
is_given {X = X} {Y = Y} ok to from c there back fine h = record {
  takes = λ bytes y rest fits e.
      let r = as_reads to c bytes y rest e in
      let t = h.takes bytes r.x rest fits r.read in
      let found : Takes (given ok to from c) bytes (to r.x) rest = record { parts = rw (back r.x) t.parts; fits = and_from _ _ (fine r.x) (rw (back r.x) t.fits) } in
      subst (λ (z : Y). Takes (given ok to from c) bytes z rest) r.is found;
  again = λ y rest fits. rw (h.again (from y) rest (right_of (ok y) (c.fits (from y)) fits), there y (left_of (ok y) (c.fits (from y)) fits)) refl;
}

pub is_named : {X Y : Type 0} (to : X → Y) (from : Y → X) (c : Codec X) → ((y : Y) → to (from y) ≡ y) → ((x : X) → c.fits x ≡ true → from (to x) ≡ x) → IsCodec c → IsCodec (named to from c)
is_named {X = X} {Y = Y} to from c there back h = record {
  takes = λ bytes y rest fits e.
      let r = as_reads to c bytes y rest e in
      let t = h.takes bytes r.x rest fits r.read in
      let same = back r.x t.fits in
      let found : Takes (named to from c) bytes (to r.x) rest = record { parts = rw same t.parts; fits = rw same t.fits } in
      subst (λ (z : Y). Takes (named to from c) bytes z rest) r.is found;
  again = λ y rest fits. rw (h.again (from y) rest fits, there y) refl;
}

-- ---- lists
-- the first item that was read, those after it, and the bytes between
pub record ReadsItems {X : Type 0} (item : List X → Codec X) (before : List X) (n : ℕ) (bytes : List ℕ) (xs : List X) (rest : List ℕ) : Type 0 where
  pub first : X
  pub more : List X
  pub middle : List ℕ
  pub is : xs ≡ first ∷ more
  pub read : (item before).read bytes ≡ Ok (first, middle)
  pub then : read_items item (before ++ first ∷ []) n middle ≡ Ok (more, rest)

pub items_reads : {X : Type 0} (item : List X → Codec X) (before : List X) (n : ℕ) (bytes : List ℕ) (xs : List X) (rest : List ℕ) → read_items item before (suc n) bytes ≡ Ok (xs, rest) → ReadsItems item before n bytes xs rest
items_reads {X = X} item before n bytes xs rest e =
    let a = bind_ok ((item before).read bytes) (λ x. read_items item (before ++ x.0 ∷ []) n x.1 >>= λ ys. Ok (x.0 ∷ ys.0, ys.1)) (xs, rest) e in
    let b = bind_ok (read_items item (before ++ a.0.0 ∷ []) n a.0.1) (λ ys. Ok (a.0.0 ∷ ys.0, ys.1)) (xs, rest) a.2 in
    let found : ReadsItems item before n bytes (a.0.0 ∷ b.0.0) b.0.1 = record { first = a.0.0; more = b.0.0; middle = a.0.1; is = refl; read = a.1; then = b.1 } in
    subst (λ (z : List X × List ℕ). ReadsItems item before n bytes z.0 z.1) (ok_is (a.0.0 ∷ b.0.0, b.0.1) (xs, rest) b.2) found

module _ {X : Type 0} (item : List X → Codec X) (spell : X → List ℕ) (same : (before : List X) (x : X) → (item before).spell x ≡ spell x) (h : (before : List X) → IsCodec (item before)) where
  pub record ItemsTake (before : List X) (n : ℕ) (bytes : List ℕ) (xs : List X) (rest : List ℕ) : Type 0 where
    pub parts : bytes ≡ flat_map spell xs ++ rest
    pub fits : items_fit item before xs ≡ true
    pub count : length xs ≡ n

  pub items_take : (n : ℕ) (before : List X) (bytes : List ℕ) (xs : List X) (rest : List ℕ) → IsBytes bytes → read_items item before n bytes ≡ Ok (xs, rest) → ItemsTake before n bytes xs rest
  items_take zero before bytes xs rest fits e =
      subst (λ (z : List X × List ℕ). ItemsTake before 0 bytes z.0 z.1) (ok_is ([], bytes) (xs, rest) e) (record { parts = refl; fits = refl; count = refl })
  items_take (suc n) before bytes xs rest fits e =
      let r = items_reads item before n bytes xs rest e in
      let t = (h before).takes bytes r.first r.middle fits r.read in
      let u = items_take n (before ++ r.first ∷ []) r.middle r.more rest (rest_bytes bytes ((item before).spell r.first) r.middle fits t.parts) r.then in
      let whole : flat_map spell (r.first ∷ r.more) ++ rest ≡ spell r.first ++ (flat_map spell r.more ++ rest) = rw (flat_map-cons spell r.first r.more) (append_assoc (spell r.first) (flat_map spell r.more) rest) in
      let found : ItemsTake before (suc n) bytes (r.first ∷ r.more) rest = record {
        parts = t.parts ∙ ap (λ (z : List ℕ). (item before).spell r.first ++ z) u.parts ∙ ap (λ (z : List ℕ). z ++ (flat_map spell r.more ++ rest)) (same before r.first) ∙ sym whole;
        fits = and_from _ _ t.fits u.fits;
        count = ap suc u.count;
      } in
      subst (λ (z : List X). ItemsTake before (suc n) bytes z rest) (sym r.is) found

  pub items_again : (xs : List X) (before : List X) (rest : List ℕ) → items_fit item before xs ≡ true → read_items item before (length xs) (flat_map spell xs ++ rest) ≡ Ok (xs, rest)
  items_again [] before rest fits = refl
  items_again (x ∷ xs) before rest fits =
      let one = left_of ((item before).fits x) (items_fit item (before ++ x ∷ []) xs) fits in
      let more = right_of ((item before).fits x) (items_fit item (before ++ x ∷ []) xs) fits in
      rw (flat_map-cons spell x xs, append_assoc (spell x) (flat_map spell xs) rest, ← same before x, (h before).again x (flat_map spell xs ++ rest) one, items_again xs (before ++ x ∷ []) rest more) refl

  pub is_listed : (count : Codec ℕ) → IsCodec count → IsCodec (listed count spell item)
  is_listed count k = record {
    takes = λ bytes xs rest fits e.
        let a = bind_ok (count.read bytes) (λ n. read_items item [] n.0 n.1) (xs, rest) e in
        let t = k.takes bytes a.0.0 a.0.1 fits a.1 in
        let u = items_take a.0.0 [] a.0.1 xs rest (rest_bytes bytes (count.spell a.0.0) a.0.1 fits t.parts) a.2 in
        record {
          parts = rw u.count (t.parts ∙ ap (λ (z : List ℕ). count.spell a.0.0 ++ z) u.parts ∙ sym (append_assoc (count.spell a.0.0) (flat_map spell xs) rest));
          fits = and_from _ _ (rw u.count t.fits) u.fits;
        };
    again = λ xs rest fits.
        let c = count.fits (length xs) in
        let d = items_fit item [] xs in
        rw (append_assoc (count.spell (length xs)) (flat_map spell xs) rest, k.again (length xs) (flat_map spell xs ++ rest) (left_of c d fits)) (items_again xs [] rest (right_of c d fits));
  }
