-- A tag and what stands behind it.
use Rattle.std.proofs.Common.{◌≡◌, ℕ, ◌==◌, Bool, true, false, cond, List, [], ◌∷◌, ◌++◌, length, Ok, Err, refl, sym, ap, subst, ◌∙◌}
use Rattle.std.proofs.lemmas.Bool.{eqb-true}
use Rattle.std.proofs.lemmas.List.{append-nil, nil_from_length}
use Rattle.eris_codec.specs.declared.fault.DecodeReason.TheVariants.{Trailing}
use Rattle.eris_codec.specs.declared.fault.Wrong.{Wrong}
use Rattle.eris_codec.specs.Codecs.{Codec, Read, bad, arm, tagged, whole}
use Rattle.eris_codec.proofs.Laws.{IsBytes, IsCodec, Takes, bind_ok, ok_is, rest_bytes}

abbrev yes : {X : Type 0} → X × List ℕ → Read X
yes y = Ok y

-- one arm of a choice by tag, or the others
pub pick : {X : Type 0} (t n : ℕ) (r s : Read X) (y : X × List ℕ) (G : ℕ → Type 0) → (r ≡ Ok y → G n) → (s ≡ Ok y → G t) → cond (t == n) r s ≡ Ok y → G t
pick {X = X} t n r s y G here there e =
    let split : (b : Bool) → b ≡ (t == n) → cond b r s ≡ yes y → G t = elim [ true ↦ λ h g. subst G (sym (eqb-true t n (sym h))) (here g) | false ↦ λ h g. there g ] in
    split (t == n) refl e

pub arm_takes : {A X : Type 0} (c : Codec A) (e : Codec X) (to : A → X) (t : ℕ) → IsCodec c → ((a : A) → e.spell (to a) ≡ t ∷ c.spell a) → ((a : A) → e.fits (to a) ≡ c.fits a)
    → (bytes : List ℕ) (x : X) (rest : List ℕ) → IsBytes bytes → arm to c bytes ≡ Ok (x, rest) → Takes e (t ∷ bytes) x rest
arm_takes {A = A} {X = X} c e to t h spelled fit bytes x rest fits r =
    let a = bind_ok (c.read bytes) (λ a. Ok (to a.0, a.1)) (x, rest) r in
    let u = h.takes bytes a.0.0 a.0.1 fits a.1 in
    let made : Takes e (t ∷ bytes) (to a.0.0) a.0.1 = record { parts = rw (spelled a.0.0) (ap (λ (z : List ℕ). t ∷ z) u.parts); fits = fit a.0.0 ∙ u.fits } in
    subst (λ (z : X × List ℕ). Takes e (t ∷ bytes) z.0 z.1) (ok_is (to a.0.0, a.0.1) (x, rest) a.2) made

-- how a value stands behind its tag
pub record Tags {X : Type 0} (tag : Codec ℕ) (e : Codec X) (behind : ℕ → List ℕ → Read X) (x : X) : Type 0 where
  pub t : ℕ
  pub payload : List ℕ
  pub spelled : e.spell x ≡ t ∷ payload
  pub single : tag.spell t ≡ t ∷ []
  pub fits : tag.fits t ≡ true
  pub read : (rest : List ℕ) → behind t (payload ++ rest) ≡ Ok (x, rest)

pub is_tagged : {X : Type 0} (tag : Codec ℕ) (spell : X → List ℕ) (fits : X → Bool) (behind : ℕ → List ℕ → Read X) → IsCodec tag
    → ((t : ℕ) → tag.fits t ≡ true → tag.spell t ≡ t ∷ [])
    → ((t : ℕ) (bytes : List ℕ) (x : X) (rest : List ℕ) → tag.fits t ≡ true → IsBytes bytes → behind t bytes ≡ Ok (x, rest) → Takes (tagged tag spell fits behind) (t ∷ bytes) x rest)
    → ((x : X) → fits x ≡ true → Tags tag (tagged tag spell fits behind) behind x)
    → IsCodec (tagged tag spell fits behind)
is_tagged {X = X} tag spell fits behind h single takes tags = record {
  takes = λ bytes x rest fine e.
      let a = bind_ok (tag.read bytes) (λ t. behind t.0 t.1) (x, rest) e in
      let u = h.takes bytes a.0.0 a.0.1 fine a.1 in
      let b = takes a.0.0 a.0.1 x rest u.fits (rest_bytes bytes (tag.spell a.0.0) a.0.1 fine u.parts) a.2 in
      let front : bytes ≡ a.0.0 ∷ a.0.1 = u.parts ∙ ap (λ (z : List ℕ). z ++ a.0.1) (single a.0.0 u.fits) in
      record { parts = front ∙ b.parts; fits = b.fits };
  again = λ x rest fine.
      let g = tags x fine in
      let front : spell x ++ rest ≡ tag.spell g.t ++ (g.payload ++ rest) = rw (g.spelled, g.single) refl in
      rw (front, h.again g.t (g.payload ++ rest) g.fits) (g.read rest);
}

guard_whole : {X : Type 0} (b : Bool) (d : Wrong) (x y : X) → cond b (Ok x) (Err d) ≡ Ok y → (b ≡ true) × (x ≡ y)
guard_whole true d x y e = (refl, cc)
guard_whole false d x y e = absurd cc

pub whole_takes : {X : Type 0} (c : Codec X) → IsCodec c → (bytes : List ℕ) (x : X) → IsBytes bytes → whole c bytes ≡ Ok x → (bytes ≡ c.spell x) × (c.fits x ≡ true)
whole_takes {X = X} c h bytes x fine e =
    let a = bind_ok (c.read bytes) (λ x. cond (length x.1 == 0) (Ok x.0) (bad (length x.1) Trailing)) x e in
    let g = guard_whole (length a.0.1 == 0) (record { left = length a.0.1; reason = Trailing }) a.0.0 x a.2 in
    let u = h.takes bytes a.0.0 a.0.1 fine a.1 in
    let end : a.0.1 ≡ [] = nil_from_length a.0.1 (eqb-true _ _ g.0) in
    let parts : bytes ≡ c.spell a.0.0 = u.parts ∙ ap (λ (z : List ℕ). c.spell a.0.0 ++ z) end ∙ append-nil (c.spell a.0.0) in
    subst (λ (z : X). (bytes ≡ c.spell z) × (c.fits z ≡ true)) g.1 (parts, u.fits)

pub whole_again : {X : Type 0} (c : Codec X) → IsCodec c → (x : X) → c.fits x ≡ true → whole c (c.spell x) ≡ Ok x
whole_again c h x fine =
    let e : c.read (c.spell x) ≡ Ok (x, []) = ap c.read (sym (append-nil (c.spell x))) ∙ h.again x [] fine in
    rw e refl
