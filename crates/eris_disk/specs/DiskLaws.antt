-- What holds of every history of a disk.
use Rattle.std.specs.Prelude.{◌≡◌, ℕ, ◌+◌, ◌-◌, ◌<◌, ◌≤◌, true, false, min, max, List, [], ◌∷◌, ◌++◌, length, take, drop, replicate, refl}
use Rattle.std.proofs.Common.{inl, inr, ⊎_elim, sym, ◌∙◌, ap, arith, length-append, length-drop, length-take}
use Rattle.std.proofs.lemmas.Bool.{cases_lt}
use Rattle.std.proofs.lemmas.List.{append-nil, drop_at, drop_all, take-take, take_min, take-append-le, length-replicate}
use Rattle.eris_disk.specs.Disks.{overwritten, IsTorn, GoesOn}
use Rattle.eris_disk.specs.Histories.{DiskAct, widened, content_after, may_leave_after, may_have_left_after, image_after}

length-widened : (bytes : List ℕ) (size fill : ℕ) → length (widened bytes size fill) ≡ max (length bytes) size
length-widened bytes size fill =
    omega (arith, length-append bytes (replicate (size - length bytes) fill), length-replicate (size - length bytes) fill)

-- what is behind the range is as before, however long the list is made
drop-widened : (bytes : List ℕ) (size fill : ℕ) → drop size (widened bytes size fill) ≡ drop size bytes
drop-widened bytes size fill = ⊎_elim
    (λ (short : size < length bytes).
    let none : size - length bytes ≡ 0 = omega arith in
    ap (λ k. drop size (bytes ++ replicate k fill)) none ∙ ap (drop size) (append-nil bytes))
    (λ (long : length bytes ≤ size).
    drop_all size (widened bytes size fill) (omega (arith, length-widened bytes size fill)) ∙ sym (drop_all size bytes long))
    (cases_lt size (length bytes))

-- a list that is written is torn from what it was before
pub torn : (before : List ℕ) (at count : ℕ) (bytes : List ℕ) (fill : ℕ) → length bytes ≡ count → IsTorn before at count (overwritten (widened before (at + count) fill) at bytes)
torn before at count bytes fill size_is =
    let wide = widened before (at + count) fill in
    let wide_size : length wide ≡ max (length before) (at + count) = length-widened before (at + count) fill in
    let front_size : length (take at wide) ≡ at = length-take at wide ∙ omega (arith, wide_size) in
    let both_size : length (take at wide ++ bytes) ≡ at + count = length-append (take at wide) bytes ∙ omega (arith, front_size, size_is) in
    let back_is : drop (at + length bytes) wide ≡ drop (at + count) wide = ap (λ k. drop (at + k) wide) size_is in
    let whole : overwritten wide at bytes ≡ take at wide ++ bytes ++ drop (at + count) wide = ap (λ l. take at wide ++ bytes ++ l) back_is in
    let most = min at (length before) in
    record {
      size = ap length whole ∙ length-append (take at wide ++ bytes) (drop (at + count) wide) ∙ omega (arith, both_size, length-drop (at + count) wide, wide_size);
      front =
          ap (take most) whole
          ∙ take-append-le most (take at wide ++ bytes) (drop (at + count) wide) (omega (arith, both_size))
          ∙ take-append-le most (take at wide) bytes (omega (arith, front_size))
          ∙ take-take most at wide (omega arith)
          ∙ take-append-le most before (replicate (at + count - length before) fill) (omega arith)
          ∙ take_min at before;
      back =
          ap (drop (at + count)) whole ∙ drop_at (take at wide ++ bytes) (drop (at + count) wide) (at + count) both_size
          ∙ drop-widened before (at + count) fill;
    }

-- the content may be left
pub content_left : (first : List ℕ) (acts : List DiskAct) → may_leave_after first acts (content_after first acts)
content_left first [] = refl
content_left first (DiskAct.Wrote at bytes true ∷ older) = inr (content_after first older, content_left first older, torn (content_after first older) at (length bytes) bytes 0 refl)
content_left first (DiskAct.Wrote at bytes false ∷ older) = inl (content_left first older)
content_left first (DiskAct.Synced true ∷ older) = refl
content_left first (DiskAct.Synced false ∷ older) = content_left first older

-- the image may be left
pub image_left : (fill : ℕ) (first : List ℕ) (acts : List DiskAct) → may_leave_after first acts (image_after fill first acts)
image_left fill first [] = refl
image_left fill first (DiskAct.Wrote at bytes is_ok ∷ older) =
    inr (image_after fill first older, image_left fill first older, torn (image_after fill first older) at (length bytes) (replicate (length bytes) fill) fill (length-replicate (length bytes) fill))
image_left fill first (DiskAct.Synced true ∷ older) = refl
image_left fill first (DiskAct.Synced false ∷ older) = image_left fill first older

pub left_since_now : (first : List ℕ) (acts : List DiskAct) (bytes : List ℕ) → may_leave_after first acts bytes → may_have_left_after first acts (length acts) bytes
left_since_now first [] bytes left = left
left_since_now first (act ∷ older) bytes left = inl left

pub only_since_now : (first : List ℕ) (acts : List DiskAct) (bytes : List ℕ) → may_have_left_after first acts (length acts) bytes → may_leave_after first acts bytes
only_since_now first [] bytes left = left
only_since_now first (act ∷ older) bytes (inl left) = left
only_since_now first (act ∷ older) bytes (inr (late, left)) = absurd (omega (arith, late))

pub more_since : (first : List ℕ) (acts : List DiskAct) (early late : ℕ) (bytes : List ℕ) → early ≤ late → may_have_left_after first acts late bytes → may_have_left_after first acts early bytes
more_since first [] early late bytes le left = left
more_since first (act ∷ older) early late bytes le (inl left) = inl left
more_since first (act ∷ older) early late bytes le (inr (since, left)) = inr (omega (arith, le, since), more_since first older early late bytes le left)

-- one act goes by
pub goes_on : (first : List ℕ) (act : DiskAct) (older : List DiskAct)
    → GoesOn (length older) (length (act ∷ older)) (may_have_left_after first older) (may_have_left_after first (act ∷ older)) (may_leave_after first (act ∷ older))
goes_on first act older = record {
  later = omega arith;
  adds = λ time le. record {
    there = λ bytes. elim [ inl left ↦ inr left | inr since ↦ inl since.1 ];
    back = λ bytes. elim [ inl was ↦ inr (le, was) | inr left ↦ inl left ];
  };
}
