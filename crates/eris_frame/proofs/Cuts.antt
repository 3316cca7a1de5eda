-- Whole frames cut off a stream, one after the other.
use Rattle.std.proofs.Common.{◌≡◌, ℕ, ◌+◌, ◌-◌, ◌<◌, ◌≤◌, ◌==◌, ◌&&◌, Bool, true, false, cond, nat_lt, nat_le, List, [], ◌∷◌, ◌++◌, length, take, drop, Option, Some, None, Result, Ok, Err, refl, sym, ap, subst, ◌∙◌, arith}
use Rattle.std.specs.Int.{w32, from_be_bytes}
use Rattle.std.specs.List.{flat_map, AllByRecursion}
use Rattle.std.proofs.lemmas.Bool.{leb-true, ne_eqb}
use Rattle.std.proofs.lemmas.Grind.{flat_map-append}
use Rattle.std.proofs.lemmas.List.{append-nil, drop-drop, length-drop, length-take-le}
use Rattle.std.proofs.lemmas.List.Concat.{flat_map-cons}
use Rattle.std.proofs.Math.Seq.{take-add}
use Rattle.eris_base.proofs.Booleans.{left_of, right_of}
use Rattle.eris_base.proofs.Each.{All-append}
use Rattle.eris_frame.specs.declared.framing.FrameFault.{FrameFault}
use Rattle.eris_frame.specs.declared.framing.FrameFault.TheVariants as faults
use Rattle.eris_codec.specs.Fields.{word}
use Rattle.eris_frame.specs.Frames.{longest, frame, is_message, length_told, is_long, is_whole, has_frame, end_told, frame_end, IsCut, kept, Tells}
use Rattle.eris_frame.proofs.FrameLaws.{word_again}
use Rattle.eris_codec.proofs.Laws.{IsBytes, IsBytes-drop, IsBytes-take}
use Rattle.eris_frame.proofs.Streams.{cut_feeds, is_long-kept, long_feeds}

record EndTold (told : Option ℕ) (at len end : ℕ) : Type 0 where
  n : ℕ
  is : told ≡ Some n
  small : n ≤ longest
  fits : 4 + n ≤ len
  ends : at + 4 + n ≡ end

end_is : (told : Option ℕ) (at len end : ℕ) → end_told told at len ≡ Some end → EndTold told at len end
end_is None at len end e = absurd cc
end_is (Some n) at len end e = by (is_whole (Some n) len) refl e
  where
    by : (t : Bool) → is_whole (Some n) len ≡ t → cond t (Some (at + 4 + n)) None ≡ Some end → EndTold (Some n) at len end
    by true w h = record {
      n = n;
      is = refl;
      small = leb-true _ _ (left_of (nat_le n longest) (nat_le (4 + n) len) w);
      fits = leb-true _ _ (right_of (nat_le n longest) (nat_le (4 + n) len) w);
      ends = cc;
    }
    by false w h = absurd cc

none_is : (told : Option ℕ) (at len : ℕ) → end_told told at len ≡ None → is_whole told len ≡ false
none_is None at len e = refl
none_is (Some n) at len e = by (is_whole (Some n) len) refl e
  where
    by : (t : Bool) → is_whole (Some n) len ≡ t → cond t (Some (at + 4 + n)) None ≡ None → is_whole (Some n) len ≡ false
    by true w h = absurd cc
    by false w h = w

told_is : (bytes : List ℕ) (n : ℕ) → length_told bytes ≡ Some n → from_be_bytes w32 (take 4 bytes) ≡ n
unfolding length_told
told_is bytes n e = by (nat_lt (length bytes) 4) e
  where
    by : (t : Bool) → cond t None (Some (from_be_bytes w32 (take 4 bytes))) ≡ Some n → from_be_bytes w32 (take 4 bytes) ≡ n
    by true h = absurd cc
    by false h = cc

-- the frame at the front of the bytes, of a length that is told and that is there
first_frame : (bytes : List ℕ) (n : ℕ) → IsBytes bytes → length_told bytes ≡ Some n → 4 + n ≤ length bytes → frame (take n (drop 4 bytes)) ≡ take (4 + n) bytes
unfolding frame
first_frame bytes n fine told fits =
    let len : length (take n (drop 4 bytes)) ≡ n = length-take-le n (drop 4 bytes) (omega (arith, length-drop 4 bytes)) in
    let four : length (take 4 bytes) ≡ 4 = length-take-le 4 bytes (omega arith) in
    let head : word.spell n ≡ take 4 bytes = ap (λ (k : ℕ). word.spell k) (sym (told_is bytes n told)) ∙ word_again (take 4 bytes) four (IsBytes-take 4 bytes fine) in
    ap (λ (k : ℕ). word.spell k ++ take n (drop 4 bytes)) len
    ∙ ap (λ (z : List ℕ). z ++ take n (drop 4 bytes)) head
    ∙ sym (take-add 4 n bytes)

pub record CutMore (stream : List ℕ) (messages : List (List ℕ)) (at end : ℕ) : Type 0 where
  pub later : at < end
  pub within : end ≤ length stream
  pub front : take end stream ≡ flat_map frame messages
  pub each : AllByRecursion is_message messages

one_more : (messages : List (List ℕ)) (message : List ℕ) → flat_map frame (messages ++ message ∷ []) ≡ flat_map frame messages ++ frame message
one_more messages message =
    flat_map-append frame messages (message ∷ [])
    ∙ ap (λ (z : List ℕ). flat_map frame messages ++ z) (flat_map-cons frame message [] ∙ append-nil (frame message))

pub cut_more : (stream : List ℕ) (messages : List (List ℕ)) (at end : ℕ) → IsBytes stream → at ≤ length stream → take at stream ≡ flat_map frame messages → AllByRecursion is_message messages
    → frame_end stream at ≡ Some end → CutMore stream (messages ++ take (end - (at + 4)) (drop (at + 4) stream) ∷ []) at end
unfolding frame_end
cut_more stream messages at end fine within front each e =
    let t = end_is (length_told (drop at stream)) at (length (drop at stream)) end e in
    let n = t.n in
    let message = take (end - (at + 4)) (drop (at + 4) stream) in
    let behind : drop 4 (drop at stream) ≡ drop (at + 4) stream = drop-drop 4 at stream in
    let count : end - (at + 4) ≡ n = omega (arith, t.ends) in
    let is : message ≡ take n (drop 4 (drop at stream)) = ap (λ (k : ℕ). take k (drop (at + 4) stream)) count ∙ ap (λ (z : List ℕ). take n z) (sym behind) in
    let rest = length-drop at stream in
    let framed : frame message ≡ take (4 + n) (drop at stream) = ap frame is ∙ first_frame (drop at stream) n (IsBytes-drop at stream fine) t.is t.fits in
    let len : length message ≡ n = ap length is ∙ length-take-le n (drop 4 (drop at stream)) (omega (arith, length-drop 4 (drop at stream), t.fits)) in
    let whole : end ≡ at + (4 + n) = omega (arith, t.ends) in
    record {
      later = omega (arith, t.ends);
      within = omega (arith, t.ends, t.fits, rest);
      front =
          ap (λ (k : ℕ). take k stream) whole
          ∙ take-add at (4 + n) stream
          ∙ ap (λ (z : List ℕ). z ++ take (4 + n) (drop at stream)) front
          ∙ ap (λ (z : List ℕ). flat_map frame messages ++ z) (sym framed)
          ∙ sym (one_more messages message);
      each = All-append is_message messages (message ∷ []) each (subst (λ (k : ℕ). k ≤ longest) (sym len) t.small, tt);
    }

pub cut_done : (stream : List ℕ) (messages : List (List ℕ)) (at : ℕ) → at ≤ length stream → take at stream ≡ flat_map frame messages → AllByRecursion is_message messages → frame_end stream at ≡ None → IsCut stream messages at
unfolding frame_end has_frame
cut_done stream messages at within front each e =
    record { within = within; front = front; each = each; ends = none_is (length_told (drop at stream)) at (length (drop at stream)) e }

-- ---- what is told of a cut
abbrev pub told_by : Bool → List (List ℕ) → Result (List (List ℕ)) FrameFault
told_by long messages = cond (long && (length messages == 0)) (Err faults.Long) (Ok messages)

not_both : {A : Type 0} (t u : Bool) (a b : A) → u ≡ false → cond (t && u) a b ≡ b
not_both true true a b e = absurd cc
not_both true false a b e = refl
not_both false u a b e = refl

tells_cut : (old piece : List ℕ) (messages : List (List ℕ)) (at : ℕ) (new : List ℕ) (long : Bool) → IsCut (old ++ piece) messages at → new ≡ kept (drop at (old ++ piece)) → long ≡ is_long (drop at (old ++ piece))
    → Tells (told_by long messages) old piece new
tells_cut old piece [] at new true cut keeps is = (cut_feeds old piece [] at new cut keeps, ap is_long keeps ∙ is_long-kept (drop at (old ++ piece)) ∙ sym is)
tells_cut old piece [] at new false cut keeps is = (cut_feeds old piece [] at new cut keeps, λ none. ap is_long keeps ∙ is_long-kept (drop at (old ++ piece)) ∙ sym is)
tells_cut old piece (message ∷ messages) at new long cut keeps is =
    let some : (length (message ∷ messages) == 0) ≡ false = ne_eqb (length (message ∷ messages)) 0 (λ e. absurd (omega (arith, e))) in
    subst (λ (r : Result (List (List ℕ)) FrameFault). Tells r old piece new) (sym (not_both long (length (message ∷ messages) == 0) (Err faults.Long) (Ok (message ∷ messages)) some))
    (cut_feeds old piece (message ∷ messages) at new cut keeps, λ none. absurd cc)

-- the same of what was read from the feed on the way
pub tells_fed : (self old front again piece : List ℕ) (messages : List (List ℕ)) (at : ℕ) (new : List ℕ) (long : Bool) (r : Result (List (List ℕ)) FrameFault)
    → self ≡ old → front ≡ old → again ≡ old → IsCut (front ++ piece) messages at → new ≡ kept (drop at (old ++ piece)) → long ≡ is_long (drop at (again ++ piece)) → r ≡ told_by long messages → Tells r self piece new
tells_fed self old front again piece messages at new long r s f a cut keeps is told =
    let cut_old : IsCut (old ++ piece) messages at = subst (λ (z : List ℕ). IsCut (z ++ piece) messages at) f cut in
    let is_old : long ≡ is_long (drop at (old ++ piece)) = subst (λ (z : List ℕ). long ≡ is_long (drop at (z ++ piece))) a is in
    subst (λ (z : List ℕ). Tells r z piece new) (sym s)
    (subst (λ (z : Result (List (List ℕ)) FrameFault). Tells z old piece new) (sym told) (tells_cut old piece messages at new long cut_old keeps is_old))

-- a feed to which a length above the limit has come
pub long_fed : (self old front piece : List ℕ) (long : Bool) → self ≡ old → front ≡ old → kept old ≡ old → long ≡ is_long front → long ≡ true → Tells (Err faults.Long) self piece self
long_fed self old front piece long s f same is h =
    let now : is_long old ≡ true = ap is_long (sym f) ∙ sym is ∙ h in
    subst (λ (z : List ℕ). Tells (Err faults.Long) z piece z) (sym s) (long_feeds old piece now same, now)
