-- Frames at the front of a stream.
use Rattle.std.proofs.Common.{◌≡◌, ℕ, ◌+◌, ◌-◌, ◌^◌, ◌<◌, ◌≤◌, Bool, true, false, cond, nat_lt, List, [], ◌∷◌, ◌++◌, length, take, drop, Option, Some, None, get_or, refl, sym, ap, subst, ◌∙◌, append_assoc, arith, inl, inr}
use Rattle.std.specs.Int.{w32, from_be_bytes}
use Rattle.std.specs.List.{flat_map, AllByRecursion}
use Rattle.std.proofs.lemmas.Bool.{cases_lt, ltb-true, ltb-false, le-ltb, lt-ltb, le-leb, lt-leb, and_from}
use Rattle.std.proofs.lemmas.List.{take_at, drop_at, length-append, length-drop, get_or_append_left, get_or-append-add}
use Rattle.std.proofs.lemmas.List.Concat.{flat_map-cons}
use Rattle.std.proofs.lemmas.Nat.{be_bytes_4, from_be_bytes-to_be_bytes_4}
use Rattle.eris_codec.specs.Fields.{word}
use Rattle.eris_frame.specs.Frames.{longest, frame, is_message, length_told, is_too_long, is_long, is_whole, has_frame, Splits}
use Rattle.eris_frame.proofs.Windows.{four_from}
use Rattle.eris_codec.proofs.Laws.{IsBytes}

pub both_bytes : (front piece : List ℕ) → IsBytes front → IsBytes piece → IsBytes (front ++ piece)
both_bytes front piece h k i =
    elim (cases_lt i (length front)) [
      | inl lt ↦ rw (get_or_append_left front piece 0 i lt) (h i)
      | inr le ↦
          let more : length front + (i - length front) ≡ i = omega arith in
          subst (λ (n : ℕ). get_or (front ++ piece) n 0 < 256) more (rw (get_or-append-add front piece (i - length front) 0) (k (i - length front)))
    ]

word_len : (n : ℕ) → length (word.spell n) ≡ 4
unfolding word
word_len n = refl

word_back : (n : ℕ) → n < 2 ^ 32 → from_be_bytes w32 (word.spell n) ≡ n
unfolding word
word_back n lt = from_be_bytes-to_be_bytes_4 n lt

pub word_again : (bytes : List ℕ) → length bytes ≡ 4 → IsBytes bytes → word.spell (from_be_bytes w32 bytes) ≡ bytes
unfolding word
word_again bytes len fits = be_bytes_4 bytes _ len fits refl

-- ---- lengths at the front
pub told_at : (head rest : List ℕ) → length head ≡ 4 → length_told (head ++ rest) ≡ Some (from_be_bytes w32 head)
unfolding length_told
told_at head rest len =
    let long : nat_lt (length (head ++ rest)) 4 ≡ false = le-ltb _ _ (omega (arith, length-append head rest)) in
    rw (long, take_at head rest 4 len) refl

-- no length is told where fewer than four bytes are left, and else that of the next four
pub told_none : (front piece : List ℕ) (at : ℕ) → length front + length piece - at < 4 → length_told (drop at (front ++ piece)) ≡ None
unfolding length_told
told_none front piece at h =
    let few : nat_lt (length (drop at (front ++ piece))) 4 ≡ true = lt-ltb _ _ (omega (arith, length-drop at (front ++ piece), length-append front piece)) in
    rw few refl

pub told_some : (front piece : List ℕ) (at : ℕ) → at + 4 ≤ length front + length piece
    → length_told (drop at (front ++ piece)) ≡ Some (from_be_bytes w32 (get_or (front ++ piece) at 0 ∷ get_or (front ++ piece) (at + 1) 0 ∷ get_or (front ++ piece) (at + 2) 0 ∷ get_or (front ++ piece) (at + 3) 0 ∷ []))
unfolding length_told
told_some front piece at h =
    let whole : nat_lt (length (drop at (front ++ piece))) 4 ≡ false = le-ltb _ _ (omega (arith, length-drop at (front ++ piece), length-append front piece)) in
    rw (whole, four_from (front ++ piece) at (omega (arith, length-append front piece))) refl

-- what stands at the front tells the length
pub told_same : (bytes other : List ℕ) → 4 ≤ length bytes → 4 ≤ length other → take 4 bytes ≡ take 4 other → length_told bytes ≡ length_told other
unfolding length_told
told_same bytes other h k same = rw (le-ltb (length bytes) 4 h, le-ltb (length other) 4 k, same) refl

frame_front : (message rest : List ℕ) → frame message ++ rest ≡ word.spell (length message) ++ (message ++ rest)
unfolding frame
frame_front message rest = append_assoc (word.spell (length message)) message rest

told_frame : (message rest : List ℕ) → is_message message → length_told (frame message ++ rest) ≡ Some (length message)
told_frame message rest h =
    ap length_told (frame_front message rest)
    ∙ told_at (word.spell (length message)) (message ++ rest) (word_len (length message))
    ∙ ap (λ (n : ℕ). made n) (word_back (length message) (omega arith))
  where
    made : ℕ → Option ℕ
    made n = Some n

frame_length : (message rest : List ℕ) → 4 + length message ≤ length (frame message ++ rest)
frame_length message rest =
    let e = ap length (frame_front message rest) in
    let f = length-append (word.spell (length message)) (message ++ rest) in
    let g = length-append message rest in
    let four = word_len (length message) in
    omega arith

pub has_frame-frame : (message rest : List ℕ) → is_message message → has_frame (frame message ++ rest) ≡ true
unfolding has_frame
has_frame-frame message rest h =
    rw (told_frame message rest h) (and_from _ _ (le-leb (length message) longest h) (le-leb (4 + length message) _ (frame_length message rest)))

long_not_whole : (told : Option ℕ) (len : ℕ) → is_too_long told ≡ true → is_whole told len ≡ false
long_not_whole None len h = refl
long_not_whole (Some n) len h = rw (lt-leb n longest (ltb-true longest n h)) refl

-- no frame stands where the length is too long
pub long_no_frame : (bytes : List ℕ) → is_long bytes ≡ true → has_frame bytes ≡ false
unfolding is_long has_frame
long_no_frame bytes h = long_not_whole (length_told bytes) (length bytes) h

pub long_has_four : (bytes : List ℕ) → is_long bytes ≡ true → 4 ≤ length bytes
unfolding is_long length_told
long_has_four bytes h = by (nat_lt (length bytes) 4) refl h
  where
    by : (t : Bool) → nat_lt (length bytes) 4 ≡ t → is_too_long (cond t None (Some (from_be_bytes w32 (take 4 bytes)))) ≡ true → 4 ≤ length bytes
    by true e k = absurd cc
    by false e k = ltb-false _ _ e

pub long_same : (bytes other : List ℕ) → 4 ≤ length bytes → 4 ≤ length other → take 4 bytes ≡ take 4 other → is_long bytes ≡ is_long other
unfolding is_long
long_same bytes other h k same = ap is_too_long (told_same bytes other h k same)

-- ---- a stream splits in one way
record One (message other rest more : List ℕ) : Type 0 where
  first : message ≡ other
  after : rest ≡ more

one_frame : (message other rest more : List ℕ) → is_message message → is_message other → frame message ++ rest ≡ frame other ++ more → One message other rest more
one_frame message other rest more h k e =
    let told : made (length message) ≡ made (length other) = sym (told_frame message rest h) ∙ ap length_told e ∙ told_frame other more k in
    let len : length message ≡ length other = some_is (length message) (length other) told in
    let inside : message ++ rest ≡ other ++ more =
    sym (ap (λ (z : List ℕ). drop 4 z) (frame_front message rest) ∙ drop_at (word.spell (length message)) (message ++ rest) 4 (word_len (length message)))
    ∙ ap (λ (z : List ℕ). drop 4 z) e
    ∙ ap (λ (z : List ℕ). drop 4 z) (frame_front other more) ∙ drop_at (word.spell (length other)) (other ++ more) 4 (word_len (length other)) in
    record {
      first = sym (take_at message rest (length message) refl) ∙ ap (λ (z : List ℕ). take (length message) z) inside ∙ take_at other more (length message) (sym len);
      after = sym (drop_at message rest (length message) refl) ∙ ap (λ (z : List ℕ). drop (length message) z) inside ∙ drop_at other more (length message) (sym len);
    }
  where
    made : ℕ → Option ℕ
    made n = Some n

    some_is : (a b : ℕ) → made a ≡ made b → a ≡ b
    some_is a b e = cc

frames_cons : (message : List ℕ) (messages : List (List ℕ)) (rest : List ℕ) → flat_map frame (message ∷ messages) ++ rest ≡ frame message ++ (flat_map frame messages ++ rest)
frames_cons message messages rest = ap (λ (z : List ℕ). z ++ rest) (flat_map-cons frame message messages) ∙ append_assoc (frame message) (flat_map frame messages) rest

pub record Same (messages others : List (List ℕ)) (rest more : List ℕ) : Type 0 where
  pub told : messages ≡ others
  pub left : rest ≡ more

split_once : (messages others : List (List ℕ)) (rest more : List ℕ) → AllByRecursion is_message messages → AllByRecursion is_message others → has_frame rest ≡ false → has_frame more ≡ false
    → flat_map frame messages ++ rest ≡ flat_map frame others ++ more → Same messages others rest more
split_once [] [] rest more h k r s e = record { told = refl; left = e }
split_once [] (other ∷ others) rest more h k r s e =
    let found = ap has_frame (e ∙ frames_cons other others more) ∙ has_frame-frame other (flat_map frame others ++ more) k.0 in
    absurd cc
split_once (message ∷ messages) [] rest more h k r s e =
    let found = ap has_frame (sym e ∙ frames_cons message messages rest) ∙ has_frame-frame message (flat_map frame messages ++ rest) h.0 in
    absurd cc
split_once (message ∷ messages) (other ∷ others) rest more h k r s e =
    let one = one_frame message other (flat_map frame messages ++ rest) (flat_map frame others ++ more) h.0 k.0 (sym (frames_cons message messages rest) ∙ e ∙ frames_cons other others more) in
    let all = split_once messages others rest more h.1 k.1 r s one.after in
    record { told = ap (λ (z : List ℕ). z ∷ messages) one.first ∙ ap (λ (z : List (List ℕ)). other ∷ z) all.told; left = all.left }

pub splits_once : (stream : List ℕ) (messages others : List (List ℕ)) (rest more : List ℕ) → Splits stream messages rest → Splits stream others more → Same messages others rest more
splits_once stream messages others rest more some other = split_once messages others rest more some.each other.each some.ends other.ends (sym some.whole ∙ other.whole)
