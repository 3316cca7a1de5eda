-- One call more, and what was done by the calls.
use Rattle.std.proofs.Common.{◌≡◌, ℕ, zero, suc, inl, inr, ◌+◌, ◌-◌, ◌*◌, ◌≤◌, Bool, true, false, List, [], ◌∷◌, ◌++◌, length, take, drop, map, refl, sym, ◌∙◌, ap, subst, arith, length-append, length-drop, append_assoc}
use Rattle.std.specs.Prelude.{reverse, Result, Ok, Err, IfOk}
use Rattle.std.proofs.lemmas.List.{append-nil, take_all, take-append-le, drop-append-le, length-take-le, nil_from_length, reverse-append, drop-drop}
use Rattle.eris_disk.specs.declared.disk_call.DiskCall.{DiskCall}
use Rattle.eris_disk.specs.declared.disk_call.DiskCall.TheVariants.{Write, Sync}
use Rattle.eris_disk.specs.Histories.{DiskAct, told, done_by, written_by, filled, after_write, content_after, image_after, replayed, filled_by, none_synced, IsShort, AreShort, EndsSynced}
use Rattle.eris_disk.specs.DiskValues.{DiskValue, IsBook, after_act, may_leave}
use Rattle.eris_disk.specs.DiskLaws.{image_left}

pub written_by-write : (calls : List DiskCall) (at count : ℕ) (is_ok : Bool) → written_by (calls ++ Write at count is_ok ∷ []) ≡ written_by calls + count
written_by-write [] at count is_ok = omega arith
written_by-write (Write a n o ∷ calls) at count is_ok = omega (arith, written_by-write calls at count is_ok)
written_by-write (Sync o ∷ calls) at count is_ok = written_by-write calls at count is_ok

pub written_by-sync : (calls : List DiskCall) (is_ok : Bool) → written_by (calls ++ Sync is_ok ∷ []) ≡ written_by calls
written_by-sync [] is_ok = refl
written_by-sync (Write a n o ∷ calls) is_ok = ap (λ k. n + k) (written_by-sync calls is_ok)
written_by-sync (Sync o ∷ calls) is_ok = written_by-sync calls is_ok

pub done_by-sync : (calls : List DiskCall) (written : List ℕ) (older : List DiskAct) (is_ok : Bool) → done_by (calls ++ Sync is_ok ∷ []) written older ≡ DiskAct.Synced is_ok ∷ done_by calls written older
done_by-sync [] written older is_ok = refl
done_by-sync (Write a n o ∷ calls) written older is_ok = done_by-sync calls (drop n written) (DiskAct.Wrote a (take n written) o ∷ older) is_ok
done_by-sync (Sync o ∷ calls) written older is_ok = done_by-sync calls written (DiskAct.Synced o ∷ older) is_ok

pub done_by-write : (calls : List DiskCall) (written : List ℕ) (older : List DiskAct) (at : ℕ) (bytes : List ℕ) (is_ok : Bool) → written_by calls ≡ length written
    → done_by (calls ++ Write at (length bytes) is_ok ∷ []) (written ++ bytes) older ≡ DiskAct.Wrote at bytes is_ok ∷ done_by calls written older
done_by-write [] written older at bytes is_ok logged =
    let none : written ≡ [] = nil_from_length written (sym logged) in
    let all : take (length bytes) (written ++ bytes) ≡ bytes = ap (λ w. take (length bytes) (w ++ bytes)) none ∙ take_all _ _ (omega arith) in
    ap (λ b. DiskAct.Wrote at b is_ok ∷ older) all
done_by-write (Write a n o ∷ calls) written older at bytes is_ok logged =
    let fits : n ≤ length written = omega arith in
    let rest : written_by calls ≡ length (drop n written) = omega (arith, length-drop n written) in
    ap (λ w. done_by (calls ++ Write at (length bytes) is_ok ∷ []) w (DiskAct.Wrote a (take n (written ++ bytes)) o ∷ older)) (drop-append-le n written bytes fits)
    ∙ ap (λ w. done_by (calls ++ Write at (length bytes) is_ok ∷ []) (drop n written ++ bytes) (DiskAct.Wrote a w o ∷ older)) (take-append-le n written bytes fits)
    ∙ done_by-write calls (drop n written) (DiskAct.Wrote a (take n written) o ∷ older) at bytes is_ok rest
done_by-write (Sync o ∷ calls) written older at bytes is_ok logged = done_by-write calls written (DiskAct.Synced o ∷ older) at bytes is_ok logged

pub told_by : (calls : List DiskCall) (written : List ℕ) (older : List DiskAct) → written_by calls ≡ length written → reverse (map told (done_by calls written older)) ≡ reverse (map told older) ++ calls
told_by [] written older logged = sym (append-nil (reverse (map told older)))
told_by (Write a n o ∷ calls) written older logged =
    let rest : written_by calls ≡ length (drop n written) = omega (arith, length-drop n written) in
    told_by calls (drop n written) (DiskAct.Wrote a (take n written) o ∷ older) rest
    ∙ ap (λ (l : List DiskCall). l ++ calls) (reverse-append (Write a (length (take n written)) o ∷ []) (map told older))
    ∙ append_assoc (reverse (map told older)) (Write a (length (take n written)) o ∷ []) calls
    ∙ ap (λ k. reverse (map told older) ++ Write a k o ∷ calls) (length-take-le n written (omega arith))
told_by (Sync o ∷ calls) written older logged =
    told_by calls written (DiskAct.Synced o ∷ older) logged ∙ ap (λ (l : List DiskCall). l ++ calls) (reverse-append (Sync o ∷ []) (map told older)) ∙ append_assoc (reverse (map told older)) (Sync o ∷ []) calls

short-push : (calls : List DiskCall) (call : DiskCall) → AreShort calls → IsShort call → AreShort (calls ++ call ∷ [])
short-push [] call so_far one = (one, tt)
short-push (first ∷ calls) call so_far one = (so_far.0, short-push calls call so_far.1 one)

pub short-parts : (calls later : List DiskCall) → AreShort (calls ++ later) → AreShort calls × AreShort later
short-parts [] later all = (tt, all)
short-parts (call ∷ calls) later all = let rest = short-parts calls later all.1 in ((all.0, rest.0), rest.1)

one_less : (spare room : ℕ) → 1 ≤ spare → spare * room ≡ (spare - 1) * room + room
one_less zero room some = absurd (omega arith)
one_less (suc n) room some = let e : suc n - 1 ≡ n = omega arith in rw e (omega arith)

pub book_writes : (first content written : List ℕ) (calls : List DiskCall) (is_begun : Bool) (room spare content_room written_room calls_room at : ℕ) (bytes : List ℕ) (is_ok : Bool)
    (content2 written2 : List ℕ) (calls2 : List DiskCall) (spare2 content_room2 written_room2 calls_room2 : ℕ)
    → IsBook first content written calls is_begun room spare content_room written_room calls_room
    → 1 ≤ spare → at + length bytes ≤ room
    → content2 ≡ after_write content at bytes is_ok → written2 ≡ written ++ bytes → calls2 ≡ calls ++ Write at (length bytes) is_ok ∷ [] → spare2 ≡ spare - 1
    → content_room ≤ content_room2 → written_room ≤ written_room2 → calls_room ≤ calls_room2
    → IsBook first content2 written2 calls2 is_begun room spare2 content_room2 written_room2 calls_room2
book_writes first content written calls is_begun room spare content_room written_room calls_room at bytes is_ok content2 written2 calls2 spare2 content_room2 written_room2 calls_room2 book some within content_is written_is calls_is spare_is c w k = record {
  copied = λ begun.
      content_is ∙ ap (λ l. after_write l at bytes is_ok) (book.copied begun)
      ∙ sym (ap (content_after first) (ap (λ l. done_by l written2 []) calls_is ∙ ap (λ l. done_by (calls ++ Write at (length bytes) is_ok ∷ []) l []) written_is ∙ done_by-write calls written [] at bytes is_ok book.logged));
  unused = λ unbegun. absurd (let none : spare ≡ 0 = book.unready unbegun in omega arith);
  unready = λ unbegun. absurd (let none : spare ≡ 0 = book.unready unbegun in omega arith);
  logged = ap written_by calls_is ∙ omega (arith, written_by-write calls at (length bytes) is_ok, book.logged, ap length written_is, length-append written bytes);
  holds_content = omega (arith, book.holds_content);
  holds_written = let e : spare2 * room ≡ (spare - 1) * room = ap (λ n. n * room) spare_is in
      omega (arith, book.holds_written, one_less spare room some, e, ap length written_is, length-append written bytes);
  holds_calls = omega (arith, book.holds_calls, ap length calls_is, length-append calls (Write at (length bytes) is_ok ∷ []));
  few = omega (arith, book.few);
  short = book.short;
  short_calls = subst AreShort (sym calls_is) (short-push calls (Write at (length bytes) is_ok) book.short_calls (omega (arith, book.short)));
}

pub book_syncs : (first content written : List ℕ) (calls : List DiskCall) (is_begun : Bool) (room spare content_room written_room calls_room : ℕ) (is_ok : Bool) (calls2 : List DiskCall) (spare2 calls_room2 : ℕ)
    → IsBook first content written calls is_begun room spare content_room written_room calls_room
    → 1 ≤ spare → calls2 ≡ calls ++ Sync is_ok ∷ [] → spare2 ≡ spare - 1 → calls_room ≤ calls_room2
    → IsBook first content written calls2 is_begun room spare2 content_room written_room calls_room2
book_syncs first content written calls is_begun room spare content_room written_room calls_room is_ok calls2 spare2 calls_room2 book some calls_is spare_is k = record {
  copied = λ begun. book.copied begun ∙ sym (ap (content_after first) (ap (λ l. done_by l written []) calls_is ∙ done_by-sync calls written [] is_ok));
  unused = λ unbegun. absurd (let none : spare ≡ 0 = book.unready unbegun in omega arith);
  unready = λ unbegun. absurd (let none : spare ≡ 0 = book.unready unbegun in omega arith);
  logged = ap written_by calls_is ∙ written_by-sync calls is_ok ∙ book.logged;
  holds_content = book.holds_content;
  holds_written = let e : spare2 * room ≡ (spare - 1) * room = ap (λ n. n * room) spare_is in omega (arith, book.holds_written, one_less spare room some, e);
  holds_calls = omega (arith, book.holds_calls, ap length calls_is, length-append calls (Sync is_ok ∷ []));
  few = omega (arith, book.few);
  short = book.short;
  short_calls = subst AreShort (sym calls_is) (short-push calls (Sync is_ok) book.short_calls tt);
}

-- the calls in two parts, one after the other
done_by-append : (calls later : List DiskCall) (written : List ℕ) (older : List DiskAct) → done_by (calls ++ later) written older ≡ done_by later (drop (written_by calls) written) (done_by calls written older)
done_by-append [] later written older = refl
done_by-append (Write a n o ∷ calls) later written older =
    done_by-append calls later (drop n written) (DiskAct.Wrote a (take n written) o ∷ older)
    ∙ ap (λ l. done_by later l (done_by calls (drop n written) (DiskAct.Wrote a (take n written) o ∷ older))) (drop-drop (written_by calls) n written)
done_by-append (Sync o ∷ calls) later written older = done_by-append calls later written (DiskAct.Synced o ∷ older)

pub written_by-append : (calls later : List DiskCall) → written_by (calls ++ later) ≡ written_by calls + written_by later
written_by-append [] later = omega arith
written_by-append (Write a n o ∷ calls) later = omega (arith, written_by-append calls later)
written_by-append (Sync o ∷ calls) later = written_by-append calls later

pub replays : (first : List ℕ) (calls : List DiskCall) (written : List ℕ) (older : List DiskAct) → content_after first (done_by calls written older) ≡ replayed (content_after first older) calls written
replays first [] written older = refl
replays first (Write a n o ∷ calls) written older = replays first calls (drop n written) (DiskAct.Wrote a (take n written) o ∷ older)
replays first (Sync o ∷ calls) written older = replays first calls written (DiskAct.Synced o ∷ older)

fills : (fill : ℕ) (first : List ℕ) (calls : List DiskCall) (written : List ℕ) (older : List DiskAct) → none_synced calls ≡ true → written_by calls ≤ length written
    → image_after fill first (done_by calls written older) ≡ filled_by fill (image_after fill first older) calls
fills fill first [] written older none logged = refl
fills fill first (Write a n o ∷ calls) written older none logged =
    fills fill first calls (drop n written) (DiskAct.Wrote a (take n written) o ∷ older) none (omega (arith, length-drop n written))
    ∙ ap (λ k. filled_by fill (filled (image_after fill first older) a k fill) calls) (length-take-le n written (omega arith))
fills fill first (Sync true ∷ calls) written older none logged = cc
fills fill first (Sync false ∷ calls) written older none logged = fills fill first calls written (DiskAct.Synced false ∷ older) none logged

-- just after a sync that was Ok, and at the start, the image is the content
settled : (fill : ℕ) (first : List ℕ) (calls : List DiskCall) (written : List ℕ) → EndsSynced calls → image_after fill first (done_by calls written []) ≡ content_after first (done_by calls written [])
settled fill first calls written (inl none) = ap (λ l. image_after fill first (done_by l written [])) none ∙ sym (ap (λ l. content_after first (done_by l written [])) none)
settled fill first calls written (inr (front, is)) =
    let done : done_by calls written [] ≡ DiskAct.Synced true ∷ done_by front written [] = ap (λ l. done_by l written []) is ∙ done_by-sync front written [] true in
    ap (image_after fill first) done ∙ sym (ap (content_after first) done)

pub image_is : (fill : ℕ) (first : List ℕ) (calls before later : List DiskCall) (written : List ℕ) → before ++ later ≡ calls → EndsSynced before → none_synced later ≡ true → written_by calls ≡ length written
    → image_after fill first (done_by calls written []) ≡ filled_by fill (replayed first before written) later
image_is fill first calls before later written whole ends none logged =
    let sum : written_by before + written_by later ≡ length written = sym (written_by-append before later) ∙ ap written_by whole ∙ logged in
    ap (λ l. image_after fill first (done_by l written [])) (sym whole)
    ∙ ap (image_after fill first) (done_by-append before later written [])
    ∙ fills fill first later (drop (written_by before) written) (done_by before written []) none (omega (arith, sum, length-drop (written_by before) written))
    ∙ ap (λ l. filled_by fill l later) (settled fill first before written ends ∙ replays first before written [])

-- a disk's value with one act more
pub value_after : (first : List ℕ) (acts later : List DiskAct) (room spare : ℕ) (act : DiskAct) (now : DiskValue) → later ≡ act ∷ acts
    → (let value : DiskValue = record { first = first; acts = acts; room = room; spare = spare } in value ≡ now)
    → (let value : DiskValue = record { first = first; acts = later; room = room; spare = spare - 1 } in value ≡ after_act now act)
value_after first acts later room spare act now later_is now_is =
    let at : List DiskAct → DiskValue = λ l. record { first = first; acts = l; room = room; spare = spare - 1 } in
    ap at later_is ∙ ap (λ v. after_act v act) now_is

pub image_may_be_left : {E : Type 0} (result : Result (List ℕ) E) (fill : ℕ) (inside now : DiskValue) → inside ≡ now
    → IfOk result (λ image. image ≡ image_after fill inside.first inside.acts) → IfOk result (λ image. may_leave now image)
image_may_be_left (Ok image) fill inside now is exact =
    let P : DiskValue → Type 0 = λ v. may_leave v image in
    subst P is (subst (may_leave inside) (sym exact) (image_left fill inside.first inside.acts))
image_may_be_left (Err e) fill inside now is exact = tt
