-- A stream in pieces: what a feed answers, piece by piece.
use Rattle.std.proofs.Common.{◌≡◌, ℕ, ◌+◌, ◌-◌, ◌≤◌, true, false, List, [], ◌∷◌, ◌++◌, length, take, drop, Result, Ok, Err, refl, sym, ap, subst, ◌∙◌, append_assoc, arith, inl, inr}
use Rattle.std.specs.List.{flat_map}
use Rattle.std.proofs.lemmas.Grind.{flat_map-append}
use Rattle.std.proofs.lemmas.Bool.{cases_Bool}
use Rattle.std.proofs.lemmas.List.{append-nil, take-append-drop, take-append-le, length-append, length-take-le, take_all}
use Rattle.eris_base.proofs.Each.{All-append}
use Rattle.eris_frame.specs.declared.framing.FrameFault.{FrameFault}
use Rattle.eris_frame.specs.declared.framing.FrameFault.TheVariants as faults
use Rattle.eris_frame.specs.Frames.{frame, is_message, length_told, is_long, has_frame, IsCut, Splits, kept, Feeds, Run, messages_in, joined, PiecesJoin}
use Rattle.eris_frame.proofs.FrameLaws.{long_no_frame, long_has_four, long_same, splits_once}

-- ---- what is kept
pub kept_long : (rest : List ℕ) → is_long rest ≡ true → kept rest ≡ take 4 rest
unfolding kept
kept_long rest h = rw h refl

pub kept_short : (rest : List ℕ) → is_long rest ≡ false → kept rest ≡ rest
unfolding kept
kept_short rest h = rw h refl

four : (rest : List ℕ) → is_long rest ≡ true → length (take 4 rest) ≡ 4
four rest h = length-take-le 4 rest (long_has_four rest h)

front_long : (rest more : List ℕ) → is_long rest ≡ true → is_long (take 4 rest ++ more) ≡ true
front_long rest more h =
    let len = four rest h in
    let whole : 4 ≤ length (take 4 rest ++ more) = omega (arith, length-append (take 4 rest) more) in
    let same : take 4 (take 4 rest ++ more) ≡ take 4 rest = take-append-le 4 (take 4 rest) more (omega arith) ∙ take_all 4 (take 4 rest) (omega arith) in
    long_same (take 4 rest ++ more) rest whole (long_has_four rest h) same ∙ h

long_more : (rest more : List ℕ) → is_long rest ≡ true → is_long (rest ++ more) ≡ true
long_more rest more h =
    let has = long_has_four rest h in
    let whole : 4 ≤ length (rest ++ more) = omega (arith, length-append rest more) in
    long_same (rest ++ more) rest whole has (take-append-le 4 rest more has) ∙ h

long_kept : (rest : List ℕ) → is_long rest ≡ true → is_long (kept rest) ≡ true
long_kept rest h =
    let e : take 4 rest ++ [] ≡ kept rest = append-nil (take 4 rest) ∙ sym (kept_long rest h) in
    subst (λ (z : List ℕ). is_long z ≡ true) e (front_long rest [] h)

pub is_long-kept : (rest : List ℕ) → is_long (kept rest) ≡ is_long rest
is_long-kept rest = elim (cases_Bool (is_long rest)) [
  | inl long ↦ long_kept rest long ∙ sym long
  | inr short ↦ ap is_long (kept_short rest short)
]

-- what is kept of what was kept is that
pub kept-kept : (rest : List ℕ) → kept (kept rest) ≡ kept rest
kept-kept rest = elim (cases_Bool (is_long rest)) [
  | inl long ↦
      kept_long (kept rest) (long_kept rest long)
      ∙ ap (λ (z : List ℕ). take 4 z) (kept_long rest long)
      ∙ take_all 4 (take 4 rest) (omega (arith, four rest long))
      ∙ sym (kept_long rest long)
  | inr short ↦ ap kept (kept_short rest short)
]

-- ---- one piece
-- where no message is completed, the piece is added
pub kept_start : (old piece : List ℕ) → is_long (old ++ piece) ≡ false → kept (old ++ piece) ≡ old ++ piece
kept_start old piece short = kept_short (old ++ piece) short

pub cut_feeds : (old piece : List ℕ) (messages : List (List ℕ)) (at : ℕ) (new : List ℕ) → IsCut (old ++ piece) messages at → new ≡ kept (drop at (old ++ piece)) → Feeds old piece messages new
cut_feeds old piece messages at new cut keeps = record {
  rest = drop at (old ++ piece);
  splits = record {
    whole = sym (take-append-drop at (old ++ piece)) ∙ ap (λ (z : List ℕ). z ++ drop at (old ++ piece)) cut.front;
    each = cut.each;
    ends = cut.ends;
  };
  keeps = keeps;
}

-- after a length above the limit nothing is told, and nothing changes
pub long_feeds : (old piece : List ℕ) → is_long old ≡ true → kept old ≡ old → Feeds old piece [] old
long_feeds old piece h same = record {
  rest = old ++ piece;
  splits = record { whole = refl; each = tt; ends = long_no_frame (old ++ piece) (long_more old piece h) };
  keeps = sym same ∙ kept_long old h ∙ sym (take-append-le 4 old piece (long_has_four old h)) ∙ sym (kept_long (old ++ piece) (long_more old piece h));
}

-- ---- all pieces
-- the stream so far splits, and its rest is what is kept
pub record SoFar (stream : List ℕ) (messages : List (List ℕ)) (old : List ℕ) : Type 0 where
  pub rest : List ℕ
  pub splits : Splits stream messages rest
  pub keeps : old ≡ kept rest

no_frames : (rest piece : List ℕ) (messages : List (List ℕ)) (more : List ℕ) → is_long rest ≡ true → Splits (take 4 rest ++ piece) messages more → (messages ≡ []) × (more ≡ take 4 rest ++ piece)
no_frames rest piece messages more h s =
    let none : Splits (take 4 rest ++ piece) [] (take 4 rest ++ piece) = record { whole = refl; each = tt; ends = long_no_frame (take 4 rest ++ piece) (front_long rest piece h) } in
    let once = splits_once (take 4 rest ++ piece) messages [] more (take 4 rest ++ piece) s none in
    (once.told, once.left)

goes_on_short : (stream : List ℕ) (messages : List (List ℕ)) (rest piece : List ℕ) (more : List (List ℕ)) (new : List ℕ) → Splits stream messages rest → is_long rest ≡ false → Feeds (kept rest) piece more new → SoFar (stream ++ piece) (messages ++ more) new
goes_on_short stream messages rest piece more new s short f = record {
  rest = f.rest;
  splits = record {
    whole =
        ap (λ (z : List ℕ). z ++ piece) s.whole
        ∙ append_assoc (flat_map frame messages) rest piece
        ∙ ap (λ (z : List ℕ). flat_map frame messages ++ (z ++ piece)) (sym (kept_short rest short))
        ∙ ap (λ (z : List ℕ). flat_map frame messages ++ z) f.splits.whole
        ∙ sym (append_assoc (flat_map frame messages) (flat_map frame more) f.rest)
        ∙ ap (λ (z : List ℕ). z ++ f.rest) (sym (flat_map-append frame messages more));
    each = All-append is_message messages more s.each f.splits.each;
    ends = f.splits.ends;
  };
  keeps = f.keeps;
}

goes_on_long : (stream : List ℕ) (messages : List (List ℕ)) (rest piece : List ℕ) (more : List (List ℕ)) (new : List ℕ) → Splits stream messages rest → is_long rest ≡ true → Feeds (kept rest) piece more new → SoFar (stream ++ piece) (messages ++ more) new
goes_on_long stream messages rest piece more new s long f =
    let same = kept_long rest long in
    let split : Splits (take 4 rest ++ piece) more f.rest = subst (λ (z : List ℕ). Splits (z ++ piece) more f.rest) same f.splits in
    let none = no_frames rest piece more f.rest long split in
    let ends = long_no_frame (rest ++ piece) (long_more rest piece long) in
    let all : messages ++ more ≡ messages = ap (λ (z : List (List ℕ)). messages ++ z) none.0 ∙ append-nil messages in
    let whole : Splits (stream ++ piece) messages (rest ++ piece) = record {
      whole = ap (λ (z : List ℕ). z ++ piece) s.whole ∙ append_assoc (flat_map frame messages) rest piece;
      each = s.each;
      ends = ends;
    } in
    let has = long_has_four rest long in
    let front : take 4 (take 4 rest ++ piece) ≡ take 4 (rest ++ piece) =
    take-append-le 4 (take 4 rest) piece (omega (arith, four rest long)) ∙ take_all 4 (take 4 rest) (omega (arith, four rest long)) ∙ sym (take-append-le 4 rest piece has) in
    let keeps : new ≡ kept (rest ++ piece) =
    f.keeps ∙ ap kept none.1
    ∙ kept_long (take 4 rest ++ piece) (front_long rest piece long) ∙ front
    ∙ sym (kept_long (rest ++ piece) (long_more rest piece long)) in
    record { rest = rest ++ piece; splits = subst (λ (z : List (List ℕ)). Splits (stream ++ piece) z (rest ++ piece)) (sym all) whole; keeps = keeps }

pub goes_on : (stream : List ℕ) (messages : List (List ℕ)) (old piece : List ℕ) (more : List (List ℕ)) (new : List ℕ) → SoFar stream messages old → Feeds old piece more new → SoFar (stream ++ piece) (messages ++ more) new
goes_on stream messages old piece more new so_far f =
    let g : Feeds (kept so_far.rest) piece more new = subst (λ (z : List ℕ). Feeds z piece more new) so_far.keeps f in
    elim (cases_Bool (is_long so_far.rest)) [
      | inl long ↦ goes_on_long stream messages so_far.rest piece more new so_far.splits long g
      | inr short ↦ goes_on_short stream messages so_far.rest piece more new so_far.splits short g
    ]

regrouped : (stream piece after : List ℕ) (messages more others : List (List ℕ)) (new : List ℕ) → SoFar ((stream ++ piece) ++ after) ((messages ++ more) ++ others) new → SoFar (stream ++ (piece ++ after)) (messages ++ (more ++ others)) new
regrouped stream piece after messages more others new h =
    subst (λ (z : List ℕ). SoFar z (messages ++ (more ++ others)) new) (append_assoc stream piece after)
    (subst (λ (z : List (List ℕ)). SoFar ((stream ++ piece) ++ after) z new) (append_assoc messages more others) h)

empty_ends : has_frame [] ≡ false
unfolding has_frame length_told
empty_ends = refl

pub empty_kept : [] ≡ kept []
unfolding kept is_long length_told
empty_kept = refl

run_on : (pieces : List (List ℕ)) (results : List (Result (List (List ℕ)) FrameFault)) (stream : List ℕ) (messages : List (List ℕ)) (old new : List ℕ) → SoFar stream messages old → Run old pieces results new
    → SoFar (stream ++ joined pieces results) (messages ++ messages_in results) new
run_on [] [] stream messages old new so_far run =
    let at_end : SoFar stream messages new = record { rest = so_far.rest; splits = so_far.splits; keeps = run ∙ so_far.keeps } in
    subst (λ (z : List ℕ). SoFar z (messages ++ []) new) (sym (append-nil stream)) (subst (λ (z : List (List ℕ)). SoFar stream z new) (sym (append-nil messages)) at_end)
run_on (piece ∷ pieces) (Ok more ∷ results) stream messages old new so_far run =
    let next = goes_on stream messages old piece more run.0 so_far run.1.0 in
    let rest = run_on pieces results (stream ++ piece) (messages ++ more) run.0 new next run.2 in
    regrouped stream piece (joined pieces results) messages more (messages_in results) new rest
run_on (piece ∷ pieces) (Err faults.Long ∷ results) stream messages old new so_far run =
    let next = goes_on stream messages old piece [] run.0 so_far run.1.0 in
    let rest = run_on pieces results (stream ++ piece) (messages ++ []) run.0 new next run.2 in
    regrouped stream piece (joined pieces results) messages [] (messages_in results) new rest
run_on (piece ∷ pieces) (Err faults.NoMemory ∷ results) stream messages old new so_far run =
    let same : SoFar stream messages run.0 = subst (λ (z : List ℕ). SoFar stream messages z) (sym run.1) so_far in
    run_on pieces results stream messages run.0 new same run.2
run_on [] (result ∷ results) stream messages old new so_far run = absurd run
run_on (piece ∷ pieces) [] stream messages old new so_far run = absurd run

-- From the start on, however the stream is cut into pieces: what was answered are the frames of the joined pieces.
pub run_splits : (pieces : List (List ℕ)) (results : List (Result (List (List ℕ)) FrameFault)) (new : List ℕ) → Run [] pieces results new → SoFar (joined pieces results) (messages_in results) new
run_splits pieces results new run =
    let start : SoFar [] [] [] = record { rest = []; splits = record { whole = refl; each = tt; ends = empty_ends }; keeps = empty_kept } in
    run_on pieces results [] [] [] new start run

pub pieces_join : PiecesJoin
pieces_join pieces results new run =
    let all = run_splits pieces results new run in
    record { rest = all.rest; splits = all.splits; only = λ others more s. (splits_once (joined pieces results) (messages_in results) others all.rest more all.splits s).told }
