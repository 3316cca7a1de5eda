-- Each step keeps the rule of a journal, and tells what it says.
use Rattle.std.proofs.Common.{◌≡◌, ◌≢◌, ◌==◌, ◌||◌, ℕ, zero, suc, ◌+◌, ◌<◌, Bool, true, false, true≢false, List, [], ◌∷◌, ◌++◌, length, length-set, length-append, set, slice_index, refl, sym, ap, ◌∙◌, subst, ⊎_elim, arith, le_refl, lt_of_not-le, Some, None}
use Rattle.std.specs.Prelude.{Option as RustOption}
use mathlib.Core.Option.{Option, some, none, some-injective, some-ne-none}
use mathlib.Core.Logic.{dite}
use native.Mathlib.Decide.{ℕ_discrete}
use lib.ListN.{get_elem?}
use prog.Atomic.{either}
use Rattle.atomic_table.specs.Table.{State, Me, Act, step, keeps, takes, gives, Valid, homes_after, carried_after, Allows, Splits, Joins, opening, rest}
use Rattle.atomic_table.proofs.Lists.{set_again, set_else}
use Rattle.eris_journal.specs.Lists.{Has}
use Rattle.eris_journal.specs.Turns.{Placed, noting, freed, freed_view, newcomer, hand_after, seat_after, left_by, hand_with, KeptFits, Knows, Seats, Ruled, Tells, Taken, MayGive, Released}
use Rattle.eris_journal.specs.declared.views.Joined.{Joined}
use Rattle.eris_journal.specs.declared.views.Known.{Known}
use Rattle.eris_journal.specs.declared.views.View.{View}
use Rattle.eris_journal.specs.declared.views.View.TheVariants.{Spent, Hand, Free, Holding}
use Rattle.eris_journal.proofs.Lists.{at_end, each_set, changed, changed_here, changed_else}

abbrev pub book_or : {L : Type 0} → L → RustOption L → L
book_or book (Some other) = other
book_or book None = book

abbrev pub book_in : {L : Type 0} → L → List (ℕ × RustOption L) → L
book_in book [] = book
book_in book (x ∷ xs) = book_or book x.1

or_true : (a b : Bool) (F : Type 0) → (a ≡ true → F) → (b ≡ true → F) → (a || b) ≡ true → F
or_true true b F left right is = left refl
or_true false b F left right is = right is

-- the one thing that is out with a seat
pub one_out : {S : Type 0} (slot : ℕ) (x : S) (out : List (ℕ × S)) → out ≡ (slot, x) ∷ [] → out ≡ (slot, x) ∷ rest out
one_out {S} slot x out is = is ∙ ap (λ (l : List (ℕ × S)). (slot, x) ∷ rest l) (sym is)

pub same_out : {L : Type 0} (book other : L) (out : List (ℕ × RustOption L)) (found : RustOption L) → out ≡ (0, Some book) ∷ [] → out ≡ (0, found) ∷ rest out → found ≡ Some other → book ≡ other
same_out book other out found is has same = ap (book_in book) (sym is ∙ has) ∙ ap (book_or book) same

-- what a released seat knows
pub released : {L X : Type 0} (part : L → ℕ → X) (full with : Bool) (known : Known L X) (found book : L) (me after : Me (RustOption L) (View L X)) → me ≡ (Holding known found, (0, Some book) ∷ [])
    → full ≡ with → Released part with (step 0 0 0 0 none) me 0 after → after ≡ (Free (freed part full known book), [])
released {L} {X} part full with known found book me after is same told = told book (ap (λ (m : Me (RustOption L) (View L X)). m.1) is)
    ∙ ap (λ (m : Me (RustOption L) (View L X)). (freed_view part with m.0 book, [])) is
    ∙ ap (λ (f : Bool). (Free (freed part f known book), [])) (sym same)

-- what the step that found the turn free told
pub taken : {L X : Type 0} (legal : L → Type 0) (grows : L → L → Type 0) (part : L → ℕ → X) (stuck : L → Type 0) (known : Known L X) (me after : Me (RustOption L) (View L X)) (found : ℕ)
    → me ≡ (Free known, []) → Taken legal grows part stuck (step 0 0 0 1 none) me found after → found ≡ 0
    → (book : L) × (after ≡ (Holding (noting known book) book, (0, Some book) ∷ [])) × Tells legal grows part stuck known book
taken {L} {X} legal grows part stuck known me after found is told zero_found =
    (subst (λ (m : Me (RustOption L) (View L X)). Taken legal grows part stuck (step 0 0 0 1 none) m found after) is told).0 zero_found

module _ {L X : Type 0} (legal : L → Type 0) (grows : L → L → Type 0) (part : L → ℕ → X) (stuck : L → Type 0) (start : L) where
  abbrev V : Type 0
  V = View L X

  abbrev Places : Type 0
  Places = ℕ → Option ℕ

  abbrev Sees : L → Places → ℕ → Option ℕ → ℕ → V → Type 0
  Sees = Knows legal grows part stuck start

  abbrev All : List V → L → Places → ℕ → Option ℕ → Type 0
  All = Seats legal grows part stuck start

  abbrev Rule : State (RustOption L) V → Type 0
  Rule = Ruled legal grows part stuck start

  -- the table when it is made
  opens_with : (book : L) → book ≡ start → legal book → grows start book → Rule (opening (0 ∷ []) (Some book ∷ []) (Hand 0 [] start))
  opens_with book is ok same = record {
    book = book;
    seat_of = λ _. none;
    hand = 0;
    holder = none;
    placed = (refl, refl);
    seats = record {
      is_legal = ok;
      grown = same;
      has_node = λ id e. absurd (some-ne-none id (sym e));
      seated = λ node id e. absurd (some-ne-none id (sym e));
      each = one;
    };
  }
    where
      one : (id : ℕ) (v : V) → get_elem? (Hand 0 [] start ∷ []) id ≡ some v → Sees book (λ _. none) 0 none id v
      one zero v e = subst (Sees book (λ _. none) 0 none 0) (some-injective (Hand 0 [] start) v e) (refl, refl, (λ node above. (refl, ap (λ (b : L). part b node) is)), (λ x has. absurd has))
      one (suc id) v e = absurd (some-ne-none v (sym e))

  pub opens : (words : List ℕ) (slots : List (RustOption L)) (book : L) → words ≡ 0 ∷ [] → slots ≡ Some book ∷ [] → book ≡ start → legal book → grows start book → Rule (opening words slots (Hand 0 [] start))
  opens words slots book free home is ok same = subst (λ (p : List ℕ × List (RustOption L)). Rule (opening p.0 p.1 (Hand 0 [] start))) (λ i. (sym free i, sym home i)) (opens_with book is ok same)

  -- a seat without the turn sees the same after another seat took it
  still : (book : L) (seat_of : Places) (hand id j : ℕ) → j ≢ id → (v : V) → Sees book seat_of hand none j v → Sees book seat_of hand (some id) j v
  still book seat_of hand id j apart Spent knows = tt
  still book seat_of hand id j apart (Hand count kept first) knows = knows
  still book seat_of hand id j apart (Free known) knows = (knows.0, λ e. apart (sym (some-injective id j e)))
  still book seat_of hand id j apart (Holding known found) knows = absurd (some-ne-none j (sym knows.1))

  abbrev TakesTurn : ℕ → ℕ → Known L X → List V → List ℕ → List (Option (RustOption L)) → Type 0
  TakesTurn slots id known views words homes = (w : V) × (a : Act (RustOption L)) × Valid homes [] a
      × Rule record { words = set words 0 (either (slice_index words 0 == 0) 1 (slice_index words 0)); homes = homes_after homes [] a; views = set views id w }
      × Taken legal grows part stuck (step slots 0 0 1 none) (Free known, []) (slice_index words 0) (w, carried_after [] a)

  takes_free : (slots id : ℕ) (known : Known L X) (views : List V) (book : L) (seat_of : Places) (hand : ℕ) → get_elem? views id ≡ some (Free known)
      → All views book seat_of hand none → TakesTurn slots id known views (0 ∷ []) (some (Some book) ∷ [])
  takes_free slots id known views book seat_of hand at seats = let mine : Sees book seat_of hand none id (Free known) = seats.each id (Free known) at in let w : V = Holding (noting known book) book in (
    w,
    takes 0 (Some book),
    refl,
    record {
      book = book;
      seat_of = seat_of;
      hand = hand;
      holder = some id;
      placed = (refl, refl);
      seats = record {
        is_legal = seats.is_legal;
        grown = seats.grown;
        has_node = λ h e. (known.node, mine.0.0 ∙ e);
        seated = λ node h e. subst (λ (n : ℕ). h < n) (sym (length-set views id w)) (seats.seated node h e);
        each = each_set (Sees book seat_of hand (some id)) views id w (mine.0, refl, refl) (λ j v apart was. still book seat_of hand id j apart v (seats.each j v was));
      };
    },
    ((λ _. (book, refl, (seats.is_legal, mine.0.1, mine.0.2, subst (λ (b : L). grows b book) (sym mine.0.3) seats.grown))), (λ differs. absurd (differs refl))),
  )

  takes_none : (slots id : ℕ) (known : Known L X) (views : List V) (book : L) (seat_of : Places) (hand holder : ℕ) → get_elem? views id ≡ some (Free known)
      → All views book seat_of hand (some holder) → TakesTurn slots id known views (1 ∷ []) (none ∷ [])
  takes_none slots id known views book seat_of hand holder at seats = (
    Free known,
    keeps,
    tt,
    record {
      book = book;
      seat_of = seat_of;
      hand = hand;
      holder = some holder;
      placed = (refl, refl);
      seats = subst (λ (vs : List V). All vs book seat_of hand (some holder)) (sym (set_again views id (Free known) at)) seats;
    },
    ((λ e. absurd (omega (arith, e))), (λ _. refl)),
  )

  takes_held : (slots id : ℕ) (known : Known L X) (s : State (RustOption L) V) (book : L) (seat_of : Places) (hand : ℕ) (holder : Option ℕ) → get_elem? s.views id ≡ some (Free known)
      → Placed s.words s.homes book holder → All s.views book seat_of hand holder → TakesTurn slots id known s.views s.words s.homes
  takes_held slots id known s book seat_of hand none at placed seats =
      subst (λ (p : List ℕ × List (Option (RustOption L))). TakesTurn slots id known s.views p.0 p.1) (λ i. (sym placed.0 i, sym placed.1 i)) (takes_free slots id known s.views book seat_of hand at seats)
  takes_held slots id known s book seat_of hand (some holder) at placed seats =
      subst (λ (p : List ℕ × List (Option (RustOption L))). TakesTurn slots id known s.views p.0 p.1) (λ i. (sym placed.0 i, sym placed.1 i)) (takes_none slots id known s.views book seat_of hand holder at seats)

  -- the turn is taken, where it is free
  pub takes_turn : (slots id : ℕ) (known : Known L X) (me : Me (RustOption L) V) → me ≡ (Free known, [])
      → Allows Rule slots id me 0 (λ n. either (n == 0) 1 n) (Taken legal grows part stuck (step slots 0 0 1 none) me)
  takes_turn slots id known me is = subst (λ (m : Me (RustOption L) V). Allows Rule slots id m 0 (λ n. either (n == 0) 1 n) (Taken legal grows part stuck (step slots 0 0 1 none) m)) (sym is)
      (λ s r wide at small. takes_held slots id known s r.book r.seat_of r.hand r.holder at r.placed r.seats)

  module _ (on : (a b c : L) → grows a b → grows b c → grows a c) (stays_stuck : (a b : L) → grows a b → stuck a → stuck b) where
    -- another seat sees the same after the holder put its book back
    given : (id : ℕ) (known : Known L X) (book after : L) (seat_of : Places) (hand : ℕ) → seat_of known.node ≡ some id → grows book after
        → ((node : ℕ) → node ≢ known.node → part after node ≡ part book node) → (j : ℕ) → j ≢ id → (v : V) → Sees book seat_of hand (some id) j v → Sees after seat_of hand none j v
    given id known book after seat_of hand mine up same j apart Spent knows = tt
    given id known book after seat_of hand mine up same j apart (Hand count kept first) knows = (
      knows.0,
      knows.1,
      (λ node above. let old = knows.2 node above in (old.0, same node (λ e. some-ne-none id (sym mine ∙ ap seat_of (sym e) ∙ old.0)) ∙ old.1)),
      (λ x has. let old = knows.3 x has in (old.0, old.1, old.2 ∙ sym (same x.node (λ e. some-ne-none id (sym mine ∙ ap seat_of (sym e) ∙ old.1))), λ full. stays_stuck book after up (old.3 full))),
    )
    given id known book after seat_of hand mine up same j apart (Free other) knows = let f = knows.0 in (
      (
        f.0,
        f.1 ∙ sym (same other.node (λ e. apart (some-injective j id (sym f.0 ∙ ap seat_of e ∙ mine)))),
        (λ full. stays_stuck book after up (f.2 full)),
        f.3,
      ),
      λ e. some-ne-none j (sym e),
    )
    given id known book after seat_of hand mine up same j apart (Holding other found) knows = absurd (apart (sym (some-injective id j knows.1)))

    abbrev Gives : ℕ → ℕ → Bool → Known L X → L → L → Me (RustOption L) V → Type 0
    Gives slots id full known found book me = Allows Rule slots id me 0 (λ _. 0) (λ _. Released part full (step slots 0 0 0 none) me 0)

    gives_held : (slots id : ℕ) (full : Bool) (known : Known L X) (found book : L) → MayGive legal grows part stuck full known found book → Gives slots id full known found book (Holding known found, (0, Some book) ∷ [])
    gives_held slots id full known found book may s r wide at small =
        let w : V = Free (freed part full known book) in
        let mine : Sees r.book r.seat_of r.hand r.holder id (Holding known found) = r.seats.each id (Holding known found) at in
        let placed : Placed s.words s.homes r.book (some id) = subst (Placed s.words s.homes r.book) mine.1 r.placed in
        let seats : All s.views r.book r.seat_of r.hand (some id) = subst (All s.views r.book r.seat_of r.hand) mine.1 r.seats in
        let up : grows r.book book = subst (λ (b : L). grows b book) mine.2 may.1 in
        let same : (node : ℕ) → node ≢ known.node → part book node ≡ part r.book node = λ node apart. may.2 node apart ∙ ap (λ (b : L). part b node) mine.2 in (
          w,
          gives,
          tt,
          record {
            book = book;
            seat_of = r.seat_of;
            hand = r.hand;
            holder = none;
            placed = (ap (λ (ws : List ℕ). set ws 0 0) placed.0, ap (λ (hs : List (Option (RustOption L))). set hs 0 (some (Some book))) placed.1);
            seats = record {
              is_legal = may.0;
              grown = on start r.book book seats.grown up;
              has_node = λ h e. absurd (some-ne-none h (sym e));
              seated = λ node h e. subst (λ (n : ℕ). h < n) (sym (length-set s.views id w)) (seats.seated node h e);
              each = each_set (Sees book r.seat_of r.hand none) s.views id w
                  ((mine.0.0, refl, or_true known.full full (stuck book) (λ e. stays_stuck r.book book up (mine.0.2 e)) may.3, mine.0.3), (λ e. some-ne-none id (sym e)))
                  (λ j v apart was. given id known r.book book r.seat_of r.hand mine.0.0 up same j apart v (seats.each j v was));
            };
          },
          (λ other is. ap (λ (l : List (ℕ × RustOption L)). (Free (freed part full known (book_in book l)), [])) is),
        )

    -- the turn is released, with a book that goes on from the one that was found
    pub gives_turn : (slots id : ℕ) (full : Bool) (known : Known L X) (found book : L) (me : Me (RustOption L) V) → me ≡ (Holding known found, (0, Some book) ∷ [])
        → MayGive legal grows part stuck full known found book → Allows Rule slots id me 0 (λ _. 0) (λ _. Released part full (step slots 0 0 0 none) me 0)
    gives_turn slots id full known found book me is may = subst (λ (m : Me (RustOption L) V). Gives slots id full known found book m) (sym is) (gives_held slots id full known found book may)

  -- a seat is split from the hand: it is the seat of the next node
  splits_hand : (id : ℕ) (count : ℕ) (kept : List (Joined X)) (first : L) → Splits Rule id (Hand count kept first) (Hand (count + 1) kept first) (Free (newcomer part count first))
  splits_hand id count kept first s r at = record {
    book = r.book;
    seat_of = places;
    hand = r.hand;
    holder = r.holder;
    placed = r.placed;
    seats = record {
      is_legal = r.seats.is_legal;
      grown = r.seats.grown;
      has_node = λ h e. let old = r.seats.has_node h e in (old.0, elsewhere old.0 h old.1 ∙ old.1);
      seated = λ node h e. dite (ℕ_discrete node count)
          (λ (same : node ≡ count). let last : size ≡ h = some-injective size h (sym (changed_here count (some size) r.seat_of node same) ∙ e) in omega (arith, last, longer))
          (λ (other : node ≢ count). let old : h < size = r.seats.seated node h (sym (changed_else count (some size) r.seat_of node other) ∙ e) in omega (arith, old, longer));
      each = each;
    };
  }
    where
      size : ℕ
      size = length s.views

      places : Places
      places = changed count (some size) r.seat_of

      mine : Sees r.book r.seat_of r.hand r.holder id (Hand count kept first)
      mine = r.seats.each id (Hand count kept first) at

      nobody : r.seat_of count ≡ none
      nobody = (mine.2 count (le_refl count)).0

      longer : length (set s.views id (Hand (count + 1) kept first) ++ Free (newcomer part count first) ∷ []) ≡ size + 1
      longer = length-append (set s.views id (Hand (count + 1) kept first)) (Free (newcomer part count first) ∷ []) ∙ ap (λ (n : ℕ). n + 1) (length-set s.views id (Hand (count + 1) kept first))

      elsewhere : (node h : ℕ) → r.seat_of node ≡ some h → places node ≡ r.seat_of node
      elsewhere node h e = changed_else count (some size) r.seat_of node (λ same. some-ne-none h (sym e ∙ ap r.seat_of same ∙ nobody))

      old_view : (j : ℕ) (v : V) → j ≢ id → Sees r.book r.seat_of r.hand r.holder j v → Sees r.book places r.hand r.holder j v
      old_view j Spent apart knows = tt
      old_view j (Hand other left from) apart knows = absurd (apart (knows.0 ∙ sym mine.0))
      old_view j (Free known) apart knows = let f = knows.0 in ((elsewhere known.node j f.0 ∙ f.0, f.1, f.2, f.3), knows.1)
      old_view j (Holding known found) apart knows = let f = knows.0 in ((elsewhere known.node j f.0 ∙ f.0, f.1, f.2, f.3), knows.1, knows.2)

      new_hand : Sees r.book places r.hand r.holder id (Hand (count + 1) kept first)
      new_hand = (
        mine.0,
        mine.1,
        (λ node above. let old = mine.2 node (omega (arith, above)) in (changed_else count (some size) r.seat_of node (λ same. omega (arith, same, above)) ∙ old.0, old.1)),
        (λ x has. let old = mine.3 x has in (omega (arith, old.0), changed_else count (some size) r.seat_of x.node (λ same. omega (arith, same, old.0)) ∙ old.1, old.2, old.3)),
      )

      not_holder : r.holder ≢ some size
      not_holder e = let has = r.seats.has_node size e in let low : size < size = r.seats.seated has.0 size has.1 in omega (arith, low)

      new_seat : Sees r.book places r.hand r.holder size (Free (newcomer part count first))
      new_seat = (
        (
          changed_here count (some size) r.seat_of count refl,
          ap (λ (b : L). part b count) mine.1 ∙ sym (mine.2 count (le_refl count)).1,
          (λ e. absurd (true≢false (sym e))),
          mine.1,
        ),
        not_holder,
      )

      each : (j : ℕ) (v : V) → get_elem? (set s.views id (Hand (count + 1) kept first) ++ Free (newcomer part count first) ∷ []) j ≡ some v → Sees r.book places r.hand r.holder j v
      each j v e = ⊎_elim
          (λ (was : get_elem? (set s.views id (Hand (count + 1) kept first)) j ≡ some v). each_set (Sees r.book places r.hand r.holder) s.views id (Hand (count + 1) kept first) new_hand
          (λ i u apart old. old_view i u apart (r.seats.each i u old)) j v was)
          (λ (t : (j ≡ length (set s.views id (Hand (count + 1) kept first))) × (Free (newcomer part count first) ≡ v)).
          subst (λ (x : ℕ × V). Sees r.book places r.hand r.holder x.0 x.1) (λ i. (sym (t.0 ∙ length-set s.views id (Hand (count + 1) kept first)) i, t.1 i)) new_seat)
          (at_end (set s.views id (Hand (count + 1) kept first)) (Free (newcomer part count first)) v j e)

  pub splits_seat : (id count : ℕ) (kept : List (Joined X)) (first : L) (view : V) → view ≡ Hand count kept first → Splits Rule id view (hand_after view) (seat_after part view)
  splits_seat id count kept first view is = subst (λ (v : V). Splits Rule id v (hand_after v) (seat_after part v)) (sym is) (splits_hand id count kept first)

  -- a seat is joined: the hand keeps what it knows
  joins_hand : (id : ℕ) (count : ℕ) (kept : List (Joined X)) (first : L) (other : ℕ) (known : Known L X)
      → Joins Rule id (Hand count kept first) other (Free known) (Hand count (left_by known ∷ kept) first) Spent
  joins_hand id count kept first other known s r at apart there = record {
    book = r.book;
    seat_of = places;
    hand = r.hand;
    holder = r.holder;
    placed = r.placed;
    seats = record {
      is_legal = r.seats.is_legal;
      grown = r.seats.grown;
      has_node = λ h e. let old = r.seats.has_node h e in
          (old.0, changed_else known.node none r.seat_of old.0 (λ same. theirs.1 (e ∙ sym old.1 ∙ ap r.seat_of same ∙ theirs.0.0)) ∙ old.1);
      seated = λ node h e. dite (ℕ_discrete node known.node)
          (λ (same : node ≡ known.node). absurd (some-ne-none h (sym e ∙ changed_here known.node none r.seat_of node same)))
          (λ (differs : node ≢ known.node). subst (λ (n : ℕ). h < n) (sym lengths) (r.seats.seated node h (sym (changed_else known.node none r.seat_of node differs) ∙ e)));
      each = each_set (Sees r.book places r.hand r.holder) views other Spent tt
          (λ j v aside was. each_set (λ (i : ℕ) (u : V). i ≢ other → Sees r.book places r.hand r.holder i u) s.views id both (λ _. new_hand) (λ i u apart' old aside'. old_view i u apart' aside' (r.seats.each i u old)) j v was aside);
    };
  }
    where
      both : V
      both = Hand count (left_by known ∷ kept) first

      views : List V
      views = set s.views id both

      lengths : length (set views other Spent) ≡ length s.views
      lengths = length-set views other Spent ∙ length-set s.views id both

      places : Places
      places = changed known.node none r.seat_of

      mine : Sees r.book r.seat_of r.hand r.holder id (Hand count kept first)
      mine = r.seats.each id (Hand count kept first) at

      theirs : Sees r.book r.seat_of r.hand r.holder other (Free known)
      theirs = r.seats.each other (Free known) (sym (set_else s.views id other both apart) ∙ there)

      below : known.node < count
      below = lt_of_not-le (λ above. some-ne-none other (sym theirs.0.0 ∙ (mine.2 known.node above).0))

      nowhere : (node : ℕ) → r.seat_of node ≡ none → places node ≡ none
      nowhere node e = dite (ℕ_discrete node known.node) (λ (same : node ≡ known.node). changed_here known.node none r.seat_of node same) (λ (differs : node ≢ known.node). changed_else known.node none r.seat_of node differs ∙ e)

      elsewhere : (node j : ℕ) → j ≢ other → r.seat_of node ≡ some j → places node ≡ some j
      elsewhere node j aside e = changed_else known.node none r.seat_of node (λ same. aside (some-injective j other (sym e ∙ ap r.seat_of same ∙ theirs.0.0))) ∙ e

      old_view : (j : ℕ) (v : V) → j ≢ id → j ≢ other → Sees r.book r.seat_of r.hand r.holder j v → Sees r.book places r.hand r.holder j v
      old_view j Spent apart aside knows = tt
      old_view j (Hand n left from) apart aside knows = absurd (apart (knows.0 ∙ sym mine.0))
      old_view j (Free seat) apart aside knows = let f = knows.0 in ((elsewhere seat.node j aside f.0, f.1, f.2, f.3), knows.1)
      old_view j (Holding seat found) apart aside knows = let f = knows.0 in ((elsewhere seat.node j aside f.0, f.1, f.2, f.3), knows.1, knows.2)

      kept_fits : (x : Joined X) → Has (left_by known ∷ kept) x → KeptFits legal grows part stuck start r.book places r.hand r.holder id count x
      kept_fits x has = ⊎_elim
          (λ (same : left_by known ≡ x). subst (λ (y : Joined X). KeptFits legal grows part stuck start r.book places r.hand r.holder id count y) same
          (below, changed_here known.node none r.seat_of known.node refl, theirs.0.1, theirs.0.2))
          (λ (old : Has kept x). let k = mine.3 x old in (k.0, nowhere x.node k.1, k.2, k.3))
          has

      new_hand : Sees r.book places r.hand r.holder id both
      new_hand = (mine.0, mine.1, (λ node above. let old = mine.2 node above in (nowhere node old.0, old.1)), kept_fits)

  pub joins_seat : (id count : ℕ) (kept : List (Joined X)) (first : L) (view : V) (other : ℕ) (known : Known L X) (its : V) → view ≡ Hand count kept first → its ≡ Free known
      → Joins Rule id view other its (hand_with view its) Spent
  joins_seat id count kept first view other known its is free =
      subst (λ (p : V × V). Joins Rule id p.0 other p.1 (hand_with p.0 p.1) Spent) (λ i. (sym is i, sym free i)) (joins_hand id count kept first other known)
