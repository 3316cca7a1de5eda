-- From a turn's steps to what a call's clauses say of the seat, and from the end to what is said of
-- the closed book.
use Rattle.std.proofs.Common.{◌≡◌, ◌||◌, ℕ, ◌≤◌, Bool, true, false, List, [], ◌∷◌, ◌++◌, refl, sym, ap, ◌∙◌, subst, Some, None, Ok, Err, IfOk, OnOk, OnErr, IfErr, IfSome, MatchOption, Option, Result, slice_get, lt_of_not-le, le_trans}
use mathlib.Core.Option.{some, some-injective}
use mathlib.Core.Logic.{dite}
use native.Mathlib.Decide.{dec_le}
use lib.ListN.{get_elem?}
use Rattle.atomic_table.specs.Seated.{TableId}
use Rattle.atomic_table.specs.Table.{State, Me, Final, Seen}
use Rattle.eris_base.specs.declared.no_memory.NoMemory.{NoMemory as NoMemoryValue}
use Rattle.eris_journal.specs.Answers.{TookTurn, GivesFetched, WasFree, RefusedBy, WasRefused}
use Rattle.eris_journal.specs.Lists.{own, own_one, Has}
use Rattle.eris_journal.specs.Packets.{Packet, sent, pending}
use Rattle.eris_journal.specs.Parts.{Refused, IsStuck, part_of, Grows, NamesNodes, is_limit, RefusesBy}
use Rattle.eris_journal.specs.Seats.{JournalValue, SeatValue, HandValue, IsSeatOf, IsHandOf, known_value, seat_value, kept_by, AllJoined}
use Rattle.eris_journal.specs.Turns.{free_view, holding_view, hand_view, noting, freed, Tells, Ruled, Ends}
use Rattle.eris_journal.specs.declared.add_fault.AddFault.{AddFault}
use Rattle.eris_journal.specs.declared.add_fault.AddFault.TheVariants.{Packets, Bytes, NoMemory}
use Rattle.eris_journal.specs.declared.fetched.Fetched.{Fetched}
use Rattle.eris_journal.specs.declared.views.Joined.{Joined}
use Rattle.eris_journal.specs.declared.views.Known.{Known}
use Rattle.eris_journal.specs.declared.views.Part.{Part}
use Rattle.eris_journal.specs.declared.views.View.{View}
use Rattle.eris_journal.proofs.Lists.{own_here, own_one_here, none_above, names_below}
use Rattle.eris_journal.proofs.Steps.{book_or}
use Rattle.eris_journal.proofs.Ending.{closes}
use Rattle.eris_journal.proofs.Books.{none_is_not, FetchAdds, Adds}

pub some_same : {A : Type 0} (x y : A) → Some x ≡ Some y → x ≡ y
some_same x y e = ap (book_or x) e

or_false : (b : Bool) → (b || false) ≡ b
or_false true = refl
or_false false = refl

or_true : (b : Bool) → (b || true) ≡ true
or_true true = refl
or_true false = refl

module _ {L E : Type 0} (legal : L → Type 0) (entries : L → List (ℕ × E)) (fetches : L → List (ℕ × Fetched)) (refused : L → Option (Refused E)) where
  abbrev V : Type 0
  V = View L (Part E)

  abbrev M : Type 0
  M = Me (Option L) V

  abbrev Found : Known L (Part E) → L → Type 0
  Found = Tells legal (Grows entries fetches refused) (part_of entries fetches refused) (IsStuck refused)

  -- a turn: what the seat knew, the book that it found, and the seat's values before and after
  pub record Took (journal : JournalValue L) (node : ℕ) (full : Bool) (found after : L) (old new : SeatValue L E) : Type 0 where
    pub table : TableId
    pub known : Known L (Part E)
    pub node_is : known.node ≡ node
    pub tells : Found known found
    pub of_journal : IsSeatOf journal (known_value table known)
    pub old_is : old ≡ known_value table known
    pub new_is : new ≡ known_value table (freed (part_of entries fetches refused) full (noting known found) after)

  pub took : (journal : JournalValue L) (node : ℕ) (full : Bool) (found after : L) (table : TableId) (before held final : M) (last : TableId) (old : SeatValue L E)
      → seat_value table before.0 ≡ old → IsSeatOf journal old
      → (known : Known L (Part E)) × (before ≡ (free_view known, [])) × (known.node ≡ node)
      → (known : Known L (Part E)) × (before ≡ (free_view known, [])) × (held ≡ (holding_view (noting known found) found, (0, None) ∷ [])) × Found known found
      → ((known : Known L (Part E)) (book : L) → held ≡ (holding_view known book, (0, None) ∷ []) → final ≡ (free_view (freed (part_of entries fetches refused) full known after), []))
      → last ≡ table → Took journal node full found after old (seat_value last final.0)
  took journal node full found after table before held final last old is own_it mine turn gives same =
      let value : old ≡ known_value table turn.0 = sym is ∙ ap (λ (m : M). seat_value table m.0) turn.1 in
      let own_value : seat_value table before.0 ≡ known_value table mine.0 = ap (λ (m : M). seat_value table m.0) mine.1 in
      let end : final ≡ (free_view (freed (part_of entries fetches refused) full (noting turn.0 found) after), []) = gives (noting turn.0 found) found turn.2 in
      record {
        table = table;
        known = turn.0;
        node_is = ap (λ (s : SeatValue L E). s.node) (sym value ∙ sym is ∙ own_value) ∙ mine.2;
        tells = turn.3;
        of_journal = subst (IsSeatOf journal) value own_it;
        old_is = value;
        new_is = λ i. seat_value (same i) ((end i).0);
      }

  -- what the book asks of a step is what the seat knows
  pub step_before : (known : Known L (Part E)) (node : ℕ) (found : L) (old : SeatValue L E) (table : TableId) (before : M) → seat_value table before.0 ≡ old → before ≡ (free_view known, []) → known.node ≡ node
      → Found known found → (is_step : ℕ → List E → List Fetched → E → Type 0) (entry : E) → is_step old.node old.part.entries old.part.fetches entry
      → is_step node (own node (entries found)) (own node (fetches found)) entry
  step_before known node found old table before is free same tells is_step entry step = subst (λ (n : ℕ). is_step n (own n (entries found)) (own n (fetches found)) entry) same
      (subst (λ (p : Part E). is_step known.node p.entries p.fetches entry) tells.1
      (subst (λ (s : SeatValue L E). is_step s.node s.part.entries s.part.fetches entry) (sym is ∙ ap (λ (m : M). seat_value table m.0) free) step))

  module _ (journal : JournalValue L) (node : ℕ) (full : Bool) (found after : L) (old new : SeatValue L E) (t : Took journal node full found after old new) where
    abbrev before : SeatValue L E
    before = known_value t.table t.known

    abbrev later : SeatValue L E
    later = known_value t.table (freed (part_of entries fetches refused) full (noting t.known found) after)

    by_values : (P : SeatValue L E → SeatValue L E → Type 0) → P before later → P old new
    by_values P p = subst (λ (x : SeatValue L E × SeatValue L E). P x.0 x.1) (λ i. (sym t.old_is i, sym t.new_is i)) p

    pub turn_is : TookTurn entries fetches refused legal journal old new
    turn_is = by_values (TookTurn entries fetches refused legal journal) (
      t.of_journal,
      refl,
      refl,
      (found, refl, t.tells.0, subst (λ (b : L). Grows entries fetches refused b found) (some_same t.known.start journal.start t.of_journal.1) t.tells.3, sym t.tells.1),
    )

    same_fetches : own t.known.node (fetches found) ≡ t.known.part.fetches
    same_fetches = ap (λ (p : Part E). p.fetches) (sym t.tells.1)

    same_entries : own t.known.node (entries found) ≡ t.known.part.entries
    same_entries = ap (λ (p : Part E). p.entries) (sym t.tells.1)

    same_refused : own_one t.known.node (refused found) ≡ t.known.part.refused
    same_refused = ap (λ (p : Part E). p.refused) (sym t.tells.1)

    module _ (kept : (entries after ≡ entries found) × (refused after ≡ refused found)) where
      pub fetch_keeps : full ≡ false → (new.part.entries ≡ old.part.entries) × (new.part.refused ≡ old.part.refused) × (new.full ≡ old.full)
      fetch_keeps not = by_values (λ (o n : SeatValue L E). (n.part.entries ≡ o.part.entries) × (n.part.refused ≡ o.part.refused) × (n.full ≡ o.full)) (
        ap (own t.known.node) kept.0 ∙ same_entries,
        ap (own_one t.known.node) kept.1 ∙ same_refused,
        ap (λ (b : Bool). t.known.full || b) not ∙ or_false t.known.full,
      )

      module _ (sends : E → List Packet) where
        pub fetch_says : (answer : Result (Option Fetched) NoMemoryValue)
            → IfOk answer (λ r. MatchOption r (pending sends (entries found) (fetches found) node ≡ None) (λ packet. pending sends (entries found) (fetches found) node ≡ Some packet.number))
            → IfOk answer (λ r. IfSome r (λ packet. slice_get (sent sends (entries found)) packet.number ≡ Some (node, packet.message)))
            → FetchAdds answer node (fetches found) (fetches after)
            → IfOk answer (λ r. GivesFetched entries fetches refused sends old new r)
        fetch_says (Err e) is bytes adds = tt
        fetch_says (Ok None) is bytes adds = by_values (λ (o n : SeatValue L E). GivesFetched entries fetches refused sends o n None) (
          ap (own t.known.node) adds ∙ same_fetches,
          (found, refl, ap (pending sends (entries found) (fetches found)) t.node_is ∙ is),
        )
        fetch_says (Ok (Some packet)) is bytes adds = by_values (λ (o n : SeatValue L E). GivesFetched entries fetches refused sends o n (Some packet)) (
          ap (own t.known.node) adds ∙ own_here t.known.node node packet (fetches found) (sym t.node_is) ∙ ap (λ (l : List Fetched). l ++ packet ∷ []) same_fetches,
          (found, refl, ap (pending sends (entries found) (fetches found)) t.node_is ∙ is, bytes ∙ ap (λ (n : ℕ). Some (n, packet.message)) (sym t.node_is)),
        )

    pub fetch_stays : (answer : Result (Option Fetched) NoMemoryValue) → FetchAdds answer node (fetches found) (fetches after) → OnErr answer (new.part.fetches ≡ old.part.fetches)
    fetch_stays (Ok r) adds = tt
    fetch_stays (Err e) adds = by_values (λ (o n : SeatValue L E). n.part.fetches ≡ o.part.fetches) (ap (own t.known.node) adds ∙ same_fetches)

    pub add_keeps : fetches after ≡ fetches found → new.part.fetches ≡ old.part.fetches
    add_keeps kept = by_values (λ (o n : SeatValue L E). n.part.fetches ≡ o.part.fetches) (ap (own t.known.node) kept ∙ same_fetches)

    module _ (entry : E) (limit : L → ℕ → E → Option AddFault) where
      abbrev Added : Result (Unit {0}) AddFault → Type 0
      Added answer = Adds answer node entry (limit found node entry) (entries found) (entries after) (refused found) (refused after)

      pub add_adds : (answer : Result (Unit {0}) AddFault) → full ≡ is_limit answer → Added answer
          → OnOk answer ((new.part.entries ≡ old.part.entries ++ entry ∷ []) × (new.part.refused ≡ old.part.refused) × (new.full ≡ old.full))
      add_adds (Err fault) told adds = tt
      add_adds (Ok done) told adds = by_values (λ (o n : SeatValue L E). (n.part.entries ≡ o.part.entries ++ entry ∷ []) × (n.part.refused ≡ o.part.refused) × (n.full ≡ o.full)) (
        ap (own t.known.node) adds.added.0 ∙ own_here t.known.node node entry (entries found) (sym t.node_is) ∙ ap (λ (l : List E). l ++ entry ∷ []) same_entries,
        ap (own_one t.known.node) adds.added.1 ∙ same_refused,
        ap (λ (b : Bool). t.known.full || b) told ∙ or_false t.known.full,
      )

      pub add_free : (answer : Result (Unit {0}) AddFault) → Added answer → OnOk answer (WasFree entries fetches refused limit new entry)
      add_free (Err fault) adds = tt
      add_free (Ok done) adds = by_values (λ (o n : SeatValue L E). WasFree entries fetches refused limit n entry) (found, refl, adds.free.0, ap (λ (n : ℕ). limit found n entry) t.node_is ∙ adds.free.1)

      pub add_same : (answer : Result (Unit {0}) AddFault) → Added answer → OnErr answer (new.part.entries ≡ old.part.entries)
      add_same (Ok done) adds = tt
      add_same (Err fault) adds = by_values (λ (o n : SeatValue L E). n.part.entries ≡ o.part.entries) (ap (own t.known.node) adds.err.0 ∙ same_entries)

      by_noted : (fault : AddFault) (was is : Option (Refused E)) → refused found ≡ was → refused after ≡ is → RefusesBy fault (limit found node entry) was is node entry
          → RefusedBy entries fetches refused limit was found before later entry fault
      by_noted fault None is e f refuses = (
        ap (own_one t.known.node) (f ∙ refuses.0) ∙ own_one_here t.known.node node (entry, fault) (sym t.node_is),
        ap (λ (n : ℕ). limit found n entry) t.node_is ∙ refuses.1,
      )
      by_noted fault (Some first) is e f refuses = (ap (own_one t.known.node) (f ∙ refuses.0 ∙ sym e) ∙ same_refused, refuses.1)

      is_full : full ≡ true → later.full ≡ true
      is_full e = ap (λ (b : Bool). t.known.full || b) e ∙ or_true t.known.full

      pub add_refused : (answer : Result (Unit {0}) AddFault) → full ≡ is_limit answer → Added answer → IfErr answer (λ fault. WasRefused entries fetches refused limit old new entry fault)
      add_refused (Ok done) told adds = tt
      add_refused (Err NoMemory) told adds = by_values (λ (o n : SeatValue L E). WasRefused entries fetches refused limit o n entry NoMemory)
          (ap (own_one t.known.node) adds.err.1 ∙ same_refused, ap (λ (b : Bool). t.known.full || b) told ∙ or_false t.known.full)
      add_refused (Err Packets) told adds = by_values (λ (o n : SeatValue L E). WasRefused entries fetches refused limit o n entry Packets)
          (is_full told, (found, refl, by_noted Packets (refused found) (refused after) refl refl adds.err.1))
      add_refused (Err Bytes) told adds = by_values (λ (o n : SeatValue L E). WasRefused entries fetches refused limit o n entry Bytes)
          (is_full told, (found, refl, by_noted Bytes (refused found) (refused after) refl refl adds.err.1))

  -- what the clauses of `close` say
  pub record Closing (start : L) (hand : HandValue L E) (book : L) : Type 0 where
    pub is_legal : legal book
    pub grown : Grows entries fetches refused start book
    pub seats : (x : Joined (Part E)) → Has hand.kept x → (own x.node (entries book) ≡ x.part.entries) × (own x.node (fetches book) ≡ x.part.fetches)
    pub others : (node : ℕ) → hand.count ≤ node → (own node (entries book) ≡ own node (entries start)) × (own node (fetches book) ≡ own node (fetches start))
    pub names : NamesNodes entries fetches refused hand.nodes book
    pub full : (x : Joined (Part E)) → Has hand.kept x → x.full ≡ true → IsStuck refused book
    pub refusal : (r : Refused E) → refused book ≡ Some r → (x : Joined (Part E)) × Has hand.kept x × (x.node ≡ r.0) × (x.part.refused ≡ Some r.1)

  abbrev End : ℕ → List (Joined (Part E)) → L → L → Type 0
  End = Ends legal (Grows entries fetches refused) (part_of entries fetches refused) (IsStuck refused)

  own_refusal : (book : L) (r : Refused E) → refused book ≡ Some r → own_one r.0 (refused book) ≡ Some r.1
  own_refusal book r is = ap (own_one r.0) is ∙ own_one_here r.0 r.0 r.1 refl

  -- a node that isn't split has no refused entry
  not_above : (start : L) (hand : HandValue L E) (book : L) → refused start ≡ None → End hand.count hand.kept start book → (r : Refused E) → refused book ≡ Some r → hand.count ≤ r.0 → ⊥
  not_above start hand book free ends r is above = none_is_not r.1
      (sym (ap (own_one r.0) free) ∙ sym (ap (λ (p : Part E). p.refused) (ends.others r.0 above)) ∙ own_refusal book r is)

  closing_of : (start : L) (hand : HandValue L E) (book : L) → hand.count ≤ hand.nodes → refused start ≡ None → NamesNodes entries fetches refused hand.nodes start → AllJoined hand
      → End hand.count hand.kept start book → Closing start hand book
  closing_of start hand book room free names joined ends = record {
    is_legal = ends.is_legal;
    grown = ends.grown;
    seats = λ x has. let e = (ends.seats x has).0 in (ap (λ (p : Part E). p.entries) (sym e), ap (λ (p : Part E). p.fetches) (sym e));
    others = λ node above. let e = ends.others node above in (ap (λ (p : Part E). p.entries) e, ap (λ (p : Part E). p.fetches) e);
    names = (
      names_below hand.nodes (entries book) (λ node above. ap (λ (p : Part E). p.entries) (ends.others node (le_trans room above)) ∙ none_above hand.nodes node (entries start) names.0 above),
      names_below hand.nodes (fetches book) (λ node above. ap (λ (p : Part E). p.fetches) (ends.others node (le_trans room above)) ∙ none_above hand.nodes node (fetches start) names.1 above),
      λ r is. lt_of_not-le (λ above. not_above start hand book free ends r is (le_trans room above)),
    );
    full = λ x has e. (ends.seats x has).1 e;
    refusal = λ r is. dite (dec_le hand.count r.0)
        (λ (above : hand.count ≤ r.0). absurd (not_above start hand book free ends r is above))
        (λ (below : hand.count ≤ r.0 → ⊥). let one = joined r.0 (lt_of_not-le below) in
        (one.0, one.1, one.2, ap (λ (p : Part E). p.refused) (ends.seats one.0 one.1).0 ∙ ap (λ (n : ℕ). own_one n (refused book)) one.2 ∙ own_refusal book r is));
  }

  abbrev Law : L → State (Option L) V → Type 0
  Law = Ruled legal (Grows entries fetches refused) (part_of entries fetches refused) (IsStuck refused)

  -- the slot of the closed table has a book, and its clauses hold
  pub closed_book : (journal : JournalValue L) (hand : HandValue L E) (table : TableId) (start : L) (nodes count : ℕ) (kept : List (Joined (Part E))) (key : L) (id : ℕ) (me : M) (words : List ℕ) (slots : List (Option L))
      → record { table = table; start = start; nodes = nodes; count = count; kept = kept_by me.0 } ≡ hand → key ≡ journal.start → IsHandOf journal hand → AllJoined hand
      → me ≡ (hand_view count kept start, []) → count ≤ nodes → refused start ≡ None → NamesNodes entries fetches refused nodes start
      → Final (Seen (Law key) id me.0) words slots → (book : L) × (get_elem? slots 0 ≡ some (Some book)) × Closing journal.start hand book
  closed_book journal hand table start nodes count kept key id me words slots is begun own_it joined mine room free names final =
      let left : kept_by me.0 ≡ kept = ap (λ (m : M). kept_by m.0) mine in
      let value : record { table = table; start = start; nodes = nodes; count = count; kept = kept } ≡ hand = (λ i. record { table = table; start = start; nodes = nodes; count = count; kept = sym left i }) ∙ is in
      let first : start ≡ journal.start = ap (λ (h : HandValue L E). h.start) is ∙ own_it.1 in
      let all = subst AllJoined (sym value) joined in
      let end = closes legal (Grows entries fetches refused) (part_of entries fetches refused) (IsStuck refused) key id me.0 count kept start words slots (ap (λ (m : M). m.0) mine) all final in
      let ends : End count kept start end.0 = subst (λ (b : L). End count kept b end.0) (begun ∙ sym first) end.2 in
      (end.0, end.1, subst (λ (b : L). Closing b hand end.0) first (subst (λ (h : HandValue L E). Closing start h end.0) value (closing_of start (record { table = table; start = start; nodes = nodes; count = count; kept = kept }) end.0 room free names all ends)))

  -- so the book that is taken out of it is this one
  pub closing : (start : L) (hand : HandValue L E) (slots : List (Option L)) (out : Option L) (book : L) → (b : L) × (get_elem? slots 0 ≡ some (Some b)) × Closing start hand b
      → get_elem? slots 0 ≡ some out → out ≡ Some book → Closing start hand book
  closing start hand slots out book has at is = subst (Closing start hand) (some_same has.0 book (some-injective (Some has.0) out (sym has.1 ∙ at) ∙ is)) has.2

  pub not_empty : (start : L) (hand : HandValue L E) (slots : List (Option L)) (out : Option L) → (b : L) × (get_elem? slots 0 ≡ some (Some b)) × Closing start hand b
      → get_elem? slots 0 ≡ some out → out ≡ None → ⊥
  not_empty start hand slots out has at is = none_is_not has.0 (sym is ∙ sym (some-injective (Some has.0) out (sym has.1 ∙ at)))
