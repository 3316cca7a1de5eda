-- A small book's index finds what is pending, and stays right.
use Rattle.std.proofs.Common.{◌≡◌, ◌≢◌, ◌||◌, ℕ, ◌+◌, ◌<◌, ◌≤◌, eqb, Bool, true, false, true≢false, List, [], ◌∷◌, ◌++◌, map, length, length-append, get_or, set, length-set, get_or-set_same, get_or-set_other, refl, sym, ap, ◌∙◌, subst, arith, Some, None, Option, slice_get, slice_index, append_assoc, lt_of_not-le, eq-eqb, ne_eqb, MatchOption}
use mathlib.Core.Logic.{dite}
use mathlib.Core.List.{map-append}
use lib.ListN.{length-map}
use native.Mathlib.Decide.{ℕ_discrete, dec_le}
use Rattle.eris_base.specs.Each.{Each}
use Rattle.eris_base.proofs.Each.{Each-append, Each-weaker}
use Rattle.eris_journal.specs.Lists.{own}
use Rattle.eris_journal.specs.Packets.{Packet, sent, is_fetched, pending, pending_from, IsNothing, IsLeast}
use Rattle.eris_journal.specs.declared.fetched.Fetched.{Fetched}
use Rattle.eris_journal.proofs.Lists.{own_here, own_else}
use Rattle.eris_journal.proofs.Calls.{some_same}
use Rattle.eris_journal.proofs.Pending.{pending_says, nothing_is_pending, least_is_pending}
use Rattle.eris_try_journal.specs.Bytes.{packet_of, sends, GoesBelow, IsNext}
use Rattle.eris_try_journal.specs.SmallBooks.{IsCursor, IsIndex}
use Rattle.eris_try_journal.proofs.Places.{get_there, get_below, get_front, each_at, map_at, map_from}

-- which numbers are among the fetched
not_fetched : (number : ℕ) (fetched : List Fetched) → Each (λ packet. packet.number < number) fetched → is_fetched number fetched ≡ false
not_fetched number [] each = refl
not_fetched number (packet ∷ packets) each =
    ap (λ (b : Bool). b || is_fetched number packets) (ne_eqb packet.number number (λ e. omega (arith, e, each.0))) ∙ not_fetched number packets each.1

or_right : (a b : Bool) → b ≡ true → (a || b) ≡ true
or_right true b e = refl
or_right false b e = e

fetched_more : (number : ℕ) (fetched : List Fetched) (packet : Fetched) → is_fetched number fetched ≡ true → is_fetched number (fetched ++ packet ∷ []) ≡ true
fetched_more number [] packet e = absurd (true≢false (sym e))
fetched_more number (first ∷ rest) packet e = step (eqb first.number number) (λ was. fetched_more number rest packet was) e
  where
    step : (b : Bool) → (is_fetched number rest ≡ true → is_fetched number (rest ++ packet ∷ []) ≡ true) → (b || is_fetched number rest) ≡ true → (b || is_fetched number (rest ++ packet ∷ [])) ≡ true
    step true more was = refl
    step false more was = more was

fetched_last : (number : ℕ) (fetched : List Fetched) (packet : Fetched) → packet.number ≡ number → is_fetched number (fetched ++ packet ∷ []) ≡ true
fetched_last number [] packet e = ap (λ (b : Bool). b || false) (eq-eqb packet.number number e)
fetched_last number (first ∷ rest) packet e = or_right (eqb first.number number) (is_fetched number (rest ++ packet ∷ [])) (fetched_last number rest packet e)

-- what more entries send
pub sent_more : (entries : List (ℕ × List (ℕ × ℕ))) (node : ℕ) (entry : List (ℕ × ℕ)) → sent sends (entries ++ (node, entry) ∷ []) ≡ sent sends entries ++ sends entry
sent_more [] node entry = append_nil (sends entry)
  where
    append_nil : (xs : List Packet) → xs ++ [] ≡ xs
    append_nil [] = refl
    append_nil (x ∷ xs) = ap (λ (l : List Packet). x ∷ l) (append_nil xs)
sent_more (x ∷ xs) node entry = ap (λ (l : List Packet). sends x.1 ++ l) (sent_more xs node entry) ∙ sym (append_assoc (sends x.1) (sent sends xs) (sends entry))

module _ (entries : List (ℕ × List (ℕ × ℕ))) (fetches : List (ℕ × Fetched)) (pairs : List (ℕ × ℕ)) (cursors : List ℕ) (index : IsIndex entries fetches pairs cursors) where
  pub sent_length : length (sent sends entries) ≡ length pairs
  sent_length = ap (λ (l : List Packet). length l) index.all_sent ∙ length-map pairs packet_of

  goes_within : (node number : ℕ) (packet : Packet) → slice_get (sent sends entries) number ≡ Some packet → packet.0 ≡ node → (node < 16) × (number < length pairs)
  goes_within node number packet is goes =
      let there : slice_get (map packet_of pairs) number ≡ Some packet = subst (λ (l : List Packet). slice_get l number ≡ Some packet) index.all_sent is in
      let from = map_from packet_of pairs number packet there in
      let low : from.0.0 < 16 = each_at (λ (pair : ℕ × ℕ). pair.0 < 16) pairs number from.0 index.goes_below from.1 in
      let same : from.0.0 ≡ node = ap (λ (p : Packet). p.0) from.2 ∙ goes in
      (omega (arith, low, same), get_below pairs number from.0 from.1)

  -- nothing goes to a node that isn't there
  pub outside : (node : ℕ) → 16 ≤ node → pending sends entries fetches node ≡ None
  outside node above = nothing_is_pending node (sent sends entries) (own node fetches) (λ number packet is goes. let low = (goes_within node number packet is goes).0 in absurd (omega (arith, low, above)))

  abbrev Pends : ℕ → ℕ → Type 0
  Pends node number = IsLeast node (sent sends entries) (own node fetches) number

  pub least_at : (node number : ℕ) → pending sends entries fetches node ≡ Some number → Pends node number
  least_at node number is = subst (λ o. MatchOption o (IsNothing node (sent sends entries) (own node fetches)) (Pends node)) is (pending_says node (sent sends entries) (own node fetches))

  nothing_at : (node : ℕ) → pending sends entries fetches node ≡ None → IsNothing node (sent sends entries) (own node fetches)
  nothing_at node is = subst (λ o. MatchOption o (IsNothing node (sent sends entries) (own node fetches)) (Pends node)) is (pending_says node (sent sends entries) (own node fetches))

  -- where the pending packet stands
  pub pending_at : (node number : ℕ) → pending sends entries fetches node ≡ Some number → (node < 16) × (number < length pairs) × (length pairs < 4294967296)
  pending_at node number is = let least = least_at node number is in let low = goes_within node number (node, least.0.0) least.0.1 refl in (low.0, low.1, index.few)

  pub bytes_at : (node number byte : ℕ) (pair : ℕ × ℕ) → pending sends entries fetches node ≡ Some number → pair ≡ get_or pairs number pair → pair.1 ≡ byte → slice_get (sent sends entries) number ≡ Some (node, byte ∷ [])
  bytes_at node number byte pair is at same =
      let least = least_at node number is in
      let low = (goes_within node number (node, least.0.0) least.0.1 refl).1 in
      let stands : slice_get pairs number ≡ Some pair = get_there pairs number pair low ∙ ap Some (sym at) in
      let here : slice_get (sent sends entries) number ≡ Some (packet_of pair) = subst (λ (l : List Packet). slice_get l number ≡ Some (packet_of pair)) (sym index.all_sent) (map_at packet_of pairs number pair stands) in
      let goes : pair.0 ≡ node = ap (λ (p : Packet). p.0) (some_same (packet_of pair) (node, least.0.0) (sym here ∙ least.0.1)) in
      here ∙ (λ i. Some (goes i, same i ∷ []))

  -- the next packet for the node, from its cursor on, is the pending one
  next_pends : (node : ℕ) → node < 16 → (answer : Option ℕ) → IsNext pairs node (slice_index cursors node) answer → pending_from node 0 (map packet_of pairs) (own node fetches) ≡ answer
  next_pends node low None next = let cursor = index.cursor node low in nothing_is_pending node (map packet_of pairs) (own node fetches)
      (λ number packet is goes. dite (dec_le (slice_index cursors node) number)
      (λ (above : slice_index cursors node ≤ number). let from = map_from packet_of pairs number packet is in absurd (next number from.0 above from.1 (ap (λ (p : Packet). p.0) from.2 ∙ goes)))
      (λ (below : slice_index cursors node ≤ number → ⊥). cursor.below number packet (lt_of_not-le below) is goes))
  next_pends node low (Some number) next = let cursor = index.cursor node low in least_is_pending node (map packet_of pairs) (own node fetches) number (
    (next.1.0 ∷ [], map_at packet_of pairs number (node, next.1.0) next.1.1),
    not_fetched number (own node fetches) (Each-weaker (λ (packet : Fetched). packet.number < slice_index cursors node) (λ (packet : Fetched). packet.number < number) (λ packet under. omega (arith, under, next.0)) (own node fetches) cursor.above),
    (λ other packet under is goes. dite (dec_le (slice_index cursors node) other)
        (λ (above : slice_index cursors node ≤ other). let from = map_from packet_of pairs other packet is in absurd (next.2 other from.0 above under from.1 (ap (λ (p : Packet). p.0) from.2 ∙ goes)))
        (λ (below : slice_index cursors node ≤ other → ⊥). cursor.below other packet (lt_of_not-le below) is goes)),
  )

  pub next_is_pending : (node : ℕ) → node < 16 → (answer : Option ℕ) → IsNext pairs node (slice_index cursors node) answer → answer ≡ pending sends entries fetches node
  next_is_pending node low answer next = sym (ap (λ (l : List Packet). pending_from node 0 l (own node fetches)) index.all_sent ∙ next_pends node low answer next)

  -- one cursor moves
  moved : (after : List (ℕ × Fetched)) (node place : ℕ) → node < 16 → IsCursor node place (map packet_of pairs) (own node after) → ((other : ℕ) → other ≢ node → own other after ≡ own other fetches)
      → IsIndex entries after pairs (set cursors node place)
  moved after node place low here same = record {
    all_sent = index.all_sent;
    few = index.few;
    goes_below = index.goes_below;
    sized = length-set cursors node place ∙ index.sized;
    cursor = λ other below. dite (ℕ_discrete other node)
        (λ (is : other ≡ node). subst (λ (x : ℕ × ℕ). IsCursor x.0 x.1 (map packet_of pairs) (own x.0 after)) (λ i. (sym is i, sym (ap (slice_index (set cursors node place)) is ∙ get_or-set_same cursors node place 0 (omega (arith, low, index.sized))) i)) here)
        (λ (apart : other ≢ node). subst (λ (x : ℕ × List Fetched). IsCursor other x.0 (map packet_of pairs) x.1) (λ i. (sym (get_or-set_other cursors node other place 0 apart) i, sym (same other apart) i)) (index.cursor other below));
  }

  -- after the pending packet was fetched
  pub index_fetched : (node number : ℕ) (packet : Fetched) → pending sends entries fetches node ≡ Some number → packet.number ≡ number → IsIndex entries (fetches ++ (node, packet) ∷ []) pairs (set cursors node (number + 1))
  index_fetched node number packet is same =
      let least : IsLeast node (map packet_of pairs) (own node fetches) number = subst (λ (l : List Packet). IsLeast node l (own node fetches) number) index.all_sent (least_at node number is) in
      let at = pending_at node number is in
      let cursor = index.cursor node at.0 in
      let passed : slice_index cursors node ≤ number = dite (dec_le (slice_index cursors node) number) (λ (le : slice_index cursors node ≤ number). le)
      (λ (not : slice_index cursors node ≤ number → ⊥). absurd (true≢false (sym (cursor.below number (node, least.0.0) (lt_of_not-le not) least.0.1 refl) ∙ least.1))) in
      let mine : own node (fetches ++ (node, packet) ∷ []) ≡ own node fetches ++ packet ∷ [] = own_here node node packet fetches refl in
      let moves : IsCursor node (number + 1) (map packet_of pairs) (own node fetches ++ packet ∷ []) = record {
        within = (let many = length-map pairs packet_of in omega (arith, many, at.1));
        below = λ other sent_there under there goes. dite (ℕ_discrete other number)
            (λ (last : other ≡ number). fetched_last other (own node fetches) packet (same ∙ sym last))
            (λ (earlier : other ≢ number). fetched_more other (own node fetches) packet (least.2 other sent_there (omega (arith, under, earlier)) there goes));
        above = Each-append (λ (p : Fetched). p.number < number + 1) (own node fetches) (packet ∷ [])
            (Each-weaker (λ (p : Fetched). p.number < slice_index cursors node) (λ (p : Fetched). p.number < number + 1) (λ p under. omega (arith, under, passed)) (own node fetches) cursor.above) (omega (arith, same), tt);
      } in
      moved (fetches ++ (node, packet) ∷ []) node (number + 1) at.0 (subst (IsCursor node (number + 1) (map packet_of pairs)) (sym mine) moves) (λ other apart. own_else other node packet fetches (λ e. apart (sym e)))

  -- after nothing was pending
  pub index_passed : (node place : ℕ) → node < 16 → pending sends entries fetches node ≡ None → place ≡ length pairs → IsIndex entries fetches pairs (set cursors node place)
  index_passed node place low is end =
      let nothing : IsNothing node (map packet_of pairs) (own node fetches) = subst (λ (l : List Packet). IsNothing node l (own node fetches)) index.all_sent (nothing_at node is) in
      let cursor = index.cursor node low in
      let many = length-map pairs packet_of in
      moved fetches node place low (record {
        within = omega (arith, many, end);
        below = λ number packet under there goes. nothing number packet there goes;
        above = Each-weaker (λ (p : Fetched). p.number < slice_index cursors node) (λ (p : Fetched). p.number < place) (λ p under. let within = cursor.within in omega (arith, under, within, many, end)) (own node fetches) cursor.above;
      }) (λ other apart. refl)

  -- after an entry was added
  pub index_added : (node : ℕ) (entry : List (ℕ × ℕ)) → GoesBelow 16 entry → length (pairs ++ entry) < 4294967296 → IsIndex (entries ++ (node, entry) ∷ []) fetches (pairs ++ entry) cursors
  index_added node entry goes few = record {
    all_sent = sent_more entries node entry ∙ ap (λ (l : List Packet). l ++ sends entry) index.all_sent ∙ sym (map-append packet_of pairs entry);
    few = few;
    goes_below = Each-append (λ (pair : ℕ × ℕ). pair.0 < 16) pairs entry index.goes_below goes;
    sized = index.sized;
    cursor = λ other low. let old = index.cursor other low in subst (λ (l : List Packet). IsCursor other (slice_index cursors other) l (own other fetches)) (sym (map-append packet_of pairs entry)) (record {
      within = (let more = length-append (map packet_of pairs) (map packet_of entry) in let within = old.within in omega (arith, within, more));
      below = λ number packet under there to. old.below number packet under (sym (get_front (map packet_of pairs) (map packet_of entry) number (let within = old.within in omega (arith, under, within))) ∙ there) to;
      above = old.above;
    });
  }

  pub sent_after : (node : ℕ) (entry : List (ℕ × ℕ)) → length (sent sends (entries ++ (node, entry) ∷ [])) ≡ length pairs + length entry
  sent_after node entry = ap (λ (l : List Packet). length l) (sent_more entries node entry) ∙ length-append (sent sends entries) (sends entry) ∙ (let a = sent_length in let b = length-map entry packet_of in omega (arith, a, b))

-- the index of the empty book
pub empty_index : (cursors : List ℕ) → length cursors ≡ 16 → ((node : ℕ) → node < 16 → slice_index cursors node ≡ 0) → IsIndex [] [] [] cursors
empty_index cursors sized zeros = record {
  all_sent = refl;
  few = omega arith;
  goes_below = tt;
  sized = sized;
  cursor = λ node low. subst (λ (n : ℕ). IsCursor node n [] []) (sym (zeros node low)) (record {
    within = omega arith;
    below = λ number packet under there goes. absurd (omega (arith, under));
    above = tt;
  });
}
