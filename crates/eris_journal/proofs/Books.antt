-- Books that go on from others, and what may be put back after a fetch and after an entry was
-- added.
use Rattle.std.proofs.Common.{◌≡◌, ◌≢◌, ℕ, Bool, true, false, true≢false, List, [], ◌∷◌, ◌++◌, sym, ap, ◌∙◌, subst, Some, None, Ok, Err, is_some, IfOk, OnOk, OnErr, IfErr, MatchOption, Option, Result}
use Rattle.eris_base.specs.declared.no_memory.NoMemory.{NoMemory as NoMemoryValue}
use Rattle.eris_journal.specs.Lists.{own, own_one, Begins}
use Rattle.eris_journal.specs.Parts.{Refused, IsStuck, part_of, Grows, is_limit, RefusesBy, Refuses}
use Rattle.eris_journal.specs.Turns.{MayGive}
use Rattle.eris_journal.specs.declared.add_fault.AddFault.{AddFault}
use Rattle.eris_journal.specs.declared.add_fault.AddFault.TheVariants.{Packets, Bytes, NoMemory}
use Rattle.eris_journal.specs.declared.fetched.Fetched.{Fetched}
use Rattle.eris_journal.specs.declared.views.Known.{Known}
use Rattle.eris_journal.specs.declared.views.Part.{Part}
use Rattle.eris_journal.proofs.Lists.{begins_self, begins_then, begins_same, own_else, own_one_else}

pub none_is_not : {A : Type 0} (x : A) → None ≡ Some x → ⊥
none_is_not x e = true≢false (sym (ap is_some e))

-- after a fetch: the packet's pair is added, or nothing
abbrev pub FetchAdds : Result (Option Fetched) NoMemoryValue → ℕ → List (ℕ × Fetched) → List (ℕ × Fetched) → Type 0
FetchAdds (Ok (Some packet)) node before after = after ≡ before ++ (node, packet) ∷ []
FetchAdds (Ok None) node before after = after ≡ before
FetchAdds (Err e) node before after = after ≡ before

pub fetch_adds : (answer : Result (Option Fetched) NoMemoryValue) (node : ℕ) (before after : List (ℕ × Fetched))
    → IfOk answer (λ r. MatchOption r (after ≡ before) (λ packet. after ≡ before ++ (node, packet) ∷ [])) → OnErr answer (after ≡ before) → FetchAdds answer node before after
fetch_adds (Ok (Some packet)) node before after ok err = ok
fetch_adds (Ok None) node before after ok err = ok
fetch_adds (Err e) node before after ok err = err

fetch_begins : (answer : Result (Option Fetched) NoMemoryValue) (node : ℕ) (before after : List (ℕ × Fetched)) → FetchAdds answer node before after → Begins before after
fetch_begins (Ok (Some packet)) node before after adds = (((node, packet) ∷ []), adds)
fetch_begins (Ok None) node before after adds = begins_same before after adds
fetch_begins (Err e) node before after adds = begins_same before after adds

fetch_others : (answer : Result (Option Fetched) NoMemoryValue) (node : ℕ) (before after : List (ℕ × Fetched)) → FetchAdds answer node before after → (other : ℕ) → other ≢ node → own other after ≡ own other before
fetch_others (Ok (Some packet)) node before after adds other apart = ap (own other) adds ∙ own_else other node packet before (λ e. apart (sym e))
fetch_others (Ok None) node before after adds other apart = ap (own other) adds
fetch_others (Err e) node before after adds other apart = ap (own other) adds

-- what was added, or refused
pub record Adds {E : Type 0} (answer : Result (Unit {0}) AddFault) (node : ℕ) (entry : E) (limit : Option AddFault) (before after : List (ℕ × E)) (was is : Option (Refused E)) : Type 0 where
  pub added : OnOk answer ((after ≡ before ++ (node, entry) ∷ []) × (is ≡ was))
  pub free : OnOk answer ((was ≡ None) × (limit ≡ None))
  pub err : IfErr answer (λ fault. (after ≡ before) × Refuses limit was is node entry fault)

module _ {E : Type 0} (node : ℕ) (entry : E) (limit : Option AddFault) where
  by_keeps : (fault : AddFault) (was is : Option (Refused E)) → RefusesBy fault limit was is node entry → (r : Refused E) → was ≡ Some r → is ≡ Some r
  by_keeps fault None is refuses r e = absurd (none_is_not r e)
  by_keeps fault (Some first) is refuses r e = refuses.0 ∙ e

  refuses_keeps : (fault : AddFault) (was is : Option (Refused E)) → Refuses limit was is node entry fault → (r : Refused E) → was ≡ Some r → is ≡ Some r
  refuses_keeps Packets was is refuses r e = by_keeps Packets was is refuses r e
  refuses_keeps Bytes was is refuses r e = by_keeps Bytes was is refuses r e
  refuses_keeps NoMemory was is refuses r e = refuses ∙ e

  by_others : (fault : AddFault) (was is : Option (Refused E)) → RefusesBy fault limit was is node entry → (other : ℕ) → other ≢ node → own_one other is ≡ own_one other was
  by_others fault None is refuses other apart = ap (own_one other) refuses.0 ∙ own_one_else other node (entry, fault) (λ e. apart (sym e))
  by_others fault (Some first) is refuses other apart = ap (own_one other) refuses.0

  refuses_others : (fault : AddFault) (was is : Option (Refused E)) → Refuses limit was is node entry fault → (other : ℕ) → other ≢ node → own_one other is ≡ own_one other was
  refuses_others Packets was is refuses other apart = by_others Packets was is refuses other apart
  refuses_others Bytes was is refuses other apart = by_others Bytes was is refuses other apart
  refuses_others NoMemory was is refuses other apart = ap (own_one other) refuses

  by_stuck : (fault : AddFault) (was is : Option (Refused E)) → RefusesBy fault limit was is node entry → (r : Refused E) × (is ≡ Some r)
  by_stuck fault None is refuses = ((node, (entry, fault)), refuses.0)
  by_stuck fault (Some first) is refuses = (first, refuses.0)

  module _ (before after : List (ℕ × E)) (was is : Option (Refused E)) where
    adds_begin : (answer : Result (Unit {0}) AddFault) → Adds answer node entry limit before after was is → Begins before after
    adds_begin (Ok done) adds = (((node, entry) ∷ []), adds.added.0)
    adds_begin (Err fault) adds = begins_same before after adds.err.0

    adds_keep : (answer : Result (Unit {0}) AddFault) → Adds answer node entry limit before after was is → (r : Refused E) → was ≡ Some r → is ≡ Some r
    adds_keep (Ok done) adds r e = adds.added.1 ∙ e
    adds_keep (Err fault) adds r e = refuses_keeps fault was is adds.err.1 r e

    adds_others : (answer : Result (Unit {0}) AddFault) → Adds answer node entry limit before after was is → (other : ℕ) → other ≢ node → (own other after ≡ own other before) × (own_one other is ≡ own_one other was)
    adds_others (Ok done) adds other apart = (ap (own other) adds.added.0 ∙ own_else other node entry before (λ e. apart (sym e)), ap (own_one other) adds.added.1)
    adds_others (Err fault) adds other apart = (ap (own other) adds.err.0, refuses_others fault was is adds.err.1 other apart)

    adds_stuck : (answer : Result (Unit {0}) AddFault) → Adds answer node entry limit before after was is → is_limit answer ≡ true → (r : Refused E) × (is ≡ Some r)
    adds_stuck (Ok done) adds e = absurd (true≢false (sym e))
    adds_stuck (Err NoMemory) adds e = absurd (true≢false (sym e))
    adds_stuck (Err Packets) adds e = by_stuck Packets was is adds.err.1
    adds_stuck (Err Bytes) adds e = by_stuck Bytes was is adds.err.1

module _ {L E : Type 0} (legal : L → Type 0) (entries : L → List (ℕ × E)) (fetches : L → List (ℕ × Fetched)) (refused : L → Option (Refused E)) where
  pub grows_self : (book : L) → Grows entries fetches refused book book
  grows_self book = (begins_self (entries book), begins_self (fetches book), λ r e. e)

  pub grows_same : (first book : L) → book ≡ first → Grows entries fetches refused first book
  grows_same first book same = subst (Grows entries fetches refused first) (sym same) (grows_self first)

  pub grows_on : (a b c : L) → Grows entries fetches refused a b → Grows entries fetches refused b c → Grows entries fetches refused a c
  grows_on a b c first then = (
    begins_then (entries a) (entries b) (entries c) first.0 then.0,
    begins_then (fetches a) (fetches b) (fetches c) first.1 then.1,
    λ r e. then.2 r (first.2 r e),
  )

  pub stays_stuck : (a b : L) → Grows entries fetches refused a b → IsStuck refused a → IsStuck refused b
  stays_stuck a b grows stuck = (stuck.0, grows.2 stuck.0 stuck.1)

  part_same : (a b : L) (node : ℕ) → own node (entries b) ≡ own node (entries a) → own node (fetches b) ≡ own node (fetches a) → own_one node (refused b) ≡ own_one node (refused a)
      → part_of entries fetches refused b node ≡ part_of entries fetches refused a node
  part_same a b node p q r i = record { entries = p i; fetches = q i; refused = r i }

  abbrev pub Gives : Bool → Known L (Part E) → L → L → Type 0
  Gives = MayGive legal (Grows entries fetches refused) (part_of entries fetches refused) (IsStuck refused)

  -- a book after a fetch may be put back
  pub fetch_gives : (answer : Result (Option Fetched) NoMemoryValue) (known : Known L (Part E)) (node : ℕ) (found after : L) → known.node ≡ node → legal after
      → (entries after ≡ entries found) × (refused after ≡ refused found) → FetchAdds answer node (fetches found) (fetches after) → Gives false known found after
  fetch_gives answer known node found after is ok kept adds = (
    ok,
    (begins_same (entries found) (entries after) kept.0, fetch_begins answer node (fetches found) (fetches after) adds, λ r e. kept.1 ∙ e),
    (λ other apart. part_same found after other (ap (own other) kept.0) (fetch_others answer node (fetches found) (fetches after) adds other (λ e. apart (e ∙ sym is))) (ap (own_one other) kept.1)),
    (λ e. absurd (true≢false (sym e))),
  )

  -- a book after an entry was added or refused may be put back
  pub add_gives : (answer : Result (Unit {0}) AddFault) (full : Bool) (known : Known L (Part E)) (node : ℕ) (entry : E) (limit : Option AddFault) (found after : L) → full ≡ is_limit answer → known.node ≡ node → legal after
      → fetches after ≡ fetches found → Adds answer node entry limit (entries found) (entries after) (refused found) (refused after) → Gives full known found after
  add_gives answer full known node entry limit found after told is ok kept adds = (
    ok,
    (
      adds_begin node entry limit (entries found) (entries after) (refused found) (refused after) answer adds,
      begins_same (fetches found) (fetches after) kept,
      adds_keep node entry limit (entries found) (entries after) (refused found) (refused after) answer adds,
    ),
    (λ other apart. let o = adds_others node entry limit (entries found) (entries after) (refused found) (refused after) answer adds other (λ e. apart (e ∙ sym is)) in part_same found after other o.0 (ap (own other) kept) o.1),
    (λ e. adds_stuck node entry limit (entries found) (entries after) (refused found) (refused after) answer adds (sym told ∙ e)),
  )
