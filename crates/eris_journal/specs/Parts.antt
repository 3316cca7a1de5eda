-- A book as its two lists and its refused entry, what it has of a node, and which books go on from
-- it.
use Rattle.std.specs.Prelude.{◌≡◌, ◌<◌, ℕ, Bool, List, Option, None, Some, Result, Ok, Err, true, false}
use Rattle.eris_journal.specs.Lists.{own, own_one, Begins, NamesBelow}
use Rattle.eris_journal.specs.declared.add_fault.AddFault.{AddFault}
use Rattle.eris_journal.specs.declared.add_fault.AddFault.TheVariants.{NoMemory}
use Rattle.eris_journal.specs.declared.fetched.Fetched.{Fetched}
use Rattle.eris_journal.specs.declared.views.Part.{Part}

-- a refused entry with its node and its cause
abbrev pub Refused : Type 0 → Type 0
Refused E = ℕ × (E × AddFault)

-- there is a refused entry
abbrev pub IsStuck : {L E : Type 0} → (L → Option (Refused E)) → L → Type 0
IsStuck {E = E} refused book = (r : Refused E) × (refused book ≡ Some r)

module _ {L E : Type 0} (entries : L → List (ℕ × E)) (fetches : L → List (ℕ × Fetched)) (refused : L → Option (Refused E)) where
  -- what a book has of a node
  abbrev pub part_of : L → ℕ → Part E
  part_of book node = record {
    entries = own node (entries book);
    fetches = own node (fetches book);
    refused = own_one node (refused book);
  }

  -- both lists go on, and a refused entry stays
  abbrev pub Grows : L → L → Type 0
  Grows first book =
      Begins (entries first) (entries book)
      × Begins (fetches first) (fetches book)
      × ((r : Refused E) → refused first ≡ Some r → refused book ≡ Some r)

  -- all that the book names is of nodes below the number
  abbrev pub NamesNodes : ℕ → L → Type 0
  NamesNodes nodes book =
      NamesBelow nodes (entries book)
      × NamesBelow nodes (fetches book)
      × ((r : Refused E) → refused book ≡ Some r → r.0 < nodes)

-- the answer is a limit's
abbrev pub is_limit : {T : Type 0} → Result T AddFault → Bool
is_limit (Ok done) = false
is_limit (Err NoMemory) = false
is_limit (Err fault) = true

module _ {E : Type 0} where
  abbrev pub RefusesBy : AddFault → Option AddFault → Option (Refused E) → Option (Refused E) → ℕ → E → Type 0
  RefusesBy fault limit None after node entry = (after ≡ Some (node, (entry, fault))) × (limit ≡ Some fault)
  RefusesBy fault limit (Some r) after node entry = (after ≡ Some r) × (r.1.1 ≡ fault)

  -- the cause of a refusal: no memory, and all is as before; or that of the entry that was refused
  -- before; or else the limit that this entry would pass, and it is kept. `before` and `after` are
  -- the refused entry before and after the call.
  abbrev pub Refuses : Option AddFault → Option (Refused E) → Option (Refused E) → ℕ → E → AddFault → Type 0
  Refuses limit before after node entry NoMemory = after ≡ before
  Refuses limit before after node entry fault = RefusesBy fault limit before after node entry
