-- Reading items one after the other, as a loop does.
use Rattle.std.proofs.Common.{◌≡◌, ℕ, suc, ◌-◌, ◌+◌, ◌<◌, List, [], ◌∷◌, ◌++◌, Ok, Err, refl, sym, ap, subst, ◌∙◌, append_assoc, arith}
use Rattle.eris_codec.specs.declared.fault.Stop.{Stop}
use Rattle.eris_codec.specs.declared.fault.Stop.TheVariants as stops
use Rattle.eris_codec.specs.Answers.{Stops}
use Rattle.eris_codec.specs.Codecs.{Codec, Read, ◌>>=◌, read_items}

-- what was read before, and what is still read
abbrev pub with_front : {X : Type 0} → List X → Read (List X) → Read (List X)
with_front front read = read >>= λ x. Ok (front ++ x.0, x.1)

regroup : {X : Type 0} (front : List X) (n : X) (read : Read (List X)) → with_front front (read >>= λ x. Ok (n ∷ x.0, x.1)) ≡ with_front (front ++ n ∷ []) read
regroup {X = X} front n (Ok x) = ap (λ (ns : List X). Ok (ns, x.1)) (simp append_assoc)
regroup front n (Err f) = refl

pub goes_on : {X : Type 0} (item : List X → Codec X) (front : List X) (count i : ℕ) (bytes : List ℕ) (x : X) (after : List ℕ) (total : Read (List X))
    → i < count → (item front).read bytes ≡ Ok (x, after) → with_front front (read_items item front (count - i) bytes) ≡ total
    → with_front (front ++ x ∷ []) (read_items item (front ++ x ∷ []) (count - (i + 1)) after) ≡ total
goes_on item front count i bytes x after total lt h so_far =
    let k : count - i ≡ suc (count - (i + 1)) = omega arith in
    let one : with_front front (read_items item front (count - i) bytes) ≡ with_front (front ++ x ∷ []) (read_items item (front ++ x ∷ []) (count - (i + 1)) after) =
    rw (k, h) (regroup front x (read_items item (front ++ x ∷ []) (count - (i + 1)) after)) in
    sym one ∙ so_far

pub ends : {X : Type 0} (item : List X → Codec X) (e : Stop) (front : List X) (count i : ℕ) (bytes : List ℕ) (total : Read (List X))
    → i < count → Stops e ((item front).read bytes) → with_front front (read_items item front (count - i) bytes) ≡ total → Stops e total
ends item stops.NoMemory front count i bytes total lt h so_far = tt
ends item (stops.Wrong w) front count i bytes total lt h so_far =
    let k : count - i ≡ suc (count - (i + 1)) = omega arith in
    let one : with_front front (read_items item front (count - i) bytes) ≡ Err w = rw (k, h) refl in
    sym so_far ∙ one

-- the same where the reader was given the items before as another list, equal to theirs
pub goes_on_given : {X : Type 0} (item : List X → Codec X) (front given : List X) (count i : ℕ) (bytes : List ℕ) (x : X) (after : List ℕ) (total : Read (List X))
    → given ≡ front → i < count → (item given).read bytes ≡ Ok (x, after) → with_front front (read_items item front (count - i) bytes) ≡ total
    → with_front (front ++ x ∷ []) (read_items item (front ++ x ∷ []) (count - (i + 1)) after) ≡ total
goes_on_given {X = X} item front given count i bytes x after total same lt h so_far =
    goes_on item front count i bytes x after total lt (subst (λ (z : List X). (item z).read bytes ≡ Ok (x, after)) same h) so_far
