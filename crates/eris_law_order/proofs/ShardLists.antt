-- Lists in the order of a shard: strictly ascending by epoch, then by number. One such list begins with another where
-- it has its packets and no earlier ones. So no list of an order is ever taken apart: all is membership.
use Rattle.std.proofs.Common.{◌≡◌, ◌⊎◌, inl, inr, ℕ, ◌<◌, List, [], ◌∷◌, ◌++◌, refl, sym, ap, ◌∙◌, subst, arith, unwrap_or}
use Rattle.eris_base.specs.declared.ids.ShardId.{ShardId}
use Rattle.eris_base.specs.Each.{Each}
use Rattle.eris_base.specs.Places.{number_in}
use Rattle.eris_base.proofs.Each.{Each-append}
use Rattle.eris_txn.specs.declared.packet.Packet.{Packet}
use Rattle.eris_law_epoch.specs.Members.{In}
use Rattle.eris_law_epoch.specs.Stamped.{HasNumber}
use Rattle.eris_law_epoch.proofs.Members.{Each-at, Each-by_In}

-- the packet's number on the shard, or 0
unfoldable pub number_on : ShardId → Packet → ℕ
number_on shard packet = unwrap_or (number_in packet.stamp.places shard) 0

pub number_on-is : (shard : ShardId) (n : ℕ) (packet : Packet) → HasNumber packet shard n → number_on shard packet ≡ n
unfolding number_on
number_on-is shard n packet h = ap (λ o. unwrap_or o 0) h

-- the first packet is of an earlier epoch, or of the same one with a lower number on the shard
abbrev pub Before : ShardId → Packet → Packet → Type 0
Before shard a b = (a.stamp.epoch.0 < b.stamp.epoch.0) ⊎ ((a.stamp.epoch.0 ≡ b.stamp.epoch.0) × (number_on shard a < number_on shard b))

pub before-trans : (shard : ShardId) (a b c : Packet) → Before shard a b → Before shard b c → Before shard a c
before-trans shard a b c (inl p) (inl q) = inl (omega arith)
before-trans shard a b c (inl p) (inr q) = inl (let z = q.0 in omega arith)
before-trans shard a b c (inr p) (inl q) = inl (let z = p.0 in omega arith)
before-trans shard a b c (inr p) (inr q) = inr (p.0 ∙ q.0, let x = p.1 in let y = q.1 in omega arith)

pub before-not : (shard : ShardId) (a b : Packet) → Before shard a b → Before shard b a → ⊥
before-not shard a b (inl p) (inl q) = absurd (omega arith)
before-not shard a b (inl p) (inr q) = let z = q.0 in absurd (omega arith)
before-not shard a b (inr p) (inl q) = let z = p.0 in absurd (omega arith)
before-not shard a b (inr p) (inr q) = let x = p.1 in let y = q.1 in absurd (omega arith)

-- each packet stands before all that come after it
abbrev pub Ascends : ShardId → List Packet → Type 0
Ascends shard [] = Unit {0}
Ascends shard (x ∷ xs) = Each (Before shard x) xs × Ascends shard xs

pub Ascends-append : (shard : ShardId) (xs ys : List Packet) → Ascends shard xs → Ascends shard ys → ((x y : Packet) → In x xs → In y ys → Before shard x y) → Ascends shard (xs ++ ys)
Ascends-append shard [] ys f g h = g
Ascends-append shard (x ∷ xs) ys f g h =
    (Each-append (Before shard x) xs ys f.0 (Each-by_In (Before shard x) ys (λ y i. h x y (inl refl) i)), Ascends-append shard xs ys f.1 g (λ a b i j. h a b (inr i) j))

-- the longer list begins with the front, and nothing of the rest is among the early ones
pub record Cut (IsEarly : Packet → Type 0) (front all : List Packet) : Type 0 where
  pub rest : List Packet
  pub joined : all ≡ front ++ rest
  pub beyond : (packet : Packet) → In packet rest → IsEarly packet → ⊥

-- A FRONT BY MEMBERSHIP: of two ascending lists the one is how the other begins, where its packets are those of the
-- other that are early, and what stands before an early packet is early
pub cut : (shard : ShardId) (IsEarly : Packet → Type 0) (xs ys : List Packet) → Ascends shard xs → Ascends shard ys
    → ((z : Packet) → In z xs → In z ys × IsEarly z) → ((z : Packet) → In z ys → IsEarly z → In z xs) → ((x z : Packet) → IsEarly x → Before shard z x → IsEarly z) → Cut IsEarly xs ys
cut shard IsEarly [] ys f g into back down = record { rest = ys; joined = refl; beyond = λ z i d. back z i d }
cut shard IsEarly (x ∷ xs) [] f g into back down = absurd (into x (inl refl)).0
cut shard IsEarly (x ∷ xs) (y ∷ ys) f g into back down =
    let same : y ≡ x = head (into x (inl refl)) in
    let r = cut shard IsEarly xs ys f.1 g.1 (λ z i. (into_tail same z i (into z (inr i)).0, (into z (inr i)).1)) (λ z i d. back_tail same z i (back z (inr i) d)) down in
    record { rest = r.rest; joined = (λ i. same i ∷ r.joined i); beyond = r.beyond }
  where
    head : In x (y ∷ ys) × IsEarly x → y ≡ x
    head (inl q, d) = sym q
    head (inr i, d) =
        let b : Before shard y x = Each-at (Before shard y) ys x g.0 i in
        elim (back y (inl refl) (down x y d b)) [ inl q ↦ q | inr j ↦ absurd (before-not shard x y (Each-at (Before shard x) xs y f.0 j) b) ]

    into_tail : y ≡ x → (z : Packet) → In z xs → In z (y ∷ ys) → In z ys
    into_tail e z i (inr j) = j
    into_tail e z i (inl q) =
        let b : Before shard x z = Each-at (Before shard x) xs z f.0 i in
        let c : Before shard x x = subst (λ w. Before shard x w) (q ∙ e) b in
        absurd (before-not shard x x c c)

    back_tail : y ≡ x → (z : Packet) → In z ys → In z (x ∷ xs) → In z xs
    back_tail e z i (inr j) = j
    back_tail e z i (inl q) =
        let b : Before shard y z = Each-at (Before shard y) ys z g.0 i in
        let c : Before shard y y = subst (λ w. Before shard y w) (q ∙ sym e) b in
        absurd (before-not shard y y c c)
