-- What an epoch leaves when it closes is of that epoch, so nothing changes of the epochs below it.
use Rattle.std.proofs.Common.{◌≡◌, ◌⊎◌, inl, inr, ℕ, ◌<◌, ◌≤◌, List, [], ◌∷◌, ◌++◌, map, Bool, true, false, cond, nat_lt, not, ◌&&◌, ◌==◌, refl, sym, ap, ◌∙◌, subst, arith, append-nil}
use Rattle.std.specs.List.{filter, flat_map, list_all}
use Rattle.std.proofs.lemmas.Bool.{and_parts, eqb-true}
use Rattle.std.proofs.lemmas.Bool.Decides.{nat_tests}
use Rattle.eris_base.specs.declared.ids.Epoch.{Epoch}
use Rattle.eris_base.specs.ConfigLimits.{ConfigValue}
use Rattle.eris_base.specs.Each.{Each}
use Rattle.eris_base.proofs.IdLaws.{epoch_equal}
use Rattle.eris_txn.specs.declared.packet.Packet.{Packet}
use Rattle.eris_log.specs.PartValues.{PartValue}
use Rattle.eris_log.specs.Places.{any_among}
use Rattle.eris_epoch.specs.declared.noted.NotedPart.{NotedPart}
use Rattle.eris_epoch.specs.Closing.{held_of, held_in}
use Rattle.eris_epoch.specs.SamePackets.{same_packet, is_listed}
use Rattle.eris_epoch.proofs.EpochLaws.{IsClosing-close}
use Rattle.eris_epoch.proofs.SameLaws.{same_packet-true, same_packet-refl}
use Rattle.eris_rules.specs.Coordinators.{epoch_tally, left_behind}
use Rattle.eris_rules.specs.CoordStates.{CoordState}
use Rattle.eris_rules.specs.InPlace.{is_held_right, is_right_part}
use Rattle.eris_law_epoch.specs.Members.{In}
use Rattle.eris_law_epoch.proofs.Members.{Each-at, Each-by_In, In-append, any_witness, any_from}
use Rattle.eris_law_agreement.specs.ClosedBelow.{closed_below}

-- ---- packets are members by their test
pub listed-In : (packets : List Packet) (packet : Packet) → is_listed packets packet ≡ true → In packet packets
unfolding is_listed
listed-In packets packet h =
    let found = any_witness (λ other. same_packet packet other) packets h in
    subst (λ p. In p packets) (sym (same_packet-true packet found.0 found.2)) found.1

pub In-listed : (packets : List Packet) (packet : Packet) → In packet packets → is_listed packets packet ≡ true
unfolding is_listed
In-listed packets packet i = any_from (λ other. same_packet packet other) packets packet i (same_packet-refl packet)

-- what all pass, each passes
pub all-at : {X : Type 0} (test : X → Bool) (xs : List X) (x : X) → list_all test xs ≡ true → In x xs → test x ≡ true
all-at test [] x h i = absurd i
all-at test (y ∷ xs) x h (inl e) = ap test e ∙ (and_parts _ _ h).0
all-at test (y ∷ xs) x h (inr i) = all-at test xs x (and_parts _ _ h).1 i

pub In-map : {X Y : Type 0} (f : X → Y) (xs : List X) (y : Y) → In y (map f xs) → (x : X) × In x xs × (y ≡ f x)
In-map f [] y i = absurd i
In-map f (x ∷ xs) y (inl e) = (x, inl refl, e)
In-map f (x ∷ xs) y (inr i) = let rest = In-map f xs y i in (rest.0, inr rest.1, rest.2)

pub In-flat_map : {X Y : Type 0} (f : X → List Y) (xs : List X) (y : Y) → In y (flat_map f xs) → (x : X) × In x xs × In y (f x)
In-flat_map f [] y i = absurd i
In-flat_map f (x ∷ xs) y i = elim (In-append y (f x) (flat_map f xs) i) [
  | inl here ↦ (x, inl refl, here)
  | inr later ↦ (let rest = In-flat_map f xs y later in (rest.0, inr rest.1, rest.2))
]

pub map-In : {X Y : Type 0} (f : X → Y) (xs : List X) (x : X) → In x xs → In (f x) (map f xs)
map-In f [] x i = absurd i
map-In f (y ∷ xs) x (inl e) = inl (ap f e)
map-In f (y ∷ xs) x (inr i) = inr (map-In f xs x i)

-- ---- the packets below an epoch
pub closed_below-append : (epoch : Epoch) (some more : List Packet) → closed_below epoch (some ++ more) ≡ closed_below epoch some ++ closed_below epoch more
unfolding closed_below
closed_below-append epoch [] more = refl
closed_below-append epoch (packet ∷ some) more = by_test (nat_lt packet.stamp.epoch.0 epoch.0) (closed_below-append epoch some more)
  where
    by_test : (b : Bool) → filter (λ (p : Packet). nat_lt p.stamp.epoch.0 epoch.0) (some ++ more) ≡ filter (λ (p : Packet). nat_lt p.stamp.epoch.0 epoch.0) some ++ filter (λ (p : Packet). nat_lt p.stamp.epoch.0 epoch.0) more
        → cond b (packet ∷ filter (λ (p : Packet). nat_lt p.stamp.epoch.0 epoch.0) (some ++ more)) (filter (λ (p : Packet). nat_lt p.stamp.epoch.0 epoch.0) (some ++ more))
        ≡ cond b (packet ∷ filter (λ (p : Packet). nat_lt p.stamp.epoch.0 epoch.0) some) (filter (λ (p : Packet). nat_lt p.stamp.epoch.0 epoch.0) some) ++ filter (λ (p : Packet). nat_lt p.stamp.epoch.0 epoch.0) more
    by_test true h = ap (λ rest. packet ∷ rest) h
    by_test false h = h

none_below : (epoch current : Epoch) (more : List Packet) → epoch.0 ≤ current.0 → Each (λ packet. packet.stamp.epoch ≡ current) more → closed_below epoch more ≡ []
unfolding closed_below
none_below epoch current [] le h = refl
none_below epoch current (packet ∷ more) le h =
    let same : packet.stamp.epoch.0 ≡ current.0 = ap (λ (e : Epoch). e.0) h.0 in
    let out : nat_lt packet.stamp.epoch.0 epoch.0 ≡ false = grind (arith, nat_tests) in
    ap (λ b. cond b (packet ∷ filter (λ (p : Packet). nat_lt p.stamp.epoch.0 epoch.0) more) (filter (λ (p : Packet). nat_lt p.stamp.epoch.0 epoch.0) more)) out ∙ none_below epoch current more le h.1

-- nothing changes below, when an epoch that isn't below closes
pub closed_below-kept : (epoch current : Epoch) (closed more : List Packet) → epoch.0 ≤ current.0 → Each (λ packet. packet.stamp.epoch ≡ current) more → closed_below epoch (closed ++ more) ≡ closed_below epoch closed
closed_below-kept epoch current closed more le h =
    closed_below-append epoch closed more ∙ ap (λ rest. closed_below epoch closed ++ rest) (none_below epoch current more le h) ∙ append-nil (closed_below epoch closed)

-- where all are below, none is left out
pub closed_below-all : (epoch : Epoch) (closed : List Packet) → Each (λ packet. packet.stamp.epoch.0 < epoch.0) closed → closed_below epoch closed ≡ closed
unfolding closed_below
closed_below-all epoch [] h = refl
closed_below-all epoch (packet ∷ closed) h =
    let lt = h.0 in
    let passes : nat_lt packet.stamp.epoch.0 epoch.0 ≡ true = grind (arith, nat_tests) in
    ap (λ b. cond b (packet ∷ filter (λ (p : Packet). nat_lt p.stamp.epoch.0 epoch.0) closed) (filter (λ (p : Packet). nat_lt p.stamp.epoch.0 epoch.0) closed)) passes
    ∙ ap (λ rest. packet ∷ rest) (closed_below-all epoch closed h.1)

-- ---- what an epoch leaves
-- a packet that a noted part gives to the closing of an epoch is of the epoch and stands in the part
pub record IsHeldBy (epoch : Epoch) (packet : Packet) (one : NotedPart) : Type 0 where
  pub part_epoch : one.part.epoch ≡ epoch
  pub number : ℕ
  pub held : In (number, packet) one.part.held

pub held_of-In : (epoch : Epoch) (one : NotedPart) (packet : Packet) → In packet (held_of epoch one) → IsHeldBy epoch packet one
unfolding held_of
held_of-In epoch one packet i = by_test (one.part.epoch.0 == epoch.0) refl i
  where
    by_test : (b : Bool) → (one.part.epoch.0 == epoch.0) ≡ b → In packet (cond b (map (λ (pair : ℕ × Packet). pair.1) one.part.held) []) → IsHeldBy epoch packet one
    by_test true e j =
        let pair = In-map (λ (pair : ℕ × Packet). pair.1) one.part.held packet j in
        record { part_epoch = epoch_equal _ _ (eqb-true _ _ e); number = pair.0.0; held = subst (λ p. In (pair.0.0, p) one.part.held) (sym pair.2) pair.1 }
    by_test false e j = absurd j

-- a packet that is left was held by a noted part of the epoch, or found; and none of its places was dropped
pub record IsLeft (config : ConfigValue) (state : CoordState) (packet : Packet) : Type 0 where
  pub undropped : any_among state.inner.dropped packet.stamp ≡ false
  pub source : ((one : NotedPart) × In one state.noted × IsHeldBy state.current packet one) ⊎ In packet state.inner.found

pub left_behind-In : (config : ConfigValue) (state : CoordState) (packet : Packet) → In packet (left_behind config state) → IsLeft config state packet
unfolding left_behind held_in
left_behind-In config state packet i =
    let facts = IsClosing-close (epoch_tally config state) state.current state.inner.found state.inner.dropped in
    let both : (is_listed (held_in state.current state.noted ++ state.inner.found) packet && not (any_among state.inner.dropped packet.stamp)) ≡ true = sym (facts.members packet) ∙ In-listed _ packet i in
    let parts = and_parts _ _ both in
    record {
      undropped = Rattle.std.proofs.lemmas.Bool.not-true _ parts.1;
      source = elim (In-append packet (held_in state.current state.noted) state.inner.found (listed-In _ packet parts.0)) [
        | inl held ↦ (let one = In-flat_map (λ one. held_of state.current one) state.noted packet held in inl (one.0, one.1, held_of-In state.current one.0 packet one.2))
        | inr found ↦ inr found
      ];
    }

-- a rightly noted part of the epoch has packets of that epoch
pub held_right-epoch : (part : PartValue) (number : ℕ) (packet : Packet) → is_right_part part ≡ true → In (number, packet) part.held → packet.stamp.epoch ≡ part.epoch
unfolding is_right_part
held_right-epoch part number packet right i = epoch_equal _ _ (eqb-true _ _ (and_parts _ _ (all-at (is_held_right part) part.held (number, packet) right i)).0)

pub left_behind-epoch : (config : ConfigValue) (state : CoordState) → Each (λ packet. packet.stamp.epoch ≡ state.current) state.inner.found
    → ((one : NotedPart) → In one state.noted → is_right_part one.part ≡ true) → Each (λ packet. packet.stamp.epoch ≡ state.current) (left_behind config state)
left_behind-epoch config state found right = Each-by_In _ (left_behind config state) (λ packet i. elim (left_behind-In config state packet i).source [
  | inl held ↦ (let by = held.2 in held_right-epoch held.0.part by.number packet (right held.0 held.1) by.held ∙ by.part_epoch)
  | inr one ↦ Each-at (λ (p : Packet). p.stamp.epoch ≡ state.current) state.inner.found packet found one
])
