-- What holds of each member of a list, and where members come from. It is used wherever sent messages, notes and
-- stamped packets are followed.
use Rattle.std.proofs.Common.{◌≡◌, ◌⊎◌, inl, inr, ℕ, zero, suc, Bool, true, false, List, [], ◌∷◌, ◌++◌, map, cond, Some, None, refl, ap, sym, ◌∙◌, subst}
use Rattle.std.proofs.lemmas.Bool.{or_cases, or_left, or_right}
use Rattle.std.specs.List.{AllByRecursion, filter, flat_map, list_any}
use Rattle.std.specs.Prelude.{find, slice_get}
use Rattle.eris_base.specs.Each.{Each}
use Rattle.eris_base.specs.declared.ids.Node.{Node}
use Rattle.eris_base.specs.declared.ids.Place.{Place}
use Rattle.eris_base.proofs.Each.{Each-append, Each-any}
use Rattle.eris_log.specs.Places.{same_place, contains_place}
use Rattle.eris_log.specs.Laws.Places.{same_place-true, same_place-refl}
use Rattle.eris_rules.specs.EpochMessages.{EpochMessage, EpochSend, send_each}
use Rattle.eris_law_epoch.specs.Members.{In}

pub Each-at : {X : Type 0} (P : X → Type 0) (xs : List X) (x : X) → Each P xs → In x xs → P x
Each-at P [] x h i = absurd i
Each-at P (y ∷ xs) x h (inl e) = subst P (sym e) h.0
Each-at P (y ∷ xs) x h (inr i) = Each-at P xs x h.1 i

pub Each-by_In : {X : Type 0} (P : X → Type 0) (xs : List X) → ((x : X) → In x xs → P x) → Each P xs
Each-by_In P [] f = tt
Each-by_In P (x ∷ xs) f = (f x (inl refl), Each-by_In P xs (λ y i. f y (inr i)))

pub All-more : {X : Type 0} (P Q : X → Type 0) (xs : List X) → ((x : X) → P x → Q x) → AllByRecursion P xs → AllByRecursion Q xs
All-more P Q [] f h = tt
All-more P Q (x ∷ xs) f h = (f x h.0, All-more P Q xs f h.1)

pub In-append : {X : Type 0} (y : X) (xs ys : List X) → In y (xs ++ ys) → In y xs ⊎ In y ys
In-append y [] ys i = inr i
In-append y (x ∷ xs) ys (inl e) = inl (inl e)
In-append y (x ∷ xs) ys (inr i) = elim (In-append y xs ys i) [ inl j ↦ inl (inr j) | inr j ↦ inr j ]

pub In-left : {X : Type 0} (y : X) (xs ys : List X) → In y xs → In y (xs ++ ys)
In-left y (x ∷ xs) ys (inl e) = inl e
In-left y (x ∷ xs) ys (inr i) = inr (In-left y xs ys i)
In-left y [] ys i = absurd i

pub In-right : {X : Type 0} (y : X) (xs ys : List X) → In y ys → In y (xs ++ ys)
In-right y [] ys i = i
In-right y (x ∷ xs) ys i = inr (In-right y xs ys i)

pub In-get : {X : Type 0} (y : X) (xs : List X) (k : ℕ) → slice_get xs k ≡ Some y → In y xs
In-get y [] k h = absurd (cc)
In-get y (x ∷ xs) zero h = inl (cc)
In-get y (x ∷ xs) (suc k) h = inr (In-get y xs k h)

pub In-filter : {X : Type 0} (test : X → Bool) (xs : List X) (y : X) → In y (filter test xs) → In y xs
In-filter test [] y i = i
In-filter test (x ∷ xs) y i = by_test (test x) i (In-filter test xs y)
  where
    by_test : (b : Bool) → In y (cond b (x ∷ filter test xs) (filter test xs)) → (In y (filter test xs) → In y xs) → (y ≡ x) ⊎ In y xs
    by_test true (inl e) rest = inl e
    by_test true (inr j) rest = inr (rest j)
    by_test false j rest = inr (rest j)

pub In-filtered : {X : Type 0} (test : X → Bool) (xs : List X) (y : X) → In y (filter test xs) → In y xs × (test y ≡ true)
In-filtered test [] y i = absurd i
In-filtered test (x ∷ xs) y i = by_test (test x) refl i (In-filtered test xs y)
  where
    by_test : (b : Bool) → test x ≡ b → In y (cond b (x ∷ filter test xs) (filter test xs)) → (In y (filter test xs) → In y xs × (test y ≡ true)) → ((y ≡ x) ⊎ In y xs) × (test y ≡ true)
    by_test true h (inl e) rest = (inl e, ap test e ∙ h)
    by_test true h (inr j) rest = (inr (rest j).0, (rest j).1)
    by_test false h j rest = (inr (rest j).0, (rest j).1)

-- what a search finds, and what it says where it finds nothing
pub find-In : {X : Type 0} (test : X → Bool) (xs : List X) (y : X) → find test xs ≡ Some y → In y xs × (test y ≡ true)
find-In test [] y h = absurd (cc)
find-In test (x ∷ xs) y h = by_test (test x) refl h (find-In test xs y)
  where
    by_test : (b : Bool) → test x ≡ b → cond b (Some x) (find test xs) ≡ Some y → (find test xs ≡ Some y → In y xs × (test y ≡ true)) → ((y ≡ x) ⊎ In y xs) × (test y ≡ true)
    by_test true e k rest = let same : x ≡ y = cc in (inl (sym same), ap test (sym same) ∙ e)
    by_test false e k rest = (inr (rest k).0, (rest k).1)

pub find-none : {X : Type 0} (test : X → Bool) (xs : List X) (y : X) → find test xs ≡ None → In y xs → test y ≡ false
find-none test [] y h i = absurd i
find-none test (x ∷ xs) y h i = by_test (test x) refl h i (find-none test xs y)
  where
    by_test : (b : Bool) → test x ≡ b → cond b (Some x) (find test xs) ≡ None → (y ≡ x) ⊎ In y xs → (find test xs ≡ None → In y xs → test y ≡ false) → test y ≡ false
    by_test true e k j rest = absurd (cc)
    by_test false e k (inl same) rest = ap test same ∙ e
    by_test false e k (inr j) rest = rest k j

-- what passes a test somewhere
pub any_witness : {X : Type 0} (test : X → Bool) (xs : List X) → list_any test xs ≡ true → (x : X) × In x xs × (test x ≡ true)
any_witness test [] h = absurd (cc)
any_witness test (x ∷ xs) h = elim (or_cases (test x) (list_any test xs) h) [
  | inl here ↦ (x, inl refl, here)
  | inr later ↦ (let w = any_witness test xs later in (w.0, inr w.1, w.2))
]

pub any_from : {X : Type 0} (test : X → Bool) (xs : List X) (x : X) → In x xs → test x ≡ true → list_any test xs ≡ true
any_from test [] x i h = absurd i
any_from test (y ∷ xs) x (inl e) h = or_left _ _ (subst (λ z. test z ≡ true) e h)
any_from test (y ∷ xs) x (inr i) h = or_right _ _ (any_from test xs x i h)

-- places are members by their test
pub contained-In : (places : List Place) (place : Place) → contains_place places place ≡ true → In place places
unfolding contains_place
contained-In places place h =
    let w = any_witness (λ other. same_place other place) places h in
    subst (λ p. In p places) (same_place-true w.0 place w.2) w.1

pub In-contained : (places : List Place) (place : Place) → In place places → contains_place places place ≡ true
unfolding contains_place
In-contained places place i = any_from (λ other. same_place other place) places place i (same_place-refl place)

-- what holds of a message holds of each that is sent with it
abbrev pub OfMessage : (EpochMessage → Type 0) → EpochSend → Type 0
OfMessage P one = P one.message

pub Each-send_each : (P : EpochSend → Type 0) (nodes : List Node) (message : EpochMessage)
    → Each (λ node. P (record { to = node; message = message })) nodes → Each P (send_each nodes message)
Each-send_each P [] message h = tt
Each-send_each P (node ∷ nodes) message h = (h.0, Each-send_each P nodes message h.1)

pub Each-flat_map : {X Y : Type 0} (P : Y → Type 0) (f : X → List Y) (xs : List X) → Each (λ x. Each P (f x)) xs → Each P (flat_map f xs)
Each-flat_map P f [] h = tt
Each-flat_map P f (x ∷ xs) h = Each-append P (f x) (flat_map f xs) h.0 (Each-flat_map P f xs h.1)

pub Each-map : {X Y : Type 0} (P : Y → Type 0) (f : X → Y) (xs : List X) → Each (λ x. P (f x)) xs → Each P (map f xs)
Each-map P f [] h = tt
Each-map P f (x ∷ xs) h = (h.0, Each-map P f xs h.1)

-- the same message to each of some nodes
pub Each-told : (P : EpochMessage → Type 0) (nodes : List Node) (message : EpochMessage) → P message → Each (OfMessage P) (send_each nodes message)
Each-told P nodes message h = Each-send_each (OfMessage P) nodes message (Each-any (λ node. P message) (λ node. h) nodes)

-- what passes a test is among what passes
pub filtered-In : {X : Type 0} (test : X → Bool) (xs : List X) (x : X) → In x xs → test x ≡ true → In x (filter test xs)
filtered-In test [] x i h = absurd i
filtered-In test (y ∷ xs) x i h = by_test (test y) refl i (λ j. filtered-In test xs x j h)
  where
    by_test : (b : Bool) → test y ≡ b → (x ≡ y) ⊎ In x xs → (In x xs → In x (filter test xs)) → In x (cond b (y ∷ filter test xs) (filter test xs))
    by_test true e (inl same) rest = inl same
    by_test true e (inr j) rest = inr (rest j)
    by_test false e (inl same) rest = let passes : test y ≡ true = ap test (sym same) ∙ h in absurd (cc)
    by_test false e (inr j) rest = rest j
