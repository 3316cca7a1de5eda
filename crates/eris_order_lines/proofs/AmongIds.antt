-- The order of ids ties where they are one, and a set of them tells who is among its keys.
use Rattle.std.proofs.Common.{◌≡◌, ◌==◌, ◌&&◌, ◌||◌, Bool, true, false, cond, List, [], ◌∷◌, refl, ap, sym, ◌∙◌}
use Rattle.std.specs.BTreeMap.{is_at}
use Rattle.std.specs.List.{list_any}
use Rattle.std.specs.Ordering.{is_eq, nat_cmp, ordering_then}
use Rattle.std.specs.declared.cmp.Ordering.{Ordering}
use Rattle.std.specs.declared.cmp.Ordering.TheVariants.{Less, Equal, Greater}
use Rattle.eris_base.proofs.Orders.{nat_tie}
use Rattle.eris_base.proofs.TxnIdLaws.{same_id-turned}
use Rattle.eris_base.specs.declared.ids.TxnId.{TxnId}
use Rattle.eris_base.specs.TxnIds.{same_id, is_among}
use Rattle.eris_order_lines.specs.Noted.{id_cmp}

is_eq-then : (o p : Ordering) → is_eq (ordering_then o p) ≡ (is_eq o && is_eq p)
is_eq-then Less p = refl
is_eq-then Equal p = refl
is_eq-then Greater p = refl

-- ids are equal where their order ties
pub id_tie : (some other : TxnId) → is_at (id_cmp some) other ≡ same_id some other
unfolding same_id
id_tie some other =
    is_eq-then (nat_cmp some.client.0 other.client.0) (nat_cmp some.number other.number)
    ∙ ap (λ t. t && is_eq (nat_cmp some.number other.number)) (sym (nat_tie some.client.0 other.client.0))
    ∙ ap (λ t. (some.client.0 == other.client.0) && t) (sym (nat_tie some.number other.number))

-- a key stands in a list where the id is among it
pub keys_are_among : (id : TxnId) (ids : List TxnId) → list_any (is_at (id_cmp id)) ids ≡ is_among id ids
keys_are_among id [] = refl
keys_are_among id (first ∷ ids) =
    ap (λ t. t || list_any (is_at (id_cmp id)) ids) (id_tie id first) ∙ ap (λ t. same_id id first || t) (keys_are_among id ids)

or_cond : (t u : Bool) → cond t true u ≡ (t || u)
or_cond true u = refl
or_cond false u = refl

-- one id more is there
pub one_added : (old new : List TxnId) (id : TxnId)
    → ((other : TxnId) → list_any (is_at (id_cmp other)) new ≡ cond (is_at (id_cmp id) other) true (list_any (is_at (id_cmp other)) old))
    → (other : TxnId) → is_among other new ≡ is_among other (id ∷ old)
one_added old new id updates other =
    sym (keys_are_among other new)
    ∙ updates other
    ∙ ap (λ t. cond t true (list_any (is_at (id_cmp other)) old)) (id_tie id other ∙ same_id-turned id other)
    ∙ or_cond (same_id other id) (list_any (is_at (id_cmp other)) old)
    ∙ ap (λ t. same_id other id || t) (keys_are_among other old)
