-- Ascending places of which some are taken out still ascend.
use Rattle.std.proofs.Common.{◌≡◌, Bool, List, [], ◌∷◌, filter, IsTrue, refl}
use Rattle.std.specs.List.{AllByRecursion}
use Rattle.std.specs.declared.cmp.Ordering.TheVariants.{Less}
use Rattle.std.proofs.lemmas.Bool.{cond_both}
use Rattle.eris_base.specs.declared.ids.Place.{Place}
use Rattle.eris_log.specs.Places.{place_cmp, places_ascend}
use Rattle.eris_log.specs.Laws.Places.{place_cmp-total}
use Rattle.eris_log.specs.Laws.Sorted.{below_from, ascends_after, ascends_tail}

abbrev itself : Place → Place
itself place = place

abbrev Below : Place → List Place → Type 0
Below place places = AllByRecursion (λ other. place_cmp place other ≡ Less) places

below-filter : (test : Place → Bool) (place : Place) (places : List Place) → Below place places → Below place (filter test places)
below-filter test place [] below = tt
below-filter test place (other ∷ places) below =
    cond_both (test other) (other ∷ filter test places) (filter test places) (λ made. Below place made)
    (λ _. (below.0, below-filter test place places below.1))
    (λ _. below-filter test place places below.1)

pub ascends-filter : (test : Place → Bool) (places : List Place) → IsTrue (places_ascend places) → IsTrue (places_ascend (filter test places))
ascends-filter test [] h = refl
ascends-filter test (place ∷ places) h =
    let rest : IsTrue (places_ascend (filter test places)) = ascends-filter test places (ascends_tail itself place_cmp-total place places h) in
    cond_both (test place) (place ∷ filter test places) (filter test places) (λ made. IsTrue (places_ascend made))
    (λ _. ascends_after itself place_cmp-total place (filter test places) (below-filter test place places (below_from itself place_cmp-total place places h)) rest)
    (λ _. rest)

pub ruleset place_laws = (ascends-filter)
