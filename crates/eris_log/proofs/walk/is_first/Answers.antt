use Rattle.std.proofs.Common.{◌≡◌, Bool, true, false, Some, None, is_some, cond, refl, arith, sym, ap, ◌∙◌}
use Rattle.eris_base.specs.declared.ids.Place.{Place}
use Rattle.eris_log.specs.Places.{place_cmp}
use Rattle.eris_log.specs.Laws.Places.{same_place-order}
use Rattle.eris_log.proofs.Walks.{head_at-empty, head_at-at}
use Rattle.eris_log.proofs.walk.is_first.Goals as goal

some_cond : (b : Bool) (place : Place) → b ≡ is_some (cond b (Some place) None)
some_cond true place = refl
some_cond false place = refl

pub returns-in_default-clause-first : goal.returns-in_default-clause-first
returns-in_default-clause-first c =
    ap is_some (sym (head_at-empty (λ (place : Place). place) place_cmp c.args.places.now _ (omega (arith, c.in_default.len_below))))

pub returns-clause-first : goal.returns-clause-first
returns-clause-first c =
    c.is_behind.ensures.exact ∙ same_place-order _ _ ∙ some_cond _ _
    ∙ ap is_some (sym (head_at-at (λ (place : Place). place) place_cmp c.args.places.now _ _ (omega (arith, c.in-len1-up.len_at_least))))
