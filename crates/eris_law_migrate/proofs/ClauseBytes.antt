-- The words of a plan whose clauses are mixed have no byte below a space, as those of a plan that is printed.
use Rattle.std.proofs.Common.{◌≡◌, ◌∙◌, ℕ, true, List, [], ◌∷◌, ◌++◌, map, refl, ap, codes}
use Rattle.std.proofs.lemmas.List.Concat.{flat_map-cons}
use Rattle.std.specs.List.{flat_map, list_all}
use Rattle.eris_base.proofs.Booleans.{left_of, right_of}
use Rattle.eris_event.specs.EventRanges.{fits_guard, fits_setting, is_plan}
use Rattle.eris_grammar.specs.declared.clause.Clause.{Clause}
use Rattle.eris_grammar.specs.declared.clause.Clause.TheVariants as clause
use Rattle.eris_grammar.specs.PlanForms.{clause_words, guards_in, settings_in}
use Rattle.eris_grammar.specs.Spelling.{SpellsPlan}
use Rattle.eris_grammar.proofs.PlanLaws.{fits_plan}
use Rattle.eris_law_lines.proofs.Ink.{are_inked, guard_ink, inked-append, keys_ink, setting_ink}
use Rattle.eris_txn.specs.PlanValues.{PlanValue}
use Rattle.eris_words.specs.Words.{key_word}

abbrev spelled_clauses : List Clause → List (List ℕ)
spelled_clauses clauses = flat_map (λ clause. codes ";" ∷ clause_words clause) clauses

clauses_ink : (clauses : List Clause) → list_all (fits_guard 1) (guards_in clauses) ≡ true → list_all (fits_setting 1) (settings_in clauses) ≡ true
    → are_inked (spelled_clauses clauses) ≡ true
clauses_ink [] guards settings = refl
clauses_ink (clause.Guard g ∷ clauses) guards settings =
    ap are_inked (flat_map-cons (λ clause. codes ";" ∷ clause_words clause) (clause.Guard g) clauses)
    ∙ inked-append (codes ";" ∷ clause_words (clause.Guard g)) (spelled_clauses clauses) (guard_ink 1 g (left_of (fits_guard 1 g) (list_all (fits_guard 1) (guards_in clauses)) guards))
    (clauses_ink clauses (right_of (fits_guard 1 g) (list_all (fits_guard 1) (guards_in clauses)) guards) settings)
clauses_ink (clause.Setting s ∷ clauses) guards settings =
    ap are_inked (flat_map-cons (λ clause. codes ";" ∷ clause_words clause) (clause.Setting s) clauses)
    ∙ inked-append (codes ";" ∷ clause_words (clause.Setting s)) (spelled_clauses clauses)
    (setting_ink 1 s (left_of (fits_setting 1 s) (list_all (fits_setting 1) (settings_in clauses)) settings))
    (clauses_ink clauses guards (right_of (fits_setting 1 s) (list_all (fits_setting 1) (settings_in clauses)) settings))

pub spelled_plan_ink : (words : List (List ℕ)) (plan : PlanValue) → SpellsPlan words plan → is_plan 1 plan ≡ true → are_inked words ≡ true
spelled_plan_ink words plan says fine =
    let fit = fits_plan 1 plan fine in
    ap are_inked says.spelled
    ∙ inked-append (map key_word plan.keys) (spelled_clauses says.clauses) (keys_ink 1 plan.keys fit.fit_keys)
    (clauses_ink says.clauses (ap (list_all (fits_guard 1)) says.guards ∙ fit.fit_guards) (ap (list_all (fits_setting 1)) says.settings ∙ fit.fit_settings))
