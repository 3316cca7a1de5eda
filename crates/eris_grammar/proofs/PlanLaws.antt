-- A plan is read as just what it spells.
use Rattle.std.proofs.Common.{◌≡◌, ℕ, Bool, true, false, cond, ◌&&◌, ◌||◌, nat_le, nat_lt, codes, is_none, Option, Some, None, Ok, Err, List, [], ◌∷◌, ◌++◌, length, map, refl, sym, ap, subst, ◌∙◌, append_assoc, arith}
use Rattle.std.specs.List.{flat_map, list_all}
use Rattle.std.proofs.lemmas.Bool.Decides.{nat_tests}
use Rattle.std.proofs.lemmas.List.Concat.{flat_map-cons}
use Rattle.std.proofs.lemmas.Bool.{and_from}
use Rattle.eris_base.proofs.Booleans.{left_of, right_of}
use Rattle.eris_txn.specs.declared.key.Key.{Key}
use Rattle.eris_txn.specs.declared.plan.Guard.{Guard}
use Rattle.eris_txn.specs.declared.plan.PlanFault.{PlanFault}
use Rattle.eris_txn.specs.declared.plan.PlanFault.TheVariants as fault
use Rattle.eris_txn.specs.declared.plan.Setting.{Setting}
use Rattle.eris_txn.specs.PlanFaults.{plan_fault}
use Rattle.eris_txn.specs.PlanValues.{PlanValue}
use Rattle.eris_grammar.specs.declared.clause.Clause.{Clause}
use Rattle.eris_grammar.specs.declared.clause.Clause.TheVariants as clause
use Rattle.eris_words.specs.declared.reason.Reason.TheVariants as reason
use Rattle.eris_words.specs.Forms.{◌>>=◌, expect, more}
use Rattle.eris_event.specs.EventRanges.{most, fits_guard, fits_setting, is_plan, fits_key}
use Rattle.eris_grammar.specs.PlanForms.{all_clauses, all_keys, clause_form, clause_words, fits_clause, guards_in, plan_of, planned, settings_in, unless_fault}
use Rattle.eris_words.specs.PlanText.{guard_words, plan_words, setting_words}
use Rattle.eris_grammar.specs.Spelling.{SpellsPlan}
use Rattle.eris_words.specs.Words.{key_word}
use Rattle.eris_grammar.proofs.ClauseLaws.{is_clause}
use Rattle.eris_words.proofs.FormLaws.{are_plain, bind_ok, each_plain, expect_ok, more_again, more_takes, ok_is, plain-append}
use Rattle.eris_grammar.proofs.KeyListLaws.{all_keys_again, all_keys_take, keys_plain, stops}

-- CLAUSES

guards_fit : (version : ℕ) (clauses : List Clause) → list_all (fits_clause version) clauses ≡ true → list_all (fits_guard version) (guards_in clauses) ≡ true
guards_fit version [] fine = refl
guards_fit version (clause.Guard g ∷ clauses) fine =
    and_from (fits_guard version g) (list_all (fits_guard version) (guards_in clauses)) (left_of (fits_guard version g) (list_all (fits_clause version) clauses) fine)
    (guards_fit version clauses (right_of (fits_guard version g) (list_all (fits_clause version) clauses) fine))
guards_fit version (clause.Setting s ∷ clauses) fine = guards_fit version clauses (right_of (fits_setting version s) (list_all (fits_clause version) clauses) fine)

settings_fit : (version : ℕ) (clauses : List Clause) → list_all (fits_clause version) clauses ≡ true → list_all (fits_setting version) (settings_in clauses) ≡ true
settings_fit version [] fine = refl
settings_fit version (clause.Guard g ∷ clauses) fine = settings_fit version clauses (right_of (fits_guard version g) (list_all (fits_clause version) clauses) fine)
settings_fit version (clause.Setting s ∷ clauses) fine =
    and_from (fits_setting version s) (list_all (fits_setting version) (settings_in clauses)) (left_of (fits_setting version s) (list_all (fits_clause version) clauses) fine)
    (settings_fit version clauses (right_of (fits_setting version s) (list_all (fits_clause version) clauses) fine))

clauses_fit : (version : ℕ) (clauses : List Clause) → list_all (fits_guard version) (guards_in clauses) ≡ true → list_all (fits_setting version) (settings_in clauses) ≡ true →
    list_all (fits_clause version) clauses ≡ true
clauses_fit version [] guards settings = refl
clauses_fit version (clause.Guard g ∷ clauses) guards settings =
    and_from (fits_guard version g) (list_all (fits_clause version) clauses) (left_of (fits_guard version g) (list_all (fits_guard version) (guards_in clauses)) guards)
    (clauses_fit version clauses (right_of (fits_guard version g) (list_all (fits_guard version) (guards_in clauses)) guards) settings)
clauses_fit version (clause.Setting s ∷ clauses) guards settings =
    and_from (fits_setting version s) (list_all (fits_clause version) clauses) (left_of (fits_setting version s) (list_all (fits_setting version) (settings_in clauses)) settings)
    (clauses_fit version clauses guards (right_of (fits_setting version s) (list_all (fits_setting version) (settings_in clauses)) settings))

-- PLANS

abbrev spelled_clauses : List Clause → List (List ℕ)
spelled_clauses clauses = flat_map (λ clause. codes ";" ∷ clause_words clause) clauses

clauses_stop : (clauses : List Clause) → stops (spelled_clauses clauses) ≡ true
clauses_stop [] = refl
clauses_stop (x ∷ clauses) = ap stops (flat_map-cons (λ clause. codes ";" ∷ clause_words clause) x clauses)

unless_is : (why : Option PlanFault) (plan taken : PlanValue) → unless_fault why plan ≡ Ok taken → (plan ≡ taken) × (is_none why ≡ true)
unless_is None plan taken read = (same plan taken read, refl)
  where
    same : (a b : PlanValue) → unless_fault None a ≡ Ok b → a ≡ b
    same a b is = cc
unless_is (Some why) plan taken read = absurd cc

neither : (a b : Bool) → (a || b) ≡ false → (a ≡ false) × (b ≡ false)
neither true b none = absurd cc
neither false b none = (refl, none)

few_true : (n limit : ℕ) → nat_lt limit n ≡ false → nat_le n limit ≡ true
few_true n limit few = grind (arith, nat_tests)

few_false : (n limit : ℕ) → nat_le n limit ≡ true → nat_lt limit n ≡ false
few_false n limit few = grind (arith, nat_tests)

-- lists that make a plan
pub record Makes (version : ℕ) (keys : List Key) (guards : List Guard) (settings : List Setting) (plan : PlanValue) : Type 0 where
  pub same : record { keys = keys; guards = guards; settings = settings } ≡ plan
  pub few_keys : nat_le (length keys) (most version) ≡ true
  pub few_guards : nat_le (length guards) (most version) ≡ true
  pub sound : is_none (plan_fault keys guards settings) ≡ true

planned_is : (version : ℕ) (keys : List Key) (guards : List Guard) (settings : List Setting) (plan : PlanValue) → planned version keys guards settings ≡ Ok plan →
    Makes version keys guards settings plan
planned_is version keys guards settings plan read = of_test (nat_lt (most version) (length keys) || nat_lt (most version) (length guards)) refl read
  where
    of_test : (test : Bool) → test ≡ (nat_lt (most version) (length keys) || nat_lt (most version) (length guards)) →
        cond test (Err reason.TooMany) (unless_fault (plan_fault keys guards settings) (record { keys = keys; guards = guards; settings = settings })) ≡ Ok plan →
        Makes version keys guards settings plan
    of_test true is found = absurd cc
    of_test false is found =
        let few = neither (nat_lt (most version) (length keys)) (nat_lt (most version) (length guards)) (sym is) in
        let u = unless_is (plan_fault keys guards settings) (record { keys = keys; guards = guards; settings = settings }) plan found in
        record { same = u.0; few_keys = few_true (length keys) (most version) few.0; few_guards = few_true (length guards) (most version) few.1; sound = u.1 }

none_is : (o : Option PlanFault) (plan : PlanValue) → is_none o ≡ true → unless_fault o plan ≡ Ok plan
none_is None plan none = refl
none_is (Some why) plan none = absurd cc

planned_again : (version : ℕ) (plan : PlanValue) → nat_le (length plan.keys) (most version) ≡ true → nat_le (length plan.guards) (most version) ≡ true →
    is_none (plan_fault plan.keys plan.guards plan.settings) ≡ true → planned version plan.keys plan.guards plan.settings ≡ Ok plan
planned_again version plan few_keys few_guards sound =
    rw (few_false (length plan.keys) (most version) few_keys, few_false (length plan.guards) (most version) few_guards)
    (none_is (plan_fault plan.keys plan.guards plan.settings) plan sound)

pub record PlanTaken (version : ℕ) (words : List (List ℕ)) (plan : PlanValue) : Type 0 where
  pub spelled : SpellsPlan words plan
  pub fits : is_plan version plan ≡ true

plan_fits : (version : ℕ) (keys : List Key) (guards : List Guard) (settings : List Setting) → list_all (fits_key version) keys ≡ true → list_all (fits_guard version) guards ≡ true →
    list_all (fits_setting version) settings ≡ true → nat_le (length keys) (most version) ≡ true → nat_le (length guards) (most version) ≡ true →
    is_none (plan_fault keys guards settings) ≡ true → is_plan version (record { keys = keys; guards = guards; settings = settings }) ≡ true
plan_fits version keys guards settings fit_keys fit_guards fit_settings few_keys few_guards sound = rw (fit_keys, fit_guards, fit_settings, few_keys, few_guards, sound) refl

pub plan_take : (version : ℕ) (words : List (List ℕ)) (plan : PlanValue) → plan_of version words ≡ Ok plan → PlanTaken version words plan
unfolding plan_of all_clauses clause_form
plan_take version words plan read =
    let w = bind_ok (expect (codes "lock") words)
    (λ behind. all_keys version behind >>= λ keys. all_clauses version keys.1 >>= λ rows. planned version keys.0 rows.0 rows.1) plan read in
    let a = bind_ok (all_keys version w.0) (λ keys. all_clauses version keys.1 >>= λ rows. planned version keys.0 rows.0 rows.1) plan w.2 in
    let b = bind_ok (all_clauses version a.0.1) (λ rows. planned version a.0.0 rows.0 rows.1) plan a.2 in
    let c = bind_ok (more (clause_form version) a.0.1) (λ clauses. Ok (guards_in clauses, settings_in clauses)) b.0 b.1 in
    let t = all_keys_take version w.0 a.0.0 a.0.1 a.1 in
    let u = more_takes (clause_form version) (is_clause version) (length a.0.1) a.0.1 c.0 c.1 in
    let rows = ok_is (guards_in c.0, settings_in c.0) b.0 c.2 in
    let m = planned_is version a.0.0 (guards_in c.0) (settings_in c.0) plan
    (ap (λ (z : List Guard × List Setting). planned version a.0.0 z.0 z.1) rows ∙ b.2) in
    let made : PlanTaken version words (record { keys = a.0.0; guards = guards_in c.0; settings = settings_in c.0 }) = record {
      spelled = record {
        clauses = c.0;
        spelled = expect_ok (codes "lock") words w.0 w.1
            ∙ ap (λ (z : List (List ℕ)). codes "lock" ∷ z) (t.parts ∙ ap (λ (z : List (List ℕ)). map key_word a.0.0 ++ z) u.parts);
        guards = refl;
        settings = refl;
      };
      fits = plan_fits version a.0.0 (guards_in c.0) (settings_in c.0) t.fits (guards_fit version c.0 u.fits) (settings_fit version c.0 u.fits) m.few_keys m.few_guards m.sound;
    } in
    subst (λ (z : PlanValue). PlanTaken version words z) m.same made

no_plan : (guards : List Guard) (settings : List Setting) → is_none (plan_fault [] guards settings) ≡ true → ⊥
no_plan guards settings sound = of_test (nat_lt 32 (length guards)) sound
  where
    of_test : (test : Bool) → is_none (cond test (Some fault.TooMany) (Some fault.Empty)) ≡ true → ⊥
    of_test true none = cc
    of_test false none = cc

clauses_again : (version : ℕ) (clauses : List Clause) → list_all (fits_clause version) clauses ≡ true →
    all_clauses version (spelled_clauses clauses) ≡ Ok (guards_in clauses, settings_in clauses)
unfolding all_clauses clause_form
clauses_again version clauses fine =
    ap (λ r. ◌>>=◌ {B = List Guard × List Setting} r (λ clauses. Ok (guards_in clauses, settings_in clauses))) (more_again (clause_form version) (is_clause version) clauses fine)

-- what a plan keeps, as it is written
pub record FitsPlan (version : ℕ) (keys : List Key) (guards : List Guard) (settings : List Setting) : Type 0 where
  pub fit_keys : list_all (fits_key version) keys ≡ true
  pub fit_guards : list_all (fits_guard version) guards ≡ true
  pub fit_settings : list_all (fits_setting version) settings ≡ true
  pub few_keys : nat_le (length keys) (most version) ≡ true
  pub few_guards : nat_le (length guards) (most version) ≡ true
  pub sound : is_none (plan_fault keys guards settings) ≡ true

pub fits_plan : (version : ℕ) (plan : PlanValue) → is_plan version plan ≡ true → FitsPlan version plan.keys plan.guards plan.settings
fits_plan version plan fine = of_tests (list_all (fits_key version) plan.keys) (list_all (fits_guard version) plan.guards) (list_all (fits_setting version) plan.settings)
    (nat_le (length plan.keys) (most version)) (nat_le (length plan.guards) (most version)) (is_none (plan_fault plan.keys plan.guards plan.settings)) refl refl refl refl refl refl fine
  where
    of_tests : (a b c d e f : Bool) → list_all (fits_key version) plan.keys ≡ a → list_all (fits_guard version) plan.guards ≡ b →
        list_all (fits_setting version) plan.settings ≡ c → nat_le (length plan.keys) (most version) ≡ d → nat_le (length plan.guards) (most version) ≡ e →
        is_none (plan_fault plan.keys plan.guards plan.settings) ≡ f → (a && b && c && d && e && f) ≡ true → FitsPlan version plan.keys plan.guards plan.settings
    of_tests true true true true true true ha hb hc hd he hf all =
        record { fit_keys = ha; fit_guards = hb; fit_settings = hc; few_keys = hd; few_guards = he; sound = hf }
    of_tests true true true true true false ha hb hc hd he hf all = absurd cc
    of_tests true true true true false f ha hb hc hd he hf all = absurd cc
    of_tests true true true false e f ha hb hc hd he hf all = absurd cc
    of_tests true true false d e f ha hb hc hd he hf all = absurd cc
    of_tests true false c d e f ha hb hc hd he hf all = absurd cc
    of_tests false b c d e f ha hb hc hd he hf all = absurd cc

lists_again : (version : ℕ) (keys : List Key) (guards : List Guard) (settings : List Setting) (clauses : List Clause) → guards_in clauses ≡ guards → settings_in clauses ≡ settings →
    FitsPlan version keys guards settings →
    plan_of version (codes "lock" ∷ (map key_word keys ++ spelled_clauses clauses)) ≡ Ok (record { keys = keys; guards = guards; settings = settings })
unfolding plan_of
lists_again version [] guards settings clauses same_guards same_settings fine = absurd (no_plan guards settings fine.sound)
lists_again version (first ∷ ks) guards settings clauses same_guards same_settings fine =
    let fit = clauses_fit version clauses (ap (list_all (fits_guard version)) same_guards ∙ fine.fit_guards) (ap (list_all (fits_setting version)) same_settings ∙ fine.fit_settings) in
    ap (λ r. r >>= λ keys. all_clauses version keys.1 >>= λ rows. planned version keys.0 rows.0 rows.1)
    (all_keys_again version first ks (spelled_clauses clauses) fine.fit_keys (clauses_stop clauses))
    ∙ ap (λ r. r >>= λ rows. planned version (first ∷ ks) rows.0 rows.1) (clauses_again version clauses fit)
    ∙ ap (λ (z : List Guard). planned version (first ∷ ks) z (settings_in clauses)) same_guards
    ∙ ap (λ (z : List Setting). planned version (first ∷ ks) guards z) same_settings
    ∙ planned_again version (record { keys = first ∷ ks; guards = guards; settings = settings }) fine.few_keys fine.few_guards fine.sound

pub plan_again : (version : ℕ) (words : List (List ℕ)) (plan : PlanValue) → SpellsPlan words plan → is_plan version plan ≡ true → plan_of version words ≡ Ok plan
plan_again version words plan says fine =
    ap (plan_of version) says.spelled ∙ lists_again version plan.keys plan.guards plan.settings says.clauses says.guards says.settings (fits_plan version plan fine)

-- AS A PLAN IS PRINTED

printed : List Guard → List Setting → List Clause
printed [] [] = []
printed [] (s ∷ settings) = clause.Setting s ∷ printed [] settings
printed (g ∷ guards) settings = clause.Guard g ∷ printed guards settings

printed_guards : (guards : List Guard) (settings : List Setting) → guards_in (printed guards settings) ≡ guards
unfolding printed
printed_guards [] [] = refl
printed_guards [] (s ∷ settings) = printed_guards [] settings
printed_guards (g ∷ guards) settings = ap (λ (z : List Guard). g ∷ z) (printed_guards guards settings)

printed_settings : (guards : List Guard) (settings : List Setting) → settings_in (printed guards settings) ≡ settings
unfolding printed
printed_settings [] [] = refl
printed_settings [] (s ∷ settings) = ap (λ (z : List Setting). s ∷ z) (printed_settings [] settings)
printed_settings (g ∷ guards) settings = printed_settings guards settings

spelled_printed : (guards : List Guard) (settings : List Setting) →
    spelled_clauses (printed guards settings) ≡ flat_map guard_words guards ++ flat_map setting_words settings
unfolding printed
spelled_printed [] [] = refl
spelled_printed [] (s ∷ settings) =
    flat_map-cons (λ clause. codes ";" ∷ clause_words clause) (clause.Setting s) (printed [] settings)
    ∙ ap (λ (z : List (List ℕ)). setting_words s ++ z) (spelled_printed [] settings)
    ∙ sym (flat_map-cons setting_words s settings)
spelled_printed (g ∷ guards) settings =
    flat_map-cons (λ clause. codes ";" ∷ clause_words clause) (clause.Guard g) (printed guards settings)
    ∙ ap (λ (z : List (List ℕ)). guard_words g ++ z) (spelled_printed guards settings)
    ∙ sym (append_assoc (guard_words g) (flat_map guard_words guards) (flat_map setting_words settings))
    ∙ ap (λ (z : List (List ℕ)). z ++ flat_map setting_words settings) (sym (flat_map-cons guard_words g guards))

pub plan_printed : (plan : PlanValue) → SpellsPlan (plan_words plan) plan
plan_printed plan = record {
  clauses = printed plan.guards plan.settings;
  spelled = ap (λ (z : List (List ℕ)). codes "lock" ∷ z)
      (append_assoc (map key_word plan.keys) (flat_map guard_words plan.guards) (flat_map setting_words plan.settings)
      ∙ ap (λ (z : List (List ℕ)). map key_word plan.keys ++ z) (sym (spelled_printed plan.guards plan.settings)));
  guards = printed_guards plan.guards plan.settings;
  settings = printed_settings plan.guards plan.settings;
}

pub plan_plain : (version : ℕ) (words : List (List ℕ)) (plan : PlanValue) → SpellsPlan words plan → is_plan version plan ≡ true → are_plain words ≡ true
unfolding clause_form
plan_plain version words plan says fine =
    let fit = fits_plan version plan fine in
    let clauses_fine = clauses_fit version says.clauses (ap (list_all (fits_guard version)) says.guards ∙ fit.fit_guards) (ap (list_all (fits_setting version)) says.settings ∙ fit.fit_settings) in
    ap are_plain says.spelled
    ∙ plain-append (map key_word plan.keys) (spelled_clauses says.clauses) (keys_plain version plan.keys fit.fit_keys)
    (each_plain (clause_form version) (is_clause version) says.clauses clauses_fine)
