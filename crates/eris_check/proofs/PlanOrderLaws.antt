-- A plan that is read with its guards before its settings has exactly the words that a report
-- writes of it.
use Rattle.std.proofs.Common.{◌≡◌, ◌-◌, ◌^◌, ◌&&◌, ◌∙◌, ℕ, true, false, not, cond, bytes_eq, nat_le, codes, List, [], ◌∷◌, ◌++◌, map, refl, sym, ap, append_assoc, lit<, leb-true, lt_of_le_of_lt}
use Rattle.std.specs.List.{flat_map, list_all}
use Rattle.std.proofs.lemmas.List.Concat.{flat_map-cons}
use Rattle.eris_base.proofs.Booleans.{left_of, right_of}
use Rattle.eris_txn.specs.declared.key.Key.{Key}
use Rattle.eris_txn.specs.declared.plan.Guard.{Guard}
use Rattle.eris_txn.specs.declared.plan.How.{How}
use Rattle.eris_txn.specs.declared.plan.How.TheVariants as how
use Rattle.eris_txn.specs.declared.plan.Setting.{Setting}
use Rattle.eris_txn.specs.Names.{is_name}
use Rattle.eris_txn.specs.PlanValues.{PlanValue}
use Rattle.eris_event.specs.EventRanges.{fits_guard, fits_key, fits_setting, fits_value, is_plan, number_of}
use Rattle.eris_grammar.specs.declared.clause.Clause.{Clause}
use Rattle.eris_grammar.specs.declared.clause.Clause.TheVariants as clause
use Rattle.eris_grammar.specs.PlanForms.{clause_words, guards_in, settings_in}
use Rattle.eris_grammar.specs.Spelling.{SpellsPlan}
use Rattle.eris_grammar.proofs.PlanLaws.{fits_plan}
use Rattle.eris_words.specs.Decimal.{decimal}
use Rattle.eris_words.specs.PlanText.{guard_words, how_words, plan_words, setting_words}
use Rattle.eris_words.specs.Words.{key_word}
use Rattle.eris_check.specs.ReportForms.{guards_come_first, have_no_guard, is_setting_word}
use Rattle.eris_check.proofs.FieldLaws.{begins_digit, begins_more, decimal_begins, other_word}

-- WORDS THAT NEITHER SET NOR GUARD

digit_sets_none : (word : List ℕ) → begins_digit word ≡ true → is_setting_word word ≡ false
digit_sets_none word begins =
    rw (other_word begins_digit word (codes "set") refl begins, other_word begins_digit word (codes "plus") refl begins, other_word begins_digit word (codes "minus") refl begins)
    refl

digit_guards_none : (word : List ℕ) → begins_digit word ≡ true → not (bytes_eq word (codes "guard")) ≡ true
digit_guards_none word begins = rw (other_word begins_digit word (codes "guard") refl begins) refl

value_begins : (n : ℕ) → fits_value n ≡ true → begins_digit (decimal n) ≡ true
value_begins n fits = decimal_begins n (lt_of_le_of_lt (leb-true n (2 ^ 64 - 1) fits) (lit< tt))

key_begins : (key : Key) → fits_key 2 key ≡ true → begins_digit (key_word key) ≡ true
key_begins key fits =
    let shard : begins_digit (decimal key.shard.0) ≡ true = decimal_begins key.shard.0 (lt_of_le_of_lt (leb-true key.shard.0 63 (left_of (nat_le key.shard.0 63) (is_name key.name) fits)) (lit< tt)) in
    begins_more (decimal key.shard.0 ++ codes "/") key.name (begins_more (decimal key.shard.0) (codes "/") shard)

-- a word that sets nothing changes nothing
past : (word : List ℕ) (words : List (List ℕ)) → is_setting_word word ≡ false → guards_come_first (word ∷ words) ≡ guards_come_first words
unfolding guards_come_first
past word words sets_none = ap (λ test. cond test (have_no_guard words) (guards_come_first words)) sets_none

pub past_digit : (word : List ℕ) (words : List (List ℕ)) → begins_digit word ≡ true → guards_come_first (word ∷ words) ≡ guards_come_first words
past_digit word words begins = past word words (digit_sets_none word begins)

past_keys : (keys : List Key) (words : List (List ℕ)) → list_all (fits_key 2) keys ≡ true → guards_come_first (map key_word keys ++ words) ≡ guards_come_first words
past_keys [] words fits = refl
past_keys (key ∷ keys) words fits =
    past_digit (key_word key) (map key_word keys ++ words) (key_begins key (left_of (fits_key 2 key) (list_all (fits_key 2) keys) fits))
    ∙ past_keys keys words (right_of (fits_key 2 key) (list_all (fits_key 2) keys) fits)

past_key_and_value : (key : Key) (n : ℕ) (words : List (List ℕ)) → (fits_key 2 key && fits_value n) ≡ true →
    guards_come_first (key_word key ∷ decimal n ∷ words) ≡ guards_come_first words
past_key_and_value key n words fits =
    past_digit (key_word key) (decimal n ∷ words) (key_begins key (left_of (fits_key 2 key) (fits_value n) fits))
    ∙ past_digit (decimal n) words (value_begins n (right_of (fits_key 2 key) (fits_value n) fits))

past_guard : (guard : Guard) (words : List (List ℕ)) → fits_guard 2 guard ≡ true → guards_come_first (guard_words guard ++ words) ≡ guards_come_first words
past_guard guard words fits =
    past (codes ";") (codes "guard" ∷ key_word guard.key ∷ decimal guard.least ∷ words) refl
    ∙ past (codes "guard") (key_word guard.key ∷ decimal guard.least ∷ words) refl
    ∙ past_key_and_value guard.key guard.least words fits

-- behind a setting no guard may follow
at_setting : (how : How) (key : Key) (words : List (List ℕ)) →
    guards_come_first (codes ";" ∷ (how_words how key ++ words)) ≡ have_no_guard (key_word key ∷ decimal (number_of how) ∷ words)
unfolding guards_come_first
at_setting (how.Put n) key words = refl
at_setting (how.Plus n) key words = refl
at_setting (how.Minus n) key words = refl

-- AS THE WORDS ARE READ

abbrev spelled : List Clause → List (List ℕ)
spelled clauses = flat_map (λ clause. codes ";" ∷ clause_words clause) clauses

spelled-cons : (x : Clause) (clauses : List Clause) → spelled (x ∷ clauses) ≡ codes ";" ∷ (clause_words x ++ spelled clauses)
spelled-cons x clauses = flat_map-cons (λ clause. codes ";" ∷ clause_words clause) x clauses

-- clauses without a guard
record Settings (clauses : List Clause) : Type 0 where
  no_guards : guards_in clauses ≡ []
  words : spelled clauses ≡ flat_map setting_words (settings_in clauses)

behind_two : (first second : List ℕ) (words : List (List ℕ)) → have_no_guard (first ∷ second ∷ words) ≡ true → have_no_guard words ≡ true
behind_two first second words none =
    right_of (not (bytes_eq second (codes "guard"))) (have_no_guard words)
    (right_of (not (bytes_eq first (codes "guard"))) (have_no_guard (second ∷ words)) none)

behind_setting : (how : How) (key : Key) (words : List (List ℕ)) → have_no_guard (codes ";" ∷ (how_words how key ++ words)) ≡ true → have_no_guard words ≡ true
behind_setting (how.Put n) key words none = behind_two (key_word key) (decimal n) words none
behind_setting (how.Plus n) key words none = behind_two (key_word key) (decimal n) words none
behind_setting (how.Minus n) key words none = behind_two (key_word key) (decimal n) words none

one_guard : (guard : Guard) (words : List (List ℕ)) → have_no_guard (codes ";" ∷ codes "guard" ∷ key_word guard.key ∷ decimal guard.least ∷ words) ≡ true → ⊥
one_guard guard words none = cc

only_settings : (clauses : List Clause) → have_no_guard (spelled clauses) ≡ true → Settings clauses
only_settings [] none = record { no_guards = refl; words = refl }
only_settings (clause.Guard g ∷ clauses) none = absurd (one_guard g (spelled clauses) (sym (ap have_no_guard (spelled-cons (clause.Guard g) clauses)) ∙ none))
only_settings (clause.Setting s ∷ clauses) none =
    let rest = behind_setting s.how s.key (spelled clauses) (sym (ap have_no_guard (spelled-cons (clause.Setting s) clauses)) ∙ none) in
    let more = only_settings clauses rest in
    record {
      no_guards = more.no_guards;
      words = spelled-cons (clause.Setting s) clauses
          ∙ ap (λ (z : List (List ℕ)). setting_words s ++ z) more.words
          ∙ sym (flat_map-cons setting_words s (settings_in clauses));
    }

in_order : (clauses : List Clause) → list_all (fits_guard 2) (guards_in clauses) ≡ true → guards_come_first (spelled clauses) ≡ true →
    spelled clauses ≡ flat_map guard_words (guards_in clauses) ++ flat_map setting_words (settings_in clauses)
in_order [] fits first = refl
in_order (clause.Guard g ∷ clauses) fits first =
    let here = left_of (fits_guard 2 g) (list_all (fits_guard 2) (guards_in clauses)) fits in
    let later = right_of (fits_guard 2 g) (list_all (fits_guard 2) (guards_in clauses)) fits in
    let rest : guards_come_first (spelled clauses) ≡ true = sym (ap guards_come_first (spelled-cons (clause.Guard g) clauses) ∙ past_guard g (spelled clauses) here) ∙ first in
    spelled-cons (clause.Guard g) clauses
    ∙ ap (λ (z : List (List ℕ)). guard_words g ++ z) (in_order clauses later rest)
    ∙ sym (append_assoc (guard_words g) (flat_map guard_words (guards_in clauses)) (flat_map setting_words (settings_in clauses)))
    ∙ ap (λ (z : List (List ℕ)). z ++ flat_map setting_words (settings_in clauses)) (sym (flat_map-cons guard_words g (guards_in clauses)))
in_order (clause.Setting s ∷ clauses) fits first =
    let none = behind_two (key_word s.key) (decimal (number_of s.how)) (spelled clauses)
    (sym (ap guards_come_first (spelled-cons (clause.Setting s) clauses) ∙ at_setting s.how s.key (spelled clauses)) ∙ first) in
    let more = only_settings clauses none in
    spelled-cons (clause.Setting s) clauses
    ∙ ap (λ (z : List (List ℕ)). setting_words s ++ z) more.words
    ∙ sym (flat_map-cons setting_words s (settings_in clauses))
    ∙ ap (λ (z : List Guard). flat_map guard_words z ++ flat_map setting_words (s ∷ settings_in clauses)) (sym more.no_guards)

-- A PLAN'S OWN WORDS
pub plan_in_order : (words : List (List ℕ)) (plan : PlanValue) → SpellsPlan words plan → is_plan 2 plan ≡ true → guards_come_first words ≡ true → words ≡ plan_words plan
plan_in_order words plan says fits first =
    let fit = fits_plan 2 plan fits in
    let guards_fine = ap (list_all (fits_guard 2)) says.guards ∙ fit.fit_guards in
    let behind : guards_come_first words ≡ guards_come_first (spelled says.clauses) =
    ap guards_come_first says.spelled
    ∙ past (codes "lock") (map key_word plan.keys ++ spelled says.clauses) refl
    ∙ past_keys plan.keys (spelled says.clauses) fit.fit_keys in
    let ordered = in_order says.clauses guards_fine (sym behind ∙ first) in
    says.spelled
    ∙ ap (λ (z : List (List ℕ)). codes "lock" ∷ (map key_word plan.keys ++ z))
    (ordered
    ∙ ap (λ (z : List Guard). flat_map guard_words z ++ flat_map setting_words (settings_in says.clauses)) says.guards
    ∙ ap (λ (z : List Setting). flat_map guard_words plan.guards ++ flat_map setting_words z) says.settings)
    ∙ ap (λ (z : List (List ℕ)). codes "lock" ∷ z) (sym (append_assoc (map key_word plan.keys) (flat_map guard_words plan.guards) (flat_map setting_words plan.settings)))

-- AND ITS WORDS ARE IN ORDER

no_guard_in : (key : Key) (n : ℕ) (words : List (List ℕ)) → (fits_key 2 key && fits_value n) ≡ true → have_no_guard words ≡ true →
    have_no_guard (key_word key ∷ decimal n ∷ words) ≡ true
no_guard_in key n words fits none =
    rw (digit_guards_none (key_word key) (key_begins key (left_of (fits_key 2 key) (fits_value n) fits)), digit_guards_none (decimal n) (value_begins n (right_of (fits_key 2 key) (fits_value n) fits)))
    none

setting_guards_none : (how : How) (key : Key) (words : List (List ℕ)) → (fits_key 2 key && fits_value (number_of how)) ≡ true → have_no_guard words ≡ true →
    have_no_guard (codes ";" ∷ (how_words how key ++ words)) ≡ true
setting_guards_none (how.Put n) key words fits none = no_guard_in key n words fits none
setting_guards_none (how.Plus n) key words fits none = no_guard_in key n words fits none
setting_guards_none (how.Minus n) key words fits none = no_guard_in key n words fits none

settings_guard_none : (settings : List Setting) → list_all (fits_setting 2) settings ≡ true → have_no_guard (flat_map setting_words settings) ≡ true
settings_guard_none [] fits = refl
settings_guard_none (s ∷ settings) fits =
    ap have_no_guard (flat_map-cons setting_words s settings)
    ∙ setting_guards_none s.how s.key (flat_map setting_words settings) (left_of (fits_setting 2 s) (list_all (fits_setting 2) settings) fits)
    (settings_guard_none settings (right_of (fits_setting 2 s) (list_all (fits_setting 2) settings) fits))

settings_in_order : (settings : List Setting) → list_all (fits_setting 2) settings ≡ true → guards_come_first (flat_map setting_words settings) ≡ true
unfolding guards_come_first
settings_in_order [] fits = refl
settings_in_order (s ∷ settings) fits =
    ap guards_come_first (flat_map-cons setting_words s settings)
    ∙ at_setting s.how s.key (flat_map setting_words settings)
    ∙ no_guard_in s.key (number_of s.how) (flat_map setting_words settings) (left_of (fits_setting 2 s) (list_all (fits_setting 2) settings) fits)
    (settings_guard_none settings (right_of (fits_setting 2 s) (list_all (fits_setting 2) settings) fits))

past_guards : (guards : List Guard) (words : List (List ℕ)) → list_all (fits_guard 2) guards ≡ true → guards_come_first (flat_map guard_words guards ++ words) ≡ guards_come_first words
past_guards [] words fits = refl
past_guards (g ∷ guards) words fits =
    ap (λ (z : List (List ℕ)). guards_come_first (z ++ words)) (flat_map-cons guard_words g guards)
    ∙ ap guards_come_first (append_assoc (guard_words g) (flat_map guard_words guards) words)
    ∙ past_guard g (flat_map guard_words guards ++ words) (left_of (fits_guard 2 g) (list_all (fits_guard 2) guards) fits)
    ∙ past_guards guards words (right_of (fits_guard 2 g) (list_all (fits_guard 2) guards) fits)

pub plan_is_in_order : (plan : PlanValue) → is_plan 2 plan ≡ true → guards_come_first (plan_words plan) ≡ true
plan_is_in_order plan fits =
    let fit = fits_plan 2 plan fits in
    past (codes "lock") (map key_word plan.keys ++ flat_map guard_words plan.guards ++ flat_map setting_words plan.settings) refl
    ∙ ap guards_come_first (append_assoc (map key_word plan.keys) (flat_map guard_words plan.guards) (flat_map setting_words plan.settings))
    ∙ past_keys plan.keys (flat_map guard_words plan.guards ++ flat_map setting_words plan.settings) fit.fit_keys
    ∙ past_guards plan.guards (flat_map setting_words plan.settings) fit.fit_guards
    ∙ settings_in_order plan.settings fit.fit_settings
