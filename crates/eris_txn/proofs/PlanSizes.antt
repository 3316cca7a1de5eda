-- A plan sets no more keys than it locks.
use Rattle.std.proofs.Common.{◌≡◌, ◌≤◌, ◌+◌, Bool, true, false, cond, ◌||◌, nat_lt, nat_le, List, [], ◌∷◌, length, refl, ap, ◌∙◌, arith, Option, Some, None, IfSome}
use Rattle.std.proofs.lemmas.Bool.{or_parts, or_cases, and_parts, and_from, cond_both, lt-ltb, le-leb}
use Rattle.std.proofs.lemmas.List.{length-map}
use Rattle.std.specs.List.{list_all}
use Rattle.eris_txn.specs.declared.key.Key.{Key}
use Rattle.eris_txn.specs.declared.plan.Setting.{Setting}
use Rattle.eris_txn.specs.declared.plan.Write.{Write}
use Rattle.eris_txn.specs.Keys.{same_key, Values}
use Rattle.eris_txn.specs.PlanFacts.{IsPlan}
use Rattle.eris_txn.specs.PlanFaults.{is_among, sets, sets_twice}
use Rattle.eris_txn.specs.PlanValues.{PlanValue}
use Rattle.eris_txn.specs.Plans.{guards_hold, locks_of, writes_from, writes_of}
use Rattle.eris_txn.specs.Sizes.{is_few}
use Rattle.eris_txn.proofs.KeyLaws.{same_key-true, same_key-symm}

-- the keys but for the first that equals this one
abbrev without : List Key → Key → List Key
without [] key = []
without (other ∷ keys) key = cond (same_key other key) keys (other ∷ without keys key)

or_rest : (a b : Bool) → a ≡ false → (a || b) ≡ true → b ≡ true
or_rest false b e h = h
or_rest true b e h = cc

length-without : (keys : List Key) (key : Key) → is_among keys key ≡ true → length keys ≡ length (without keys key) + 1
length-without [] key h = cc
length-without (other ∷ keys) key h =
    cond_both (same_key other key) keys (other ∷ without keys key) (λ left. length (other ∷ keys) ≡ length left + 1)
    (λ same. omega arith)
    (λ apart. omega (arith, length-without keys key (or_rest (same_key other key) (is_among keys key) apart h)))

-- another key stays among them
stays : (keys : List Key) (key other : Key) → is_among keys other ≡ true → same_key key other ≡ false → is_among (without keys key) other ≡ true
stays [] key other h apart = h
stays (first ∷ keys) key other h apart =
    cond_both (same_key first key) keys (first ∷ without keys key) (λ left. is_among left other ≡ true)
    (λ same. or_rest (same_key first other) (is_among keys other) (ap (λ k. same_key k other) (same_key-true first key same) ∙ apart) h)
    (λ differs. grind (arith, or_cases (same_key first other) (is_among keys other) h, stays keys key other))

each_stays : (settings : List Setting) (keys : List Key) (key : Key) → sets settings key ≡ false → list_all (λ setting. is_among keys setting.key) settings ≡ true → list_all (λ setting. is_among (without keys key) setting.key) settings ≡ true
each_stays [] keys key h each = refl
each_stays (setting ∷ settings) keys key h each =
    let parts = or_parts (same_key setting.key key) (sets settings key) h in
    let all = and_parts (is_among keys setting.key) (list_all (λ setting. is_among keys setting.key) settings) each in
    and_from (is_among (without keys key) setting.key) (list_all (λ setting. is_among (without keys key) setting.key) settings)
    (stays keys key setting.key all.0 (same_key-symm key setting.key ∙ parts.0))
    (each_stays settings keys key parts.1 all.1)

-- different keys among others are no more than those
pub length-settings : (settings : List Setting) (keys : List Key) → sets_twice settings ≡ false → list_all (λ setting. is_among keys setting.key) settings ≡ true → length settings ≤ length keys
length-settings [] keys once each = omega arith
length-settings (setting ∷ settings) keys once each =
    let parts = or_parts (sets settings setting.key) (sets_twice settings) once in
    let all = and_parts (is_among keys setting.key) (list_all (λ setting. is_among keys setting.key) settings) each in
    omega (
      arith,
      length-without keys setting.key all.0,
      length-settings settings (without keys setting.key) parts.1 (each_stays settings keys setting.key parts.0 all.1),
    )

-- a plan makes at most 32 writes
pub writes_of-few : (plan : PlanValue) (values : Values) → IsPlan plan → IfSome (writes_of plan values) (λ writes. length writes ≤ 32)
writes_of-few plan values facts =
    let parts = and_parts (list_all (λ guard. is_among plan.keys guard.key) plan.guards) (list_all (λ setting. is_among plan.keys setting.key) plan.settings) facts.names_locked in
    let few = length-settings plan.settings plan.keys facts.sets_once parts.1 in
    let P : Option (List Write) → Type 0 = λ found. IfSome found (λ writes. length writes ≤ 32) in
    cond_both (guards_hold plan.guards values) (Some (writes_from plan.settings values)) None P
    (λ holds. simp length-map (omega (arith, few, facts.few_keys)))
    (λ fails. tt)

-- and takes 1 to 32 locks
pub locks_of-few : (plan : PlanValue) → IsPlan plan → is_few (locks_of plan) ≡ true
locks_of-few plan facts =
    simp length-map (and_from (nat_lt 0 (length plan.keys)) (nat_le (length plan.keys) 32) (lt-ltb 0 (length plan.keys) (omega (arith, facts.some_key))) (le-leb (length plan.keys) 32 facts.few_keys))

pub ruleset plan_sizes = (locks_of-few)
