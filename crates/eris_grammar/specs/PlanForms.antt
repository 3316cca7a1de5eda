-- The plan of a general transaction, as a line has it: its clauses may stand in any order.
use Rattle.std.specs.Prelude.{ℕ, ◌||◌, Bool, nat_lt, Option, Some, None, Result, Ok, Err, List, [], ◌∷◌, bytes_eq, codes, length, if◌then◌else◌}
use Rattle.eris_txn.specs.declared.key.Key.{Key}
use Rattle.eris_txn.specs.declared.plan.Guard.{Guard}
use Rattle.eris_txn.specs.declared.plan.How.{How}
use Rattle.eris_txn.specs.declared.plan.How.TheVariants.{Put, Plus, Minus}
use Rattle.eris_txn.specs.declared.plan.PlanFault.{PlanFault}
use Rattle.eris_txn.specs.declared.plan.PlanFault.TheVariants as fault
use Rattle.eris_txn.specs.declared.plan.Setting.{Setting}
use Rattle.eris_txn.specs.PlanFaults.{plan_fault}
use Rattle.eris_txn.specs.PlanValues.{PlanValue}
use Rattle.eris_grammar.specs.declared.clause.Clause.{Clause}
use Rattle.eris_grammar.specs.declared.clause.Clause.TheVariants as clause
use Rattle.eris_grammar.specs.declared.fixed_words.ClauseWord.{ClauseWord}
use Rattle.eris_grammar.specs.declared.fixed_words.ClauseWord.TheVariants as w
use Rattle.eris_words.specs.declared.reason.Reason.{Reason}
use Rattle.eris_words.specs.declared.reason.Reason.TheVariants as reason
use Rattle.eris_words.specs.Decimal.{decimal}
use Rattle.eris_grammar.specs.Fields.{key, read_key, value}
use Rattle.eris_grammar.specs.FixedWords.{clause_word}
use Rattle.eris_words.specs.Forms.{Form, Read, ◌>>=◌, arm, expect, led, more, pair, said}
use Rattle.eris_event.specs.EventRanges.{most, fits_guard, fits_setting}
use Rattle.eris_words.specs.PlanText.{how_words}
use Rattle.eris_words.specs.Words.{key_word}

-- CLAUSES

abbrev pub clause_words : Clause → List (List ℕ)
clause_words (clause.Guard g) = codes "guard" ∷ key_word g.key ∷ decimal g.least ∷ []
clause_words (clause.Setting s) = how_words s.how s.key

abbrev pub set_to : (ℕ → How) → Key × ℕ → Clause
set_to how p = clause.Setting (record { key = p.0; how = how p.1 })

-- `guard K N`, `set K N`, `plus K N`, `minus K N`
unfoldable pub clause_behind : ℕ → ClauseWord → List (List ℕ) → Read Clause
clause_behind version w.Guard words = arm (λ p. clause.Guard (record { key = p.0; least = p.1 })) (pair (key version) value) words
clause_behind version w.Set words = arm (set_to Put) (pair (key version) value) words
clause_behind version w.Plus words = arm (set_to Plus) (pair (key version) value) words
clause_behind version w.Minus words = arm (set_to Minus) (pair (key version) value) words

abbrev pub fits_clause : ℕ → Clause → Bool
fits_clause version (clause.Guard g) = fits_guard version g
fits_clause version (clause.Setting s) = fits_setting version s

unfoldable pub clause_form : ℕ → Form Clause
clause_form version = led clause_word (clause_behind version) clause_words (fits_clause version)

-- the guards among clauses, and the settings, each in their order
abbrev pub guards_in : List Clause → List Guard
guards_in [] = []
guards_in (clause.Guard g ∷ clauses) = g ∷ guards_in clauses
guards_in (clause.Setting s ∷ clauses) = guards_in clauses

abbrev pub settings_in : List Clause → List Setting
settings_in [] = []
settings_in (clause.Guard g ∷ clauses) = settings_in clauses
settings_in (clause.Setting s ∷ clauses) = s ∷ settings_in clauses

-- PLANS

-- keys, up to a `;` or the end of the line
unfoldable pub keys_of : ℕ → List (List ℕ) → Read (List Key)
keys_of version [] = Ok ([], [])
keys_of version (word ∷ words) =
    if bytes_eq word (codes ";")
    then Ok ([], word ∷ words)
    else (said (read_key version word) reason.Key >>= λ k. keys_of version words >>= λ ks. Ok (k ∷ ks.0, ks.1))

-- one key or more
unfoldable pub all_keys : ℕ → List (List ℕ) → Read (List Key)
all_keys version words = (key version).read words >>= λ first. keys_of version first.1 >>= λ others. Ok (first.0 ∷ others.0, others.1)

-- a plan that was read has a key, so it is never empty
abbrev pub fault_reason : PlanFault → Reason
fault_reason fault.TooMany = reason.TooMany
fault_reason fault.Empty = reason.End
fault_reason fault.RepeatedKey = reason.RepeatedKey
fault_reason fault.UnlockedKey = reason.UnlockedKey

abbrev pub unless_fault : Option PlanFault → PlanValue → Result PlanValue Reason
unless_fault None plan = Ok plan
unless_fault (Some why) plan = Err (fault_reason why)

abbrev pub planned : ℕ → List Key → List Guard → List Setting → Result PlanValue Reason
planned version keys guards settings =
    if nat_lt (most version) (length keys) || nat_lt (most version) (length guards) then Err reason.TooMany
    else unless_fault (plan_fault keys guards settings) (record { keys = keys; guards = guards; settings = settings })

-- clauses, each behind a `;`
unfoldable pub all_clauses : ℕ → List (List ℕ) → Result (List Guard × List Setting) Reason
all_clauses version words = more (clause_form version) words >>= λ clauses. Ok (guards_in clauses, settings_in clauses)

-- `lock K`, further keys, and clauses behind a `;` each
unfoldable pub plan_of : ℕ → List (List ℕ) → Result PlanValue Reason
plan_of version words =
    expect (codes "lock") words >>= λ behind. all_keys version behind >>= λ keys. all_clauses version keys.1 >>= λ rows.
    planned version keys.0 rows.0 rows.1
