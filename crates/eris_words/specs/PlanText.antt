use Rattle.std.specs.Prelude.{ℕ, List, ◌∷◌, [], ◌++◌, map, codes}
use Rattle.std.specs.List.{flat_map}
use Rattle.eris_txn.specs.declared.key.Key.{Key}
use Rattle.eris_txn.specs.declared.plan.Guard.{Guard}
use Rattle.eris_txn.specs.declared.plan.How.{How}
use Rattle.eris_txn.specs.declared.plan.How.TheVariants.{Put, Plus, Minus}
use Rattle.eris_txn.specs.declared.plan.Plan.{Plan}
use Rattle.eris_txn.specs.declared.plan.Setting.{Setting}
use Rattle.eris_words.specs.Decimal.{decimal}
use Rattle.eris_words.specs.Words.{key_word}

-- a guard, after the `;` that sets it off
abbrev pub guard_words : Guard → List (List ℕ)
guard_words guard = codes ";" ∷ codes "guard" ∷ key_word guard.key ∷ decimal guard.least ∷ []

-- what a setting does to its key
abbrev pub how_words : How → Key → List (List ℕ)
how_words (Put value) key = codes "set" ∷ key_word key ∷ decimal value ∷ []
how_words (Plus value) key = codes "plus" ∷ key_word key ∷ decimal value ∷ []
how_words (Minus value) key = codes "minus" ∷ key_word key ∷ decimal value ∷ []

-- a setting, after the `;` that sets it off
abbrev pub setting_words : Setting → List (List ℕ)
setting_words setting = codes ";" ∷ how_words setting.how setting.key

-- a plan: its locked keys, its guards, and then its settings
abbrev pub plan_words : Plan → List (List ℕ)
plan_words plan =
    codes "lock" ∷ map key_word plan.keys
    ++ flat_map guard_words plan.guards ++ flat_map setting_words plan.settings
