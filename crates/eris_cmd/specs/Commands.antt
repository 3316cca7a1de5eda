-- THE WORDS that the top call knows: `run`, `check` and `migrate`, each alone, and `drill N` with N from 1 to 500 in decimal digits,
-- without a leading zero.
use Rattle.std.specs.Prelude.{◌≡◌, ◌⊎◌, ◌≤◌, ℕ, List, [], ◌∷◌, codes}
use Rattle.eris_words.specs.Decimal.{decimal}

abbrev pub IsRun : List (List ℕ) → Type 0
IsRun words = words ≡ codes "run" ∷ []

abbrev pub IsCheck : List (List ℕ) → Type 0
IsCheck words = words ≡ codes "check" ∷ []

abbrev pub IsMigrate : List (List ℕ) → Type 0
IsMigrate words = words ≡ codes "migrate" ∷ []

-- a word that reads its source
abbrev pub IsReader : List (List ℕ) → Type 0
IsReader words = IsRun words ⊎ (IsCheck words ⊎ IsMigrate words)

-- the word is how a drill's number is written
pub record IsNumberWord (word : List ℕ) (number : ℕ) : Type 0 where
  pub is : word ≡ decimal number
  pub some : 1 ≤ number
  pub few : number ≤ 500

pub record IsDrill (words : List (List ℕ)) (number : ℕ) : Type 0 where
  pub word : List ℕ
  pub are : words ≡ codes "drill" ∷ word ∷ []
  pub written : IsNumberWord word number

abbrev pub IsKnown : List (List ℕ) → Type 0
IsKnown words = IsReader words ⊎ ((number : ℕ) × IsDrill words number)
