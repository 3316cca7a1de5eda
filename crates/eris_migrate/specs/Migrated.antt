-- THE MIGRATED TEXT: a script of version 1 in the spelling of version 2. One CR at the end of each line is taken off, the header's second
-- word becomes `2`, and a dot comes in place of one space where version 2 has one word for two. Every other byte stays.
use Rattle.std.specs.Prelude.{ℕ, ◌||◌, Bool, List, [], ◌∷◌, ◌++◌, map, drop, bytes_eq, codes, nat_eq, if◌then◌else◌}
use Rattle.std.specs.List.{after_first, after_last, before_first, before_last, ends_with, join_with_byte, starts_with}
use Rattle.eris_words.specs.Cuts.{first_word, is_space, lines}

-- a dot in place of the first space
abbrev pub first_dotted : List ℕ → List ℕ
first_dotted line = before_first is_space line ++ codes "." ++ after_first is_space line

-- a dot in place of the last space, which stands between the last two words
abbrev pub last_dotted : List ℕ → List ℕ
last_dotted line = before_last is_space line ++ codes "." ++ after_last is_space line

-- what begins a line that ends in a transaction, or in a replica: two words in version 1, one in version 2
abbrev pub ends_in_txn : List ℕ → Bool
ends_in_txn word = bytes_eq word (codes "retry") || bytes_eq word (codes "abort")

abbrev pub ends_in_replica : List ℕ → Bool
ends_in_replica word =
    bytes_eq word (codes "probe") || bytes_eq word (codes "suspect") || bytes_eq word (codes "sync") || bytes_eq word (codes "crash")

abbrev pub joins_last : List ℕ → Bool
joins_last line = ends_in_txn (first_word line) || ends_in_replica (first_word line)

-- `noise rep S R H` has a dot between its third word and its fourth
abbrev pub joins_third : List ℕ → Bool
joins_third line = starts_with nat_eq line (codes "noise rep ")

-- a line behind the header
unfoldable pub migrated_line : List ℕ → List ℕ
migrated_line line =
    if joins_last line then last_dotted line
    else if joins_third line then codes "noise rep " ++ first_dotted (drop 10 line)
    else line

-- a header: `2` stands between its first word and what is behind its second
unfoldable pub migrated_header : List ℕ → List ℕ
migrated_header line = before_first is_space line ++ codes " 2 " ++ after_first is_space (after_first is_space line)

abbrev pub migrated_lines : List (List ℕ) → List (List ℕ)
migrated_lines [] = []
migrated_lines (first ∷ others) = migrated_header first ∷ map migrated_line others

-- an LF where a text ends in one
abbrev pub last_lf : List ℕ → List ℕ
last_lf bytes = if ends_with nat_eq bytes (10 ∷ []) then 10 ∷ [] else []

-- an LF stands behind each line that had one
unfoldable pub migrated : List ℕ → List ℕ
migrated bytes = join_with_byte 10 (migrated_lines (lines bytes)) ++ last_lf bytes
