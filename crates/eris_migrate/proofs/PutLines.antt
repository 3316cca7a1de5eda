-- The migrated lines, put one behind the other.
use Rattle.std.proofs.Common.{◌≡◌, ℕ, ◌+◌, ◌<◌, ◌≤◌, None, List, [], ◌∷◌, ◌++◌, length, map, refl, sym, ap, subst, ◌∙◌, arith, append-nil, append_assoc}
use Rattle.std.specs.List.{flat_map, join_with_byte}
use Rattle.std.proofs.lemmas.List.Concat.{flat_map-cons}
use Rattle.eris_words.specs.Cuts.{cut_lines, lines}
use Rattle.eris_grammar.specs.Headers.{header_of}
use Rattle.eris_migrate.specs.declared.fault.MigrateFault.{MigrateFault}
use Rattle.eris_migrate.specs.Migrated.{last_lf, migrated, migrated_header, migrated_line, migrated_lines}
use Rattle.eris_migrate.specs.Migrations.{Migrates, Refuses}
use Rattle.eris_migrate.specs.Unread.{header_fault, unread, unread_from}
use Rattle.eris_migrate.proofs.ReadLines.{header_read, read_on, stop_here}

-- lines, an LF before each
abbrev pub put_of : List (List ℕ) → List ℕ
put_of texts = flat_map (λ line. 10 ∷ migrated_line line) texts

-- what was read and put of a text, up to the rest
pub record HasPut (start now text rest : List ℕ) (number : ℕ) : Type 0 where
  pub read : unread_from 2 (lines text) ≡ unread_from number (lines rest)
  pub put : start ++ put_of (lines text) ≡ now ++ put_of (lines rest)
  pub room : number + length rest ≤ 4294967295

pub none_put : (start text : List ℕ) → length text ≤ 4294967293 → HasPut start start text text 2
none_put start text short = record { read = refl; put = refl; room = omega arith }

pub one_more_put : (start now text rest line more : List ℕ) (number : ℕ) → HasPut start now text rest number → lines rest ≡ line ∷ lines more →
    length more < length rest → unread_from number (line ∷ []) ≡ None → HasPut start (now ++ 10 ∷ [] ++ migrated_line line) text more (number + 1)
one_more_put start now text rest line more number before cut shorter here = record {
  read = before.read ∙ ap (unread_from number) cut ∙ read_on number line (lines more) here;
  put = before.put ∙ ap (λ (z : List (List ℕ)). now ++ put_of z) cut ∙ ap (λ (z : List ℕ). now ++ z) (flat_map-cons (λ line. 10 ∷ migrated_line line) line (lines more))
      ∙ sym (append_assoc now (10 ∷ migrated_line line) (put_of (lines more)))
      ∙ ap (λ (z : List ℕ). z ++ put_of (lines more)) (sym (append_assoc now (10 ∷ []) (migrated_line line)));
  room = let room : number + length rest ≤ 4294967295 = before.room in omega arith;
}

pub all_read : (start now text rest : List ℕ) (number : ℕ) → HasPut start now text rest number → rest ≡ [] → unread_from 2 (lines text) ≡ None
unfolding cut_lines unread_from
all_read start now text rest number before done = before.read ∙ ap (λ (z : List ℕ). unread_from number (lines z)) done

pub all_put : (start now text rest : List ℕ) (number : ℕ) → HasPut start now text rest number → rest ≡ [] → now ≡ start ++ put_of (lines text)
unfolding cut_lines
all_put start now text rest number before done =
    sym (before.put ∙ ap (λ (z : List ℕ). now ++ put_of (lines z)) done ∙ append-nil now)

pub bad_put : (start now text rest line more : List ℕ) (number : ℕ) (stop : MigrateFault) → HasPut start now text rest number → lines rest ≡ line ∷ lines more →
    Refuses (unread_from number (line ∷ [])) stop → Refuses (unread_from 2 (lines text)) stop
bad_put start now text rest line more number stop before cut refused =
    let same : unread_from 2 (lines text) ≡ unread_from number (line ∷ lines more) = before.read ∙ ap (unread_from number) cut in
    subst (λ found. Refuses found stop) (sym same) (stop_here number line (lines more) stop refused)

joined_lines : (first : List ℕ) (texts : List (List ℕ)) → first ++ put_of texts ≡ join_with_byte 10 (first ∷ map migrated_line texts)
joined_lines first [] = append-nil first
joined_lines first (line ∷ texts) =
    ap (λ (z : List ℕ). first ++ z) (flat_map-cons (λ line. 10 ∷ migrated_line line) line texts)
    ∙ ap (λ (z : List ℕ). first ++ 10 ∷ z) (joined_lines (migrated_line line) texts)

-- the whole text
pub is_migrated : (bytes first rest text : List ℕ) → (0 < length bytes → lines bytes ≡ first ∷ lines rest) → (bytes ≡ [] → first ≡ []) →
    header_fault (header_of first) ≡ None → unread_from 2 (lines rest) ≡ None →
    text ≡ migrated_header first ++ put_of (lines rest) ++ last_lf bytes → Migrates bytes text
unfolding migrated
is_migrated bytes first rest text some none headed read put =
    let begun = header_read bytes first rest some none headed in record {
      old = begun.1 ∙ read;
      is = put ∙ ap (λ (z : List ℕ). z ++ last_lf bytes) (joined_lines (migrated_header first) (lines rest)
          ∙ ap (λ (z : List (List ℕ)). join_with_byte 10 (migrated_lines z)) (sym begun.0));
    }
