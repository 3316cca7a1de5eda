-- The keys of a plan are read as just what they spell.
use Rattle.std.proofs.Common.{◌≡◌, ℕ, Bool, true, false, cond, bytes_eq, codes, Option, Some, Ok, List, [], ◌∷◌, ◌++◌, map, refl, sym, ap, subst, ◌∙◌}
use Rattle.std.specs.List.{list_all}
use Rattle.std.proofs.lemmas.Slice.Eq.{bytes_eq-Decides}
use Rattle.std.proofs.lemmas.Bool.{and_from}
use Rattle.eris_base.proofs.Booleans.{left_of, right_of}
use Rattle.eris_txn.specs.declared.key.Key.{Key}
use Rattle.eris_words.specs.declared.reason.Reason.TheVariants as reason
use Rattle.eris_grammar.specs.Fields.{key, read_key}
use Rattle.eris_words.specs.Forms.{Read, ◌>>=◌, said}
use Rattle.eris_grammar.specs.PlanForms.{all_keys, keys_of}
use Rattle.eris_words.specs.Words.{key_word}
use Rattle.eris_grammar.proofs.FieldLaws.{is_key, key_read}
use Rattle.eris_words.proofs.FormLaws.{are_plain, bind_ok, is_plain, ok_is}
use Rattle.eris_event.specs.EventRanges.{fits_key}

-- what a word and those behind it give, by whether the word is `;`
abbrev keys_by : ℕ → List ℕ → List (List ℕ) → Option Key → Bool → Read (List Key) → Read (List Key)
keys_by version word words found test later =
    cond {A = Read (List Key)} test (Ok ([], word ∷ words)) (◌>>=◌ {B = List Key × List (List ℕ)} (said found reason.Key) (λ k. later >>= λ ks. Ok (k ∷ ks.0, ks.1)))

pub record KeysTaken (version : ℕ) (words : List (List ℕ)) (ks : List Key) (rest : List (List ℕ)) : Type 0 where
  pub parts : words ≡ map key_word ks ++ rest
  pub fits : list_all (fits_key version) ks ≡ true

keys_take : (version : ℕ) (words : List (List ℕ)) (ks : List Key) (rest : List (List ℕ)) → keys_of version words ≡ Ok (ks, rest) → KeysTaken version words ks rest
unfolding keys_of key
keys_take version [] ks rest read =
    subst (λ (z : List Key × List (List ℕ)). KeysTaken version [] z.0 z.1) (ok_is ([], []) (ks, rest) read) (record { parts = refl; fits = refl })
keys_take version (word ∷ words) ks rest read = of_test (bytes_eq word (codes ";")) (keys_take version words) read
  where
    of_test : (test : Bool) → ((ks : List Key) (rest : List (List ℕ)) → keys_of version words ≡ Ok (ks, rest) → KeysTaken version words ks rest) →
        keys_by version word words (read_key version word) test (keys_of version words) ≡ Ok (ks, rest) →
        KeysTaken version (word ∷ words) ks rest
    of_test true later found =
        subst (λ (z : List Key × List (List ℕ)). KeysTaken version (word ∷ words) z.0 z.1) (ok_is ([], word ∷ words) (ks, rest) found) (record { parts = refl; fits = refl })
    of_test false later found =
        let a = bind_ok (said (read_key version word) reason.Key) (λ k. keys_of version words >>= λ ks. Ok (k ∷ ks.0, ks.1)) (ks, rest) found in
        let b = bind_ok (keys_of version words) (λ ks. Ok (a.0 ∷ ks.0, ks.1)) (ks, rest) a.2 in
        let t = (is_key version).takes (word ∷ words) a.0 words (ap (λ r. r >>= λ x. Ok (x, words)) a.1) in
        let u = later b.0.0 b.0.1 b.1 in
        let made : KeysTaken version (word ∷ words) (a.0 ∷ b.0.0) b.0.1 = record {
          parts = t.parts ∙ ap (λ (z : List (List ℕ)). key_word a.0 ∷ z) u.parts;
          fits = and_from (fits_key version a.0) (list_all (fits_key version) b.0.0) t.fits u.fits;
        } in
        subst (λ (z : List Key × List (List ℕ)). KeysTaken version (word ∷ words) z.0 z.1) (ok_is (a.0 ∷ b.0.0, b.0.1) (ks, rest) b.2) made

-- a word that begins a clause is no key
no_key : (version : ℕ) (word : List ℕ) (k : Key) → read_key version word ≡ Some k → bytes_eq word (codes ";") ≡ false
no_key version word k read = of_test (bytes_eq word (codes ";")) refl
  where
    none_there : read_key version (codes ";") ≡ Some k → ⊥
    none_there found = cc

    of_test : (test : Bool) → test ≡ bytes_eq word (codes ";") → test ≡ false
    of_test true is = absurd (none_there (sym (ap (read_key version) ((bytes_eq-Decides word (codes ";")).0 (sym is))) ∙ read))
    of_test false is = refl

-- what may stand behind the keys
abbrev pub stops : List (List ℕ) → Bool
stops [] = true
stops (word ∷ words) = bytes_eq word (codes ";")

keys_again : (version : ℕ) (ks : List Key) (rest : List (List ℕ)) → list_all (fits_key version) ks ≡ true → stops rest ≡ true →
    keys_of version (map key_word ks ++ rest) ≡ Ok (ks, rest)
unfolding keys_of key
keys_again version [] [] fine stopped = refl
keys_again version [] (word ∷ words) fine stopped = rw stopped refl
keys_again version (k ∷ ks) rest fine stopped =
    let here = left_of (fits_key version k) (list_all (fits_key version) ks) fine in
    let later = keys_again version ks rest (right_of (fits_key version k) (list_all (fits_key version) ks) fine) stopped in
    let read : read_key version (key_word k) ≡ Some k = key_read version k here in
    let behind : List (List ℕ) = map key_word ks ++ rest in
    ap (λ test. keys_by version (key_word k) behind (read_key version (key_word k)) test (keys_of version behind)) (no_key version (key_word k) k read)
    ∙ ap (λ found. keys_by version (key_word k) behind found false (keys_of version behind)) read
    ∙ ap (keys_by version (key_word k) behind (Some k) false) later

pub keys_plain : (version : ℕ) (ks : List Key) → list_all (fits_key version) ks ≡ true → are_plain (map key_word ks) ≡ true
unfolding key
keys_plain version [] fine = refl
keys_plain version (k ∷ ks) fine =
    and_from (is_plain (key_word k)) (are_plain (map key_word ks))
    (left_of (is_plain (key_word k)) true ((is_key version).plain k (left_of (fits_key version k) (list_all (fits_key version) ks) fine)))
    (keys_plain version ks (right_of (fits_key version k) (list_all (fits_key version) ks) fine))

pub all_keys_take : (version : ℕ) (words : List (List ℕ)) (ks : List Key) (rest : List (List ℕ)) → all_keys version words ≡ Ok (ks, rest) → KeysTaken version words ks rest
unfolding all_keys key
all_keys_take version words ks rest read =
    let a = bind_ok ((key version).read words) (λ first. keys_of version first.1 >>= λ others. Ok (first.0 ∷ others.0, others.1)) (ks, rest) read in
    let b = bind_ok (keys_of version a.0.1) (λ others. Ok (a.0.0 ∷ others.0, others.1)) (ks, rest) a.2 in
    let t = (is_key version).takes words a.0.0 a.0.1 a.1 in
    let u = keys_take version a.0.1 b.0.0 b.0.1 b.1 in
    let made : KeysTaken version words (a.0.0 ∷ b.0.0) b.0.1 = record {
      parts = t.parts ∙ ap (λ (z : List (List ℕ)). key_word a.0.0 ∷ z) u.parts;
      fits = and_from (fits_key version a.0.0) (list_all (fits_key version) b.0.0) t.fits u.fits;
    } in
    subst (λ (z : List Key × List (List ℕ)). KeysTaken version words z.0 z.1) (ok_is (a.0.0 ∷ b.0.0, b.0.1) (ks, rest) b.2) made

pub all_keys_again : (version : ℕ) (first : Key) (ks : List Key) (rest : List (List ℕ)) → list_all (fits_key version) (first ∷ ks) ≡ true → stops rest ≡ true →
    all_keys version (key_word first ∷ (map key_word ks ++ rest)) ≡ Ok (first ∷ ks, rest)
unfolding all_keys key
all_keys_again version first ks rest fine stopped =
    let behind : List (List ℕ) = map key_word ks ++ rest in
    ap (λ r. ◌>>=◌ {B = List Key × List (List ℕ)} r (λ k. keys_of version k.1 >>= λ others. Ok (k.0 ∷ others.0, others.1)))
    ((is_key version).again first behind (left_of (fits_key version first) (list_all (fits_key version) ks) fine))
    ∙ ap (λ r. ◌>>=◌ {B = List Key × List (List ℕ)} r (λ others. Ok (first ∷ others.0, others.1)))
    (keys_again version ks rest (right_of (fits_key version first) (list_all (fits_key version) ks) fine) stopped)
