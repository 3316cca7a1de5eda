-- Keys, read one by one.
use Rattle.std.proofs.Common.{◌≡◌, ◌==◌, ℕ, ◌<◌, true, false, cond, bytes_eq, codes, Result, Ok, Err, List, [], ◌∷◌, ◌++◌, length, refl, sym, ap, subst, ◌∙◌, append-nil, append_assoc, arith}
use Rattle.eris_txn.specs.declared.key.Key.{Key}
use Rattle.eris_words.specs.declared.line_fault.LineFault.{LineFault}
use Rattle.eris_words.specs.declared.line_fault.LineFault.TheVariants as fault
use Rattle.eris_words.specs.declared.reason.Reason.{Reason}
use Rattle.eris_words.specs.declared.reason.Reason.TheVariants as reason
use Rattle.eris_grammar.specs.Fields.{key, read_key}
use Rattle.eris_words.specs.Forms.{Read, ◌>>=◌, Refuses, is_next, said}
use Rattle.eris_grammar.specs.PlanForms.{keys_of}
use Rattle.eris_words.proofs.FormLaws.{bind_ok, ok_is}

-- what was read before, and what is still read
abbrev pub with_keys : List Key → Read (List Key) → Read (List Key)
with_keys front read = read >>= λ keys. Ok (front ++ keys.0, keys.1)

regrouped : (front : List Key) (k : Key) (read : Read (List Key)) →
    with_keys front (read >>= λ ks. Ok (k ∷ ks.0, ks.1)) ≡ with_keys (front ++ k ∷ []) read
regrouped front k (Ok keys) = ap (λ (all : List Key). Ok (all, keys.1)) (sym (append_assoc front (k ∷ []) keys.0))
regrouped front k (Err why) = refl

-- where a key has to stand
key_first : (version : ℕ) (word : List ℕ) (words : List (List ℕ)) → bytes_eq word (codes ";") ≡ false →
    keys_of version (word ∷ words) ≡ ((key version).read (word ∷ words) >>= λ k. keys_of version k.1 >>= λ ks. Ok (k.0 ∷ ks.0, ks.1))
unfolding keys_of key
key_first version word words other = rw other (of_said (said (read_key version word) reason.Key))
  where
    of_said : (read : Result Key Reason) →
        ◌>>=◌ {B = List Key × List (List ℕ)} read (λ k. keys_of version words >>= λ ks. Ok (k ∷ ks.0, ks.1))
        ≡ ◌>>=◌ {B = List Key × List (List ℕ)} (◌>>=◌ {B = Key × List (List ℕ)} read (λ x. Ok (x, words))) (λ k. keys_of version k.1 >>= λ ks. Ok (k.0 ∷ ks.0, ks.1))
    of_said (Ok k) = refl
    of_said (Err why) = refl

key_next : (version : ℕ) (words : List (List ℕ)) → (length words == 0) ≡ false → is_next (codes ";") words ≡ false →
    keys_of version words ≡ ((key version).read words >>= λ k. keys_of version k.1 >>= λ ks. Ok (k.0 ∷ ks.0, ks.1))
key_next version [] some other = absurd cc
key_next version (word ∷ words) some other = key_first version word words other

pub key_goes_on : (version : ℕ) (front : List Key) (words after : List (List ℕ)) (k : Key) (total : Read (List Key)) →
    (length words == 0) ≡ false → is_next (codes ";") words ≡ false → (key version).read words ≡ Ok (k, after) → with_keys front (keys_of version words) ≡ total →
    with_keys (front ++ k ∷ []) (keys_of version after) ≡ total
key_goes_on version front words after k total some other read so_far =
    sym (regrouped front k (keys_of version after))
    ∙ ap (λ r. with_keys front (r >>= λ k. keys_of version k.1 >>= λ ks. Ok (k.0 ∷ ks.0, ks.1))) (sym read)
    ∙ ap (with_keys front) (sym (key_next version words some other))
    ∙ so_far

pub key_refused : (version : ℕ) (front : List Key) (words : List (List ℕ)) (stop : LineFault) (total : Read (List Key)) →
    (length words == 0) ≡ false → is_next (codes ";") words ≡ false → Refuses stop ((key version).read words) → with_keys front (keys_of version words) ≡ total → Refuses stop total
key_refused version front words (fault.Bad why) total some other refused so_far =
    sym so_far ∙ ap (with_keys front) (key_next version words some other)
    ∙ ap (λ r. with_keys front (r >>= λ k. keys_of version k.1 >>= λ ks. Ok (k.0 ∷ ks.0, ks.1))) refused
key_refused version front words fault.NoMemory total some other refused so_far = tt

pub keys_end : (version : ℕ) (front : List Key) (words : List (List ℕ)) (total : Read (List Key)) → length words ≡ 0 → with_keys front (keys_of version words) ≡ total → total ≡ Ok (front, words)
unfolding keys_of
keys_end version front [] total none so_far = sym so_far ∙ ap (λ (all : List Key). Ok (all, [])) (append-nil front)
keys_end version front (word ∷ words) total none so_far = absurd (omega arith)

pub keys_stop : (version : ℕ) (front : List Key) (words : List (List ℕ)) (total : Read (List Key)) → is_next (codes ";") words ≡ true → with_keys front (keys_of version words) ≡ total → total ≡ Ok (front, words)
unfolding keys_of
keys_stop version front [] total here so_far = absurd cc
keys_stop version front (word ∷ words) total here so_far =
    sym so_far ∙ ap (λ test. with_keys front (cond test (Ok ([], word ∷ words)) (said (read_key version word) reason.Key >>= λ k. keys_of version words >>= λ ks. Ok (k ∷ ks.0, ks.1)))) here
    ∙ ap (λ (all : List Key). Ok (all, word ∷ words)) (append-nil front)

pub key_shorter : (version : ℕ) (words after : List (List ℕ)) (k : Key) → (key version).read words ≡ Ok (k, after) → length after < length words
unfolding key
key_shorter version [] after k read = absurd cc
key_shorter version (word ∷ words) after k read =
    let one : length words < length (word ∷ words) = omega arith in
    let a = bind_ok (said (read_key version word) reason.Key) (λ x. Ok (x, words)) (k, after) read in
    let same : (a.0, words) ≡ (k, after) = ok_is (a.0, words) (k, after) a.2 in
    let rest : words ≡ after = ap (λ (p : Key × List (List ℕ)). p.1) same in
    subst (λ (z : List (List ℕ)). length z < length (word ∷ words)) rest one
