-- A form reads what it spells, and nothing else; and no word that it spells has a space.
use Rattle.std.proofs.Common.{◌≡◌, ℕ, zero, suc, ◌+◌, ◌<◌, ◌≤◌, Bool, true, false, not, cond, ◌==◌, bytes_eq, codes, Option, Some, None, Result, Ok, Err, List, [], ◌∷◌, ◌++◌, length, refl, sym, ap, subst, ◌∙◌, append-nil, append_assoc, arith}
use Rattle.std.specs.List.{flat_map, list_all}
use Rattle.std.proofs.lemmas.List.{length-append}
use Rattle.std.proofs.lemmas.Slice.Eq.{bytes_eq-Decides}
use Rattle.std.proofs.lemmas.List.Concat.{flat_map-cons}
use Rattle.std.proofs.lemmas.Bool.{and_from}
use Rattle.eris_base.proofs.Booleans.{left_of, right_of}
use Rattle.eris_words.specs.declared.line_fault.LineFault.{LineFault}
use Rattle.eris_words.specs.declared.line_fault.LineFault.TheVariants as fault
use Rattle.eris_words.specs.declared.reason.Reason.{Reason}
use Rattle.eris_words.specs.declared.reason.Reason.TheVariants.{Word}
use Rattle.eris_words.specs.Cuts.{is_space}
use Rattle.eris_words.specs.Forms.{Form, Read, ◌>>=◌, next_word, said, one_word, pair, named, arm, led, ended, whole, expect, next_item, more_items, more, Refuses}

abbrev pub is_plain : List ℕ → Bool
is_plain word = list_all (λ byte. not (is_space byte)) word

abbrev pub are_plain : List (List ℕ) → Bool
are_plain words = list_all is_plain words

-- RESULTS AND TESTS

pub bind_ok : {A B : Type 0} (r : Result A Reason) (next : A → Result B Reason) (y : B) → (r >>= next) ≡ Ok y → (x : A) × (r ≡ Ok x) × (next x ≡ Ok y)
bind_ok (Ok x) next y read = (x, refl, read)
bind_ok (Err reason) next y read = absurd cc

abbrev done : {A : Type 0} → A → Result A Reason
done x = Ok x

pub ok_is : {A : Type 0} (x y : A) → done x ≡ done y → x ≡ y
ok_is x y same = cc

said_ok : {X : Type 0} (o : Option X) (reason : Reason) (x : X) → said o reason ≡ Ok x → o ≡ Some x
said_ok (Some y) reason x read = ap (λ z. Some z) (ok_is y x read)
said_ok None reason x read = absurd cc

next_ok : (words : List (List ℕ)) (w : List ℕ × List (List ℕ)) → next_word words ≡ Ok w → words ≡ w.0 ∷ w.1
next_ok [] w read = absurd cc
next_ok (word ∷ words) w read = let same : (word, words) ≡ w = ok_is (word, words) w read in ap (λ (p : List ℕ × List (List ℕ)). p.0 ∷ p.1) same

pub plain-append : (xs ys : List (List ℕ)) → are_plain xs ≡ true → are_plain ys ≡ true → are_plain (xs ++ ys) ≡ true
plain-append [] ys left right = right
plain-append (x ∷ xs) ys left right =
    and_from (is_plain x) (are_plain (xs ++ ys)) (left_of (is_plain x) (are_plain xs) left)
    (plain-append xs ys (right_of (is_plain x) (are_plain xs) left) right)

-- FORMS

-- what was read
pub record Takes {X : Type 0} (c : Form X) (words : List (List ℕ)) (x : X) (rest : List (List ℕ)) : Type 0 where
  pub parts : words ≡ c.spell x ++ rest
  pub fits : c.fits x ≡ true

pub record IsForm {X : Type 0} (c : Form X) : Type 0 where
  pub takes : (words : List (List ℕ)) (x : X) (rest : List (List ℕ)) → c.read words ≡ Ok (x, rest) → Takes c words x rest
  pub again : (x : X) (rest : List (List ℕ)) → c.fits x ≡ true → c.read (c.spell x ++ rest) ≡ Ok (x, rest)
  pub plain : (x : X) → c.fits x ≡ true → are_plain (c.spell x) ≡ true

-- what one word says
pub record IsWord {X : Type 0} (spell : X → List ℕ) (value : List ℕ → Option X) (fits : X → Bool) : Type 0 where
  pub takes : (word : List ℕ) (x : X) → value word ≡ Some x → (word ≡ spell x) × (fits x ≡ true)
  pub again : (x : X) → fits x ≡ true → value (spell x) ≡ Some x
  pub plain : (x : X) → fits x ≡ true → is_plain (spell x) ≡ true

pub is_one_word : {X : Type 0} (reason : Reason) (spell : X → List ℕ) (value : List ℕ → Option X) (fits : X → Bool) →
    IsWord spell value fits → IsForm (one_word reason spell value fits)
is_one_word {X = X} reason spell value fits h = record {
  takes = λ words x rest read.
      let a = bind_ok (next_word words) (λ w. said (value w.0) reason >>= λ x. Ok (x, w.1)) (x, rest) read in
      let b = bind_ok (said (value a.0.0) reason) (λ x. Ok (x, a.0.1)) (x, rest) a.2 in
      let t = h.takes a.0.0 b.0 (said_ok (value a.0.0) reason b.0 b.1) in
      let made : Takes (one_word reason spell value fits) words b.0 a.0.1 = record {
        parts = next_ok words a.0 a.1 ∙ ap (λ (word : List ℕ). word ∷ a.0.1) t.0;
        fits = t.1;
      } in
      subst (λ (z : X × List (List ℕ)). Takes (one_word reason spell value fits) words z.0 z.1) (ok_is (b.0, a.0.1) (x, rest) b.2) made;
  again = λ x rest fine. rw (h.again x fine) refl;
  plain = λ x fine. and_from (is_plain (spell x)) true (h.plain x fine) refl;
}

pub is_pair : {X Y : Type 0} (c : Form X) (d : Form Y) → IsForm c → IsForm d → IsForm (pair c d)
is_pair {X = X} {Y = Y} c d h k = record {
  takes = λ words p rest read.
      let a = bind_ok (c.read words) (λ x. d.read x.1 >>= λ y. Ok ((x.0, y.0), y.1)) (p, rest) read in
      let b = bind_ok (d.read a.0.1) (λ y. Ok ((a.0.0, y.0), y.1)) (p, rest) a.2 in
      let t = h.takes words a.0.0 a.0.1 a.1 in
      let u = k.takes a.0.1 b.0.0 b.0.1 b.1 in
      let made : Takes (pair c d) words (a.0.0, b.0.0) b.0.1 = record {
        parts = t.parts ∙ ap (λ (z : List (List ℕ)). c.spell a.0.0 ++ z) u.parts ∙ sym (append_assoc (c.spell a.0.0) (d.spell b.0.0) b.0.1);
        fits = and_from _ _ t.fits u.fits;
      } in
      subst (λ (z : (X × Y) × List (List ℕ)). Takes (pair c d) words z.0 z.1) (ok_is ((a.0.0, b.0.0), b.0.1) (p, rest) b.2) made;
  again = λ p rest fine.
      rw (append_assoc (c.spell p.0) (d.spell p.1) rest, h.again p.0 (d.spell p.1 ++ rest) (left_of (c.fits p.0) (d.fits p.1) fine), k.again p.1 rest (right_of (c.fits p.0) (d.fits p.1) fine)) refl;
  plain = λ p fine. plain-append (c.spell p.0) (d.spell p.1)
      (h.plain p.0 (left_of (c.fits p.0) (d.fits p.1) fine)) (k.plain p.1 (right_of (c.fits p.0) (d.fits p.1) fine));
}

pub is_named : {X Y : Type 0} (to : X → Y) (from : Y → X) (c : Form X) → ((y : Y) → to (from y) ≡ y) → ((x : X) → from (to x) ≡ x) →
    IsForm c → IsForm (named to from c)
is_named {X = X} {Y = Y} to from c there back h = record {
  takes = λ words y rest read.
      let a = bind_ok (c.read words) (λ x. Ok (to x.0, x.1)) (y, rest) read in
      let t = h.takes words a.0.0 a.0.1 a.1 in
      let made : Takes (named to from c) words (to a.0.0) a.0.1 = record { parts = rw (back a.0.0) t.parts; fits = rw (back a.0.0) t.fits } in
      subst (λ (z : Y × List (List ℕ)). Takes (named to from c) words z.0 z.1) (ok_is (to a.0.0, a.0.1) (y, rest) a.2) made;
  again = λ y rest fine. rw (h.again (from y) rest fine, there y) refl;
  plain = λ y fine. h.plain (from y) fine;
}

-- WORDS OF TABLES, AND WHAT STANDS BEHIND THEM

pub record Behind {X : Type 0} (spell : X → List (List ℕ)) (fits : X → Bool) (front words : List (List ℕ)) (x : X) (rest : List (List ℕ)) : Type 0 where
  pub parts : front ++ words ≡ spell x ++ rest
  pub fine : fits x ≡ true

-- what a form reads behind a word
pub arm_takes : {A X : Type 0} (c : Form A) (to : A → X) (spell : X → List (List ℕ)) (fits : X → Bool) (front : List (List ℕ)) → IsForm c →
    ((a : A) → spell (to a) ≡ front ++ c.spell a) → ((a : A) → fits (to a) ≡ c.fits a) →
    (words : List (List ℕ)) (x : X) (rest : List (List ℕ)) → arm to c words ≡ Ok (x, rest) → Behind spell fits front words x rest
arm_takes {A = A} {X = X} c to spell fits front h spelled fit words x rest read =
    let a = bind_ok (c.read words) (λ a. Ok (to a.0, a.1)) (x, rest) read in
    let t = h.takes words a.0.0 a.0.1 a.1 in
    let made : Behind spell fits front words (to a.0.0) a.0.1 = record {
      parts = ap (λ (z : List (List ℕ)). front ++ z) t.parts ∙ sym (append_assoc front (c.spell a.0.0) a.0.1)
          ∙ ap (λ (z : List (List ℕ)). z ++ a.0.1) (sym (spelled a.0.0));
      fine = fit a.0.0 ∙ t.fits;
    } in
    subst (λ (z : X × List (List ℕ)). Behind spell fits front words z.0 z.1) (ok_is (to a.0.0, a.0.1) (x, rest) a.2) made

-- how a value stands behind its word
pub record Led {T X : Type 0} (lead : Form T) (behind : T → List (List ℕ) → Read X) (spell : X → List (List ℕ)) (x : X) : Type 0 where
  pub word : T
  pub payload : List (List ℕ)
  pub spelled : spell x ≡ lead.spell word ++ payload
  pub known : lead.fits word ≡ true
  pub read : (rest : List (List ℕ)) → behind word (payload ++ rest) ≡ Ok (x, rest)
  pub plain : are_plain payload ≡ true

-- a value that a form spells behind a word
pub arm_led : {T A X : Type 0} (lead : Form T) (behind : T → List (List ℕ) → Read X) (spell : X → List (List ℕ)) (word : T) (c : Form A) (to : A → X) (a : A) →
    IsForm c → lead.fits word ≡ true → ((words : List (List ℕ)) → behind word words ≡ arm to c words) → spell (to a) ≡ lead.spell word ++ c.spell a → c.fits a ≡ true →
    Led lead behind spell (to a)
arm_led lead behind spell word c to a h known reads spelled fine = record {
  word = word;
  payload = c.spell a;
  spelled = spelled;
  known = known;
  read = λ rest. reads (c.spell a ++ rest) ∙ ap (λ r. r >>= λ a. Ok (to a.0, a.1)) (h.again a rest fine);
  plain = h.plain a fine;
}

pub is_led : {T X : Type 0} (lead : Form T) (behind : T → List (List ℕ) → Read X) (spell : X → List (List ℕ)) (fits : X → Bool) → IsForm lead →
    ((word : T) (words : List (List ℕ)) (x : X) (rest : List (List ℕ)) → behind word words ≡ Ok (x, rest) → Behind spell fits (lead.spell word) words x rest) →
    ((x : X) → fits x ≡ true → Led lead behind spell x) → IsForm (led lead behind spell fits)
is_led {X = X} lead behind spell fits h takes leads = record {
  takes = λ words x rest read.
      let a = bind_ok (lead.read words) (λ t. behind t.0 t.1) (x, rest) read in
      let t = h.takes words a.0.0 a.0.1 a.1 in
      let b = takes a.0.0 a.0.1 x rest a.2 in
      record { parts = t.parts ∙ b.parts; fits = b.fine };
  again = λ x rest fine.
      let g = leads x fine in
      let front : spell x ++ rest ≡ lead.spell g.word ++ (g.payload ++ rest) = rw g.spelled (append_assoc (lead.spell g.word) g.payload rest) in
      rw (front, h.again g.word (g.payload ++ rest) g.known) (g.read rest);
  plain = λ x fine.
      let g = leads x fine in
      rw g.spelled (plain-append (lead.spell g.word) g.payload (h.plain g.word g.known) g.plain);
}

-- TO THE END OF THE LINE

pub ended_is : {X : Type 0} (x : X × List (List ℕ)) (y : X) → ended x ≡ Ok y → x ≡ (y, [])
ended_is {X = X} (x, []) y read = ap (λ (z : X). (z, [])) (ok_is x y read)
ended_is (x, word ∷ words) y read = absurd cc

pub whole_takes : {X : Type 0} (c : Form X) → IsForm c → (words : List (List ℕ)) (x : X) → whole c words ≡ Ok x → (words ≡ c.spell x) × (c.fits x ≡ true)
whole_takes {X = X} c h words x read =
    let a = bind_ok (c.read words) ended x read in
    let same = ended_is a.0 x a.2 in
    let t = h.takes words x [] (a.1 ∙ ap (λ (p : X × List (List ℕ)). Ok p) same) in
    (t.parts ∙ append-nil (c.spell x), t.fits)

pub whole_again : {X : Type 0} (c : Form X) → IsForm c → (x : X) → c.fits x ≡ true → whole c (c.spell x) ≡ Ok x
whole_again c h x fine =
    let read : c.read (c.spell x) ≡ Ok (x, []) = ap c.read (sym (append-nil (c.spell x))) ∙ h.again x [] fine in
    rw read refl

-- MORE OF A KIND

-- a form that was read leaves no more words than there were
pub no_longer : {X : Type 0} (c : Form X) → IsForm c → (words : List (List ℕ)) (x : X) (rest : List (List ℕ)) → c.read words ≡ Ok (x, rest) → length rest ≤ length words
no_longer c h words x rest read =
    let t = h.takes words x rest read in
    let sum : length words ≡ length (c.spell x) + length rest = ap (λ (z : List (List ℕ)). length z) t.parts ∙ length-append (c.spell x) rest in
    omega arith

pub expect_ok : (text : List ℕ) (words behind : List (List ℕ)) → expect text words ≡ Ok behind → words ≡ text ∷ behind
expect_ok text words behind read =
    let a = bind_ok (next_word words) (λ w. cond (bytes_eq w.0 text) (Ok w.1) (Err Word)) behind read in
    let picked = guard_ok (bytes_eq a.0.0 text) a.0.1 behind a.2 in
    next_ok words a.0 a.1 ∙ ap (λ (word : List ℕ). word ∷ a.0.1) ((bytes_eq-Decides a.0.0 text).0 picked.0) ∙ ap (λ (z : List (List ℕ)). text ∷ z) picked.1
  where
    guard_ok : (test : Bool) (some : List (List ℕ)) (other : List (List ℕ)) → cond test (done some) (Err Word) ≡ Ok other → (test ≡ true) × (some ≡ other)
    guard_ok true some other read = (refl, ok_is some other read)
    guard_ok false some other read = absurd cc

pub bind_same : {A B : Type 0} (r : Result A Reason) (some others : A → Result B Reason) → ((x : A) → r ≡ Ok x → some x ≡ others x) → (r >>= some) ≡ (r >>= others)
bind_same (Ok x) some others same = same x refl
bind_same (Err reason) some others same = refl

-- what was read before, and what is still read
abbrev pub with_front : {X : Type 0} → List X → Result (List X) Reason → Result (List X) Reason
with_front front read = read >>= λ xs. Ok (front ++ xs)

pub regrouped : {X : Type 0} (front : List X) (x : X) (read : Result (List X) Reason) →
    with_front front (read >>= λ xs. Ok (x ∷ xs)) ≡ with_front (front ++ x ∷ []) read
regrouped {X = X} front x (Ok xs) = ap (λ (all : List X). Ok all) (sym (append_assoc front (x ∷ []) xs))
regrouped front x (Err reason) = refl

module _ {X : Type 0} (item : Form X) (h : IsForm item) where
  pub record NextTaken (words : List (List ℕ)) (x : X) (after : List (List ℕ)) : Type 0 where
    pub parts : words ≡ codes ";" ∷ (item.spell x ++ after)
    pub fits : item.fits x ≡ true
    pub fewer : length after < length words

  pub next_takes : (words : List (List ℕ)) (x : X) (after : List (List ℕ)) → next_item item words ≡ Ok (x, after) → NextTaken words x after
  next_takes words x after read =
      let a = bind_ok (expect (codes ";") words) item.read (x, after) read in
      let t = h.takes a.0 x after a.2 in
      let front = expect_ok (codes ";") words a.0 a.1 in
      let same : length words ≡ suc (length a.0) = ap (λ (z : List (List ℕ)). length z) front in
      let fewer = no_longer item h a.0 x after a.2 in
      record { parts = front ∙ ap (λ (z : List (List ℕ)). codes ";" ∷ z) t.parts; fits = t.fits; fewer = omega arith }

  -- more than enough is as good
  enough : (n m : ℕ) (words : List (List ℕ)) → length words ≤ n → length words ≤ m → more_items item n words ≡ more_items item m words
  enough n m [] some others = refl
  enough zero m (word ∷ words) some others = absurd (omega arith)
  enough (suc n) zero (word ∷ words) some others = absurd (omega arith)
  enough (suc n) (suc m) (word ∷ words) some others =
      bind_same (next_item item (word ∷ words))
      (λ x. more_items item n x.1 >>= λ xs. Ok (x.0 ∷ xs))
      (λ x. more_items item m x.1 >>= λ xs. Ok (x.0 ∷ xs))
      (λ x read.
      let t = next_takes (word ∷ words) x.0 x.1 read in
      let fewer = t.fewer in
      ap (λ r. r >>= λ xs. Ok (x.0 ∷ xs)) (enough n m x.1 (omega arith) (omega arith)))

  pub one_more : (words after : List (List ℕ)) (x : X) → next_item item words ≡ Ok (x, after) → more item words ≡ (more item after >>= λ xs. Ok (x ∷ xs))
  one_more [] after x read = absurd cc
  one_more (word ∷ words) after x read =
      let t = next_takes (word ∷ words) x after read in
      let fewer = t.fewer in
      ap (λ r. r >>= λ y. more_items item (length words) y.1 >>= λ xs. Ok (y.0 ∷ xs)) read
      ∙ ap (λ r. r >>= λ xs. Ok (x ∷ xs)) (enough (length words) (length after) after (omega arith) (omega arith))

  pub none_more : (words : List (List ℕ)) (why : Reason) → (length words == 0) ≡ false → next_item item words ≡ Err why → more item words ≡ Err why
  none_more [] why some refused = absurd cc
  none_more (word ∷ words) why some refused = ap (λ r. r >>= λ x. more_items item (length words) x.1 >>= λ xs. Ok (x.0 ∷ xs)) refused

  pub goes_on : (front : List X) (words after : List (List ℕ)) (x : X) (total : Result (List X) Reason) →
      next_item item words ≡ Ok (x, after) → with_front front (more item words) ≡ total → with_front (front ++ x ∷ []) (more item after) ≡ total
  goes_on front words after x total read so_far =
      sym (regrouped front x (more item after)) ∙ ap (with_front front) (sym (one_more words after x read)) ∙ so_far

  pub ends_within : (front : List X) (words : List (List ℕ)) (stop : LineFault) (total : Result (List X) Reason) → (length words == 0) ≡ false →
      Refuses stop (next_item item words) → with_front front (more item words) ≡ total → Refuses stop total
  ends_within front words (fault.Bad why) total some refused so_far = sym so_far ∙ ap (with_front front) (none_more words why some refused)
  ends_within front words fault.NoMemory total some refused so_far = tt

  pub is_all : (front : List X) (words : List (List ℕ)) (total : Result (List X) Reason) → length words ≡ 0 → with_front front (more item words) ≡ total → total ≡ Ok front
  is_all front [] total none so_far = sym so_far ∙ ap (λ (xs : List X). Ok xs) (append-nil front)
  is_all front (word ∷ words) total none so_far = absurd (omega arith)

  abbrev pub behind_each : List X → List (List ℕ)
  behind_each xs = flat_map (λ x. codes ";" ∷ item.spell x) xs

  pub record AllTaken (words : List (List ℕ)) (xs : List X) : Type 0 where
    pub parts : words ≡ behind_each xs
    pub fits : list_all item.fits xs ≡ true

  pub more_takes : (n : ℕ) (words : List (List ℕ)) (xs : List X) → more_items item n words ≡ Ok xs → AllTaken words xs
  more_takes n [] xs read = subst (λ (z : List X). AllTaken [] z) (ok_is [] xs read) (record { parts = refl; fits = refl })
  more_takes zero (word ∷ words) xs read = absurd cc
  more_takes (suc n) (word ∷ words) xs read =
      let b = bind_ok (next_item item (word ∷ words)) (λ x. more_items item n x.1 >>= λ xs. Ok (x.0 ∷ xs)) xs read in
      let c = bind_ok (more_items item n b.0.1) (λ xs. Ok (b.0.0 ∷ xs)) xs b.2 in
      let t = next_takes (word ∷ words) b.0.0 b.0.1 b.1 in
      let u = more_takes n b.0.1 c.0 c.1 in
      let each : behind_each (b.0.0 ∷ c.0) ≡ codes ";" ∷ (item.spell b.0.0 ++ behind_each c.0) = flat_map-cons (λ x. codes ";" ∷ item.spell x) b.0.0 c.0 in
      let made : AllTaken (word ∷ words) (b.0.0 ∷ c.0) = record {
        parts = t.parts ∙ ap (λ (z : List (List ℕ)). codes ";" ∷ (item.spell b.0.0 ++ z)) u.parts ∙ sym each;
        fits = and_from (item.fits b.0.0) (list_all item.fits c.0) t.fits u.fits;
      } in
      subst (λ (z : List X). AllTaken (word ∷ words) z) (ok_is (b.0.0 ∷ c.0) xs c.2) made

  pub more_again : (xs : List X) → list_all item.fits xs ≡ true → more item (behind_each xs) ≡ Ok xs
  more_again [] fine = refl
  more_again (x ∷ xs) fine =
      ap (λ (z : List (List ℕ)). more item z) (flat_map-cons (λ x. codes ";" ∷ item.spell x) x xs)
      ∙ one_more (codes ";" ∷ (item.spell x ++ behind_each xs)) (behind_each xs) x (h.again x (behind_each xs) (left_of (item.fits x) (list_all item.fits xs) fine))
      ∙ ap (λ r. r >>= λ xs. Ok (x ∷ xs)) (more_again xs (right_of (item.fits x) (list_all item.fits xs) fine))

  pub each_plain : (xs : List X) → list_all item.fits xs ≡ true → are_plain (behind_each xs) ≡ true
  each_plain [] fine = refl
  each_plain (x ∷ xs) fine =
      ap are_plain (flat_map-cons (λ x. codes ";" ∷ item.spell x) x xs)
      ∙ plain-append (item.spell x) (behind_each xs) (h.plain x (left_of (item.fits x) (list_all item.fits xs) fine))
      (each_plain xs (right_of (item.fits x) (list_all item.fits xs) fine))
