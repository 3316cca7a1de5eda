-- No record begins another, so bytes have their records in one way.
use Rattle.std.proofs.Common.{◌≡◌, ◌≢◌, ℕ, suc, ◌+◌, List, [], ◌∷◌, ◌++◌, length, get_or, take, drop, refl, sym, ◌∙◌, ap, arith, append_assoc, length-append, take-append-drop}
use Rattle.std.specs.List.{AllByRecursion}
use Rattle.std.proofs.lemmas.List.{take_at, append-nil}
use Rattle.eris_rules.specs.declared.coord_input.CoordInput.{CoordInput}
use Rattle.eris_rules.specs.declared.coord_input.CoordInput.TheVariants as inputs
use Rattle.eris_msg.proofs.Decodes.{one_spelling}
use Rattle.eris_image.specs.Images.{body_of, behind_gate, record_of, records_of, journal_length, HasRecord, IsImage, IsBroken, IsDamagedAt}

-- two bodies of which one begins the other are one
body_one : (some other : CoordInput) (after rest : List ℕ) → HasRecord some → HasRecord other → body_of some ++ after ≡ body_of other ++ rest → (some ≡ other) × (after ≡ rest)
body_one (inputs.Message m) (inputs.Message n) after rest first second same =
    let one = one_spelling m n after rest first.ranged second.ranged (ap (drop 1) same) in
    (ap inputs.Message one.0, one.1)
body_one (inputs.Message m) inputs.Nudge after rest first second same = absurd (let no : 0 ≡ 1 = ap (λ l. get_or l 0 2) same in omega arith)
body_one inputs.Nudge (inputs.Message n) after rest first second same = absurd (let no : 1 ≡ 0 = ap (λ l. get_or l 0 2) same in omega arith)
body_one inputs.Nudge inputs.Nudge after rest first second same = (refl, ap (drop 1) same)

-- and so are two records
pub record_one : (some other : CoordInput) (after rest : List ℕ) → HasRecord some → HasRecord other → record_of some ++ after ≡ record_of other ++ rest → (some ≡ other) × (after ≡ rest)
record_one some other after rest first second same = body_one some other after rest first second (ap (drop 5) same)

-- what comes after the first record of several
first_of : (input : CoordInput) (later : List CoordInput) (rest : List ℕ) → records_of (input ∷ later) ++ rest ≡ record_of input ++ (records_of later ++ rest)
first_of input later rest = append_assoc (record_of input) (records_of later) rest

rests : (some other : CoordInput) (more later : List CoordInput) (after rest : List ℕ) → HasRecord some → HasRecord other
    → records_of (some ∷ more) ++ after ≡ records_of (other ∷ later) ++ rest → (some ≡ other) × (records_of more ++ after ≡ records_of later ++ rest)
rests some other more later after rest first second same =
    record_one some other (records_of more ++ after) (records_of later ++ rest) first second (sym (first_of some more after) ∙ same ∙ first_of other later rest)

-- a record begins with an open gate
opens : (input : CoordInput) (later : List CoordInput) (gate : ℕ) (rest after : List ℕ) → gate ∷ rest ≡ records_of (input ∷ later) ++ after → gate ≡ 1
opens input later gate rest after same = ap (λ l. get_or l 0 0) same

one_way : (some other : List CoordInput) (gate closed : ℕ) (rest after : List ℕ) → AllByRecursion HasRecord some → AllByRecursion HasRecord other → gate ≢ 1 → closed ≢ 1
    → records_of some ++ gate ∷ rest ≡ records_of other ++ closed ∷ after → some ≡ other
one_way [] [] gate closed rest after each all shut shut' same = refl
one_way [] (j ∷ js) gate closed rest after each all shut shut' same = absurd (shut (opens j js gate rest (closed ∷ after) same))
one_way (i ∷ is) [] gate closed rest after each all shut shut' same = absurd (shut' (opens i is closed after (gate ∷ rest) (sym same)))
one_way (i ∷ is) (j ∷ js) gate closed rest after each all shut shut' same =
    let both = rests i j is js (gate ∷ rest) (closed ∷ after) each.0 all.0 same in
    ap (λ x. x ∷ is) both.0 ∙ ap (λ l. j ∷ l) (one_way is js gate closed rest after each.1 all.1 shut shut' both.1)

pub one_list : (some other : List CoordInput) (bytes : List ℕ) → IsImage some bytes → IsImage other bytes → some ≡ other
one_list some other bytes first second =
    one_way some other first.gate second.gate first.rest second.rest first.each second.each first.closed second.closed (sym first.whole ∙ second.whole)

length-journal : (inputs : List CoordInput) (gate : ℕ) → length (records_of inputs ++ gate ∷ []) ≡ journal_length inputs
length-journal inputs gate = omega (arith, length-append (records_of inputs) (gate ∷ []), length-append (records_of inputs) (0 ∷ []))

pub front_decides : (inputs : List CoordInput) (image bytes : List ℕ) → IsImage inputs image → take (journal_length inputs) bytes ≡ take (journal_length inputs) image → IsImage inputs bytes
front_decides inputs image bytes is same =
    let n = journal_length inputs in
    let front = records_of inputs ++ is.gate ∷ [] in
    let split : image ≡ front ++ is.rest = is.whole ∙ sym (append_assoc (records_of inputs) (is.gate ∷ []) is.rest) in
    let begins : take n image ≡ front = ap (take n) split ∙ take_at front is.rest n (length-journal inputs is.gate) in
    record {
      gate = is.gate;
      rest = drop n bytes;
      closed = is.closed;
      whole =
          sym (take-append-drop n bytes) ∙ ap (λ (l : List ℕ). l ++ drop n bytes) (same ∙ begins)
          ∙ append_assoc (records_of inputs) (is.gate ∷ []) (drop n bytes);
      each = is.each;
    }

records-push : (inputs : List CoordInput) (input : CoordInput) → records_of (inputs ++ input ∷ []) ≡ records_of inputs ++ record_of input
records-push [] input = append-nil (record_of input)
records-push (i ∷ is) input = ap (λ l. record_of i ++ l) (records-push is input) ∙ sym (append_assoc (record_of i) (records_of is) (record_of input))

each-push : (inputs : List CoordInput) (input : CoordInput) → AllByRecursion HasRecord inputs → HasRecord input → AllByRecursion HasRecord (inputs ++ input ∷ [])
each-push [] input each one = (one, tt)
each-push (i ∷ is) input each one = (each.0, each-push is input each.1 one)

pub shut_gate : (inputs : List CoordInput) (input : CoordInput) (gate last : ℕ) (rest : List ℕ) → AllByRecursion HasRecord inputs → gate ≢ 1
    → IsImage inputs (records_of inputs ++ gate ∷ (behind_gate input ++ last ∷ rest))
shut_gate inputs input gate last rest each shut = record { gate = gate; rest = behind_gate input ++ last ∷ rest; closed = shut; whole = refl; each = each }

pub open_gate : (inputs : List CoordInput) (input : CoordInput) (last : ℕ) (rest : List ℕ) → AllByRecursion HasRecord inputs → HasRecord input → last ≢ 1
    → IsImage (inputs ++ input ∷ []) (records_of inputs ++ 1 ∷ (behind_gate input ++ last ∷ rest))
open_gate inputs input last rest each one shut = record {
  gate = last;
  rest = rest;
  closed = shut;
  whole = sym (ap (λ l. l ++ last ∷ rest) (records-push inputs input) ∙ append_assoc (records_of inputs) (record_of input) (last ∷ rest));
  each = each-push inputs input each one;
}

pub length-push : (inputs : List CoordInput) (input : CoordInput) → journal_length (inputs ++ input ∷ []) ≡ journal_length inputs + 5 + length (body_of input)
length-push inputs input =
    let record_size : length (record_of input) ≡ 5 + length (body_of input) = omega arith in
    let grown = ap length (records-push inputs input) ∙ length-append (records_of inputs) (record_of input) in
    omega (arith, length-append (records_of (inputs ++ input ∷ [])) (0 ∷ []), grown, record_size, length-append (records_of inputs) (0 ∷ []))

-- where a record stands, nothing is broken
whole_record : (input : CoordInput) (rest later : List ℕ) → HasRecord input → rest ≡ record_of input ++ later → IsBroken rest → ⊥
whole_record input [] later one is broken = let no : 0 ≡ suc (length (behind_gate input ++ later)) = ap length is in absurd (omega arith)
whole_record input (gate ∷ rest) later one is broken = broken.1 input later one is

-- where a closed gate stands, nothing is broken
closed_gate : (gate : ℕ) (after rest : List ℕ) → gate ≢ 1 → rest ≡ gate ∷ after → IsBroken rest → ⊥
closed_gate gate after [] shut is broken = let no : 0 ≡ suc (length after) = ap length is in absurd (omega arith)
closed_gate gate after (g ∷ rest) shut is broken = shut (sym (ap (λ l. get_or l 0 0) is) ∙ broken.0)

never : (some other : List CoordInput) (gate : ℕ) (after rest : List ℕ) → AllByRecursion HasRecord some → AllByRecursion HasRecord other → gate ≢ 1
    → records_of some ++ gate ∷ after ≡ records_of other ++ rest → IsBroken rest → ⊥
never [] [] gate after rest each all shut same broken = closed_gate gate after rest shut (sym same) broken
never [] (j ∷ js) gate after rest each all shut same broken = shut (opens j js gate after rest same)
never (i ∷ is) [] gate after rest each all shut same broken = whole_record i rest (records_of is ++ gate ∷ after) each.0 (sym same ∙ first_of i is (gate ∷ after)) broken
never (i ∷ is) (j ∷ js) gate after rest each all shut same broken =
    never is js gate after rest each.1 all.1 shut (rests i j is js (gate ∷ after) rest each.0 all.0 same).1 broken

pub no_image : (at : ℕ) (inputs : List CoordInput) (bytes : List ℕ) → IsDamagedAt at bytes → IsImage inputs bytes → ⊥
no_image at inputs bytes damaged image =
    never inputs damaged.inputs image.gate image.rest damaged.rest image.each damaged.each image.closed (sym image.whole ∙ damaged.whole) damaged.broken

one_break : (some other : List CoordInput) (after rest : List ℕ) → AllByRecursion HasRecord some → AllByRecursion HasRecord other
    → records_of some ++ after ≡ records_of other ++ rest → IsBroken after → IsBroken rest → length (records_of some) ≡ length (records_of other)
one_break [] [] after rest each all same broken ruined = refl
one_break [] (j ∷ js) after rest each all same broken ruined = absurd (whole_record j after (records_of js ++ rest) all.0 (same ∙ first_of j js rest) broken)
one_break (i ∷ is) [] after rest each all same broken ruined = absurd (whole_record i rest (records_of is ++ after) each.0 (sym same ∙ first_of i is after) ruined)
one_break (i ∷ is) (j ∷ js) after rest each all same broken ruined =
    let both = rests i j is js after rest each.0 all.0 same in
    let later = one_break is js after rest each.1 all.1 both.1 broken ruined in
    let record_is : length (record_of i) ≡ length (record_of j) = ap (λ x. length (record_of x)) both.0 in
    length-append (record_of i) (records_of is) ∙ omega (arith, record_is, later) ∙ sym (length-append (record_of j) (records_of js))

pub one_place : (some other : ℕ) (bytes : List ℕ) → IsDamagedAt some bytes → IsDamagedAt other bytes → some ≡ other
one_place some other bytes first second =
    first.place ∙ one_break first.inputs second.inputs first.rest second.rest first.each second.each (sym first.whole ∙ second.whole) first.broken second.broken ∙ sym second.place
