-- AN ORDER IN TWO PARTS: where lines of one kind stand before all others, and each id stands once, the order is first
-- the lines of that kind and then the others. Used for the puts of a day and its turns.
use Rattle.std.proofs.Common.{◌≡◌, ◌⊎◌, inl, inr, ◌||◌, Bool, true, false, cond, List, [], ◌∷◌, ◌++◌, refl, ap, sym, ◌∙◌}
use Rattle.std.specs.Prelude.{⊤}
use Rattle.std.proofs.lemmas.Bool.{cases_Bool, both_ways}
use Rattle.eris_base.specs.declared.ids.TxnId.{TxnId}
use Rattle.eris_base.specs.Each.{Each, EachAfter}
use Rattle.eris_base.specs.TxnIds.{same_id}
use Rattle.eris_base.proofs.Each.{Each-weaker}
use Rattle.eris_base.proofs.TxnIdLaws.{same_id-refl, same_id-true}
use Rattle.eris_audit.specs.declared.order_line.OrderLine.{OrderLine}
use Rattle.eris_audit.specs.Lines.{Line, StandsOnce, has_line, lines_of, stands_before}
use Rattle.eris_audit.proofs.Turns.{has_line-last}

-- each id stands once
abbrev pub OnceIn : List OrderLine → Type 0
OnceIn [] = ⊤
OnceIn (line ∷ lines) = (has_line (lines_of lines) line.id ≡ false) × OnceIn lines

has_more : (before : List Line) (line : Line) (id : TxnId) → has_line before id ≡ true → has_line (before ++ line ∷ []) id ≡ true
has_more [] line id there = absurd (cc)
has_more (first ∷ before) line id there = by_first (same_id first.id id) (λ more. has_more before line id more) there
  where
    by_first : (test : Bool) → (has_line before id ≡ true → has_line (before ++ line ∷ []) id ≡ true) → (test || has_line before id) ≡ true → (test || has_line (before ++ line ∷ []) id) ≡ true
    by_first true more known = refl
    by_first false more known = more known

none_later : (before : List Line) (lines : List OrderLine) (id : TxnId) → EachAfter StandsOnce before (lines_of lines) → has_line before id ≡ true → has_line (lines_of lines) id ≡ false
none_later before [] id once there = refl
none_later before (line ∷ lines) id once there =
    by_first (cases_Bool (same_id line.id id)) (none_later (before ++ record { id = line.id; outcome = line.outcome } ∷ []) lines id once.1 (has_more before (record { id = line.id; outcome = line.outcome }) id there))
  where
    by_first : ((same_id line.id id ≡ true) ⊎ (same_id line.id id ≡ false)) → has_line (lines_of lines) id ≡ false → (same_id line.id id || has_line (lines_of lines) id) ≡ false
    by_first (inl same) later = absurd (both_ways _ once.0 (ap (has_line before) (same_id-true line.id id same) ∙ there))
    by_first (inr apart) later = ap (λ (test : Bool). test || has_line (lines_of lines) id) apart ∙ later

pub once_in : (before : List Line) (lines : List OrderLine) → EachAfter StandsOnce before (lines_of lines) → OnceIn lines
once_in before [] once = tt
once_in before (line ∷ lines) once = (
  none_later (before ++ record { id = line.id; outcome = line.outcome } ∷ []) lines line.id once.1 (has_line-last before (record { id = line.id; outcome = line.outcome })),
  once_in (before ++ record { id = line.id; outcome = line.outcome } ∷ []) lines once.1,
)

second_there : (lines : List OrderLine) (first second : TxnId) → stands_before (lines_of lines) first second ≡ true → has_line (lines_of lines) second ≡ true
second_there [] first second before = absurd (cc)
second_there (line ∷ lines) first second before = by_test (same_id line.id first) (λ more. second_there lines first second more) before
  where
    either : (test : Bool) → has_line (lines_of lines) second ≡ true → (test || has_line (lines_of lines) second) ≡ true
    either true more = refl
    either false more = more

    by_test : (test : Bool) → (stands_before (lines_of lines) first second ≡ true → has_line (lines_of lines) second ≡ true) →
        cond test (has_line (lines_of lines) second) (stands_before (lines_of lines) first second) ≡ true → (same_id line.id second || has_line (lines_of lines) second) ≡ true
    by_test true more known = either (same_id line.id second) known
    by_test false more known = either (same_id line.id second) (more known)

there_too : (line : OrderLine) (lines : List OrderLine) (id : TxnId) → has_line (lines_of lines) id ≡ true → has_line (lines_of (line ∷ lines)) id ≡ true
there_too line lines id more = either (same_id line.id id)
  where
    either : (test : Bool) → (test || has_line (lines_of lines) id) ≡ true
    either true = refl
    either false = more

at_head : (line : OrderLine) (lines : List OrderLine) → has_line (lines_of (line ∷ lines)) line.id ≡ true
at_head line lines = ap (λ (test : Bool). test || has_line (lines_of lines) line.id) (same_id-refl line.id)

all_there : (lines : List OrderLine) → Each (λ line. has_line (lines_of lines) line.id ≡ true) lines
all_there [] = tt
all_there (line ∷ lines) = (
  at_head line lines,
  Each-weaker (λ (one : OrderLine). has_line (lines_of lines) one.id ≡ true) (λ (one : OrderLine). has_line (lines_of (line ∷ lines)) one.id ≡ true)
      (λ one there. there_too line lines one.id there) lines (all_there lines),
)

module _ (kind : TxnId → Bool) where
  -- lines of the kind stand before the others
  abbrev pub StandFirst : List OrderLine → Type 0
  StandFirst lines = (first second : TxnId) → kind first ≡ true → kind second ≡ false → has_line (lines_of lines) first ≡ true → has_line (lines_of lines) second ≡ true →
      stands_before (lines_of lines) first second ≡ true

  pub record IsSplit (lines : List OrderLine) : Type 0 where
    pub front : List OrderLine
    pub back : List OrderLine
    pub are : lines ≡ front ++ back
    pub kinds : Each (λ line. kind line.id ≡ true) front
    pub others : Each (λ line. kind line.id ≡ false) back

  later_first : (line : OrderLine) (lines : List OrderLine) → has_line (lines_of lines) line.id ≡ false → StandFirst (line ∷ lines) → StandFirst lines
  later_first line lines once stand first second is other there too =
      by_test (cases_Bool (same_id line.id first)) (stand first second is other (there_too line lines first there) (there_too line lines second too))
    where
      by_test : ((same_id line.id first ≡ true) ⊎ (same_id line.id first ≡ false)) →
          cond (same_id line.id first) (has_line (lines_of lines) second) (stands_before (lines_of lines) first second) ≡ true → stands_before (lines_of lines) first second ≡ true
      by_test (inl same) before = absurd (both_ways _ once (ap (has_line (lines_of lines)) (same_id-true line.id first same) ∙ there))
      by_test (inr apart) before =
          sym (ap (λ (test : Bool). cond test (has_line (lines_of lines) second) (stands_before (lines_of lines) first second)) apart) ∙ before

  -- behind a line of another kind there is none of the kind
  none_behind : (line : OrderLine) (lines : List OrderLine) (one : TxnId) → has_line (lines_of lines) line.id ≡ false → StandFirst (line ∷ lines) → kind line.id ≡ false →
      has_line (lines_of lines) one ≡ true → kind one ≡ false
  none_behind line lines one once stand other there = by_kind (cases_Bool (kind one))
    where
      by_id : ((same_id line.id one ≡ true) ⊎ (same_id line.id one ≡ false)) → kind one ≡ true →
          cond (same_id line.id one) (has_line (lines_of lines) line.id) (stands_before (lines_of lines) one line.id) ≡ true → kind one ≡ false
      by_id (inl same) is before = ap kind (sym (same_id-true line.id one same)) ∙ other
      by_id (inr apart) is before =
          absurd (both_ways _ once (second_there lines one line.id
          (sym (ap (λ (test : Bool). cond test (has_line (lines_of lines) line.id) (stands_before (lines_of lines) one line.id)) apart) ∙ before)))

      by_kind : ((kind one ≡ true) ⊎ (kind one ≡ false)) → kind one ≡ false
      by_kind (inl is) = by_id (cases_Bool (same_id line.id one)) is (stand one line.id is other (there_too line lines one there) (at_head line lines))
      by_kind (inr other_kind) = other_kind

  one_more_split : (line : OrderLine) (lines : List OrderLine) → kind line.id ≡ true → IsSplit lines → IsSplit (line ∷ lines)
  one_more_split line lines is more = record {
    front = line ∷ more.front;
    back = more.back;
    are = ap (λ (all : List OrderLine). line ∷ all) more.are;
    kinds = (is, more.kinds);
    others = more.others;
  }

  pub split : (lines : List OrderLine) → OnceIn lines → StandFirst lines → IsSplit lines
  split [] once stand = record { front = []; back = []; are = refl; kinds = tt; others = tt }
  split (line ∷ lines) once stand = by_kind (cases_Bool (kind line.id)) (λ later. split lines once.1 later)
    where
      by_kind : ((kind line.id ≡ true) ⊎ (kind line.id ≡ false)) → (StandFirst lines → IsSplit lines) → IsSplit (line ∷ lines)
      by_kind (inl is) more = one_more_split line lines is (more (later_first line lines once.0 stand))
      by_kind (inr other) more = record {
        front = [];
        back = line ∷ lines;
        are = refl;
        kinds = tt;
        others = (
          other,
          Each-weaker (λ (one : OrderLine). has_line (lines_of lines) one.id ≡ true) (λ (one : OrderLine). kind one.id ≡ false)
              (λ one there. none_behind line lines one.id once.0 stand other there) lines (all_there lines),
        );
      }
