-- Clauses, read one by one.
use Rattle.std.proofs.Common.{◌≡◌, ◌==◌, ℕ, ◌<◌, false, Result, Ok, Err, List, [], ◌∷◌, ◌++◌, length, refl, sym, ap, ◌∙◌, append-nil, append_assoc, arith}
use Rattle.eris_txn.specs.declared.plan.Guard.{Guard}
use Rattle.eris_txn.specs.declared.plan.Setting.{Setting}
use Rattle.eris_grammar.specs.declared.clause.Clause.{Clause}
use Rattle.eris_grammar.specs.declared.clause.Clause.TheVariants as clause
use Rattle.eris_words.specs.declared.line_fault.LineFault.{LineFault}
use Rattle.eris_words.specs.declared.line_fault.LineFault.TheVariants as fault
use Rattle.eris_words.specs.declared.reason.Reason.{Reason}
use Rattle.eris_words.specs.Forms.{◌>>=◌, Refuses, more, next_item}
use Rattle.eris_grammar.specs.PlanForms.{all_clauses, clause_form, guards_in, settings_in}
use Rattle.eris_grammar.proofs.ClauseLaws.{is_clause}
use Rattle.eris_words.proofs.FormLaws.{next_takes, none_more, one_more}

abbrev Rows : Type 0
Rows = List Guard × List Setting

-- what was read before, and what is still read
abbrev pub with_rows : Rows → Result Rows Reason → Result Rows Reason
with_rows front read = read >>= λ rows. Ok (front.0 ++ rows.0, front.1 ++ rows.1)

abbrev parted : List Clause → Result Rows Reason
parted clauses = Ok (guards_in clauses, settings_in clauses)

guards_of_more : (x : Clause) (clauses : List Clause) → guards_in (x ∷ clauses) ≡ guards_in (x ∷ []) ++ guards_in clauses
guards_of_more (clause.Guard g) clauses = refl
guards_of_more (clause.Setting s) clauses = refl

settings_of_more : (x : Clause) (clauses : List Clause) → settings_in (x ∷ clauses) ≡ settings_in (x ∷ []) ++ settings_in clauses
settings_of_more (clause.Guard g) clauses = refl
settings_of_more (clause.Setting s) clauses = refl

abbrev both_rows : List Guard → List Setting → Result Rows Reason
both_rows guards settings = Ok (guards, settings)

ok_rows : {a b : List Guard} {c d : List Setting} → a ≡ b → c ≡ d → both_rows a c ≡ both_rows b d
ok_rows {a} {b} {c} {d} left right = ap (λ (z : List Guard). Ok (z, c)) left ∙ ap (λ (z : List Setting). Ok (b, z)) right

regrouped : (front : Rows) (x : Clause) (read : Result (List Clause) Reason) →
    with_rows front (◌>>=◌ {B = Rows} (◌>>=◌ {B = List Clause} read (λ xs. Ok (x ∷ xs))) parted)
    ≡ with_rows (front.0 ++ guards_in (x ∷ []), front.1 ++ settings_in (x ∷ [])) (◌>>=◌ {B = Rows} read parted)
regrouped front x (Ok clauses) = ok_rows
    (ap (λ (z : List Guard). front.0 ++ z) (guards_of_more x clauses) ∙ sym (append_assoc front.0 (guards_in (x ∷ [])) (guards_in clauses)))
    (ap (λ (z : List Setting). front.1 ++ z) (settings_of_more x clauses) ∙ sym (append_assoc front.1 (settings_in (x ∷ [])) (settings_in clauses)))
regrouped front x (Err why) = refl

pub clause_goes_on : (version : ℕ) (guards : List Guard) (settings : List Setting) (words after : List (List ℕ)) (x : Clause) (total : Result Rows Reason) →
    next_item (clause_form version) words ≡ Ok (x, after) → with_rows (guards, settings) (all_clauses version words) ≡ total →
    with_rows (guards ++ guards_in (x ∷ []), settings ++ settings_in (x ∷ [])) (all_clauses version after) ≡ total
unfolding all_clauses
clause_goes_on version guards settings words after x total read so_far =
    sym (regrouped (guards, settings) x (more (clause_form version) after))
    ∙ ap (λ r. with_rows (guards, settings) (r >>= parted)) (sym (one_more (clause_form version) (is_clause version) words after x read))
    ∙ so_far

pub clause_refused : (version : ℕ) (front : Rows) (words : List (List ℕ)) (stop : LineFault) (total : Result Rows Reason) → (length words == 0) ≡ false →
    Refuses stop (next_item (clause_form version) words) → with_rows front (all_clauses version words) ≡ total → Refuses stop total
unfolding all_clauses
clause_refused version front words (fault.Bad why) total some refused so_far =
    sym so_far ∙ ap (λ r. with_rows front (r >>= parted)) (none_more (clause_form version) (is_clause version) words why some refused)
clause_refused version front words fault.NoMemory total some refused so_far = tt

pub clauses_end : (version : ℕ) (guards : List Guard) (settings : List Setting) (words : List (List ℕ)) (total : Result Rows Reason) → length words ≡ 0 →
    with_rows (guards, settings) (all_clauses version words) ≡ total → total ≡ Ok (guards, settings)
unfolding all_clauses
clauses_end version guards settings [] total none so_far = sym so_far ∙ ok_rows (append-nil guards) (append-nil settings)
clauses_end version guards settings (word ∷ words) total none so_far = absurd (omega arith)

pub clause_shorter : (version : ℕ) (words after : List (List ℕ)) (x : Clause) → next_item (clause_form version) words ≡ Ok (x, after) → length after < length words
clause_shorter version words after x read = (next_takes (clause_form version) (is_clause version) words x after read).fewer
