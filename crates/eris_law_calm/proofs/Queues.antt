-- THE QUEUE of what waits: the first is taken, and what is sent goes behind the last.
use Rattle.std.proofs.Common.{◌≡◌, ◌<◌, ◌+◌, ℕ, zero, suc, not, cond, ◌==◌, Some, List, [], ◌∷◌, ◌++◌, length, refl, ap, ap₂, sym, ◌∙◌, arith, append_assoc, length-append}
use Rattle.std.proofs.lemmas.Bool.{eq-eqb, ne_eqb}
use Rattle.std.specs.List.{filter, range_with_len}
use Rattle.std.specs.Prelude.{slice_get}
use Rattle.eris_msg.specs.declared.outgoing.Outgoing.{Outgoing}
use Rattle.eris_law_calm.specs.Calm.{IsQueue}

all_above : (number from many : ℕ) → number < from → filter (λ other. not (other == number)) (range_with_len from many) ≡ range_with_len from many
all_above number from zero high = refl
all_above number from (suc many) high =
    ap (λ b. cond (not b) (from ∷ filter (λ other. not (other == number)) (range_with_len (from + 1) many)) (filter (λ other. not (other == number)) (range_with_len (from + 1) many))) (ne_eqb from number (λ e. omega (arith, e)))
    ∙ ap (λ (rest : List ℕ). from ∷ rest) (all_above number (from + 1) many (omega arith))

without_first : (from many : ℕ) → filter (λ other. not (other == from)) (range_with_len from (suc many)) ≡ range_with_len (from + 1) many
without_first from many =
    ap (λ b. cond (not b) (from ∷ filter (λ other. not (other == from)) (range_with_len (from + 1) many)) (filter (λ other. not (other == from)) (range_with_len (from + 1) many))) (eq-eqb from from refl)
    ∙ all_above from (from + 1) many (omega arith)

range-append : (from some more : ℕ) → range_with_len from some ++ range_with_len (from + some) more ≡ range_with_len from (some + more)
range-append from zero more = let here : from + 0 ≡ from = omega arith in let all : 0 + more ≡ more = omega arith in ap (λ n. range_with_len n more) here ∙ ap (range_with_len from) (sym all)
range-append from (suc some) more =
    let next : from + suc some ≡ (from + 1) + some = omega arith in
    let all : suc some + more ≡ suc (some + more) = omega arith in
    ap (λ n. from ∷ (range_with_len (from + 1) some ++ range_with_len n more)) next
    ∙ ap (λ (rest : List ℕ). from ∷ rest) (range-append (from + 1) some more)
    ∙ ap (range_with_len from) (sym all)

stands_there : (done : List Outgoing) (one : Outgoing) (rest : List Outgoing) → slice_get (done ++ one ∷ rest) (length done) ≡ Some one
stands_there [] one rest = refl
stands_there (first ∷ done) one rest = stands_there done one rest

module _ (sent : List Outgoing) (waiting : List ℕ) (done : List Outgoing) where
  -- THE FIRST OF THE QUEUE
  pub first_waits : (one : Outgoing) (rest : List Outgoing) → IsQueue sent waiting done (one ∷ rest) → waiting ≡ length done ∷ range_with_len (length done + 1) (length rest)
  first_waits one rest queue = queue.waiting_is

  pub none_waits : IsQueue sent waiting done [] → waiting ≡ []
  none_waits queue = queue.waiting_is

  pub first_sent : (one : Outgoing) (rest : List Outgoing) → IsQueue sent waiting done (one ∷ rest) → slice_get sent (length done) ≡ Some one
  first_sent one rest queue = ap (λ (list : List Outgoing). slice_get list (length done)) queue.sent_is ∙ stands_there done one rest

  pub queue_next : (one : Outgoing) (rest : List Outgoing) → IsQueue sent waiting done (one ∷ rest) → IsQueue sent (filter (λ other. not (other == length done)) waiting) (done ++ one ∷ []) rest
  queue_next one rest queue = record {
    sent_is = queue.sent_is ∙ sym (append_assoc done (one ∷ []) rest);
    waiting_is =
        ap (filter (λ other. not (other == length done))) queue.waiting_is
        ∙ without_first (length done) (length rest)
        ∙ ap (λ n. range_with_len n (length rest)) (sym (length-append done (one ∷ [])));
  }

  -- MORE IS SENT
  pub queue_more : (rest sends : List Outgoing) → IsQueue sent waiting done rest → IsQueue (sent ++ sends) (waiting ++ range_with_len (length sent) (length sends)) done (rest ++ sends)
  queue_more rest sends queue = record {
    sent_is = ap (λ (list : List Outgoing). list ++ sends) queue.sent_is ∙ append_assoc done rest sends;
    waiting_is =
        ap₂ (λ (some : List ℕ) (n : ℕ). some ++ range_with_len n (length sends)) queue.waiting_is (ap length queue.sent_is ∙ length-append done rest)
        ∙ range-append (length done) (length rest) (length sends)
        ∙ ap (range_with_len (length done)) (sym (length-append rest sends));
  }
