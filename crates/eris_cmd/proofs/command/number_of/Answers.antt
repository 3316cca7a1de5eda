use Rattle.std.proofs.Common.{◌≡◌, ◌≤◌, ℕ, sym, subst}
use Rattle.eris_cmd.proofs.Drills.{number_reads, read_back}
use Rattle.eris_cmd.proofs.command.number_of.Goals as goal

pub returns-in-Some-clause-some : goal.returns-in-Some-clause-some
returns-in-Some-clause-some c = number_reads _ _ _ (sym c.in-Some.ensures) c.new.ensures.some

pub returns-in-Some-clause-none : goal.returns-in-Some-clause-none
returns-in-Some-clause-none c = λ none number is.
    let back = read_back _ number is in
    let read = c.in-Some.ensures in
    let same : number ≡ c.in-Some.number = cc in
    c.new.ensures.none none (subst (λ (n : ℕ). 1 ≤ n) same is.some) (subst (λ (n : ℕ). n ≤ 500) same is.few)

pub returns-in-None-clause-none : goal.returns-in-None-clause-none
returns-in-None-clause-none c = λ _ number is.
    let back = read_back _ number is in
    let read = c.in-None.ensures in
    cc
