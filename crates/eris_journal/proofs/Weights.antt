-- A weight over all items is the sum of the nodes' weights.
use Rattle.std.proofs.Common.{◌≡◌, ◌≢◌, ℕ, zero, suc, ◌+◌, ◌<◌, ◌≤◌, eqb, Bool, true, false, cond, List, [], ◌∷◌, map, refl, sym, ap, ◌∙◌, arith, eq-eqb, ne_eqb}
use mathlib.Core.Logic.{dite}
use native.Mathlib.Decide.{ℕ_discrete}
use Rattle.eris_journal.specs.Lists.{own, NamesBelow, weigh, total}

total_none : (nodes : ℕ) → total (λ node. 0) nodes ≡ 0
total_none zero = refl
total_none (suc nodes) = let rest = total_none nodes in omega (arith, rest)

-- the same sums, but for one node's
total_same : (f g : ℕ → ℕ) (nodes : ℕ) → ((node : ℕ) → node < nodes → f node ≡ g node) → total f nodes ≡ total g nodes
total_same f g zero same = refl
total_same f g (suc nodes) same = let rest = total_same f g nodes (λ node below. same node (omega (arith, below))) in let last = same nodes (omega arith) in omega (arith, rest, last)

total_one : (f g : ℕ → ℕ) (one more nodes : ℕ) → one < nodes → f one ≡ more + g one → ((node : ℕ) → node ≢ one → f node ≡ g node) → total f nodes ≡ more + total g nodes
total_one f g one more zero below here else = absurd (omega (arith, below))
total_one f g one more (suc nodes) below here else = dite (ℕ_discrete nodes one)
    (λ (same : nodes ≡ one). let rest = total_same f g nodes (λ node low. else node (λ e. omega (arith, e, same, low))) in let last : f nodes ≡ more + g nodes = ap f same ∙ here ∙ ap (λ (n : ℕ). more + g n) (sym same) in omega (arith, rest, last))
    (λ (apart : nodes ≢ one). let rest = total_one f g one more nodes (omega (arith, below, apart)) here else in let last = else nodes apart in omega (arith, rest, last))

module _ {E : Type 0} (weight : E → ℕ) where
  weigh_first : (node : ℕ) (x : ℕ × E) (xs : List (ℕ × E)) (b : Bool) → eqb x.0 node ≡ b → weigh weight (own node (x ∷ xs)) ≡ weigh weight (cond b (x.1 ∷ own node xs) (own node xs))
  weigh_first node x xs b is = ap (λ (c : Bool). weigh weight (cond c (x.1 ∷ own node xs) (own node xs))) is

  pub weigh_by_nodes : (xs : List (ℕ × E)) (nodes : ℕ) → NamesBelow nodes xs → weigh weight (map (λ x. x.1) xs) ≡ total (λ node. weigh weight (own node xs)) nodes
  weigh_by_nodes [] nodes below = sym (total_none nodes)
  weigh_by_nodes (x ∷ xs) nodes below =
      let rest = weigh_by_nodes xs nodes below.1 in
      let all = total_one (λ (node : ℕ). weigh weight (own node (x ∷ xs))) (λ (node : ℕ). weigh weight (own node xs)) x.0 (weight x.1) nodes below.0
      (weigh_first x.0 x xs true (eq-eqb x.0 x.0 refl))
      (λ node apart. weigh_first node x xs false (ne_eqb x.0 node (λ e. apart (sym e)))) in
      omega (arith, rest, all)
