-- There is a greatest closed cut: of all cuts, which are finitely many, the closed ones have a greatest one.
use Rattle.std.proofs.Common.{◌≡◌, ◌≤◌, ◌⊎◌, inl, inr, ℕ, zero, suc, List, [], ◌∷◌, ◌++◌, length, map, get_or, refl, ap, sym, ◌∙◌, subst, arith}
use Rattle.std.proofs.lemmas.Bool.{cases_lt}
use Rattle.std.specs.List.{flat_map}
use Rattle.eris_base.specs.declared.ids.ShardId.{ShardId}
use Rattle.eris_txn.specs.declared.packet.Packet.{Packet}
use Rattle.eris_cut.specs.Cuts.{IsClosed, IsGreatest, greater, length_of, zeros}
use Rattle.eris_cut.proofs.Decided.{OrNot, closed_told}
use Rattle.eris_cut.proofs.Greatest.{greater_closed, zeros_closed}
use Rattle.eris_cut.proofs.Lengths.{greater_takes_one}

abbrev In : List ℕ → List (List ℕ) → Type 0
In cut [] = ⊥
In cut (other ∷ cuts) = (other ≡ cut) ⊎ In cut cuts

in_left : (cut : List ℕ) (some others : List (List ℕ)) → In cut some → In cut (some ++ others)
in_left cut [] others there = absurd there
in_left cut (other ∷ some) others (inl is) = inl is
in_left cut (other ∷ some) others (inr there) = inr (in_left cut some others there)

in_right : (cut : List ℕ) (some others : List (List ℕ)) → In cut others → In cut (some ++ others)
in_right cut [] others there = there
in_right cut (other ∷ some) others there = inr (in_right cut some others there)

in_flat : (f : List ℕ → List (List ℕ)) (rest cut : List ℕ) (cuts : List (List ℕ)) → In rest cuts → In cut (f rest) → In cut (flat_map f cuts)
in_flat f rest cut [] there made = absurd there
in_flat f rest cut (other ∷ cuts) (inl is) made = in_left cut (f other) (flat_map f cuts) (subst (λ (r : List ℕ). In cut (f r)) (sym is) made)
in_flat f rest cut (other ∷ cuts) (inr there) made = in_right cut (f other) (flat_map f cuts) (in_flat f rest cut cuts there made)

-- the cuts that take at most so much
abbrev heads : ℕ → List ℕ → List (List ℕ)
heads zero rest = (0 ∷ rest) ∷ []
heads (suc n) rest = (suc n ∷ rest) ∷ heads n rest

abbrev cuts_upto : List ℕ → List (List ℕ)
cuts_upto [] = [] ∷ []
cuts_upto (n ∷ bounds) = flat_map (heads n) (cuts_upto bounds)

in_heads : (n k : ℕ) (rest : List ℕ) → k ≤ n → In (k ∷ rest) (heads n rest)
in_heads zero k rest less = let is : 0 ≡ k = omega (arith, less) in inl (ap (λ (m : ℕ). m ∷ rest) is)
in_heads (suc n) k rest less = elim (cases_lt n k) [
  | inl last ↦ (let is : suc n ≡ k = omega (arith, less, last) in inl (ap (λ (m : ℕ). m ∷ rest) is))
  | inr lower ↦ inr (in_heads n k rest lower)
]

all_in : (bounds cut : List ℕ) → length cut ≡ length bounds → ((i : ℕ) → get_or cut i 0 ≤ get_or bounds i 0) → In cut (cuts_upto bounds)
all_in [] [] same inside = inl refl
all_in [] (k ∷ cut) same inside = absurd (omega (arith, same))
all_in (n ∷ bounds) [] same inside = absurd (omega (arith, same))
all_in (n ∷ bounds) (k ∷ cut) same inside =
    in_flat (heads n) cut (k ∷ cut) (cuts_upto bounds) (all_in bounds cut (omega (arith, same)) (λ i. inside (suc i))) (in_heads n k cut (inside 0))

sizes_at : (logs : List (List Packet)) (i : ℕ) → get_or (map (λ log. length log) logs) i 0 ≡ length (get_or logs i [])
sizes_at [] i = refl
sizes_at (log ∷ logs) zero = refl
sizes_at (log ∷ logs) (suc i) = sizes_at logs i

length_sizes : (logs : List (List Packet)) → length (map (λ log. length log) logs) ≡ length logs
length_sizes [] = refl
length_sizes (log ∷ logs) = ap (λ n. suc n) (length_sizes logs)

module _ (logs : List (List Packet)) where
  -- a closed cut above all closed ones of some
  record IsTop (cuts : List (List ℕ)) : Type 0 where
    lengths : List ℕ
    closed : IsClosed logs lengths
    above : (others : List ℕ) → In others cuts → IsClosed logs others → (shard : ShardId) → length_of others shard ≤ length_of lengths shard

  top_of : (cuts : List (List ℕ)) → IsTop cuts
  top_of [] = record { lengths = zeros logs; closed = zeros_closed logs; above = λ others there. absurd there }
  top_of (cut ∷ cuts) = by_closed (closed_told logs cut) (top_of cuts)
    where
      by_closed : OrNot (IsClosed logs cut) → IsTop cuts → IsTop (cut ∷ cuts)
      by_closed (inl is) top = record {
        lengths = greater cut top.lengths;
        closed = greater_closed logs cut top.lengths is top.closed;
        above = above_both;
      }
        where
          above_both : (others : List ℕ) → In others (cut ∷ cuts) → IsClosed logs others → (shard : ShardId) → length_of others shard ≤ length_of (greater cut top.lengths) shard
          above_both others (inl same) closed shard =
              subst (λ (one : List ℕ). length_of one shard ≤ length_of (greater cut top.lengths) shard) same (greater_takes_one cut top.lengths shard).mine_least
          above_both others (inr there) closed shard =
              let low = top.above others there closed shard in
              let high = (greater_takes_one cut top.lengths shard).yours_least in
              omega (arith, low, high)
      by_closed (inr not_closed) top = record { lengths = top.lengths; closed = top.closed; above = above_rest }
        where
          above_rest : (others : List ℕ) → In others (cut ∷ cuts) → IsClosed logs others → (shard : ShardId) → length_of others shard ≤ length_of top.lengths shard
          above_rest others (inl same) closed shard = absurd (not_closed (subst (IsClosed logs) (sym same) closed))
          above_rest others (inr there) closed shard = top.above others there closed shard

  top : IsTop (cuts_upto (map (λ log. length log) logs))
  top = top_of (cuts_upto (map (λ log. length log) logs))

  -- THERE IS ONE
  pub greatest_there : (lengths : List ℕ) × IsGreatest logs lengths
  greatest_there = (
    top.lengths,
    record {
      closed = top.closed;
      greatest = λ others closed shard. top.above others
          (all_in (map (λ log. length log) logs) others (closed.one_each ∙ sym (length_sizes logs))
          (λ i. let inside = closed.within (record { 0 = i }) in let size = sizes_at logs i in omega (arith, inside, size))) closed shard;
    },
  )
