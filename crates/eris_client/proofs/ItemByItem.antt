-- An answer over many shards, item by item, is the one in which each shard in turn gives the next of its own. Used
-- where answers are assembled.
use Rattle.std.proofs.Common.{◌≡◌, ℕ, suc, zero, ◌+◌, ◌<◌, ◌≤◌, Bool, true, false, cond, ◌||◌, ◌==◌, Option, Some, None, List, [], ◌∷◌, ◌++◌, length, map, take, drop, get_or, slice_get, refl, ap, sym, ◌∙◌, add-one, add-zero}
use Rattle.std.specs.List.{cons_option, list_any}
use Rattle.std.proofs.lemmas.List.Sums.{sum_by_push}
use Rattle.std.proofs.lemmas.List.{append-nil, append_assoc}
use Rattle.std.proofs.Math.ListN.{drop_of_length-le}
use Rattle.std.specs.Option.{option_to_list}
use Rattle.std.proofs.Math.Seq.{drop-cons, take-suc}
use Rattle.eris_base.specs.declared.ids.ShardId.{ShardId}
use Rattle.eris_base.proofs.Booleans.{number_turned}
use Rattle.eris_base.proofs.IdLaws.{shard_by_test}
use Rattle.eris_txn.specs.declared.answer.Answer.{Answer}
use Rattle.eris_rules.specs.Assembling.{assemble, with_rest}
use Rattle.eris_client.specs.Assembled.{assembled, count_of}

abbrev first_of : {A : Type 0} → List A → Option A
first_of [] = None
first_of (item ∷ items) = Some item

abbrev rest_of : {A : Type 0} → List A → List A
rest_of [] = []
rest_of (item ∷ items) = items

got_first : {A : Type 0} (items : List A) (n : ℕ) → slice_get items n ≡ first_of (drop n items)
got_first [] zero = refl
got_first [] (suc n) = refl
got_first (item ∷ items) zero = refl
got_first (item ∷ items) (suc n) = got_first items n

drop_more : {A : Type 0} (items : List A) (n : ℕ) → drop (suc n) items ≡ rest_of (drop n items)
drop_more [] zero = refl
drop_more [] (suc n) = refl
drop_more (item ∷ items) zero = refl
drop_more (item ∷ items) (suc n) = drop_more items n

count_more : (before : List ShardId) (shard other : ShardId) → count_of (before ++ shard ∷ []) other ≡ count_of before other + cond (shard.0 == other.0) 1 0
count_more before shard other = sum_by_push (λ (one : ShardId). cond (one.0 == other.0) 1 0) before shard

module _ {A : Type 0} (lists : ShardId → List A) where
  -- what each shard has left after these
  abbrev left : List ShardId → ShardId → List A
  left before = λ shard. drop (count_of before shard) (lists shard)

  left_more : (before : List ShardId) (shard other : ShardId) → left (before ++ shard ∷ []) other ≡ cond (shard.0 == other.0) (rest_of (left before other)) (left before other)
  left_more before shard other =
      ap (λ (n : ℕ). drop n (lists other)) (count_more before shard other) ∙ by_test (shard.0 == other.0)
    where
      by_test : (t : Bool) → drop (count_of before other + cond t 1 0) (lists other) ≡ cond t (rest_of (left before other)) (left before other)
      by_test true = ap (λ (n : ℕ). drop n (lists other)) (add-one (count_of before other)) ∙ drop_more (lists other) (count_of before other)
      by_test false = ap (λ (n : ℕ). drop n (lists other)) (add-zero (count_of before other))

  -- where the shard has nothing left, it still has nothing
  nothing_more : (before : List ShardId) (shard other : ShardId) → left before shard ≡ [] → left before other ≡ left (before ++ shard ∷ []) other
  nothing_more before shard other is = by_test (shard.0 == other.0) refl ∙ sym (left_more before shard other)
    where
      by_test : (t : Bool) → (shard.0 == other.0) ≡ t → left before other ≡ cond t (rest_of (left before other)) (left before other)
      by_test true same =
          let here : left before other ≡ [] = ap (left before) (sym (shard_by_test shard other same)) ∙ is in
          here ∙ sym (ap rest_of here)
      by_test false apart = refl

  -- where it gives an item, it has the rest left
  rest_more : (before : List ShardId) (shard other : ShardId) (item : A) (rest : List A) → left before shard ≡ item ∷ rest → with_rest shard rest (left before) other ≡ left (before ++ shard ∷ []) other
  rest_more before shard other item rest is =
      ap (λ (t : Bool). cond t rest (left before other)) (number_turned other.0 shard.0) ∙ by_test (shard.0 == other.0) refl ∙ sym (left_more before shard other)
    where
      by_test : (t : Bool) → (shard.0 == other.0) ≡ t → cond t rest (left before other) ≡ cond t (rest_of (left before other)) (left before other)
      by_test true same = sym (ap rest_of (ap (left before) (sym (shard_by_test shard other same)) ∙ is))
      by_test false apart = refl

  each_in_turn : (shards before : List ShardId) → assemble shards (left before) ≡ assembled before shards lists
  each_in_turn [] before = refl
  each_in_turn (shard ∷ shards) before = by_list (left before shard) refl (each_in_turn shards (before ++ shard ∷ []))
    where
      given : (items : List A) → left before shard ≡ items → slice_get (lists shard) (count_of before shard) ≡ first_of items
      given items is = got_first (lists shard) (count_of before shard) ∙ ap first_of is

      by_list : (items : List A) → left before shard ≡ items → assemble shards (left (before ++ shard ∷ [])) ≡ assembled (before ++ shard ∷ []) shards lists
          → elim items [
            | [] ↦ assemble shards (left before)
            | item ∷ rest ↦ item ∷ assemble shards (with_rest shard rest (left before))
          ] ≡ cons_option (slice_get (lists shard) (count_of before shard)) (assembled (before ++ shard ∷ []) shards lists)
      by_list [] is later =
          (λ i. assemble shards (λ other. nothing_more before shard other is i))
          ∙ later
          ∙ sym (ap (λ (found : Option A). cons_option found (assembled (before ++ shard ∷ []) shards lists)) (given [] is))
      by_list (item ∷ rest) is later =
          (λ i. item ∷ assemble shards (λ other. rest_more before shard other item rest is i))
          ∙ ap (λ (items : List A). item ∷ items) later
          ∙ sym (ap (λ (found : Option A). cons_option found (assembled (before ++ shard ∷ []) shards lists)) (given (item ∷ rest) is))

  -- ASSEMBLED ITEM BY ITEM
  pub assembled_is : (shards : List ShardId) → assembled [] shards lists ≡ assemble shards lists
  assembled_is shards = sym (each_in_turn shards [])

  -- one item more
  pub next_item : (shards : List ShardId) (at : ℕ) (shard : ShardId) → at < length shards → shard ≡ get_or shards at shard
      → assembled (take at shards) (drop at shards) lists
      ≡ cons_option (slice_get (lists shard) (count_of (take at shards) shard)) (assembled (take (at + 1) shards) (drop (at + 1) shards) lists)
  next_item shards at shard within is =
      ap (λ (left_over : List ShardId). assembled (take at shards) left_over lists) (drop-cons shards at shard within ∙ ap (λ (s : ShardId). s ∷ drop (suc at) shards) (sym is))
      ∙ ap (λ (before : List ShardId). cons_option (slice_get (lists shard) (count_of (take at shards) shard)) (assembled before (drop (suc at) shards) lists))
      (ap (λ (s : ShardId). take at shards ++ s ∷ []) is ∙ sym (take-suc shards at shard within))
      ∙ ap (λ (n : ℕ). cons_option (slice_get (lists shard) (count_of (take at shards) shard)) (assembled (take n shards) (drop n shards) lists)) (sym (add-one at))

  cons_found : (made : List A) (found : Option A) (rest : List A) → (made ++ option_to_list found) ++ rest ≡ made ++ cons_option found rest
  cons_found made None rest = ap (λ (items : List A). items ++ rest) (append-nil made)
  cons_found made (Some item) rest = append_assoc made (item ∷ []) rest

  -- A STEP of the loop over the shards
  pub step_on : (shards : List ShardId) (at next : ℕ) (shard : ShardId) (made longer : List A) (found : Option A) → at < length shards → shard ≡ get_or shards at shard
      → next ≡ count_of (take at shards) shard → found ≡ slice_get (lists shard) next → longer ≡ made ++ option_to_list found
      → made ++ assembled (take at shards) (drop at shards) lists ≡ assembled [] shards lists
      → longer ++ assembled (take (at + 1) shards) (drop (at + 1) shards) lists ≡ assembled [] shards lists
  step_on shards at next shard made longer found within is counted got added before =
      let rest : List A = assembled (take (at + 1) shards) (drop (at + 1) shards) lists in
      ap (λ (items : List A). items ++ rest) added
      ∙ cons_found made found rest
      ∙ ap (λ (one : Option A). made ++ cons_option one rest) (got ∙ ap (λ (n : ℕ). slice_get (lists shard) n) counted)
      ∙ ap (λ (items : List A). made ++ items) (sym (next_item shards at shard within is))
      ∙ before

  -- all of it, at the end
  pub at_end : (shards : List ShardId) (at : ℕ) (made : List A) → length shards ≤ at → made ++ assembled (take at shards) (drop at shards) lists ≡ assembled [] shards lists → made ≡ assemble shards lists
  at_end shards at made past all =
      sym (append-nil made)
      ∙ ap (λ (left_over : List ShardId). made ++ assembled (take at shards) left_over lists) (sym (drop_of_length-le shards past))
      ∙ all
      ∙ assembled_is shards

-- a test of the answers
pub answers_any : (test : Answer → Bool) (counted : List (ShardId × Answer)) → list_any test (map (λ pair. pair.1) counted) ≡ list_any (λ pair. test pair.1) counted
answers_any test [] = refl
answers_any test (pair ∷ counted) = ap (λ rest. test pair.1 || rest) (answers_any test counted)
