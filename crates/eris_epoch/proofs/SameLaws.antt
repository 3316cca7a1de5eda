-- What the test of two packets says.
use Rattle.std.proofs.Common.{◌≡◌, ℕ, Bool, true, false, List, [], ◌∷◌, refl, ap, sym, ◌∙◌}
use Rattle.std.proofs.lemmas.Bool.{and_parts, and_from, eq-eqb, eqb-true}
use Rattle.eris_base.specs.declared.ids.ShardId.{ShardId}
use Rattle.eris_base.specs.declared.stamp.Stamp.{Stamp}
use Rattle.eris_base.proofs.TxnIdLaws.{same_id-true, same_id-refl}
use Rattle.eris_txn.specs.declared.body.Body.{Body}
use Rattle.eris_txn.specs.declared.body.Body.TheVariants.{Independent, Prelim, Commit, Abort}
use Rattle.eris_txn.specs.declared.lock.Lock.{Lock}
use Rattle.eris_txn.specs.declared.lock.Mode.{Mode}
use Rattle.eris_txn.specs.declared.lock.Mode.TheVariants.{Shared, Exclusive}
use Rattle.eris_txn.specs.declared.op.Op.{Op}
use Rattle.eris_txn.specs.declared.op.Op.TheVariants.{Get, Put, Del, Add, Cas}
use Rattle.eris_txn.specs.declared.packet.Packet.{Packet}
use Rattle.eris_txn.specs.declared.plan.Write.{Write}
use Rattle.eris_txn.specs.Keys.{same_key}
use Rattle.eris_txn.proofs.KeyLaws.{same_key-true, same_key-refl}
use Rattle.eris_epoch.specs.SamePackets.{same_list, same_op, same_mode, same_lock, same_write, same_body, same_place_on, same_stamp, same_packet}

-- ---- the test is true for equal values alone
module _ {X : Type 0} (same : X → X → Bool) (exact : (x y : X) → same x y ≡ true → x ≡ y) (itself : (x : X) → same x x ≡ true) where
  pub same_list-true : (some others : List X) → same_list same some others ≡ true → some ≡ others
  unfolding same_list
  same_list-true [] [] h = refl
  same_list-true [] (y ∷ ys) h = cc
  same_list-true (x ∷ xs) [] h = cc
  same_list-true (x ∷ xs) (y ∷ ys) h =
      let parts = and_parts _ _ h in
      λ i. exact x y parts.0 i ∷ same_list-true xs ys parts.1 i

  pub same_list-refl : (xs : List X) → same_list same xs xs ≡ true
  unfolding same_list
  same_list-refl [] = refl
  same_list-refl (x ∷ xs) = and_from _ _ (itself x) (same_list-refl xs)

same_op-true : (some other : Op) → same_op some other ≡ true → some ≡ other
unfolding same_op
same_op-true (Get key) (Get other) h = ap Get (same_key-true key other h)
same_op-true (Put key value) (Put other new) h = let parts = and_parts _ _ h in λ i. Put (same_key-true key other parts.0 i) (eqb-true value new parts.1 i)
same_op-true (Del key) (Del other) h = ap Del (same_key-true key other h)
same_op-true (Add key value) (Add other more) h = let parts = and_parts _ _ h in λ i. Add (same_key-true key other parts.0 i) (eqb-true value more parts.1 i)
same_op-true (Cas key value new) (Cas other before after) h =
    let parts = and_parts _ _ h in
    let first = and_parts _ _ parts.0 in
    λ i. Cas (same_key-true key other first.0 i) (eqb-true value before first.1 i) (eqb-true new after parts.1 i)
same_op-true (Get key) other h = cc
same_op-true (Put key value) other h = cc
same_op-true (Del key) other h = cc
same_op-true (Add key value) other h = cc
same_op-true (Cas key value new) other h = cc

same_op-refl : (op : Op) → same_op op op ≡ true
unfolding same_op
same_op-refl (Get key) = same_key-refl key
same_op-refl (Put key value) = and_from _ _ (same_key-refl key) (eq-eqb value value refl)
same_op-refl (Del key) = same_key-refl key
same_op-refl (Add key value) = and_from _ _ (same_key-refl key) (eq-eqb value value refl)
same_op-refl (Cas key value new) = and_from _ _ (and_from _ _ (same_key-refl key) (eq-eqb value value refl)) (eq-eqb new new refl)

same_mode-true : (some other : Mode) → same_mode some other ≡ true → some ≡ other
unfolding same_mode
same_mode-true Shared Shared h = refl
same_mode-true Exclusive Exclusive h = refl
same_mode-true Shared Exclusive h = cc
same_mode-true Exclusive Shared h = cc

same_mode-refl : (mode : Mode) → same_mode mode mode ≡ true
unfolding same_mode
same_mode-refl Shared = refl
same_mode-refl Exclusive = refl

same_lock-true : (some other : Lock) → same_lock some other ≡ true → some ≡ other
unfolding same_lock
same_lock-true some other h =
    let parts = and_parts _ _ h in
    λ i. record { key = same_key-true some.key other.key parts.0 i; mode = same_mode-true some.mode other.mode parts.1 i }

same_lock-refl : (lock : Lock) → same_lock lock lock ≡ true
unfolding same_lock
same_lock-refl lock = and_from _ _ (same_key-refl lock.key) (same_mode-refl lock.mode)

same_write-true : (some other : Write) → same_write some other ≡ true → some ≡ other
unfolding same_write
same_write-true some other h =
    let parts = and_parts _ _ h in
    λ i. record { key = same_key-true some.key other.key parts.0 i; value = eqb-true some.value other.value parts.1 i }

same_write-refl : (write : Write) → same_write write write ≡ true
unfolding same_write
same_write-refl write = and_from _ _ (same_key-refl write.key) (eq-eqb write.value write.value refl)

same_body-true : (some other : Body) → same_body some other ≡ true → some ≡ other
unfolding same_body
same_body-true (Independent ops) (Independent others) h = ap Independent (same_list-true same_op same_op-true same_op-refl ops others h)
same_body-true (Prelim locks) (Prelim others) h = ap Prelim (same_list-true same_lock same_lock-true same_lock-refl locks others h)
same_body-true (Commit keys writes) (Commit others rest) h =
    let parts = and_parts _ _ h in
    λ i. Commit (same_list-true same_key same_key-true same_key-refl keys others parts.0 i) (same_list-true same_write same_write-true same_write-refl writes rest parts.1 i)
same_body-true (Abort keys) (Abort others) h = ap Abort (same_list-true same_key same_key-true same_key-refl keys others h)
same_body-true (Independent ops) other h = cc
same_body-true (Prelim locks) other h = cc
same_body-true (Commit keys writes) other h = cc
same_body-true (Abort keys) other h = cc

same_body-refl : (body : Body) → same_body body body ≡ true
unfolding same_body
same_body-refl (Independent ops) = same_list-refl same_op same_op-true same_op-refl ops
same_body-refl (Prelim locks) = same_list-refl same_lock same_lock-true same_lock-refl locks
same_body-refl (Commit keys writes) =
    and_from _ _ (same_list-refl same_key same_key-true same_key-refl keys) (same_list-refl same_write same_write-true same_write-refl writes)
same_body-refl (Abort keys) = same_list-refl same_key same_key-true same_key-refl keys

pub same_place_on-true : (some other : ShardId × ℕ) → same_place_on some other ≡ true → some ≡ other
unfolding same_place_on
same_place_on-true some other h =
    let parts = and_parts _ _ h in
    λ i. (record { 0 = eqb-true some.0.0 other.0.0 parts.0 i }, eqb-true some.1 other.1 parts.1 i)

pub same_place_on-refl : (place : ShardId × ℕ) → same_place_on place place ≡ true
unfolding same_place_on
same_place_on-refl place = and_from _ _ (eq-eqb place.0.0 place.0.0 refl) (eq-eqb place.1 place.1 refl)

pub same_stamp-true : (some other : Stamp) → same_stamp some other ≡ true → some ≡ other
unfolding same_stamp
same_stamp-true some other h =
    let parts = and_parts _ _ h in
    λ i. record {
      epoch = record { 0 = eqb-true some.epoch.0 other.epoch.0 parts.0 i };
      places = same_list-true same_place_on same_place_on-true same_place_on-refl some.places other.places parts.1 i;
    }

pub same_stamp-refl : (stamp : Stamp) → same_stamp stamp stamp ≡ true
unfolding same_stamp
same_stamp-refl stamp = and_from _ _ (eq-eqb stamp.epoch.0 stamp.epoch.0 refl) (same_list-refl same_place_on same_place_on-true same_place_on-refl stamp.places)

pub same_stamp-from : (some other : Stamp) → some ≡ other → same_stamp some other ≡ true
same_stamp-from some other equal = ap (same_stamp some) (sym equal) ∙ same_stamp-refl some

pub ruleset same_stamps = (same_stamp-true, same_stamp-from)

-- ---- packets
pub same_packet-true : (some other : Packet) → same_packet some other ≡ true → some ≡ other
unfolding same_packet
same_packet-true some other h =
    let parts = and_parts _ _ h in
    let asked = and_parts _ _ parts.0 in
    let named = and_parts _ _ asked.0 in
    λ i. record {
      stamp = same_stamp-true some.stamp other.stamp named.0 i;
      id = same_id-true some.id other.id named.1 i;
      asker = record { 0 = eqb-true some.asker.0 other.asker.0 asked.1 i };
      body = same_body-true some.body other.body parts.1 i;
    }

pub same_packet-refl : (packet : Packet) → same_packet packet packet ≡ true
unfolding same_packet
same_packet-refl packet =
    and_from _ _ (and_from _ _ (and_from _ _ (same_stamp-refl packet.stamp) (same_id-refl packet.id)) (eq-eqb packet.asker.0 packet.asker.0 refl)) (same_body-refl packet.body)

-- a test that holds exactly for equal packets is this one
pub same_packet-exact : (some other : Packet) (test : Bool) → (test ≡ true → some ≡ other) → (some ≡ other → test ≡ true) → test ≡ same_packet some other
same_packet-exact some other test there back = by_tests test (same_packet some other) refl refl
  where
    by_tests : (s t : Bool) → test ≡ s → same_packet some other ≡ t → s ≡ t
    by_tests true true e f = refl
    by_tests false false e f = refl
    by_tests true false e f = let clash = sym f ∙ ap (same_packet some) (sym (there e)) ∙ same_packet-refl some in cc
    by_tests false true e f = let clash = sym e ∙ back (same_packet-true some other f) in cc
