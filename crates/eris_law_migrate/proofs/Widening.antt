-- What fits version 1 fits version 2, whose limits are wider.
use Rattle.std.proofs.Common.{◌≡◌, ℕ, ◌≤◌, ◌&&◌, Bool, true, nat_le, nat_lt, is_none, Option, Some, None, List, [], ◌∷◌, length, refl, arith, IsTrue}
use Rattle.std.proofs.lemmas.Bool.Decides.{nat_tests}
use Rattle.std.proofs.lemmas.Bool.{and_from}
use Rattle.std.specs.List.{list_all}
use Rattle.eris_base.proofs.Booleans.{left_of, right_of}
use Rattle.eris_base.specs.declared.ids.Epoch.{Epoch}
use Rattle.eris_event.specs.declared.event.Event.{Event}
use Rattle.eris_event.specs.declared.event.Event.TheVariants as event
use Rattle.eris_event.specs.EventRanges.{are_ops, fits_client, fits_event, fits_guard, fits_key, fits_op, fits_setting, fits_value, is_plan, most, number_of}
use Rattle.eris_grammar.proofs.PlanLaws.{fits_plan}
use Rattle.eris_txn.specs.declared.key.Key.{Key}
use Rattle.eris_txn.specs.declared.op.Op.{Op}
use Rattle.eris_txn.specs.declared.op.Op.TheVariants.{Get, Put, Del, Add, Cas}
use Rattle.eris_txn.specs.declared.plan.Guard.{Guard}
use Rattle.eris_txn.specs.declared.plan.Setting.{Setting}
use Rattle.eris_txn.specs.Names.{is_name}
use Rattle.eris_txn.specs.PlanFaults.{plan_fault}
use Rattle.eris_txn.specs.PlanValues.{PlanValue}

wider : (n few many : ℕ) → few ≤ many → nat_le n few ≡ true → nat_le n many ≡ true
wider n few many more fine = grind (arith, nat_tests)

key : (k : Key) → fits_key 1 k ≡ true → fits_key 2 k ≡ true
key k fine =
    and_from (nat_le k.shard.0 63) (is_name k.name) (wider k.shard.0 15 63 (omega arith) (left_of (nat_le k.shard.0 15) (is_name k.name) fine))
    (right_of (nat_le k.shard.0 15) (is_name k.name) fine)

keyed : (k : Key) (more : Bool) → (fits_key 1 k && more) ≡ true → (fits_key 2 k && more) ≡ true
keyed k more fine = and_from (fits_key 2 k) more (key k (left_of (fits_key 1 k) more fine)) (right_of (fits_key 1 k) more fine)

op : (o : Op) → fits_op 1 o ≡ true → fits_op 2 o ≡ true
op (Get k) fine = key k fine
op (Put k n) fine = keyed k (fits_value n) fine
op (Del k) fine = key k fine
op (Add k n) fine = keyed k (fits_value n) fine
op (Cas k expected n) fine = keyed k (fits_value expected && fits_value n) fine

guard : (g : Guard) → fits_guard 1 g ≡ true → fits_guard 2 g ≡ true
guard g fine = keyed g.key (fits_value g.least) fine

setting : (s : Setting) → fits_setting 1 s ≡ true → fits_setting 2 s ≡ true
setting s fine = keyed s.key (fits_value (number_of s.how)) fine

each : {X : Type 0} (one two : X → Bool) → ((x : X) → one x ≡ true → two x ≡ true) → (xs : List X) → list_all one xs ≡ true → list_all two xs ≡ true
each one two gives [] all = refl
each one two gives (x ∷ xs) all =
    and_from (two x) (list_all two xs) (gives x (left_of (one x) (list_all one xs) all)) (each one two gives xs (right_of (one x) (list_all one xs) all))

ops : (all : List Op) → are_ops 1 all ≡ true → are_ops 2 all ≡ true
ops all fine =
    let lengths = left_of (nat_lt 0 (length all) && nat_le (length all) 16) (list_all (fits_op 1) all) fine in
    and_from (nat_lt 0 (length all) && nat_le (length all) 32) (list_all (fits_op 2) all)
    (and_from (nat_lt 0 (length all)) (nat_le (length all) 32) (left_of (nat_lt 0 (length all)) (nat_le (length all) 16) lengths)
    (wider (length all) 16 32 (omega arith) (right_of (nat_lt 0 (length all)) (nat_le (length all) 16) lengths)))
    (each (fits_op 1) (fits_op 2) op all (right_of (nat_lt 0 (length all) && nat_le (length all) 16) (list_all (fits_op 1) all) fine))

plan : (p : PlanValue) → is_plan 1 p ≡ true → is_plan 2 p ≡ true
plan p fine =
    let fit = fits_plan 1 p fine in
    let keys = list_all (fits_key 2) p.keys in
    let guards = list_all (fits_guard 2) p.guards in
    let settings = list_all (fits_setting 2) p.settings in
    let few = nat_le (length p.keys) 32 in
    let few_guards = nat_le (length p.guards) 32 in
    and_from (keys && guards && settings && few && few_guards) (is_none (plan_fault p.keys p.guards p.settings))
    (and_from (keys && guards && settings && few) few_guards
    (and_from (keys && guards && settings) few
    (and_from (keys && guards) settings
    (and_from keys guards (each (fits_key 1) (fits_key 2) key p.keys fit.fit_keys) (each (fits_guard 1) (fits_guard 2) guard p.guards fit.fit_guards))
    (each (fits_setting 1) (fits_setting 2) setting p.settings fit.fit_settings))
    (wider (length p.keys) 16 32 (omega arith) fit.few_keys))
    (wider (length p.guards) 16 32 (omega arith) fit.few_guards))
    fit.sound

pub widened : (e : Event) → IsTrue (fits_event 1 e) → IsTrue (fits_event 2 e)
widened (event.Submit c all) fine = and_from (fits_client c) (are_ops 2 all) (left_of (fits_client c) (are_ops 1 all) fine) (ops all (right_of (fits_client c) (are_ops 1 all) fine))
widened (event.General c p) fine = and_from (fits_client c) (is_plan 2 p) (left_of (fits_client c) (is_plan 1 p) fine) (plan p (right_of (fits_client c) (is_plan 1 p) fine))
widened (event.Retry c number) fine = fine
widened (event.Abort asker id) fine = fine
widened (event.Deliver packet None) fine = fine
widened (event.Deliver packet (Some e)) fine = fine
widened event.Flow fine = fine
widened event.Lose fine = fine
widened (event.Probe s r) fine = fine
widened (event.Suspect s r) fine = fine
widened (event.Sync s r) fine = fine
widened (event.Crash s r) fine = fine
widened event.Nudge fine = fine
widened event.Replace fine = fine
widened (event.Noise to bytes) fine = fine
