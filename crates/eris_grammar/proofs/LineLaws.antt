-- A line is read as just what it spells.
use Rattle.std.proofs.Common.{◌≡◌, ℕ, ◌-◌, ◌^◌, ◌<◌, true, ◌&&◌, nat_le, codes, Option, Some, None, Ok, List, [], ◌∷◌, ◌++◌, refl, ap, subst, ◌∙◌, arith}
use Rattle.std.proofs.lemmas.Bool.{and_from, leb-true, le-leb}
use Rattle.eris_base.specs.declared.ids.ClientId.{ClientId}
use Rattle.eris_base.specs.declared.ids.Epoch.{Epoch}
use Rattle.eris_base.specs.declared.ids.Node.{Node}
use Rattle.eris_base.specs.declared.ids.ReplicaId.{ReplicaId}
use Rattle.eris_base.specs.declared.ids.ShardId.{ShardId}
use Rattle.eris_base.specs.declared.ids.TxnId.{TxnId}
use Rattle.eris_txn.specs.declared.op.Op.{Op}
use Rattle.eris_txn.specs.PlanValues.{PlanValue}
use Rattle.eris_event.specs.declared.event.Event.{Event}
use Rattle.eris_event.specs.declared.event.Event.TheVariants as event
use Rattle.eris_words.specs.Decimal.{decimal}
use Rattle.eris_grammar.specs.EventText.{epoch_words, node_words}
use Rattle.eris_grammar.specs.Fields.{client, count, hex, hex_word, number, pair_words, replica, two_numbers, txn}
use Rattle.eris_words.specs.Forms.{◌>>=◌, pair, whole}
use Rattle.eris_grammar.specs.LineForms.{abort_of, at_replica, deliver_of, epoch, epoch_of, general_of, node_form, noise_of, retry_of, submit_of}
use Rattle.eris_event.specs.EventRanges.{fits_node, are_ops, is_plan, fits_count, fits_client, fits_txn, fits_replica, are_noise}
use Rattle.eris_grammar.specs.OpForms.{ops_of}
use Rattle.eris_words.specs.OpText.{ops_words}
use Rattle.eris_grammar.specs.PlanForms.{plan_of}
use Rattle.eris_grammar.specs.Spelling.{Says, SaysTimes, SpellsPlan}
use Rattle.eris_grammar.proofs.FieldLaws.{is_client, is_count, is_replica, is_txn}
use Rattle.eris_words.proofs.FormLaws.{bind_ok, is_pair, ok_is, whole_again, whole_takes}
use Rattle.eris_grammar.proofs.HexLaws.{is_hex}
use Rattle.eris_grammar.proofs.NodeLaws.{is_epoch, is_node}
use Rattle.eris_grammar.proofs.OpListLaws.{ops_again, ops_take}
use Rattle.eris_grammar.proofs.PlanLaws.{plan_again, plan_take}

-- EACH KIND OF LINE, BEHIND ITS FIRST WORD

pub submit_takes : (version : ℕ) (words : List (List ℕ)) (e : Event) → submit_of version words ≡ Ok e → Says version (codes "submit" ∷ words) e
unfolding submit_of client number
submit_takes version words e read =
    let a = bind_ok (client.read words) (λ c. ops_of version c.1 >>= λ ops. Ok (event.Submit c.0 ops)) e read in
    let b = bind_ok (ops_of version a.0.1) (λ ops. Ok (event.Submit a.0.0 ops)) e a.2 in
    let t = is_client.takes words a.0.0 a.0.1 a.1 in
    let u = ops_take version a.0.1 b.0 b.1 in
    let made : Says version (codes "submit" ∷ words) (event.Submit a.0.0 b.0) = record {
      spelled = ap (λ (z : List (List ℕ)). codes "submit" ∷ z) (t.parts ∙ ap (λ (z : List (List ℕ)). decimal a.0.0.0 ∷ z) u.parts);
      fits = and_from (fits_client a.0.0) (are_ops version b.0) t.fits u.fits;
    } in
    subst (λ (z : Event). Says version (codes "submit" ∷ words) z) (ok_is (event.Submit a.0.0 b.0) e b.2) made

pub submit_again : (version : ℕ) (c : ClientId) (ops : List Op) → fits_client c ≡ true → are_ops version ops ≡ true →
    submit_of version (decimal c.0 ∷ ops_words ops) ≡ Ok (event.Submit c ops)
unfolding submit_of client number
submit_again version c ops fine all =
    ap (λ r. r >>= λ c. ops_of version c.1 >>= λ ops. Ok (event.Submit c.0 ops)) (is_client.again c (ops_words ops) fine)
    ∙ ap (λ r. r >>= λ ops. Ok (event.Submit c ops)) (ops_again version ops all)

pub general_takes : (version : ℕ) (words : List (List ℕ)) (e : Event) → general_of version words ≡ Ok e → Says version (codes "general" ∷ words) e
unfolding general_of client number
general_takes version words e read =
    let a = bind_ok (client.read words) (λ c. plan_of version c.1 >>= λ plan. Ok (event.General c.0 plan)) e read in
    let b = bind_ok (plan_of version a.0.1) (λ plan. Ok (event.General a.0.0 plan)) e a.2 in
    let t = is_client.takes words a.0.0 a.0.1 a.1 in
    let u = plan_take version a.0.1 b.0 b.1 in
    let made : Says version (codes "general" ∷ words) (event.General a.0.0 b.0) = record {
      spelled = record { behind = a.0.1; spelled = ap (λ (z : List (List ℕ)). codes "general" ∷ z) t.parts; planned = u.spelled };
      fits = and_from (fits_client a.0.0) (is_plan version b.0) t.fits u.fits;
    } in
    subst (λ (z : Event). Says version (codes "general" ∷ words) z) (ok_is (event.General a.0.0 b.0) e b.2) made

pub general_again : (version : ℕ) (c : ClientId) (behind : List (List ℕ)) (plan : PlanValue) → fits_client c ≡ true → SpellsPlan behind plan → is_plan version plan ≡ true →
    general_of version (decimal c.0 ∷ behind) ≡ Ok (event.General c plan)
unfolding general_of client number
general_again version c behind plan fine says sound =
    ap (λ r. r >>= λ c. plan_of version c.1 >>= λ plan. Ok (event.General c.0 plan)) (is_client.again c behind fine)
    ∙ ap (λ r. r >>= λ plan. Ok (event.General c plan)) (plan_again version behind plan says sound)

pub retry_takes : (version : ℕ) (words : List (List ℕ)) (e : Event) → retry_of version words ≡ Ok e → Says version (codes "retry" ∷ words) e
unfolding retry_of txn two_numbers
retry_takes version words e read =
    let a = bind_ok (whole (txn version) words) (λ id. Ok (event.Retry id.client id.number)) e read in
    let t = whole_takes (txn version) (is_txn version) words a.0 a.1 in
    let made : Says version (codes "retry" ∷ words) (event.Retry a.0.client a.0.number) = record {
      spelled = ap (λ (z : List (List ℕ)). codes "retry" ∷ z) t.0;
      fits = t.1;
    } in
    subst (λ (z : Event). Says version (codes "retry" ∷ words) z) (ok_is (event.Retry a.0.client a.0.number) e a.2) made

pub retry_again : (version : ℕ) (id : TxnId) → fits_txn id ≡ true → retry_of version (pair_words version id.client.0 id.number) ≡ Ok (event.Retry id.client id.number)
unfolding retry_of txn two_numbers
retry_again version id fine = ap (λ r. r >>= λ id. Ok (event.Retry id.client id.number)) (whole_again (txn version) (is_txn version) id fine)

pub abort_takes : (version : ℕ) (words : List (List ℕ)) (e : Event) → abort_of version words ≡ Ok e → Says version (codes "abort" ∷ words) e
unfolding abort_of txn two_numbers client number
abort_takes version words e read =
    let a = bind_ok (whole (pair client (txn version)) words) (λ asked. Ok (event.Abort asked.0 asked.1)) e read in
    let t = whole_takes (pair client (txn version)) (is_pair client (txn version) is_client (is_txn version)) words a.0 a.1 in
    let made : Says version (codes "abort" ∷ words) (event.Abort a.0.0 a.0.1) = record {
      spelled = ap (λ (z : List (List ℕ)). codes "abort" ∷ z) t.0;
      fits = t.1;
    } in
    subst (λ (z : Event). Says version (codes "abort" ∷ words) z) (ok_is (event.Abort a.0.0 a.0.1) e a.2) made

pub abort_again : (version : ℕ) (asker : ClientId) (id : TxnId) → (fits_client asker && fits_txn id) ≡ true →
    abort_of version (decimal asker.0 ∷ pair_words version id.client.0 id.number) ≡ Ok (event.Abort asker id)
unfolding abort_of txn two_numbers client number
abort_again version asker id fine =
    ap (λ r. r >>= λ asked. Ok (event.Abort asked.0 asked.1)) (whole_again (pair client (txn version)) (is_pair client (txn version) is_client (is_txn version)) (asker, id) fine)

pub deliver_takes : (version : ℕ) (words : List (List ℕ)) (e : Event) → deliver_of words ≡ Ok e → Says version (codes "deliver" ∷ words) e
unfolding deliver_of count epoch number
deliver_takes version words e read =
    let a = bind_ok (count.read words) (λ packet. epoch_of packet.1 >>= λ e. Ok (event.Deliver packet.0 e)) e read in
    let b = bind_ok (epoch_of a.0.1) (λ e. Ok (event.Deliver a.0.0 e)) e a.2 in
    let t = is_count.takes words a.0.0 a.0.1 a.1 in
    subst (λ (z : Event). Says version (codes "deliver" ∷ words) z) (ok_is (event.Deliver a.0.0 b.0) e b.2)
    (of_epoch a.0.0 a.0.1 b.0 t.parts t.fits b.1)
  where
    of_epoch : (packet : ℕ) (rest : List (List ℕ)) (named : Option Epoch) → words ≡ decimal packet ∷ rest → nat_le packet (2 ^ 32 - 1) ≡ true → epoch_of rest ≡ Ok named →
        Says version (codes "deliver" ∷ words) (event.Deliver packet named)
    of_epoch packet [] named parts fine found =
        subst (λ (z : Option Epoch). Says version (codes "deliver" ∷ words) (event.Deliver packet z)) (ok_is None named found)
        (record { spelled = ap (λ (z : List (List ℕ)). codes "deliver" ∷ z) parts; fits = fine })
    of_epoch packet (word ∷ rest) named parts fine found =
        let a = bind_ok (whole epoch (word ∷ rest)) (λ e. Ok (Some e)) named found in
        let t = whole_takes epoch is_epoch (word ∷ rest) a.0 a.1 in
        subst (λ (z : Option Epoch). Says version (codes "deliver" ∷ words) (event.Deliver packet z)) (ok_is (Some a.0) named a.2)
        (record {
          spelled = ap (λ (z : List (List ℕ)). codes "deliver" ∷ z) (parts ∙ ap (λ (z : List (List ℕ)). decimal packet ∷ z) t.0);
          fits = and_from (nat_le packet (2 ^ 32 - 1)) (fits_count a.0.0) fine t.1;
        })

pub deliver_again : (packet : ℕ) (named : Option Epoch) → fits_count packet ≡ true → (e : (epoch : Epoch) → named ≡ Some epoch → fits_count epoch.0 ≡ true) →
    deliver_of (decimal packet ∷ epoch_words named) ≡ Ok (event.Deliver packet named)
unfolding deliver_of count epoch number
deliver_again packet None fine e = ap (λ r. r >>= λ packet. epoch_of packet.1 >>= λ e. Ok (event.Deliver packet.0 e)) (is_count.again packet [] fine)
deliver_again packet (Some named) fine e =
    ap (λ r. r >>= λ packet. epoch_of packet.1 >>= λ e. Ok (event.Deliver packet.0 e)) (is_count.again packet (decimal named.0 ∷ []) fine)
    ∙ ap (λ r. r >>= (λ e. Ok (Some e)) >>= λ e. Ok (event.Deliver packet e)) (whole_again epoch is_epoch named (e named refl))

-- a line of a replica
pub at_takes : (version : ℕ) (made : ShardId → ReplicaId → Event) (words : List (List ℕ)) (e : Event) (Goal : Event → Type 0) →
    ((s : ShardId) (r : ReplicaId) → words ≡ pair_words version s.0 r.0 → fits_replica s r ≡ true → Goal (made s r)) →
    at_replica made version words ≡ Ok e → Goal e
unfolding replica two_numbers
at_takes version made words e Goal goes read =
    let a = bind_ok (whole (replica version) words) (λ r. Ok (made r.0 r.1)) e read in
    let t = whole_takes (replica version) (is_replica version) words a.0 a.1 in
    subst Goal (ok_is (made a.0.0 a.0.1) e a.2) (goes a.0.0 a.0.1 t.0 t.1)

pub at_again : (version : ℕ) (made : ShardId → ReplicaId → Event) (s : ShardId) (r : ReplicaId) → fits_replica s r ≡ true →
    at_replica made version (pair_words version s.0 r.0) ≡ Ok (made s r)
unfolding replica two_numbers
at_again version made s r fine = ap (λ read. read >>= λ r. Ok (made r.0 r.1)) (whole_again (replica version) (is_replica version) (s, r) fine)

pub noise_takes : (version : ℕ) (words : List (List ℕ)) (e : Event) → noise_of version words ≡ Ok e → Says version (codes "noise" ∷ words) e
unfolding noise_of node_form hex
noise_takes version words e read =
    let a = bind_ok (whole (pair (node_form version) hex) words) (λ noise. Ok (event.Noise noise.0 noise.1)) e read in
    let t = whole_takes (pair (node_form version) hex) (is_pair (node_form version) hex (is_node version) is_hex) words a.0 a.1 in
    let made : Says version (codes "noise" ∷ words) (event.Noise a.0.0 a.0.1) = record {
      spelled = ap (λ (z : List (List ℕ)). codes "noise" ∷ z) t.0;
      fits = t.1;
    } in
    subst (λ (z : Event). Says version (codes "noise" ∷ words) z) (ok_is (event.Noise a.0.0 a.0.1) e a.2) made

pub noise_again : (version : ℕ) (to : Node) (bytes : List ℕ) → (fits_node to && are_noise bytes) ≡ true →
    noise_of version (node_words version to ++ hex_word bytes ∷ []) ≡ Ok (event.Noise to bytes)
unfolding noise_of node_form hex
noise_again version to bytes fine =
    ap (λ r. r >>= λ noise. Ok (event.Noise noise.0 noise.1)) (whole_again (pair (node_form version) hex) (is_pair (node_form version) hex (is_node version) is_hex) (to, bytes) fine)

-- a line with a count
pub times_take : (words : List (List ℕ)) (text : List ℕ) (n : ℕ) → whole count words ≡ Ok n → SaysTimes (text ∷ words) text n
unfolding count number
times_take words text n read =
    let t = whole_takes count is_count words n read in
    let few = leb-true n (2 ^ 32 - 1) t.1 in
    record { spelled = ap (λ (z : List (List ℕ)). text ∷ z) t.0; fits = omega arith }

pub times_again : (n : ℕ) → n < 2 ^ 32 → whole count (decimal n ∷ []) ≡ Ok n
unfolding count number
times_again n few = whole_again count is_count n (le-leb n (2 ^ 32 - 1) (omega arith))
