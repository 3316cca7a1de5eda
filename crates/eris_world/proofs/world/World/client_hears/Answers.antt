use Rattle.std.proofs.Common.{◌≡◌, false, ap, ◌∙◌}
use Rattle.eris_network.specs.Networks.{NetworkValue}
use Rattle.eris_world.specs.contracts.world.World.{the_view}
use Rattle.eris_world.specs.WorldValues.{WorldValue}
use Rattle.eris_nodes.specs.ClientRows.{clients_act}
use Rattle.eris_rules.specs.Clients.{client_step}
use Rattle.eris_world.proofs.Steps.{client_err, client_ok, has_bytes, spelled_at}
use Rattle.eris_world.proofs.world.World.client_hears.Goals as goal

pub unreachable-requires : goal.unreachable-requires
unreachable-requires c = has_bytes (the_view c.self.inside) c.args.self.now c.self.view_is c.args.number c.requires.sent c.in-None.ensures

pub returns-in-Err-send-clause-err : goal.returns-in-Err-send-clause-err
returns-in-Err-send-clause-err c =
    let unspent : c.self.inside.spent ≡ false = ap (λ (v : WorldValue). v.spent) c.self.view_is ∙ c.requires.unspent in
    let whole = c.self.invariant unspent in
    λ one is. client_err (the_view c.self.inside) c.args.self.now c.self.view_is c.args.client (λ me state. client_step me state one.message) c.receive.new.self.states c.in-Ok.told.0 c.as_slice.result.now c.in-Ok.told.1 c.in-Err-send.fault
    (c.in-Ok.ensures.message one.message (spelled_at (the_view c.self.inside) c.args.self.now c.self.view_is c.args.number c.in-Some.bytes.now one c.in-Some.ensures is)
    ∙ ap (λ z. clients_act z c.self.inside.clients.states c.args.client (λ me state. client_step me state one.message)) whole.of_clients.of_config) c.as_slice.ensures c.in-Err-send.ensures.err

pub returns-clause-ok : goal.returns-clause-ok
returns-clause-ok c =
    let unspent : c.self.inside.spent ≡ false = ap (λ (v : WorldValue). v.spent) c.self.view_is ∙ c.requires.unspent in
    let whole = c.self.invariant unspent in
    λ one is. client_ok (the_view c.self.inside) c.args.self.now c.self.view_is c.args.client (λ me state. client_step me state one.message) c.receive.new.self.states c.note.new.history c.in-Ok.told.0 c.as_slice.result.now c.send.new.self.sent c.in-Ok.told.1 c.send.new.self.waiting
    c.requires.unspent
    (c.in-Ok.ensures.message one.message (spelled_at (the_view c.self.inside) c.args.self.now c.self.view_is c.args.number c.in-Some.bytes.now one c.in-Some.ensures is)
    ∙ ap (λ z. clients_act z c.self.inside.clients.states c.args.client (λ me state. client_step me state one.message)) whole.of_clients.of_config) c.as_slice.ensures c.in-Ok-note.ensures
    (ap (λ (n : NetworkValue). n.sent) c.in-Ok-send.ensures.ok) (ap (λ (n : NetworkValue). n.waiting) c.in-Ok-send.ensures.ok) c.in-Ok-send.ensures.room
