use Rattle.std.proofs.Common.{◌≡◌, take}
use Rattle.std.specs.List.{flat_map}
use Rattle.eris_msg.specs.declared.message.Message.{Message}
use Rattle.eris_rules.specs.Coordinators.{tell_all}
use Rattle.eris_coord.proofs.sends.request_all.Given as goal

abbrev pub invariant-loop-place : goal.invariant-loop-place
invariant-loop-place l = l.sends ≡ flat_map (λ place. tell_all l.config (Message.Request place)) (take l.place-index l.places)
