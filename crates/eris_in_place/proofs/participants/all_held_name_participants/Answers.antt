use Rattle.std.proofs.Common.{ℕ, sym, ◌∙◌}
use Rattle.std.proofs.lemmas.List.Folds.{list_all-map}
use Rattle.eris_txn.specs.declared.packet.Packet.{Packet}
use Rattle.eris_rules.specs.InPlace.{names_participants, all_name_participants}
use Rattle.eris_in_place.proofs.participants.all_held_name_participants.Goals as goal

pub returns : goal.returns
unfolding all_name_participants
returns c = c.each_held_names_participants.ensures ∙ sym (list_all-map (λ (packet : Packet). names_participants packet) (λ (pair : ℕ × Packet). pair.1) c.args.held.now)
