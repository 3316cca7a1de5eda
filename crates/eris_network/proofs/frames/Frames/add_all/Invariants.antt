use Rattle.std.proofs.Common.{◌≡◌, ◌≤◌, ◌++◌, take}
use Rattle.eris_rules.specs.Refusals.{frame_sizes}
use Rattle.eris_network.proofs.frames.Frames.add_all.Given as goal

abbrev pub invariant-loop-one : goal.invariant-loop-one
invariant-loop-one l = (l.self ≡ l.initial.self ++ take l.one-index l.sends) × (frame_sizes l.self ≤ l.fn.room)
