use Rattle.std.proofs.Common.{◌≡◌, ◌++◌, take}
use Rattle.std.specs.List.{flat_map}
use Rattle.eris_codec.specs.Codecs.{◌⊗◌}
use Rattle.eris_codec.specs.Fields as f
use Rattle.eris_codec.proofs.write_lists.put_all_held.Given as goal

abbrev pub invariant-loop-pair : goal.invariant-loop-pair
invariant-loop-pair l = l.out ≡ l.fn.out ++ flat_map (f.number ⊗ f.packet).spell (take l.pair-index l.held)
