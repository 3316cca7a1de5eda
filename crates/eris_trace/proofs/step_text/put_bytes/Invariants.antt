use Rattle.std.proofs.Common.{◌≡◌, ◌++◌, take}
use Rattle.std.specs.List.{flat_map}
use Rattle.eris_grammar.specs.Fields.{hex_pair}
use Rattle.eris_trace.proofs.step_text.put_bytes.Given as goal

abbrev pub invariant-loop-byte : goal.invariant-loop-byte
invariant-loop-byte l = l.out ≡ l.fn.out ++ flat_map hex_pair (take l.byte-index l.bytes)
