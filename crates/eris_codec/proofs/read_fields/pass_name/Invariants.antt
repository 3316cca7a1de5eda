use Rattle.std.proofs.Common.{◌≡◌, ◌-◌, ◌≤◌, [], take, drop, length, true}
use Rattle.std.specs.List.{list_all}
use Rattle.eris_txn.specs.Names.{is_name_byte}
use Rattle.eris_codec.specs.declared.fault.DecodeReason.TheVariants.{Range}
use Rattle.eris_codec.specs.Codecs.{checked, read_items}
use Rattle.eris_codec.specs.Fields as f
use Rattle.eris_codec.proofs.Chain.{with_front}
use Rattle.eris_codec.proofs.read_fields.pass_name.Given as goal

abbrev pub invariant-loop : goal.invariant-loop
invariant-loop l = record {
  place : l.input ≡ drop l.counter l.fn.input;
  within : l.counter ≤ length l.fn.input;
  allowed : list_all is_name_byte (take l.counter l.fn.input) ≡ true;
  gives : with_front (take l.counter l.fn.input) (read_items (λ _. checked is_name_byte Range f.byte) (take l.counter l.fn.input) (l.count - l.counter) l.input)
      ≡ read_items (λ _. checked is_name_byte Range f.byte) [] l.count l.fn.input;
}
