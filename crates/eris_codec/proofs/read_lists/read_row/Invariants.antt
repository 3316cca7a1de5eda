use Rattle.std.proofs.Common.{◌≡◌, ◌-◌, []}
use Rattle.eris_codec.specs.Codecs.{read_items}
use Rattle.eris_codec.proofs.Chain.{with_front}
use Rattle.eris_codec.proofs.read_lists.read_row.Given as goal

abbrev pub invariant-loop : goal.invariant-loop
invariant-loop g l = with_front l.items (read_items g.T.Item.codec l.items (l.count - l.counter) l.input) ≡ read_items g.T.Item.codec [] l.count l.fn.input
