use Rattle.std.specs.Prelude.{Bool, List, ◌==◌, ◌&&◌}
use Rattle.std.specs.List.{list_any}
use Rattle.eris_base.specs.declared.ids.TxnId.{TxnId}

-- whether two ids are one
unfoldable pub same_id : TxnId → TxnId → Bool
same_id some other = some.client.0 == other.client.0 && some.number == other.number

-- whether an id stands among ids
abbrev pub is_among : TxnId → List TxnId → Bool
is_among id ids = list_any (λ other. same_id id other) ids
