use Rattle.std.specs.Prelude.{ℕ, List, codes}
use Rattle.eris_event.specs.declared.limit.Limit.{Limit}
use Rattle.eris_event.specs.declared.limit.Limit.TheVariants.{Packets, Bytes}

-- a limit as it is written
abbrev pub limit_name : Limit → List ℕ
limit_name Packets = codes "Packets"
limit_name Bytes = codes "Bytes"
