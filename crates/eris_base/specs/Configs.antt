use Rattle.std.specs.Prelude.{ℕ, Option, Some, None, nat_lt, ◌||◌, if◌then◌else◌}
use Rattle.eris_base.specs.declared.config.ConfigFault.{ConfigFault}
use Rattle.eris_base.specs.declared.config.ConfigFault.TheVariants.{Shards, Faults, Clients}

-- the first of three numbers that is out of its limits
abbrev pub config_fault : ℕ → ℕ → ℕ → Option ConfigFault
config_fault shards f clients =
    if nat_lt shards 1 || nat_lt 64 shards then Some Shards
    else if nat_lt 3 f then Some Faults
    else if nat_lt clients 1 || nat_lt 128 clients then Some Clients
    else None
