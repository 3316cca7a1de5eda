use Rattle.std.specs.Prelude.{ℕ, ◌≤◌}

pub record ConfigValue : Type 0 where
  pub shards : ℕ
  pub f : ℕ
  pub clients : ℕ

-- the limits of a config
pub record IsConfig (c : ConfigValue) : Type 0 where
  pub some_shard : 1 ≤ c.shards
  pub few_shards : c.shards ≤ 64
  pub few_faults : c.f ≤ 3
  pub some_client : 1 ≤ c.clients
  pub few_clients : c.clients ≤ 128
