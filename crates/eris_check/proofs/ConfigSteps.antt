-- A config's limits, as a test.
use Rattle.std.proofs.Common.{◌≡◌, ℕ, true, false, Some, arith}
use Rattle.std.proofs.lemmas.Bool.Decides.{nat_tests}
use Rattle.eris_base.specs.declared.config.ConfigFault.{ConfigFault}
use Rattle.eris_base.specs.Configs.{config_fault}
use Rattle.eris_base.specs.ConfigLimits.{ConfigValue, IsConfig}
use Rattle.eris_check.specs.ReportForms.{is_config}

pub in_limits : (c : ConfigValue) → IsConfig c → is_config c ≡ true
in_limits c fits = grind (arith, nat_tests, fits.some_shard, fits.few_shards, fits.few_faults, fits.some_client, fits.few_clients)

pub out_of_limits : (shards f clients : ℕ) (why : ConfigFault) → config_fault shards f clients ≡ Some why →
    is_config (record { shards = shards; f = f; clients = clients }) ≡ false
out_of_limits shards f clients why out = grind (arith, nat_tests)

pub limits_of : (c : ConfigValue) → is_config c ≡ true → IsConfig c
limits_of c is = record {
  some_shard = grind (arith, nat_tests);
  few_shards = grind (arith, nat_tests);
  few_faults = grind (arith, nat_tests);
  some_client = grind (arith, nat_tests);
  few_clients = grind (arith, nat_tests);
}

pub ruleset config_steps = (in_limits, out_of_limits)
