use Rattle.eris_serial.proofs.Runnable.{prelim_keys, sized_submits_well}
use Rattle.eris_serial.proofs.bridges.sizes_suffice.Goals as goal

pub returns-clause-submits : goal.returns-clause-submits
returns-clause-submits c = sized_submits_well

pub returns-clause-prelim_keys : goal.returns-clause-prelim_keys
returns-clause-prelim_keys c = prelim_keys
