use Rattle.eris_serial.proofs.SaidByLogs.{on_shard-packets_on, said_by_log, said_by_packets}
use Rattle.eris_serial.proofs.bridges.logs_say.Goals as goal

pub returns-clause-seen : goal.returns-clause-seen
returns-clause-seen c = on_shard-packets_on

pub returns-clause-cut_log : goal.returns-clause-cut_log
returns-clause-cut_log c = said_by_log

pub returns-clause-whole_log : goal.returns-clause-whole_log
returns-clause-whole_log c = said_by_packets
