use Rattle.eris_law_key.proofs.Counted.{vouched, replied, gave_late}
use Rattle.eris_law_key.proofs.law.what_is_said_is_so.Goals as goal

pub returns-clause-vouch : goal.returns-clause-vouch
returns-clause-vouch c = vouched

pub returns-clause-reply : goal.returns-clause-reply
returns-clause-reply c = replied

pub returns-clause-late : goal.returns-clause-late
returns-clause-late c = gave_late
