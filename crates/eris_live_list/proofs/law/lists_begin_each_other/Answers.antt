use Rattle.eris_live_list.proofs.Submits.{list-long, list-own, list-parts, submissions-more}
use Rattle.eris_live_list.proofs.law.lists_begin_each_other.Goals as goal

pub returns-clause-more : goal.returns-clause-more
returns-clause-more c = submissions-more

pub returns-clause-parts : goal.returns-clause-parts
returns-clause-parts c = list-parts

pub returns-clause-long : goal.returns-clause-long
returns-clause-long c = list-long

pub returns-clause-own : goal.returns-clause-own
returns-clause-own c = list-own
