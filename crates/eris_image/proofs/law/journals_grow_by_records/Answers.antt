use Rattle.eris_image.proofs.Records.{length-push}
use Rattle.eris_image.proofs.law.journals_grow_by_records.Goals as goal

pub returns-clause-more : goal.returns-clause-more
returns-clause-more c = length-push
