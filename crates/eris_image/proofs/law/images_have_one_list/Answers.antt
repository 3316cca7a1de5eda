use Rattle.eris_image.proofs.Records.{one_list}
use Rattle.eris_image.proofs.law.images_have_one_list.Goals as goal

pub returns : goal.returns
returns c = one_list
