use Rattle.eris_law_serial.proofs.CutOrigins.{cut_origins}
use Rattle.eris_law_serial.proofs.Rules.{one_map}
use Rattle.eris_law_serial.proofs.WellFormedOrder.{well_formed}
use Rattle.eris_law_serial.proofs.law.origins_suffice.Goals as goal

pub returns-clause-well_formed : goal.returns-clause-well_formed
returns-clause-well_formed c = well_formed

pub returns-clause-one_map : goal.returns-clause-one_map
returns-clause-one_map c = one_map

pub returns-clause-closed_cut : goal.returns-clause-closed_cut
returns-clause-closed_cut c = cut_origins
