use Rattle.eris_drill.proofs.Turns.{drawn_distance, drawn_payer}
use Rattle.eris_drill.proofs.script.put_turn.Goals as goal

pub asked-requires-clause-payer : goal.asked-requires-clause-payer
asked-requires-clause-payer c = drawn_payer c.args.drawn c.args.number c.args.turn c.requires.drawn

pub asked-requires-clause-distance : goal.asked-requires-clause-distance
asked-requires-clause-distance c = drawn_distance c.args.drawn c.args.number c.args.turn c.requires.drawn
