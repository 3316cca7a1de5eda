-- THE DRAWS of a drill: the 32-bit words of its generator, in order, five for each turn of the bank day.
use Rattle.std.specs.Prelude.{ℕ, ◌+◌, ◌*◌, ◌%◌}
use Rattle.rand_pcg.specs.Lcg.{Lcg, advance, increment_of, started}
use Rattle.rand_pcg.specs.Pcg.{multiplier_64, pcg32}
use Rattle.eris_drill.specs.declared.turn.Turn.{Turn}

-- the generator of a drill's number
unfoldable pub generator : ℕ → Lcg
generator number = started 64 multiplier_64 number (increment_of 64 0)

-- the same after so many words
unfoldable pub after_words : ℕ → Lcg → Lcg
after_words words from = advance 64 multiplier_64 words from

-- the next word, below a bound
abbrev pub draw : ℕ → Lcg → ℕ
draw below from = (pcg32 from).0 % below

-- the five draws of a turn, in their order
unfoldable pub turn_from : Lcg → Turn
turn_from from =
    record {
      kind = draw 4 from;
      payer = draw 16 (after_words 1 from);
      distance = draw 15 (after_words 2 from);
      amount = draw 100 (after_words 3 from) + 1;
      weather = draw 8 (after_words 4 from);
    }

-- the turn of this number, from 0
unfoldable pub turn_at : ℕ → ℕ → Turn
turn_at number turn = turn_from (after_words (5 * turn) (generator number))
