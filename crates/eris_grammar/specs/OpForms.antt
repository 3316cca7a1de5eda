-- The operations of an independent transaction, as a line has them.
use Rattle.std.specs.Prelude.{ℕ, nat_lt, Result, Ok, Err, List, ◌∷◌, length, if◌then◌else◌}
use Rattle.eris_txn.specs.declared.op.Op.{Op}
use Rattle.eris_txn.specs.declared.op.Op.TheVariants.{Get, Put, Del, Add, Cas}
use Rattle.eris_grammar.specs.declared.fixed_words.OpWord.{OpWord}
use Rattle.eris_grammar.specs.declared.fixed_words.OpWord.TheVariants as w
use Rattle.eris_words.specs.declared.reason.Reason.{Reason}
use Rattle.eris_words.specs.declared.reason.Reason.TheVariants.{TooMany}
use Rattle.eris_grammar.specs.Fields.{key, value}
use Rattle.eris_grammar.specs.FixedWords.{op_word}
use Rattle.eris_words.specs.Forms.{Form, Read, ◌>>=◌, arm, led, more, pair}
use Rattle.eris_words.specs.OpText.{op_words}
use Rattle.eris_event.specs.EventRanges.{most, fits_op}

-- `get K`, `put K N`, `del K`, `add K N`, `cas K N N`
unfoldable pub op_behind : ℕ → OpWord → List (List ℕ) → Read Op
op_behind version w.Get words = arm Get (key version) words
op_behind version w.Put words = arm (λ p. Put p.0 p.1) (pair (key version) value) words
op_behind version w.Del words = arm Del (key version) words
op_behind version w.Add words = arm (λ p. Add p.0 p.1) (pair (key version) value) words
op_behind version w.Cas words = arm (λ p. Cas p.0 p.1.0 p.1.1) (pair (key version) (pair value value)) words

unfoldable pub op : ℕ → Form Op
op version = led op_word (op_behind version) op_words (fits_op version)

abbrev pub few_ops : ℕ → List Op → Result (List Op) Reason
few_ops version ops = if nat_lt (most version) (length ops) then Err TooMany else Ok ops

-- operations to the end of the line, a `;` between each two
unfoldable pub all_ops : ℕ → List (List ℕ) → Result (List Op) Reason
all_ops version words = (op version).read words >>= λ first. more (op version) first.1 >>= λ others. Ok (first.0 ∷ others)

unfoldable pub ops_of : ℕ → List (List ℕ) → Result (List Op) Reason
ops_of version words = all_ops version words >>= few_ops version
