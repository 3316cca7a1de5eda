-- What is decoded was spelled, and what was spelled is decoded.
use Rattle.std.proofs.Common.{◌≡◌, ℕ, true, List, ◌++◌, length, Result, Ok, Err, sym, ap, subst, ◌∙◌}
use Rattle.std.specs.Prelude.{IfOk}
use Rattle.eris_codec.specs.declared.fault.DecodeFault.{DecodeFault}
use Rattle.eris_msg.specs.declared.message.Message.{Message}
use Rattle.eris_codec.specs.Answers.{Answers}
use Rattle.eris_codec.specs.Codecs.{Read, whole}
use Rattle.eris_msg.specs.Messages.{message}
use Rattle.eris_msg.specs.Spellings.{spelling, message_fits, IsSpelling}
use Rattle.eris_codec.proofs.Laws.{IsBytes, ok_is}
use Rattle.eris_msg.proofs.MessageLaws.{is_message}
use Rattle.eris_codec.proofs.TagLaws.{whole_takes, whole_again}

pub is_found : (bytes : List ℕ) (r : Result Message DecodeFault) → IsBytes bytes → Answers r (length bytes) (whole message bytes) → IfOk r (λ x. IsSpelling x bytes)
is_found bytes (Ok x) fine e = let t = whole_takes message is_message bytes x fine e in record { fits = t.1; spelled = t.0 }
is_found bytes (Err d) fine e = tt

pub found_fits : (bytes : List ℕ) (r : Result Message DecodeFault) → IfOk r (λ x. IsSpelling x bytes) → IfOk r (λ x. message_fits x ≡ true)
found_fits bytes (Ok x) h = h.fits
found_fits bytes (Err d) h = tt

pub is_only : (x : Message) (bytes : List ℕ) (r : Result Message DecodeFault) → IsSpelling x bytes → Answers r (length bytes) (whole message bytes) → Answers r (length bytes) (Ok x)
is_only x bytes r h e =
    let all : whole message bytes ≡ Ok x = ap (whole message) h.spelled ∙ whole_again message is_message x h.fits in
    subst (λ (z : _). Answers r (length bytes) z) all e

-- two messages of one spelling are one, and no spelling begins another
pub one_spelling : (some other : Message) (after rest : List ℕ) → message_fits some ≡ true → message_fits other ≡ true
    → spelling some ++ after ≡ spelling other ++ rest → (some ≡ other) × (after ≡ rest)
one_spelling some other after rest fits fit same =
    let first = is_message.again some after fits in
    let second = is_message.again other rest fit in
    let found : read (some, after) ≡ read (other, rest) = sym first ∙ ap message.read same ∙ second in
    let is = ok_is (some, after) (other, rest) found in
    (ap (λ (z : Message × List ℕ). z.0) is, ap (λ (z : Message × List ℕ). z.1) is)
  where
    read : Message × List ℕ → Read Message
    read x = Ok x
