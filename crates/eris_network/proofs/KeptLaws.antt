-- A frame gives back the message that it was made of, and what becomes of the sent messages where one more is kept.
use Rattle.std.proofs.Common.{◌≡◌, ◌<◌, ◌≤◌, ℕ, ◌+◌, ◌-◌, true, List, [], ◌∷◌, ◌++◌, length, drop, Some, get_or, zero, suc, Result, Ok, Err, refl, ap, sym, ◌∙◌, subst, arith}
use Rattle.std.specs.Prelude.{slice_get, option_map}
use Rattle.std.proofs.lemmas.List.{map-append, length-append}
use Rattle.std.proofs.lemmas.List.Sums.{sum_by-append}
use Rattle.std.proofs.lemmas.Option.{slice_get-map, slice_get-get_or}
use Rattle.eris_base.specs.declared.ids.Node.{Node}
use Rattle.eris_base.specs.Each.{Each}
use Rattle.eris_codec.specs.declared.fault.DecodeFault.{DecodeFault}
use Rattle.eris_codec.specs.declared.fault.DecodeFault.TheVariants as faults
use Rattle.eris_codec.specs.declared.fault.DecodeReason.{DecodeReason}
use Rattle.eris_codec.specs.declared.fault.Wrong.{Wrong}
use Rattle.eris_msg.specs.declared.message.Message.{Message}
use Rattle.eris_msg.specs.declared.outgoing.Outgoing.{Outgoing}
use Rattle.eris_codec.specs.Answers.{Answers}
use Rattle.eris_codec.specs.Codecs.{whole}
use Rattle.eris_codec.specs.Fields.{word}
use Rattle.eris_frame.specs.Frames.{frame}
use Rattle.eris_msg.specs.Messages.{message}
use Rattle.eris_msg.specs.Spellings.{spelling, message_fits, IsSpelling}
use Rattle.eris_msg.proofs.Decodes.{is_only}
use Rattle.eris_rules.specs.Refusals.{frame_size, frame_sizes}
use Rattle.eris_network.specs.declared.kept.Kept.{Kept}
use Rattle.eris_network.specs.KeptFrames.{read_or_any, message_in, outgoing_of, frame_in, addressee_in, sent_of, IsKept, AreFrames}
use Rattle.eris_network.specs.Networks.{frame_at}
use Rattle.eris_network.specs.declared.send_fault.SendFault.{SendFault}
use Rattle.eris_network.specs.declared.send_fault.SendFault.TheVariants as sends
use Rattle.eris_network.specs.Limits.{byte_limit, packet_limit, IsTooLong, IsTooLongSpelled}

whole_by : (x : Message) (bytes : List ℕ) → IsSpelling x bytes → (w : Result Message Wrong) → whole message bytes ≡ w → w ≡ Ok x
whole_by x bytes h (Ok y) e = sym (is_only x bytes (Ok y) h e)
whole_by x bytes h (Err wrong) e =
    let told = is_only x bytes (Err (faults.Bad (length bytes - wrong.left) wrong.reason)) h (wrong.left, e, refl) in
    absurd (let apart = told.1 in cc)

-- a spelling is read as its message
pub whole-spelled : (x : Message) → message_fits x ≡ true → whole message (spelling x) ≡ Ok x
whole-spelled x fits = whole_by x (spelling x) (record { fits = fits; spelled = refl }) (whole message (spelling x)) refl

past_length : (bytes : List ℕ) → drop 4 (frame bytes) ≡ bytes
unfolding frame word
past_length bytes = refl

pub length-frame : (bytes : List ℕ) → length (frame bytes) ≡ 4 + length bytes
unfolding frame word
length-frame bytes = omega arith

pub message_in-frame : (x : Message) → message_fits x ≡ true → message_in (frame (spelling x)) ≡ x
unfolding message_in
message_in-frame x fits =
    ap (λ bytes. read_or_any (whole message bytes)) (past_length (spelling x)) ∙ ap read_or_any (whole-spelled x fits)

-- ---- one more
pub frame_sizes-more : (sent : List Outgoing) (one : Outgoing) → frame_sizes (sent ++ one ∷ []) ≡ frame_sizes sent + frame_size one.message
unfolding frame_sizes
frame_sizes-more sent one = sum_by-append (λ one. frame_size one.message) sent (one ∷ []) ∙ omega arith

pub frame_sizes-append : (sent more : List Outgoing) → frame_sizes (sent ++ more) ≡ frame_sizes sent + frame_sizes more
unfolding frame_sizes
frame_sizes-append sent more = sum_by-append (λ one. frame_size one.message) sent more

-- ---- what stands at a number
each_at : (kept : List Kept) → Each IsKept kept → (number : ℕ) (d : Kept) → number < length kept → IsKept (get_or kept number d)
each_at [] h number d lt = absurd (omega (arith, lt))
each_at (one ∷ kept) h zero d lt = h.0
each_at (one ∷ kept) h (suc number) d lt = each_at kept h.1 number d (omega (arith, lt))

each_more : (kept : List Kept) (one : Kept) → Each IsKept kept → IsKept one → Each IsKept (kept ++ one ∷ [])
each_more [] one h k = (k, tt)
each_more (first ∷ kept) one h k = (h.0, each_more kept one h.1 k)

pub to_at_kept : (kept : List Kept) (number : ℕ) → addressee_in (slice_get kept number) ≡ option_map (λ one. one.to) (slice_get (sent_of kept) number)
unfolding outgoing_of
to_at_kept [] number = refl
to_at_kept (one ∷ kept) zero = refl
to_at_kept (one ∷ kept) (suc number) = to_at_kept kept number

frame_at_each : (kept : List Kept) (number : ℕ) → Each IsKept kept → frame_in (slice_get kept number) ≡ frame_at (sent_of kept) number
unfolding outgoing_of
frame_at_each [] number h = refl
frame_at_each (one ∷ kept) zero h = ap Some h.0.framed
frame_at_each (one ∷ kept) (suc number) h = frame_at_each kept number h.1

pub frame_at_kept : (kept : List Kept) (bytes number : ℕ) → AreFrames kept bytes → frame_in (slice_get kept number) ≡ frame_at (sent_of kept) number
frame_at_kept kept bytes number h = frame_at_each kept number h.each

pub message_at_kept : (kept : List Kept) (bytes number : ℕ) (d : Kept) → AreFrames kept bytes → number < length kept → d ≡ get_or kept number d
    → option_map (λ one. one.message) (slice_get (sent_of kept) number) ≡ Some (outgoing_of d).message
message_at_kept kept bytes number d h lt e =
    ap (option_map (λ (one : Outgoing). one.message)) (slice_get-map outgoing_of kept number ∙ ap (option_map outgoing_of) (slice_get-get_or kept number d lt))
    ∙ ap (λ (one : Kept). Some (outgoing_of one).message) (sym e)

pub is_kept_at : (kept : List Kept) (bytes number : ℕ) (d : Kept) → AreFrames kept bytes → number < length kept → d ≡ get_or kept number d → IsKept d
is_kept_at kept bytes number d h lt e = subst IsKept (sym e) (each_at kept h.each number d lt)

-- ---- one more is kept
pub is_kept : (to : Node) (x : Message) (bytes : List ℕ) → message_fits x ≡ true → bytes ≡ frame (spelling x) → IsKept (record { to = to; frame = bytes })
is_kept to x bytes fits e =
    let back : message_in bytes ≡ x = ap message_in e ∙ message_in-frame x fits in
    record {
      fits = ap message_fits back ∙ fits;
      framed = e ∙ ap (λ (m : Message). frame (spelling m)) (sym back);
    }

pub outgoing_kept : (to : Node) (x : Message) (bytes : List ℕ) → message_fits x ≡ true → bytes ≡ frame (spelling x) → outgoing_of (record { to = to; frame = bytes }) ≡ record { to = to; message = x }
unfolding outgoing_of
outgoing_kept to x bytes fits e = ap (λ (m : Message). let made : Outgoing = record { to = to; message = m } in made) (ap message_in e ∙ message_in-frame x fits)

pub frame_length : (kept : Kept) → IsKept kept → length kept.frame ≡ frame_size (outgoing_of kept).message
unfolding outgoing_of frame_size
frame_length kept h = ap length h.framed ∙ length-frame (spelling (message_in kept.frame))

pub sent_of-more : (kept : List Kept) (one : Kept) → sent_of (kept ++ one ∷ []) ≡ sent_of kept ++ outgoing_of one ∷ []
sent_of-more kept one = map-append outgoing_of kept (one ∷ [])

pub frames_more : (kept : List Kept) (bytes : ℕ) (one : Kept) → AreFrames kept bytes → IsKept one → length kept < packet_limit → bytes + length one.frame ≤ byte_limit
    → AreFrames (kept ++ one ∷ []) (bytes + length one.frame)
frames_more kept bytes one h k few small =
    record {
      each = each_more kept one h.each k;
      counted = ap (λ n. n + length one.frame) h.counted ∙ ap (λ n. frame_sizes (sent_of kept) + n) (frame_length one k)
          ∙ sym (frame_sizes-more (sent_of kept) (outgoing_of one)) ∙ ap frame_sizes (sym (sent_of-more kept one));
      few = omega (arith, few, length-append kept (one ∷ []));
      small = small;
    }

pub frames_past : (room : ℕ) (kept : List Kept) (bytes : ℕ) (one : Kept) → AreFrames kept bytes → IsKept one → frame_sizes (sent_of kept) ≤ room → room - bytes < length one.frame
    → room < frame_sizes (sent_of kept ++ outgoing_of one ∷ [])
frames_past room kept bytes one h k small lt = omega (arith, lt, small, h.counted, frame_length one k, frame_sizes-more (sent_of kept) (outgoing_of one))

pub frames_within : (room : ℕ) (kept : List Kept) (bytes : ℕ) (one : Kept) → AreFrames kept bytes → IsKept one → bytes + length one.frame ≤ room
    → frame_sizes (sent_of (kept ++ one ∷ [])) ≤ room
frames_within room kept bytes one h k few = omega (arith, few, h.counted, frame_length one k, frame_sizes-more (sent_of kept) (outgoing_of one), ap frame_sizes (sent_of-more kept one))

-- ---- the bytes behind a frame's length
pub four_at_least : (kept : Kept) → IsKept kept → 4 ≤ length kept.frame
four_at_least kept h = omega (arith, ap length h.framed, length-frame (spelling (message_in kept.frame)))

pub behind_length : (kept : Kept) (bytes : List ℕ) → IsKept kept → bytes ≡ drop 4 kept.frame → IsSpelling (outgoing_of kept).message bytes
unfolding outgoing_of
behind_length kept bytes h e =
    record { fits = h.fits; spelled = e ∙ ap (drop 4) h.framed ∙ past_length (spelling (message_in kept.frame)) }

pub nothing_sized : frame_sizes [] ≡ 0
unfolding frame_sizes
nothing_sized = refl

pub no_frames : AreFrames [] 0
unfolding frame_sizes
no_frames = record { each = tt; counted = refl; few = omega arith; small = omega arith }

-- the message that is spelled is read, and no fault is told
refuses_none : (x : Message) (len at : ℕ) (reason : DecodeReason) (fault : DecodeFault) → fault ≡ faults.Bad at reason
    → Answers {X = Message} (Err fault) len (Ok x) → ⊥
refuses_none x len at reason fault e h =
    let told : Answers {X = Message} (Err (faults.Bad at reason)) len (Ok x) = subst (λ (f : DecodeFault). Answers {X = Message} (Err f) len (Ok x)) e h in
    let apart = told.1 in
    cc

pub refuses_spelled : (r : Result Message DecodeFault) (x : Message) (len at : ℕ) (reason : DecodeReason) (fault : DecodeFault) → r ≡ Err fault → fault ≡ faults.Bad at reason
    → Answers r len (Ok x) → ⊥
refuses_spelled r x len at reason fault is e h = refuses_none x len at reason fault e (subst (λ (z : Result Message DecodeFault). Answers z len (Ok x)) is h)

pub reads_spelled : (r : Result Message DecodeFault) (x y : Message) (len : ℕ) → r ≡ Ok y → Answers r len (Ok x) → y ≡ x
reads_spelled r x y len is h =
    let told : Answers {X = Message} (Ok y) len (Ok x) = subst (λ (z : Result Message DecodeFault). Answers z len (Ok x)) is h in
    cc

pub long_spelled : (x : Message) (bytes : List ℕ) (fault : SendFault) → bytes ≡ spelling x → IsTooLongSpelled bytes fault → IsTooLong x fault
unfolding frame_size
long_spelled x bytes sends.Packets e h = h
long_spelled x bytes sends.Bytes e h = omega (arith, h, ap length e)
long_spelled x bytes sends.NoMemory e h = tt
