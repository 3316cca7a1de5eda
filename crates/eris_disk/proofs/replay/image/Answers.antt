use Rattle.std.proofs.Common.{◌≡◌, ℕ, true, List, ◌++◌, take, drop, sym, ◌∙◌, ap, subst, arith, rules, take-append-drop}
use Rattle.eris_disk.specs.declared.disk_call.DiskCall.{DiskCall}
use Rattle.eris_disk.specs.Histories.{replayed, filled_by, written_by, none_synced, AreShort, EndsSynced}
use Rattle.eris_disk.proofs.Acts.{written_by-append, short-parts, image_is}
use Rattle.eris_disk.proofs.replay.image.Goals as goal

-- the two parts make the whole
parts : (calls before later : List DiskCall) (count : ℕ) → before ≡ take count calls → later ≡ drop count calls → before ++ later ≡ calls
parts calls before later count front back =
    ap (λ (l : List DiskCall). l ++ later) front ∙ ap (λ (l : List DiskCall). take count calls ++ l) back ∙ take-append-drop count calls

pub replay-requires-clause-logged : goal.replay-requires-clause-logged
replay-requires-clause-logged c =
    let before = c.split_at.result.0.now in
    let later = c.split_at.result.1.now in
    let whole = parts c.args.calls.now before later c.last_synced.result c.split_at.ensures.front c.split_at.ensures.back in
    omega (arith, written_by-append before later, ap written_by whole, c.requires.logged)

pub replay-requires-clause-short : goal.replay-requires-clause-short
replay-requires-clause-short c =
    let before = c.split_at.result.0.now in
    let later = c.split_at.result.1.now in
    let whole = parts c.args.calls.now before later c.last_synced.result c.split_at.ensures.front c.split_at.ensures.back in
    (short-parts before later (subst AreShort (sym whole) c.requires.short)).0

pub fill_all-requires : goal.fill_all-requires
fill_all-requires c =
    let before = c.split_at.result.0.now in
    let later = c.split_at.result.1.now in
    let whole = parts c.args.calls.now before later c.last_synced.result c.split_at.ensures.front c.split_at.ensures.back in
    (short-parts before later (subst AreShort (sym whole) c.requires.short)).1

pub returns : goal.returns
returns c =
    let before = c.split_at.result.0.now in
    let later = c.split_at.result.1.now in
    let whole = parts c.args.calls.now before later c.last_synced.result c.split_at.ensures.front c.split_at.ensures.back in
    let ends : EndsSynced before = subst EndsSynced (sym c.split_at.ensures.front) c.last_synced.ensures.ends in
    let none : none_synced later ≡ true = ap none_synced c.split_at.ensures.back ∙ c.last_synced.ensures.rest in
    let copied : c.in_ok-content.content.items ≡ c.args.first.now = search rules in
    let again : c.replay.new.content.items ≡ replayed c.in_ok-content.content.items before c.args.written.now = c.in_ok-replay.ensures in
    let all : c.fill_all.new.content.items ≡ filled_by c.args.byte c.replay.new.content.items later = c.in_ok-fill_all.ensures in
    c.from_vec.ensures ∙ all
    ∙ ap (λ l. filled_by c.args.byte l later) (again ∙ ap (λ l. replayed l before c.args.written.now) copied)
    ∙ sym (image_is c.args.byte c.args.first.now c.args.calls.now before later c.args.written.now whole ends none c.requires.logged)
