use Rattle.std.proofs.Common.{◌≡◌, ◌+◌, length, refl, Some, slice_get, false, true, rules, arith}
use Rattle.std.proofs.lemmas.Option.{slice_get_read}
use Rattle.acceptor.specs.Entries.{is_same_entry}
use Rattle.mirror.proofs.Overlaps.{differs_at, one_held, all_told, same_entry}
use Rattle.mirror.proofs.mirror.Mirror.first_other.Goals as goal

pub returns-then-ne-clause-differs : goal.returns-then-ne-clause-differs
returns-then-ne-clause-differs c =
    let a = c.in-Some.held.now in
    let b = c.index-entries-place.result in
    let place = c.loop-place.place in
    let h : slice_get c.args.self.now (c.args.position + place) ≡ Some a = search rules in
    let t : slice_get c.args.entries.now place ≡ Some b =
    slice_get_read c.args.entries.now (length c.args.entries.now) place b refl
    (omega (arith, c.loop-place-test.true)) c.index-entries-place.is in
    let d : is_same_entry a b ≡ false = search rules in
    differs_at _ _ c.args.position place a b c.loop-place.invariant h t d

pub loop-place-preserved : goal.loop-place-preserved
loop-place-preserved c =
    let a = c.in-Some.held.now in
    let b = c.index-entries-place.result in
    let place = c.loop-place.place in
    let h : slice_get c.args.self.now (c.args.position + place) ≡ Some a = search rules in
    let t : slice_get c.args.entries.now place ≡ Some b =
    slice_get_read c.args.entries.now (length c.args.entries.now) place b refl
    (omega (arith, c.loop-place-test.true)) c.index-entries-place.is in
    let d : is_same_entry a b ≡ true = search rules in
    one_held c.args.self.now c.args.entries.now c.args.position place
    (c.args.position + (place + 1)) a b c.loop-place.invariant (omega arith) h t (same_entry a b d)

pub returns-clause-none : goal.returns-clause-none
returns-clause-none c none =
    all_told c.args.self.now c.args.entries.now c.args.position
    (c.args.position + c.loop-place.place) c.loop-place.invariant
    (omega (arith, c.loop-place-test.false))
