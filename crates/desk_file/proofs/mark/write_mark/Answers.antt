use Rattle.std.proofs.Common.{◌≢◌, inl, inr, slice_index, arith}
use Rattle.desk_file.proofs.Marking.{also, at_high, at_low, at_middle, both_unmarked, cut_first}
use Rattle.desk_file.proofs.Marking.{cut_high, cut_last, cut_low, cut_middle, field_of, in_field}
use Rattle.desk_file.proofs.Marking.{marked_ok, number_ok, rise_high, rise_low, rise_middle}
use Rattle.desk_file.proofs.Marking.{rise_none, unmoved}
use Rattle.desk_file.proofs.mark.write_mark.Goals as goal

pub returns-in_err-sync-clause-crash : goal.returns-in_err-sync-clause-crash
returns-in_err-sync-clause-crash g c mixes long free ch leaves =
    inl (c.sync.ensures.crash ch leaves)

pub returns-in_err-put_byte-clause-crash : goal.returns-in_err-put_byte-clause-crash
returns-in_err-put_byte-clause-crash g c mixes long free ch leaves =
    let f = field_of (g.D.Disk.seen c.args.db.now) long in
    let none = λ (some : slice_index (g.D.Disk.seen c.args.db.now) 60 ≢ 0). free (long, some) in
    let w = c.put_byte.ensures.crash mixes ch leaves in
    let same = c.in_ok-sync.ensures.durable w.0 w.1 in
    inr (inl (both_unmarked (cut_high _ f (rw same at w.2)) none))

pub returns-in_err-put_byte-2-clause-crash : goal.returns-in_err-put_byte-2-clause-crash
returns-in_err-put_byte-2-clause-crash g c mixes long free ch leaves =
    let none = λ (some : slice_index (g.D.Disk.seen c.args.db.now) 60 ≢ 0). free (long, some) in
    let f = at_high _ (field_of (g.D.Disk.seen c.args.db.now) long)
    (rw c.sync.ensures.seen at c.put_byte.ensures.others)
    (c.in_ok-put_byte.ensures.put.each 0 (omega arith)) in
    let w = c.put_byte-2.ensures.crash mixes ch leaves in
    let same = c.in_ok-put_byte.ensures.synced w.0 w.1 in
    inr (inl (both_unmarked (cut_middle _ f (rw same at w.2)) none))

pub returns-in_err-put_byte-3-clause-crash : goal.returns-in_err-put_byte-3-clause-crash
returns-in_err-put_byte-3-clause-crash g c mixes long free ch leaves =
    let none = λ (some : slice_index (g.D.Disk.seen c.args.db.now) 60 ≢ 0). free (long, some) in
    let f = at_high _ (field_of (g.D.Disk.seen c.args.db.now) long)
    (rw c.sync.ensures.seen at c.put_byte.ensures.others)
    (c.in_ok-put_byte.ensures.put.each 0 (omega arith)) in
    let f2 = at_middle _ f c.put_byte-2.ensures.others
    (c.in_ok-put_byte-2.ensures.put.each 0 (omega arith)) in
    let w = c.put_byte-3.ensures.crash mixes ch leaves in
    let same = c.in_ok-put_byte-2.ensures.synced w.0 w.1 in
    inr (inl (both_unmarked (cut_low _ f2 (rw same at w.2)) none))

pub returns-clause-crash : goal.returns-clause-crash
returns-clause-crash g c mixes long free ch leaves =
    let none = λ (some : slice_index (g.D.Disk.seen c.args.db.now) 60 ≢ 0). free (long, some) in
    let f = at_high _ (field_of (g.D.Disk.seen c.args.db.now) long)
    (rw c.sync.ensures.seen at c.put_byte.ensures.others)
    (c.in_ok-put_byte.ensures.put.each 0 (omega arith)) in
    let f2 = at_middle _ f c.put_byte-2.ensures.others
    (c.in_ok-put_byte-2.ensures.put.each 0 (omega arith)) in
    let f3 = at_low _ f2 c.put_byte-3.ensures.others
    (c.in_ok-put_byte-3.ensures.put.each 0 (omega arith)) in
    let w = c.put_byte-4.ensures.crash mixes ch leaves in
    let same = c.in_ok-put_byte-3.ensures.synced w.0 w.1 in
    inr (cut_last c.args.number c.requires.number none (cut_first _ f3 (rw same at w.2))
    (omega arith) (omega arith) (omega arith) (omega arith))

pub returns-in_err-sync-clause-grows : goal.returns-in_err-sync-clause-grows
returns-in_err-sync-clause-grows g c mixes long bytes most counted ch leaves =
    counted ch (c.sync.ensures.crash ch leaves)

pub returns-in_err-put_byte-clause-grows : goal.returns-in_err-put_byte-clause-grows
returns-in_err-put_byte-clause-grows g c mixes long bytes most counted ch leaves =
    let f = field_of (g.D.Disk.seen c.args.db.now) long in
    let w = c.put_byte.ensures.crash mixes ch leaves in
    let same = c.in_ok-sync.ensures.durable w.0 w.1 in
    elim (cut_high _ f (rw same at w.2)) [
      | inl k ↦ rise_none _ c.args.number long bytes most k
      | inr k ↦ rise_high _ c.args.number long bytes most k (omega arith)
    ]

pub returns-in_err-put_byte-2-clause-grows : goal.returns-in_err-put_byte-2-clause-grows
returns-in_err-put_byte-2-clause-grows g c mixes long bytes most counted ch leaves =
    let f = at_high _ (field_of (g.D.Disk.seen c.args.db.now) long)
    (rw c.sync.ensures.seen at c.put_byte.ensures.others)
    (c.in_ok-put_byte.ensures.put.each 0 (omega arith)) in
    let w = c.put_byte-2.ensures.crash mixes ch leaves in
    let same = c.in_ok-put_byte.ensures.synced w.0 w.1 in
    elim (cut_middle _ f (rw same at w.2)) [
      | inl k ↦ rise_high _ c.args.number long bytes most k (omega arith)
      | inr k ↦ rise_middle _ c.args.number long bytes most k (omega arith) (omega arith)
    ]

pub returns-in_err-put_byte-3-clause-grows : goal.returns-in_err-put_byte-3-clause-grows
returns-in_err-put_byte-3-clause-grows g c mixes long bytes most counted ch leaves =
    let f = at_high _ (field_of (g.D.Disk.seen c.args.db.now) long)
    (rw c.sync.ensures.seen at c.put_byte.ensures.others)
    (c.in_ok-put_byte.ensures.put.each 0 (omega arith)) in
    let f2 = at_middle _ f c.put_byte-2.ensures.others
    (c.in_ok-put_byte-2.ensures.put.each 0 (omega arith)) in
    let w = c.put_byte-3.ensures.crash mixes ch leaves in
    let same = c.in_ok-put_byte-2.ensures.synced w.0 w.1 in
    elim (cut_low _ f2 (rw same at w.2)) [
      | inl k ↦ rise_middle _ c.args.number long bytes most k (omega arith) (omega arith)
      | inr k ↦ rise_low _ c.args.number long bytes most k (omega arith) (omega arith) (omega arith)
    ]

pub returns-clause-grows : goal.returns-clause-grows
returns-clause-grows g c mixes long bytes most counted ch leaves =
    let f = at_high _ (field_of (g.D.Disk.seen c.args.db.now) long)
    (rw c.sync.ensures.seen at c.put_byte.ensures.others)
    (c.in_ok-put_byte.ensures.put.each 0 (omega arith)) in
    let f2 = at_middle _ f c.put_byte-2.ensures.others
    (c.in_ok-put_byte-2.ensures.put.each 0 (omega arith)) in
    let f3 = at_low _ f2 c.put_byte-3.ensures.others
    (c.in_ok-put_byte-3.ensures.put.each 0 (omega arith)) in
    let w = c.put_byte-4.ensures.crash mixes ch leaves in
    let same = c.in_ok-put_byte-3.ensures.synced w.0 w.1 in
    elim (cut_first _ f3 (rw same at w.2)) [
      | inl k ↦ rise_low _ c.args.number long bytes most k (omega arith) (omega arith) (omega arith)
      | inr k ↦ rise_low _ c.args.number long bytes most k (omega arith) (omega arith) (omega arith)
    ]

pub returns-clause-marked : goal.returns-clause-marked
returns-clause-marked g c =
    marked_ok c.put_byte-4.result c.args.number c.requires.number (omega arith)
    c.in_ok-put_byte.ensures.put c.put_byte-2.ensures.others c.in_ok-put_byte-2.ensures.put
    c.put_byte-3.ensures.others c.in_ok-put_byte-3.ensures.put c.put_byte-4.ensures.others
    c.put_byte-4.ensures.put

pub returns-clause-number : goal.returns-clause-number
returns-clause-number g c =
    number_ok c.put_byte-4.result c.args.number (omega arith) (omega arith) (omega arith)
    (omega arith) c.in_ok-put_byte.ensures.put c.put_byte-2.ensures.others
    c.in_ok-put_byte-2.ensures.put c.put_byte-3.ensures.others c.in_ok-put_byte-3.ensures.put
    c.put_byte-4.ensures.others c.put_byte-4.ensures.put

pub returns-in_err-sync-clause-others : goal.returns-in_err-sync-clause-others
returns-in_err-sync-clause-others g c = rw c.sync.ensures.seen (unmoved _)

pub returns-in_err-put_byte-clause-others : goal.returns-in_err-put_byte-clause-others
returns-in_err-put_byte-clause-others g c =
    in_field 61 (omega arith) (omega arith) (rw c.sync.ensures.seen at c.put_byte.ensures.others)

pub returns-in_err-put_byte-2-clause-others : goal.returns-in_err-put_byte-2-clause-others
returns-in_err-put_byte-2-clause-others g c =
    also (in_field 61 (omega arith) (omega arith)
    (rw c.sync.ensures.seen at c.put_byte.ensures.others))
    (in_field 62 (omega arith) (omega arith) c.put_byte-2.ensures.others)

pub returns-in_err-put_byte-3-clause-others : goal.returns-in_err-put_byte-3-clause-others
returns-in_err-put_byte-3-clause-others g c =
    also (also (in_field 61 (omega arith) (omega arith)
    (rw c.sync.ensures.seen at c.put_byte.ensures.others))
    (in_field 62 (omega arith) (omega arith) c.put_byte-2.ensures.others))
    (in_field 63 (omega arith) (omega arith) c.put_byte-3.ensures.others)

pub returns-clause-others : goal.returns-clause-others
returns-clause-others g c =
    also (also (also (in_field 61 (omega arith) (omega arith)
    (rw c.sync.ensures.seen at c.put_byte.ensures.others))
    (in_field 62 (omega arith) (omega arith) c.put_byte-2.ensures.others))
    (in_field 63 (omega arith) (omega arith) c.put_byte-3.ensures.others))
    (in_field 60 (omega arith) (omega arith) c.put_byte-4.ensures.others)
