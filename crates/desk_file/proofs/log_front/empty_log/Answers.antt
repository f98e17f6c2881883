use Rattle.std.proofs.Common.{◌≡◌, ℕ, ◌<◌, false, length, sym, ◌∙◌, ap, arith, rules}
use Rattle.sqlite_wal.specs.Format.{checksum}
use Rattle.sqlite_wal.proofs.PartLemmas.{part_below, part_above, same_parts, part_whole}
use Rattle.sqlite_wal.proofs.FormatLemmas.{be32_below, part_front, header_from}
use Rattle.std.proofs.lemmas.List.{places}
use Rattle.desk_file.proofs.log_front.empty_log.Goals as goal

pub returns-clause-head : goal.returns-clause-head
returns-clause-head c =
    let one = c.put_be32.ensures.others in
    let two = c.put_be32-2.ensures.others in
    let three = c.put_be32-3.ensures.others in
    let four = c.put_sum.ensures.others in
    let len : length c.put_be32.new.b ≡ 41 = search rules in
    let magic = λ (i : ℕ) (h : i < 4). four.below i (omega arith) (omega arith)
    ∙ three.below i (omega arith) (omega arith) ∙ two.below i (omega arith) (omega arith)
    ∙ one.below i (omega arith) (omega arith) in
    header_from _ _ (omega arith) (magic 0 (omega arith)) (magic 1 (omega arith)) (magic 2 (omega
    arith)) (magic 3 (omega arith))
    (be32_below _ _ _ _ 4 four (omega arith) (omega arith) ∙ be32_below _ _ _ _ 4 three (omega
    arith) (omega arith) ∙ be32_below _ _ _ _ 4 two (omega arith) (omega arith)
    ∙ c.put_be32.ensures.written)
    (be32_below _ _ _ _ 8 four (omega arith) (omega arith) ∙ be32_below _ _ _ _ 8 three (omega
    arith) (omega arith) ∙ c.put_be32-2.ensures.written)
    (ap (checksum false (0, 0)) (part_below _ _ _ _ 0 24 four (omega arith) (omega arith)
    ∙ part_front _ 24) ∙ sym c.checksum_of-sum.ensures ∙ sym c.put_sum.ensures.written)

pub returns-clause-round : goal.returns-clause-round
returns-clause-round c =
    let one = c.put_be32.ensures.others in
    let two = c.put_be32-2.ensures.others in
    let three = c.put_be32-3.ensures.others in
    let four = c.put_sum.ensures.others in
    let len : length c.put_be32.new.b ≡ 41 = search rules in
    be32_below _ _ _ _ 12 four (omega arith) (omega arith) ∙ c.put_be32-3.ensures.written

pub returns-clause-salt : goal.returns-clause-salt
returns-clause-salt c =
    let one = c.put_be32.ensures.others in
    let two = c.put_be32-2.ensures.others in
    let three = c.put_be32-3.ensures.others in
    let four = c.put_sum.ensures.others in
    let len : length c.put_be32.new.b ≡ 41 = search rules in
    let kept = part_below _ _ _ _ 16 8 four (omega arith) (omega arith)
    ∙ part_above _ _ _ _ 16 8 three (omega arith) (omega arith)
    ∙ part_above _ _ _ _ 16 8 two (omega arith) (omega arith)
    ∙ part_above _ _ _ _ 16 8 one (omega arith) (omega arith) in
    let copied = c.copy_from_slice.new.self in
    let eight : length copied ≡ 8 = search rules in
    kept ∙ same_parts _ copied 16 0 8 (search rules) (omega arith) (λ i low. search (
      rules,
      places,
    )) ∙ part_whole copied 8 eight ∙ c.copy_from_slice.ensures.after
