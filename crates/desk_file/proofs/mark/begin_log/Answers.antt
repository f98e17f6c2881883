use Rattle.std.proofs.Common.{◌≡◌, inl, ℕ, ◌/◌, ◌^◌, ◌≤◌, List, length, ◌<◌, ◌∙◌, ap, subst, arith}
use Rattle.std.proofs.{Common.slice_index, Common.sym, lemmas.Result.on_ok_weaker}
use Rattle.sqlite_disk.specs.Disk.{Holds, Torn}
use Rattle.sqlite_wal.specs.Format.{IsSigned, be32, part}
use Rattle.sqlite_wal.proofs.{FormatLemmas.be32-part, PartLemmas.slice_index-part}
use Rattle.desk_file.specs.Marks.{IsLog, IsOfUse, IsShut}
use Rattle.desk_file.proofs.Marking.{first_of, front_read, is_log}
use Rattle.desk_file.proofs.mark.begin_log.Goals as goal

-- the log that was begun
begun : (n : ℕ) (old log front salt : List ℕ) (k : ℕ) → 0x100_0000 ≤ n → n < 2 ^ 32
    → length old ≡ 56 → Torn 0 k old log → Holds log 0 front → length front ≡ 41 → be32 front 12 ≡ 0
    → part front 16 8 ≡ salt → be32 salt 0 ≡ n → slice_index salt 0 ≡ n / 0x100_0000
    → slice_index front 40 ≡ 0 → IsSigned (part front 0 32) → IsLog n log
begun n old log front salt k big fits long torn holds len round is named first gate signed =
    let longer = torn.no_shorter in
    let f = front_read log front holds len in
    let salted : be32 front 16 ≡ n = sym (be32-part front 16 8 0 (omega arith))
    ∙ ap (λ (l : List ℕ). be32 l 0) is ∙ named in
    let begins : slice_index front 16 ≡ n / 0x100_0000 = sym (slice_index-part front 16 8 0 (omega
    arith)) ∙ ap (λ (l : List ℕ). slice_index l 0) is ∙ first in
    let of_use : IsOfUse n log = (omega arith, omega arith) in
    let shut : IsShut log = λ same.
    first_of n big (sym begins ∙ f.first ∙ sym same ∙ sym f.gate ∙ gate) in
    is_log n log of_use (omega arith) (subst IsSigned f.head signed) (inl shut)

pub returns-clause-begun : goal.returns-clause-begun
returns-clause-begun g c =
    let bytes = c.empty_log-bytes.ensures in
    rw c.sync.ensures.seen (on_ok_weaker c.sync.result (λ _.
    begun c.args.number (g.D.Disk.seen c.set_len.new.self) (g.D.Disk.seen c.write_at.new.self)
    c.empty_log-bytes.result c.put_be32.new.b _ c.requires.number (omega arith)
    c.in_ok-set_len.ensures.len c.write_at.ensures.others
    (c.in_ok-write_at.ensures.written (omega arith)) bytes.len bytes.round bytes.salt
    c.put_be32.ensures.written c.put_be32.ensures.first bytes.gate bytes.head.signed)
    c.sync.ensures.durable)
