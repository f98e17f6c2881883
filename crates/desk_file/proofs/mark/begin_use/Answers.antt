use Rattle.std.proofs.Common.{◌≡◌, ◌⊎◌, ℕ, inl, inr, ◌≤◌, List, length, subst, sym}
use Rattle.desk_file.specs.Marks.{IsBegun, IsLog, IsMarked, number_of}
use Rattle.desk_file.proofs.Marking.{both_ok, stands_in_use, unmoved}
use Rattle.desk_file.proofs.mark.begin_use.Goals as goal

begun_by : (n : ℕ) (log db : List ℕ) → (¬ IsMarked db) ⊎ (IsMarked db × (number_of db ≡ n))
    → IsLog n log → IsBegun n log db
begun_by n log db (inl none) begun = inl none
begun_by n log db (inr marked) begun = inr (marked.0, marked.1, begun)

pub returns-clause-begun : goal.returns-clause-begun
returns-clause-begun g c =
    stands_in_use c.write_mark.result c.args.number _ _ c.write_mark.ensures.marked
    c.write_mark.ensures.number c.in_ok-begin_log.ensures.begun

pub returns-clause-synced : goal.returns-clause-synced
returns-clause-synced g c =
    both_ok c.write_mark.result _ _ c.in_ok-begin_log.ensures.synced c.write_mark.ensures.synced

pub returns-in_err-page_size-clause-crash : goal.returns-in_err-page_size-clause-crash
returns-in_err-page_size-clause-crash g c mixes long free log db of_log leaves =
    inl (c.page_size_of.ensures.crash db leaves)

pub returns-in_err-begin_log-clause-crash : goal.returns-in_err-begin_log-clause-crash
returns-in_err-begin_log-clause-crash g c mixes long free log db of_log leaves =
    inl (c.page_size_of.ensures.crash db leaves)

pub returns-clause-crash : goal.returns-clause-crash
returns-clause-crash g c mixes long free log db of_log leaves =
    let same = c.page_size_of.ensures.seen in
    let begun : IsLog c.args.number log = subst (λ l. IsLog c.args.number l) (sym
    (c.in_ok-begin_log.ensures.synced log of_log)) c.in_ok-begin_log.ensures.begun in
    let longer : 64 ≤ length (g.D.Disk.seen c.page_size_of.new.db) = rw same long in
    let unmarked : ¬ IsMarked (g.D.Disk.seen c.page_size_of.new.db) = rw same free in
    elim (c.write_mark.ensures.crash mixes longer unmarked db leaves) [
      | inl old ↦ inl (c.page_size_of.ensures.crash db old)
      | inr left ↦ inr (begun_by _ log db left begun)
    ]

pub returns-in_err-page_size-clause-others : goal.returns-in_err-page_size-clause-others
returns-in_err-page_size-clause-others g c = rw c.page_size_of.ensures.seen (unmoved _)

pub returns-in_err-begin_log-clause-others : goal.returns-in_err-begin_log-clause-others
returns-in_err-begin_log-clause-others g c = rw c.page_size_of.ensures.seen (unmoved _)

pub returns-clause-others : goal.returns-clause-others
returns-clause-others g c = rw c.page_size_of.ensures.seen at c.write_mark.ensures.others

pub returns-in_err-page_size-clause-grows : goal.returns-in_err-page_size-clause-grows
returns-in_err-page_size-clause-grows g c mixes long bytes most counted ch leaves =
    counted ch (c.page_size_of.ensures.crash ch leaves)

pub returns-in_err-begin_log-clause-grows : goal.returns-in_err-begin_log-clause-grows
returns-in_err-begin_log-clause-grows g c mixes long bytes most counted ch leaves =
    counted ch (c.page_size_of.ensures.crash ch leaves)

pub returns-clause-grows : goal.returns-clause-grows
returns-clause-grows g c mixes long bytes most counted ch leaves =
    (rw c.page_size_of.ensures.seen at c.write_mark.ensures.grows) mixes long bytes most
    (λ k left. counted k (c.page_size_of.ensures.crash k left)) ch leaves
