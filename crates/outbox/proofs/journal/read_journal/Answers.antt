use Rattle.std.proofs.Common.{◌≡◌, length, nat_lt, Ok, Err, sym, ap, ◌∙◌, arith}
use Rattle.outbox.specs.{declared.journal.JournalFault.JournalFault, Items.ItemsOf, Lines.cut_line}
use Rattle.outbox.{specs.Journals.read_back, specs.Outboxes.OutboxOf, proofs.FirstLines.first_of}
use Rattle.outbox.proofs.Openings.{is_fault, read_named, read_other}
use Rattle.outbox.proofs.journal.read_journal.Goals as goal

pub returns-then-not-branch-clause-refused : goal.returns-then-not-branch-clause-refused
returns-then-not-branch-clause-refused c =
    is_fault (read_back c.args.hall.now c.args.now c.args.bytes.now) c.fault_of_first.result
    (read_other c.args.hall.now c.args.now c.args.bytes.now c.in-Some.first.now
    c.in-Some.lines.now c.in-Some.ensures.0 (sym c.in_ok-is_of_hall.ensures ∙ c.if-not-branch.true)
    ∙ ap (λ (why : JournalFault). Err why) (sym c.fault_of_first.ensures))

pub returns-clause-items : goal.returns-clause-items
returns-clause-items c =
    read_named c.args.hall.now c.args.now c.args.bytes.now c.in-Some.first.now
    c.in-Some.lines.now c.in-Some.ensures.0 (sym c.in_ok-is_of_hall.ensures ∙ c.if-not-branch.false)
    ∙ c.in_ok-items.ensures.items
    ∙ ap (λ (q : ItemsOf). Ok q) (sym (ap (λ (o : OutboxOf). o.list) c.over.ensures))

pub returns-clause-whole : goal.returns-clause-whole
returns-clause-whole c =
    let same : length (cut_line c.args.bytes.now) ≡ c.in_ok-items.left =
    ap length
    (first_of c.args.bytes.now c.in-Some.first.now c.in-Some.lines.now c.in-Some.ensures.0).1
    ∙ sym c.in_ok-items.ensures.left in
    omega (arith, same, c.in_ok-items.ensures.most, c.in-Some.ensures.1)

pub returns-clause-is_cut : goal.returns-clause-is_cut
returns-clause-is_cut c =
    ap (nat_lt 0) (c.in_ok-items.ensures.left
    ∙ sym (ap length
    (first_of c.args.bytes.now c.in-Some.first.now c.in-Some.lines.now c.in-Some.ensures.0).1))
