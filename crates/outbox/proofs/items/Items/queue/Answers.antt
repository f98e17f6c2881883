use Rattle.std.proofs.Common.{◌≡◌, ◌++◌, sym, subst, arith, false, None}
use Rattle.outbox.specs.Items.{ItemsOf, is_full, item_in, taken_at}
use Rattle.outbox.specs.Lines.{item_line, with_end}
use Rattle.std.proofs.lemmas.Grind.{common_steps}
use Rattle.outbox.proofs.Listed.{bounds_more, put_is, queued_is}
use Rattle.outbox.proofs.items.Items.queue.Goals as goal

pub invariant_of-self-2 : goal.invariant_of-self-2
invariant_of-self-2 c =
    let old = c.self.inside in
    let none =
    subst (λ (q : ItemsOf). item_in q c.args.entry.id ≡ None) (sym c.self.view_is) c.requires.new in
    let room = subst (λ (q : ItemsOf). is_full q ≡ false) (sym c.self.view_is) c.requires.room in
    let put =
    put_is old.items.entries _ _ _ (taken_at c.args.entry c.args.now) c.in_ok-_old.ensures.entries
    c.id-id.ensures.id none in
    bounds_more old.items.entries c.insert.new.self.entries old.kept old.kept old.lines.items
    c.extend_from_slice-put.new.self.items old.answered.keys c.args.entry c.args.now
    c.self.invariant room put (omega arith)

pub returns-clause-ok : goal.returns-clause-ok
returns-clause-ok c =
    let old = c.self.inside in
    let none =
    subst (λ (q : ItemsOf). item_in q c.args.entry.id ≡ None) (sym c.self.view_is) c.requires.new in
    let put =
    put_is old.items.entries _ _ _ (taken_at c.args.entry c.args.now) c.in_ok-_old.ensures.entries
    c.id-id.ensures.id none in
    let line : c.extend_from_slice-put.new.self.items
    ≡ old.lines.items ++ with_end (item_line c.args.entry) =
    grind (arith, common_steps) in
    queued_is c.args.self.now c.args.entry c.args.now old.items.entries c.insert.new.self.entries
    old.kept old.lines.items c.extend_from_slice-put.new.self.items old.answered.keys
    c.self.view_is put line
