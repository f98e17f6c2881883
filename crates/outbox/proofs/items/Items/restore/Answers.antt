use Rattle.std.proofs.Common.{◌≡◌, ◌+◌, ℕ, sym, ◌∙◌, subst, arith, false, None}
use Rattle.outbox.specs.Items.{ItemsOf, is_full, item_in, taken_at}
use Rattle.outbox.proofs.Listed.{bounds_more, none_known, put_is, restored_more}
use Rattle.outbox.proofs.items.Items.restore.Goals as goal

pub invariant_of-self-2 : goal.invariant_of-self-2
invariant_of-self-2 c =
    let old = c.self.inside in
    let known =
    none_known c.args.self.now c.id.result c.find.result c.find.ensures
    (sym c.is_some.ensures ∙ c.if-is_some.false) in
    let none =
    subst (λ (q : ItemsOf). item_in q c.args.entry.id ≡ None) (sym c.self.view_is)
    (subst (λ (id : ℕ). item_in c.args.self.now id ≡ None) c.id.ensures.id known) in
    let room =
    subst (λ (q : ItemsOf). is_full q ≡ false) (sym c.self.view_is)
    (sym c.is_full.ensures ∙ c.if-is_full.false) in
    let put =
    put_is old.items.entries _ _ _ (taken_at c.args.entry c.args.now) c.in_ok-_old.ensures.entries
    c.id-id.ensures.id none in
    bounds_more old.items.entries c.insert.new.self.entries old.kept (old.kept + 1) old.lines.items
    old.lines.items old.answered.keys c.args.entry c.args.now c.self.invariant room put
    (omega arith)

pub returns : goal.returns
returns c =
    let old = c.self.inside in
    let known =
    none_known c.args.self.now c.id.result c.find.result c.find.ensures
    (sym c.is_some.ensures ∙ c.if-is_some.false) in
    let new = subst (λ (id : ℕ). item_in c.args.self.now id ≡ None) c.id.ensures.id known in
    let none = subst (λ (q : ItemsOf). item_in q c.args.entry.id ≡ None) (sym c.self.view_is) new in
    let put =
    put_is old.items.entries _ _ _ (taken_at c.args.entry c.args.now) c.in_ok-_old.ensures.entries
    c.id-id.ensures.id none in
    restored_more c.args.self.now c.args.entry c.args.now old.items.entries
    c.insert.new.self.entries old.kept old.lines.items old.answered.keys c.self.view_is new
    (sym c.is_full.ensures ∙ c.if-is_full.false) put
