use Rattle.std.proofs.Common.{◌≡◌, ◌++◌, [], ◌∷◌, map, string_bytes, ap, ◌∙◌}
use Rattle.std.proofs.lemmas.List.{map-append}
use Rattle.toml.specs.View.{view}
use Rattle.hall_file.proofs.Desks.{none_read, read_more, fails_here}
use Rattle.hall_file.proofs.members.addresses_of.Goals as goal

pub loop-item-init : goal.loop-item-init
loop-item-init c = rw c.new-desks.ensures.items (none_read c.in_ok-items.items.now)

pub loop-item-preserved : goal.loop-item-preserved
loop-item-preserved c =
    let front = map string_bytes c.loop-item.desks.items in
    let text = c.in-Ok.text.now in
    let pushed : map string_bytes c.push.new.self.items ≡ front ++ text ∷ [] =
    ap (map string_bytes) c.in_ok-push.ensures.items
    ∙ map-append string_bytes c.loop-item.desks.items (c.in_ok-from_str.field-0 ∷ [])
    ∙ ap (λ t. front ++ t ∷ []) c.in_ok-from_str.ensures.ok in
    rw pushed
    (read_more c.in_ok-items.items.now c.loop-item.item-index front c.item-item.result text
    c.loop-item.invariant c.loop-item-test.true c.item-item.is
    (rw c.deref.ensures.value at c.in-Ok.ensures.ok))

pub returns-in-Err-clause-err : goal.returns-in-Err-clause-err
returns-in-Err-clause-err c =
    fails_here (view c.args.value.now) c.in_ok-items.items.now c.loop-item.item-index
    (map string_bytes c.loop-item.desks.items) c.item-item.result c.in-Err.fault
    c.in_ok-items.ensures.value c.in_ok-items.ensures.count c.loop-item.invariant
    c.loop-item-test.true c.item-item.is (rw c.deref.ensures.value at c.in-Err.ensures.err)
