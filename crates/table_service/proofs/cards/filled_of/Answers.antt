use Rattle.std.proofs.Common.{◌∙◌, ℕ, List, ap, subst}
use Rattle.std.proofs.lemmas.Result.{IfOk-weaker}
use Rattle.acceptor.specs.declared.entry.Entry.{Entry}
use Rattle.last_change.specs.Entering.{AreLastEntering}
use Rattle.table_service.specs.Pages.{AreFilled, all_typed_at, stands_of}
use Rattle.table_service.proofs.cards.filled_of.Goals as goal

pub returns : goal.returns
returns c =
    let log = c.args.mirror.now in
    let round = c.args.round in
    let number = c.args.number in
    let last = c.in_ok-last.last in
    let are : AreLastEntering log round number (stands_of log round number) last =
    subst (λ (stands : ℕ). AreLastEntering log round number stands last)
    c.stands_of-stands.ensures.stands c.in_ok-last.ensures in
    IfOk-weaker c.all_typed_at.result _ (AreFilled log round number) (λ texts is. (
      last,
      are,
      is
          ∙ ap (λ (entries : List Entry). all_typed_at entries round number last)
          c.log.ensures.entries,
    ))
    c.all_typed_at.ensures
