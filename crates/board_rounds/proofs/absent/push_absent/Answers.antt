use Rattle.std.proofs.Common.{◌≡◌, ◌++◌, ◌∙◌, List, ℕ, OnOk, flat_map, subst}
use Rattle.board_rounds.specs.Absent.{absent_in}
use Rattle.board_rounds.proofs.absent.push_absent.Goals as goal

pub returns : goal.returns
returns c =
    subst (λ (ns : List ℕ). OnOk c.push_absent_of.result (c.push_absent_of.new.out.items
    ≡ c.args.out.now.items ++ flat_map (absent_in c.args.meet.now.accepted c.args.table.now) ns))
    (c.deref.ensures.value ∙ c.in_ok-numbers.ensures.order) c.push_absent_of.ensures
