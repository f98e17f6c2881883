use Rattle.std.proofs.Common.{rules, ◌≡◌, ◌≤◌, ◌<◌, ◌+◌, ◌-◌, ◌++◌, List, ℕ, ◌∙◌, ap, sym, take}
use Rattle.std.proofs.Common.{drop, drop-drop, length, slice_index, subst, arith}
use Rattle.lines.specs.{Reading.Reading, model.Stepping.IsRoomFor}
use Rattle.lines.proofs.Runs.{held_front, takes}
use Rattle.lines.proofs.line_reader.LineReader.take_run.Goals as goal

pub returns-clause-ok : goal.returns-clause-ok
returns-clause-ok c =
    let count : ℕ = c.run_length-count.result in
    let xs : List ℕ = c.self.inside.piece in
    let from : ℕ = c.self.inside.next in
    let to : ℕ = c.self.inside.end in
    let seen : Reading = record {
      lines = c.self.inside.lines;
      bytes = c.self.inside.bytes;
      held = drop from (take to xs);
      over = c.self.inside.is_over;
    } in
    let is : seen ≡ c.args.self.now = c.self.view_is in
    let few : count ≤ length (drop from (take to xs)) =
    subst (λ (r : Reading). count ≤ length r.held) (sym is) c.run_length-count.ensures.held in
    let inside : to ≤ length xs = omega arith in
    let front : take (from + count - from) (drop from xs) ≡ take count c.args.self.now.held =
    held_front xs from to count (from + count - from) (omega arith) c.self.invariant.0 inside few
    ∙ ap (λ (r : Reading). take count r.held) is in
    let room : 0 < count → IsRoomFor c.args.self.now (length c.args.line.now.items) count =
    search rules in
    let whole : count < length c.args.self.now.held
    → IsRoomFor c.args.self.now (length c.args.line.now.items) (count + 1)
    → slice_index c.args.self.now.held count ≡ 10 = search rules in
    takes c.args.self.now _ c.args.line.now.items c.extend_from_slice.new.self.items count
    (c.in_ok-extend_from_slice.ensures.items ∙ ap (λ x. c.args.line.now.items ++ x) front)
    (ap (λ x. record seen { held = x; bytes = seen.bytes + count })
    (sym (drop-drop count from (take to xs)))
    ∙ ap (λ (r : Reading). record r { held = drop count r.held; bytes = r.bytes + count }) is)
    c.run_length-count.ensures.held c.run_length-count.ensures.unended room whole
