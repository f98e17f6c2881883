use Rattle.std.proofs.Common.{◌+◌, ◌-◌, ◌∙◌, sym, ap, [], ◌∷◌, ◌++◌, length, take, drop, inl, Ok}
use Rattle.std.proofs.Common.{arith, length-drop}
use Rattle.cube.specs.notation.model.Scan.{space_len, behind_spaces, move_named, scan}
use Rattle.cube.proofs.notation.{Joined.with_moves, Steps.read_end, Steps.read_too_many}
use Rattle.cube.proofs.notation.Steps.{empty_from, some_from, read_none, read_last, read_more}
use Rattle.cube.proofs.notation.reading.read_tokens.Goals as goal

pub returns-in_default : goal.returns-in_default
returns-in_default c =
    let rest = c.loop-taken.rest.now in
    let word =
    ap (λ k. take k rest) (sym c.word_len.ensures.value) ∙ sym c.split_at.ensures.front in
    inl (read_none (length c.args.text.now) c.loop-taken._taken c.loop-taken.moves.items rest
    c.args.text.now c.loop-taken-test.true c.loop-taken.invariant.told
    (ap move_named word ∙ sym c.move_of.ensures ∙ c.in_default.is))

pub returns-then-is_empty : goal.returns-then-is_empty
returns-then-is_empty c =
    let rest = c.loop-taken.rest.now in
    let word =
    ap (λ k. take k rest) (sym c.word_len.ensures.value) ∙ sym c.split_at.ensures.front in
    let behind =
    ap (λ k. drop k rest) (sym c.word_len.ensures.value) ∙ sym c.split_at.ensures.back in
    inl (ap Ok (c.new.ensures ∙ c.in_ok-push.ensures.items)
    ∙ read_last (length c.args.text.now) c.loop-taken._taken c.loop-taken.moves.items rest
    c.args.text.now c.in-Some.turn c.loop-taken-test.true c.loop-taken.invariant.told
    (ap move_named word ∙ sym c.move_of.ensures ∙ c.in-Some.is) (behind
    ∙ empty_from _ (sym c.is_empty.ensures ∙ c.if-is_empty.true)))

pub loop-taken-preserved : goal.loop-taken-preserved
loop-taken-preserved c =
    let rest = c.loop-taken.rest.now in
    let word =
    ap (λ k. take k rest) (sym c.word_len.ensures.value) ∙ sym c.split_at.ensures.front in
    let behind =
    ap (λ k. drop k rest) (sym c.word_len.ensures.value) ∙ sym c.split_at.ensures.back in
    let total = length c.args.text.now in
    record {
      within =
          omega (
            arith,
            ap length c.without_spaces-rest.ensures,
            length-drop (space_len c.split_at.result.1.now) c.split_at.result.1.now,
            c.split_at.ensures.back_len,
            c.loop-taken.invariant.within,
          );
      told =
          ap (λ ms. with_moves ms
          (scan total (400 - (c.loop-taken._taken + 1)) c.without_spaces-rest.result.now))
          c.in_ok-push.ensures.items
          ∙ ap (λ r. with_moves (c.loop-taken.moves.items ++ c.in-Some.turn ∷ [])
          (scan total (400 - (c.loop-taken._taken + 1)) r)) (c.without_spaces-rest.ensures
          ∙ ap behind_spaces (sym behind))
          ∙ read_more total c.loop-taken._taken c.loop-taken.moves.items rest c.args.text.now
          c.in-Some.turn c.loop-taken-test.true c.loop-taken.invariant.told
          (ap move_named word ∙ sym c.move_of.ensures ∙ c.in-Some.is)
          (λ e. some_from _ (sym c.is_empty.ensures ∙ c.if-is_empty.false) (sym behind ∙ e));
    }

pub returns-then-is_empty-2 : goal.returns-then-is_empty-2
returns-then-is_empty-2 c =
    inl (read_end (length c.args.text.now) c.loop-taken._taken c.loop-taken.moves.items
    c.loop-taken.rest.now c.args.text.now c.loop-taken-test.false c.loop-taken.invariant.told
    (empty_from c.loop-taken.rest.now (sym c.is_empty-2.ensures ∙ c.if-is_empty-2.true)))

pub returns : goal.returns
returns c =
    inl (read_too_many (length c.args.text.now) c.loop-taken._taken c.loop-taken.moves.items
    c.loop-taken.rest.now c.args.text.now c.loop-taken-test.false c.loop-taken.invariant.told
    (some_from c.loop-taken.rest.now (sym c.is_empty-2.ensures ∙ c.if-is_empty-2.false)))
