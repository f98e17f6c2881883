use Rattle.std.proofs.Common.{◌≡◌, ◌++◌, ◌∙◌, List, [], ◌∷◌, ℕ, false, nat_eq, ap, codes, flat_map}
use Rattle.std.proofs.{Common.length, Common.refl, Common.sym, lemmas.Result.on_ok_weaker}
use Rattle.attempts.specs.declared.{Unit.Unit as Measure, Value.Value}
use Rattle.markup.proofs.board_page.Steps.{two_parts, when_ok}
use Rattle.table_views.specs.Recent.{standing_words, value_words}
use Rattle.table_views.proofs.recent.push_standing.Goals as goal

-- where something is
something_stands : (unit : Measure) (values : List Value) → nat_eq (length values) 0 ≡ false
    → flat_map (value_words unit) values ++ codes "on record now" ≡ standing_words unit values
something_stands unit [] some = absurd (cc some)
something_stands unit (value ∷ values) some = refl

pub returns : goal.returns
returns c =
    let out = c.args.out.now.items in
    let values = c.args.values.now in
    on_ok_weaker c.extend_from_slice-2.result (λ whole.
    two_parts out (flat_map (value_words c.args.unit) values) (codes "on record now") _ _
    c.in_ok-push_values.ensures whole
    ∙ ap (λ (words : List ℕ). out ++ words)
    (something_stands c.args.unit values (sym c.is_empty.ensures ∙ c.if-is_empty.false)))
    (when_ok c.extend_from_slice-2.result _ _ _ c.extend_from_slice-2.ensures.items)
