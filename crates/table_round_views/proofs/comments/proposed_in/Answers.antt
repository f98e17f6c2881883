use Rattle.std.proofs.Common.{◌≡◌, ◌∙◌, ◌++◌, ◌∷◌, [], List, Option, Some, None, ap, map, refl, sym}
use Rattle.std.proofs.{Common.zero-add, lemmas.List.FromFn.map-range_with_len_more}
use Rattle.std.specs.List.{range_with_len}
use Rattle.texts.specs.declared.command.Settings.{Settings}
use Rattle.table_round_views.specs.Comments.{first_of, first_some, proposed_at}
use Rattle.table_round_views.proofs.comments.proposed_in.Goals as goal

first_none : (o : Option Settings) → first_of o None ≡ o
first_none (Some s) = refl
first_none None = refl

-- one more, after the others
first_push : (os : List (Option Settings)) (o : Option Settings)
    → first_some (os ++ o ∷ []) ≡ first_of (first_some os) o
first_push [] o = first_none o
first_push (Some s ∷ os) o = refl
first_push (None ∷ os) o = first_push os o

pub loop-place-preserved : goal.loop-place-preserved
loop-place-preserved c =
    let f = proposed_at c.args.id c.args.text.now in
    let k = c.loop-place.place in
    c.first_of-found.ensures
    ∙ ap (λ (o : Option Settings). first_of c.loop-place.found o) c.in_ok-next.ensures
    ∙ ap (λ (o : Option Settings). first_of o (f k)) c.loop-place.invariant
    ∙ sym (first_push (map f (range_with_len 0 k)) (f k))
    ∙ sym (ap first_some (map-range_with_len_more f 0 k k (zero-add k)))
