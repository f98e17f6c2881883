-- The least of numbers, one more at a time.
use Rattle.std.proofs.Common.{◌≡◌, ◌++◌, ℕ, List, [], ◌∷◌, Option, None, Some, map, take, length}
use Rattle.std.proofs.Common.{get_or, ◌<◌, ◌+◌, min, refl, ap, sym, ◌∙◌}
use Rattle.std.specs.List.{filter_map}
use Rattle.std.proofs.lemmas.List.{append-nil, map_more}
use Rattle.std.proofs.lemmas.List.{Elements.filter_map-append, Sums.fold-append}
use Rattle.serde_json.specs.Data.{Data}
use Rattle.serde_json.specs.View.{view}
use Rattle.serde_json.specs.declared.value.Value.{Value}
use Rattle.formats.specs.Results.{least}
use Rattle.competition_file.specs.Fields.{lesser}

lesser_none : (o : Option ℕ) → o ≡ lesser o None
lesser_none None = refl
lesser_none (Some n) = refl

-- the least, where what comes last gives a number or none
least_next : (f : Data → Option ℕ) (ns : List ℕ) (d : Data) (o : Option ℕ) → o ≡ f d
    → least (ns ++ filter_map f (d ∷ [])) ≡ lesser (least ns) o
least_next f ns d None is =
    rw (← is) (ap least (append-nil ns) ∙ lesser_none (least ns))
least_next f [] d (Some n) is = rw (← is) refl
least_next f (m ∷ ns) d (Some n) is = rw (← is) (ap Some (fold-append min m ns (n ∷ [])))

-- of one value more, as a loop comes to it
pub least_more : (f : Data → Option ℕ) (vs : List Value) (i : ℕ) (v : Value) (o : Option ℕ)
    → i < length vs → v ≡ get_or vs i v → o ≡ f (view v)
    → lesser (least (filter_map f (map view (take i vs)))) o
    ≡ least (filter_map f (map view (take (i + 1) vs)))
least_more f vs i v o within is gives =
    sym
    (ap (λ ds. least (filter_map f ds)) (map_more view vs i v within)
    ∙ ap (λ w. least (filter_map f (map view (take i vs) ++ view w ∷ []))) (sym is)
    ∙ ap least (filter_map-append f (map view (take i vs)) (view v ∷ []))
    ∙ least_next f (filter_map f (map view (take i vs))) (view v) o gives)
