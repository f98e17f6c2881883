-- An activity and those below it, one level down.
use Rattle.std.proofs.Common.{◌≡◌, ◌-◌, ℕ, zero, suc, ◌∷◌, codes, flat_map, refl, ap, arith}
use Rattle.std.specs.Prelude.{◌≢◌}
use Rattle.serde_json.specs.Data.{Data}
use Rattle.competition_file.specs.Items.{items_under}
use Rattle.schedule_views.specs.Spots.{spot, spots_down}

one_less : (n : ℕ) → n ≡ suc n - 1
one_less n = omega arith

pub one_down : (venue room round : Data) (n : ℕ) (d : Data) → n ≢ 0
    → spots_down venue room round n d
    ≡ spot venue room round d
    ∷ flat_map (spots_down venue room round (n - 1)) (items_under (codes "childActivities") d)
one_down venue room round zero d some = absurd (some refl)
one_down venue room round (suc n) d some =
    ap (λ (k : ℕ). spot venue room round d
    ∷ flat_map (spots_down venue room round k) (items_under (codes "childActivities") d))
    (one_less n)
