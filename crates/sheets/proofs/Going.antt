-- What is kept of who goes on from a round tells it of each number.
use Rattle.std.proofs.Common.{◌≡◌, ◌∙◌, ℕ, List, [], nat_eq, Option, Some, None, refl, ap, suc}
use Rattle.std.proofs.{Common.arith, Common.Bool, lemmas.Bool.Decides.nat_tests, Math.Path.fun_ext}
use Rattle.std.specs.{List.list_any, Option.option_map}
use Rattle.formats.specs.declared.events.Event.{Event}
use Rattle.rounds.specs.Tables.{Table}
use Rattle.advancement.proofs.Listed.{is_listed}
use Rattle.texts.specs.declared.command.{Command.Command, Settings.Settings}
use Rattle.commands.specs.Accepted.{Opened, opened, round_in, seen_by, seen_of, who_advance}
use Rattle.commands.specs.Accepted.{advanced_of}
use Rattle.sheets.specs.Sheet.{goes_through}

-- a number is one of those who advance from a round exactly where it goes on from it
advances_there : (seen : Option (Settings × Table)) (n : ℕ)
    → list_any (λ m. nat_eq m n) (who_advance seen) ≡ goes_through seen n
advances_there None n = refl
advances_there (Some round) n = is_listed round.1 round.0.advance n

flips : (x y : ℕ) → nat_eq x y ≡ nat_eq y x
flips x y = grind (arith, nat_tests)

-- either way round
flipped : (ns : List ℕ) (n : ℕ) → list_any (nat_eq n) ns ≡ list_any (λ m. nat_eq m n) ns
flipped ns n = ap (λ (p : ℕ → Bool). list_any p ns) (fun_ext (flips n))

-- those who advanced when the next round was opened are those who go on
pub advanced_then : (cs : List Command) (e : Event) (r : ℕ) (ns : List ℕ)
    → Some ns ≡ advanced_of cs e r → (n : ℕ) → list_any (nat_eq n) ns
    ≡ goes_through (seen_of cs e r) n
advanced_then cs e r ns is n = step (opened e (suc r) [] cs) is
  where
    step : (next : Option Opened)
        → Some ns ≡ option_map (λ o. who_advance (round_in e r o.before)) next
        → list_any (nat_eq n) ns ≡ goes_through (seen_by e r cs next) n
    step None same = absurd (cc same)
    step (Some next) same =
        let here : ns ≡ who_advance (round_in e r next.before) = cc same in
        flipped ns n ∙ ap (list_any (λ m. nat_eq m n)) here
        ∙ advances_there (round_in e r next.before) n
