-- For which attempts a solution was entered last, after one more command.
use Rattle.std.proofs.Common.{◌≡◌, zero, suc, Bool, true, false, ◌&&◌, ◌==◌, cond, ap, ◌∙◌}
use Rattle.std.proofs.Common.{ℕ, List, [], ◌∷◌, ◌++◌, Option, Some, None, option_map, is_some, refl}
use Rattle.std.{proofs.Common.unwrap_or, specs.Option.option_or, specs.Option.option_map_or}
use Rattle.std.proofs.lemmas.Bool.{false≢true}
use Rattle.formats.specs.{declared.events.Event.Event, Events.same_event}
use Rattle.texts.specs.declared.command.Command.{Command, TheVariants.Cancel}
use Rattle.texts.specs.Fields.{round_id}
use Rattle.commands.specs.Accepted.{Opened, opened, is_cancelled, plus_command, last_of, solving}
use Rattle.commands.specs.Accepted.{is_solved_since, is_solved, round_at, round_in, round_of}
use Rattle.commands.proofs.{Lookups.last_push, OneMore.asked_push, OneMore.asked_cancel}

-- what one more command makes of it, in a round that is open
abbrev solved_with : Event → ℕ → ℕ → ℕ → Command → Opened → Bool
solved_with e r k n c o = unwrap_or (solving e r k n c) (is_solved_since e r k n o)

since_push : (e : Event) (r k n : ℕ) (o : Opened) (c : Command)
    → is_solved_since e r k n (plus_command c o) ≡ solved_with e r k n c o
since_push e r k n o c =
    ap (λ (x : Option Bool). unwrap_or x false) (last_push (solving e r k n) o.since c)
    ∙ step (solving e r k n c) (last_of (solving e r k n) o.since)
  where
    step : (a b : Option Bool) → unwrap_or (option_or a b) false ≡ unwrap_or a (unwrap_or b false)
    step None b = refl
    step (Some x) b = refl

solved_push : (e : Event) (r k n : ℕ) (cs : List Command) (c : Command) → is_cancelled e r c ≡ false
    → is_solved (cs ++ c ∷ []) e r k n
    ≡ option_map_or (solved_with e r k n c) (opened e r [] cs) false
solved_push e r k n cs c stays =
    asked_push (λ o. option_map_or (is_solved_since e r k n) o false)
    (λ o. option_map_or (solved_with e r k n c) o false) e r cs c stays refl (λ s. refl)
    (λ o. since_push e r k n o c)

-- a command that enters nothing for the attempt, and takes no round back
pub solved_same : (e : Event) (r k n : ℕ) (cs : List Command) (c : Command)
    → is_cancelled e r c ≡ false → solving e r k n c ≡ None
    → is_solved (cs ++ c ∷ []) e r k n ≡ is_solved cs e r k n
solved_same e r k n cs c stays none =
    asked_push (λ o. option_map_or (is_solved_since e r k n) o false)
    (λ o. option_map_or (is_solved_since e r k n) o false) e r cs c stays refl (λ s. refl) (λ o.
    since_push e r k n o c
    ∙ ap (λ (x : Option Bool). unwrap_or x (is_solved_since e r k n o)) none)

-- a command that enters something for it, or for another one, in a round that is open
pub solved_entered : (e : Event) (r k n : ℕ) (cs : List Command) (c : Command) (b solved : Bool)
    → is_cancelled e r c ≡ false → solving e r k n c ≡ cond b (Some solved) None
    → (b ≡ true → is_some (round_of cs e r) ≡ true)
    → is_solved (cs ++ c ∷ []) e r k n ≡ cond b solved (is_solved cs e r k n)
unfolding round_in
solved_entered e r k n cs c false solved stays is there = solved_same e r k n cs c stays is
solved_entered e zero k n cs c true solved stays is there = absurd (false≢true (there refl))
solved_entered e (suc r) k n cs c true solved stays is there =
    solved_push e (suc r) k n cs c stays
    ∙ ap (λ (s : Option Bool).
    option_map_or (λ (o : Opened). unwrap_or s (is_solved_since e (suc r) k n o))
    (opened e (suc r) [] cs) false) is
    ∙ step (opened e (suc r) [] cs) (there refl)
  where
    step : (x : Option Opened) → is_some
        (option_map (λ (o : Opened). round_at e (suc r) (round_in e r o.before) o) x) ≡ true
        → option_map_or
        (λ (o : Opened). unwrap_or (Some solved) (is_solved_since e (suc r) k n o)) x false ≡ solved
    step None h = absurd (false≢true h)
    step (Some o) h = refl

-- nothing is entered in a round that is taken back
pub solved_cancel : (e f : Event) (r s k n : ℕ) (cs : List Command)
    → is_solved (cs ++ Cancel (round_id f s) ∷ []) e r k n
    ≡ cond (same_event e f && r == s) false (is_solved cs e r k n)
solved_cancel e f r s k n cs =
    asked_cancel (λ o. option_map_or (is_solved_since e r k n) o false) e f r s cs
    (λ o. since_push e r k n o (Cancel (round_id f s)))
