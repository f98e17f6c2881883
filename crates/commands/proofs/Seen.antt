-- What a round sees of the one before: who advanced from it, and how many competitors it has.
use Rattle.std.proofs.Common.{◌≡◌, ℕ, zero, suc, ◌-◌, ◌≤◌, true, false, ◌&&◌, ◌==◌, cond, List, []}
use Rattle.std.proofs.Common.{◌∷◌, ◌++◌, Option, Some, None, option_map, refl, ap, ◌∙◌, arith}
use Rattle.std.specs.Option.{option_or, option_map_or}
use Rattle.std.proofs.lemmas.Bool.Decides.{nat_tests}
use Rattle.formats.specs.{declared.events.Event.Event, Events.same_event}
use Rattle.texts.specs.declared.command.Command.{Command, TheVariants.Open, TheVariants.Cancel}
use Rattle.texts.specs.{declared.command.Settings.Settings, Fields.round_id}
use Rattle.rounds.specs.Tables.{Table}
use Rattle.commands.specs.Accepted.{Opened, opened, plus_command, competitors_of, competitors_seen}
use Rattle.commands.specs.Accepted.{seen_by, advanced_of, who_advance, round_in, round_of}
use Rattle.commands.specs.{declared.kept_rounds.KeptRound.KeptRound, model.Kept.kept_advanced}
use Rattle.commands.specs.model.Kept.{kept_seen, kept_competitors, seen_from, before_of, AreRounds}
use Rattle.commands.proofs.{Lookups.none_either, OneMore.before_opening}
use Rattle.commands.proofs.OneMore.{opened_kept, keeps_open, asked_open, asked_cancel}

-- what a round that was opened saw of the one before
abbrev saw : Event → ℕ → Opened → List ℕ × ℕ
saw e r o = seen_from (round_in e r o.before)

-- a command that opens no round and takes none back leaves what each saw, also where it changes the
-- round before
pub seen_same : (e : Event) (r : ℕ) (cs : List Command) (c : Command) → keeps_open e r c ≡ true
    → before_of (cs ++ c ∷ []) e r ≡ before_of cs e r
seen_same e zero cs c keeps = refl
seen_same e (suc r) cs c keeps =
    ap (option_map (saw e r)) (opened_kept e (suc r) cs c keeps) ∙ step (opened e (suc r) [] cs)
  where
    step : (x : Option Opened)
        → option_map (saw e r) (option_map (plus_command c) x) ≡ option_map (saw e r) x
    step None = refl
    step (Some o) = refl

-- a round that is opened sees the one before as it is
pub seen_open : (e f : Event) (r s : ℕ) (settings : Settings) (cs : List Command) → 1 ≤ s
    → before_of (cs ++ Open (round_id f s) settings ∷ []) e r ≡ option_or (before_of cs e r)
    (cond (same_event e f && r == s) (Some (seen_from (round_of cs f (s - 1)))) None)
seen_open e f zero s settings cs low =
    let other : (same_event e f && 0 == s) ≡ false = grind (arith, nat_tests) in
    rw other refl
seen_open e f (suc r) s settings cs low =
    asked_open (saw e r) e f (suc r) s settings cs (seen_from (round_of cs f (s - 1))) (λ o. refl)
    (before_opening (λ (x : Event) (before : Option (Settings × Table)). seen_from before) e f r s
    cs)

-- one that is taken back saw nothing
pub seen_cancel : (e f : Event) (r s : ℕ) (cs : List Command)
    → before_of (cs ++ Cancel (round_id f s) ∷ []) e r
    ≡ cond (same_event e f && r == s) None (before_of cs e r)
seen_cancel e f zero s cs = none_either (same_event e f && 0 == s) None refl
seen_cancel e f (suc r) s cs =
    asked_cancel (option_map (saw e r)) e f (suc r) s cs (λ o. refl)

-- By what is kept

pub competitors_alike : (cs : List Command) (xs : List KeptRound) (e : Event) (r : ℕ)
    → AreRounds cs xs → kept_competitors e xs r ≡ competitors_seen cs e r
competitors_alike cs xs e r are =
    ap (λ (round : Option (Settings × Table)).
    option_map_or (λ (seen : List ℕ × ℕ). seen.1) (kept_seen e (suc r) xs) (competitors_of round))
    (are.rounds e r)
    ∙ ap (λ (seen : Option (List ℕ × ℕ)).
    option_map_or (λ (x : List ℕ × ℕ). x.1) seen (competitors_of (round_of cs e r)))
    (are.seen e (suc r))
    ∙ step (opened e (suc r) [] cs)
  where
    step : (x : Option Opened)
        → option_map_or (λ (seen : List ℕ × ℕ). seen.1) (option_map (saw e r) x)
        (competitors_of (round_of cs e r)) ≡ competitors_of (seen_by e r cs x)
    step None = refl
    step (Some o) = refl

pub advanced_alike : (cs : List Command) (xs : List KeptRound) (e : Event) (r : ℕ)
    → AreRounds cs xs → kept_advanced e r xs ≡ advanced_of cs e r
advanced_alike cs xs e r are =
    ap (option_map (λ (seen : List ℕ × ℕ). seen.0)) (are.seen e (suc r))
    ∙ step (opened e (suc r) [] cs)
  where
    step : (x : Option Opened) → option_map (λ (seen : List ℕ × ℕ). seen.0) (option_map (saw e r) x)
        ≡ option_map (λ (next : Opened). who_advance (round_in e r next.before)) x
    step None = refl
    step (Some o) = refl

pub ruleset sightings = (competitors_alike, advanced_alike)
