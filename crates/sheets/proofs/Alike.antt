-- Lists of commands that have the same sheets.
use Rattle.std.proofs.Common.{◌≡◌, ◌∙◌, ℕ, suc, true, List, [], ◌∷◌, ◌++◌, Option, option_map}
use Rattle.std.proofs.Common.{unwrap_or, refl, flat_map, None, Some, sym, ap}
use Rattle.std.proofs.Math.Path.{fun_ext}
use Rattle.csv.specs.Writing.{row_text, default_writer}
use Rattle.formats.specs.declared.{events.Event.Event, styles.SheetStyle.SheetStyle as Style}
use Rattle.formats.specs.Events.{unit_of, attempts_of}
use Rattle.texts.specs.declared.command.{Command.Command, Settings.Settings}
use Rattle.rounds.specs.Tables.{Table, entrant, standings}
use Rattle.commands.specs.Accepted.{Opened, name_of, opened, plus_command, round_in, round_of}
use Rattle.commands.specs.Accepted.{seen_by, seen_of}
use Rattle.commands.proofs.OneMore.{keeps_open, opened_kept}
use Rattle.sheets.specs.Sheet.{header, first_line, second_line, record_of, is_marked, sheet}
use Rattle.sheets.specs.Sheet.{entrant_line, line_of, text_of_round, entrant_record, table_of_round}
use Rattle.formats.specs.declared.styles.SheetStyle.TheVariants as style

-- what is printed by names, by what the next round sees and by the round is alike where these are
by_parts : (print : (ℕ → Option (List ℕ)) → Option (Settings × Table) → Settings × Table → List ℕ)
    (names others : ℕ → Option (List ℕ)) (seen saw now was : Option (Settings × Table))
    → ((n : ℕ) → names n ≡ others n) → seen ≡ saw → now ≡ was
    → option_map (print names seen) now ≡ option_map (print others saw) was
by_parts print names others seen saw now was named seen_alike same =
    ap (λ (name : ℕ → Option (List ℕ)). option_map (print name seen) now) (fun_ext named)
    ∙ ap (λ (before : Option (Settings × Table)). option_map (print others before) now) seen_alike
    ∙ ap (option_map (print others saw)) same

-- everybody has the same name
abbrev pub AreNamedAlike : List Command → List Command → Type 0
AreNamedAlike cs ds = (n : ℕ) → name_of cs n ≡ name_of ds n

-- a round has the same sheets where it is the same, is seen alike by the next one, and everybody
-- has the same name
pub sheets_alike : (cs ds : List Command) → AreNamedAlike cs ds → (s : Style) (event : Event)
    (round position : ℕ) → round_of cs event round ≡ round_of ds event round
    → seen_of cs event round ≡ seen_of ds event round
    → sheet s cs event round position ≡ sheet s ds event round position
sheets_alike cs ds names style.Text event round position same seen =
    by_parts (λ name before r.
    first_line event round r.0 r.1.is_closed position ++ second_line r.0
    ++ flat_map (λ n.
    unwrap_or (option_map
    (entrant_line (unit_of event) r.0 r.1 (is_marked r.1 before) n (unwrap_or (name n) []))
    (entrant r.1 n)) []) (standings r.1))
    (name_of cs) (name_of ds) (seen_of cs event round) (seen_of ds event round)
    (round_of cs event round) (round_of ds event round) names seen same
sheets_alike cs ds names style.Table event round position same seen =
    by_parts (λ name before r.
    row_text default_writer (header (attempts_of r.0.format))
    ++ flat_map (λ n.
    unwrap_or (option_map
    (entrant_record (unit_of event) r.0 r.1 (is_marked r.1 before) n (unwrap_or (name n) []))
    (entrant r.1 n)) []) (standings r.1))
    (name_of cs) (name_of ds) (seen_of cs event round) (seen_of ds event round)
    (round_of cs event round) (round_of ds event round) names seen same

-- How the next round sees one

-- the commands in front of the opening of a round
abbrev pub before_of : List Command → Event → ℕ → Option (List Command)
before_of cs e r = option_map (λ (o : Opened). o.before) (opened e r [] cs)

-- a command that opens no round and takes none back leaves them
pub before_kept : (cs : List Command) (c : Command) (e : Event) (r : ℕ) → keeps_open e r c ≡ true
    → before_of (cs ++ c ∷ []) e r ≡ before_of cs e r
before_kept cs c e r keeps =
    ap (option_map (λ (o : Opened). o.before)) (opened_kept e r cs c keeps)
    ∙ step (opened e r [] cs)
  where
    step : (o : Option Opened)
        → option_map (λ (x : Opened). x.before) (option_map (plus_command c) o)
        ≡ option_map (λ (x : Opened). x.before) o
    step None = refl
    step (Some o) = refl

-- a round as it is, or as commands in front of the next one's opening make it
abbrev seen_with : Event → ℕ → Option (List Command) → Option (Settings × Table)
    → Option (Settings × Table)
seen_with e r None now = now
seen_with e r (Some before) now = round_in e r before

seen_is : (cs : List Command) (e : Event) (r : ℕ)
    → seen_of cs e r ≡ seen_with e r (before_of cs e (suc r)) (round_of cs e r)
seen_is cs e r = step (opened e (suc r) [] cs)
  where
    step : (next : Option Opened) → seen_by e r cs next
        ≡ seen_with e r (option_map (λ (o : Opened). o.before) next) (round_of cs e r)
    step None = refl
    step (Some next) = refl

-- a round that is the same is seen alike, where the same commands are in front of the next one
pub seen_alike : (cs ds : List Command) (e : Event) (r : ℕ) → round_of cs e r ≡ round_of ds e r
    → before_of cs e (suc r) ≡ before_of ds e (suc r) → seen_of cs e r ≡ seen_of ds e r
seen_alike cs ds e r same before =
    seen_is cs e r
    ∙ ap (λ (o : Option (List Command)). seen_with e r o (round_of cs e r)) before
    ∙ ap (seen_with e r (before_of ds e (suc r))) same
    ∙ sym (seen_is ds e r)
