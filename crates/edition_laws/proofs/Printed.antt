-- A sheet after its round was opened again and closed.
use Rattle.std.proofs.Common.{◌≡◌, ◌∙◌, ℕ, suc, List, [], ◌∷◌, ◌++◌, refl, sym, ap, append_assoc}
use Rattle.formats.specs.declared.events.Event.{Event}
use Rattle.texts.specs.declared.command.{Command.Command, RoundId.RoundId}
use Rattle.texts.specs.declared.command.Command.TheVariants.{Close, Reopen}
use Rattle.commands.specs.Accepted.{name_given, name_of, renaming}
use Rattle.commands.proofs.{Lookups.standing_kept, Mended.closes_as_before}
use Rattle.sheets.proofs.Alike.{AreNamedAlike, before_of, before_kept, seen_alike, sheets_alike}
use Rattle.edition_laws.specs.SheetsAsBefore.{PrintsAsBefore}

-- opening a round again and closing it opens none anew
before_again : (cs : List Command) (id : RoundId) (e : Event) (r : ℕ)
    → before_of (cs ++ Reopen id ∷ Close id ∷ []) e r ≡ before_of cs e r
before_again cs id e r =
    ap (λ (ds : List Command). before_of ds e r)
    (sym (append_assoc cs (Reopen id ∷ []) (Close id ∷ [])))
    ∙ before_kept (cs ++ Reopen id ∷ []) (Close id) e r refl
    ∙ before_kept cs (Reopen id) e r refl

-- and names nobody
named : (cs : List Command) (id : RoundId) → AreNamedAlike (cs ++ Reopen id ∷ Close id ∷ []) cs
named cs id n =
    ap (λ (ds : List Command). name_of ds n)
    (sym (append_assoc cs (Reopen id ∷ []) (Close id ∷ [])))
    ∙ standing_kept (name_given n) (renaming n) (cs ++ Reopen id ∷ []) (Close id) refl refl
    ∙ standing_kept (name_given n) (renaming n) cs (Reopen id) refl refl

pub sheets_as_before : PrintsAsBefore
sheets_as_before cs id style event round position allowed =
    sheets_alike (cs ++ Reopen id ∷ Close id ∷ []) cs (named cs id) style event round position
    (closes_as_before cs id event round allowed)
    (seen_alike (cs ++ Reopen id ∷ Close id ∷ []) cs event round
    (closes_as_before cs id event round allowed) (before_again cs id event (suc round)))
