-- A file that is not read holds no value, and is not exported.
use Rattle.std.proofs.Common.{◌≡◌, ◌≢◌, ◌≤◌, ◌∙◌, ℕ, List, arith, refl, sym}
use Rattle.json.specs.{Json.Json, Tree.depth}
use Rattle.texts.specs.declared.command.Command.{Command}
use Rattle.wcif.specs.Files.{most_levels}
use Rattle.wcif_results.specs.{declared.exporting.ExportFault.ExportFault, Files.ExportFails}
use Rattle.wcif_results.specs.Files.{Holds, ReadFails}
use Rattle.wcif_results.specs.declared.exporting.ExportFault.TheVariants.{TooLong, NotJson, TooDeep}
use Rattle.wcif_results.specs.declared.exporting.ExportFault.TheVariants.{Refused, NoMemory}

pub unread_fails : (cs : List Command) (bytes : List ℕ) (fault : ExportFault)
    → ReadFails bytes fault → ExportFails cs bytes fault
unread_fails cs bytes TooLong h = h
unread_fails cs bytes (NotJson line column) h = h
unread_fails cs bytes TooDeep h = h
unread_fails cs bytes (Refused found) h = absurd h
unread_fails cs bytes NoMemory h = h

pub holds_nothing : (bytes : List ℕ) (fault : ExportFault) → ReadFails bytes fault
    → fault ≢ NoMemory → (d : Json) → Holds bytes d → ⊥
holds_nothing bytes TooLong h other d held = omega (arith, h, held.short)
holds_nothing bytes (NotJson line column) h other d held =
    let none = sym (h.1 held.utf8) ∙ held.value in absurd cc
holds_nothing bytes TooDeep h other d held =
    let some = sym h.3 ∙ held.value in
    let same : h.0 ≡ d = cc in
    let shallow : depth h.0 ≤ most_levels = rw same held.shallow in
    omega (arith, h.4, shallow)
holds_nothing bytes (Refused found) h other d held = absurd h
holds_nothing bytes NoMemory h other d held = other refl
