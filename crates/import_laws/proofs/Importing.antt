-- A file that is held without a fault is imported to its commands.
use Rattle.std.proofs.Common.{◌≡◌, refl, sym, ap, ◌∙◌, ℕ, List, [], Some, arith, unwrap_or}
use Rattle.serde_json.specs.{Data.Data, Data.null, Data.depth, Read.read}
use Rattle.texts.specs.declared.command.Command.{Command}
use Rattle.wcif.specs.declared.file.FileFault.{FileFault, TheVariants.NoMemory}
use Rattle.wcif.specs.declared.file.FileFault.TheVariants.{TooLong, NotJson, TooDeep, Refused}
use Rattle.wcif.specs.{declared.options.Options.Options, Commands.commands, Faults.faults}
use Rattle.wcif.specs.Files.{Holds, FileFails, without_mark}
use Rattle.import_laws.specs.Laws.{IsImportedTo}

one_value : (bytes : List ℕ) (d e : Data) → read (without_mark bytes) ≡ Some d
    → read (without_mark bytes) ≡ Some e → e ≡ d
one_value bytes d e is other = ap (λ o. unwrap_or o null) (sym other ∙ is)

no_fault : (options : Options) (bytes : List ℕ) (d : Data) → Holds bytes d
    → faults options d ≡ [] → (fault : FileFault) → FileFails options bytes fault → fault ≡ NoMemory
no_fault options bytes d held none TooLong h =
    absurd (let short = held.short in omega (arith, short, h))
no_fault options bytes d held none (NotJson fault) h =
    let nothing = h.1 held.utf8 in let something = held.value in absurd (cc)
no_fault options bytes d held none TooDeep h =
    absurd (let same = one_value bytes d h.0 held.value h.3 in
    let shallow = held.shallow in
    let deep = h.4 in omega (arith, ap depth same, shallow, deep))
no_fault options bytes d held none (Refused found) h =
    absurd (h.3 (ap (faults options) (one_value bytes d h.0 held.value h.1.value) ∙ none))
no_fault options bytes d held none NoMemory h = refl

pub imported : (options : Options) (bytes : List ℕ) (d : Data) (made : List Command)
    → Holds bytes d → faults options d ≡ [] → made ≡ commands options d
    → IsImportedTo options bytes made
imported options bytes d made held none is = record {
  sets_up = (d, held, none, is);
  only =
      λ others h. h.3 ∙ ap (commands options) (one_value bytes d h.0 held.value h.1.value) ∙ sym is;
  faultless = no_fault options bytes d held none;
}
