use Rattle.std.proofs.Common.{◌≡◌, ◌++◌, drop, map}
use Rattle.card_forms.specs.Remarks.{noted}
use Rattle.card_forms.proofs.command_texts.CommandTexts.noted.Given as goal

-- what was noted, and what is left to note, are all
abbrev pub invariant-loop-text : goal.invariant-loop-text
invariant-loop-text l =
    l.texts.items ++ map (noted l.remark) (drop l.text-index l.self) ≡ map (noted l.remark) l.self
