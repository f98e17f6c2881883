-- The edition that holds behind one more command.
use Rattle.std.proofs.Common.{◌≡◌, ℕ, List, [], ◌∷◌, ◌++◌, unwrap_or, refl, ap, ◌∙◌, sym}
use Rattle.std.proofs.Common.{append-nil, subst}
use Rattle.texts.specs.declared.command.Command.{Command}
use Rattle.commands.specs.Accepted.{edition_set, edition_after, edition_in}
use Rattle.commands.specs.{declared.index.Index.Index, model.Kept.IsIndexOf, model.Kept.IsAccepted}

edition_push : (edition : ℕ) (cs : List Command) (c : Command)
    → edition_after edition (cs ++ c ∷ []) ≡ unwrap_or (edition_set c) (edition_after edition cs)
edition_push edition [] c = refl
edition_push edition (d ∷ ds) c = edition_push (unwrap_or (edition_set d) edition) ds c

-- a command that is accepted
pub accepted_more : (cs : List Command) (c : Command) (index : Index) (old new : ℕ)
    → IsIndexOf (cs ++ c ∷ []) index → old ≡ edition_in cs
    → new ≡ unwrap_or (edition_set c) old → IsAccepted (cs ++ c ∷ []) index new
accepted_more cs c index old new is holds sets = record {
  index = is;
  edition =
      sets ∙ ap (unwrap_or (edition_set c)) holds ∙ sym (edition_push 1 cs c);
}

-- a command that is refused
pub accepted_refused : (cs : List Command) (index : Index) (edition : ℕ)
    → IsIndexOf (cs ++ []) index → edition ≡ edition_in cs → IsAccepted cs index edition
accepted_refused cs index edition is holds =
    record {
      index = subst (λ (xs : List Command). IsIndexOf xs index) (append-nil cs) is;
      edition = holds;
    }

pub accepted_kept : (cs : List Command) (index : Index) (edition : ℕ) → IsIndexOf cs index
    → edition ≡ edition_in cs → IsAccepted cs index edition
accepted_kept cs index edition is holds = record { index = is; edition = holds }

pub ruleset acceptances = (accepted_more, accepted_refused, accepted_kept)
