-- What is told, one after the other.
use Rattle.std.proofs.Common.{◌≡◌, refl, sym, ap, ◌∙◌, ℕ, List, [], ◌∷◌, ◌++◌, append_assoc}
use Rattle.serving.specs.TurnLaw.{Came, Began, Rested, Took, Turn}
use Rattle.polled.specs.Happenings.{Gave, Took as TookSome}
use Rattle.multiplex.specs.Passing.{Step, told, told_all, told_change, told_turns, Change}
use Rattle.multiplex.specs.model.Scenes.{told_changes}

pub turns_both : (k : ℕ) (ts us : List Turn)
    → told_turns k (ts ++ us) ≡ told_turns k ts ++ told_turns k us
turns_both k [] us = refl
turns_both k (Came piece ∷ ts) us = ap (λ z. Gave k piece ∷ z) (turns_both k ts us)
turns_both k (Took bytes ∷ ts) us = ap (λ z. TookSome k bytes ∷ z) (turns_both k ts us)
turns_both k (Began one ∷ ts) us = turns_both k ts us
turns_both k (Rested ∷ ts) us = turns_both k ts us

pub all_told_both : (ss rs : List Step) → told_all (ss ++ rs) ≡ told_all ss ++ told_all rs
all_told_both [] rs = refl
all_told_both (s ∷ ss) rs =
    ap (λ z. told s ++ z) (all_told_both ss rs)
    ∙ sym (append_assoc (told s) (told_all ss) (told_all rs))

pub changes_told_both : (cs ds : List Change)
    → told_changes (cs ++ ds) ≡ told_changes cs ++ told_changes ds
changes_told_both [] ds = refl
changes_told_both (c ∷ cs) ds =
    ap (λ z. told_change c ++ z) (changes_told_both cs ds)
    ∙ sym (append_assoc (told_change c) (told_changes cs) (told_changes ds))
