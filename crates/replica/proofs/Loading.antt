-- What a keeper loads is in range.
use Rattle.std.specs.Prelude.{⊤}
use Rattle.std.proofs.Common.{List, [], ◌∷◌}
use Rattle.acceptor.specs.declared.entry.Entry.{Entry}
use Rattle.learner.specs.Contents.{ListHolds}

any_entry : (log : List Entry) → ListHolds (λ e. ⊤) log
any_entry [] = tt
any_entry (e ∷ es) = (tt, any_entry es)
