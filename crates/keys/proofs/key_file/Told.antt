-- What the key of a file that is told is, and why it has none.
use Rattle.std.proofs.Common.{ℕ, List, Option, None, Some, Result, Ok, Err, inl, inr, subst, sym}
use Rattle.std.specs.Prelude.{IfErr}
use Rattle.keys.specs.key_file.KeyFiles.{HasBytes, IsOfAsking, KeyFileOf, Refuses, RefusesAt}
use Rattle.keys.specs.key_file.KeyFiles.{RefusesHad}
use Rattle.keys.specs.declared.key_file.fault.KeyFileFault.{KeyFileFault}

pub refused_at : (at : Option KeyFileOf) (had : Option (List ℕ))
    (r : Result (List ℕ) KeyFileFault) → HasBytes at had → IfErr r (Refuses had)
    → IfErr r (RefusesAt at)
refused_at at had (Ok key) has why = tt
refused_at None had (Err e) has why = tt
refused_at (Some file) had (Err e) has (inl unreadable) =
    inl (subst IsOfAsking (sym unreadable) tt)
refused_at (Some file) had (Err e) has (inr (inl memory)) = inl (subst IsOfAsking (sym memory) tt)
refused_at (Some file) had (Err e) has (inr (inr bytes)) =
    inr (inr (subst (λ (h : Option (List ℕ)). RefusesHad h e) has bytes))
