-- Bytes that are put into a journal's file.
use Rattle.std.proofs.Common.{◌≡◌, ◌∙◌, ◌+◌, ◌++◌, ℕ, Bool, true, false, List, Option, None, Some}
use Rattle.std.proofs.Common.{ap, length, subst, sym}
use Rattle.std.proofs.Math.Seq.{take-length}
use Rattle.table_service.specs.Disks.{Appends, AppendsTo, DiskOf, Puts, PutsTo, Syncs, SyncsTo, disk}

module _ (bytes : List ℕ) where
  put_both : (done : Bool) (d e f : DiskOf) → AppendsTo true bytes d e → SyncsTo done e f
      → PutsTo done bytes d f
  put_both true d e f appends syncs =
      syncs ∙ ap (λ (x : DiskOf). disk x.bytes (length x.bytes) x.failures) appends
  put_both false d e f appends syncs = (
    length bytes,
    syncs ∙ ap (λ (x : DiskOf). disk x.bytes x.synced (x.failures + 1)) appends
        ∙ ap (λ (xs : List ℕ). disk (d.bytes ++ xs) d.synced (d.failures + 1))
        (sym (take-length bytes)),
  )

  pub put_done : (put done : Bool) (h0 h1 h2 : Option DiskOf) → put ≡ true
      → Appends put bytes h0 h1 → Syncs done h1 h2 → Puts done bytes h0 h2
  put_done put done None None None is appends syncs = tt
  put_done put done None None (Some f) is appends syncs = absurd syncs
  put_done put done None (Some e) h2 is appends syncs = absurd appends
  put_done put done (Some d) None h2 is appends syncs = absurd appends
  put_done put done (Some d) (Some e) None is appends syncs = absurd syncs
  put_done put done (Some d) (Some e) (Some f) is appends syncs =
      put_both done d e f (subst (λ (b : Bool). AppendsTo b bytes d e) is appends) syncs
