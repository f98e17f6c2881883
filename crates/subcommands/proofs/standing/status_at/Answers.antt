use Rattle.std.proofs.Common.{◌∙◌, Bor, List, ℕ, ap, inl, inr, map, refl}
use Rattle.std.proofs.KnownBytes.{Keeps-refl}
use Rattle.desk_requests.specs.declared.fault.DeskFault.TheVariants as fault
use Rattle.lines.specs.declared.fault.RunFault.TheVariants as run
use Rattle.subcommands.proofs.standing.status_at.Goals as goal

pub returns-in-Err-key_of_hall : goal.returns-in-Err-key_of_hall
returns-in-Err-key_of_hall g c =
    rw c.in-File.is (inl (
      c.in-Err-key_of_hall.fault,
      c.tell-in-Err-key_of_hall.ensures,
      inr (
        c.in-Ok-hall_of_file.hall,
        c.in-Ok-hall_of_file.ensures.ok.0,
        c.in-Ok-hall_of_file.ensures.ok.1,
        c.in-Err-key_of_hall.ensures.err,
      ),
      refl,
      Keeps-refl _,
    ))

pub returns-in_default : goal.returns-in_default
returns-in_default g c =
    rw c.in-File.is
    (inl (fault.Run run.NoMemory, c.tell-in_default.ensures, inl (inr refl), refl, Keeps-refl _))

pub returns-in-Ok-addresses_of : goal.returns-in-Ok-addresses_of
returns-in-Ok-addresses_of g c =
    let texts = ap (map (λ (t : Bor (List ℕ)). t.now)) c.deref.ensures.value in
    rw c.in-File.is (inr (
      c.in-Ok-hall_of_file.hall,
      c.in-Ok-hall_of_file.ensures.ok.0,
      c.in-Ok-hall_of_file.ensures.ok.1,
      c.in-Ok-key_of_hall.key,
      c.in-Ok-key_of_hall.ensures.ok,
      (
        record {
          hall = c.in-Ok-hall_of_file.hall.hall;
          addresses = c.deref.result;
          patience = c.args.patience;
          key = c.in-Ok-key_of_hall.key;
        },
        record {
          hall_is = refl;
          there = texts ∙ c.in-Ok-addresses_of.ensures;
          key_is = refl;
          patience_is = refl;
        },
        c.inquire-in-File.ensures,
      ),
    ))
