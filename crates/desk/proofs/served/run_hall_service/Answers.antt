use Rattle.std.proofs.Common.{inl, inr, option_map, refl, string_bytes}
use Rattle.std.proofs.KnownBytes.{Keeps-refl}
use Rattle.desk_requests.specs.declared.fault.DeskFault.TheVariants as fault
use Rattle.lines.specs.declared.fault.RunFault.TheVariants as run
use Rattle.desk.proofs.served.run_hall_service.Goals as goal

pub returns-in_default-clause-ends : goal.returns-in_default-clause-ends
returns-in_default-clause-ends g c =
    inl (fault.Run run.NoMemory, c.tell-in_default.ensures, inr refl, refl, Keeps-refl _)

pub returns-then-not-may_serve-clause-ends : goal.returns-then-not-may_serve-clause-ends
returns-then-not-may_serve-clause-ends g c =
    inr (
      c.in-Ok.hall,
      c.in-Ok.ensures.ok.0,
      c.in-Ok.ensures.ok.1,
      inl (
        refl,
        rw (c.deref.ensures.value, c.in-Ok-addresses_of.ensures, c.if-not-may_serve.true)
            at c.may_serve.ensures.asked,
        Keeps-refl _,
      ),
    )

pub returns-clause-ends : goal.returns-clause-ends
returns-clause-ends g c =
    inr (
      c.in-Ok.hall,
      c.in-Ok.ensures.ok.0,
      c.in-Ok.ensures.ok.1,
      inr (
        c.service_of-service.result,
        option_map string_bytes c.in-Ok-entry_key_file.entry_key,
        c.in-Ok-entry_key_file.ensures.ok,
        rw (
          c.path_of.ensures,
          c.in-Ok-hall_key_file.ensures.ok,
          c.path_of-2.ensures,
          c.deref-2.ensures.value,
          c.in-Ok-addresses_of.ensures,
        ) at c.service_of-service.ensures,
        rw (c.deref.ensures.value, c.in-Ok-addresses_of.ensures, c.if-not-may_serve.false)
            at c.may_serve.ensures.asked,
        c.run_service.ensures.ends,
      ),
    )
