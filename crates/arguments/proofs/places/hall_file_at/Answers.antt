use Rattle.std.proofs.Common.{codes, inl, inr, refl}
use Rattle.clap.specs.Words.{found_of}
use Rattle.arguments.proofs.Found.{none_found, some_found}
use Rattle.arguments.proofs.places.hall_file_at.Goals as goal

pub returns-in-Some : goal.returns-in-Some
returns-in-Some c = record {
  file_is =
      inl (some_found (found_of c.args.found.now) (codes "config") c.get_str.result _
      c.get_str.ensures c.in-Some.is);
  no_hall = c.in_ok-without.ensures;
  no_address = c.in_ok-without-2.ensures;
}

pub returns-in-None : goal.returns-in-None
returns-in-None c = record {
  file_is =
      inr (
        none_found (found_of c.args.found.now) (codes "config") c.get_str.result c.get_str.ensures
            c.in-None.is,
        refl,
      );
  no_hall = c.in_ok-without.ensures;
  no_address = c.in_ok-without-2.ensures;
}
