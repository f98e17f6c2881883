use Rattle.std.proofs.Common.{refl, subst}
use Rattle.hall_file.{specs.Addresses.AreAddresses, proofs.Choices.same_texts_of}
use Rattle.hall_file.proofs.making.hall_of_addresses.Goals as goal

pub returns-clause-ok : goal.returns-clause-ok
returns-clause-ok c =
    let says = rw c.in_ok-value.ensures at c.in_ok-desks.ensures.ok in
    let same = same_texts_of _ _ says.value in
    record {
      number = refl;
      desks = same;
      addresses = subst AreAddresses same says.addresses;
      no_key = refl;
    }
