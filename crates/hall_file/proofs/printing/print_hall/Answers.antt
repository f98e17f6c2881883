use Rattle.std.proofs.Common.{◌≡◌, arith, string_bytes, length, vec_len}
use Rattle.std.proofs.lemmas.{List.length-map, Str.IsUtf8-had}
use Rattle.hall_file.specs.{Files.members_of, Halls.key_text, Halls.texts_of, Lines.IsDocument}
use Rattle.hall_file.proofs.Printed.{shallow, reads_printed}
use Rattle.hall_file.proofs.printing.print_hall.Goals as goal

pub returns-in-Ok : goal.returns-in-Ok
returns-in-Ok c =
    let file = c.args.file.now in
    let read = c.in-Ok.ensures.reads_back in
    let back = rw (c.in_ok-table.ensures, c.deref.ensures.value, c.key.ensures) at read in
    let is : IsDocument (string_bytes c.in-Ok.text)
    (members_of file.hall (texts_of file) (key_text file)) =
    record {
      utf8 = IsUtf8-had (string_bytes c.in-Ok.text) c.in-Ok.text.ok;
      value = back (shallow file.hall (texts_of file) (key_text file));
    } in
    let counted : vec_len file.desks ≡ length file.desks.items = omega (arith, file.desks.ok.0) in
    record {
      text = is;
      reads_back = λ short addresses some.
          reads_printed (string_bytes c.in-Ok.text) file.hall (texts_of file) (key_text file) short
          is (omega arith)
          (rw (length-map file.desks.items string_bytes, ← counted) file.three_or_five) addresses
          some;
    }
