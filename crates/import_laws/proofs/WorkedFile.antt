-- The worked file.
use Rattle.std.proofs.Common.{◌≡◌, refl, subst, true, length, arith, leb-true}
use Rattle.import_laws.specs.Worked.{bob, cy, ada, zoe, meet, file, printed, plain}
use Rattle.import_laws.specs.{Held.IsPerson, Held.IsText, Held.IsNumber, Held.IsHeld, SetUp.set_up}
use Rattle.import_laws.{specs.Competitions.Person, specs.Laws.IsImportedTo, proofs.Whole.good_files}
use Rattle.json.proofs.Printed.Utf8.{are_ascii, IsUtf8-are_ascii}
use Rattle.std.specs.{Char.encode_utf8, Fmt.digits, Str.chars, Str.is_utf8}
use Rattle.json.specs.Print.{escape_byte, print_from}
use Rattle.ucd_table.specs.Rows.{value_in}
use Rattle.ucd_category.specs.GeneralCategory.{general_category}
use Rattle.ucd_category.specs.GeneralCategoryRows.{general_category_rows}
use Rattle.texts.specs.{Names.is_clear_name, Table.rows}
use Rattle.wcif.specs.{declared.options.Edition.TheVariants.Four, Lines.lines}
use Rattle.import_laws.specs.Spelled.{spelled, person_json, round_json, event_json, file_json}

pub bytes_are : spelled meet ≡ file
unfolding digits escape_byte print_from person_json round_json event_json file_json
bytes_are = refl

pub lines_are : lines (set_up Four meet) ≡ printed
unfolding digits rows
lines_are = refl

clear_ada : is_clear_name ada.name ≡ true
unfolding encode_utf8 chars is_utf8 value_in general_category general_category_rows is_clear_name
clear_ada = refl

clear_zoe : is_clear_name zoe.name ≡ true
unfolding encode_utf8 chars is_utf8 value_in general_category general_category_rows is_clear_name
clear_zoe = refl

-- a person whose texts are ASCII
can_be_spelled : (p : Person) → are_ascii p.email ≡ true → are_ascii p.name ≡ true
    → IsText p.wca_id → IsNumber p.number → IsPerson p
can_be_spelled p email name wca_id number = record {
  email = IsUtf8-are_ascii _ email;
  name = IsUtf8-are_ascii _ name;
  wca_id = wca_id;
  number = number;
}

pub is_held : IsHeld meet
is_held = record {
  name = IsUtf8-are_ascii _ refl;
  persons = (
    can_be_spelled ada refl refl (IsUtf8-are_ascii _ refl) (omega arith),
    (
      can_be_spelled bob refl refl tt tt,
      (
        can_be_spelled cy refl refl tt (omega arith),
        (
          can_be_spelled zoe refl refl tt (omega arith),
          tt,
        ),
      ),
    ),
  );
  entrants = (
    record {
      number = 2;
      has_number = refl;
      number_within = (omega arith, omega arith);
      name = clear_ada;
      few = omega arith;
      among = (refl, (refl, tt));
      once = (refl, (refl, tt));
    },
    (
      record {
        number = 1;
        has_number = refl;
        number_within = (omega arith, omega arith);
        name = clear_zoe;
        few = omega arith;
        among = (refl, tt);
        once = (refl, tt);
      },
      tt,
    ),
  );
  own_numbers = (refl, (refl, tt));
  own_names = (refl, (refl, tt));
  few_events = omega arith;
  events = (
    record {
      rounds = (omega arith, omega arith);
      each = (
        record {
          format = refl;
          cutoff = ((omega arith, omega arith), (omega arith, omega arith));
          limit = (omega arith, omega arith);
          advance = (omega arith, omega arith);
        },
        (
          record { format = refl; cutoff = tt; limit = (omega arith, omega arith); advance = tt },
          tt,
        ),
      );
      few = omega arith;
    },
    (
      record {
        rounds = (omega arith, omega arith);
        each = (record { format = refl; cutoff = tt; limit = tt; advance = tt }, tt);
        few = omega arith;
      },
      tt,
    ),
  );
  own_events = (refl, (refl, tt));
  short = rw bytes_are (leb-true (length file) 67108864 refl);
}

pub is_imported : IsImportedTo plain file (set_up Four meet)
is_imported =
    subst (λ bytes. IsImportedTo plain bytes (set_up Four meet)) bytes_are
    (good_files plain meet is_held)
