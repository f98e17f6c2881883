-- What is read of a hall's file.
use Rattle.std.proofs.Common.{◌≡◌, refl, [], ◌∷◌, Some, arith}
use Rattle.std.specs.{Float.Numeral.scan_numeral, Fmt.digits, List.IsDistinct, Str.chars}
use Rattle.std.specs.Prelude.{bytes_eq, codes, pos}
use Rattle.toml.specs.Data.{Members, integer, member, no_members, string}
use Rattle.toml.specs.Parse.{after_element, atom, expression, header_key, items, key_equals}
use Rattle.toml.specs.Parse.{line as toml_line, lines, members, parse_document, skip_bom, val}
use Rattle.toml.specs.Tables.{along_dots, along_header, at_key, define}
use Rattle.toml_parser.specs.Lexical.{skip_from, skip_ws}
use Rattle.toml_parser.specs.Numbers.{decimal_number, number, plain_number, prefixed_integer}
use Rattle.toml_parser.specs.Numbers.{underscore_fits, unquoted, word_len, word_value}
use Rattle.toml_parser.specs.Strings.{body, escape, escape_char, hex_escape, key_after, one_line}
use Rattle.toml_parser.specs.Strings.{quoted, simple_key, special}
use Rattle.hall_file.specs.{Files.IsKnown, Members.SaysDesks, Members.list_of}
use Rattle.witnesses.specs.HallFiles.{WorksHallFile, addresses, bare_file, file, open_file}

abbrev desks : Rattle.toml.specs.Data.Data
desks = list_of (string (codes "a:1") ∷ string (codes "b:20") ∷ string (codes "c:3") ∷ [])

-- the members, in the order of their names
abbrev members_of_file : Members
members_of_file =
    member (codes "desks") desks
    (member (codes "hall") (integer (pos 7)) (member (codes "key") (string (codes "k")) no_members))

abbrev members_of_open : Members
members_of_open =
    member (codes "desks") desks (member (codes "hall") (integer (pos 7)) no_members)

abbrev members_of_bare : Members
members_of_bare = member (codes "hall") (integer (pos 7)) no_members

reads : (parse_document file ≡ Some members_of_file)
    × (parse_document open_file ≡ Some members_of_open)
    × (parse_document bare_file ≡ Some members_of_bare)
unfolding parse_document lines toml_line expression val items members after_element atom key_equals
    header_key skip_bom define at_key along_dots along_header skip_ws skip_from underscore_fits
    prefixed_integer decimal_number plain_number number word_value word_len unquoted hex_escape
    escape_char escape special body one_line quoted simple_key key_after scan_numeral
reads = (refl, refl, refl)

apart : IsDistinct bytes_eq addresses
unfolding IsDistinct
apart = ((refl, (refl, tt)), ((refl, tt), (tt, tt)))

says_desks : SaysDesks desks addresses
unfolding chars digits
says_desks = record {
  value = refl;
  count = refl;
  addresses =
      record {
        each = (
          (codes "a", codes "1", refl, (λ is. cc, refl), (1, omega arith, omega arith, refl)),
          (
            (codes "b", codes "20", refl, (λ is. cc, refl), (20, omega arith, omega arith, refl)),
            (
              (codes "c", codes "3", refl, (λ is. cc, refl), (3, omega arith, omega arith, refl)),
              tt,
            ),
          ),
        );
        apart = apart;
      };
}

known_bare : IsKnown bare_file members_of_bare
unfolding lib.Utf8.encode
known_bare = record {
  opens =
      record {
        short = omega arith;
        document = record { utf8 = (bare_file, (refl, refl)); value = reads.2 };
      };
  known = refl;
}

pub works : WorksHallFile
unfolding lib.Utf8.encode
works = record {
  says =
      record {
        members = members_of_file;
        has_hall =
            record {
              known =
                  record {
                    opens =
                        record {
                          short = omega arith;
                          document = record { utf8 = (file, (refl, refl)); value = reads.0 };
                        };
                    known = refl;
                  };
              value = integer (pos 7);
              found = refl;
              says = refl;
            };
        lists = (desks, refl, says_desks);
        says = (string (codes "k"), refl, refl);
      };
  open_says =
      record {
        members = members_of_open;
        has_hall =
            record {
              known =
                  record {
                    opens =
                        record {
                          short = omega arith;
                          document =
                              record { utf8 = (open_file, (refl, refl)); value = reads.1 };
                        };
                    known = refl;
                  };
              value = integer (pos 7);
              found = refl;
              says = refl;
            };
        lists = (desks, refl, says_desks);
        says = refl;
      };
  bare = (
    members_of_bare,
    7,
    record { known = known_bare; value = integer (pos 7); found = refl; says = refl },
    refl,
  );
}
