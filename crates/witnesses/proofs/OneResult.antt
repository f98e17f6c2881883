-- A competition's file with one result.
use Rattle.std.proofs.Common.{◌≡◌, refl, sym, ap, subst, ◌∙◌, ℕ, List, [], ◌++◌, Some, arith}
use Rattle.std.specs.{Fmt.digits, Prelude.codes, Str.IsUtf8}
use Rattle.json.specs.Json.{Json, Items, array, document, item, items, member, members, no_items}
use Rattle.json.specs.Json.{no_members, null, number, object, string, value}
use Rattle.json.specs.{Lex.lex, Lex.punctuate, Tree.json_tokens, Word.after_number, Word.word}
use Rattle.json.{specs.Print.escape_byte, specs.Print.print, proofs.Printed.Utf8.IsUtf8-are_ascii}
use Rattle.json.specs.{Print.print_from, Text.code_unit, Text.content, Text.short_escape}
use Rattle.commands.specs.Accepted.{round_in}
use Rattle.wcif.specs.Files.{without_mark}
use Rattle.wcif_results.specs.Faults.{faults, faults_of, file_rounds, is_accepted}
use Rattle.wcif_results.specs.Filled.{filled, filled_event, filled_file, filled_round}
use Rattle.wcif_results.specs.{MeetRounds.meet_rounds, Names.was_given}
use Rattle.wcif_results.specs.Results.{result_json, results_json}
use Rattle.witnesses.specs.Exported.{WorksExport, back, commands, front, result}

-- the file whose round has these results
abbrev with_results : Items → Json
with_results results =
    object (member (codes "persons") (array (item (object
    (member (codes "registrantId") (number (codes "1"))
    (member (codes "name") (string (codes "Ann Li")) (member (codes "registration")
    (object (member (codes "status") (string (codes "accepted")) no_members)) no_members))))
    no_items)) (member (codes "events") (array (item (object
    (member (codes "id") (string (codes "333")) (member (codes "rounds") (array (item (object
    (member (codes "id") (string (codes "333-r1"))
    (member (codes "results") (array results) no_members))) no_items)) no_members))) no_items))
    no_members))

abbrev before : Json
before = with_results no_items

abbrev after : Json
after =
    with_results (item (object (member (codes "personId") (number (codes "1"))
    (member (codes "ranking") (number (codes "1")) (member (codes "attempts") (array (item (object
    (member (codes "result") (number (codes "900"))
    (member (codes "reconstruction") null no_members))) no_items))
    (member (codes "best") (number (codes "900"))
    (member (codes "average") (number (codes "0")) no_members)))))) no_items)

is_plain : without_mark (front ++ back) ≡ front ++ back
unfolding without_mark
is_plain = refl

reads_before : document (front ++ back) ≡ Some before
unfolding items members value lex punctuate content word after_number short_escape code_unit
reads_before = refl

reads_after : document (front ++ (result ++ back)) ≡ Some after
unfolding items members value lex punctuate content word after_number short_escape code_unit
reads_after = refl

no_faults : faults commands before ≡ []
unfolding round_in faults_of file_rounds is_accepted meet_rounds was_given digits
no_faults = refl

fills : filled commands before ≡ after
unfolding round_in filled_file filled_event filled_round meet_rounds results_json result_json digits
fills = refl

prints : front ++ (result ++ back) ≡ print (json_tokens after)
unfolding print_from escape_byte digits
prints = refl

pub works : WorksExport
works = record {
  exports = (
    before,
    record {
      short = omega arith;
      utf8 =
          let P : List ℕ → Type 0 = IsUtf8 in
          subst P (sym is_plain) (IsUtf8-are_ascii (front ++ back) refl);
      value = ap (λ (s : List ℕ). document s) is_plain ∙ reads_before;
      shallow = omega arith;
    },
    no_faults,
    record {
      printed = prints ∙ ap (λ (d : Json). print (json_tokens d)) (sym fills);
      reads_back = reads_after ∙ ap (λ (d : Json). Some d) (sym fills);
      utf8 = IsUtf8-are_ascii (front ++ (result ++ back)) refl;
    },
  );
}
