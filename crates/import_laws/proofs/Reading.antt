-- The bytes of a competition's file are read as its value.
use Rattle.std.proofs.Common.{◌≡◌, refl, sym, ap, ◌∙◌, ℕ, ◌≤◌, arith, Bool, false, List, [], ◌∷◌}
use Rattle.std.proofs.Common.{◌++◌, append-nil, Some}
use Rattle.std.specs.{List.AllByRecursion, Str.IsUtf8}
use Rattle.std.proofs.lemmas.Str.{IsUtf8-append, IsUtf8-nil}
use Rattle.json.specs.Print.{print, print_from, separator, token_text, ends}
use Rattle.json.{specs.Token.Token, proofs.Printed.Trees.ArePrintable-json_tokens}
use Rattle.json.proofs.Printed.{Trees.value-json_tokens, Tokens.tokens-print, Utf8.IsUtf8-separator}
use Rattle.serde_json.specs.{Data.Data, Read.read, Read.max_depth}
use Rattle.wcif.specs.Files.{Holds, without_mark}
use Rattle.import_laws.specs.{Competitions.Competition, Held.IsHeld}
use Rattle.import_laws.specs.Spelled.{file_json, spelled}
use Rattle.import_laws.proofs.{Datas.file_data, Datas.spells_file, Values.Spells, Values.HasText}
use Rattle.json.specs.Json as json
use Rattle.json.specs.Tree as tree

printed_text : (b : Bool) (ts : List Token) → AllByRecursion HasText ts → IsUtf8 (print_from b ts)
unfolding print_from
printed_text b [] h = IsUtf8-nil
printed_text b (t ∷ ts) h =
    IsUtf8-append (separator b t) (token_text t ++ print_from (ends t) ts) (IsUtf8-separator b t)
    (IsUtf8-append (token_text t) (print_from (ends t) ts) h.0 (printed_text (ends t) ts h.1))

pub read_back : (j : json.Json) (d : Data) (n : ℕ) → n ≤ 127 → Spells j d n
    → read (print (tree.json_tokens j)) ≡ Some d
read_back j d n few s =
    let deep = s.shallow in
    rw (ap (json.value max_depth) (tokens-print (tree.json_tokens j)
    (ArePrintable-json_tokens j s.numbers) ∙ sym (append-nil (tree.json_tokens j)))
    ∙ value-json_tokens j max_depth [] (omega (arith, deep, few))) s.reads

no_mark : (c : Competition) → without_mark (spelled c) ≡ spelled c
unfolding without_mark file_json print_from
no_mark c = refl

pub holds : (c : Competition) → IsHeld c → Holds (spelled c) (file_data c)
holds c h =
    let s = spells_file c h in
    let deep = s.as_shallow in
    record {
      short = h.short;
      utf8 =
          rw (no_mark c) (printed_text false (tree.json_tokens (file_json c)) s.texts);
      value = ap read (no_mark c) ∙ read_back (file_json c) (file_data c) 7 (omega arith) s;
      shallow = omega (arith, deep);
    }
