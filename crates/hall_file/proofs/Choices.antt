-- What a file says leaves no choice.
use Rattle.std.proofs.Common.{◌≡◌, ℕ, List, [], ◌∷◌, ◌++◌, map, length, refl, ap, sym, ◌∙◌, arith}
use Rattle.std.proofs.Common.{Option, None, Some, Bool, true, false, ◌||◌}
use Rattle.std.specs.List.{AllByRecursion, IsDistinct, list_any}
use Rattle.std.specs.Prelude.{bytes_eq, Err, Ok}
use Rattle.std.proofs.lemmas.Bool.{false≢true}
use Rattle.std.proofs.lemmas.{List.length-map, Option.same_Some}
use Rattle.std.proofs.lemmas.Map.Keys.{IsDistinct-head, IsDistinct-tail}
use Rattle.toml.specs.Data.{Data, string, as_str, as_array, Members, get_member}
use Rattle.toml.specs.View.{items_of}
use Rattle.hall_file.specs.Addresses.{IsAddress, is_count}
use Rattle.hall_file.specs.Files.{SaysHall, Refuses, Opens}
use Rattle.hall_file.specs.Members.{hall_name, desks_name, key_name, unknown_name, key_of, list_of}
use Rattle.hall_file.specs.Members.{SaysDesks, FailsDesks, HasItem, hall_of, SaysKey}
use Rattle.hall_file.{proofs.Texts.same_texts, specs.declared.fault.KeyFault.KeyFault}
use Rattle.hall_file.specs.declared.fault.{DesksFault.DesksFault, HallFault.HallFault}
use Rattle.hall_file.specs.declared.fault.DesksFault.TheVariants.{NotList, BadCount, NotText}
use Rattle.hall_file.specs.declared.fault.DesksFault.TheVariants.{NotAddress, Twice}
use Rattle.hall_file.specs.declared.fault.HallFault.TheVariants as fault
use Rattle.hall_file.specs.declared.fault.Member.TheVariants as name

same_items : (ds es : List Data) → items_of ds ≡ items_of es → ds ≡ es
same_items [] [] e = refl
same_items (d ∷ ds) (x ∷ es) e = let tail : ds ≡ es = same_items ds es (cc) in cc
same_items _ _ e = absurd (cc)

same_lists : (ds es : List Data) → list_of ds ≡ list_of es → ds ≡ es
same_lists ds es e = let inner : items_of ds ≡ items_of es = cc in same_items ds es inner

same_strings : (xs ys : List (List ℕ)) → map string xs ≡ map string ys → xs ≡ ys
same_strings [] [] e = refl
same_strings (x ∷ xs) (y ∷ ys) e = let tail : xs ≡ ys = same_strings xs ys (cc) in cc
same_strings _ _ e = absurd (cc)

-- texts that a list of items is, cut at one of the items
record IsCut (desks front : List (List ℕ)) (d : Data) : Type 0 where
  text : List ℕ
  rest : List (List ℕ)
  value : d ≡ string text
  whole : desks ≡ front ++ text ∷ rest

cut_at : (front desks : List (List ℕ)) (d : Data) (rest : List Data)
    → map string front ++ d ∷ rest ≡ map string desks → IsCut desks front d
cut_at [] [] d rest e = absurd (cc)
cut_at (f ∷ front) [] d rest e = absurd (cc)
cut_at [] (t ∷ desks) d rest e = record { text = t; rest = desks; value = cc; whole = refl }
cut_at (f ∷ front) (t ∷ desks) d rest e =
    let cut = cut_at front desks d rest (cc) in
    let whole = cut.whole in
    record { text = cut.text; rest = cut.rest; value = cut.value; whole = cc }

all_here : (P : List ℕ → Type 0) (front : List (List ℕ)) (x : List ℕ) (rest : List (List ℕ))
    → AllByRecursion P (front ++ x ∷ rest) → P x
all_here P [] x rest all = all.0
all_here P (y ∷ front) x rest all = all_here P front x rest all.1

or_step : (b later : Bool) → (b || later) ≡ true → (b ≡ true → ⊥) → later ≡ true
or_step true later e none = absurd (none refl)
or_step false later e none = e

-- of distinct texts none is in front of itself
apart_front : (front : List (List ℕ)) (text : List ℕ) (rest : List (List ℕ))
    → IsDistinct bytes_eq (front ++ text ∷ rest) → list_any (bytes_eq text) front ≡ true → ⊥
apart_front [] text rest distinct found = false≢true found
apart_front (y ∷ front) text rest distinct found =
    let apart = all_here (λ z. bytes_eq y z ≡ false) front text rest
    (IsDistinct-head bytes_eq y (front ++ text ∷ rest) distinct) in
    let others : (bytes_eq text y ≡ true → ⊥) = λ same.
    false≢true (sym apart ∙ (same_texts y text).1 (sym ((same_texts text y).0 same))) in
    apart_front front text rest (IsDistinct-tail bytes_eq y (front ++ text ∷ rest) distinct)
    (or_step (bytes_eq text y) (list_any (bytes_eq text) front) found others)

cut_of : (d one : Data) (front desks : List (List ℕ)) (k : ℕ) → SaysDesks d desks
    → HasItem d front one k → IsCut desks front one
cut_of d one front desks k says has =
    cut_at front desks one has.rest
    (same_lists (map string front ++ one ∷ has.rest) (map string desks)
    (sym has.value ∙ says.value))

-- a value that is a list of a hall's desks fails in no way
desks_exclude : (d : Data) (desks : List (List ℕ)) (fault : DesksFault) → SaysDesks d desks
    → FailsDesks d fault → ⊥
desks_exclude d desks NotList says none =
    let found = ap as_array says.value in absurd (cc)
desks_exclude d desks (BadCount n) says (ds, value, counted, bad) =
    let same = same_lists (map string desks) ds (sym says.value ∙ value) in
    let count : length desks ≡ n = sym (length-map desks string) ∙ ap length same ∙ sym counted in
    false≢true (sym bad ∙ ap is_count (sym count) ∙ says.count)
desks_exclude d desks (NotText k) says (front, one, has, none) =
    let cut = cut_of d one front desks k says has in
    let found = ap as_str cut.value in absurd (cc)
desks_exclude d desks (NotAddress k) says (front, text, has, wrong) =
    let cut = cut_of d (string text) front desks k says has in
    let same : text ≡ cut.text = cc in
    wrong (rw same (all_here IsAddress front cut.text cut.rest
    (rw cut.whole at says.addresses.each)))
desks_exclude d desks (Twice k) says (front, text, has, address, found) =
    let cut = cut_of d (string text) front desks k says has in
    let same : text ≡ cut.text = cc in
    apart_front front cut.text cut.rest (rw cut.whole at says.addresses.apart) (rw (← same) found)

-- a file is one document
same_members : (bytes : List ℕ) (ms ns : Members) → Opens bytes ms → Opens bytes ns → ms ≡ ns
same_members bytes ms ns one other = same_Some ms ns (sym one.document.value ∙ other.document.value)

-- a member is one value
same_value : (name : List ℕ) (ms ns : Members) (d e : Data) → ms ≡ ns → get_member name ms ≡ Some d
    → get_member name ns ≡ Some e → d ≡ e
same_value name ms ns d e same one other =
    same_Some d e (sym one ∙ ap (get_member name) same ∙ other)

-- a list of texts is one of these texts alone
pub same_texts_of : (texts desks : List (List ℕ))
    → list_of (map string texts) ≡ list_of (map string desks) → desks ≡ texts
same_texts_of texts desks e =
    sym (same_strings texts desks (same_lists (map string texts) (map string desks) e))

same_keys : (ms ns : Members) (key lock : Option (List ℕ)) → ms ≡ ns
    → SaysKey ms key → SaysKey ns lock → key ≡ lock
same_keys ms ns None None same a b = refl
same_keys ms ns None (Some path) same a (d, found, is) =
    let both = sym found ∙ ap (get_member key_name) (sym same) ∙ a in absurd (cc)
same_keys ms ns (Some path) None same (d, found, is) b =
    let both = sym found ∙ ap (get_member key_name) same ∙ b in absurd (cc)
same_keys ms ns (Some path) (Some other) same (d, found, is) (e, at, says) =
    let value = same_value key_name ms ns d e same found at in
    let oks : Ok path ≡ Ok other = sym is ∙ ap key_of value ∙ says in cc

pub one_hall : (bytes : List ℕ) (hall other : ℕ) (desks others : List (List ℕ))
    (key lock : Option (List ℕ)) → SaysHall bytes hall desks key → SaysHall bytes other others lock
    → (hall ≡ other) × (desks ≡ others) × (key ≡ lock)
one_hall bytes hall other desks others key lock a b =
    let same = same_members bytes a.members b.members a.has_hall.known.opens
    b.has_hall.known.opens in
    let number = same_value hall_name a.members b.members a.has_hall.value b.has_hall.value same
    a.has_hall.found b.has_hall.found in
    let list = same_value desks_name a.members b.members a.lists.0 b.lists.0 same a.lists.1
    b.lists.1 in
    let oks = sym a.has_hall.says ∙ ap hall_of number ∙ b.has_hall.says in (
      cc,
      same_strings desks others (same_lists (map string desks) (map string others)
          (sym a.lists.2.value ∙ list ∙ b.lists.2.value)),
      same_keys a.members b.members key lock same a.says b.says,
    )

-- a member that says a path fails in no way
key_excludes : (ms : Members) (key : Option (List ℕ)) (d : Data) (fault : KeyFault) → SaysKey ms key
    → get_member key_name ms ≡ Some d → key_of d ≡ Err fault → ⊥
key_excludes ms None d fault none found fails = let both = sym found ∙ none in absurd (cc)
key_excludes ms (Some path) d fault (e, at, is) found fails =
    let value = same_Some e d (sym at ∙ found) in
    let both = sym is ∙ ap key_of value ∙ fails in absurd (cc)

-- what a file that says a hall is refused for
pub refused_for : (bytes : List ℕ) (hall : ℕ) (desks : List (List ℕ)) (key : Option (List ℕ))
    (why : HallFault) → SaysHall bytes hall desks key → Refuses bytes why → why ≡ fault.NoMemory
refused_for bytes hall desks key fault.TooLong s r =
    absurd (omega (arith, s.has_hall.known.opens.short))
refused_for bytes hall desks key (fault.NotUtf8 line) s (short, no_text, at) =
    absurd (no_text s.has_hall.known.opens.document.utf8)
refused_for bytes hall desks key (fault.NotToml line reason) s (short, text, none, kind, span, at) =
    let value = s.has_hall.known.opens.document.value in absurd (cc)
refused_for bytes hall desks key (fault.Unknown line text) s (ms, opens, unknown, at) =
    let known = s.has_hall.known in
    let same = same_members bytes ms s.members opens known.opens in
    let found = sym unknown ∙ ap unknown_name same ∙ known.known in absurd (cc)
refused_for bytes hall desks key (fault.Missing name.Hall) s (ms, known, none) =
    let has = s.has_hall in
    let same = same_members bytes ms s.members known.opens has.known.opens in
    let found = sym none ∙ ap (get_member hall_name) same ∙ has.found in absurd (cc)
refused_for bytes hall desks key (fault.Hall line wrong) s (ms, known, d, found, fails, at) =
    let has = s.has_hall in
    let same = same_members bytes ms s.members known.opens has.known.opens in
    let value = same_value hall_name ms s.members d has.value same found has.found in
    let both = sym fails ∙ ap hall_of value ∙ has.says in absurd (cc)
refused_for bytes hall desks key (fault.Missing name.Desks) s (ms, other, has, none) =
    let same = same_members bytes ms s.members has.known.opens s.has_hall.known.opens in
    let found = sym none ∙ ap (get_member desks_name) same ∙ s.lists.1 in absurd (cc)
refused_for bytes hall desks key (fault.Desks line wrong) s (ms, other, has, d, found, fails, at) =
    let same = same_members bytes ms s.members has.known.opens s.has_hall.known.opens in
    let value = same_value desks_name ms s.members d s.lists.0 same found s.lists.1 in
    absurd (desks_exclude s.lists.0 desks wrong s.lists.2 (rw value at fails))
refused_for bytes hall desks key (fault.Key line wrong) s
    (ms, other, others, has, lists, d, found, fails, at) =
    let same = same_members bytes ms s.members has.known.opens s.has_hall.known.opens in
    absurd (key_excludes s.members key d wrong s.says
    (ap (get_member key_name) (sym same) ∙ found) fails)
refused_for bytes hall desks key fault.NoMemory s r = refl
