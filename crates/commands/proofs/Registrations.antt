-- The kept competitors, and what one more command makes of them.
use Rattle.std.proofs.Common.{◌≡◌, ℕ, Bool, true, false, not, ◌==◌, ◌&&◌, ◌||◌, cond, is_some, List}
use Rattle.std.proofs.Common.{[], ◌∷◌, ◌++◌, length, Option, Some, None, option_map, unwrap_or}
use Rattle.std.proofs.Common.{refl, ap, ◌∙◌, sym, subst, eqb-true, eq-eqb}
use Rattle.std.specs.{Prelude.bytes_eq, Prelude.nat_eq, List.list_any, HashMap.get}
use Rattle.std.specs.Option.{option_or, option_and_then, option_map_or}
use Rattle.std.proofs.lemmas.Bool.{false≢true}
use Rattle.texts.specs.declared.command.Command.{Command, TheVariants.Register, TheVariants.Rename}
use Rattle.commands.specs.declared.competitors.Competitors.{Competitors}
use Rattle.commands.specs.Accepted.{name_given, renaming, last_of, name_of, is_called, names_other}
use Rattle.commands.specs.Accepted.{is_taken, is_registered}
use Rattle.commands.specs.model.Kept.{naming, name_at, holder, AreCompetitors, Notes}
use Rattle.commands.proofs.Lookups.{none_from, some≢none, stands, standing_push, standing_kept}
use Rattle.commands.proofs.{Lookups.at_end, Lookups.found_push, Names.same_name, Names.own_name}

-- Names that are taken

-- who has a name is registered by one of these commands
taken_in : (cs ds : List Command) (n q : ℕ) (name : List ℕ) → (q == n) ≡ false
    → is_called cs q name ≡ true → is_some (name_of ds q) ≡ true
    → list_any (names_other cs n name) ds ≡ true
taken_in cs [] n q name other called some = absurd (false≢true some)
taken_in cs (Register m given ∷ ds) n q name other called some =
    step (m == q) refl some (taken_in cs ds n q name other called)
  where
    rest : Bool
    rest = list_any (names_other cs n name) ds

    or_later : (b : Bool) → rest ≡ true → (b || rest) ≡ true
    or_later true h = refl
    or_later false h = h

    step : (b : Bool) → (m == q) ≡ b → is_some (option_or
        (option_map (unwrap_or (last_of (renaming q) ds)) (cond b (Some given) None))
        (name_of ds q)) ≡ true → (is_some (name_of ds q) ≡ true → rest ≡ true)
        → ((not (m == n) && is_called cs m name) || rest) ≡ true
    step true same h later =
        let number : m ≡ q = eqb-true m q same in
        ap (λ (k : ℕ). (not (k == n) && is_called cs k name) || rest) number
        ∙ ap (λ (b : Bool). (not b && is_called cs q name) || rest) other
        ∙ ap (λ (b : Bool). b || rest) called
    step false same h later = or_later (not (m == n) && is_called cs m name) (later h)
taken_in cs (_ ∷ ds) n q name other called some = taken_in cs ds n q name other called some

called_some : (cs : List Command) (q : ℕ) (name : List ℕ) → is_called cs q name ≡ true
    → is_some (name_of cs q) ≡ true
called_some cs q name = step (name_of cs q)
  where
    step : (o : Option (List ℕ)) → option_map_or (bytes_eq name) o false ≡ true → is_some o ≡ true
    step None h = absurd (false≢true h)
    step (Some x) h = refl

pub is_taken_by : (cs : List Command) (n q : ℕ) (name : List ℕ) → (q == n) ≡ false
    → is_called cs q name ≡ true → is_taken cs n name ≡ true
is_taken_by cs n q name other called =
    taken_in cs cs n q name other called (called_some cs q name called)

-- another number that has the name
pub record IsOther (cs : List Command) (n : ℕ) (name : List ℕ) : Type 0 where
  pub number : ℕ
  pub other : (number == n) ≡ false
  pub called : is_called cs number name ≡ true

one_of : (cs : List Command) (n m : ℕ) (name : List ℕ) (rest : Bool)
    → ((not (m == n) && is_called cs m name) || rest) ≡ true → (rest ≡ true → IsOther cs n name)
    → IsOther cs n name
one_of cs n m name rest h later = step (m == n) (is_called cs m name) refl refl h
  where
    step : (a b : Bool) → (m == n) ≡ a → is_called cs m name ≡ b → ((not a && b) || rest) ≡ true
        → IsOther cs n name
    step true b is has h = later h
    step false true is has h = record { number = m; other = is; called = has }
    step false false is has h = later h

other_in : (cs ds : List Command) (n : ℕ) (name : List ℕ)
    → list_any (names_other cs n name) ds ≡ true → IsOther cs n name
other_in cs [] n name h = absurd (false≢true h)
other_in cs (Register m given ∷ ds) n name h =
    one_of cs n m name (list_any (names_other cs n name) ds) h (other_in cs ds n name)
other_in cs (_ ∷ ds) n name h = other_in cs ds n name h

-- whether the number to which the name was given last is another one, and has it still
abbrev pub taken_from : List Command → ℕ → List ℕ → Option ℕ → Bool
taken_from cs n name None = false
taken_from cs n name (Some m) = not (m == n) && is_called cs m name

-- a name is taken where who was given it last is another one, and has it still
pub taken_is : (cs : List Command) (n : ℕ) (name : List ℕ) (kept : Competitors)
    → AreCompetitors cs kept → taken_from cs n name (holder kept name) ≡ is_taken cs n name
taken_is cs n name kept are = by (is_taken cs n name) refl (holder kept name) refl
  where
    held : IsOther cs n name → (o : Option ℕ) → holder kept name ≡ o → taken_from cs n name o ≡ true
    held o None is = absurd (some≢none o.number (sym (are.names o.number name o.called) ∙ is))
    held o (Some m) is =
        let both : Some o.number ≡ Some m = sym (are.names o.number name o.called) ∙ is in
        let same : m ≡ o.number = cc in
        ap (λ (k : ℕ). not (k == n) && is_called cs k name) same
        ∙ ap (λ (b : Bool). not b && is_called cs o.number name) o.other ∙ o.called

    free : is_taken cs n name ≡ false → (o : Option ℕ) → taken_from cs n name o ≡ false
    free is None = refl
    free is (Some m) = step (m == n) (is_called cs m name) refl refl
      where
        step : (a b : Bool) → (m == n) ≡ a → is_called cs m name ≡ b → (not a && b) ≡ false
        step true b other has = refl
        step false false other has = refl
        step false true other has =
            absurd (false≢true (sym is ∙ is_taken_by cs n m name other has))

    by : (b : Bool) → is_taken cs n name ≡ b → (o : Option ℕ) → holder kept name ≡ o
        → taken_from cs n name o ≡ b
    by true is o at = held (other_in cs cs n name is) o at
    by false is o at = free is o

-- One more command

-- a command that gives nobody a name leaves the competitors as they are
pub AreCompetitors-other : (cs : List Command) (c : Command) (kept : Competitors)
    → ((n : ℕ) → name_given n c ≡ None) → ((n : ℕ) → renaming n c ≡ None)
    → AreCompetitors cs kept → AreCompetitors (cs ++ c ∷ []) kept
AreCompetitors-other cs c kept unnamed same are = record {
  places =
      λ n. found_push (naming n) cs c (get nat_eq kept.places n) (rw (unnamed n, same n) refl)
      ∙ are.places n
      ∙ sym (standing_kept (name_given n) (renaming n) cs c (unnamed n) (same n));
  names =
      λ n name called.
      are.names n name (ap (λ (o : Option (List ℕ)). option_map_or (bytes_eq name) o false)
      (sym (standing_kept (name_given n) (renaming n) cs c (unnamed n) (same n)))
      ∙ called);
}

-- a command gives a number a name that is not taken, and no other number one
pub AreCompetitors-noted : (cs : List Command) (c : Command) (n : ℕ) (name : List ℕ)
    (old new : Competitors)
    → AreCompetitors cs old → is_taken cs n name ≡ false → Notes cs n name old new
    → naming n c ≡ Some name → name_of (cs ++ c ∷ []) n ≡ Some name
    → ((q : ℕ) → (n == q) ≡ false → name_given q c ≡ None)
    → ((q : ℕ) → (n == q) ≡ false → renaming q c ≡ None) → AreCompetitors (cs ++ c ∷ []) new
AreCompetitors-noted cs c n name old new are free notes gives now others same = record {
  places = λ q. places q (n == q) refl;
  names = λ q other called. names q other called (n == q) refl;
}
  where
    kept : (q : ℕ) → (n == q) ≡ false → name_of (cs ++ c ∷ []) q ≡ name_of cs q
    kept q h = standing_kept (name_given q) (renaming q) cs c (others q h) (same q h)

    places : (q : ℕ) (b : Bool) → (n == q) ≡ b
        → option_and_then (name_at (cs ++ c ∷ []) q) (get nat_eq new.places q)
        ≡ name_of (cs ++ c ∷ []) q
    places q true h =
        let number : n ≡ q = eqb-true n q h in
        let here : get nat_eq new.places q ≡ Some (length cs) = notes.places q ∙ rw h refl in
        rw here (ap (option_and_then (naming q)) (at_end cs c)
        ∙ subst (λ (k : ℕ). naming k c ≡ Some name) number gives
        ∙ sym (subst (λ (k : ℕ). name_of (cs ++ c ∷ []) k ≡ Some name) number now))
    places q false h =
        let there : get nat_eq new.places q ≡ get nat_eq old.places q =
        notes.places q ∙ rw h refl in
        rw there
        (found_push (naming q) cs c (get nat_eq old.places q) (rw (others q h, same q h) refl)
        ∙ are.places q ∙ sym (kept q h))

    names : (q : ℕ) (other : List ℕ) → is_called (cs ++ c ∷ []) q other ≡ true
        → (b : Bool) → (n == q) ≡ b → holder new other ≡ Some q
    names q other called true h =
        let number : n ≡ q = eqb-true n q h in
        let own : bytes_eq other name ≡ true =
        sym (ap (λ (o : Option (List ℕ)). option_map_or (bytes_eq other) o false)
        (subst (λ (k : ℕ). name_of (cs ++ c ∷ []) k ≡ Some name) number now))
        ∙ called in
        let equal : bytes_eq name other ≡ true =
        subst (λ (x : List ℕ). bytes_eq name x ≡ true) (sym (same_name other name own))
        (own_name name) in
        notes.names other ∙ ap (λ (b : Bool). cond b (Some n) (holder old other)) equal
        ∙ ap Some number
    names q other called false h =
        let before : is_called cs q other ≡ true =
        ap (λ (o : Option (List ℕ)). option_map_or (bytes_eq other) o false) (sym (kept q h))
        ∙ called in
        step q other before h (bytes_eq name other) refl
      where
        step : (q : ℕ) (other : List ℕ) → is_called cs q other ≡ true → (n == q) ≡ false
            → (b : Bool) → bytes_eq name other ≡ b → holder new other ≡ Some q
        step q other before h true equal =
            let apart : (q == n) ≡ false = grind_apart q h in
            let has : is_called cs q name ≡ true =
            subst (λ (x : List ℕ). is_called cs q x ≡ true) (sym (same_name name other equal))
            before in
            absurd (false≢true (sym free ∙ is_taken_by cs n q name apart has))
          where
            grind_apart : (q : ℕ) → (n == q) ≡ false → (q == n) ≡ false
            grind_apart q h = by (q == n) refl
              where
                by : (b : Bool) → (q == n) ≡ b → b ≡ false
                by true is = absurd (false≢true (sym h ∙ eq-eqb n q (sym (eqb-true q n is))))
                by false is = refl
        step q other before h false equal =
            notes.names other ∙ ap (λ (b : Bool). cond b (Some n) (holder old other)) equal
            ∙ are.names q other before

-- a registration that is noted, or is refused
pub registration : (cs : List Command) (n : ℕ) (name : List ℕ) (old new : Competitors)
    → AreCompetitors cs old → is_registered cs n ≡ false → is_taken cs n name ≡ false
    → Notes cs n name old new → AreCompetitors (cs ++ Register n name ∷ []) new
registration cs n name old new are nobody free notes =
    let here : (n == n) ≡ true = eq-eqb n n refl in
    AreCompetitors-noted cs (Register n name) n name old new are free notes (rw here refl)
    (standing_push (name_given n) (renaming n) cs (Register n name)
    ∙ ap (stands (name_given n (Register n name)) None) (none_from (name_of cs n) nobody)
    ∙ rw here refl) (λ q h. rw h refl) (λ q h. refl)

-- another name that is noted
pub another_name : (cs : List Command) (n : ℕ) (name : List ℕ) (old new : Competitors)
    → AreCompetitors cs old → is_registered cs n ≡ true → is_taken cs n name ≡ false
    → Notes cs n name old new → AreCompetitors (cs ++ Rename n name ∷ []) new
another_name cs n name old new are known free notes =
    let here : (n == n) ≡ true = eq-eqb n n refl in
    AreCompetitors-noted cs (Rename n name) n name old new are free notes (rw here refl)
    (standing_push (name_given n) (renaming n) cs (Rename n name)
    ∙ ap (λ (b : Bool). stands None (cond b (Some name) None) (name_of cs n)) here
    ∙ step (name_of cs n) known) (λ q h. refl) (λ q h. rw h refl)
  where
    step : (o : Option (List ℕ)) → is_some o ≡ true → stands None (Some name) o ≡ Some name
    step None h = absurd (false≢true h)
    step (Some x) h = refl

-- the same by the number to which the name was given last
pub taken_by_holder : (cs : List Command) (n : ℕ) (name : List ℕ) (kept : Competitors)
    (o : Option ℕ) → AreCompetitors cs kept → holder kept name ≡ o
    → taken_from cs n name o ≡ is_taken cs n name
taken_by_holder cs n name kept o are at =
    ap (taken_from cs n name) (sym at) ∙ taken_is cs n name kept are

-- where only the holder of a name that no other number has is noted
pub held_alike : (cs : List Command) (n : ℕ) (name : List ℕ) (old new : Competitors)
    → AreCompetitors cs old → is_taken cs n name ≡ false
    → ((q : ℕ) → get nat_eq new.places q ≡ get nat_eq old.places q) → ((other : List ℕ)
    → holder new other ≡ cond (bytes_eq name other) (Some n) (holder old other))
    → AreCompetitors cs new
held_alike cs n name old new are free places names = record {
  places = λ q. ap (option_and_then (name_at cs q)) (places q) ∙ are.places q;
  names = λ q other called. names other ∙ step q other called (bytes_eq name other) refl;
}
  where
    own : (q : ℕ) → is_called cs q name ≡ true → n ≡ q
    own q called = by (q == n) refl
      where
        by : (b : Bool) → (q == n) ≡ b → n ≡ q
        by true is = sym (eqb-true q n is)
        by false is = absurd (false≢true (sym free ∙ is_taken_by cs n q name is called))

    step : (q : ℕ) (other : List ℕ) → is_called cs q other ≡ true
        → (b : Bool) → bytes_eq name other ≡ b → cond b (Some n) (holder old other) ≡ Some q
    step q other called true is =
        ap Some (own q
        (subst (λ (x : List ℕ). is_called cs q x ≡ true) (sym (same_name name other is)) called))
    step q other called false is = are.names q other called

-- numbers that are the same, or not
pub differs : (a b : ℕ) → (a ≡ b → ⊥) → not (a == b) ≡ true
differs a b other = step (a == b) refl
  where
    step : (t : Bool) → (a == b) ≡ t → not t ≡ true
    step true is = absurd (other (eqb-true a b is))
    step false is = refl

pub is_same : (a b : ℕ) → a ≡ b → not (a == b) ≡ false
is_same a b same = ap not (eq-eqb a b same)

-- a map with the same entries is as good
pub same_entries : (cs : List Command) (old new : Competitors) → AreCompetitors cs old
    → ((q : ℕ) → get nat_eq new.places q ≡ get nat_eq old.places q)
    → ((other : List ℕ) → holder new other ≡ holder old other) → AreCompetitors cs new
same_entries cs old new are places names = record {
  places = λ q. ap (option_and_then (name_at cs q)) (places q) ∙ are.places q;
  names = λ q other called. names other ∙ are.names q other called;
}
