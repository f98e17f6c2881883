-- Commands that a meet accepts one after the other, and what holds after them: the people, the
-- edition and the rounds; and what one more command makes of it.
use Rattle.std.proofs.Common.{◌≡◌, ◌≤◌, ◌==◌, ◌&&◌, ℕ, zero, suc, Bool, true, false, cond, List, []}
use Rattle.std.proofs.Common.{◌∷◌, ◌++◌, Option, Some, None, unwrap_or, refl, ap, ◌∙◌, arith}
use Rattle.std.proofs.Common.{eqb-true, ◌+◌, sym, subst, append_assoc, append-nil, add-one}
use Rattle.std.specs.{Option.option_or, Option.option_map, Prelude.flat_map, List.list_any}
use Rattle.formats.specs.{declared.events.Event.Event, Events.same_event}
use Rattle.texts.specs.declared.command.{Command.Command, Settings.Settings}
use Rattle.texts.specs.declared.command.Command.TheVariants.{Register, Open, Enter, SetEdition}
use Rattle.texts.specs.{Fields.round_id, Editions.is_spelled_in, Reading.told}
use Rattle.rounds.specs.Tables.{Table}
use Rattle.commands.specs.Accepted.{name_of, name_given, renaming, round_of, round_in, edition_in}
use Rattle.commands.specs.Accepted.{edition_set, edition_after, refusal}
use Rattle.commands.specs.{model.Kept.with_entry, History.spelled_refusal}
use Rattle.commands.proofs.Lookups.{stands as or_given, standing_kept, standing_push}
use Rattle.commands.proofs.EachCommand.{round_register, round_edition, round_enter, round_open}
use Rattle.wcif.specs.{Laws.new_round, Laws.AreAccepted, Commands.numbers_to, Told.told_from}
use Rattle.std.proofs.Math.Bool.{and-true, and-false}
use Rattle.wcif.proofs.Found.{front_none, back_none, or_left, or_right}
use Rattle.wcif.proofs.Counting.{numbers_none, flat_more}

-- after these commands these names are registered, this edition holds, and these first rounds are
-- open, with no later one
pub record Stands (cs : List Command) (names : ℕ → Option (List ℕ)) (edition : ℕ)
    (rounds : Event → Option (Settings × Table)) : Type 0 where
  pub people : (n : ℕ) → name_of cs n ≡ names n
  pub held : edition_in cs ≡ edition
  pub first : (e : Event) → round_of cs e 1 ≡ rounds e
  pub later : (e : Event) (r : ℕ) → 2 ≤ r → round_of cs e r ≡ None

edition_push : (edition : ℕ) (cs : List Command) (c : Command)
    → edition_after edition (cs ++ c ∷ []) ≡ unwrap_or (edition_set c) (edition_after edition cs)
edition_push edition [] c = refl
edition_push edition (d ∷ ds) c = edition_push (unwrap_or (edition_set d) edition) ds c

not_first : (r : ℕ) → 2 ≤ r → (b : Bool) → (r == 1) ≡ b → b ≡ false
not_first r late false is = refl
not_first r late true is = let same : r ≡ 1 = eqb-true r 1 is in absurd (omega arith)

pub stands_nothing : Stands [] (λ n. None) 1 (λ e. None)
unfolding round_in
stands_nothing = record {
  people = λ n. refl;
  held = refl;
  first = λ e. refl;
  later = λ e r late. never e r;
}
  where
    never : (e : Event) (r : ℕ) → round_of [] e r ≡ None
    never e zero = refl
    never e (suc r) = refl

pub stands_edition : (cs : List Command) (names : ℕ → Option (List ℕ)) (old new : ℕ)
    (rounds : Event → Option (Settings × Table)) → Stands cs names old rounds
    → Stands (cs ++ SetEdition new ∷ []) names new rounds
stands_edition cs names old new rounds stands = record {
  people =
      λ n. standing_kept (name_given n) (renaming n) cs (SetEdition new) refl refl
      ∙ stands.people n;
  held = edition_push 1 cs (SetEdition new);
  first = λ e. round_edition e 1 new cs ∙ stands.first e;
  later = λ e r late. round_edition e r new cs ∙ stands.later e r late;
}

-- a number with a name, beside those that are registered
abbrev pub with_name : (ℕ → Option (List ℕ)) → ℕ → List ℕ → ℕ → Option (List ℕ)
with_name names n name m = option_or (names m) (cond (n == m) (Some name) None)

pub stands_register : (cs : List Command) (names : ℕ → Option (List ℕ)) (edition : ℕ)
    (rounds : Event → Option (Settings × Table)) (n : ℕ) (name : List ℕ)
    → Stands cs names edition rounds
    → Stands (cs ++ Register n name ∷ []) (with_name names n name) edition rounds
stands_register cs names edition rounds n name stands = record {
  people =
      λ m. standing_push (name_given m) (renaming m) cs (Register n name)
      ∙ ap (or_given (name_given m (Register n name)) None) (stands.people m)
      ∙ kept_or (name_given m (Register n name)) (names m);
  held = edition_push 1 cs (Register n name) ∙ stands.held;
  first = λ e. round_register e 1 n name cs ∙ stands.first e;
  later = λ e r late. round_register e r n name cs ∙ stands.later e r late;
}
  where
    kept_or : (given o : Option (List ℕ)) → or_given given None o ≡ option_or o given
    kept_or given None = refl
    kept_or given (Some x) = refl

-- the first round of an event, beside those that are open
abbrev pub with_round : (Event → Option (Settings × Table)) → Event → Settings → Event
    → Option (Settings × Table)
with_round rounds f settings e =
    option_or (rounds e) (cond (same_event e f) (Some (new_round f [] settings)) None)

pub stands_open : (cs : List Command) (names : ℕ → Option (List ℕ)) (edition : ℕ)
    (rounds : Event → Option (Settings × Table)) (f : Event) (settings : Settings)
    → Stands cs names edition rounds
    → Stands (cs ++ Open (round_id f 1) settings ∷ []) names edition (with_round rounds f settings)
unfolding round_in
stands_open cs names edition rounds f settings stands = record {
  people =
      λ n. standing_kept (name_given n) (renaming n) cs (Open (round_id f 1) settings) refl refl
      ∙ stands.people n;
  held = edition_push 1 cs (Open (round_id f 1) settings) ∙ stands.held;
  first =
      λ e. round_open e f 1 1 settings cs (omega arith)
      ∙ ap (λ o. option_or o (opened_here e (same_event e f && true))) (stands.first e)
      ∙ ap (λ b. option_or (rounds e) (opened_here e b)) (and-true (same_event e f));
  later =
      λ e r late. round_open e f r 1 settings cs (omega arith)
      ∙ ap (λ o. option_or o (opened_here e (same_event e f && r == 1))) (stands.later e r late)
      ∙ ap (λ b. opened_here e (same_event e f && b)) (not_first r late (r == 1) refl)
      ∙ ap (opened_here e) (and-false (same_event e f));
}
  where
    opened_here : Event → Bool → Option (Settings × Table)
    opened_here e b = cond b (Some (new_round f [] settings)) None

-- one more entrant of the first round of an event
abbrev pub with_entrant_in : (Event → Option (Settings × Table)) → Event → ℕ → Event
    → Option (Settings × Table)
with_entrant_in rounds f n e =
    cond (same_event e f) (option_map (with_entry n) (rounds e)) (rounds e)

pub stands_enter : (cs : List Command) (names : ℕ → Option (List ℕ)) (edition : ℕ)
    (rounds : Event → Option (Settings × Table)) (f : Event) (n : ℕ)
    → Stands cs names edition rounds
    → Stands (cs ++ Enter f n ∷ []) names edition (with_entrant_in rounds f n)
stands_enter cs names edition rounds f n stands = record {
  people =
      λ m. standing_kept (name_given m) (renaming m) cs (Enter f n) refl refl ∙ stands.people m;
  held = edition_push 1 cs (Enter f n) ∙ stands.held;
  first =
      λ e. round_enter e f 1 n cs ∙ ap (entered_as (same_event e f && true)) (stands.first e)
      ∙ ap (λ b. entered_as b (rounds e)) (and-true (same_event e f));
  later =
      λ e r late. round_enter e f r n cs
      ∙ ap (entered_as (same_event e f && r == 1)) (stands.later e r late)
      ∙ nobody (same_event e f && r == 1);
}
  where
    entered_as : Bool → Option (Settings × Table) → Option (Settings × Table)
    entered_as b o = cond b (option_map (with_entry n) o) o

    nobody : (b : Bool) → entered_as b None ≡ None
    nobody true = refl
    nobody false = refl

-- these commands are accepted after those before, and then this holds of them all
pub record Reaches (before cs : List Command) (P : List Command → Type 0) : Type 0 where
  pub accepted : AreAccepted before cs
  pub after : P (before ++ cs)

accepted_append : (before xs ys : List Command) → AreAccepted before xs
    → AreAccepted (before ++ xs) ys → AreAccepted before (xs ++ ys)
accepted_append before [] ys first second =
    subst (λ (b : List Command). AreAccepted b ys) (append-nil before) second
accepted_append before (x ∷ xs) ys first second = (
  first.0,
  accepted_append (before ++ x ∷ []) xs ys first.1
      (subst (λ (b : List Command). AreAccepted b ys) (sym (append_assoc before (x ∷ []) xs))
      second),
)

pub reach_none : (before : List Command) (P : List Command → Type 0) → P before
    → Reaches before [] P
reach_none before P holds = record {
  accepted = tt;
  after = subst P (sym (append-nil before)) holds;
}

pub reach_one : (before : List Command) (c : Command) (P : List Command → Type 0)
    → spelled_refusal before (told None c) ≡ None → P (before ++ c ∷ []) → Reaches before (c ∷ []) P
reach_one before c P accepted holds = record { accepted = (accepted, tt); after = holds }

pub reach_more : (before xs ys : List Command) (P Q : List Command → Type 0) → Reaches before xs P
    → ((now : List Command) → P now → Reaches now ys Q) → Reaches before (xs ++ ys) Q
reach_more before xs ys P Q first second =
    let then : Reaches (before ++ xs) ys Q = second (before ++ xs) first.after in
    record {
      accepted = accepted_append before xs ys first.accepted then.accepted;
      after = subst Q (append_assoc before xs ys) then.after;
    }

-- what each number adds is accepted, up to any last one
pub reach_numbers : (f : ℕ → List Command) (P : ℕ → List Command → Type 0)
    → ((k : ℕ) (now : List Command) → P k now → Reaches now (f (k + 1)) (P (k + 1)))
    → (before : List Command) → P 0 before → (last : ℕ)
    → Reaches before (flat_map f (numbers_to last)) (P last)
reach_numbers f P step before holds zero = rw numbers_none (reach_none before (P 0) holds)
reach_numbers f P step before holds (suc k) =
    subst (λ (n : ℕ). Reaches before (flat_map f (numbers_to n)) (P n)) (add-one k)
    (rw (flat_more f k) (reach_more before (flat_map f (numbers_to k)) (f (k + 1)) (P k) (P (k + 1))
    (reach_numbers f P step before holds k) (step k)))

-- what each item adds is accepted, where nothing is said of any and none passes a test
pub reach_items : {A B : Type 0} (said : List A → A → List B) (bad : A → Bool)
    (f : A → List Command) (P : List A → List Command → Type 0)
    → ((earlier : List A) (x : A) (now : List Command) → said earlier x ≡ [] → bad x ≡ false
    → P earlier now → Reaches now (f x) (P (earlier ++ x ∷ [])))
    → (earlier xs : List A) (before : List Command) → told_from said earlier xs ≡ []
    → list_any bad xs ≡ false → P earlier before
    → Reaches before (flat_map f xs) (P (earlier ++ xs))
reach_items said bad f P step earlier [] before none good holds =
    reach_none before (P (earlier ++ []))
    (subst (λ xs. P xs before) (sym (append-nil earlier)) holds)
reach_items said bad f P step earlier (x ∷ xs) before none good holds =
    reach_more before (f x) (flat_map f xs) (P (earlier ++ x ∷ [])) (P (earlier ++ x ∷ xs))
    (step earlier x before (front_none (said earlier x) _ none) (or_left (bad x) _ good) holds)
    (λ now held. subst (λ ys. Reaches now (flat_map f xs) (P ys)) (append_assoc earlier (x ∷ []) xs)
    (reach_items said bad f P step (earlier ++ x ∷ []) xs now (back_none (said earlier x) _ none)
    (or_right (bad x) _ good) held))

pub reach_else : (before cs : List Command) (P Q : List Command → Type 0)
    → ((now : List Command) → P now → Q now) → Reaches before cs P → Reaches before cs Q
reach_else before cs P Q so reached =
    record { accepted = reached.accepted; after = so (before ++ cs) reached.after }

-- the edition that holds has the spelling, and no check fails
pub on_time : (before : List Command) (c : Command) (edition : ℕ) → edition_in before ≡ edition
    → is_spelled_in edition (told None c) ≡ true → refusal before c ≡ None
    → spelled_refusal before (told None c) ≡ None
on_time before c edition held spelled accepted =
    let here : is_spelled_in (edition_in before) (told None c) ≡ true = rw held spelled in
    rw here accepted
