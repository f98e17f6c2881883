-- What is found of a number in a table in which nobody else has it.
use Rattle.std.proofs.Common.{◌≡◌, ℕ, ◌≤◌, Bool, true, false, cond, List, [], ◌∷◌, map, length, All}
use Rattle.std.proofs.Common.{Option, Some, None, MatchOption, option_map, sym, ap, ◌∙◌, arith}
use Rattle.std.{proofs.Common.subst, specs.List.AllByRecursion}
use Rattle.std.proofs.lemmas.List.Elements.{All-from_recursion, recursion_from_All}
use Rattle.attempts.specs.declared.{Unit.Unit as Measure, Value.Value}
use Rattle.attempts.specs.Attempts.{IsInRangeOf}
use Rattle.formats.specs.{declared.events.Format.Format, Events.attempts_of}
use Rattle.texts.specs.{declared.command.Settings.Settings, Spelling.IsCounted}
use Rattle.texts.proofs.CardSpellings.{was_spelled}
use Rattle.rounds.specs.{Rows.AreValues, Tables.entrant, Tables.has_number, Tables.meets}
use Rattle.rounds.specs.Tables.{Entrant, Table, IsCutoff, KeepsAllotted, allotted, changed_of}
use Rattle.commands.proofs.Lookups.{some≢none}
use Rattle.sheets.proofs.Lengths.{at_most_five}
use Rattle.card_laws.specs.Premises.{MeetsPremises}
use Rattle.card_laws.proofs.Entrants.{found_holds, none_found}
use Rattle.attempts.specs.declared.Unit.TheVariants as measure
use Rattle.attempts.specs.declared.Value.TheVariants as value

-- Values of nobody else

-- the change of values makes others of these alone
only_these : (n : ℕ) (vs : List Value) (es : List Entrant)
    → map (changed_of n (λ old. old)) es ≡ map (changed_of n (λ old. vs)) es
    → AllByRecursion (λ e. has_number n e ≡ true → e.values ≡ vs) es
only_these n vs [] h = tt
only_these n vs (e ∷ es) h =
    let first : changed_of n (λ old. old) e ≡ changed_of n (λ old. vs) e = cc in
    let rest : map (changed_of n (λ old. old)) es ≡ map (changed_of n (λ old. vs)) es = cc in (
      λ has.
          ap
          (λ (b : Bool). (let y : Entrant = cond b (record e { values = e.values }) e in y).values)
          (sym has)
          ∙ ap (λ (y : Entrant). y.values) first
          ∙ ap
          (λ (b : Bool). (let y : Entrant = cond b (record e { values = vs }) e in y).values) has,
      only_these n vs es rest,
    )

-- Values in their ranges

counted : (unit : Measure) (v : Value) → IsInRangeOf unit v → IsCounted v
counted measure.Time (value.Number n) h = (omega arith, omega arith)
counted measure.Moves (value.Number n) h = (omega arith, omega arith)
counted measure.Multi (value.Number n) h = (omega arith, omega arith)
counted unit value.Dnf h = tt
counted unit value.Dns h = tt

all_counted : (unit : Measure) (vs : List Value) → AllByRecursion (IsInRangeOf unit) vs
    → AllByRecursion IsCounted vs
all_counted unit [] h = tt
all_counted unit (v ∷ vs) h = (counted unit v h.0, all_counted unit vs h.1)

-- no more are allotted
five : (f : Format) (cutoff : Option (ℕ × ℕ)) (vs : List Value) → IsCutoff f cutoff
    → length vs ≤ allotted f cutoff vs → length vs ≤ 5
five f None vs is h = let most = at_most_five f in omega (arith, most, h)
five f (Some cutoff) vs is h = step (meets cutoff vs) h
  where
    step : (b : Bool) → length vs ≤ cond b (attempts_of f) cutoff.0 → length vs ≤ 5
    step true h = let most = at_most_five f in omega (arith, most, h)
    step false h = let most = at_most_five f in omega (arith, most, h, is.1)

-- A round

module _ (n : ℕ) (round : Settings × Table) (rules : IsCutoff round.1.format round.1.cutoff)
    (kept : KeepsAllotted round.1) where
  -- the number is not in the round
  absent_meets : entrant round.1 n ≡ None → MeetsPremises n (Some round)
  absent_meets h =
      record {
        rules = rules;
        absent =
            λ none.
            All-from_recursion (λ e. has_number n e ≡ true → e.values ≡ []) round.1.entrants
            (none_found n round.1.entrants h);
        bare = λ one is. absurd (some≢none one (sym is ∙ h));
        reads_back = λ one is. absurd (some≢none one (sym is ∙ h));
      }

  -- it is, with these values
  present_meets : (vs : List Value) → AreValues round.1 n vs → MeetsPremises n (Some round)
  present_meets vs are =
      record {
        rules = rules;
        absent = λ none. absurd (some≢none are.one (sym are.found ∙ none));
        bare =
            λ one is none.
            let both : Some are.one ≡ Some one = sym are.found ∙ is in
            let same : are.one ≡ one = cc in
            let nothing : vs ≡ [] =
            are.are ∙ ap (λ (e : Entrant). e.values) same ∙ none in
            All-from_recursion (λ e. has_number n e ≡ true → e.values ≡ []) round.1.entrants (subst
            (λ (ws : List Value).
            AllByRecursion (λ e. has_number n e ≡ true → e.values ≡ ws) round.1.entrants) nothing
            (only_these n vs round.1.entrants
            (ap (λ (t : Table). t.entrants) (are.alone (λ old. old)))));
        reads_back =
            λ one is.
            let both : Some are.one ≡ Some one = sym are.found ∙ is in
            let same : are.one ≡ one = cc in
            let values : vs ≡ one.values = are.are ∙ ap (λ (e : Entrant). e.values) same in
            let few : length one.values ≤ 5 =
            five round.1.format round.1.cutoff one.values rules (found_holds n
            (λ e. length e.values ≤ allotted round.1.format round.1.cutoff e.values)
            round.1.entrants one (recursion_from_All
            (λ e. length e.values ≤ allotted round.1.format round.1.cutoff e.values)
            round.1.entrants kept) is) in
            was_spelled.found one.values (
              (omega arith, few),
              All-from_recursion IsCounted one.values
                  (all_counted round.1.unit one.values
                  (recursion_from_All (IsInRangeOf round.1.unit) one.values
                  (subst (All (IsInRangeOf round.1.unit)) values are.in_range))),
            );
      }

-- whether it is or not
either_meets : {A : Type 0} (view : A → List Value) (n : ℕ) (round : Settings × Table)
    (o : Option A) → IsCutoff round.1.format round.1.cutoff → KeepsAllotted round.1
    → MatchOption o (entrant round.1 n ≡ None) (λ x. AreValues round.1 n (view x))
    → MeetsPremises n (Some round)
either_meets view n round None rules kept h = absent_meets n round rules kept h
either_meets view n round (Some x) rules kept h = present_meets n round rules kept (view x) h

-- a round whose table is this one
pub meets_there : {A : Type 0} (view : A → List Value) (n : ℕ) (round : Option (Settings × Table))
    (t : Table) (o : Option A) → Some t ≡ option_map (λ r. r.1) round
    → IsCutoff t.format t.cutoff → KeepsAllotted t
    → MatchOption o (entrant t n ≡ None) (λ x. AreValues t n (view x)) → MeetsPremises n round
meets_there view n None t o is = absurd (some≢none t is)
meets_there view n (Some r) t o is =
    let same : r.1 ≡ t = cc in
    subst (λ (u : Table).
    IsCutoff u.format u.cutoff → KeepsAllotted u
    → MatchOption o (entrant u n ≡ None) (λ x. AreValues u n (view x)) → MeetsPremises n (Some r))
    same (either_meets view n r o)
