-- What one more command makes of the index of the accepted commands.
use Rattle.std.proofs.Common.{◌≡◌, ◌≤◌, ◌-◌, ℕ, zero, suc, Bool, true, false, not, cond, ◌&&◌, ◌==◌}
use Rattle.std.proofs.Common.{List, [], ◌∷◌, ◌++◌, length, drop, find, count_by, Option, Some, None}
use Rattle.std.proofs.Common.{is_some, option_map, IfNone, OnSome, Result, Ok, Err, IfOk, refl, ap}
use Rattle.std.proofs.Common.{◌∙◌, sym, subst, append-nil, arith, eqb-true}
use Rattle.std.specs.{Prelude.OnErr, Prelude.nat_lt, Option.option_map_or, Option.option_and_then}
use Rattle.std.specs.{List.list_any, declared.alloc.AllocError.AllocError, Option.option_or}
use Rattle.std.proofs.lemmas.Bool.{false≢true}
use Rattle.cube.specs.declared.moves.Move.{Move}
use Rattle.formats.{specs.declared.events.Event.Event, proofs.SameEvent.same_event-equal}
use Rattle.formats.specs.Events.{same_event, unit_of, attempts_of}
use Rattle.texts.specs.{declared.answer.Code.Code, Fields.round_id}
use Rattle.texts.specs.declared.command.{Command.Command, AttemptEntry.AttemptEntry}
use Rattle.texts.specs.declared.command.Command.TheVariants.{Open, Enter, Scramble, Attempt}
use Rattle.texts.specs.declared.command.Command.TheVariants.{Correct, SetEdition, Rescramble}
use Rattle.texts.specs.declared.command.Command.TheVariants.{Withdraw, Cancel}
use Rattle.texts.specs.declared.command.{RoundId.RoundId, Settings.Settings}
use Rattle.commands.specs.declared.kept_rounds.{KeptRound.KeptRound, KeptRounds.KeptRounds}
use Rattle.commands.specs.{declared.index.Index.Index, Accepted.has_solved, History.added}
use Rattle.rounds.specs.Tables.{Table, close_fault, entrant, has_done, is_entered, replaced}
use Rattle.rounds.specs.Tables.{standings}
use Rattle.advancement.specs.Advancing.{holds_of}
use Rattle.commands.specs.Accepted.{name_given, renaming, Opened, opened as opened_in, is_cancelled}
use Rattle.commands.specs.Accepted.{is_of, competitors_seen, scrambling, rescrambling, scramble_of}
use Rattle.commands.specs.Accepted.{settled, is_withdrawal, scramble_by, is_moves, scramble_refusal}
use Rattle.commands.specs.Accepted.{rescramble_refusal, end_refusal, close_refusal, who_advance}
use Rattle.commands.specs.Accepted.{who_wait, round_in, round_of, is_solution, solving, is_solved}
use Rattle.commands.specs.model.Kept.{is_round, Changes, seen_from, kept_seen, before_of, with_exit}
use Rattle.commands.specs.model.Kept.{scramble_given, kept_round, kept_competitors, with_correction}
use Rattle.commands.specs.model.Kept.{scramble_at, waiting_now, IsApart, with_attempt, table_opened}
use Rattle.commands.specs.model.Kept.{kept_waiting, first_of_all, ChangesRound, Opens, AddsScramble}
use Rattle.commands.specs.model.Kept.{kept_scramble, AreCompetitors, ExchangesRound, with_newcomers}
use Rattle.commands.specs.model.Kept.{waiting_of, IsAsBefore, kept_solved, kept_value, waiting_in}
use Rattle.commands.specs.model.Kept.{AreRounds, IsIndexOf, Exchanges, solved_in, with_entry}
use Rattle.commands.specs.model.Kept.{AreApart, Enters, place_in, seen_in, Cancels}
use Rattle.commands.specs.model.Settled.{AddsAttempt, Corrects}
use Rattle.commands.proofs.Apart.{nobody_waits, apart_same, changed_stays, apart_exit, apart_opened}
use Rattle.commands.proofs.{Apart.apart_added, Apart.apart_changed, Lookups.found_push}
use Rattle.commands.proofs.{Lookups.at_end, Exits.round_exit, Registrations.AreCompetitors-other}
use Rattle.commands.proofs.EachCommand.{round_attempt, round_correct, round_enter, round_scramble}
use Rattle.commands.proofs.EachCommand.{round_rescramble, round_open, round_edition, round_cancel}
use Rattle.commands.proofs.Exits.{waiting_same, waiting_exit, waiting_open, waiting_cancel}
use Rattle.commands.proofs.OneMore.{new_table, with_table, scramble_kept, scramble_new}
use Rattle.commands.proofs.OneMore.{scramble_again, scramble_cancel, keeps_open, cancels_none}
use Rattle.commands.proofs.OneMore.{Besides, ChangesOnly, EntersOnly, NamesOnly, ScramblesOnly}
use Rattle.commands.proofs.RoundsRule.{any_alike, breaks_alike}
use Rattle.commands.proofs.Seen.{competitors_alike, seen_same, seen_open, seen_cancel}
use Rattle.commands.proofs.Solved.{solved_same, solved_entered, solved_cancel}
use Rattle.texts.specs.declared.answer.Code.TheVariants as code

-- a command that sets no scramble and takes no round back leaves those that are kept as they are
pub scrambles_kept : (cs : List Command) (c : Command) (old new : List KeptRound) → AreRounds cs old
    → ((e : Event) (r : ℕ) → is_cancelled e r c ≡ false)
    → ((e : Event) (r k : ℕ) → scrambling e r k c ≡ None)
    → ((e : Event) (r k : ℕ) → rescrambling e r k c ≡ None)
    → ((e : Event) (r k : ℕ) → kept_scramble e r k new ≡ kept_scramble e r k old)
    → (e : Event) (r k : ℕ) → 1 ≤ k
    → option_and_then (scramble_at (cs ++ c ∷ []) e r k) (kept_scramble e r k new)
    ≡ scramble_of (cs ++ c ∷ []) e r k
scrambles_kept cs c old new are stands sets again same e r k low =
    ap (option_and_then (scramble_at (cs ++ c ∷ []) e r k)) (same e r k)
    ∙ found_push (scramble_given e r k) cs c (kept_scramble e r k old)
    (rw (sets e r k, again e r k) refl)
    ∙ are.scrambles e r k low
    ∙ sym (scramble_kept e r k cs c (stands e r) (sets e r k) (again e r k))

-- What an answer says of the index

-- a command is done, and then this holds
abbrev pub Done : Result (Option Code) AllocError → Type 0 → Type 0
Done result P = IfOk result (λ refused. IfNone refused P)

-- a command is refused, and then this holds
abbrev pub Refused : Result (Option Code) AllocError → Type 0 → Type 0
Refused result P = IfOk result (λ refused. OnSome refused P)

-- the index is that of the accepted commands, of which this one is the last where it is done
abbrev pub Noted : List Command → Command → Result (Option Code) AllocError → Index → Type 0
Noted cs c result new = IfOk result (λ refused. IsIndexOf (cs ++ added refused c) new)

-- a refused command, which nothing notes
pub nothing_added : (cs : List Command) (index : Index) → IsIndexOf cs index
    → IsIndexOf (cs ++ []) index
nothing_added cs index is =
    subst (λ (xs : List Command). IsIndexOf xs index) (sym (append-nil cs)) is

noted_or : (cs : List Command) (c : Command) (new : Index) (P Q : Type 0)
    (result : Result (Option Code) AllocError)
    → (P → IsIndexOf (cs ++ c ∷ []) new) → (Q → IsIndexOf cs new)
    → Done result P → Refused result Q → Noted cs c result new
noted_or cs c new P Q (Ok None) of_done of_refused done refused = of_done done
noted_or cs c new P Q (Ok (Some code)) of_done of_refused done refused = nothing_added cs new (of_refused refused)
noted_or cs c new P Q (Err fault) of_done of_refused done refused = tt

-- the same rounds and competitors are kept
unchanged : (cs : List Command) (old new : Index) → IsIndexOf cs old
    → new.competitors ≡ old.competitors → new.rounds.opened.items ≡ old.rounds.opened.items
    → IsIndexOf cs new
unchanged cs old new is same items = record {
  competitors = rw same is.competitors;
  rounds = rw items is.rounds;
}

-- a command that names nobody, and what it makes of the rounds
indexed : (cs : List Command) (c : Command) (old new : Index) → IsIndexOf cs old
    → new.competitors ≡ old.competitors
    → ((n : ℕ) → name_given n c ≡ None) → ((n : ℕ) → renaming n c ≡ None)
    → AreRounds (cs ++ c ∷ []) new.rounds.opened.items → IsIndexOf (cs ++ c ∷ []) new
indexed cs c old new is same unnamed others rounds = record {
  competitors =
      rw same (AreCompetitors-other cs c old.competitors unnamed others is.competitors);
  rounds = rounds;
}

-- Commands that change no round

-- a command that changes no round and no scramble, and by which nobody withdraws
same_rounds : (cs : List Command) (c : Command) (xs : List KeptRound) → NamesOnly c
    → ((e : Event) (r : ℕ) → round_of (cs ++ c ∷ []) e r ≡ round_of cs e r) → AreRounds cs xs
    → AreRounds (cs ++ c ∷ []) xs
same_rounds cs c xs only one are = record {
  rounds = λ e r. are.rounds e r ∙ sym (one e r);
  scrambles =
      scrambles_kept cs c xs xs are (λ e r. cancels_none e r c (opens e r))
      (λ e r k. ap (λ (x : Besides). x.2) (only e r k 0))
      (λ e r k. ap (λ (x : Besides). x.3) (only e r k 0)) (λ e r k. refl);
  waiting =
      λ e r. are.waiting e r
      ∙ sym (waiting_same e r cs c (opens e r) (ap (λ (x : Besides). x.5) (only e r 0 0)));
  apart = are.apart;
  solved =
      λ e r k n low. are.solved e r k n low
      ∙ sym (solved_same e r k n cs c (cancels_none e r c (opens e r))
      (ap (λ (x : Besides). x.6) (only e r k n)));
  seen = λ e r. are.seen e r ∙ sym (seen_same e r cs c (opens e r));
}
  where
    opens : (e : Event) (r : ℕ) → keeps_open e r c ≡ true
    opens e r = ap (λ (x : Besides). x.4) (only e r 0 0)

-- a registration or another name, which the competitors note
pub named : (cs : List Command) (c : Command) (result : Result (Option Code) AllocError)
    (old new : Index) → IsIndexOf cs old → NamesOnly c
    → ((e : Event) (r : ℕ) → round_of (cs ++ c ∷ []) e r ≡ round_of cs e r)
    → IfOk result (λ refused. AreCompetitors (cs ++ added refused c) new.competitors)
    → new.rounds.opened.items ≡ old.rounds.opened.items → Noted cs c result new
named cs c (Ok None) old new is only one competitors rounds = record {
  competitors = competitors;
  rounds = rw rounds (same_rounds cs c old.rounds.opened.items only one is.rounds);
}
named cs c (Ok (Some code)) old new is only one competitors rounds = record {
  competitors = competitors;
  rounds = rw (rounds, append-nil cs) is.rounds;
}
named cs c (Err fault) old new is only one competitors rounds = tt

-- a setting of the edition, which the index does not note
pub edition_noted : (cs : List Command) (edition : ℕ) (refused : Option Code) (index : Index)
    → IsIndexOf cs index → IsIndexOf (cs ++ added refused (SetEdition edition)) index
edition_noted cs edition None index is =
    indexed cs (SetEdition edition) index index is refl (λ n. refl) (λ n. refl)
    (same_rounds cs (SetEdition edition) index.rounds.opened.items (λ e r k n. refl)
    (λ e r. round_edition e r edition cs) is.rounds)
edition_noted cs edition (Some code) index is = nothing_added cs index is

-- Commands that change one round

-- a change of one round leaves those who wait for a place in it outside
abbrev pub KeepsApart : List Command → Event → ℕ → (Settings × Table → Settings × Table) → Type 0
KeepsApart cs e r change =
    (f : Event) (s : ℕ) (x : Settings × Table) (ns : List ℕ)
    → (same_event f e && s == r) ≡ true → waiting_of cs f s ≡ Some ns → AreApart x.1 ns
    → AreApart (change x).1 ns

-- the same are entered after a change
pub same_entered : (cs : List Command) (e : Event) (r : ℕ)
    (change : Settings × Table → Settings × Table)
    → ((x : Settings × Table) (n : ℕ) → is_entered (change x).1 n ≡ is_entered x.1 n)
    → KeepsApart cs e r change
same_entered cs e r change same f s x ns here waits a =
    apart_same x.1 (change x).1 ns (same x) a

-- a command changes a round as the accepted commands have it
abbrev pub MakesOf : List Command → Command → Event → ℕ → (Settings × Table → Settings × Table)
    → Type 0
MakesOf cs c e r change =
    (f : Event) (s : ℕ) → round_of (cs ++ c ∷ []) f s
    ≡ cond (same_event f e && s == r) (option_map change (round_of cs f s)) (round_of cs f s)

-- a round changes as such a command changes it, and what is noted of its solutions
pub rounds_more : (cs : List Command) (c : Command) (e : Event) (r : ℕ)
    (change : Settings × Table → Settings × Table) (old new : List KeptRound)
    → AreRounds cs old → EntersOnly c → MakesOf cs c e r change → KeepsApart cs e r change
    → ((f : Event) (s : ℕ) → kept_round f s new
    ≡ cond (same_event f e && s == r) (option_map change (kept_round f s old)) (kept_round f s old))
    → ((f : Event) (s k : ℕ) → kept_scramble f s k new ≡ kept_scramble f s k old)
    → ((f : Event) (s : ℕ) → kept_waiting f s new ≡ kept_waiting f s old)
    → ((f : Event) (s : ℕ) → kept_seen f s new ≡ kept_seen f s old)
    → ((f : Event) (s k n : ℕ) → 1 ≤ k → kept_solved f s k n new ≡ is_solved (cs ++ c ∷ []) f s k n)
    → AreRounds (cs ++ c ∷ []) new
rounds_more cs c e r change old new are only one keeps rounds scrambles waiting seen solved =
    record {
      rounds =
          λ f s. rounds f s
          ∙ ap
          (λ (x : Option (Settings × Table)). cond (same_event f e && s == r) (option_map change x) x)
          (are.rounds f s)
          ∙ sym (one f s);
      scrambles =
          scrambles_kept cs c old new are (λ f s. cancels_none f s c (opens f s))
          (λ f s k. ap (λ (x : Besides). x.2) (only f s k 0))
          (λ f s k. ap (λ (x : Besides). x.3) (only f s k 0)) scrambles;
      waiting =
          λ f s. waiting f s ∙ are.waiting f s
          ∙ sym (waiting_same f s cs c (opens f s) (ap (λ (x : Besides). x.5) (only f s 0 0)));
      apart =
          λ f s.
          rw (rounds f s, waiting f s)
          (apart_changed (same_event f e && s == r) change (kept_round f s old) (kept_waiting f s old)
          (are.apart f s) (λ x ns here waits. keeps f s x ns here (sym (are.waiting f s) ∙ waits)));
      solved = solved;
      seen = λ f s. seen f s ∙ are.seen f s ∙ sym (seen_same f s cs c (opens f s));
    }
  where
    opens : (f : Event) (s : ℕ) → keeps_open f s c ≡ true
    opens f s = ap (λ (x : Besides). x.4) (only f s 0 0)

-- where nothing is looked up otherwise, the rounds are those of the same commands
as_before : (cs : List Command) (old new : List KeptRound) → AreRounds cs old
    → ((e : Event) (r : ℕ) → ChangesRound e r (λ round. round) old new) → AreRounds cs new
as_before cs old new are same = record {
  rounds = λ e r. rounds e r ∙ are.rounds e r;
  scrambles =
      λ e r k low.
      ap (option_and_then (scramble_at cs e r k)) ((same e r).scrambles e r k)
      ∙ are.scrambles e r k low;
  waiting = λ e r. (same e r).waiting e r ∙ are.waiting e r;
  apart = λ e r. rw (rounds e r, (same e r).waiting e r) (are.apart e r);
  solved = λ e r k n low. (same e r).solved e r k n ∙ are.solved e r k n low;
  seen = λ e r. (same e r).seen e r ∙ are.seen e r;
}
  where
    kept : (b : Bool) (x : Option (Settings × Table))
        → cond b (option_map (λ (y : Settings × Table). y) x) x ≡ x
    kept true None = refl
    kept true (Some y) = refl
    kept false x = refl

    rounds : (e : Event) (r : ℕ) → kept_round e r new ≡ kept_round e r old
    rounds e r =
        (same e r).rounds e r ∙ kept (same_event e e && r == r) (kept_round e r old)

-- a round that is kept is open
pub there_by : (cs : List Command) (xs : List KeptRound) (id : RoundId) → AreRounds cs xs
    → is_some (kept_round id.event id.round xs) ≡ true → (f : Event) (s : ℕ) → is_of f s id ≡ true
    → is_some (round_of cs f s) ≡ true
there_by cs xs id are there f s h =
    let event : f ≡ id.event = same_event-equal f id.event (grind arith) in
    let round : s ≡ id.round = eqb-true s id.round (grind arith) in
    ap is_some
    (ap (λ (g : Event). round_of cs g s) event ∙ ap (λ (l : ℕ). round_of cs id.event l) round
    ∙ sym (are.rounds id.event id.round))
    ∙ there

-- the same where memory ran out while an entry was done
pub kept_as_before : (cs : List Command) (old new : Index) → IsIndexOf cs old
    → new.competitors ≡ old.competitors → IsAsBefore old.rounds new.rounds → IsIndexOf cs new
kept_as_before cs old new is same before = record {
  competitors = rw same is.competitors;
  rounds = as_before cs old.rounds.opened.items new.rounds.opened.items is.rounds before;
}

pub as_before_on_err : (cs : List Command) (old : Index) (rounds : KeptRounds)
    (result : Result (Option Code) AllocError)
    → IsIndexOf cs old → OnErr result (IsAsBefore old.rounds rounds)
    → OnErr result (IsIndexOf cs (record old { rounds = rounds }))
as_before_on_err cs old rounds (Ok refused) is before = tt
as_before_on_err cs old rounds (Err fault) is before =
    kept_as_before cs old (record old { rounds = rounds }) is refl before

-- a command that changes one round and enters nothing
changed : (cs : List Command) (c : Command) (id : RoundId)
    (change : Settings × Table → Settings × Table) (result : Result (Option Code) AllocError)
    (old new : Index) → IsIndexOf cs old → ChangesOnly c → MakesOf cs c id.event id.round change
    → KeepsApart cs id.event id.round change → new.competitors ≡ old.competitors
    → Done result (Changes id change old.rounds new.rounds)
    → Refused result (new.rounds.opened.items ≡ old.rounds.opened.items) → Noted cs c result new
changed cs c id change result old new is only one keeps same done refused =
    noted_or cs c new (Changes id change old.rounds new.rounds)
    (new.rounds.opened.items ≡ old.rounds.opened.items) result (λ changes.
    indexed cs c old new is same (λ n. ap (λ (x : Besides). x.0) (only id.event id.round 0 n))
    (λ n. ap (λ (x : Besides). x.1) (only id.event id.round 0 n))
    (rounds_more cs c id.event id.round change old.rounds.opened.items new.rounds.opened.items
    is.rounds (λ f s k n.
    only f s k n
    ∙ ap (λ (x : Option Bool). let y : Besides = (None, None, None, None, true, false, x) in y)
    (sym (unsolved f s k n)))
    one keeps changes.rounds changes.scrambles changes.waiting changes.seen (λ f s k n low.
    changes.solved f s k n ∙ is.rounds.solved f s k n low
    ∙ sym (solved_same f s k n cs c
    (cancels_none f s c (ap (λ (x : Besides). x.4) (only f s 0 0))) (unsolved f s k n)))))
    (unchanged cs old new is same) done refused
  where
    unsolved : (f : Event) (s k n : ℕ) → solving f s k n c ≡ None
    unsolved f s k n = ap (λ (x : Besides). x.6) (only f s k n)

-- such a command after which the same are entered
pub round_noted : (cs : List Command) (c : Command) (id : RoundId)
    (change : Settings × Table → Settings × Table) (refused : Option Code) (old new : Index)
    → IsIndexOf cs old → ChangesOnly c → MakesOf cs c id.event id.round change
    → ((x : Settings × Table) (n : ℕ) → is_entered (change x).1 n ≡ is_entered x.1 n)
    → new.competitors ≡ old.competitors → IfNone refused (Changes id change old.rounds new.rounds)
    → OnSome refused (new.rounds.opened.items ≡ old.rounds.opened.items)
    → IsIndexOf (cs ++ added refused c) new
round_noted cs c id change refused old new is only one entered same done refuses =
    changed cs c id change (Ok refused) old new is only one
    (same_entered cs id.event id.round change entered) same done refuses

-- nobody waits for a place in a first round
first_waits : (cs : List Command) (f : Event) (s : ℕ) (ns : List ℕ) → s ≡ 1
    → waiting_of cs f s ≡ Some ns → ns ≡ []
unfolding round_in
first_waits cs f s ns first waits =
    step (opened_in f 1 [] cs) (ap (waiting_of cs f) (sym first) ∙ waits)
  where
    none : (k : ℕ) → drop k (who_wait None) ≡ []
    none zero = refl
    none (suc k) = refl

    step : (o : Option Opened)
        → option_map (λ (x : Opened). waiting_now f 1 (round_in f 0 x.before) x) o ≡ Some ns
        → ns ≡ []
    step None h = absurd (false≢true (ap is_some h))
    step (Some o) h =
        let same : drop (count_by (is_withdrawal f 1) o.since) (who_wait None) ≡ ns = cc in
        sym same ∙ none (count_by (is_withdrawal f 1) o.since)

first_apart : (cs : List Command) (e : Event) (change : Settings × Table → Settings × Table)
    → KeepsApart cs e 1 change
first_apart cs e change f s x ns here waits a =
    subst (AreApart (change x).1) (sym (first_waits cs f s ns (eqb-true s 1 (grind arith)) waits))
    (nobody_waits (change x).1)

-- an entry, which the rounds note
pub entered : (cs : List Command) (e : Event) (n : ℕ) (result : Result (Option Code) AllocError)
    (old new : Index) → IsIndexOf cs old → new.competitors ≡ old.competitors
    → Done result (Changes (round_id e 1) (with_entry n) old.rounds new.rounds)
    → Refused result (new.rounds.opened.items ≡ old.rounds.opened.items)
    → Noted cs (Enter e n) result new
entered cs e n result old new is same done refused =
    changed cs (Enter e n) (round_id e 1) (with_entry n) result old new is (λ f s k m. refl)
    (λ f s. round_enter f e s n cs) (first_apart cs e (with_entry n)) same done refused

left_true : (a b : Bool) → (a && b) ≡ true → a ≡ true
left_true true b h = refl
left_true false b h = absurd (false≢true h)

-- what is entered for an attempt, which the rounds note
entry_noted : (cs : List Command) (c : Command) (entry : AttemptEntry)
    (change : Settings × Table → Settings × Table) (result : Result (Option Code) AllocError)
    (old new : Index) → IsIndexOf cs old → new.competitors ≡ old.competitors → EntersOnly c
    → ((f : Event) (s j m : ℕ) → solving f s j m c
    ≡ cond (is_of f s entry.id && (m == entry.number && j == entry.attempt))
    (Some (is_solution entry.outcome)) None) → MakesOf cs c entry.id.event entry.id.round change
    → ((x : Settings × Table) (n : ℕ) → is_entered (change x).1 n ≡ is_entered x.1 n)
    → Done result (Enters entry change old.rounds new.rounds)
    → Refused result (IsAsBefore old.rounds new.rounds) → Noted cs c result new
entry_noted cs c entry change result old new is same only solves one stay done refused =
    noted_or cs c new (Enters entry change old.rounds new.rounds)
    (IsAsBefore old.rounds new.rounds) result (λ enters.
    indexed cs c old new is same (λ m. ap (λ (x : Besides). x.0) (only e r 0 m))
    (λ m. ap (λ (x : Besides). x.1) (only e r 0 m))
    (rounds_more cs c e r change old.rounds.opened.items new.rounds.opened.items is.rounds only one
    (same_entered cs e r change stay) enters.rounds enters.scrambles enters.waiting enters.seen
    (λ f s j m low.
    enters.solved f s j m low
    ∙ ap (cond (is_of f s entry.id && (m == entry.number && j == entry.attempt))
    (is_solution entry.outcome)) (is.rounds.solved f s j m low)
    ∙ sym (solved_entered f s j m cs c
    (is_of f s entry.id && (m == entry.number && j == entry.attempt)) (is_solution entry.outcome)
    (cancels_none f s c (ap (λ (x : Besides). x.4) (only f s 0 0))) (solves f s j m) (λ h.
    there_by cs old.rounds.opened.items entry.id is.rounds enters.there f s
    (left_true (is_of f s entry.id) (m == entry.number && j == entry.attempt) h))))))
    (kept_as_before cs old new is same) done refused
  where
    e : Event
    e = entry.id.event

    r : ℕ
    r = entry.id.round

pub attempted : (cs : List Command) (entry : AttemptEntry)
    (result : Result (Option Code) AllocError) (old new : Index)
    → IsIndexOf cs old → new.competitors ≡ old.competitors
    → Done result (AddsAttempt entry (scramble_by cs entry) old.rounds new.rounds)
    → Refused result (IsAsBefore old.rounds new.rounds) → Noted cs (Attempt entry) result new
attempted cs entry result old new is same done refused =
    entry_noted cs (Attempt entry) entry
    (with_attempt entry.number (scramble_by cs entry) entry.outcome) result old new is same
    (λ f s j m. refl) (λ f s j m. refl) (λ f s.
    round_attempt f entry.id.event s entry.id.round entry.attempt entry.number entry.outcome cs)
    (λ y m.
    changed_stays m entry.number
    (λ vs. vs ++ settled y.0 (scramble_by cs entry) entry.outcome ∷ []) y.1.entrants) done refused

pub corrected : (cs : List Command) (entry : AttemptEntry)
    (result : Result (Option Code) AllocError) (old new : Index)
    → IsIndexOf cs old → new.competitors ≡ old.competitors
    → Done result (Corrects entry (scramble_by cs entry) old.rounds new.rounds)
    → Refused result (IsAsBefore old.rounds new.rounds) → Noted cs (Correct entry) result new
corrected cs entry result old new is same done refused =
    entry_noted cs (Correct entry) entry
    (with_correction entry.number entry.attempt (scramble_by cs entry) entry.outcome) result old
    new is same (λ f s j m. refl) (λ f s j m. refl) (λ f s.
    round_correct f entry.id.event s entry.id.round entry.attempt entry.number entry.outcome cs)
    (λ y m.
    changed_stays m entry.number
    (replaced entry.attempt (settled y.0 (scramble_by cs entry) entry.outcome)) y.1.entrants)
    done refused

-- a withdrawal, which the rounds note
exited : (cs : List Command) (e : Event) (r n : ℕ) (old new : List KeptRound)
    → AreRounds cs old → ExchangesRound e r n old new
    → AreRounds (cs ++ Withdraw (round_id e r) n ∷ []) new
exited cs e r n old new are done = record {
  rounds =
      λ f s. done.rounds f s
      ∙ ap (λ (x : Option (List ℕ)).
      cond (same_event f e && s == r)
      (option_map (with_exit n (option_and_then first_of_all x)) (kept_round f s old))
      (kept_round f s old)) (are.waiting e r)
      ∙ ap (λ (x : Option (Settings × Table)).
      cond (same_event f e && s == r)
      (option_map (with_exit n (option_and_then first_of_all (waiting_of cs e r))) x) x)
      (are.rounds f s)
      ∙ sym (round_exit f e s r n cs);
  scrambles =
      scrambles_kept cs (Withdraw (round_id e r) n) old new are (λ f s. refl) (λ f s k. refl)
      (λ f s k. refl) done.scrambles;
  waiting =
      λ f s. done.waiting f s
      ∙ ap (λ (x : Option (List ℕ)). cond (same_event f e && s == r) (option_map (drop 1) x) x)
      (are.waiting f s)
      ∙ sym (waiting_exit f e s r n cs);
  apart =
      λ f s.
      rw (done.rounds f s, done.waiting f s) (step f s (same_event f e && s == r) refl);
  solved =
      λ f s k m low. done.solved f s k m ∙ are.solved f s k m low
      ∙ sym (solved_same f s k m cs (Withdraw (round_id e r) n) refl refl);
  seen =
      λ f s. done.seen f s ∙ are.seen f s
      ∙ sym (seen_same f s cs (Withdraw (round_id e r) n) refl);
}
  where
    next : Option ℕ
    next = option_and_then first_of_all (kept_waiting e r old)

    both : (x : Option (Settings × Table)) (w : Option (List ℕ)) → IsApart x w
        → IsApart (option_map (with_exit n (option_and_then first_of_all w)) x)
        (option_map (drop 1) w)
    both None w a = tt
    both (Some x) None a = tt
    both (Some x) (Some ns) a = apart_exit x.1 n ns a

    alike : (f : Event) (s : ℕ) → (same_event f e && s == r) ≡ true
        → kept_waiting f s old ≡ kept_waiting e r old
    alike f s h =
        let event : f ≡ e = same_event-equal f e (grind arith) in
        let round : s ≡ r = eqb-true s r (grind arith) in
        ap (λ (g : Event). kept_waiting g s old) event
        ∙ ap (λ (k : ℕ). kept_waiting e k old) round

    step : (f : Event) (s : ℕ) (b : Bool) → (same_event f e && s == r) ≡ b
        → IsApart (cond b (option_map (with_exit n next) (kept_round f s old)) (kept_round f s old))
        (cond b (option_map (drop 1) (kept_waiting f s old)) (kept_waiting f s old))
    step f s true h =
        subst (λ (w : Option (List ℕ)).
        IsApart (option_map (with_exit n (option_and_then first_of_all w)) (kept_round f s old))
        (option_map (drop 1) (kept_waiting f s old))) (alike f s h)
        (both (kept_round f s old) (kept_waiting f s old) (are.apart f s))
    step f s false h = are.apart f s

pub withdrew : (cs : List Command) (e : Event) (r n : ℕ) (result : Result (Option Code) AllocError)
    (old new : Index) → IsIndexOf cs old → new.competitors ≡ old.competitors
    → Done result (Exchanges (round_id e r) n old.rounds new.rounds)
    → Refused result (new.rounds.opened.items ≡ old.rounds.opened.items)
    → Noted cs (Withdraw (round_id e r) n) result new
withdrew cs e r n result old new is same done refused =
    noted_or cs (Withdraw (round_id e r) n) new (Exchanges (round_id e r) n old.rounds new.rounds)
    (new.rounds.opened.items ≡ old.rounds.opened.items) result (λ exchanges.
    indexed cs (Withdraw (round_id e r) n) old new is same (λ m. refl) (λ m. refl)
    (exited cs e r n old.rounds.opened.items new.rounds.opened.items is.rounds exchanges))
    (unchanged cs old new is same) done refused

-- the refusal of a closing, by the rounds as they are kept
pub close_alike : (cs : List Command) (xs : List KeptRound) (e : Event) (r : ℕ) → AreRounds cs xs
    → close_refusal (kept_competitors e xs) r (kept_round e r xs)
    ≡ close_refusal (competitors_seen cs e) r (round_of cs e r)
close_alike cs xs e r are =
    ap (close_refusal (kept_competitors e xs) r) (are.rounds e r) ∙ step (round_of cs e r)
  where
    step : (x : Option (Settings × Table))
        → close_refusal (kept_competitors e xs) r x ≡ close_refusal (competitors_seen cs e) r x
    step None = refl
    step (Some round) =
        ap (end_refusal (close_fault round.1))
        (breaks_alike (kept_competitors e xs) (competitors_seen cs e) r round.0.advance
        (λ j. competitors_alike cs xs e j are))

-- an opening, which the rounds note
pub opened : (cs : List Command) (e : Event) (r : ℕ) (settings : Settings) (old new : Index)
    → IsIndexOf cs old → 1 ≤ r → new.competitors ≡ old.competitors
    → Opens (round_id e r) settings old.rounds new.rounds
    → IsIndexOf (cs ++ Open (round_id e r) settings ∷ []) new
opened cs e r settings old new is low same opens = record {
  competitors =
      rw same (AreCompetitors-other cs (Open (round_id e r) settings) old.competitors (λ m. refl)
      (λ m. refl) is.competitors);
  rounds = record {
    rounds = λ f s.
        opens.adds.rounds f s
        ∙ ap (λ (x : Option (Settings × Table)).
        option_or x (cond (same_event f e && s == r)
        (Some (with_table settings (with_newcomers (new_table e settings) (who_advance before))))
        None)) (is.rounds.rounds f s)
        ∙ ap (λ (x : Option (Settings × Table)).
        option_or (round_of cs f s) (cond (same_event f e && s == r)
        (Some (with_table settings (with_newcomers (new_table e settings) (who_advance x)))) None))
        (is.rounds.rounds e (r - 1))
        ∙ sym (round_open f e s r settings cs low);
    scrambles =
        scrambles_kept cs (Open (round_id e r) settings) old.rounds.opened.items
        new.rounds.opened.items is.rounds (λ f s. refl) (λ f s k. refl) (λ f s k. refl)
        opens.adds.scrambles;
    waiting = λ f s.
        opens.adds.waiting f s
        ∙ ap (λ (x : Option (List ℕ)).
        option_or x (cond (same_event f e && s == r) (Some (who_wait before)) None))
        (is.rounds.waiting f s)
        ∙ ap (λ (x : Option (Settings × Table)).
        option_or (waiting_of cs f s) (cond (same_event f e && s == r) (Some (who_wait x)) None))
        (is.rounds.rounds e (r - 1))
        ∙ sym (waiting_open f e s r settings cs low);
    apart = λ f s.
        rw (opens.adds.rounds f s, opens.adds.waiting f s)
        (apart_added (find (is_round f s) old.rounds.opened.items) (same_event f e && s == r)
        (settings, table_opened e settings (who_advance before)) (who_wait before)
        (is.rounds.apart f s)
        (apart_opened e settings (who_advance before) (who_wait before) opens.once opens.others));
    solved = λ f s k m low.
        opens.adds.solved f s k m ∙ is.rounds.solved f s k m low
        ∙ sym (solved_same f s k m cs (Open (round_id e r) settings) refl refl);
    seen = λ f s.
        opens.adds.seen f s
        ∙ ap (λ (x : Option (List ℕ × ℕ)).
        option_or x (cond (same_event f e && s == r) (Some (seen_from before)) None))
        (is.rounds.seen f s)
        ∙ ap (λ (x : Option (Settings × Table)).
        option_or (before_of cs f s) (cond (same_event f e && s == r) (Some (seen_from x)) None))
        (is.rounds.rounds e (r - 1))
        ∙ sym (seen_open f e s r settings cs low);
  };
}
  where
    before : Option (Settings × Table)
    before = kept_round e (r - 1) old.rounds.opened.items

-- what is asked of a round that is not kept any more, or of one that is
asked_of : {X Y : Type 0} (g : X → Y) (b : Bool) (x : Option X)
    → option_map g (cond b None x) ≡ cond b None (option_map g x)
asked_of g true x = refl
asked_of g false x = refl

-- a round is taken back
taken_back : (cs : List Command) (e : Event) (r : ℕ) (old new : List KeptRound) → AreRounds cs old
    → ((f : Event) (s : ℕ) → find (is_round f s) new
    ≡ cond (same_event f e && s == r) None (find (is_round f s) old))
    → AreRounds (cs ++ Cancel (round_id e r) ∷ []) new
taken_back cs e r old new are gone = record {
  rounds =
      λ f s. each kept_value f s
      ∙ ap (cond (same_event f e && s == r) None) (are.rounds f s)
      ∙ sym (round_cancel f e s r cs);
  scrambles =
      λ f s k low.
      ap (λ x. option_and_then (scramble_at (cs ++ c ∷ []) f s k) (option_and_then (place_in k) x))
      (gone f s)
      ∙ scrambled_before_or f s k low (same_event f e && s == r)
      ∙ sym (scramble_cancel f e s r k cs);
  waiting =
      λ f s. each waiting_in f s
      ∙ ap (cond (same_event f e && s == r) None) (are.waiting f s)
      ∙ sym (waiting_cancel f e s r cs);
  apart =
      λ f s.
      rw (each kept_value f s, each waiting_in f s) (outside f s (same_event f e && s == r));
  solved =
      λ f s k n low.
      ap (λ x. option_map_or (solved_in k n) x false) (gone f s)
      ∙ noted f s k n (same_event f e && s == r)
      ∙ ap (cond (same_event f e && s == r) false) (are.solved f s k n low)
      ∙ sym (solved_cancel f e s r k n cs);
  seen =
      λ f s. each seen_in f s
      ∙ ap (cond (same_event f e && s == r) None) (are.seen f s)
      ∙ sym (seen_cancel f e s r cs);
}
  where
    c : Command
    c = Cancel (round_id e r)

    each : {X : Type 0} (g : KeptRound → X) (f : Event) (s : ℕ)
        → option_map g (find (is_round f s) new)
        ≡ cond (same_event f e && s == r) None (option_map g (find (is_round f s) old))
    each g f s =
        ap (option_map g) (gone f s)
        ∙ asked_of g (same_event f e && s == r) (find (is_round f s) old)

    scrambled_before_or : (f : Event) (s k : ℕ) → 1 ≤ k → (b : Bool)
        → option_and_then (scramble_at (cs ++ c ∷ []) f s k)
        (option_and_then (place_in k) (cond b None (find (is_round f s) old)))
        ≡ cond b None (scramble_of cs f s k)
    scrambled_before_or f s k low true = refl
    scrambled_before_or f s k low false =
        found_push (scramble_given f s k) cs c (kept_scramble f s k old) refl
        ∙ are.scrambles f s k low

    outside : (f : Event) (s : ℕ) (b : Bool)
        → IsApart (cond b None (kept_round f s old)) (cond b None (kept_waiting f s old))
    outside f s true = tt
    outside f s false = are.apart f s

    noted : (f : Event) (s k n : ℕ) (b : Bool)
        → option_map_or (solved_in k n) (cond b None (find (is_round f s) old)) false
        ≡ cond b false (kept_solved f s k n old)
    noted f s k n true = refl
    noted f s k n false = refl

-- a round that is taken back, which the rounds note
pub cancelled_or : (cs : List Command) (e : Event) (r : ℕ) (refused : Option Code) (old new : Index)
    → IsIndexOf cs old → new.competitors ≡ old.competitors
    → IfNone refused (Cancels (round_id e r) old.rounds new.rounds)
    → OnSome refused (new.rounds.opened.items ≡ old.rounds.opened.items)
    → IsIndexOf (cs ++ added refused (Cancel (round_id e r))) new
cancelled_or cs e r refused old new is same done refuses =
    noted_or cs (Cancel (round_id e r)) new (Cancels (round_id e r) old.rounds new.rounds)
    (new.rounds.opened.items ≡ old.rounds.opened.items) (Ok refused) (λ cancels.
    indexed cs (Cancel (round_id e r)) old new is same (λ m. refl) (λ m. refl)
    (taken_back cs e r old.rounds.opened.items new.rounds.opened.items is.rounds cancels))
    (unchanged cs old new is same) done refuses

-- a scramble that is not refused is the first of its attempt
unscrambled : (e : Event) (k : ℕ) (scramble : Option (List Move))
    (round : Option (Settings × Table))
    → scramble_refusal e k scramble round ≡ None → scramble ≡ None
unscrambled e k scramble None h = absurd (false≢true (sym (ap is_some h)))
unscrambled e k scramble (Some round) h =
    step scramble round.1.is_closed (is_moves (unit_of e)) (nat_lt (attempts_of round.0.format) k) h
  where
    step : (x : Option (List Move)) (closed moves above : Bool) → cond closed (Some code.Closed)
        (cond (not moves) (Some code.WrongOutcome)
        (cond above (Some code.NoSuchAttempt) (cond (is_some x) (Some code.ScrambleThere) None)))
        ≡ None → x ≡ None
    step None closed moves above h = refl
    step (Some x) true moves above h = absurd (false≢true (sym (ap is_some h)))
    step (Some x) false false above h = absurd (false≢true (sym (ap is_some h)))
    step (Some x) false true true h = absurd (false≢true (sym (ap is_some h)))
    step (Some x) false true false h = absurd (false≢true (sym (ap is_some h)))

-- a scramble that takes the place of another one finds one
scrambled_before : (e : Event) (k : ℕ) (scramble : Option (List Move)) (solved : ℕ → Bool)
    (round : Option (Settings × Table))
    → rescramble_refusal e k scramble solved round ≡ None → is_some scramble ≡ true
scrambled_before e k scramble solved None h = absurd (false≢true (sym (ap is_some h)))
scrambled_before e k scramble solved (Some round) h =
    step scramble (is_moves (unit_of e)) round.1.is_closed
    (list_any (has_solved solved round.1 k) (standings round.1)) h
  where
    step : (x : Option (List Move)) (moves closed attempted : Bool)
        → cond (not moves) (Some code.WrongOutcome) (cond (not (is_some x)) (Some code.NoScramble)
        (cond closed (Some code.Closed) (cond attempted (Some code.HasAttempts) None))) ≡ None
        → is_some x ≡ true
    step (Some x) moves closed attempted h = refl
    step None true closed attempted h = absurd (false≢true (sym (ap is_some h)))
    step None false closed attempted h = absurd (false≢true (sym (ap is_some h)))

-- a command that gives one attempt a scramble, which is then
pub record Scrambles (cs : List Command) (c : Command) (e : Event) (r k : ℕ)
    (moves : List Move) : Type 0 where
  pub gives : (f : Event) (s j : ℕ) → (same_event f e && s == r && j == k) ≡ true
      → scramble_given f s j c ≡ Some moves
  pub stands : (f : Event) (s j : ℕ) → (same_event f e && s == r && j == k) ≡ true
      → scramble_of (cs ++ c ∷ []) f s j ≡ Some moves
  pub sets : (f : Event) (s j : ℕ) → (same_event f e && s == r && j == k) ≡ false
      → scrambling f s j c ≡ None
  pub again : (f : Event) (s j : ℕ) → (same_event f e && s == r && j == k) ≡ false
      → rescrambling f s j c ≡ None
  pub only : ScramblesOnly c
  pub rounds : (f : Event) (s : ℕ) → round_of (cs ++ c ∷ []) f s ≡ round_of cs f s

-- its place is noted
scrambles_set : (cs : List Command) (c : Command) (e : Event) (r k : ℕ) (moves : List Move)
    (old new : List KeptRound) → AreRounds cs old → Scrambles cs c e r k moves
    → AddsScramble e r k (length cs) old new → (f : Event) (s j : ℕ) → 1 ≤ j
    → option_and_then (scramble_at (cs ++ c ∷ []) f s j) (kept_scramble f s j new)
    ≡ scramble_of (cs ++ c ∷ []) f s j
scrambles_set cs c e r k moves old new are gives adds f s j one =
    step (same_event f e && s == r && j == k) refl
  where
    step : (b : Bool) → (same_event f e && s == r && j == k) ≡ b
        → option_and_then (scramble_at (cs ++ c ∷ []) f s j) (kept_scramble f s j new)
        ≡ scramble_of (cs ++ c ∷ []) f s j
    step true h =
        let place : kept_scramble f s j new ≡ Some (length cs) = adds.scrambles f s j one
        ∙ rw h refl in
        ap (option_and_then (scramble_at (cs ++ c ∷ []) f s j)) place
        ∙ ap (option_and_then (scramble_given f s j)) (at_end cs c)
        ∙ gives.gives f s j h ∙ sym (gives.stands f s j h)
    step false h =
        let place : kept_scramble f s j new ≡ kept_scramble f s j old = adds.scrambles f s j one
        ∙ rw h refl in
        ap (option_and_then (scramble_at (cs ++ c ∷ []) f s j)) place
        ∙ found_push (scramble_given f s j) cs c (kept_scramble f s j old)
        (rw (gives.sets f s j h, gives.again f s j h) refl)
        ∙ are.scrambles f s j one
        ∙ sym
        (scramble_kept f s j cs c (cancels_none f s c (ap (λ (x : Besides). x.4) (gives.only f s 0
        0))) (gives.sets f s j h) (gives.again f s j h))

scramble_noted : (cs : List Command) (c : Command) (e : Event) (r k : ℕ) (moves : List Move)
    (old new : Index)
    → IsIndexOf cs old → Scrambles cs c e r k moves → new.competitors ≡ old.competitors
    → AddsScramble e r k (length cs) old.rounds.opened.items new.rounds.opened.items
    → IsIndexOf (cs ++ c ∷ []) new
scramble_noted cs c e r k moves old new is gives same done =
    indexed cs c old new is same (λ n. ap (λ (x : Besides). x.0) (gives.only e r 0 n))
    (λ n. ap (λ (x : Besides). x.1) (gives.only e r 0 n)) (record {
      rounds = λ f s. done.rounds f s ∙ is.rounds.rounds f s ∙ sym (gives.rounds f s);
      scrambles =
          scrambles_set cs c e r k moves old.rounds.opened.items new.rounds.opened.items is.rounds
          gives done;
      waiting =
          λ f s. done.waiting f s ∙ is.rounds.waiting f s
          ∙ sym
          (waiting_same f s cs c (opens f s) (ap (λ (x : Besides). x.5) (gives.only f s 0 0)));
      apart = λ f s. rw (done.rounds f s, done.waiting f s) (is.rounds.apart f s);
      solved =
          λ f s j n low. done.solved f s j n ∙ is.rounds.solved f s j n low
          ∙ sym (solved_same f s j n cs c (cancels_none f s c (opens f s))
          (ap (λ (x : Besides). x.6) (gives.only f s j n)));
      seen = λ f s. done.seen f s ∙ is.rounds.seen f s ∙ sym (seen_same f s cs c (opens f s));
    })
  where
    opens : (f : Event) (s : ℕ) → keeps_open f s c ≡ true
    opens f s = ap (λ (x : Besides). x.4) (gives.only f s 0 0)

-- what of the rounds is otherwise where it is done, and where it is refused
noted_scramble_or : (cs : List Command) (c : Command) (e : Event) (r k : ℕ) (moves : List Move)
    (result : Result (Option Code) AllocError) (old new : Index) → IsIndexOf cs old
    → IfOk result (λ refused. refused ≡ None → Scrambles cs c e r k moves)
    → new.competitors ≡ old.competitors → Done result
    (AddsScramble e r k (length cs) old.rounds.opened.items new.rounds.opened.items)
    → Refused result (new.rounds.opened.items ≡ old.rounds.opened.items) → Noted cs c result new
noted_scramble_or cs c e r k moves (Ok None) old new is gives same done refused =
    scramble_noted cs c e r k moves old new is (gives refl) same done
noted_scramble_or cs c e r k moves (Ok (Some code)) old new is gives same done refused =
    nothing_added cs new (unchanged cs old new is same refused)
noted_scramble_or cs c e r k moves (Err fault) old new is gives same done refused = tt

-- what is the same of one event and round
here_of : {X : Type 0} (P : Event → ℕ → ℕ → X) (e f : Event) (r s k j : ℕ)
    → (same_event f e && s == r && j == k) ≡ true → P f s j ≡ P e r k
here_of P e f r s k j h =
    let event : f ≡ e = same_event-equal f e (grind arith) in
    let round : s ≡ r = eqb-true s r (grind arith) in
    let attempt : j ≡ k = eqb-true j k (grind arith) in
    ap (λ (g : Event). P g s j) event ∙ ap (λ (m : ℕ). P e m j) round
    ∙ ap (λ (m : ℕ). P e r m) attempt

first_scramble : (cs : List Command) (e : Event) (r k : ℕ) (moves : List Move)
    → is_some (round_of cs e r) ≡ true → scramble_of cs e r k ≡ None
    → Scrambles cs (Scramble (round_id e r) k moves) e r k moves
first_scramble cs e r k moves there absent = record {
  gives = λ f s j h. rw h refl;
  stands =
      λ f s j h.
      scramble_new f s j cs (Scramble (round_id e r) k moves) moves refl (rw h refl)
      (here_of (λ g m i. is_some (round_of cs g m)) e f r s k j h ∙ there)
      (here_of (λ g m i. scramble_of cs g m i) e f r s k j h ∙ absent);
  sets = λ f s j h. rw h refl;
  again = λ f s j h. refl;
  only = λ f s j n. refl;
  rounds = λ f s. round_scramble f e s r k moves cs;
}

other_scramble : (cs : List Command) (e : Event) (r k : ℕ) (moves : List Move)
    → is_some (scramble_of cs e r k) ≡ true
    → Scrambles cs (Rescramble (round_id e r) k moves) e r k moves
other_scramble cs e r k moves there = record {
  gives = λ f s j h. rw h refl;
  stands =
      λ f s j h.
      scramble_again f s j cs (Rescramble (round_id e r) k moves) moves refl (rw h refl)
      (here_of (λ g m i. is_some (scramble_of cs g m i)) e f r s k j h ∙ there);
  sets = λ f s j h. refl;
  again = λ f s j h. rw h refl;
  only = λ f s j n. refl;
  rounds = λ f s. round_rescramble f e s r k moves cs;
}

-- a scramble, which the rounds note
pub scrambled : (cs : List Command) (e : Event) (r k : ℕ) (moves : List Move)
    (refused : Option Code) (old new : Index) → IsIndexOf cs old
    → refused ≡ scramble_refusal e k (scramble_of cs e r k) (round_of cs e r)
    → new.competitors ≡ old.competitors → IfNone refused
    (AddsScramble e r k (length cs) old.rounds.opened.items new.rounds.opened.items)
    → OnSome refused (new.rounds.opened.items ≡ old.rounds.opened.items)
    → IsIndexOf (cs ++ added refused (Scramble (round_id e r) k moves)) new
scrambled cs e r k moves refused old new is says same done refuses =
    noted_scramble_or cs (Scramble (round_id e r) k moves) e r k moves (Ok refused) old new is
    (λ none.
    first_scramble cs e r k moves
    (round_there e k (scramble_of cs e r k) (round_of cs e r) (sym says ∙ none))
    (unscrambled e k (scramble_of cs e r k) (round_of cs e r) (sym says ∙ none))) same done refuses
  where
    round_there : (e : Event) (k : ℕ) (scramble : Option (List Move))
        (round : Option (Settings × Table)) → scramble_refusal e k scramble round ≡ None
        → is_some round ≡ true
    round_there e k scramble None h = absurd (false≢true (sym (ap is_some h)))
    round_there e k scramble (Some round) h = refl

-- another scramble, which the rounds note
pub rescrambled : (cs : List Command) (e : Event) (r k : ℕ) (moves : List Move)
    (result : Result (Option Code) AllocError) (old new : Index) → IsIndexOf cs old → IfOk result
    (λ refused.
    refused ≡ rescramble_refusal e k (scramble_of cs e r k) (is_solved cs e r k) (round_of cs e r))
    → new.competitors ≡ old.competitors → Done result
    (AddsScramble e r k (length cs) old.rounds.opened.items new.rounds.opened.items)
    → Refused result (new.rounds.opened.items ≡ old.rounds.opened.items)
    → Noted cs (Rescramble (round_id e r) k moves) result new
rescrambled cs e r k moves result old new is says same done refused =
    noted_scramble_or cs (Rescramble (round_id e r) k moves) e r k moves result old new is
    (found result says) same done refused
  where
    found : (answer : Result (Option Code) AllocError) → IfOk answer (λ refused.
        refused ≡ rescramble_refusal e k (scramble_of cs e r k) (is_solved cs e r k) (round_of cs e r))
        → IfOk answer
        (λ refused. refused ≡ None → Scrambles cs (Rescramble (round_id e r) k moves) e r k moves)
    found (Ok refused) says = λ none.
        other_scramble cs e r k moves
        (scrambled_before e k (scramble_of cs e r k) (is_solved cs e r k) (round_of cs e r)
        (sym says ∙ none))
    found (Err fault) says = tt

-- why another scramble is refused, by the rounds as they are kept
pub rescramble_alike : (cs : List Command) (xs : List KeptRound) (e : Event) (r k : ℕ) → 1 ≤ k
    → AreRounds cs xs → (scramble : Option (List Move))
    → rescramble_refusal e k scramble (λ n. kept_solved e r k n xs) (kept_round e r xs)
    ≡ rescramble_refusal e k scramble (is_solved cs e r k) (round_of cs e r)
rescramble_alike cs xs e r k low are scramble =
    ap (rescramble_refusal e k scramble (λ n. kept_solved e r k n xs)) (are.rounds e r)
    ∙ step (round_of cs e r)
  where
    step : (x : Option (Settings × Table))
        → rescramble_refusal e k scramble (λ n. kept_solved e r k n xs) x
        ≡ rescramble_refusal e k scramble (is_solved cs e r k) x
    step None = refl
    step (Some round) =
        ap (λ (b : Bool).
        cond (not (is_moves (unit_of e))) (Some code.WrongOutcome)
        (cond (not (is_some scramble)) (Some code.NoScramble)
        (cond round.1.is_closed (Some code.Closed) (cond b (Some code.HasAttempts) None))))
        (any_alike (has_solved (λ n. kept_solved e r k n xs) round.1 k)
        (has_solved (is_solved cs e r k) round.1 k) (λ n.
        ap (λ b. holds_of (has_done k) (entrant round.1 n) && b) (are.solved e r k n low))
        (standings round.1))

-- before any command no round is open
nothing_open : (e : Event) (r : ℕ) → None ≡ round_of [] e r
unfolding round_in
nothing_open e zero = refl
nothing_open e (suc r) = refl

nobody_waits_yet : (e : Event) (r : ℕ) → None ≡ waiting_of [] e r
nobody_waits_yet e zero = refl
nobody_waits_yet e (suc r) = refl

nothing_seen_yet : (e : Event) (r : ℕ) → None ≡ before_of [] e r
nothing_seen_yet e zero = refl
nothing_seen_yet e (suc r) = refl

pub no_rounds : (xs : List KeptRound) → xs ≡ [] → AreRounds [] xs
no_rounds xs is = record {
  rounds = λ e r. ap (kept_round e r) is ∙ nothing_open e r;
  scrambles =
      λ e r k low.
      ap (λ (ys : List KeptRound). option_and_then (scramble_at [] e r k) (kept_scramble e r k ys))
      is;
  waiting = λ e r. ap (kept_waiting e r) is ∙ nobody_waits_yet e r;
  apart = λ e r. rw is tt;
  solved =
      λ e r k n low. ap (λ (ys : List KeptRound). kept_solved e r k n ys) is ∙ refl;
  seen = λ e r. ap (kept_seen e r) is ∙ nothing_seen_yet e r;
}
