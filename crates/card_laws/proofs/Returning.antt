-- A card that is accepted after something else counted.
use Rattle.std.proofs.Common.{◌≡◌, ℕ, Bool, true, false, cond, List, [], ◌∷◌, ◌++◌, Some, None}
use Rattle.std.proofs.Common.{refl, sym, ap, ◌∙◌, subst, append_assoc, append-nil}
use Rattle.std.proofs.lemmas.Bool.{false≢true}
use Rattle.attempts.specs.declared.Value.{Value}
use Rattle.formats.specs.declared.events.Event.{Event}
use Rattle.texts.specs.declared.command.{Command.Command, CardEntry.CardEntry, RoundId.RoundId}
use Rattle.texts.specs.declared.command.Command.TheVariants.{Card, Cancel}
use Rattle.rounds.specs.Tables.{Entrant}
use Rattle.commands.specs.Accepted.{refusal, round_of, is_cancelled}
use Rattle.commands.proofs.EachCommand.{round_cancel}
use Rattle.card_laws.specs.Accepting.{first_refusal, AreAccepted}
use Rattle.card_laws.specs.{Holding.held, Holding.names, GivingBack.is_shown, GivingBack.GivesBack}
use Rattle.card_laws.specs.GivingBack.{has_values, AreOverTheSame, SecondOnlyWhereGivenBack}
use Rattle.card_laws.specs.GivingBack.{shows, AcceptedOnlyWhereGivenBack, FixedOnlyWhereGivenBack}
use Rattle.card_laws.proofs.Accepted.{none_second, accepted_front, accepted_one}
use Rattle.card_laws.proofs.{Staying.one_more, Taking.card_shown, Taking.fix_shown}

-- nobody is in a round that is taken back
nobody_left : (cs : List Command) (c : Command) (e : Event) (r n : ℕ) → is_cancelled e r c ≡ true
    → held n (round_of (cs ++ c ∷ []) e r) ≡ None
nobody_left cs (Cancel id) e r n is =
    ap (held n) (round_cancel e id.event r id.round cs
    ∙ ap (λ (b : Bool). cond b None (round_of cs e r)) is)
nobody_left cs _ e r n is = absurd (false≢true is)

module _ (e : Event) (r n : ℕ) (was : List Value) where
  -- a command that makes a round say so names the entrant who was in it
  named : (cs : List Command) (c : Command) (stood : Entrant) → shows cs e r n was ≡ false
      → shows (cs ++ c ∷ []) e r n was ≡ true → held n (round_of cs e r) ≡ Some stood
      → (a b : Bool) → names e r n c ≡ a → is_cancelled e r c ≡ b → names e r n c ≡ true
  named cs c stood before now there true b is stays = is
  named cs c stood before now there false true is stays =
      absurd (false≢true (sym (ap (has_values was) (nobody_left cs c e r n stays)) ∙ now))
  named cs c stood before now there false false is stays =
      absurd (false≢true (sym before
      ∙ ap (has_values was) (there ∙ sym (one_more cs c e r n stood there is stays))
      ∙ now))

  here : (cs : List Command) (c : Command) (ds : List Command) → shows cs e r n was ≡ false
      → shows (cs ++ c ∷ []) e r n was ≡ true → GivesBack cs (c ∷ ds) e r n was
  here cs c ds before now =
      let bare : round_of (cs ++ []) e r ≡ round_of cs e r =
      ap (λ (xs : List Command). round_of xs e r) (append-nil cs) in
      record {
        front = [];
        one = c;
        back = ds;
        there = refl;
        otherwise = ap (λ o. has_values was (held n o)) bare ∙ before;
        given = rw (append-nil cs) now;
        names =
            λ stood is.
            named cs c stood before now (ap (held n) (sym bare) ∙ is) (names e r n c)
            (is_cancelled e r c) refl refl;
      }

  later : (cs : List Command) (c : Command) (ds : List Command)
      → GivesBack (cs ++ c ∷ []) ds e r n was → GivesBack cs (c ∷ ds) e r n was
  later cs c ds g =
      let same : round_of ((cs ++ c ∷ []) ++ g.front) e r ≡ round_of (cs ++ c ∷ g.front) e r =
      ap (λ (xs : List Command). round_of xs e r) (append_assoc cs (c ∷ []) g.front) in
      let next : round_of (((cs ++ c ∷ []) ++ g.front) ++ g.one ∷ []) e r
      ≡ round_of ((cs ++ c ∷ g.front) ++ g.one ∷ []) e r =
      ap (λ (xs : List Command). round_of (xs ++ g.one ∷ []) e r)
      (append_assoc cs (c ∷ []) g.front) in
      record {
        front = c ∷ g.front;
        one = g.one;
        back = g.back;
        there = ap (λ (xs : List Command). c ∷ xs) g.there;
        otherwise = ap (λ o. has_values was (held n o)) (sym same) ∙ g.otherwise;
        given = ap (λ o. has_values was (held n o)) (sym next) ∙ g.given;
        names = λ stood is. g.names stood (ap (held n) same ∙ is);
      }

  either : (cs : List Command) (c : Command) (ds : List Command) → shows cs e r n was ≡ false
      → (b : Bool) → shows (cs ++ c ∷ []) e r n was ≡ b
      → (b ≡ false → GivesBack (cs ++ c ∷ []) ds e r n was) → GivesBack cs (c ∷ ds) e r n was
  either cs c ds before true is rest = here cs c ds before is
  either cs c ds before false is rest = later cs c ds (rest refl)

  given_back : (cs ds : List Command) → shows cs e r n was ≡ false
      → shows (cs ++ ds) e r n was ≡ true → GivesBack cs ds e r n was
  given_back cs [] before now =
      absurd (false≢true (sym before
      ∙ ap (λ (xs : List Command). shows xs e r n was) (sym (append-nil cs))
      ∙ now))
  given_back cs (c ∷ ds) before now =
      either cs c ds before (shows (cs ++ c ∷ []) e r n was) refl (λ still.
      given_back (cs ++ c ∷ []) ds still
      (ap (λ (xs : List Command). shows xs e r n was) (append_assoc cs (c ∷ []) ds) ∙ now))

pub accepted_only_where_given_back : AcceptedOnlyWhereGivenBack
accepted_only_where_given_back cs between card before h =
    given_back card.id.event card.id.round card.number card.was cs between before
    (card_shown (cs ++ between) card h)

pub fixed_only_where_given_back : FixedOnlyWhereGivenBack
fixed_only_where_given_back cs between card before h =
    given_back card.id.event card.id.round card.number card.was cs between before
    (fix_shown (cs ++ between) card h)

-- Two cards over the same

-- a card over the same says that the same counts
shown_same : (cs : List Command) (first second : CardEntry) → AreOverTheSame first second
    → is_shown cs second ≡ is_shown cs first
shown_same cs first second same =
    sym (ap (λ (id : RoundId). shows cs id.event id.round first.number first.was) same.id
    ∙ ap (λ (n : ℕ). shows cs second.id.event second.id.round n first.was) same.number
    ∙ ap (shows cs second.id.event second.id.round second.number) same.was)

pub second_only_where_given_back : SecondOnlyWhereGivenBack
second_only_where_given_back cs between first second same accepted changes =
    let after : AreAccepted (cs ++ Card first ∷ []) (between ++ Card second ∷ []) =
    none_second (refusal cs (Card first))
    (first_refusal (cs ++ Card first ∷ []) (between ++ Card second ∷ [])) accepted in
    let given : GivesBack (cs ++ Card first ∷ []) between second.id.event second.id.round
    second.number second.was =
    accepted_only_where_given_back (cs ++ Card first ∷ []) between second
    (shown_same (cs ++ Card first ∷ []) first second same ∙ changes)
    (accepted_one (cs ++ Card first ∷ []) between [] (Card second) after) in (
      given,
      accepted_one (cs ++ Card first ∷ []) given.front given.back given.one
          (subst (AreAccepted (cs ++ Card first ∷ [])) given.there
          (accepted_front (cs ++ Card first ∷ []) between (Card second ∷ []) after)),
    )
