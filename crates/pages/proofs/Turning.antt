-- What is asked in a turn, one move after the other.
use Rattle.std.proofs.Common.{◌≡◌, ◌≢◌, ◌↔◌, ◌<◌, inl, inr, refl, sym, ap, ◌∙◌, ℕ, List, [], ◌∷◌}
use Rattle.std.proofs.Common.{◌++◌, length, Bool, true, false, ◌||◌, IsTrue, arith, true≢false}
use Rattle.std.specs.List.{list_any}
use Rattle.http_server.specs.{declared.state.Config.Config, History.History, History.Rests}
use Rattle.pages.specs.Asking.{AsksMove, Comes, OffersOnce}
use Rattle.pages.specs.Musts.{IsMove, MayOffer, Offers, Turns, came_by, has_failed, is_offer}
use Rattle.polled.specs.Requests.{Request}
use Rattle.pages.specs.declared.waiting.TurnOutcome.{TurnOutcome}
use Rattle.pages.specs.declared.waiting.TurnOutcome.TheVariants as turn

or_false : (b : Bool) → (b || false) ≡ b
or_false true = refl
or_false false = refl

or_true : (b : Bool) → (b || true) ≡ true
or_true true = refl
or_true false = refl

pub offer_is : (k : ℕ) (one : Request) → Offers k one → is_offer one ≡ true
offer_is k one h = ap is_offer h.3

-- the moves of a turn that offers, or not
first_offers : (k : ℕ) (h : History) (first : Request) (b : Bool) → IsMove k h first
    → (IsTrue b ↔ (0 < length h.pending)) → is_offer first ≡ b
first_offers k h first true (inl x) is = offer_is k first x.1
first_offers k h first false (inl x) is = absurd (true≢false (sym (is.1 x.0)))
first_offers k h first true (inr x) is = absurd (omega (arith, is.0 refl, x.0))
first_offers k h first false (inr x) is = ap is_offer x.1.1

-- a first move and what follows it
module _ (k : ℕ) (config : Config) (old new : History) (xs ys : List Request) where
  all_of : (first : Request) → xs ≡ first ∷ [] → xs ++ ys ≡ first ∷ ys
  all_of first is = ap (λ (t : List Request). t ++ ys) is

  -- the offer after it failed
  pub turn_over : AsksMove k old true xs → OffersOnce k false ys
      → Turns k config old new turn.Over (xs ++ ys)
  turn_over h o = record {
    first = h.first;
    move = h.move;
    more = ys;
    offer = inr (o.0, o.1, o.2);
    all = all_of h.first h.all;
    ends = inl
        (ap (list_any has_failed)
        (all_of h.first h.all ∙ ap (λ (t : List Request). h.first ∷ t) o.2)
        ∙ ap (λ b. has_failed h.first || (b || false)) o.3 ∙ or_true (has_failed h.first));
  }

  -- all moves succeeded
  pub turn_on : (sent : Bool) (came : TurnOutcome) → AsksMove k old true xs → MayOffer k ys
      → Rests config new → (ys ≡ [] → length new.pending ≡ 0) → list_any is_offer (xs ++ ys) ≡ sent
      → Comes new sent came → Turns k config old new came (xs ++ ys)
  turn_on sent turn.Over h offer rests prompt is comes = record {
    first = h.first;
    move = h.move;
    more = ys;
    offer = offer;
    all = all_of h.first h.all;
    ends = inr (inl comes);
  }
  turn_on sent turn.Answered h offer rests prompt is comes = record {
    first = h.first;
    move = h.move;
    more = ys;
    offer = offer;
    all = all_of h.first h.all;
    ends = record {
      rests = rests;
      has_more = comes.0;
      prompt = prompt;
      how = comes.1 ∙ ap (λ b. came_by b new) (sym is);
    };
  }
  turn_on sent turn.Waits h offer rests prompt is comes = record {
    first = h.first;
    move = h.move;
    more = ys;
    offer = offer;
    all = all_of h.first h.all;
    ends = record {
      rests = rests;
      has_more = comes.0;
      prompt = prompt;
      how = comes.1 ∙ ap (λ b. came_by b new) (sym is);
    };
  }

  -- something was offered after the first move
  pub turn_answered : (came : TurnOutcome) → AsksMove k old true xs → OffersOnce k true ys
      → Rests config new → Comes new true came → Turns k config old new came (xs ++ ys)
  turn_answered came h o rests comes =
      turn_on true came h (inr (o.0, o.1, o.2)) rests (λ none. let wrong = sym o.2 ∙ none in cc)
      (ap (list_any is_offer) (all_of h.first h.all ∙ ap (λ (t : List Request). h.first ∷ t) o.2)
      ∙ ap (λ b. is_offer h.first || (b || false)) (offer_is k o.0 o.1)
      ∙ or_true (is_offer h.first)) comes

  -- nothing was
  pub turn_waits : (sending : Bool) (came : TurnOutcome) → AsksMove k old true xs → ys ≡ []
      → (IsTrue sending ↔ (0 < length old.pending)) → length new.pending ≡ 0 → Rests config new
      → Comes new sending came → Turns k config old new came (xs ++ ys)
  turn_waits sending came h none is nothing rests comes =
      turn_on sending came h (inl none) rests (λ _. nothing) (ap (list_any is_offer)
      (all_of h.first h.all ∙ ap (λ (t : List Request). h.first ∷ t) none)
      ∙ ap (λ b. b || false) (first_offers k old h.first sending h.move is) ∙ or_false sending)
      comes
