-- A link that was asked last what is to be done is settled.
use Rattle.std.proofs.Common.{◌≡◌, refl, sym, ap, subst, ◌∙◌, inl, inr, ℕ, ◌-◌, arith, [], ◌∷◌}
use Rattle.std.proofs.{Common.Bool, Common.true, Common.false, lemmas.Bool.leb-false}
use Rattle.std.specs.Prelude.{if◌then◌else◌, nat_le}
use Rattle.desk_talks.specs.declared.dialogue.DialogueAction.{DialogueAction}
use Rattle.desk_sockets.specs.Asking.{AsksLast, Fulfils}
use Rattle.links.specs.Links.{LinkState, after_began, after_closed, after_failed, closed_at}
use Rattle.links.specs.Links.{failed_at, has_some, wish_of}
use Rattle.links.specs.declared.stages.{LinkAction.LinkAction, LinkStage.LinkStage}
use Rattle.mio_sockets.specs.{Keeping.IsSettled, Waiting.quiet_in, Wiring.Goes}
use Rattle.mio_sockets.specs.Linking.{SideLeads, SideOf, action_at, is_stuck, phase_of, steps_at}
use Rattle.mio_sockets.proofs.Linking.{wished}
use Rattle.desk_talks.specs.declared.dialogue.ConnectionPhase.TheVariants as phase
use Rattle.links.specs.Histories as step
use Rattle.links.specs.declared.stages.LinkAction.TheVariants as wish
use Rattle.links.specs.declared.stages.LinkStage.TheVariants as stage

-- a connection that began to be opened now is not given up
fresh_rests : (s : LinkState) (now : ℕ) → IsSettled now (after_began s now)
fresh_rests s now =
    let none : now - now ≡ 0 = omega arith in
    inl (ap (λ (gone : ℕ). if nat_le 1000 gone then wish.GiveUp else wish.Rest) none)

-- one that there was, or was being opened, failed now
fails_now : (s : LinkState) (now : ℕ) (st : LinkStage) → (phase_of st ≡ phase.Closed → ⊥)
    → IsSettled now (failed_at st s now)
fails_now s now stage.Closed there = absurd (there refl)
fails_now s now (stage.Paused since millis) there = absurd (there refl)
fails_now s now (stage.Opening since) there = inr (inl refl)
fails_now s now (stage.Open frames quiet) there = inr (inl refl)

-- one that is closed with nothing more to be sent
closes : (s : LinkState) (now : ℕ) (st : LinkStage) → phase_of st ≡ phase.Open
    → has_some s.waiting ≡ false → IsSettled now (closed_at st s)
closes s now stage.Closed is none = absurd cc
closes s now (stage.Paused since millis) is none = absurd cc
closes s now (stage.Opening since) is none = absurd cc
closes s now (stage.Open frames quiet) is none =
    inl (ap (λ (b : Bool). if b then wish.Open else wish.Rest) none)

-- the link did these calls, and then its wish was fulfilled
settled : (now desk : ℕ) (s : LinkState) (b c : SideOf) (u : LinkAction) (stuck waits : Bool)
    → u ≡ wish_of s now → stuck ≡ is_stuck s now → waits ≡ has_some s.waiting → b.now ≡ now
    → Goes s (steps_at u stuck waits now) b.link
    → Fulfils SideLeads (action_at u stuck waits desk) b c → IsSettled now c.link
settled now desk s b c u stuck waits is so some time goes done =
    by u stuck waits is so some goes done
  where
    -- nothing came after these calls
    same : (t : LinkState) → c ≡ b → t ≡ b.link → IsSettled now t → IsSettled now c.link
    same t still at k =
        subst (λ (x : LinkState). IsSettled now x) (at ∙ ap (λ (x : SideOf). x.link) (sym still)) k

    -- a connection that began to be opened can't be
    fails : (t : LinkState) → t ≡ b.link → IsSettled now (after_failed t now)
        → Goes b.link (step.Failed b.now ∷ []) c.link → IsSettled now c.link
    fails t at k went =
        subst (λ (x : LinkState). IsSettled now x) (ap (λ (x : LinkState). after_failed x now) at
        ∙ ap (after_failed b.link) (sym time) ∙ sym went.1 ∙ went.2) k

    begun_again : Goes s (step.Closed ∷ step.Began now ∷ []) b.link
        → after_began (after_closed s) now ≡ b.link
    begun_again goes =
        ap (λ (x : LinkState). after_began x now) (sym goes.1.1) ∙ sym goes.2.1.1 ∙ goes.2.2

    by : (u : LinkAction) (stuck waits : Bool) → u ≡ wish_of s now → stuck ≡ is_stuck s now
        → waits ≡ has_some s.waiting → Goes s (steps_at u stuck waits now) b.link
        → Fulfils SideLeads (action_at u stuck waits desk) b c → IsSettled now c.link
    by wish.Rest stuck waits is so some goes done = same s done goes (inl (sym is))
    by wish.Open stuck waits is so some goes (inl still) =
        same (after_began s now) still (sym goes.1.1 ∙ goes.2) (fresh_rests s now)
    by wish.Open stuck waits is so some goes (inr lost) =
        fails (after_began s now) (sym goes.1.1 ∙ goes.2) (inr (inl refl)) lost.goes
    by wish.Write true waits is so some goes done =
        same (after_failed s now) done (sym goes.1 ∙ goes.2) (fails_now s now s.stage
        (λ closed. let apart : phase.Open ≡ phase.Closed = sym (wished s now wish.Write is) ∙ closed
        in cc))
    by wish.Write false waits is so some goes done =
        same s done goes (inr (inr (sym is, leb-false 3000 (quiet_in s.stage now) (sym so))))
    by wish.Close stuck true is so some goes (inl still) =
        same (after_began (after_closed s) now) still (begun_again goes)
        (fresh_rests (after_closed s) now)
    by wish.Close stuck true is so some goes (inr lost) =
        fails (after_began (after_closed s) now) (begun_again goes) (inr (inl refl)) lost.goes
    by wish.Close stuck false is so some goes done =
        same (after_closed s) done (sym goes.1.1 ∙ goes.2) (closes s now s.stage
        (wished s now wish.Close is) (sym some))
    by wish.GiveUp stuck waits is so some goes done =
        same (after_failed s now) done (sym goes.1 ∙ goes.2) (fails_now s now s.stage
        (λ closed. let apart : phase.Opening ≡ phase.Closed =
        sym (wished s now wish.GiveUp is) ∙ closed in cc))

pub settles : (now : ℕ) (a b : SideOf) → AsksLast SideLeads now a b → IsSettled now b.link
settles now a b h =
    let s = h.before.link in
    settled now h.before.desk s h.after b (wish_of s now) (is_stuck s now) (has_some s.waiting) refl
    refl refl h.acts.time h.acts.goes
    (subst (λ (w : DialogueAction). Fulfils SideLeads w h.after b) h.acts.answers h.fulfils)
