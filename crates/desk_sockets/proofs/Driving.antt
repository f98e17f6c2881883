-- Calls of a dialogue, one after the other, and what is told of its connection with them.
use Rattle.std.proofs.Common.{◌≡◌, ◌==◌, ◌≤◌, true, false, refl, sym, ap, subst, ◌∙◌, ℕ, zero, suc}
use Rattle.std.proofs.Common.{List, [], ◌∷◌, ◌++◌, append_assoc, append-nil, inl, inr, Option, take}
use Rattle.std.{proofs.Common.arith, proofs.Common.length, specs.declared.net.SocketAddr.SocketAddr}
use Rattle.std.proofs.lemmas.Bool.{eqb-false, eqb-true}
use Rattle.polled.{specs.Telling.Tells, proofs.Telling.Tells-as, proofs.Telling.Tells-trans}
use Rattle.desk_talks.specs.Dialogues.{Act, Call, CallsLead, Hear, Reaches, Sent}
use Rattle.desk_talks.specs.declared.dialogue.ConnectionPhase.{ConnectionPhase}
use Rattle.desk_talks.specs.declared.dialogue.DialogueAction.{DialogueAction}
use Rattle.desk_talks.specs.declared.dialogue.ReceiveOutcome.{ReceiveOutcome}
use Rattle.desk_sockets.specs.Asking.{AsksLast, AsksNow, Fulfils}
use Rattle.desk_sockets.specs.Wires.{CallsTell, Drives, Hears, LooksAs, LooksIn, MakesOfEnd}
use Rattle.desk_sockets.specs.Wires.{MakesOfHeard, Took, Wired, address_of, begun, closed_in}
use Rattle.desk_sockets.{specs.Wires.told_of, specs.Wires.took, proofs.Reaching.one as reaches_one}
use Rattle.desk_sockets.specs.declared.desk_connection.ConnectionOutcome.{ConnectionOutcome}
use Rattle.desk_sockets.proofs.Reaching.{both as reaches_both, none as reaches_none}
use Rattle.desk_talks.specs.declared.dialogue.ConnectionPhase.TheVariants as phase_is
use Rattle.desk_talks.specs.declared.dialogue.DialogueAction.TheVariants as wish

took_some : (count : ℕ) (bytes : List ℕ) → 1 ≤ count → count ≤ length bytes
    → Took (take count bytes) ∷ [] ≡ took (take count bytes)
took_some zero bytes some most = absurd (omega (arith, some))
took_some (suc n) [] some most = absurd (omega (arith, most))
took_some (suc n) (b ∷ bytes) some most = refl

module _ {S : Type 0} (Leads : Call → S → S → Type 0) (phase : S → ConnectionPhase)
    (output : S → List ℕ) (addresses : List (Option SocketAddr)) where
  then : (xs ys : List Call) (a b c : S) (es fs : List Wired)
      → CallsTell Leads phase output addresses a xs b es
      → CallsTell Leads phase output addresses b ys c fs
      → CallsTell Leads phase output addresses a (xs ++ ys) c (es ++ fs)
  then [] ys a b c es fs (at, none) later =
      subst (λ (z : List Wired). CallsTell Leads phase output addresses a ys c (z ++ fs)) (sym none)
      (subst (λ (s : S). CallsTell Leads phase output addresses s ys c fs) at later)
  then (x ∷ xs) ys a b c es fs (next, rest, leads, more, is) later = (
    next,
    rest ++ fs,
    leads,
    then xs ys next b c rest fs more later,
    ap (λ (z : List Wired). z ++ fs) is
        ∙ append_assoc (told_of x addresses (phase a) (output a)) rest fs,
  )

  calls_lead : (calls : List Call) (a b : S) (es : List Wired)
      → CallsTell Leads phase output addresses a calls b es → CallsLead Leads a calls b
  calls_lead [] a b es (at, none) = at
  calls_lead (call ∷ more) a b es (next, rest, leads, later, is) =
      (next, leads, calls_lead more next b rest later)

module _ {S : Type 0} {Leads : Call → S → S → Type 0} {phase : S → ConnectionPhase}
    {output : S → List ℕ} {addresses : List (Option SocketAddr)} where
  -- no call was made
  pub quiet : {d : S} {looks : List Wired} {v w : Option (List Wired)} → Tells v w looks
      → Drives Leads phase output addresses d d looks v w
  quiet {d} {looks} {v} {w} is = record {
    calls = [];
    events = [];
    lead = (refl, refl);
    told = Tells-as v w _ _ (sym (append-nil looks)) is;
  }

  -- this call was made
  pub one : (call : Call) {d e : S} {looks : List Wired} {v w : Option (List Wired)}
      → Leads call d e → Tells v w (looks ++ told_of call addresses (phase d) (output d))
      → Drives Leads phase output addresses d e looks v w
  one call {d} {e} leads is = record {
    calls = call ∷ [];
    events = told_of call addresses (phase d) (output d);
    lead = (
      e,
      [],
      leads,
      (refl, refl),
      sym (append-nil (told_of call addresses (phase d) (output d))),
    );
    told = is;
  }

  -- the same of a call that is known to be this one
  pub one_as : (call : Call) {made : Call} {d e : S} {looks : List Wired}
      {v w : Option (List Wired)} → made ≡ call → Leads made d e
      → Tells v w (looks ++ told_of call addresses (phase d) (output d))
      → Drives Leads phase output addresses d e looks v w
  one_as call {made} {d} {e} is leads told =
      one call (subst (λ (x : Call). Leads x d e) is leads) told

  -- a connection is begun for a desk at its address, in place of the one before
  pub begins : (now desk : ℕ) {before : ConnectionPhase} {address : Option SocketAddr}
      {d e : S} {v w : Option (List Wired)} → Leads (Act (wish.Open desk) now) d e
      → before ≡ phase d → address ≡ address_of addresses desk
      → Tells v w (closed_in before ++ begun address)
      → Drives Leads phase output addresses d e [] v w
  begins now desk {before} {address} {d} {e} {v} {w} leads was at told =
      one (Act (wish.Open desk) now) leads
      (subst (λ (a : Option SocketAddr). Tells v w (closed_in (phase d) ++ begun a)) at
      (subst (λ (p : ConnectionPhase). Tells v w (closed_in p ++ begun address)) was told))

  -- the connection took some of the output
  pub writes : (count : ℕ) {bytes : List ℕ} {d e : S} {v w : Option (List Wired)}
      → Leads (Sent count) d e → bytes ≡ output d → 1 ≤ count → count ≤ length bytes
      → Tells v w (Took (take count bytes) ∷ []) → Drives Leads phase output addresses d e [] v w
  writes count {bytes} {d} {e} {v} {w} leads is some most told =
      one (Sent count) leads (subst (λ (xs : List ℕ). Tells v w (took (take count xs))) is
      (Tells-as v w _ _ (took_some count bytes some most) told))

  -- one after the other
  pub both : {a b c : S} {looks : List Wired} {u v w : Option (List Wired)}
      → Drives Leads phase output addresses a b looks u v
      → Drives Leads phase output addresses b c [] v w
      → Drives Leads phase output addresses a c looks u w
  both {a} {b} {c} {looks} {u} {v} {w} h k = record {
    calls = h.calls ++ k.calls;
    events = h.events ++ k.events;
    lead = then Leads phase output addresses h.calls k.calls a b c h.events k.events h.lead k.lead;
    told = Tells-as u w _ _ (append_assoc looks h.events k.events)
        (Tells-trans u v w (looks ++ h.events) k.events h.told k.told);
  }

  -- the same after a look
  pub after : {a b : S} {looks : List Wired} {u v w : Option (List Wired)} → Tells u v []
      → Drives Leads phase output addresses a b looks v w
      → Drives Leads phase output addresses a b looks u w
  after {a} {b} {looks} {u} {v} {w} is h = record {
    calls = h.calls;
    events = h.events;
    lead = h.lead;
    told = Tells-trans u v w [] (looks ++ h.events) is h.told;
  }

  -- the calls alone
  pub plain : {a b : S} {looks : List Wired} {v w : Option (List Wired)}
      → Drives Leads phase output addresses a b looks v w → Reaches Leads a b
  plain {a} {b} h = record {
    calls = h.calls;
    lead = calls_lead Leads phase output addresses h.calls a b h.events h.lead;
  }

module _ {S : Type 0} (Leads : Call → S → S → Type 0) where
  -- what came is nothing, and it is heard what became of the connection
  pub hears_none : (h : ConnectionOutcome) (now : ℕ) (handed : List ℕ) (a b : S)
      → (length handed == 0) ≡ true → MakesOfEnd Leads h a b → Hears Leads h now handed a b
  hears_none h now [] a b is makes = makes
  hears_none h now (x ∷ xs) a b is makes =
      absurd (omega (arith, eqb-true (length (x ∷ xs)) 0 is))

  pub hears_some : (h : ConnectionOutcome) (now : ℕ) (handed : List ℕ) (c : ReceiveOutcome)
      (a b e : S) → (length handed == 0) ≡ false → Leads (Hear c now handed) a b
      → MakesOfHeard Leads c h b e → Hears Leads h now handed a e
  hears_some h now [] c a b e is leads makes = absurd (eqb-false 0 0 is refl)
  hears_some h now (x ∷ xs) c a b e is leads makes = (c, b, leads, makes)

  fulfilled : (w : DialogueAction) (a b : S) → Fulfils Leads w a b → Reaches Leads a b
  fulfilled (wish.Open desk) a b (inl is) =
      subst (λ (s : S). Reaches Leads a s) (sym is) (reaches_none Leads a)
  fulfilled (wish.Open desk) a b (inr lost) = reaches_one Leads lost
  fulfilled wish.Write a b went = went
  fulfilled wish.Rest a b is = subst (λ (s : S). Reaches Leads a s) (sym is) (reaches_none Leads a)
  fulfilled wish.Close a b is = subst (λ (s : S). Reaches Leads a s) (sym is) (reaches_none Leads a)
  fulfilled wish.Stop a b is = subst (λ (s : S). Reaches Leads a s) (sym is) (reaches_none Leads a)

  -- what was looked at
  pub looks_in : (p : ConnectionPhase) (now : ℕ) (a b : S) (looks : List Wired)
      → LooksAs Leads p now a b looks → LooksIn p looks
  looks_in phase_is.Closed now a b looks (none, is) = none
  looks_in phase_is.Opening now a b looks (o, looked, makes) = (o, looked)
  looks_in phase_is.Open now a b looks (h, looked, handed, hears) = (h, looked)

module _ {S : Type 0} {Leads : Call → S → S → Type 0} where
  -- the last call is one that asked, and was fulfilled so
  pub last : (w : DialogueAction) {now : ℕ} {a c : S} (b : S) → Leads (Act w now) a b
      → Fulfils Leads w b c → AsksLast Leads now a c
  last w {now} {a} {c} b leads fulfils = record {
    wish = w;
    before = a;
    after = b;
    first = reaches_none Leads a;
    acts = leads;
    fulfils = fulfils;
  }

  -- a dialogue that was asked last was asked
  pub asks : {now : ℕ} {a b : S} → AsksLast Leads now a b → AsksNow Leads now a b
  asks {now} {a} {b} h = record {
    wish = h.wish;
    before = h.before;
    after = h.after;
    first = h.first;
    acts = h.acts;
    later = fulfilled Leads h.wish h.after b h.fulfils;
  }

  -- calls are made before
  pub earlier : {now : ℕ} {a b c : S} → Reaches Leads a b → AsksLast Leads now b c
      → AsksLast Leads now a c
  earlier went h = record {
    wish = h.wish;
    before = h.before;
    after = h.after;
    first = reaches_both went h.first;
    acts = h.acts;
    fulfils = h.fulfils;
  }
