-- Each side of a sealed connection hears what the other was given to send.
use Rattle.std.proofs.Common.{◌≡◌, ◌≢◌, ◌⊎◌, ℕ, List, [], ◌∷◌, ◌++◌, length, Option, Some, None}
use Rattle.std.proofs.Common.{refl, sym, ap, subst, ◌∙◌, arith, inl, inr, append_assoc}
use Rattle.std.proofs.lemmas.List.{append-nil, append_cancel_left, length-append}
use Rattle.std.specs.Prelude.{IfSome, option_map}
use Rattle.seal.specs.declared.channel.{Channel.Channel, Direction.TheVariants.ToClient}
use Rattle.seal.specs.{declared.fault.StreamFault.StreamFault, Streams.BeginsRecord, Streams.joined}
use Rattle.seal.specs.Records.{AreBodies, key_of, mark, preface_of, record_of, records}
use Rattle.seal.{specs.Streams.HandsOn, proofs.Differing.back, proofs.Whole.parted}
use Rattle.sealed.specs.declared.callers.{Caller.Caller, Holder.Holder, DeskKeys.DeskKeys}
use Rattle.sealed.specs.declared.callers.Caller.TheVariants.{Anyone, Visitor}
use Rattle.sealed.specs.declared.callers.Access.{Access, TheVariants.Locked}
use Rattle.sealed.specs.declared.callers.Holder.TheVariants.{Hall, Entry}
use Rattle.sealed.specs.{declared.ends.trouble.CallTrouble.CallTrouble, Tunnels.channel_of}
use Rattle.sealed.specs.declared.ends.trouble.CallTrouble.TheVariants.{NoKey, OtherKey, HasKey}
use Rattle.sealed.specs.Admitting.{Admits, IsNobody, IsSealed, comes_under, goes_under}
use Rattle.sealed.specs.ServerSeals.{caller_of, held_by}
use Rattle.sealed.specs.{Fronts.IsShort, Fronts.IsUnsealed, ends.ClientStreams.trouble_of}
use Rattle.sealed.specs.{Sent.IsSent, Sent.IsSentSealed, Sent.key_for, Trials.Hands, Trials.HandsBy}
use Rattle.sealed.proofs.{Admitted.admits, Sending.sends_what_is_given}
use Rattle.sealed.proofs.ends.{Speaking.calls_speak, Telling.tells_trouble}
use Rattle.seal_laws.specs.BothSides.{BothSidesHear, IsNotTheHalls}
use Rattle.sealed.specs.declared.callers.Caller.TheVariants as caller
use Rattle.sealed.specs.ends.Laws as ends

-- ---- prefaces

length_preface : (r : List ℕ) → length r ≡ 16 → length (preface_of r) ≡ 20
length_preface r h = omega (arith, h, length-append mark r)

-- bytes begin with one preface
pub one_preface : (r q x y : List ℕ) → length r ≡ 16 → length q ≡ 16
    → preface_of r ++ x ≡ preface_of q ++ y → (r ≡ q) × (x ≡ y)
one_preface r q x y h k e =
    let both = parted (preface_of r) (preface_of q) x y
    (length_preface r h ∙ sym (length_preface q k)) e in
    (append_cancel_left mark r q both.0, both.1)

sealed_no : (r x : List ℕ) → ¬ IsUnsealed (preface_of r ++ x)
sealed_no r x h = h.other refl

long_no : (r x : List ℕ) → length r ≡ 16 → ¬ IsShort (preface_of r ++ x)
long_no r x h (inl few) =
    omega (arith, few, length_preface r h, length-append (preface_of r) x)
long_no r x h (inr few) =
    omega (arith, few.1, length_preface r h, length-append (preface_of r) x)

-- ---- records that open

-- what is handed on of the records of bodies
one_way : (c : Channel) (bodies : List (List ℕ)) (stream handed : List ℕ)
    (fault : Option StreamFault) → AreBodies 0 bodies → stream ≡ records c 0 bodies
    → HandsOn c stream handed fault → (handed ≡ joined bodies) × (fault ≡ None)
one_way c bodies stream handed fault each is hands =
    let h = subst (λ (s : List ℕ). HandsOn c s handed fault) is hands in
    let same = (back c bodies each).only handed fault h in (sym same.0, sym same.1)

-- bodies are not empty
no_bodies : (bodies : List (List ℕ)) → AreBodies 0 bodies → joined bodies ≡ [] → bodies ≡ []
no_bodies [] each e = refl
no_bodies ([] ∷ more) each e = absurd (omega (arith, each.0.0.0))
no_bodies ((x ∷ xs) ∷ more) each e = absurd cc

-- where no record is in front, nothing is handed on
nothing_begun : (c : Channel) (stream handed : List ℕ) (bodies : List (List ℕ)) (rest : List ℕ)
    → ¬ BeginsRecord c 0 stream → AreBodies 0 bodies → stream ≡ records c 0 bodies ++ rest
    → handed ≡ joined bodies → handed ≡ []
nothing_begun c stream handed [] rest not each whole gives = gives
nothing_begun c stream handed (b ∷ more) rest not each whole gives =
    absurd (not (
      b,
      records c 1 more ++ rest,
      each.0,
      whole ∙ append_assoc (record_of c 0 b) (records c 1 more) rest,
    ))

-- ---- what the caller sent

-- after its preface the records of what it was given
pub record Went (key client server asked sent : List ℕ) : Type 0 where
  pub bodies : List (List ℕ)
  pub each : AreBodies 0 bodies
  pub gives : joined bodies ≡ asked
  pub whole : sent ≡ preface_of client ++ records (comes_under client server key) 0 bodies

pub went : (key client server asked sent more : List ℕ) → length server ≡ 16
    → ends.IsSent (Some key) client (preface_of server ++ more) asked sent
    → Went key client server asked sent
went key client server asked sent more sixteen (inl h) = record {
  bodies = [];
  each = tt;
  gives = sym h.0;
  whole = h.1 ∙ sym (append-nil (preface_of client));
}
went key client server asked sent more sixteen (inr h) =
    let is = (one_preface server h.server more h.stream sixteen h.prefaced.sixteen
    h.prefaced.whole).0 in
    record {
      bodies = h.bodies;
      each = h.each;
      gives = h.gives;
      whole =
          h.sealed
          ∙ ap (λ (s : List ℕ). preface_of client ++ records (comes_under client s key) 0 h.bodies)
          (sym is);
    }

-- ---- what the desk handed on

-- of the records of a caller it hands on what the caller was given, and to nobody else
handed_is : (who : Holder) (by : Option Holder) (locks : DeskKeys)
    (key client server sent stream asked handed : List ℕ) (bodies : List (List ℕ))
    → key_for locks who ≡ Some key → IsNotTheHalls who locks client server sent
    → sent ≡ preface_of client ++ stream → AreBodies 0 bodies → joined bodies ≡ asked
    → stream ≡ records (comes_under client server key) 0 bodies
    → HandsBy by (comes_under client server locks.hall)
    (option_map (comes_under client server) locks.entry) stream handed
    → (handed ≡ asked) × ((by ≡ None) ⊎ (by ≡ Some who))
handed_is Hall None locks key client server sent stream asked handed bodies is apart front each
    gives under h =
    let same : key ≡ locks.hall = cc in
    let here = under ∙ ap (λ (k : List ℕ). records (comes_under client server k) 0 bodies) same in
    let none = one_way (comes_under client server locks.hall) bodies stream [] h.1.0 each here
    h.1.1 in (h.0 ∙ none.0 ∙ gives, inl refl)
handed_is Hall (Some Hall) locks key client server sent stream asked handed bodies is apart front
    each gives under h =
    let same : key ≡ locks.hall = cc in
    let here = under ∙ ap (λ (k : List ℕ). records (comes_under client server k) 0 bodies) same in
    let all = one_way (comes_under client server locks.hall) bodies stream handed h.1.0 each here
    h.1.1 in (all.0 ∙ gives, inr refl)
handed_is Hall (Some Entry) locks key client server sent stream asked handed bodies is apart front
    each gives under h =
    let same : key ≡ locks.hall = cc in
    let here = under ∙ ap (λ (k : List ℕ). records (comes_under client server k) 0 bodies) same in
    let none = one_way (comes_under client server locks.hall) bodies stream [] h.4.0 each here
    h.4.1 in
    let empty = no_bodies bodies each (sym none.0) in
    let nothing : stream ≡ [] =
    here ∙ ap (λ (b : List (List ℕ)). records (comes_under client server locks.hall) 0 b) empty in
    absurd (h.2 (one_way h.0 [] stream handed h.3.0 tt nothing h.3.1).0)
handed_is Entry None locks key client server sent stream asked handed bodies is apart front each
    gives under h =
    let hands = subst (λ (o : Option (List ℕ)).
    IfSome (option_map (comes_under client server) o) (λ c. Hands c stream [])) is h.2 in
    let none = one_way (comes_under client server key) bodies stream [] hands.0 each under
    hands.1 in (h.0 ∙ none.0 ∙ gives, inl refl)
handed_is Entry (Some Hall) locks key client server sent stream asked handed bodies is apart front
    each gives under h =
    absurd (h.0 (nothing_begun (comes_under client server locks.hall) stream handed h.1.1.0
    h.1.1.1.rest (apart stream front) h.1.1.1.each h.1.1.1.whole h.1.1.2))
handed_is Entry (Some Entry) locks key client server sent stream asked handed bodies is apart front
    each gives under h =
    let same : Some (comes_under client server key) ≡ Some h.0 =
    ap (λ (o : Option (List ℕ)). option_map (comes_under client server) o) (sym is) ∙ h.1 in
    let it : h.0 ≡ comes_under client server key = cc in
    let hands = subst (λ (c : Channel). Hands c stream handed) it h.3 in
    let all = one_way (comes_under client server key) bodies stream handed hands.0 each under
    hands.1 in (all.0 ∙ gives, inr refl)

sealed_side : (who : Holder) (by : Option Holder) (l locks : DeskKeys)
    (key client server sent asked handed : List ℕ) → locks ≡ l → length client ≡ 16
    → key_for locks who ≡ Some key → IsNotTheHalls who locks client server sent
    → Went key client server asked sent → IsSealed l server sent handed by
    → (handed ≡ asked) × ((by ≡ None) ⊎ (by ≡ Some who))
sealed_side who by l locks key client server sent asked handed same sixteen is apart w s =
    let front = one_preface s.client client s.stream
    (records (comes_under client server key) 0 w.bodies) s.prefaced.sixteen sixteen
    (sym s.prefaced.whole ∙ w.whole) in
    let hands = subst (λ (x : DeskKeys).
    HandsBy by (comes_under s.client server x.hall)
    (option_map (comes_under s.client server) x.entry) s.stream handed) (sym same) s.hands in
    let here = subst (λ (x : List ℕ).
    HandsBy by (comes_under x server locks.hall)
    (option_map (comes_under x server) locks.entry) s.stream handed) front.0 hands in
    handed_is who by locks key client server sent s.stream asked handed w.bodies is apart
    (s.prefaced.whole ∙ ap (λ (x : List ℕ). preface_of x ++ s.stream) front.0) w.each w.gives
    front.1 here

-- ---- what the desk sent

record Answered (key client server answered sent : List ℕ) : Type 0 where
  bodies : List (List ℕ)
  each : AreBodies 0 bodies
  gives : joined bodies ≡ answered
  whole : sent ≡ records (goes_under client server key) 0 bodies

one_lock : (l locks : DeskKeys) → Locked locks ≡ Locked l → locks ≡ l
one_lock l locks e = cc

answered_by : (k who : Holder) (locks : DeskKeys) (key client server sent answered out : List ℕ)
    → k ≡ who → key_for locks who ≡ Some key → length client ≡ 16
    → (stream : List ℕ) → sent ≡ preface_of client ++ stream
    → (l : DeskKeys) × (Locked locks ≡ Locked l) × IsSentSealed l server sent answered out k
    → Answered key client server answered out
answered_by k who locks key client server sent answered out by is sixteen stream front (l, d, s) =
    let one = one_preface s.client client s.stream stream s.prefaced.sixteen sixteen
    (sym s.prefaced.whole ∙ front) in
    let same = one_lock l locks d in
    let mine : key_for l k ≡ Some key =
    ap (λ (x : DeskKeys). key_for x k) (sym same) ∙ ap (λ (x : Holder). key_for locks x) by ∙ is in
    let both : Some s.secret ≡ Some key = sym s.held ∙ mine in
    let secret : s.secret ≡ key = cc in
    record {
      bodies = s.bodies;
      each = s.each;
      gives = s.gives;
      whole =
          s.sealed
          ∙ ap (λ (x : List ℕ). records (goes_under x server s.secret) 0 s.bodies) one.0
          ∙ ap (λ (x : List ℕ). records (goes_under client server x) 0 s.bodies) secret;
    }

by_who : (k who : Holder) → (Some k ≡ None) ⊎ (Some k ≡ Some who) → k ≡ who
by_who k who (inl h) = absurd cc
by_who k who (inr h) = cc

-- where nobody is let in, the caller was given nothing
nobody : (who : Holder) (locks l : DeskKeys) (key client server sent asked handed : List ℕ)
    → locks ≡ l → length client ≡ 16 → key_for locks who ≡ Some key
    → IsNotTheHalls who locks client server sent → Went key client server asked sent
    → handed ≡ [] → IsNobody l server sent → handed ≡ asked
nobody who locks l key client server sent asked handed same sixteen is apart w none (inl short) =
    absurd (long_no client (records (comes_under client server key) 0 w.bodies) sixteen
    (subst (λ (s : List ℕ). IsShort s) w.whole short))
nobody who locks l key client server sent asked handed same sixteen is apart w none (inr (inl u)) =
    absurd (sealed_no client (records (comes_under client server key) 0 w.bodies)
    (subst (λ (s : List ℕ). IsUnsealed s) w.whole u.1))
nobody who locks l key client server sent asked handed same sixteen is apart w none (inr (inr s)) =
    none ∙ (sealed_side who None l locks key client server sent asked [] same sixteen is apart w
    s).0

desk_side : (w : Option Caller) (who : Holder) (locks : DeskKeys)
    (key client server sent asked handed answered out : List ℕ) → length client ≡ 16
    → key_for locks who ≡ Some key → IsNotTheHalls who locks client server sent
    → Went key client server asked sent → Admits (Locked locks) server sent handed w
    → IsSent (Locked locks) server sent w answered out
    → (handed ≡ asked) × (asked ≢ [] → w ≡ Some (held_by who))
    × Answered key client server answered out
desk_side (Some Anyone) who locks key client server sent asked handed answered out sixteen is apart
    w a g = absurd cc
desk_side (Some Visitor) who locks key client server sent asked handed answered out sixteen is apart
    w a g =
    absurd (sealed_no client (records (comes_under client server key) 0 w.bodies)
    (subst (λ (s : List ℕ). IsUnsealed s) w.whole a.3))
desk_side (Some (caller.Holder k)) who locks key client server sent asked handed answered out
    sixteen is apart w a g =
    let both = sealed_side who (Some k) a.0 locks key client server sent asked handed
    (one_lock a.0 locks a.1) sixteen is apart w a.2 in (
      both.0,
      λ some. ap (λ (x : Holder). Some (held_by x)) (by_who k who both.1),
      answered_by k who locks key client server sent answered out (by_who k who both.1) is
          sixteen (records (comes_under client server key) 0 w.bodies) w.whole g,
    )
desk_side None who locks key client server sent asked handed answered out sixteen is apart w a g =
    let same : handed ≡ asked =
    nobody who locks a.0 key client server sent asked handed (one_lock a.0 locks a.1) sixteen is
    apart w a.2 a.3 in (
      same,
      λ some. absurd (some (sym same ∙ a.2)),
      record { bodies = []; each = tt; gives = sym g.0; whole = g.1 },
    )

-- ---- what the caller heard

opened_is : (key client server answered out heard : List ℕ) (fault : Option StreamFault)
    → length server ≡ 16 → Answered key client server answered out
    → ends.IsOpenedTo key client (preface_of server ++ out) heard fault
    → (heard ≡ answered) × (fault ≡ None)
opened_is key client server answered out heard fault sixteen a o =
    let front = one_preface server o.server out o.stream sixteen o.prefaced.sixteen
    o.prefaced.whole in
    let hands = subst (λ (s : List ℕ).
    HandsOn (channel_of (key_of key client s) ToClient) o.stream heard fault) (sym front.0)
    o.hands in
    let all = one_way (goes_under client server key) a.bodies o.stream heard fault a.each
    (sym front.1 ∙ a.whole) hands in
    (all.0 ∙ a.gives, all.1)

caller_side : (t : Option CallTrouble) (key client server answered out heard : List ℕ)
    → length server ≡ 16 → Answered key client server answered out
    → ends.IsWrong t (Some key) client (preface_of server ++ out) heard
    → (heard ≡ answered) × (t ≡ None)
caller_side (Some HasKey) key client server answered out heard sixteen a w = absurd cc
caller_side (Some NoKey) key client server answered out heard sixteen a w =
    absurd (sealed_no server out w.1)
caller_side (Some OtherKey) key client server answered out heard sixteen a w =
    let same : w.0 ≡ key = cc in
    let opened = subst (λ (k : List ℕ).
    ends.IsOpenedTo k client (preface_of server ++ out) heard (Some w.2)) same w.3 in
    let none : Some w.2 ≡ None =
    (opened_is key client server answered out heard (Some w.2) sixteen a opened).1 in absurd cc
caller_side None key client server answered out heard sixteen a (inl short) =
    absurd (long_no server out sixteen short)
caller_side None key client server answered out heard sixteen a (inr opened) =
    ((opened_is key client server answered out heard None sixteen a opened).0, refl)

pub both_hear : BothSidesHear
both_hear caller desk asked handed answered heard m =
    let all : m.sent ++ caller.output ≡ m.sent =
    ap (λ (s : List ℕ). m.sent ++ s) m.all_sent ∙ append-nil m.sent in
    let spoken = calls_speak (Some m.key) m.client (preface_of m.server ++ m.back) heard asked
    m.sent caller m.calls in
    let gone = subst (λ (s : List ℕ).
    ends.IsSent (Some m.key) m.client (preface_of m.server ++ m.back) asked s) all spoken.gone in
    let w = went m.key m.client m.server asked m.sent m.back m.random.of_server gone in
    let admitted = admits desk m.sent handed m.stands in
    let here = subst (λ (d : Access). Admits d m.server m.sent handed (caller_of desk)) m.doors
    (subst (λ (r : List ℕ). Admits desk.doors r m.sent handed (caller_of desk)) m.desk_random
    admitted) in
    let given = sends_what_is_given desk m.sent handed answered m.back m.stands m.gone in
    let out = subst (λ (d : Access). IsSent d m.server m.sent (caller_of desk) answered m.back)
    m.doors (subst (λ (r : List ℕ). IsSent desk.doors r m.sent (caller_of desk) answered m.back)
    m.desk_random given) in
    let d = desk_side (caller_of desk) m.who m.locks m.key m.client m.server m.sent asked handed
    answered m.back m.random.of_client m.held m.apart w here out in
    let c = caller_side (trouble_of caller) m.key m.client m.server answered m.back heard
    m.random.of_server d.2
    (tells_trouble (Some m.key) m.client (preface_of m.server ++ m.back) heard asked m.sent caller
    m.calls) in
    record { questions = d.0; answers = c.0; fine = c.1; known = d.1 }
