-- What is said of desks that differ was heard, and what desks of a hall say of their logs.
use Rattle.learner.{proofs.Cases.by_test, specs.Desks.Desk, specs.Parts.DecisionsAreChosen}
use Rattle.std.proofs.Common.{◌≡◌, ◌≢◌, ◌⊎◌, inl, inr, refl, sym, ap, subst, ◌∙◌, ℕ, zero, suc, ◌+◌}
use Rattle.std.proofs.Common.{◌-◌, ◌<◌, Bool, true, false, not, if◌then◌else◌, nat_lt, List, []}
use Rattle.std.proofs.Common.{◌∷◌, Option, Some, None, IsSome, slice_get, slice_index, arith, take}
use Rattle.std.proofs.lemmas.Bool.Decides.{nat_tests}
use Rattle.acceptor.specs.{Entries.is_same_entry, declared.entry.Entry.Entry, Messages.Sent}
use Rattle.mirror.proofs.Overlaps.{other_entry, same_entry}
use Rattle.serving.specs.Differing.{hears, is_other, other_from, shorter, what_differs}
use Rattle.wire.specs.declared.frame.{Frame.Frame, FrameBody.FrameBody}
use Rattle.wire.specs.declared.standing.Difference.{Difference}
use Rattle.wire.specs.declared.standing.Difference.TheVariants.{OtherEntry, Shorter}
use Rattle.hall_laws.specs.Differing.{DifferencesAreFound, DifferencesAreHeard, HallDecidedsStand}
use Rattle.hall_laws.specs.Differing.{TellsOther, TellsShorter, HallLengthsGrow, HallRunsAgree}
use Rattle.acceptor.specs.declared.message.{Body.Body, Body.TheVariants.Decided, Message.Message}
use Rattle.learner.specs.Laws.{Always, DesksAreInRange, OneIsChosen, StepsStayInRange}
use Rattle.learner.specs.Worlds.{World, after, new_world, nth_sent}
use Rattle.progress.proofs.Votes.{self_same}
use Rattle.store.specs.declared.keeper.Keeper.{Ghosts}
use Rattle.hall_laws.specs.{Arriving.decided_each, HallRuns.hall_after, OwnMessages.WereSentTo}
use Rattle.hall_laws.{specs.HallRuns.hall_log, proofs.Traces.all_of, proofs.Stopping.nth_among}
use Rattle.hall_laws.specs.Stops.{CallsAreHappenings, Happening, IsAmong, StopsMakeARun, events_of}
use Rattle.hall_laws.proofs.HallRuns.{hall_comes, moments}
use Rattle.hall_laws.proofs.Lengths.{AreInOrder, real_grown, sent_order}
use Rattle.wire.specs.declared.frame.FrameBody.TheVariants as what

-- ---- an entry

-- another entry is there
other_stands : (told : Entry) (o : Option Entry) → is_other told o ≡ true
    → (there : Entry) × (o ≡ Some there) × (there ≢ told)
other_stands told None h = absurd cc
other_stands told (Some there) h =
    (there, refl, other_entry there told (turned (is_same_entry there told) h))
  where
    turned : (b : Bool) → not b ≡ true → b ≡ false
    turned false h = refl
    turned true h = absurd cc

pub is_other_there : (told there : Entry) → there ≢ told → is_other told (Some there) ≡ true
is_other_there told there other = go (is_same_entry there told) refl
  where
    go : (b : Bool) → is_same_entry there told ≡ b → not b ≡ true
    go false h = refl
    go true h = absurd (other (same_entry there told h))

-- one of the entries that are reported from a position on is another one than is there
abbrev IsOtherAt : ℕ → ℕ → List Entry → List Entry → Difference → Type 0
IsOtherAt desk pos es log d =
    (index : ℕ) × (told : Entry) × (there : Entry)
    × (slice_get es index ≡ Some told) × (slice_get log (pos + index) ≡ Some there)
    × (there ≢ told) × (d ≡ OtherEntry desk (pos + index))

inside : {a b : Difference} → Some a ≡ Some b → b ≡ a
inside h = cc

other_heard : (desk pos : ℕ) (es log : List Entry) (d : Difference)
    → other_from desk pos es log ≡ Some d → IsOtherAt desk pos es log d
unfolding other_from
other_heard desk pos [] log d is = absurd cc
other_heard desk pos (e ∷ es) log d is =
    go (is_other e (slice_get log pos)) refl is (λ more. other_heard desk (pos + 1) es log d more)
  where
    go : (b : Bool) → is_other e (slice_get log pos) ≡ b
        → (if b then Some (OtherEntry desk pos) else other_from desk (pos + 1) es log) ≡ Some d
        → (other_from desk (pos + 1) es log ≡ Some d → IsOtherAt desk (pos + 1) es log d)
        → IsOtherAt desk pos (e ∷ es) log d
    go true other is later =
        let stands = other_stands e (slice_get log pos) other in
        let at : pos ≡ pos + 0 = omega arith in (
          0,
          e,
          stands.0,
          refl,
          subst (λ (p : ℕ). slice_get log p ≡ Some stands.0) at stands.1,
          stands.2,
          inside is ∙ ap (λ (p : ℕ). OtherEntry desk p) at,
        )
    go false same is later =
        let more = later is in
        let at : pos + 1 + more.0 ≡ pos + suc more.0 = omega arith in (
          suc more.0,
          more.1,
          more.2,
          more.3,
          subst (λ (p : ℕ). slice_get log p ≡ Some more.2) at more.4,
          more.5,
          more.6 ∙ ap (λ (p : ℕ). OtherEntry desk p) at,
        )

other_found : (desk pos index : ℕ) (es log : List Entry) (told there : Entry)
    → slice_get es index ≡ Some told → slice_get log (pos + index) ≡ Some there → there ≢ told
    → IsSome (other_from desk pos es log)
unfolding other_from
other_found desk pos index [] log told there has stands other = absurd cc
other_found desk pos index (e ∷ es) log told there has stands other =
    go index has stands (is_other e (slice_get log pos)) refl
    (λ i here at. other_found desk (pos + 1) i es log told there here at other)
  where
    go : (i : ℕ) → slice_get (e ∷ es) i ≡ Some told → slice_get log (pos + i) ≡ Some there
        → (b : Bool) → is_other e (slice_get log pos) ≡ b
        → ((k : ℕ) → slice_get es k ≡ Some told → slice_get log (pos + 1 + k) ≡ Some there
        → IsSome (other_from desk (pos + 1) es log))
        → IsSome (if b then Some (OtherEntry desk pos) else other_from desk (pos + 1) es log)
    go i has stands true is later = refl
    go zero has stands false is later =
        let first : e ≡ told = cc in
        let at : pos + 0 ≡ pos = omega arith in
        let here = subst (λ (p : ℕ). slice_get log p ≡ Some there) at stands in
        let both : is_other told (Some there) ≡ false =
        subst (λ (o : Option Entry). is_other told o ≡ false) here (rw first at is) in
        absurd (let two : true ≡ false = sym (is_other_there told there other) ∙ both in cc)
    go (suc i) has stands false is later =
        let at : pos + suc i ≡ pos + 1 + i = omega arith in
        later i has (subst (λ (p : ℕ). slice_get log p ≡ Some there) at stands)

-- ---- a length

shorter_heard : (desk len : ℕ) (known : List ℕ) (d : Difference) → shorter desk len known ≡ Some d
    → (len < slice_index known (desk - 1)) × (d ≡ Shorter desk len)
shorter_heard desk len known d is = go (nat_lt len (slice_index known (desk - 1))) refl is
  where
    go : (b : Bool) → nat_lt len (slice_index known (desk - 1)) ≡ b
        → (if b then Some (Shorter desk len) else None) ≡ Some d
        → (len < slice_index known (desk - 1)) × (d ≡ Shorter desk len)
    go true below is = (grind (arith, nat_tests), inside is)
    go false above is = absurd cc

shorter_found : (desk len : ℕ) (known : List ℕ) → len < slice_index known (desk - 1)
    → IsSome (shorter desk len known)
shorter_found desk len known below =
    by_test IsSome (nat_lt len (slice_index known (desk - 1))) _ _ (λ is. refl)
    (λ is. absurd (grind (arith, nat_tests)))

-- ---- a frame

abbrev Heard : List Entry → List ℕ → Frame → Difference → Type 0
Heard log known f d = TellsOther log f d ⊎ TellsShorter known f d

what_heard : (log : List Entry) (known : List ℕ) (f : Frame) (d : Difference) (w : FrameBody)
    → f.what ≡ w → what_differs f.from w log known ≡ Some d → Heard log known f d
what_heard log known f d (what.Decided pos es) body is =
    let other = other_heard f.from pos es log d is in
    inl (record {
      first = pos;
      entries = es;
      index = other.0;
      told = other.1;
      there = other.2;
      body = body;
      has = other.3;
      stands = other.4;
      other = other.5;
      is = other.6;
    })
what_heard log known f d (what.Behind len) body is =
    let said = shorter_heard f.from len known d is in
    inr (record { len = len; body = body; below = said.0; is = said.1 })
what_heard log known f d _ body is = absurd cc

pub differences_are_heard : DifferencesAreHeard
differences_are_heard home may log known f d is = go (hears home may f) refl is
  where
    go : (b : Bool) → hears home may f ≡ b
        → (if b then what_differs f.from f.what log known else None) ≡ Some d
        → (hears home may f ≡ true) × Heard log known f d
    go true heard is = (heard, what_heard log known f d f.what refl is)
    go false not_heard is = absurd cc

pub differences_are_found : DifferencesAreFound
differences_are_found home may log known f d heard tells = rw heard (go tells)
  where
    go : Heard log known f d → IsSome (what_differs f.from f.what log known)
    go (inl t) =
        subst (λ (w : FrameBody). IsSome (what_differs f.from w log known)) (sym t.body)
        (other_found f.from t.first t.index t.entries log t.told t.there t.has t.stands t.other)
    go (inr t) =
        subst (λ (w : FrameBody). IsSome (what_differs f.from w log known)) (sym t.body)
        (shorter_found f.from t.len known t.below)

-- ---- What desks of a hall say of their logs.

-- ---- what was sent

-- a message that was sent so
sent_is : (xs : List Message) (from : ℕ) (body : Body) → Sent xs from body
    → (m : Message) × IsAmong m xs × (m.from ≡ from) × (m.body ≡ body)
sent_is [] from body h = absurd h
sent_is (x ∷ xs) from body (inl h) = (x, inl refl, h.0, h.1)
sent_is (x ∷ xs) from body (inr h) =
    let r = sent_is xs from body h in (r.0, inr r.1, r.2, r.3)

is_sent : (xs : List Message) (m : Message) → IsAmong m xs → Sent xs m.from m.body
is_sent [] m h = absurd h
is_sent (x ∷ xs) m (inl e) = inl (ap (λ (y : Message). y.from) e, ap (λ (y : Message). y.body) e)
is_sent (x ∷ xs) m (inr h) = inr (is_sent xs m h)

nth_is_sent : (xs : List Message) (k : ℕ) (m : Message) → nth_sent xs k ≡ Some m
    → Sent xs m.from m.body
nth_is_sent xs k m is = is_sent xs m (nth_among xs k m is)

-- ---- what was decided

pub hall_decideds_stand : {K : Type 0} (k : Ghosts K) → CallsAreHappenings k → StopsMakeARun
    → Always DecisionsAreChosen → OneIsChosen → HallDecidedsStand k
hall_decideds_stand k law stops chosen one_chosen n h ss i d from pos e f is ours sent there =
    let all = hall_comes k law n h ss is in
    let hs : List Happening = all_of all.each in
    let at = moments n h new_world ss all.each all.happens i in
    let made = stops n hs in
    let moment = made.1.moments at.0 in
    let events = take moment.0 (events_of n new_world hs made.0) in
    let w : World = after n events in
    let told =
    sent_is _ from (Decided pos e)
    (subst (λ (ms : List Message). Sent ms from (Decided pos e)) at.1.sent sent) in
    let told_so : Sent w.sent told.0.from told.0.body =
    is_sent w.sent told.0 (moment.1.sent told.0 told.1) in
    let told_there : Sent w.sent from (Decided pos e) =
    subst (λ (b : Body). Sent w.sent from b) told.3
    (subst (λ (j : ℕ). Sent w.sent j told.0.body) told.2 told_so) in
    let log : hall_log h ss i d ≡ (w.desks d).log =
    ap (λ (x : Desk). x.log) (at.1.desks d ours)
    ∙ ap (λ (desks : ℕ → Desk). (desks d).log) moment.1.desks in
    one_chosen n events pos f e ((chosen n events).log d pos f
    (subst (λ (xs : List Entry). slice_get xs pos ≡ Some f) log there))
    ((chosen n events).told from pos e told_there)

-- ---- a frame of entries

-- the entry that is there is the one that is reported, where one is
not_other : (e : Entry) (there : Option Entry) → ((f : Entry) → there ≡ Some f → f ≡ e)
    → is_other e there ≡ false
not_other e None h = refl
not_other e (Some f) h = cc (h f refl, self_same e)

none_other : (d from pos : ℕ) (es log : List Entry) (sent : List Message)
    → ((at : ℕ) (e f : Entry) → Sent sent from (Decided at e) → slice_get log at ≡ Some f → f ≡ e)
    → WereSentTo d sent (decided_each from d pos es) → other_from from pos es log ≡ None
unfolding other_from
none_other d from pos [] log sent stands h = refl
none_other d from pos (e ∷ es) log sent stands h =
    let m : Message = record { from = from; to = d; body = Decided pos e } in
    let told : Sent sent from (Decided pos e) = nth_is_sent sent h.0.0 m h.0.1 in
    cc (
      not_other e (slice_get log pos) (λ f is. stands pos e f told is),
      none_other d from
          (pos + 1) es log sent stands h.1,
    )

pub hall_runs_agree : {K : Type 0} (k : Ghosts K) → HallDecidedsStand k → HallRunsAgree k
hall_runs_agree k stand n h ss i d from pos es is ours sent =
    none_other d from pos es (hall_log h ss i d) (hall_after h (take i ss)).sent
    (λ at e f told there. stand n h ss i d from at e f is ours told there) sent

-- ---- lengths

pub hall_lengths_grow : {K : Type 0} (k : Ghosts K) → CallsAreHappenings k → StopsMakeARun
    → StepsStayInRange → DesksAreInRange → HallLengthsGrow k
hall_lengths_grow k law stops stay range n h ss i a b len earlier later is le one two same behind =
    let all = hall_comes k law n h ss is in
    let at = moments n h new_world ss all.each all.happens i in
    let grown = real_grown stay stops range n (take at.0 (all_of all.each)) in
    sent_order (hall_after h (take i ss)).sent a b earlier later
    (subst (λ (ms : List Message). AreInOrder ms) (sym at.1.sent) grown.order) le one two len same
    behind
