-- What was asked, one after the other.
use Rattle.std.proofs.Common.{◌≡◌, ◌≢◌, ◌↔◌, ◌⊎◌, inl, inr, refl, sym, ap, subst, ◌∙◌, ℕ, ◌≤◌, ◌-◌}
use Rattle.std.proofs.Common.{◌+◌, get_or, take, List, [], ◌∷◌, ◌++◌, append_assoc, append-nil}
use Rattle.std.proofs.Common.{length, length-append, set, Option, None, Some, Bool, true, false}
use Rattle.std.proofs.Common.{arith, IsTrue, position, ◌<◌}
use Rattle.std.proofs.lemmas.{Bool.eqb-false, Bool.ltb-false, List.take_all, List.take_more}
use Rattle.std.specs.Prelude.{not, ◌&&◌, is_some}
use Rattle.answers.specs.Seen.{Seen}
use Rattle.store.specs.declared.home.Home.{Home}
use Rattle.polled.specs.{Telling.Tells, declared.answers.Ready.Ready}
use Rattle.guarded.specs.LockedConnections.{LockedConnectionOf, WantsRead, begun}
use Rattle.multiplex.specs.Musts.{Accepts, Admits, Attends, IsMove, IsWatched, IsWoken, MakesPlace}
use Rattle.multiplex.specs.Musts.{WaitsToRead, AsksUntil, Ends, Follows, GoesOn, Musts}
use Rattle.multiplex.specs.Musts.{NoneIsSilent, Stand, AreEndsOf, IsEndOf, OffersLast, joined}
use Rattle.multiplex.specs.{Musts.left_at, Musts.wait_by, Silence.waited_for}
use Rattle.multiplex.specs.{Noting.awakes, declared.table.ServingOptions.ServingOptions}
use Rattle.polled.specs.Requests.{Asks, Request, Accepting, Closing, Waited, Watching}
use Rattle.multiplex.specs.declared.ends.{ServingEnd.ServingEnd, EndReason.EndReason}
use Rattle.multiplex.specs.declared.table.{Guest.Guest, ClientTable.ClientTable}
use Rattle.multiplex.specs.model.Asking.{AsksHosted, AsksMove, AsksSome, BeginsWithMove, ClosesAt}
use Rattle.multiplex.specs.model.Asking.{KeepsWoken, MayClose, WakesAll}
use Rattle.multiplex.specs.model.Tables.{has_number, is_silent}
use Rattle.multiplex.proofs.{Looking.none_of, Looking.some_of, Shutting.all_but, Visits.About}
use Rattle.multiplex.proofs.{Placed.all_as, Placed.all_both, Placed.nowhere, Shutting.at_place}
use Rattle.polled.proofs.Telling.{Tells-as, Tells-nil, Tells-trans}
use Rattle.polled.specs.declared.answers.AcceptedPeer.TheVariants as accepted_is

pub asks_none : {C : Type 0} (requests : C → Option (List Request)) (c : C)
    (P : List Request → Type 0) → P [] → Asks requests c c P
asks_none requests c P p = ([], Tells-nil (requests c), p)

pub asks_both : {C : Type 0} (requests : C → Option (List Request)) (c between later : C)
    (P Q R : List Request → Type 0) → ((xs ys : List Request) → P xs → Q ys → R (xs ++ ys))
    → Asks requests c between P → Asks requests between later Q → Asks requests c later R
asks_both requests c between later P Q R both h k = (
  h.0 ++ k.0,
  Tells-trans (requests c) (requests between) (requests later) h.0 k.0 h.1 k.1,
  both h.0 k.0 h.2 k.2,
)

pub asks_as : {C : Type 0} (requests : C → Option (List Request)) (c later : C)
    (P Q : List Request → Type 0) → ((xs : List Request) → P xs → Q xs)
    → Asks requests c later P → Asks requests c later Q
asks_as requests c later P Q same h = (h.0, h.1, same h.0 h.2)

-- anything may follow
pub asks_some : {C : Type 0} (requests : C → Option (List Request)) (c between later : C)
    (more : List Request) → Asks requests c between AsksSome
    → Tells (requests between) (requests later) more → Asks requests c later AsksSome
asks_some requests c between later more h k = (
  h.0 ++ more,
  Tells-trans (requests c) (requests between) (requests later) h.0 more h.1 k,
  tt,
)

-- ---- a client has its turns

all_sent : (out : List ℕ) → (out ≢ [] → ⊥) → out ≡ []
all_sent [] h = refl
all_sent (x ∷ xs) h = absurd (h (λ e. let n : x ∷ xs ≡ [] = e in absurd cc))

not_true : {A : Type 0} (b : Bool) → (IsTrue b ↔ A) → b ≡ false → A → ⊥
not_true b h is at = let n : false ≡ true = sym is ∙ h.1 at in absurd cc

-- it waits for its turn, with all sent
pub moves_none : {C : Type 0} (requests : C → Option (List Request)) (c : C) (k : ℕ)
    (talk : LockedConnectionOf) (writes reads : Bool) → (IsTrue writes ↔ (talk.output ≢ []))
    → writes ≡ false → (IsTrue reads ↔ WantsRead talk) → reads ≡ false
    → Asks requests c c (AsksMove k talk)
moves_none requests c k talk writes reads sends none hears deaf =
    asks_none requests c (AsksMove k talk) (inr (inr (
      all_sent talk.output (not_true writes sends none),
      not_true reads hears deaf,
      refl,
    )))

pub begins_more : (k : ℕ) (c : LockedConnectionOf) (xs ys : List Request)
    → AsksMove k c xs → AsksSome ys → BeginsWithMove k c (xs ++ ys)
begins_more k c xs ys h some = (xs, h, (ys, refl))

pub begins_then : {C : Type 0} (requests : C → Option (List Request)) (c between later : C)
    (k : ℕ) (talk : LockedConnectionOf) → Asks requests c between (AsksMove k talk)
    → Asks requests between later AsksSome → Asks requests c later (BeginsWithMove k talk)
begins_then requests c between later k talk h j =
    asks_both requests c between later (AsksMove k talk) AsksSome (BeginsWithMove k talk)
    (begins_more k talk) h j

pub begins_alone : {C : Type 0} (requests : C → Option (List Request)) (c later : C)
    (k : ℕ) (talk : LockedConnectionOf)
    → Asks requests c later (AsksMove k talk) → Asks requests c later (BeginsWithMove k talk)
begins_alone requests c later k talk h =
    asks_as requests c later (AsksMove k talk) (BeginsWithMove k talk)
    (λ xs at. (xs, at, ([], sym (append-nil xs)))) h

-- nobody can be watched any more
pub hosted_unwatched : (k : ℕ) (old new : Guest) (w : EndReason) (xs ys : List Request)
    → BeginsWithMove k old.talk xs → AsksHosted k old new (Some w) (xs ++ ys)
hosted_unwatched k old new w xs ys h = record {
  first = h.0;
  move = h.1;
  more = h.2.0 ++ ys;
  last = [];
  watched = refl;
  all = ap (λ (z : List Request). z ++ ys) h.2.1 ∙ append_assoc h.0 h.2.0 ys
      ∙ ap (λ (z : List Request). h.0 ++ z) (sym (append-nil (h.2.0 ++ ys)));
}

pub hosted_watched : (k : ℕ) (old new : Guest) (xs ys : List Request)
    → BeginsWithMove k old.talk xs → IsWatched k old new ys → AsksHosted k old new None (xs ++ ys)
hosted_watched k old new xs ys h is = record {
  first = h.0;
  move = h.1;
  more = h.2.0;
  last = ys;
  watched = is;
  all = ap (λ (z : List Request). z ++ ys) h.2.1 ∙ append_assoc h.0 h.2.0 ys;
}

-- its connection is to be ended, before it is watched
pub hosts_ended : {C : Type 0} (requests : C → Option (List Request)) (c later : C)
    (k : ℕ) (old new : Guest) (w : EndReason) → Asks requests c later (BeginsWithMove k old.talk)
    → Asks requests c later (AsksHosted k old new (Some w))
hosts_ended requests c later k old new w h =
    asks_as requests c later (BeginsWithMove k old.talk) (AsksHosted k old new (Some w))
    (λ xs at. record {
      first = at.0;
      move = at.1;
      more = at.2.0;
      last = [];
      watched = refl;
      all = at.2.1 ∙ ap (λ (z : List Request). at.0 ++ z) (sym (append-nil at.2.0));
    }) h

pub hosts_unwatched : {C : Type 0} (requests : C → Option (List Request)) (c between later : C)
    (k : ℕ) (old new : Guest) (w : EndReason) (more : List Request)
    → Asks requests c between (BeginsWithMove k old.talk)
    → Tells (requests between) (requests later) more
    → Asks requests c later (AsksHosted k old new (Some w))
hosts_unwatched requests c between later k old new w more h told = (
  h.0 ++ more,
  Tells-trans (requests c) (requests between) (requests later) h.0 more h.1 told,
  hosted_unwatched k old new w h.0 more h.2,
)

read_if : (b : Bool) → not b ≡ false → b ≡ true
read_if true n = refl
read_if false n = absurd cc

-- an Await of it was not put off before, or is not now
not_both : (was : Bool) (old new : Option ℕ) → was ≡ is_some old
    → false ≡ (was && is_some new) → (old ≡ None) ⊎ (new ≡ None)
not_both false old new before apart = inl (none_of old false before refl)
not_both true old new before apart = inr (none_of new (is_some new) refl (sym apart))

both_on : (was off : Bool) → true ≡ (was && off) → (was ≡ true) × (off ≡ true)
both_on true off both = (refl, sym both)
both_on false off both = absurd cc

-- it is watched for reads where it waits for that, and only there
watched_as : (k : ℕ) (old g : Guest) (was waits writes ok : Bool)
    → was ≡ is_some old.notes.until → false ≡ (was && is_some g.notes.until)
    → (IsTrue waits ↔ WaitsToRead g) → writes ≡ not waits → ok ≡ true
    → IsWatched k old g (Watching k writes ok ∷ [])
watched_as k old g was waits writes ok before apart h is accepted =
    inr (
      not_both was old.notes.until g.notes.until before apart,
      (
        writes,
        (λ none. h.0 (read_if waits (sym is ∙ none)), λ at. is ∙ ap not (h.1 at)),
        ap (λ b. Watching k writes b ∷ []) accepted,
      ),
    )

pub hosts_watched : {C : Type 0} (requests : C → Option (List Request)) (c between later : C)
    (k : ℕ) (old new : Guest) (was waits writes ok : Bool)
    → Asks requests c between (BeginsWithMove k old.talk)
    → Tells (requests between) (requests later) (Watching k writes ok ∷ [])
    → was ≡ is_some old.notes.until → false ≡ (was && is_some new.notes.until)
    → (IsTrue waits ↔ WaitsToRead new) → writes ≡ not waits → ok ≡ true
    → Asks requests c later (AsksHosted k old new None)
hosts_watched requests c between later k old new was waits writes ok h told before apart reads is
    accepted = (
      h.0 ++ Watching k writes ok ∷ [],
      Tells-trans (requests c) (requests between) (requests later) h.0
          (Watching k writes ok ∷ []) h.1 told,
      hosted_watched k old new h.0 (Watching k writes ok ∷ []) h.2
          (watched_as k old new was waits writes ok before apart reads is accepted),
    )

-- nothing is asked where an Await was put off, and still is
pub hosts_off : {C : Type 0} (requests : C → Option (List Request)) (c later : C) (k : ℕ)
    (old new : Guest) (was : Bool) → Asks requests c later (BeginsWithMove k old.talk)
    → was ≡ is_some old.notes.until → true ≡ (was && is_some new.notes.until)
    → Asks requests c later (AsksHosted k old new None)
hosts_off requests c later k old new was h before both =
    let on = both_on was (is_some new.notes.until) both in
    asks_as requests c later (BeginsWithMove k old.talk) (AsksHosted k old new None)
    (λ xs at. record {
      first = at.0;
      move = at.1;
      more = at.2.0;
      last = [];
      watched =
          inl (
            some_of old.notes.until was before on.0,
            some_of new.notes.until (is_some new.notes.until) refl on.1,
            refl,
          );
      all = at.2.1 ∙ ap (λ (z : List Request). at.0 ++ z) (sym (append-nil at.2.0));
    }) h

-- ---- a client is named

pub attends_nobody : (k : ℕ) (guests : List Guest) → position (has_number k) guests ≡ None
    → Attends k guests guests []
attends_nobody k guests none =
    inl (
      all_as (λ g. has_number k g ≡ false) (λ (g : Guest). g.number ≢ k) guests
          (λ g apart. eqb-false g.number k apart) (nowhere (has_number k) guests none),
      refl,
    )

moves_as : (j k : ℕ) (c : LockedConnectionOf) (asked : List Request) → j ≡ k → IsMove j c asked
    → IsMove k c asked
moves_as j k c asked is h = subst (λ n. IsMove n c asked) is h

pub attends_stay : (k place : ℕ) (table : ClientTable) (new : List Guest) (old later : Guest)
    (before after : List Guest) (asked : List Request) → About table place old later before after
    → old.number ≡ k → new ≡ set table.guests.items place later
    → AsksHosted old.number old later None asked → Attends k table.guests.items new asked
attends_stay k place table new old later before after asked split number is h =
    inr (record {
      before = before;
      after = after;
      one = old;
      found = split.found;
      number = number;
      first = h.first;
      move = moves_as old.number k old.talk h.first number h.move;
      more = h.more;
      last = h.last;
      end =
          inl (record {
            later = later;
            stays = is ∙ split.put;
            watched = subst (λ n. IsWatched n old later h.last) number h.watched;
          });
      all = h.all;
    })

pub attends_leave : (k place : ℕ) (w : EndReason) (table mid : ClientTable) (new : List Guest)
    (old later : Guest) (before after : List Guest) (xs ys : List Request)
    → About table place old later before after → old.number ≡ k → later.number ≡ old.number
    → mid.guests.items ≡ set table.guests.items place later → new ≡ before ++ after
    → AsksHosted old.number old later (Some w) xs → ClosesAt place mid.guests.items ys
    → Attends k table.guests.items new (xs ++ ys)
attends_leave k place w table mid new old later before after xs ys split number same is left h
    shut =
    let gone : shut.gone ≡ later = sym (shut.at later)
    ∙ at_place mid.guests.items before later after place later split.front (is ∙ split.put) in
    let closed : shut.gone.number ≡ k = ap (λ (g : Guest). g.number) gone ∙ same ∙ number in
    inr
    (record {
      before = before;
      after = after;
      one = old;
      found = split.found;
      number = number;
      first = h.first;
      move = moves_as old.number k old.talk h.first number h.move;
      more = h.more ++ h.last;
      last = Closing k ∷ [];
      end = inr (record { leaves = left; closed = refl });
      all =
          ap (λ (z : List Request). z ++ ys) h.all ∙ append_assoc h.first (h.more ++ h.last) ys
          ∙ ap (λ (z : List Request). h.first ++ ((h.more ++ h.last) ++ z))
          (shut.all ∙ ap (λ n. Closing n ∷ []) closed);
    })

-- ---- a client comes

pub accepts_came : (k count : ℕ) (random : List ℕ) (xs ys : List Request)
    → xs ≡ Accepting k (accepted_is.Came random) ∷ [] → MayClose k ys → Accepts k count (xs ++ ys)
accepts_came k count random xs ys is h =
    (accepted_is.Came random, ys, ap (λ (z : List Request). z ++ ys) is, h)

pub accepts_full : (k count : ℕ) (xs ys : List Request)
    → xs ≡ Accepting k accepted_is.Full ∷ [] → MakesPlace 0 count accepted_is.Full ys
    → Accepts k count (xs ++ ys)
accepts_full k count xs ys is h =
    (accepted_is.Full, ys, ap (λ (z : List Request). z ++ ys) is, h)

closes_one : (count : ℕ) (asked : List Request) → 512 ≤ count
    → MakesPlace 0 count accepted_is.Full asked → (j : ℕ) × (asked ≡ Closing j ∷ [])
closes_one count asked full (inl h) = absurd (omega (arith, full, h.0))
closes_one count asked full (inr h) = h

pub admits_crowded : (t : ServingOptions) (over : Option ServingEnd) (old mid : ClientTable)
    (xs ys : List Request) → 512 ≤ length old.guests.items → mid.next ≡ old.next
    → length mid.guests.items ≡ length old.guests.items - 1
    → MakesPlace 0 (length old.guests.items) accepted_is.Full xs
    → Accepts mid.next (length mid.guests.items) ys → Admits t over old (xs ++ ys)
admits_crowded t over old mid xs ys full next fewer h k =
    let one = closes_one (length old.guests.items) xs full h in
    inr (inr (
      full,
      (
        one.0,
        ys,
        ap (λ (z : List Request). z ++ ys) one.1,
        inr
            (subst (λ n. Accepts n (length old.guests.items - 1) ys) next
            (subst (λ n. Accepts mid.next n ys) fewer k)),
      ),
    ))

-- ---- a round is over

pub none_silent : (patience : ℕ) (table : ClientTable)
    → position (is_silent patience table.time) table.guests.items ≡ None
    → NoneIsSilent patience table
none_silent patience table none =
    all_as (λ g. is_silent patience table.time g ≡ false)
    (λ (g : Guest). table.time - g.ready ≤ waited_for patience (begun g.talk)) table.guests.items
    (λ g apart. ltb-false (waited_for patience (begun g.talk)) (table.time - g.ready) apart)
    (nowhere (is_silent patience table.time) table.guests.items none)

-- ---- those are woken whose Await is to be answered

woken_more : (home : Home) (x : Seen) (time : ℕ) (xs ys : List Request) (g : Guest)
    → IsWoken home x time xs g → IsWoken home x time (xs ++ ys) g
woken_more home x time xs ys g h awake =
    let at = h awake in (
      at.0,
      at.1,
      at.2 ++ ys,
      ap (λ (z : List Request). z ++ ys) at.3
          ∙ append_assoc at.0 (Watching g.number true at.1 ∷ at.2) ys,
    )

pub all_woken_more : (home : Home) (x : Seen) (time : ℕ) (guests : List Guest)
    (xs ys : List Request) → WakesAll home x time guests xs → WakesAll home x time guests (xs ++ ys)
all_woken_more home x time guests xs ys h =
    all_as (IsWoken home x time xs) (IsWoken home x time (xs ++ ys)) guests
    (λ g at. woken_more home x time xs ys g at) h

woken_then : (home : Home) (x : Seen) (time : ℕ) (xs ys : List Request) (g : Guest)
    → IsWoken home x time ys g → IsWoken home x time (xs ++ ys) g
woken_then home x time xs ys g h awake =
    let at = h awake in (
      xs ++ at.0,
      at.1,
      at.2,
      ap (λ (z : List Request). xs ++ z) at.3
          ∙ sym (append_assoc xs at.0 (Watching g.number true at.1 ∷ at.2)),
    )

-- the first of these were woken, and one more
wakes_next : (home : Home) (x : Seen) (time : ℕ) (guests : List Guest) (i : ℕ) (g : Guest)
    (xs ys : List Request) → i < length guests → g ≡ get_or guests i g
    → WakesAll home x time (take i guests) xs → IsWoken home x time ys g
    → WakesAll home x time (take (i + 1) guests) (xs ++ ys)
wakes_next home x time guests i g xs ys within is h one =
    subst (λ z. WakesAll home x time z (xs ++ ys)) (sym (take_more guests i g within))
    (all_both (IsWoken home x time (xs ++ ys)) (take i guests) (get_or guests i g ∷ [])
    (all_woken_more home x time (take i guests) xs ys h)
    (subst (λ z. IsWoken home x time (xs ++ ys) z) is (woken_then home x time xs ys g one), tt))

pub wakes_one : {C : Type 0} (requests : C → Option (List Request)) (c between later : C)
    (home : Home) (x : Seen) (time : ℕ) (guests : List Guest) (i : ℕ) (g : Guest)
    → i < length guests → g ≡ get_or guests i g
    → Asks requests c between (WakesAll home x time (take i guests))
    → Asks requests between later (λ asked. IsWoken home x time asked g)
    → Asks requests c later (WakesAll home x time (take (i + 1) guests))
wakes_one requests c between later home x time guests i g within is h more =
    asks_both requests c between later (WakesAll home x time (take i guests))
    (λ asked. IsWoken home x time asked g) (WakesAll home x time (take (i + 1) guests))
    (λ xs ys at one. wakes_next home x time guests i g xs ys within is at one) h more

-- nobody is woken whose Await is not to be answered
pub asleep : {C : Type 0} (requests : C → Option (List Request)) (c : C) (home : Home)
    (x : Seen) (time : ℕ) (g : Guest) → false ≡ awakes home x time g.talk g.notes
    → Asks requests c c (λ asked. IsWoken home x time asked g)
asleep requests c home x time g is =
    asks_none requests c (λ asked. IsWoken home x time asked g)
    (λ on. let n : false ≡ true = is ∙ on in absurd cc)

pub wakes_all : {C : Type 0} (requests : C → Option (List Request)) (c later : C) (home : Home)
    (x : Seen) (time : ℕ) (guests : List Guest) (i : ℕ) → length guests ≤ i
    → Asks requests c later (WakesAll home x time (take i guests))
    → Asks requests c later (WakesAll home x time guests)
wakes_all requests c later home x time guests i whole h =
    asks_as requests c later (WakesAll home x time (take i guests)) (WakesAll home x time guests)
    (λ xs at. subst (λ z. WakesAll home x time z xs) (take_all i guests whole) at) h

pub keeps_woken : (guests before : List Guest) (gone : Guest) (after left : List Guest)
    → guests ≡ before ++ gone ∷ after → left ≡ before ++ after → KeepsWoken guests left
keeps_woken guests before gone after left found is home x time asked h =
    subst (λ z. WakesAll home x time z asked) (sym is) (all_but (IsWoken home x time asked) before
    gone after (subst (λ z. WakesAll home x time z asked) found h))

-- ---- all are ended

ends_last : (guests : List Guest) (gone : Guest) (ends last : List Request)
    → AreEndsOf guests ends → IsEndOf gone last → AreEndsOf (guests ++ gone ∷ []) (last ++ ends)
ends_last [] gone ends last none is =
    ([], last, refl, is, ap (λ (z : List Request). last ++ z) none ∙ append-nil last)
ends_last (g ∷ guests) gone ends last h is = (
  last ++ h.0,
  h.1,
  ends_last guests gone h.0 last h.2 is,
  h.3,
  ap (λ (z : List Request). last ++ z) h.4 ∙ sym (append_assoc last h.0 h.1),
)

-- those so far were ended: whatever ends the others ends all
abbrev pub EndsSome : List Guest → List Guest → List Request → Type 0
EndsSome first old asked =
    (ends : List Request) → AreEndsOf old ends → AreEndsOf first (asked ++ ends)

pub ends_none : {C : Type 0} (requests : C → Option (List Request)) (c : C) (first : List Guest)
    → Asks requests c c (EndsSome first first)
ends_none requests c first = ([], Tells-nil (requests c), λ ends h. h)

-- one more was ended, of those that are still there the last one
pub ends_more : {C : Type 0} (requests : C → Option (List Request)) (c between later : C)
    (first old new : List Guest) (gone : Guest) → old ≡ new ++ gone ∷ []
    → Asks requests c between (EndsSome first old) → Asks requests between later (IsEndOf gone)
    → Asks requests c later (EndsSome first new)
ends_more requests c between later first old new gone is h k = (
  h.0 ++ k.0,
  Tells-trans (requests c) (requests between) (requests later) h.0 k.0 h.1 k.1,
  λ ends ended.
      subst (λ (z : List Request). AreEndsOf first z) (sym (append_assoc h.0 k.0 ends))
      (h.2 (k.0 ++ ends) (subst (λ (z : List Guest). AreEndsOf z (k.0 ++ ends)) (sym is)
      (ends_last new gone ends k.0 ended k.2))),
)

pub ends_all : {C : Type 0} (requests : C → Option (List Request)) (c later : C)
    (first old : List Guest) → old ≡ [] → Asks requests c later (EndsSome first old)
    → Asks requests c later (AreEndsOf first)
ends_all requests c later first old none h = (
  h.0,
  h.1,
  subst (λ (z : List Request). AreEndsOf first z) (append-nil h.0)
      (h.2 [] (subst (λ (z : List Guest). AreEndsOf z []) (sym none) refl)),
)

-- what is offered, and then ended
pub offers_none : {C : Type 0} (requests : C → Option (List Request)) (c : C) (k : ℕ)
    (talk : LockedConnectionOf) (writes : Bool) → (IsTrue writes ↔ (talk.output ≢ []))
    → writes ≡ false → Asks requests c c (OffersLast k talk.output)
offers_none requests c k talk writes sends none =
    asks_none requests c (OffersLast k talk.output)
    (inr (all_sent talk.output (not_true writes sends none), refl))

pub offers_ends : {C : Type 0} (requests : C → Option (List Request)) (c between later : C)
    (g : Guest) → Asks requests c between (OffersLast g.number g.talk.output)
    → Tells (requests between) (requests later) (Closing g.number ∷ [])
    → Asks requests c later (IsEndOf g)
offers_ends requests c between later g h told = (
  h.0 ++ Closing g.number ∷ [],
  Tells-trans (requests c) (requests between) (requests later) h.0 (Closing g.number ∷ []) h.1
      told,
  (h.0, h.2, refl),
)

pub none_left : (guests : List Guest) → (0 < length guests → false ≡ true) → guests ≡ []
none_left [] none = refl
none_left (one ∷ guests) none = let some : false ≡ true = none (omega arith) in absurd cc

-- ---- a step

-- it was waited as long as may be, and then more was asked
pub musts_ask : {C L : Type 0} (requests : C → Option (List Request))
    (due : L → ℕ → Option ℕ → Type 0) (kept : L → Option (List ℕ)) (t : ServingOptions)
    (home : Home) (x : Seen) (over : Option ServingEnd) (old new : ClientTable) (links after : L)
    (c between later : C) (wait : ℕ) (ready : Ready) (more : List Request)
    → ((left : Option ℕ) × due links old.time left
    × (wait ≡ wait_by left (left_at old.own.ticker old.time)))
    → Tells (requests c) (requests between) (Waited wait ready ∷ [])
    → Tells (requests between) (requests later) more
    → Follows t home x over old new (kept after) ready more
    → Asks requests c later (Musts due kept t home x over old new links after)
musts_ask requests due kept t home x over old new links after c between later wait ready more h told
    k follows = (
      Waited wait ready ∷ more,
      Tells-trans (requests c) (requests between) (requests later) (Waited wait ready ∷ []) more
          told k,
      record {
        left = h.0;
        says = h.1;
        ready = ready;
        more = more;
        all = ap (λ n. Waited n ready ∷ more) h.2;
        follows = follows;
      },
    )

-- ---- serving goes on

pub goes_more : {L : Type 0} (due : L → ℕ → Option ℕ → Type 0) (kept : L → Option (List ℕ))
    (t : ServingOptions) (home : Home) (a m b : Stand L) (steps : List (List Request))
    (asked : List Request) → GoesOn due kept t home a steps m
    → Musts due kept t home b.seen None m.table b.table m.links b.links asked
    → GoesOn due kept t home a (steps ++ asked ∷ []) b
goes_more {L} due kept t home a m b [] asked h k = (
  b,
  subst (λ (s : Stand L). Musts due kept t home b.seen None s.table b.table s.links b.links asked)
      (sym h) k,
  refl,
)
goes_more due kept t home a m b (one ∷ steps) asked h k =
    (h.0, h.1, goes_more due kept t home h.0 m b steps asked h.2 k)

joined_more : (steps : List (List Request)) (asked : List Request)
    → joined (steps ++ asked ∷ []) ≡ joined steps ++ asked
joined_more [] asked = append-nil asked
joined_more (one ∷ steps) asked =
    ap (λ (z : List Request). one ++ z) (joined_more steps asked)
    ∙ sym (append_assoc one (joined steps) asked)

-- what was asked in this many steps
abbrev pub AsksSteps : {C L : Type 0} → (C → Option (List Request))
    → (L → ℕ → Option ℕ → Type 0) → (L → Option (List ℕ)) → ServingOptions → Home → ℕ → Stand L
    → Stand L → C → C → Type 0
AsksSteps requests due kept t home count a b c later =
    (steps : List (List Request)) × (length steps ≡ count) × GoesOn due kept t home a steps b
    × Tells (requests c) (requests later) (joined steps)

pub steps_more : {C L : Type 0} (requests : C → Option (List Request))
    (due : L → ℕ → Option ℕ → Type 0) (kept : L → Option (List ℕ)) (t : ServingOptions)
    (home : Home) (count : ℕ) (a m b : Stand L) (c between later : C)
    → AsksSteps requests due kept t home count a m c between → Asks requests between later
    (Musts due kept t home b.seen None m.table b.table m.links b.links)
    → AsksSteps requests due kept t home (count + 1) a b c later
steps_more requests due kept t home count a m b c between later h k = (
  h.0 ++ k.0 ∷ [],
  length-append h.0 (k.0 ∷ []) ∙ ap (λ n. n + 1) h.1,
  goes_more due kept t home a m b h.0 k.0 h.2 k.2,
  Tells-as (requests c) (requests later) (joined h.0 ++ k.0) (joined (h.0 ++ k.0 ∷ []))
      (sym (joined_more h.0 k.0))
      (Tells-trans (requests c) (requests between) (requests later) (joined h.0) k.0 h.3 k.1),
)

-- serving is over without a further step
pub until_here : {C L : Type 0} (requests : C → Option (List Request))
    (due : L → ℕ → Option ℕ → Type 0) (kept : L → Option (List ℕ)) (t : ServingOptions)
    (home : Home) (over : ServingEnd) (count : ℕ) (a m : Stand L) (c later : C)
    → AsksSteps requests due kept t home count a m c later → Ends due kept t home over count m m []
    → Asks requests c later (AsksUntil due kept t home over a m)
until_here requests due kept t home over count a m c later h ends = (
  joined h.0,
  h.3,
  record {
    steps = h.0;
    mid = m;
    last = [];
    goes = h.2;
    ends = subst (λ n. Ends due kept t home over n m m []) (sym h.1) ends;
    all = sym (append-nil (joined h.0));
  },
)

-- or by one
pub until_step : {C L : Type 0} (requests : C → Option (List Request))
    (due : L → ℕ → Option ℕ → Type 0) (kept : L → Option (List ℕ)) (t : ServingOptions)
    (home : Home) (over : ServingEnd) (count : ℕ) (a m b : Stand L) (c between later : C)
    → AsksSteps requests due kept t home count a m c between → Asks requests between later
    (Musts due kept t home b.seen (Some over) m.table b.table m.links b.links)
    → Asks requests c later (AsksUntil due kept t home over a b)
until_step requests due kept t home over count a m b c between later h k = (
  joined h.0 ++ k.0,
  Tells-trans (requests c) (requests between) (requests later) (joined h.0) k.0 h.3 k.1,
  record {
    steps = h.0;
    mid = m;
    last = k.0;
    goes = h.2;
    ends = inr (inr k.2);
    all = refl;
  },
)
