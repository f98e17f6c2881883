-- What connections of a hall are answered: sheets, and entries of the desks' logs.
use Rattle.std.proofs.Common.{◌≡◌, ◌≢◌, refl, sym, ap, subst, ◌∙◌, ℕ, [], ◌∷◌, ◌++◌, take, Option}
use Rattle.std.proofs.Common.{None, Some, ◌⊎◌, inl, inr, zero, suc, ◌≤◌, List, length, drop}
use Rattle.std.proofs.Common.{slice_get, arith, take-append-drop}
use Rattle.answers.{proofs.Fronts.same_sheet, specs.Seen.Seen}
use Rattle.serving.specs.Answering.{said_in, copied, entries_from}
use Rattle.serving.specs.{Asking.request, Permissions.reads, Connection.serve_frame, Turns.LeavesAt}
use Rattle.std.{specs.Io.KnownBytes.Appends, proofs.lemmas.List.append-nil}
use Rattle.replica.specs.{Handles.Handles, Settles.Settles}
use Rattle.serving.specs.Connection.{asked, Begun, Sides, answer_bytes, answer_frame, framed_answer}
use Rattle.serving.specs.{Differing.withheld, declared.ends.ConnectionEnd.ConnectionEnd}
use Rattle.serving.specs.{Making.Way, Making.speaking, Nodes.Fate, Nodes.Goes}
use Rattle.serving.specs.{TurnLaw.Began, TurnLaw.sides_in, Serving.answer, Serving.first_fate}
use Rattle.connections.specs.Connections.{TurnOf, place_of}
use Rattle.store.specs.declared.{home.Home.Home, keeper.Keeper.Ghosts}
use Rattle.wire.specs.declared.frame.{Frame.Frame, FrameBody.FrameBody}
use Rattle.wire.specs.declared.values.Version.{Version}
use Rattle.hall_laws.specs.HallRuns.{Station, hall_after, hall_log, home_at, seen_of}
use Rattle.hall_laws.specs.HallRuns.{HallSheetsAreOfLogs, HallSheetsAgree, HallLogsAgree}
use Rattle.hall_laws.specs.HallRuns.{HallAnswersWait, HallEvent, HallGoes, TakesTurn, connections}
use Rattle.hall_laws.specs.HallRuns.{Hall, HallStep, IsHallRun, IsWorld, AreHappenings}
use Rattle.hall_laws.specs.Stops.{CallsAreHappenings, Happening, Follows, goes_on, real_run, group}
use Rattle.hall_laws.proofs.HallEntries.{reads_as_asked, printed_where, copied_where}
use Rattle.hall_laws.proofs.{HallRuns.hall_before, Running.inside, Stopping.one_more}
use Rattle.hall_laws.{proofs.HallRuns.hall_comes, specs.Served.SheetsAreOfTheLog}
use Rattle.acceptor.specs.declared.entry.Entry.{Entry}
use Rattle.learner.proofs.Evolves.{prefix_self, prefix_trans}
use Rattle.learner.proofs.Runs.{new_sound, run_log, run_sound}
use Rattle.learner.specs.{Desks.Desk, Invariant.IsSound, Laws.IsPrefix, Steps.IsDesk, Worlds.World}
use Rattle.learner.specs.{Worlds.new_world, Worlds.run, declared.event.WorldEvent.WorldEvent}
use Rattle.hall_laws.specs.Copying.{AnswersCopy, HallCopiesAreOfLogs, HallLogsGrow, Given}
use Rattle.hall_laws.specs.Copying.{collected, AreCollected, AreOf, BeginsALog, HallCopiesBeginALog}
use Rattle.hall_laws.specs.Copying.{HallCopiesBeginItsLog, HallCopiesAgree}
use Rattle.serving.specs.declared.ends.ConnectionEnd.TheVariants as end
use Rattle.wire.specs.declared.frame.FrameBody.TheVariants as what
use Rattle.wire.specs.declared.values.ClientRefusal.TheVariants as refusal

-- a frame that was served whole
whole_answer : {V : Type 0} (way : Way V) (e : Option ConnectionEnd) (home : Home) (a b : Sides way)
    (one : Begun) (count : ℕ) → LeavesAt e home a b one count → e ≢ Some end.NoMemory
    → Appends a.written b.written (answer_bytes (serve_frame home a.seen one).answers)
whole_answer way None home a b one count l whole = l.0.answered
whole_answer way (Some end.Stopped) home a b one count l whole = l.answered
whole_answer way (Some end.Down) home a b one count l whole = l.answered
whole_answer way (Some end.Frames) home a b one count l whole = l.0.answered
whole_answer way (Some end.NoMemory) home a b one count l whole = absurd (whole refl)
whole_answer way _ home a b one count l whole = absurd l

pub hall_answers_wait : {K : Type 0} (k : Ghosts K) → CallsAreHappenings k → HallAnswersWait k
hall_answers_wait {K} k law n h ss at d number one step is serves =
    let found = hall_before k law n h ss is at step serves.here in
    let before = hall_after h (take at ss) in
    let t : TurnOf = record { number = number; turn = Began one } in
    let turn : TakesTurn k n d t serves.acts before step.after =
    subst (λ (e : HallEvent). HallGoes k n e before step.after) serves.turn found.2 in
    let x = before.desks d in
    let y = step.after.desks d in
    let a = place_of (connections k x.wire x) number in
    let b = place_of (connections k x.wire y) number in
    let answered =
    whole_answer (speaking (Handles k) (Settles k) x.wire) b.talk.end a.talk.home
    (sides_in a a.talk.pending)
    (sides_in b b.talk.pending) one b.talk.frames turn.turn.turn.1 serves.whole in
    subst (λ (home : Home).
    b.talk.pending ≡ answer_bytes (serve_frame home (seen_of x.node) one).answers)
    (found.1.talks d turn.ours number) (answered ∙ ap
    (λ z. z ++ answer_bytes (serve_frame a.talk.home (seen_of x.node) one).answers)
    turn.turn.turn.0.free.taken)

-- every version spells it alike
abbrev pub IsPlain : FrameBody → Type 0
IsPlain (what.Told id s) = ⊥
IsPlain (what.Refused r) = ⊥
IsPlain (what.Standing s) = ⊥
IsPlain _ = Unit {0}

plain_said : (version : Version) (u w : FrameBody) → IsPlain w → said_in version u ≡ w → u ≡ w
plain_said version (what.Told id s) w plain h = absurd (subst IsPlain (sym h) plain)
plain_said version (what.Refused r) w plain h = absurd (subst IsPlain (sym h) plain)
plain_said version (what.Standing s) w plain h = absurd (subst IsPlain (sym h) plain)
plain_said version u w plain h = h

pub framed_is : (version : Version) (home : Home) (o : Option FrameBody) (w : FrameBody) → IsPlain w
    → framed_answer version home o ≡ answer_frame version home w ∷ [] → o ≡ Some w
framed_is version home None w plain h =
    absurd (let none : [] ≡ answer_frame version home w ∷ [] = h in cc)
framed_is version home (Some u) w plain h =
    let same : answer_frame version home (said_in version u) ≡ answer_frame version home w = cc in
    ap Some (plain_said version u w plain (ap (λ (f : Frame). f.what) same))

pub hall_sheets : {K : Type 0} (k : Ghosts K) → SheetsAreOfTheLog → HallSheetsAreOfLogs k
unfolding serve_frame
hall_sheets {K} k law h ss at d sheet text is =
    law home (seen_of x.node) is.one.fates sheet.event sheet.round sheet.position sheet.style text
    (subst (λ r. answer home (seen_of x.node) is.one.fates r ≡ Some (what.SheetText text))
    (ap (λ z. withheld is.one.differs z)
    (reads_as_asked is.one.may (request home is.one.frame) (ap reads is.asked) ∙ is.asked)
    ∙ printed_where is.one.differs sheet.event sheet.round sheet.position sheet.style)
    (framed_is is.one.frame.version home
    (answer home (seen_of x.node) is.one.fates (asked home is.one)) (what.SheetText text)
    tt is.answered))
  where
    x : Station K
    x = (hall_after h (take at ss)).desks d

    home : Home
    home = home_at k x

pub hall_sheets_agree : {K : Type 0} (k : Ghosts K) → HallSheetsAreOfLogs k → HallLogsAgree k
    → HallSheetsAgree k
hall_sheets_agree k sheets agree n h ss i j d f sheet text other is ours others one two =
    let here = sheets h ss i d sheet text one in
    let there = sheets h ss j f sheet other two in
    text_of (sym here.1 ∙ same_sheet _ _ _ _ _ _ (agree n h ss i j d f is ours others) here.0
    there.0 ∙ there.1)
  where
    text_of : Some text ≡ Some other → text ≡ other
    text_of h = cc

-- ---- Entries that desks of a hall answer are entries of their logs.

-- ---- one answer

copied_is : (x : Seen) (fate : Fate) (p q size : ℕ) (es : List Entry)
    → copied x fate p ≡ what.Entries q size es
    → (size ≡ length x.desk.log) × (es ≡ entries_from p x.desk.log)
copied_is x Goes p q size es h = (sizes h, entries h)
  where
    sizes : what.Entries p (length x.desk.log) (entries_from p x.desk.log)
        ≡ what.Entries q size es → size ≡ length x.desk.log
    sizes h = cc

    entries : what.Entries p (length x.desk.log) (entries_from p x.desk.log)
        ≡ what.Entries q size es → es ≡ entries_from p x.desk.log
    entries h = cc
copied_is x _ p q size es h =
    absurd (let k : what.Refused refusal.NoMemory ≡ what.Entries q size es = h in cc)

pub hall_copies : {K : Type 0} (k : Ghosts K) → HallCopiesAreOfLogs k
unfolding serve_frame
hall_copies {K} k h ss at d copy is =
    copied_is (seen_of x.node) (first_fate is.one.fates) copy.position copy.position copy.length
    copy.entries (inside (subst (λ r. answer home (seen_of x.node) is.one.fates r
    ≡ Some (what.Entries copy.position copy.length copy.entries))
    (ap (λ z. withheld is.one.differs z)
    (reads_as_asked is.one.may (request home is.one.frame) (ap reads is.asked) ∙ is.asked)
    ∙ copied_where is.one.differs copy.position) (framed_is is.one.frame.version home
    (answer home (seen_of x.node) is.one.fates (asked home is.one))
    (what.Entries copy.position copy.length copy.entries) tt is.answered)))
  where
    x : Station K
    x = (hall_after h (take at ss)).desks d

    home : Home
    home = home_at k x

-- ---- logs grow

-- a sound world that these real desks follow
abbrev Shadow : ℕ → World → Type 0
Shadow n w = (v : World) × Follows w v × IsSound n v

-- each log of the first world is a prefix of that desk's log in the second
abbrev Grows : World → World → Type 0
Grows a b = (d : ℕ) → IsPrefix (a.desks d).log (b.desks d).log

one_grows : (n : ℕ) (w : World) (e : Happening) → Shadow n w
    → Shadow n (goes_on n w e) × Grows w (goes_on n w e)
one_grows n w e s =
    let one = one_more n w s.0 e s.1 in
    let events : List WorldEvent = group w e one.0 in (
      (run n s.0 events, one.2, run_sound n s.0 events s.2),
      λ d.
          subst (λ (ds : ℕ → Desk). IsPrefix (ds d).log ((goes_on n w e).desks d).log)
          (sym s.1.desks)
          (subst (λ (ds : ℕ → Desk). IsPrefix (s.0.desks d).log (ds d).log) (sym one.2.desks)
          (run_log n s.0 events s.2 d)),
    )

real_grows : (n : ℕ) (w : World) (hs : List Happening) → Shadow n w
    → Shadow n (real_run n w hs) × Grows w (real_run n w hs)
real_grows n w [] s = (s, λ d. prefix_self (w.desks d).log)
real_grows n w (e ∷ hs) s =
    let one = one_grows n w e s in
    let rest = real_grows n (goes_on n w e) hs one.0 in (
      rest.0,
      λ d.
          prefix_trans (w.desks d).log ((goes_on n w e).desks d).log
          ((real_run n (goes_on n w e) hs).desks d).log (one.1 d) (rest.1 d),
    )

first_world : {K : Type 0} (n : ℕ) (h : Hall K) (w : World) (ss : List (HallStep K))
    (each : List (List Happening)) → AreHappenings n h w ss each → IsWorld n h w
first_world n h w [] [] is = is
first_world n h w [] (hs ∷ each) is = absurd is
first_world n h w (s ∷ ss) [] is = absurd is
first_world n h w (s ∷ ss) (hs ∷ each) is = is.0

logs_grow : {K : Type 0} (n : ℕ) (h : Hall K) (w : World) (ss : List (HallStep K))
    (each : List (List Happening)) → Shadow n w → AreHappenings n h w ss each → (i j d : ℕ)
    → IsDesk n d → i ≤ j → IsPrefix (hall_log h ss i d) (hall_log h ss j d)
logs_grow n h w [] [] s is zero zero d ours less = prefix_self (h.desks d).node.desk.log
logs_grow n h w [] [] s is zero (suc j) d ours less = prefix_self (h.desks d).node.desk.log
logs_grow n h w [] [] s is (suc i) zero d ours less = prefix_self (h.desks d).node.desk.log
logs_grow n h w [] [] s is (suc i) (suc j) d ours less = prefix_self (h.desks d).node.desk.log
logs_grow n h w [] (hs ∷ each) s is i j d ours less = absurd is
logs_grow n h w (t ∷ ss) [] s is i j d ours less = absurd is
logs_grow n h w (t ∷ ss) (hs ∷ each) s is zero zero d ours less =
    prefix_self (h.desks d).node.desk.log
logs_grow n h w (t ∷ ss) (hs ∷ each) s is zero (suc j) d ours less =
    let grown = real_grows n w hs s in
    let here : (h.desks d).node.desk ≡ w.desks d = is.0.desks d ours in
    let there : (t.after.desks d).node.desk ≡ (real_run n w hs).desks d =
    (first_world n t.after (real_run n w hs) ss each is.1).desks d ours in
    prefix_trans (h.desks d).node.desk.log (t.after.desks d).node.desk.log (hall_log t.after ss j d)
    (subst (λ (x : Desk). IsPrefix x.log (t.after.desks d).node.desk.log) (sym here)
    (subst (λ (x : Desk). IsPrefix (w.desks d).log x.log) (sym there) (grown.1 d)))
    (logs_grow n t.after (real_run n w hs) ss each grown.0 is.1 zero j d ours (omega arith))
logs_grow n h w (t ∷ ss) (hs ∷ each) s is (suc i) zero d ours less = absurd (omega arith)
logs_grow n h w (t ∷ ss) (hs ∷ each) s is (suc i) (suc j) d ours less =
    logs_grow n t.after (real_run n w hs) ss each (real_grows n w hs s).0 is.1 i j d ours
    (omega arith)

pub hall_logs_grow : {K : Type 0} (k : Ghosts K) → CallsAreHappenings k → HallLogsGrow k
hall_logs_grow k law n h ss i j d is ours less =
    let all = hall_comes k law n h ss is in
    logs_grow n h new_world ss all.each
    (new_world, record { desks = refl; sent = λ m has. has }, new_sound n) all.happens i j d ours
    less

-- ---- lists of which one is a prefix of the other

tail_prefix : (x z : Entry) (xs zs : List Entry) → IsPrefix (x ∷ xs) (z ∷ zs) → IsPrefix xs zs
tail_prefix x z xs zs p = let h = p.1 in (p.0, cc)

same_head : (x z : Entry) (xs zs : List Entry) → IsPrefix (x ∷ xs) (z ∷ zs) → x ≡ z
same_head x z xs zs p = let h = p.1 in cc

with_head : (x z : Entry) (xs zs : List Entry) → x ≡ z → IsPrefix xs zs → IsPrefix (x ∷ xs) (z ∷ zs)
with_head x z xs zs same p = let h = p.1 in (p.0, cc)

-- two fronts of one list
pub fronts_agree : (xs ys zs : List Entry) → IsPrefix xs zs → IsPrefix ys zs
    → IsPrefix xs ys ⊎ IsPrefix ys xs
fronts_agree [] ys zs p q = inl (ys, refl)
fronts_agree (x ∷ xs) [] zs p q = inr (x ∷ xs, refl)
fronts_agree (x ∷ xs) (y ∷ ys) [] p q = absurd (let h = p.1 in cc)
fronts_agree (x ∷ xs) (y ∷ ys) (z ∷ zs) p q =
    go (fronts_agree xs ys zs (tail_prefix x z xs zs p) (tail_prefix y z ys zs q))
  where
    same : x ≡ y
    same = same_head x z xs zs p ∙ sym (same_head y z ys zs q)

    go : IsPrefix xs ys ⊎ IsPrefix ys xs → IsPrefix (x ∷ xs) (y ∷ ys) ⊎ IsPrefix (y ∷ ys) (x ∷ xs)
    go (inl r) = inl (with_head x y xs ys same r)
    go (inr r) = inr (with_head y x ys xs (sym same) r)

-- What is held is a prefix of a log. So it is with the entries after it that another prefix of the
-- log has from its end on.
goes_on_with : (held log m : List Entry) (wide : ℕ) → IsPrefix held log → IsPrefix m log
    → IsPrefix (held ++ take wide (drop (length held) m)) log
goes_on_with [] log m wide p q =
    prefix_trans (take wide m) m log (drop wide m, take-append-drop wide m) q
goes_on_with (x ∷ xs) log [] zero p q =
    subst (λ (es : List Entry). IsPrefix es log) (sym (append-nil (x ∷ xs))) p
goes_on_with (x ∷ xs) log [] (suc wide) p q =
    subst (λ (es : List Entry). IsPrefix es log) (sym (append-nil (x ∷ xs))) p
goes_on_with (x ∷ xs) [] (y ∷ ys) wide p q = absurd (let h = p.1 in cc)
goes_on_with (x ∷ xs) (z ∷ zs) (y ∷ ys) wide p q =
    with_head x z (xs ++ take wide (drop (length xs) ys)) zs (same_head x z xs zs p)
    (goes_on_with xs zs ys wide (tail_prefix x z xs zs p) (tail_prefix y z ys zs q))

-- ---- answers, one after the other

-- what is held, with the entries of an answer that was asked for from its end on
next_entries : {K : Type 0} (k : Ghosts K) (h : Hall K) (ss : List (HallStep K))
    (held log : List Entry) (one : Given)
    → AnswersCopy k h ss one.at one.desk one.copy → one.copy.position ≡ length held
    → IsPrefix held log → IsPrefix (hall_log h ss one.at one.desk) log
    → IsPrefix (held ++ one.copy.entries) log
next_entries k h ss held log one gave from p q =
    let found = hall_copies k h ss one.at one.desk one.copy gave in
    let same : one.copy.entries ≡ entries_from (length held) (hall_log h ss one.at one.desk) =
    subst (λ (p : ℕ). one.copy.entries ≡ entries_from p (hall_log h ss one.at one.desk)) from
    found.1 in
    subst (λ (es : List Entry). IsPrefix (held ++ es) log) (sym same)
    (goes_on_with held log (hall_log h ss one.at one.desk) 400 p q)

more_given : {K : Type 0} (h : Hall K) (ss : List (HallStep K)) (one : Given) (more : List Given)
    (es : List Entry) → BeginsALog h ss more es → BeginsALog h ss (one ∷ more) es
more_given h ss one more es b =
    record { place = suc b.place; one = b.one; here = b.here; begins = b.begins }

-- these entries begin this log, or that of a desk that gave one of the answers
abbrev Begin : {K : Type 0} → Hall K → List (HallStep K) → List Given → List Entry → List Entry
    → Type 0
Begin h ss given es log = IsPrefix es log ⊎ BeginsALog h ss given es

-- what begins a log still begins it later, or another one's
begins_on : {K : Type 0} (k : Ghosts K) → HallLogsAgree k → (n : ℕ) (h : Hall K)
    (ss : List (HallStep K)) → IsHallRun k n h ss → (held : List Entry) (given : List Given)
    (i d : ℕ) → IsDesk n d → IsPrefix held (hall_log h ss i d) → AreCollected k n h ss held given
    → Begin h ss given (collected held given) (hall_log h ss i d)
begins_on k agree n h ss run held [] i d ours p is = inl p
begins_on k agree n h ss run held (one ∷ more) i d ours p is =
    let mine : List Entry = hall_log h ss i d in
    let its : List Entry = hall_log h ss one.at one.desk in
    let next : List Entry = held ++ one.copy.entries in
    go (collected next more) mine its (λ q. begins_on k agree n h ss run next more i d ours
    (next_entries k h ss held mine one is.1 is.2 p q) is.3) (λ q.
    begins_on k agree n h ss run next more one.at one.desk is.0
    (next_entries k h ss held its one is.1 is.2 (prefix_trans held mine its p q)
    (prefix_self its)) is.3) (agree n h ss one.at i one.desk d run is.0 ours)
  where
    stays : (es mine : List Entry) → Begin h ss more es mine → Begin h ss (one ∷ more) es mine
    stays es mine (inl q) = inl q
    stays es mine (inr b) = inr (more_given h ss one more es b)

    moves : (es : List Entry) → Begin h ss more es (hall_log h ss one.at one.desk)
        → BeginsALog h ss (one ∷ more) es
    moves es (inl q) = record { place = zero; one = one; here = refl; begins = q }
    moves es (inr b) = more_given h ss one more es b

    go : (es mine its : List Entry) → (IsPrefix its mine → Begin h ss more es mine)
        → (IsPrefix mine its → Begin h ss more es (hall_log h ss one.at one.desk))
        → IsPrefix its mine ⊎ IsPrefix mine its → Begin h ss (one ∷ more) es mine
    go es mine its shorter longer (inl q) = stays es mine (shorter q)
    go es mine its shorter longer (inr q) = inr (moves es (longer q))

pub hall_copies_begin_a_log : {K : Type 0} (k : Ghosts K) → HallLogsAgree k → HallCopiesBeginALog k
hall_copies_begin_a_log k agree n h ss [] run is = inl refl
hall_copies_begin_a_log k agree n h ss (one ∷ more) run is =
    inr (go (begins_on k agree n h ss run [] (one ∷ more) one.at one.desk is.0
    (hall_log h ss one.at one.desk, refl) is))
  where
    go : IsPrefix (collected [] (one ∷ more)) (hall_log h ss one.at one.desk)
        ⊎ BeginsALog h ss (one ∷ more) (collected [] (one ∷ more))
        → BeginsALog h ss (one ∷ more) (collected [] (one ∷ more))
    go (inl q) = record { place = zero; one = one; here = refl; begins = q }
    go (inr b) = b

-- what one desk gave
begins_its : {K : Type 0} (k : Ghosts K) → HallLogsGrow k → (n : ℕ) (h : Hall K)
    (ss : List (HallStep K)) → IsHallRun k n h ss → (held : List Entry) (given : List Given)
    (d j : ℕ) → IsPrefix held (hall_log h ss j d) → AreCollected k n h ss held given
    → AreOf d j given → IsPrefix (collected held given) (hall_log h ss j d)
begins_its k grow n h ss run held [] d j p is from = p
begins_its k grow n h ss run held (one ∷ more) d j p is from =
    begins_its k grow n h ss run (held ++ one.copy.entries) more d j
    (next_entries k h ss held (hall_log h ss j d) one is.1 is.2 p (subst
    (λ (f : ℕ). IsPrefix (hall_log h ss one.at one.desk) (hall_log h ss j f)) from.0
    (grow n h ss one.at j one.desk run is.0 from.1))) is.3 from.2

pub hall_copies_begin_its_log : {K : Type 0} (k : Ghosts K) → HallLogsGrow k
    → HallCopiesBeginItsLog k
hall_copies_begin_its_log k grow n h ss given d j run is from =
    begins_its k grow n h ss run [] given d j (hall_log h ss j d, refl) is from

-- each answer is of a desk of the hall
given_ours : {K : Type 0} (k : Ghosts K) (n : ℕ) (h : Hall K) (ss : List (HallStep K))
    (held : List Entry) (given : List Given) → AreCollected k n h ss held given
    → (place : ℕ) (one : Given) → slice_get given place ≡ Some one → IsDesk n one.desk
given_ours k n h ss held [] is place one here = absurd cc
given_ours k n h ss held (g ∷ more) is zero one here =
    let same : g ≡ one = cc in subst (λ (o : Given). IsDesk n o.desk) same is.0
given_ours k n h ss held (g ∷ more) is (suc place) one here =
    given_ours k n h ss (held ++ g.copy.entries) more is.3 place one here

pub hall_copies_agree : {K : Type 0} (k : Ghosts K) → HallLogsAgree k → HallCopiesAgree k
hall_copies_agree k agree n h ss given other run is are =
    go (hall_copies_begin_a_log k agree n h ss given run is)
    (hall_copies_begin_a_log k agree n h ss other run are)
  where
    mine : List Entry
    mine = collected [] given

    its : List Entry
    its = collected [] other

    both : (a : BeginsALog h ss given mine) (b : BeginsALog h ss other its)
        → IsPrefix (hall_log h ss a.one.at a.one.desk) (hall_log h ss b.one.at b.one.desk)
        ⊎ IsPrefix (hall_log h ss b.one.at b.one.desk) (hall_log h ss a.one.at a.one.desk)
        → IsPrefix mine its ⊎ IsPrefix its mine
    both a b (inl q) =
        let log = hall_log h ss b.one.at b.one.desk in
        fronts_agree mine its log
        (prefix_trans mine (hall_log h ss a.one.at a.one.desk) log a.begins q) b.begins
    both a b (inr q) =
        let log = hall_log h ss a.one.at a.one.desk in
        fronts_agree mine its log a.begins
        (prefix_trans its (hall_log h ss b.one.at b.one.desk) log b.begins q)

    go : (given ≡ []) ⊎ BeginsALog h ss given mine → (other ≡ []) ⊎ BeginsALog h ss other its
        → IsPrefix mine its ⊎ IsPrefix its mine
    go (inl none) y =
        inl (subst (λ (g : List Given). IsPrefix (collected [] g) its) (sym none) (its, refl))
    go (inr a) (inl none) =
        inr (subst (λ (g : List Given). IsPrefix (collected [] g) mine) (sym none) (mine, refl))
    go (inr a) (inr b) =
        both a b (agree n h ss a.one.at b.one.at a.one.desk b.one.desk run
        (given_ours k n h ss [] given is a.place a.one a.here)
        (given_ours k n h ss [] other are b.place b.one b.here))
