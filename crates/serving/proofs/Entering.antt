-- An entry that is handed in, and Start behind it.
use Rattle.std.proofs.Common.{◌≡◌, refl, sym, ap, subst, ◌∙◌, List, [], ◌∷◌, Option, Some}
use Rattle.std.proofs.{Common.Result, Common.Ok, Common.Err, lemmas.List.append-nil}
use Rattle.acceptor.specs.declared.{entry.Entry.Entry, message.Message.Message}
use Rattle.learner.specs.declared.event.DeskEvent.{TheVariants.Submit, TheVariants.Start}
use Rattle.replica.specs.declared.roles.fault.NodeFault.{NodeFault}
use Rattle.store.specs.declared.home.Home.{Home}
use Rattle.wire.specs.declared.frame.FrameBody.{FrameBody}
use Rattle.serving.specs.{Adding.Push, model.Requests.AnswersSome, model.Reaching.DoesPart}
use Rattle.serving.specs.Making.{Way, Outside, outside_of}
use Rattle.serving.specs.{Answering.answer_of, Answering.answer_first, Nodes.Fate, Nodes.reply}
use Rattle.serving.specs.model.Calling.{Calls, IsCall, LosesMessages}
use Rattle.answers.specs.Seen.{Seen}
use Rattle.serving.specs.model.Reaching.{at, service, Reaches, did_call, OnlyAdds, Did, Does}
use Rattle.serving.specs.Serving.{Service, call, push_all, entered_by, enter, waiting_after}
use Rattle.serving.specs.declared.{calls.NodeAnswer.NodeAnswer, request.Request.TheVariants.Entered}
use Rattle.serving.specs.declared.calls.NodeAnswer.TheVariants.{Taken, Refused}
use Rattle.serving.proofs.Additions.{adds_both, adds_call, adds_push}
use Rattle.serving.proofs.Makings.{Makes-trans, Makes-call}
use Rattle.serving.proofs.{Parts.part_of, Reached.goes_on, Reached.calls_once}
use Rattle.serving.proofs.{Answered.took, Answered.took_calls, Answered.answers_by}
use Rattle.replica.specs.declared.roles.fault.NodeFault.TheVariants as fault
use Rattle.wire.specs.declared.frame.FrameBody.TheVariants as what

-- Start and all that comes of it
abbrev pub starts : Home → Service → Service
starts home s = push_all (call home Start s)

-- what the node answered, from what is seen of it
taken_of : (r : Result (List Message) NodeFault) → answer_of r ≡ Taken
    → (ms : List Message) × (r ≡ Ok ms)
taken_of (Ok ms) e = (ms, refl)
taken_of (Err why) e = absurd (let k : Refused why ≡ Taken = e in cc)

refused_of : (r : Result (List Message) NodeFault) → (answer_of r ≡ Taken → ⊥)
    → (why : NodeFault) × (r ≡ Err why)
refused_of (Ok ms) e = absurd (e refl)
refused_of (Err why) e = (why, refl)

-- the entry was taken, and Start is to follow, or it was refused
enters : (home : Home) (e : Entry) (fate : Fate) (x y : Seen) (more : List Message)
    (r : Result (List Message) NodeFault) (answer : NodeAnswer)
    → Calls home (Submit e) fate x y [] more answer → (reply home x (Submit e) fate).result ≡ r
    → Reaches home (enter home e) (at x []) (λ s. entered_by home r s) (at y more)
    (did_call home (Submit e) fate x ∷ []) (fate ∷ [])
unfolding enter call
enters home e fate x y more r answer c is =
    let once = calls_once home (entered_by home r) (Submit e) fate x y [] more answer c in
    record {
      steps = λ done later.
          ap (λ z. entered_by home z (call home (Submit e) (service (at x []) done (fate ∷ later))))
          is
          ∙ once.steps done later;
      calls = once.calls;
    }

adds_entered : (home : Home) (r : Result (List Message) NodeFault) → OnlyAdds (entered_by home r)
adds_entered home (Ok ms) s =
    adds_both (call home Start) push_all (adds_call home Start) adds_push s
adds_entered home (Err why) s = ([], sym (append-nil s.done))

-- memory was refused in the call that hands the entry in
pub entered_lost : {V : Type 0} (way : Way V) (home h : Home) (e : Entry) (x y : Seen) (u v : V)
    (p : Option (List Push)) → h ≡ home
    → (fate : Fate) × LosesMessages h (Submit e) fate x y × IsCall way.handles h
    (Submit e) fate x u v
    → DoesPart home (enter home e) (at x []) y (outside_of way u p) (outside_of way v p)
entered_lost way home h e x y u v p same l =
    let k = subst (λ z. LosesMessages z (Submit e) l.0 x y) same l.1 in
    let r = (reply home x (Submit e) l.0).result in (
      did_call home (Submit e) l.0 x ∷ [],
      l.0 ∷ [],
      entered_by home r,
      at y (waiting_after [] r),
      record {
        reaches =
            enters home e l.0 x y (waiting_after [] r) r (answer_of r)
            (record { answer_is = refl; seen = k.seen; waits = refl }) refl;
        adds = adds_entered home r;
        last = refl;
        made = Makes-call way home h (Submit e) l.0 x u v p same l.2;
      },
    )

-- memory was refused behind it
pub entered_part : {V : Type 0} (way : Way V) (home h : Home) (e : Entry) (x y shown : Seen)
    (ms more : List Message) (answer : NodeAnswer) (u v : V) (p : Option (List Push))
    (b : Outside way) → h ≡ home → ms ≡ [] → answer ≡ Taken
    → (fate : Fate) × Calls h (Submit e) fate x y ms more answer
    × IsCall way.handles h (Submit e) fate x u v
    → DoesPart home (starts home) (at y more) shown (outside_of way v p) b
    → DoesPart home (enter home e) (at x []) shown (outside_of way u p) b
entered_part way home h e x y shown ms more answer u v p b same none taken called d =
    let c =
    subst (λ u. Calls home (Submit e) called.0 x y u more answer) none
    (subst (λ u. Calls u (Submit e) called.0 x y ms more answer) same called.1) in
    let ok = taken_of (reply home x (Submit e) called.0).result (sym c.answer_is ∙ taken) in
    let first = did_call home (Submit e) called.0 x ∷ [] in
    part_of home (enter home e) (starts home) d.2 (at x []) (at y more) d.3 first d.0
    (called.0 ∷ []) d.1 shown (outside_of way u p) b
    (enters home e called.0 x y more (Ok ok.0) answer c ok.1) d.4.reaches d.4.adds d.4.last
    (Makes-trans home.hall (outside_of way u p) (outside_of way v p) b first d.0
    (Makes-call way home h (Submit e) called.0 x u v p same called.2) d.4.made)

-- the entry was taken, and all that comes of it done
pub entered_all : {V : Type 0} (way : Way V) (home h : Home) (e : Entry) (x y z : Seen)
    (ms more rest : List Message) (answer : NodeAnswer) (w : FrameBody) (u v : V)
    (p : Option (List Push)) (b : Outside way) → h ≡ home → ms ≡ [] → rest ≡ [] → answer ≡ Taken
    → (fate : Fate) × Calls h (Submit e) fate x y ms more answer
    × IsCall way.handles h (Submit e) fate x u v
    → Does home (starts home) (at y more) (at z rest) (outside_of way v p) b
    → w ≡ answer_first (what.Taken e.id) answer z
    → AnswersSome home x z (Entered e) (Some w) (outside_of way u p) b
entered_all way home h e x y z ms more rest answer w u v p b same none empty taken called does
    is =
    let c =
    subst (λ u. Calls home (Submit e) called.0 x y u more answer) none
    (subst (λ u. Calls u (Submit e) called.0 x y ms more answer) same called.1) in
    let ok = taken_of (reply home x (Submit e) called.0).result (sym c.answer_is ∙ taken) in
    let a = outside_of way u p in
    let m = outside_of way v p in
    let first = did_call home (Submit e) called.0 x in
    let d =
    subst (λ u. Did home (starts home) (at y more) (at z u) does.0 does.1 m b) empty
    does.2 in
    let reaches =
    goes_on home (enter home e) (starts home) (λ s. s) (at x []) (at y more) (at z [])
    (first ∷ []) does.0 (called.0 ∷ []) does.1
    (enters home e called.0 x y more (Ok ok.0) answer c ok.1) d.reaches in
    let all =
    took home (enter home e) x z (first ∷ does.0) (called.0 ∷ does.1) reaches in (
      called.0 ∷ does.1,
      answers_by home (Entered e) x z (first ∷ does.0) (called.0 ∷ does.1) (Some w)
          a b all
          (took_calls home (enter home e) x z (first ∷ does.0) (called.0 ∷ does.1)
          reaches)
          (Makes-trans home.hall a m b (first ∷ []) does.0
          (Makes-call way home h (Submit e) called.0 x u v p same called.2) d.made)
          (ap (λ v. Some v) is
          ∙ ap (λ v. Some (answer_first (what.Taken e.id) v z)) c.answer_is
          ∙ ap
          (λ (v : Service).
          Some
          (answer_first (what.Taken e.id) (answer_of (reply home x (Submit e) called.0).result)
          v.seen))
          (sym all)),
    )

none_wait : (why : NodeFault) → waiting_after [] (Err why) ≡ []
none_wait fault.Busy = refl
none_wait _ = refl

-- the entry was refused
pub entered_not : {V : Type 0} (way : Way V) (home h : Home) (e : Entry) (x y : Seen)
    (ms more : List Message) (answer : NodeAnswer) (w : FrameBody) (u v : V)
    (p : Option (List Push)) → h ≡ home → ms ≡ [] → (answer ≡ Taken → ⊥)
    → (fate : Fate) × Calls h (Submit e) fate x y ms more answer
    × IsCall way.handles h (Submit e) fate x u v → w ≡ answer_first (what.Taken e.id) answer y
    → AnswersSome home x y (Entered e) (Some w) (outside_of way u p) (outside_of way v p)
entered_not way home h e x y ms more answer w u v p same none other called is =
    let c =
    subst (λ u. Calls home (Submit e) called.0 x y u more answer) none
    (subst (λ u. Calls u (Submit e) called.0 x y ms more answer) same called.1) in
    let err = refused_of (reply home x (Submit e) called.0).result (λ k. other (c.answer_is ∙ k)) in
    let empty = c.waits ∙ ap (waiting_after []) err.1 ∙ none_wait err.0 in
    let first = did_call home (Submit e) called.0 x ∷ [] in
    let reaches =
    subst (λ u.
    Reaches home (enter home e) (at x []) (λ s. s) (at y u) first (called.0 ∷ [])) empty
    (enters home e called.0 x y more (Err err.0) answer c err.1) in
    let all = took home (enter home e) x y first (called.0 ∷ []) reaches in (
      called.0 ∷ [],
      answers_by home (Entered e) x y first (called.0 ∷ []) (Some w) (outside_of way u p)
          (outside_of way v p) all
          (took_calls home (enter home e) x y first (called.0 ∷ []) reaches)
          (Makes-call way home h (Submit e) called.0 x u v p same called.2)
          (ap (λ v. Some v) is
          ∙ ap (λ v. Some (answer_first (what.Taken e.id) v y)) c.answer_is
          ∙ ap
          (λ (v : Service).
          Some
          (answer_first (what.Taken e.id) (answer_of (reply home x (Submit e) called.0).result)
          v.seen))
          (sym all)),
    )
