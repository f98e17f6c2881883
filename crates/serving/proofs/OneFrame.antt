-- A frame: its request, the answer, and how it ends the connection.
use Rattle.std.proofs.Common.{◌≡◌, ◌≢◌, refl, sym, ap, subst, ◌∙◌, arith, ℕ, ◌^◌, ◌<◌, ◌≤◌, List}
use Rattle.std.proofs.Common.{[], Option, None, Some, IfSome}
use Rattle.std.{proofs.lemmas.List.append-nil, specs.Io.KnownBytes.Appends}
use Rattle.store.specs.declared.home.Home.{Home}
use Rattle.learner.specs.Steps.{IsDesk}
use Rattle.wire.specs.Ranges.{IsFrame, Goes, Way as Direction}
use Rattle.wire.specs.declared.{standing.Difference.Difference, values.Version.Version}
use Rattle.wire.specs.declared.frame.{Frame.Frame, FrameBody.FrameBody}
use Rattle.serving.specs.{Making.Way, Making.Outside, Nodes.Fate, Serving.served, Serving.answer}
use Rattle.serving.specs.Answering.{said_in, IsAnswer, IsAnswerIn}
use Rattle.serving.specs.Asking.{request, ending, close_by}
use Rattle.serving.specs.{Differing.withheld, Permissions.permitted, model.Writing.WriteEnds}
use Rattle.serving.specs.declared.{permission.Permission.Permission, request.Request.Request}
use Rattle.lines.specs.Bytes.{AppendsPart}
use Rattle.serving.specs.Connection.{FailsIn, serve_frame, close_of, answer_frame, framed_answer}
use Rattle.serving.specs.Connection.{ServesOne, answer_bytes, sides}
use Rattle.serving.specs.model.Requests.{Answers, AnswersSome, AnswersPart, FailsToAnswer}
use Rattle.answers.specs.Seen.{Seen}
use Rattle.serving.specs.declared.ends.{FrameEnd.FrameEnd, FrameFault.FrameFault}
use Rattle.serving.specs.declared.ends.FrameFault.TheVariants as fault

-- what is said of an answer, where there is one
pub some_is : (v : Version) {o : Option FrameBody} {w : FrameBody} → o ≡ Some w
    → IfSome o (IsAnswerIn v) → IsAnswerIn v w
some_is v is h = subst (λ z. IfSome z (IsAnswerIn v)) is h

-- an answer in each version is one in this version
pub in_version : (v : Version) {w : FrameBody} → IsAnswer w → IsAnswerIn v w
in_version v h = record { body = h.body v; way = h.way v }

-- an answer of a desk in a version is a frame of it
pub answer_is_frame : (v : Version) (home : Home) (w : FrameBody) → home.hall < 2 ^ 32
    → IsDesk home.desks home.desk → home.desks ≤ 5 → IsAnswerIn v w
    → IsFrame (answer_frame v home (said_in v w))
answer_is_frame v home w small ours few h = record {
  hall = small;
  goes = subst (λ (z : Direction). Goes z home.desk 0) (sym h.way)
      ((ours.0, omega (arith, ours.1, few)), refl);
  body = h.body;
}

-- the frame was served whole
pub serves : {V : Type 0} {way : Way V} (home : Home) (f : Frame) (may : Permission)
    (differs : Option Difference) (r : Request) (x y : Seen) (w : Option FrameBody)
    (close : Option FrameEnd) (o n : Option (List ℕ)) (a b : Outside way)
    → r ≡ withheld differs (permitted may (request home f)) → AnswersSome home x y r w a b
    → Appends o n (answer_bytes (framed_answer f.version home w)) → close ≡ close_by
    (ending r) y.is_down → (fates : List Fate) × ServesOne home (sides x o a) (sides y n b)
    (record { frame = f; may = may; differs = differs; fates = fates }) close
unfolding serve_frame close_of
serves home f may differs r x y w close o n a b is h written c =
    let g = subst (λ z. Answers home x y h.0 z w a b) is h.1 in (
      h.0,
      record {
        close =
            c ∙ ap (λ z. close_by (ending z) y.is_down) is
            ∙ ap (λ (z : Seen).
            close_by (ending (withheld differs (permitted may (request home f)))) z.is_down) g.node;
        answered =
            subst (λ z. Appends o n (answer_bytes (framed_answer f.version home z))) g.answer_is
            written;
        made = g.made;
        node = g.node;
      },
    )

answer_is_due : (v : Version) (home : Home) (w : Option FrameBody) → w ≢ None
    → framed_answer v home w ≢ []
answer_is_due v home None some none = some refl
answer_is_due v home (Some w) some none = absurd cc

-- the answer could not be written whole
pub answer_fails : {V : Type 0} {way : Way V} (home : Home) (f : Frame) (may : Permission)
    (differs : Option Difference) (r : Request) (x y : Seen) (w : Option FrameBody)
    (why : FrameFault) (o n : Option (List ℕ)) (a b : Outside way)
    → r ≡ withheld differs (permitted may (request home f)) → AnswersSome home x y r w a b
    → w ≢ None → WriteEnds why o n (answer_bytes (framed_answer f.version home w))
    → (fates : List Fate) × FailsIn why home (sides x o a) (sides y n b)
    (record { frame = f; may = may; differs = differs; fates = fates })
unfolding serve_frame
answer_fails home f may differs r x y w fault.Write o n a b is h some part =
    let g = subst (λ z. Answers home x y h.0 z w a b) is h.1 in (
      h.0,
      record {
        due =
            answer_is_due f.version home
            (answer home x h.0 (withheld differs (permitted may (request home f))))
            (λ none. some (g.answer_is ∙ none));
        answered =
            subst (λ z. AppendsPart o n (answer_bytes (framed_answer f.version home z))) g.answer_is
            part;
        made = g.made;
        node = g.node;
      },
    )
answer_fails home f may differs r x y w fault.NoMemory o n a b is h some none =
    let g = subst (λ z. Answers home x y h.0 z w a b) is h.1 in (
      h.0,
      (
        (served home x h.0 (withheld differs (permitted may (request home f)))).done,
        [],
        record {
          parts =
              sym (append-nil
              (served home x h.0 (withheld differs (permitted may (request home f)))).done);
          silent = none;
          made = g.made;
          node = g.calls;
        },
      ),
    )

-- memory was refused in its calls and pushes
pub request_fails : {V : Type 0} {way : Way V} (home : Home) (f : Frame) (may : Permission)
    (differs : Option Difference) (r : Request) (x y : Seen) (o n : Option (List ℕ))
    (a b : Outside way)
    → r ≡ withheld differs (permitted may (request home f)) → FailsToAnswer home x y r a b
    → Appends o n [] → (fates : List Fate) × FailsIn fault.NoMemory home (sides x o a) (sides y n b)
    (record { frame = f; may = may; differs = differs; fates = fates })
unfolding serve_frame
request_fails home f may differs r x y o n a b is h none =
    let g = subst (λ z. AnswersPart home x y h.0 z h.1 h.2 a b) is h.3 in
    (h.0, (h.1, h.2, record { parts = g.parts; silent = none; made = g.made; node = g.node }))
