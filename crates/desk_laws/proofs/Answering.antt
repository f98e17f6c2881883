-- A client's question is answered, and its answer judged.
use Rattle.std.proofs.Common.{◌≡◌, ◌⊎◌, inl, inr, refl, sym, ap, subst, ◌∙◌, ℕ, ◌==◌, ◌&&◌, ◌<◌}
use Rattle.std.proofs.Common.{nat_lt, Bool, true, false, if◌then◌else◌, List, [], ◌∷◌, ◌++◌, length}
use Rattle.std.proofs.Common.{append_assoc, arith, Option, None, Some, Result}
use Rattle.std.proofs.lemmas.{Bool.Decides.nat_tests, Bool.and_from, Bool.and_parts}
use Rattle.std.proofs.lemmas.List.{append-nil, length-append}
use Rattle.std.specs.{Int.w32, Int.to_be_bytes, List.AllByRecursion, List.flat_map}
use Rattle.answers.specs.Seen.{Seen}
use Rattle.client.specs.Answers.{answers, fits, judged, judged_what}
use Rattle.client.specs.declared.fault.ClientFault.{ClientFault}
use Rattle.seal_laws.proofs.Hearing.{both_hear}
use Rattle.serving.specs.Answering.{answer_first, answer_of, copied, printed_as, said_in, sheet}
use Rattle.serving.specs.Answering.{refusal_of, state, told_what}
use Rattle.serving.specs.Asking.{is_ours, ours, request, strange}
use Rattle.serving.specs.Connection.{AreBegun, Begun, answer_bytes, answer_frame, asked, frames_of}
use Rattle.serving.specs.Connection.{framed_answer, serve_frame, serve_frames}
use Rattle.serving.specs.{Differing.withheld, Nodes.Fate, Nodes.Goes, Nodes.Starves, Nodes.Breaks}
use Rattle.serving.specs.Permissions.{admits, permitted, turned_away}
use Rattle.serving.specs.Serving.{answer, begun as before, first_fate, reply_to, served}
use Rattle.serving.specs.declared.{calls.NodeAnswer.NodeAnswer, permission.Permission.Permission}
use Rattle.serving.specs.declared.calls.NodeAnswer.TheVariants.{Taken, Refused}
use Rattle.serving.specs.declared.request.Request.{Request, TheVariants.Denied}
use Rattle.serving.specs.declared.request.Request.TheVariants.{Entered, Asked, Printed, Ticked}
use Rattle.serving.specs.declared.request.Request.TheVariants.{Stopped, Inspected, Copied, Strange}
use Rattle.acceptor.specs.declared.entry.Entry.{Entry}
use Rattle.store.specs.declared.home.Home.{Home}
use Rattle.wire.{specs.Numbers.refusal_in, proofs.Streams.prefix_free}
use Rattle.wire.specs.Ranges.{FromClient, IsFrame, Way, way_of}
use Rattle.wire.specs.Spelling.{inside, spelling}
use Rattle.wire.specs.declared.frame.{Frame.Frame, FrameBody.FrameBody}
use Rattle.wire.specs.declared.{standing.Difference.Difference, values.Version.Version}
use Rattle.wire.specs.declared.values.{ClientRefusal.ClientRefusal, CommandState.CommandState}
use Rattle.desk_laws.specs.Questions.{Answers, AnswersAreJudged, IsAnswered, IsJudged, LogIsAsked}
use Rattle.desk_laws.specs.Questions.{QuestionsAreAnswered, QuestionsAreTaken, QuestionsUnderAKey}
use Rattle.desk_laws.specs.Questions.{log_asked, log_given}
use Rattle.learner.specs.declared.event.DeskEvent.TheVariants as event
use Rattle.wire.specs.declared.frame.FrameBody.TheVariants as what
use Rattle.wire.specs.declared.values.ClientRefusal.TheVariants as refusal

-- ---- what a question is answered with

-- a refusal, or what was asked for
abbrev IsRefusal : FrameBody → Type 0
IsRefusal w = (r : ClientRefusal) × (w ≡ what.Refused r)

abbrev Suits : FrameBody → FrameBody → Type 0
Suits q w = IsRefusal w ⊎ (fits q w ≡ true)

-- in each version
abbrev SuitsIn : FrameBody → FrameBody → Type 0
SuitsIn q w = (version : Version) → Suits q (said_in version w)

abbrev IsSuited : FrameBody → Option FrameBody → Type 0
IsSuited q None = ⊥
IsSuited q (Some w) = SuitsIn q w

refused : (q : FrameBody) (r : ClientRefusal) → SuitsIn q (what.Refused r)
refused q r version = inl (refusal_in version r, refl)

first_suits : (q good : FrameBody) (a : NodeAnswer) (x : Seen) → SuitsIn q good
    → SuitsIn q (answer_first good a x)
first_suits q good (Refused why) x h = refused q (refusal_of why)
first_suits q good Taken x h = go x.is_down
  where
    go : (down : Bool) → SuitsIn q (if down then what.Refused refusal.Down else good)
    go true = refused q refusal.Down
    go false = h

taken_suits : (e : Entry) → SuitsIn (what.Submit e) (what.Taken e.id)
taken_suits e version = let same : (e.id == e.id) ≡ true = grind (arith, nat_tests) in inr same

told_suits : (id : ℕ) (fate : Fate) (s : CommandState) → SuitsIn (what.Ask id) (told_what id fate s)
told_suits id Goes s version = let same : (id == id) ≡ true = grind (arith, nat_tests) in inr same
told_suits id Starves s version = refused (what.Ask id) refusal.NoMemory version
told_suits id Breaks s version = refused (what.Ask id) refusal.NoMemory version

sheet_suits : (q : FrameBody) (far : Bool) (fate : Fate) (text : Option (List ℕ))
    → ((bytes : List ℕ) → fits q (what.SheetText bytes) ≡ true)
    → SuitsIn q (if far then what.Refused refusal.NotThere else printed_as fate text)
sheet_suits q true fate text is = refused q refusal.NotThere
sheet_suits q false Goes None is = refused q refusal.NoSuchRound
sheet_suits q false Goes (Some bytes) is = λ version. inr (is bytes)
sheet_suits q false Starves text is = refused q refusal.NoMemory
sheet_suits q false Breaks text is = refused q refusal.NoMemory

log_suits : (x : Seen) (fate : Fate) (position : ℕ)
    → SuitsIn (what.Log position) (copied x fate position)
log_suits x Goes position version =
    let same : (position == position) ≡ true = grind (arith, nat_tests) in inr same
log_suits x Starves position version = refused (what.Log position) refusal.NoMemory version
log_suits x Breaks position version = refused (what.Log position) refusal.NoMemory version

-- ---- a question that names the desk

abbrev from_client : Way → Bool
from_client FromClient = true
from_client _ = false

-- no question goes another way
no_question : (w : Way) → w ≡ FromClient → from_client w ≡ false → ⊥
no_question w is other = let bad : true ≡ false = sym (ap from_client is) ∙ other in cc

module _ (home : Home) (x : Seen) (fates : List Fate) where
  -- what a request is answered, where a desk differs or none does
  abbrev IsSuitedAt : Option Difference → FrameBody → Request → Type 0
  IsSuitedAt differs q r = IsSuited q (answer home x fates (withheld differs r))

  denied_suits : (differs : Option Difference) (q : FrameBody) → IsSuitedAt differs q Denied
  denied_suits None q = refused q refusal.NotAllowed
  denied_suits (Some d) q = refused q refusal.NotAllowed

  entered_suits : (differs : Option Difference)
      (e : Entry) → IsSuitedAt differs (what.Submit e) (Entered e)
  entered_suits None e =
      first_suits (what.Submit e) (what.Taken e.id)
      (answer_of (reply_to home (event.Submit e) (before x fates)).result)
      (served home x fates (Entered e)).seen (taken_suits e)
  entered_suits (Some d) e = refused (what.Submit e) refusal.HallDiffers

  -- it is taken as what it says, or turned away
  by_turns : (differs : Option Difference)
      (q : FrameBody) (r : Request) (may : Bool) → turned_away r ≡ Denied → IsSuitedAt differs q r
      → IsSuitedAt differs q (if may then r else turned_away r)
  by_turns differs q r true away own = own
  by_turns differs q r false away own =
      subst (λ (p : Request). IsSuitedAt differs q p) (sym away) (denied_suits differs q)

  -- what none but an entry is withheld for
  both : (differs : Option Difference)
      (q : FrameBody) (r : Request) → ((d : Difference) → withheld (Some d) r ≡ r)
      → IsSuited q (answer home x fates r) → IsSuitedAt differs q r
  both None q r same own = own
  both (Some d) q r same own =
      subst (λ (p : Request). IsSuited q (answer home x fates p)) (sym (same d)) own

  stands : (differs : Option Difference) → IsSuitedAt differs what.Status (Inspected None)
  stands None = λ version. inr refl
  stands (Some d) = λ version. inr refl

  suited : (differs : Option Difference) (q : FrameBody)
      (from to : ℕ) (may : Bool) → way_of q ≡ FromClient → IsSuitedAt differs q
      (if may then ours from to q else turned_away (ours from to q))
  suited differs (what.Submit e) from to may way =
      by_turns differs (what.Submit e) (Entered e) may refl (entered_suits differs e)
  suited differs (what.Ask id) from to may way =
      by_turns differs (what.Ask id) (Asked id) may refl
      (both differs (what.Ask id) (Asked id) (λ d. refl)
      (told_suits id (first_fate fates) (state x id)))
  suited differs (what.Await id seconds) from to may way =
      by_turns differs (what.Await id seconds) (Asked id) may refl
      (both differs (what.Await id seconds) (Asked id) (λ d. refl)
      (told_suits id (first_fate fates) (state x id)))
  suited differs (what.Sheet sport round position style) from to may way =
      by_turns differs (what.Sheet sport round position style)
      (Printed sport round position style) may refl
      (both differs (what.Sheet sport round position style)
      (Printed sport round position style) (λ d. refl)
      (sheet_suits (what.Sheet sport round position style) (nat_lt (length x.desk.log) position)
      (first_fate fates) (sheet x sport round position style) (λ bytes. refl)))
  suited differs what.Tick from to may way =
      by_turns differs what.Tick Ticked may refl (both differs what.Tick Ticked (λ d. refl)
      (first_suits what.Tick what.Fine (answer_of (reply_to home event.Tick (before x fates)).result)
      (served home x fates Ticked).seen (λ version. inr refl)))
  suited differs what.Stop from to may way =
      by_turns differs what.Stop Stopped may refl
      (both differs what.Stop Stopped (λ d. refl) (λ version. inr refl))
  suited differs what.Status from to may way =
      by_turns differs what.Status (Inspected None) may refl (stands differs)
  suited differs (what.Log position) from to may way =
      by_turns differs (what.Log position) (Copied position) may refl
      (both differs (what.Log position) (Copied position) (λ d. refl)
      (log_suits x (first_fate fates) position))
  suited differs _ from to may way = absurd (no_question _ way refl)

-- ---- a question that names another desk

is_strange : (q : FrameBody) → way_of q ≡ FromClient → strange q ≡ Strange
is_strange (what.Submit e) way = refl
is_strange (what.Ask id) way = refl
is_strange (what.Sheet event round position style) way = refl
is_strange what.Tick way = refl
is_strange what.Stop way = refl
is_strange what.Status way = refl
is_strange (what.Log position) way = refl
is_strange (what.Await id seconds) way = refl
is_strange _ way = absurd (no_question _ way refl)

-- ---- judged

refusal_judged : (f given : Frame) → IsRefusal given.what
    → judged f given ≡ judged_what given.what true
refusal_judged f given it = go given.what it.1 (answers f given)
  where
    go : (w : FrameBody) → w ≡ what.Refused it.0 → (own : Bool)
        → judged_what w own ≡ judged_what w true
    go w is own =
        ap (λ (v : FrameBody). judged_what v own) is
        ∙ sym (ap (λ (v : FrameBody). judged_what v true) is)

suited_judged : (f given : Frame) → Suits f.what given.what → (given.hall == f.hall) ≡ true
    → (given.from == f.to) ≡ true → judged f given ≡ judged_what given.what true
suited_judged f given (inl it) hall from = refusal_judged f given it
suited_judged f given (inr good) hall from =
    ap (λ (own : Bool). judged_what given.what own)
    (and_from (given.hall == f.hall && given.from == f.to) (fits f.what given.what)
    (and_from (given.hall == f.hall) (given.from == f.to) hall from) good)

own_answer : (home : Home) (f : Frame) (w : Option FrameBody) → IsSuited f.what w
    → is_ours home f ≡ true → IsAnswered f (framed_answer f.version home w)
own_answer home f None good mine = absurd good
own_answer home f (Some w) good mine =
    let two = and_parts (f.hall == home.hall) (f.to == home.desk) mine in
    let hall : (home.hall == f.hall) ≡ true = grind (arith, nat_tests, two.0) in
    let from : (home.desk == f.to) ≡ true = grind (arith, nat_tests, two.1) in
    let given = answer_frame f.version home (said_in f.version w) in
    record {
      given = given;
      one = refl;
      so = suited_judged f given (good f.version) hall from;
    }

refused_answer : (home : Home) (f : Frame) (r : ClientRefusal)
    → IsAnswered f (framed_answer f.version home (Some (what.Refused r)))
refused_answer home f r =
    let given = answer_frame f.version home (said_in f.version (what.Refused r)) in
    record {
      given = given;
      one = refl;
      so = refusal_judged f given (refusal_in f.version r, refl);
    }

abbrev IsAnsweredAt : Home → Seen → Begun → Request → Type 0
IsAnsweredAt home x b r =
    IsAnswered b.frame (framed_answer b.frame.version home (answer home x b.fates r))

strange_answer : (home : Home) (x : Seen) (b : Begun) (may : Bool) (differs : Option Difference)
    → IsAnsweredAt home x b (withheld differs (if may then Strange else turned_away Strange))
strange_answer home x b true None = refused_answer home b.frame refusal.Foreign
strange_answer home x b true (Some d) = refused_answer home b.frame refusal.Foreign
strange_answer home x b false None = refused_answer home b.frame refusal.NotAllowed
strange_answer home x b false (Some d) = refused_answer home b.frame refusal.NotAllowed

pub answers_are_judged : AnswersAreJudged
unfolding serve_frame
answers_are_judged home x b way = go (is_ours home b.frame) refl
  where
    f : Frame
    f = b.frame

    of_request : Request → Request
    of_request r = withheld b.differs (permitted b.may r)

    by : Bool → Request
    by mine = if mine then ours f.from f.to f.what else strange f.what

    go : (mine : Bool) → is_ours home f ≡ mine → IsAnsweredAt home x b (asked home b)
    go true mine =
        subst (λ (t : Bool). IsAnsweredAt home x b (of_request (by t))) (sym mine)
        (own_answer home f (answer home x b.fates (of_request (ours f.from f.to f.what)))
        (suited home x b.fates b.differs f.what f.from f.to
        (admits b.may (ours f.from f.to f.what)) way) mine)
    go false other =
        subst (λ (t : Bool). IsAnsweredAt home x b (of_request (by t))) (sym other)
        (subst (λ (r : Request). IsAnsweredAt home x b (of_request r)) (sym (is_strange f.what way))
        (strange_answer home x b (admits b.may Strange) b.differs))

pub questions_are_taken : QuestionsAreTaken
questions_are_taken home b hall to all none =
    let mine : is_ours home b.frame ≡ true =
    and_from (b.frame.hall == home.hall) (b.frame.to == home.desk)
    (let same : (b.frame.hall == home.hall) ≡ true = grind (arith, nat_tests, hall) in same)
    (let same : (b.frame.to == home.desk) ≡ true = grind (arith, nat_tests, to) in same) in
    ap (λ (d : Option Difference). withheld d (permitted b.may (request home b.frame))) none
    ∙ ap (λ (may : Permission). permitted may (request home b.frame)) all
    ∙ ap
    (λ (t : Bool). if t then ours b.frame.from b.frame.to b.frame.what else strange b.frame.what)
    mine

-- ---- bytes

pub long : (f : Frame) → 0 < length (spelling f)
long f =
    let four : length (to_be_bytes w32 (length (inside f))) ≡ 4 = refl in
    omega (arith, four, length-append (to_be_bytes w32 (length (inside f))) (inside f))

-- of these frames the bytes are a front part of one frame's
alone : (f : Frame) (begun : List Begun) (came lost rest : List ℕ) → IsFrame f
    → spelling f ≡ came ++ lost → AreBegun came begun rest
    → (begun ≡ []) ⊎ ((b : Begun) × (begun ≡ b ∷ []) × (b.frame ≡ f))
alone f [] came lost rest good is a = inl refl
alone f (b ∷ bs) came lost rest good is a =
    let later = flat_map spelling (frames_of bs) ++ rest in
    let stream : spelling b.frame ++ (later ++ lost) ≡ spelling f ++ [] =
    sym (append_assoc (spelling b.frame) later lost)
    ∙ ap (λ (s : List ℕ). s ++ lost)
    (sym (append_assoc (spelling b.frame) (flat_map spelling (frames_of bs)) rest) ∙ sym a.whole)
    ∙ sym is ∙ sym (append-nil (spelling f)) in
    let two = prefix_free b.frame f (later ++ lost) [] a.each.0 good stream in
    inr (b, ap (λ (xs : List Begun). b ∷ xs) (none bs two.1), two.0)
  where
    none : (xs : List Begun) → (flat_map spelling (frames_of xs) ++ rest) ++ lost ≡ [] → xs ≡ []
    none [] h = refl
    none (x ∷ xs) h =
        let both = ap (λ (s : List ℕ). length s) h in
        absurd (omega (
          arith,
          both,
          long x.frame,
          length-append (spelling x.frame) (flat_map spelling (frames_of xs)),
          length-append (spelling x.frame ++ flat_map spelling (frames_of xs)) rest,
          length-append ((spelling x.frame ++ flat_map spelling (frames_of xs)) ++ rest) lost,
        ))

-- no frame is first in nothing
nothing_first : (f : Frame) (bytes more rest : List ℕ) → [] ≡ bytes ++ more
    → bytes ≡ spelling f ++ rest → ⊥
nothing_first f bytes more rest none first =
    let all = ap (λ (s : List ℕ). length s) none in
    let front = ap (λ (s : List ℕ). length s) first in
    omega (
      arith,
      all,
      front,
      long f,
      length-append bytes more,
      length-append (spelling f) rest,
    )

answered_alone : (home : Home) (x : Seen) (f : Frame) (b : Begun) (bytes more : List ℕ)
    (result : Result FrameBody ClientFault) → way_of f.what ≡ FromClient → b.frame ≡ f
    → AllByRecursion IsFrame (serve_frame home x b).answers
    → answer_bytes (serve_frame home x b).answers ≡ bytes ++ more → IsJudged result f bytes
    → Answers home x f (b ∷ []) result
answered_alone home x f b bytes more result way same each said j =
    let it = answers_are_judged home x b
    (subst (λ (g : Frame). way_of g.what ≡ FromClient) (sym same) way) in
    let heard = j.1 in
    let good : IsFrame it.given =
    (subst (λ (fs : List Frame). AllByRecursion IsFrame fs) it.one each).0 in
    let stream : spelling j.0 ++ (heard.rest ++ more) ≡ spelling it.given ++ [] =
    sym (append_assoc (spelling j.0) heard.rest more)
    ∙ ap (λ (s : List ℕ). s ++ more) (sym heard.first) ∙ sym said
    ∙ ap (λ (fs : List Frame). answer_bytes fs) it.one in
    let is = (prefix_free j.0 it.given (heard.rest ++ more) [] heard.spelled good stream).0 in
    record {
      b = b;
      alone = refl;
      same = same;
      given = it.given;
      one = it.one;
      gives =
          sym j.2 ∙ ap (λ (g : Frame). judged f g) is
          ∙ ap (λ (g : Frame). judged g it.given) (sym same) ∙ it.so;
    }

pub questions_are_answered : QuestionsAreAnswered
questions_are_answered home x f came lost rest begun heard more result t is said =
    go (alone f begun came lost rest t.question is t.served)
  where
    go : (begun ≡ []) ⊎ ((b : Begun) × (begun ≡ b ∷ []) × (b.frame ≡ f))
        → Answers home x f begun result
    go (inl none) =
        absurd (nothing_first t.judges.0 heard more t.judges.1.rest
        (sym (ap (λ (bs : List Begun). answer_bytes (serve_frames home x bs).answers) none) ∙ said)
        t.judges.1.first)
    go (inr it) =
        let one = it.1 in
        let answers = (serve_frame home x it.0).answers in
        let all : (serve_frames home x begun).answers ≡ answers =
        ap (λ (bs : List Begun). (serve_frames home x bs).answers) one ∙ append-nil answers in
        subst (λ (bs : List Begun). Answers home x f bs result) (sym one)
        (answered_alone home x f it.0 heard more result t.client it.2
        (subst (λ (fs : List Frame). AllByRecursion IsFrame fs) all t.spelled)
        (sym (ap (λ (fs : List Frame). answer_bytes fs) all) ∙ said) t.judges)

-- ---- under a key

pub questions_under_a_key : QuestionsUnderAKey
questions_under_a_key caller desk home x f came rest begun heard result t m =
    let said = answer_bytes (serve_frames home x begun).answers in
    let both = both_hear caller desk (spelling f) came said heard m in
    questions_are_answered home x f came [] rest begun heard [] result t
    (sym (append-nil came ∙ both.questions)) (sym (append-nil heard ∙ both.answers))

-- ---- there are such questions

pub log_is_asked : LogIsAsked
unfolding serve_frame
log_is_asked =
    let given : IsFrame log_given =
    record {
      hall = omega arith;
      goes = ((omega arith, omega arith), refl);
      body = (
        omega arith,
        record {
          from = omega arith;
          log = omega arith;
          most = omega arith;
          within = inl refl;
          each = tt;
        },
      );
    } in
    let question : IsFrame log_asked =
    record {
      hall = omega arith;
      goes = (refl, (omega arith, omega arith));
      body = (omega arith, omega arith);
    } in
    record {
      question = question;
      client = refl;
      served =
          record {
            whole =
                sym (append-nil (spelling log_asked ++ []) ∙ append-nil (spelling log_asked));
            each = (question, tt);
          };
      spelled = (given, tt);
      judges = (
        log_given,
        record { rest = []; spelled = given; first = sym (append-nil (spelling log_given)) },
        refl,
      );
    }
