-- Lists of acts, how a call's answer fits whether the node is down, and what was pushed by then.
use Rattle.learner.{proofs.Cases.by_test, specs.declared.event.DeskEvent.DeskEvent}
use Rattle.std.proofs.Common.{◌≡◌, refl, ap, ◌∙◌, ℕ, zero, suc, ◌⊎◌, inl, inr, Bool, true, false}
use Rattle.std.proofs.Common.{if◌then◌else◌, List, [], ◌∷◌, ◌++◌, map, drop, Result, Err, ◌+◌, ◌≤◌}
use Rattle.std.proofs.Common.{nat_lt, length, take, length-append, arith}
use Rattle.std.proofs.lemmas.List.{append-nil, append_assoc, take-append-le, take-append-drop}
use Rattle.std.proofs.lemmas.{List.take-map, List.take_all, Bool.Decides.nat_tests}
use Rattle.acceptor.specs.declared.message.Message.{Message}
use Rattle.answers.specs.Seen.{Seen}
use Rattle.learner.specs.Steps.{Done, step}
use Rattle.proposer.specs.declared.fault.Refusal.{Refusal}
use Rattle.replica.specs.declared.roles.fault.NodeFault.{NodeFault}
use Rattle.serving.specs.Nodes.{Fate, Goes, Starves, Breaks, by_step, by_fate, reply}
use Rattle.serving.specs.Serving.{Act, Called, Pushed, Answered, waiting_after}
use Rattle.store.specs.declared.home.Home.{Home}
use Rattle.hall_laws.specs.Pushing.{handed, said_by, pushed_messages, runs_pushed, says_down}
use Rattle.hall_laws.specs.{Pushing.after_down, Served.handed_out}
use Rattle.proposer.specs.declared.fault.Refusal.TheVariants as refusal
use Rattle.replica.specs.declared.roles.fault.NodeFault.TheVariants as fault

-- ---- lists of acts

pub handed_both : (xs ys : List Act) → handed (xs ++ ys) ≡ handed xs ++ handed ys
handed_both [] ys = refl
handed_both (Called e r ∷ xs) ys =
    cc (handed_both xs ys, append_assoc (handed_out r) (handed xs) (handed ys))
handed_both (Pushed m ∷ xs) ys = handed_both xs ys
handed_both (Answered run ∷ xs) ys = handed_both xs ys

pub pushed_both : (xs ys : List Act)
    → pushed_messages (xs ++ ys) ≡ pushed_messages xs ++ pushed_messages ys
pushed_both [] ys = refl
pushed_both (Called e r ∷ xs) ys = pushed_both xs ys
pushed_both (Pushed m ∷ xs) ys = ap (λ z. m ∷ z) (pushed_both xs ys)
pushed_both (Answered run ∷ xs) ys =
    cc (pushed_both xs ys, append_assoc (said_by run) (pushed_messages xs) (pushed_messages ys))

pub runs_both : (xs ys : List Act) → runs_pushed (xs ++ ys) ≡ runs_pushed xs ++ runs_pushed ys
runs_both [] ys = refl
runs_both (Called e r ∷ xs) ys = runs_both xs ys
runs_both (Pushed m ∷ xs) ys = runs_both xs ys
runs_both (Answered run ∷ xs) ys = ap (λ z. run ∷ z) (runs_both xs ys)

pub pushed_map : (ms : List Message) → pushed_messages (map (λ m. Pushed m) ms) ≡ ms
pushed_map [] = refl
pushed_map (m ∷ ms) = ap (λ z. m ∷ z) (pushed_map ms)

pub runs_map : (ms : List Message) → runs_pushed (map (λ m. Pushed m) ms) ≡ []
runs_map [] = refl
runs_map (m ∷ ms) = runs_map ms

-- from wherever they are read, these acts hand nothing out
abbrev pub HandNothing : List Act → Type 0
HandNothing acts = (k : ℕ) → handed (drop k acts) ≡ []

pub map_hands_nothing : (ms : List Message) → HandNothing (map (λ m. Pushed m) ms)
map_hands_nothing [] zero = refl
map_hands_nothing [] (suc k) = refl
map_hands_nothing (m ∷ ms) zero = map_hands_nothing ms zero
map_hands_nothing (m ∷ ms) (suc k) = map_hands_nothing ms k

pub one_hands_nothing : (act : Act) → handed (act ∷ []) ≡ [] → HandNothing (act ∷ [])
one_hands_nothing act h zero = h
one_hands_nothing act h (suc zero) = refl
one_hands_nothing act h (suc (suc k)) = refl

pub handed_same : (n : ℕ) (xs ys : List Act) → HandNothing ys
    → handed (drop n (xs ++ ys)) ≡ handed (drop n xs)
handed_same zero xs ys h =
    handed_both xs ys ∙ ap (λ z. handed xs ++ z) (h zero) ∙ append-nil (handed xs)
handed_same (suc n) [] ys h = h (suc n)
handed_same (suc n) (x ∷ xs) ys h = handed_same n xs ys h

-- ---- a call

-- how a call's answer fits whether the node is down before it and after it
abbrev pub Fits : Bool → Result (List Message) NodeFault → Bool → Type 0
Fits before (Err fault.Down) after = after ≡ true
Fits before _ after = (before ≡ false) × (after ≡ false)

step_fits : (home : Home) (event : DeskEvent) (x : Seen) (r : Result Done Refusal)
    → x.is_down ≡ false
    → Fits x.is_down (by_step home event x r).result (by_step home event x r).seen.is_down
step_fits home event x (Err refusal.Busy) up = (up, up)
step_fits home event x _ up = (up, up)

fate_fits : (home : Home) (x : Seen) (event : DeskEvent) (fate : Fate) → x.is_down ≡ false
    → Fits x.is_down (by_fate home x event fate).result (by_fate home x event fate).seen.is_down
fate_fits home x event Goes up = step_fits home event x (step home.desks home.desk x.desk event) up
fate_fits home x event Starves up = (up, up)
fate_fits home x event Breaks up = refl

pub reply_fits : (home : Home) (x : Seen) (event : DeskEvent) (fate : Fate)
    → Fits x.is_down (reply home x event fate).result (reply home x event fate).seen.is_down
reply_fits home x event fate = go x.is_down refl
  where
    go : (t : Bool) → x.is_down ≡ t → Fits x.is_down
        (if t then record { result = Err fault.Down; seen = x }
        else by_fate home x event fate).result
        (if t then record { result = Err fault.Down; seen = x }
        else by_fate home x event fate).seen.is_down
    go true is = is
    go false is = fate_fits home x event fate is

-- ---- at Down

-- a call among these said that the desk is down
abbrev pub has_down : List Act → Bool
has_down [] = false
has_down (Called e r ∷ acts) = if says_down r then true else has_down acts
has_down (Pushed m ∷ acts) = has_down acts
has_down (Answered run ∷ acts) = has_down acts

-- after a call that said so nothing was pushed, the desk is down, and nothing waits
pub record Quiet (acts : List Act) (down : Bool) (waiting : List Message) : Type 0 where
  pub after : pushed_messages (after_down acts) ≡ []
  pub stays : has_down acts ≡ true → (down ≡ true) × (waiting ≡ [])

after_both : (xs ys : List Act) → pushed_messages (after_down xs) ≡ []
    → (has_down xs ≡ true → pushed_messages ys ≡ []) → pushed_messages (after_down ys) ≡ []
    → pushed_messages (after_down (xs ++ ys)) ≡ []
after_both [] ys h k l = l
after_both (Called e r ∷ xs) ys h k l = go (says_down r) h k (λ a b. after_both xs ys a b l)
  where
    go : (t : Bool) → pushed_messages (if t then xs else after_down xs) ≡ []
        → ((if t then true else has_down xs) ≡ true → pushed_messages ys ≡ [])
        → (pushed_messages (after_down xs) ≡ [] → (has_down xs ≡ true → pushed_messages ys ≡ [])
        → pushed_messages (after_down (xs ++ ys)) ≡ [])
        → pushed_messages (if t then xs ++ ys else after_down (xs ++ ys)) ≡ []
    go true h k ih = pushed_both xs ys ∙ ap (λ z. z ++ pushed_messages ys) h ∙ k refl
    go false h k ih = ih h k
after_both (Pushed m ∷ xs) ys h k l = after_both xs ys h k l
after_both (Answered run ∷ xs) ys h k l = after_both xs ys h k l

has_either : (xs ys : List Act) → has_down (xs ++ ys) ≡ true
    → (has_down xs ≡ true) ⊎ (has_down ys ≡ true)
has_either [] ys h = inr h
has_either (Called e r ∷ xs) ys h = go (says_down r) h (λ k. has_either xs ys k)
  where
    go : (t : Bool) → (if t then true else has_down (xs ++ ys)) ≡ true
        → (has_down (xs ++ ys) ≡ true → (has_down xs ≡ true) ⊎ (has_down ys ≡ true))
        → ((if t then true else has_down xs) ≡ true) ⊎ (has_down ys ≡ true)
    go true h ih = inl refl
    go false h ih = ih h
has_either (Pushed m ∷ xs) ys h = has_either xs ys h
has_either (Answered run ∷ xs) ys h = has_either xs ys h

pub quiet_both : (xs ys : List Act) (before after : Bool) (waiting rest : List Message)
    → Quiet xs before waiting → pushed_messages (after_down ys) ≡ [] → (before ≡ true → waiting ≡ []
    → (pushed_messages ys ≡ []) × (after ≡ true) × (rest ≡ []))
    → (has_down ys ≡ true → (after ≡ true) × (rest ≡ [])) → Quiet (xs ++ ys) after rest
quiet_both xs ys before after waiting rest q h k l = record {
  after = after_both xs ys q.after (λ is. (k (q.stays is).0 (q.stays is).1).0) h;
  stays = λ is. go (has_either xs ys is);
}
  where
    go : (has_down xs ≡ true) ⊎ (has_down ys ≡ true) → (after ≡ true) × (rest ≡ [])
    go (inl is) = let both = k (q.stays is).0 (q.stays is).1 in (both.1, both.2)
    go (inr is) = l is

-- at a call
answer_was_down : (before after : Bool) (waiting : List Message)
    (r : Result (List Message) NodeFault)
    → Fits before r after → before ≡ true → (after ≡ true) × (waiting_after waiting r ≡ [])
answer_was_down before after waiting (Err fault.Down) fits is = (fits, refl)
answer_was_down before after waiting _ fits is = let up = fits.0 in absurd cc

answer_goes_down : (before after : Bool) (waiting : List Message) (event : DeskEvent)
    (r : Result (List Message) NodeFault)
    → Fits before r after → has_down (Called event r ∷ []) ≡ true
    → (after ≡ true) × (waiting_after waiting r ≡ [])
answer_goes_down before after waiting event (Err fault.Down) fits is = (fits, refl)
answer_goes_down before after waiting event _ fits is = absurd cc

none_after_call : (event : DeskEvent) (r : Result (List Message) NodeFault)
    → pushed_messages (after_down (Called event r ∷ [])) ≡ []
none_after_call event r =
    by_test (λ z. pushed_messages z ≡ []) (says_down r) _ _ (λ t. refl) (λ t. refl)

pub quiet_call : (acts : List Act) (before after : Bool) (waiting : List Message)
    (event : DeskEvent) (r : Result (List Message) NodeFault)
    → Fits before r after → Quiet acts before waiting
    → Quiet (acts ++ Called event r ∷ []) after (waiting_after waiting r)
quiet_call acts before after waiting event r fits q =
    quiet_both acts (Called event r ∷ []) before after waiting (waiting_after waiting r) q
    (none_after_call event r) (λ is none.
    let both = answer_was_down before after waiting r fits is in (refl, both.0, both.1))
    (answer_goes_down before after waiting event r fits)

-- at pushes
none_after_pushes : (ms : List Message) → pushed_messages (after_down (map (λ m. Pushed m) ms)) ≡ []
none_after_pushes [] = refl
none_after_pushes (m ∷ ms) = none_after_pushes ms

none_down : (ms : List Message) → has_down (map (λ m. Pushed m) ms) ≡ false
none_down [] = refl
none_down (m ∷ ms) = none_down ms

pub quiet_pushes : (acts : List Act) (down : Bool) (waiting ms rest : List Message)
    → (waiting ≡ [] → (ms ≡ []) × (rest ≡ [])) → Quiet acts down waiting
    → Quiet (acts ++ map (λ m. Pushed m) ms) down rest
quiet_pushes acts down waiting ms rest none q =
    quiet_both acts (map (λ m. Pushed m) ms) down down waiting rest q (none_after_pushes ms)
    (λ is empty. (pushed_map ms ∙ (none empty).0, is, (none empty).1))
    (λ is. let not_so = none_down ms in absurd cc)

-- where what waits is dropped
pub quiet_dropped : (acts : List Act) (down : Bool) (waiting : List Message)
    → Quiet acts down waiting → Quiet acts down []
quiet_dropped acts down waiting q =
    record { after = q.after; stays = λ is. ((q.stays is).0, refl) }

-- ---- At any moment what was pushed is a front part of what was handed out by then.

-- after any k acts; the first n acts hand out what is left out
abbrev pub InTime : ℕ → List Act → Type 0
InTime n acts =
    (k : ℕ) → (rest : List Message)
    × (pushed_messages (take k acts) ++ rest ≡ (handed (drop n (take k acts))))

-- what holds of some acts holds of equal ones
moved : (n : ℕ) (xs ys : List Act) (rest : List Message) → xs ≡ ys
    → pushed_messages ys ++ rest ≡ (handed (drop n ys))
    → pushed_messages xs ++ rest ≡ (handed (drop n xs))
moved n xs ys rest same h = cc

within : (k n : ℕ) → (k ≤ n) ⊎ (n + 1 ≤ k)
within k n = go (nat_lt n k) refl
  where
    go : (t : Bool) → nat_lt n k ≡ t → (k ≤ n) ⊎ (n + 1 ≤ k)
    go true is = inr (grind (arith, nat_tests))
    go false is = inl (grind (arith, nat_tests))

-- one act more
pub in_time_one : (n : ℕ) (acts : List Act) (act : Act) (rest : List Message) → InTime n acts
    → pushed_messages (acts ++ act ∷ []) ++ rest ≡ (handed (drop n (acts ++ act ∷ [])))
    → InTime n (acts ++ act ∷ [])
in_time_one n acts act rest h all k = go (within k (length acts))
  where
    go : (k ≤ length acts) ⊎ (length acts + 1 ≤ k) → (rest : List Message)
        × (pushed_messages (take k (acts ++ act ∷ [])) ++ rest
        ≡ (handed (drop n (take k (acts ++ act ∷ [])))))
    go (inl less) = ((h k).0, moved n _ _ _ (take-append-le k acts (act ∷ []) less) (h k).1)
    go (inr more) = (
      rest,
      moved n (take k (acts ++ act ∷ [])) (acts ++ act ∷ []) rest
          (take_all k (acts ++ act ∷ []) (omega (arith, length-append acts (act ∷ [])))) all,
    )

take_past : (k : ℕ) (xs ys : List Act) → length xs ≤ k
    → (j : ℕ) × (take k (xs ++ ys) ≡ xs ++ take j ys)
take_past k [] ys long = (k, refl)
take_past zero (x ∷ xs) ys long = absurd (omega arith)
take_past (suc k) (x ∷ xs) ys long =
    let past = take_past k xs ys (omega arith) in (past.0, ap (λ z. x ∷ z) past.1)

-- a front part of pushes
pushed_so_far : (n : ℕ) (acts : List Act) (ms rest : List Message) (j : ℕ)
    → (pushed_messages acts ++ ms) ++ rest ≡ (handed (drop n acts))
    → pushed_messages (acts ++ map (λ m. Pushed m) (take j ms)) ++ (drop j ms ++ rest)
    ≡ (handed (drop n (acts ++ map (λ m. Pushed m) (take j ms))))
pushed_so_far n acts ms rest j all =
    let front : List Act = map (λ m. Pushed m) (take j ms) in
    let p : List Message = pushed_messages acts in
    let pushes = pushed_both acts front ∙ ap (λ z. p ++ z) (pushed_map (take j ms)) in
    cc (
      append_assoc (p ++ take j ms) (drop j ms) rest,
      append_assoc p (take j ms) (drop j ms),
      take-append-drop j ms,
      handed_same n acts front (map_hands_nothing (take j ms)),
    )

pub in_time_pushes : (n : ℕ) (acts : List Act) (ms rest : List Message) → InTime n acts
    → (pushed_messages acts ++ ms) ++ rest ≡ (handed (drop n acts))
    → InTime n (acts ++ map (λ m. Pushed m) ms)
in_time_pushes n acts ms rest h all k = go (within k (length acts))
  where
    go : (k ≤ length acts) ⊎ (length acts + 1 ≤ k) → (rest : List Message)
        × (pushed_messages (take k (acts ++ map (λ m. Pushed m) ms)) ++ rest
        ≡ (handed (drop n (take k (acts ++ map (λ m. Pushed m) ms)))))
    go (inl less) = (
      (h k).0,
      moved n (take k (acts ++ map (λ m. Pushed m) ms)) (take k acts) (h k).0
          (take-append-le k acts (map (λ m. Pushed m) ms) less) (h k).1,
    )
    go (inr more) =
        let past = take_past k acts (map (λ m. Pushed m) ms) (omega arith) in
        let same =
        past.1 ∙ ap (λ z. acts ++ z) (take-map (λ m. Pushed m) past.0 ms) in (
          drop past.0 ms ++ rest,
          moved n (take k (acts ++ map (λ m. Pushed m) ms))
              (acts ++ map (λ m. Pushed m) (take past.0 ms)) _ same (pushed_so_far n _ _ _ _ all),
        )

pub none_both : (xs ys : List Message) → xs ++ ys ≡ [] → (xs ≡ []) × (ys ≡ [])
none_both [] ys h = (refl, h)
none_both (x ∷ xs) ys h = absurd cc

none_so_far : (k : ℕ) (acts : List Act) → pushed_messages acts ≡ []
    → pushed_messages (take k acts) ≡ []
none_so_far zero acts h = refl
none_so_far (suc k) [] h = refl
none_so_far (suc k) (Called e r ∷ acts) h = none_so_far k acts h
none_so_far (suc k) (Pushed m ∷ acts) h = absurd cc
none_so_far (suc k) (Answered run ∷ acts) h =
    let both = none_both (said_by run) (pushed_messages acts) h in
    ap (λ z. z ++ pushed_messages (take k acts)) both.0 ∙ none_so_far k acts both.1

-- where nothing was pushed
pub in_time_none : (n : ℕ) (acts : List Act) → pushed_messages acts ≡ [] → InTime n acts
in_time_none n acts h k = (
  (handed (drop n (take k acts))),
  ap (λ z. z ++ (handed (drop n (take k acts)))) (none_so_far k acts h),
)
