-- Desks that are asked one after the other.
use Rattle.std.proofs.Common.{◌≡◌, ◌≢◌, ◌≤◌, ◌++◌, ◌∷◌, [], ℕ, List, Option, sym, ◌∙◌, Ok, Err}
use Rattle.std.proofs.Common.{Result, None, Some, suc, ap, ap₂, append_assoc, arith, get_or, inr}
use Rattle.std.proofs.Common.{length, refl, subst}
use Rattle.std.proofs.lemmas.List.{length-map, take_all}
use Rattle.std.specs.{Borrow.Bor, Io.KnownBytes.Appends}
use Rattle.acceptor.specs.declared.entry.Entry.{Entry}
use Rattle.batch.specs.Dialing.{Adds, Dialed, Place, asked_so}
use Rattle.batch.specs.declared.fault.BatchFault.{BatchFault}
use Rattle.standings.specs.{declared.forms.Form.Form, Reports.report}
use Rattle.standings.specs.declared.polled.{StatusReply.StatusReply, PolledDesk.PolledDesk}
use Rattle.wire.specs.declared.frame.{Frame.Frame, FrameBody.FrameBody}
use Rattle.std.specs.Prelude.{◌+◌, ◌-◌, OnOk, drop, take}
use Rattle.desk_requests.specs.Comparing.{AsksLog, Compares, ComparesAll, ComparesMore, first_told}
use Rattle.desk_requests.specs.Comparing.{common_length, other_in, standing_desk, with_other}
use Rattle.desk_requests.specs.Polling.{AsksFor, IsPolled, PollsAll, PollsMore, Tries, foreign}
use Rattle.desk_requests.specs.{Polling.place_at, Polling.reply_to, Polling.request_of}
use Rattle.desk_requests.specs.Watching.{Watches}
use Rattle.desk_requests.specs.declared.polling.{Inquiry.Inquiry, Question.Question}
use Rattle.standings.specs.declared.polled.StatusReply.TheVariants as reply

-- the first of these desks was asked, and is the reply
pub first_replies : (p : Place) (question : Question) (hall : ℕ) (desks : List ℕ)
    (old new : Option (List Dialed)) (request : Frame) (answer : Result FrameBody BatchFault)
    (said : Option StatusReply)
    → 1 ≤ length desks → request ≡ request_of question hall (get_or desks 0 0)
    → Adds p old new (asked_so request answer ∷ []) → answer ≢ foreign
    → said ≡ reply_to question (get_or desks 0 0) answer → Tries p question hall desks old new said
first_replies p question hall [] old new request answer said some is told other says =
    absurd (omega (arith, some))
first_replies p question hall (desk ∷ desks) old new request answer said some is told other says = (
  answer,
  new,
  rw is at told,
  inr (other, refl, says),
)

polls_next : (q : Inquiry) (desk : ℕ) (first : Bor (List ℕ)) (rest : List (Bor (List ℕ)))
    (before mid after : List PolledDesk) (one : PolledDesk) (a b c : Option (List Dialed))
    → AsksFor q desk one first.now a b → mid ≡ before ++ one ∷ []
    → PollsMore q (desk + 1) rest mid after b c → PollsMore q desk (first ∷ rest) before after a c
polls_next q desk first rest before mid after one a b c asks is more = (
  one ∷ more.0,
  more.1 ∙ ap (λ l. l ++ more.0) is ∙ append_assoc before (one ∷ []) more.0,
  ap₂ (λ t ts. t ∷ ts) asks.0 more.2,
  (
    b,
    asks.1,
    subst (λ t. IsPolled (place_at q t) q.hall desk a b (Some one.reply)) (sym asks.0) asks.2,
    more.3,
  ),
)

all_of_rest : (first : Bor (List ℕ)) (rest : List (Bor (List ℕ)))
    → take (length (first ∷ rest) - 1) rest ≡ rest
all_of_rest first rest = take_all (length (first ∷ rest) - 1) rest (omega arith)

-- one more address was asked at
pub polls_more : {A E : Type 0} (r : Result A E) (q : Inquiry) (desk : ℕ) (other : Bor (List ℕ))
    (addresses : List (Bor (List ℕ))) (before mid after : List PolledDesk) (one : PolledDesk)
    (a b c : Option (List Dialed)) → 1 ≤ length addresses
    → AsksFor q desk one (get_or addresses 0 other).now a b → mid ≡ before ++ one ∷ []
    → OnOk r (PollsMore q (desk + 1) (take (length addresses - 1) (drop 1 addresses)) mid after b c)
    → OnOk r (PollsMore q desk addresses before after a c)
polls_more r q desk other [] before mid after one a b c some asks is more =
    absurd (omega (arith, some))
polls_more (Ok x) q desk other (first ∷ rest) before mid after one a b c some asks is more =
    polls_next q desk first rest before mid after one a b c asks is
    (subst (λ l. PollsMore q (desk + 1) l mid after b c) (all_of_rest first rest) more)
polls_more (Err e) q desk other (first ∷ rest) before mid after one a b c some asks is more = tt

compares_next : (q : Inquiry) (position end : ℕ) (known told next : Option (List Entry))
    (other : Option ℕ) (one : PolledDesk) (rest before mid after : List PolledDesk)
    (a b c : Option (List Dialed))
    → AsksLog q position one.address.now (standing_desk one.reply) a b told
    → other ≡ other_in position end known told → mid ≡ before ++ with_other one other ∷ []
    → next ≡ first_told known told → ComparesMore q position end next rest mid after b c
    → ComparesMore q position end known (one ∷ rest) before after a c
compares_next q position end known told next other one rest before mid after a b c asks is added
    first more = (
      with_other one other ∷ more.0,
      (told, b, more.0, asks, rw first at more.1, ap (λ o. with_other one o ∷ more.0) is),
      more.2 ∙ ap (λ l. l ++ more.0) added ∙ append_assoc before (with_other one other ∷ []) more.0,
    )

-- one more was compared
pub compares_more : {A E : Type 0} (r : Result A E) (q : Inquiry) (position end : ℕ)
    (known told next : Option (List Entry)) (other : Option ℕ) (default : PolledDesk)
    (polled before mid after : List PolledDesk) (a b c : Option (List Dialed)) → 1 ≤ length polled
    → AsksLog q position (get_or polled 0 default).address.now
    (standing_desk (get_or polled 0 default).reply) a b told
    → other ≡ other_in position end known told
    → mid ≡ before ++ with_other (get_or polled 0 default) other ∷ [] → next ≡ first_told known told
    → OnOk r (ComparesMore q position end next (take (length polled - 1) (drop 1 polled)) mid after
    b c) → OnOk r (ComparesMore q position end known polled before after a c)
compares_more r q position end known told next other default [] before mid after a b c some asks is
    added first more = absurd (omega (arith, some))
compares_more (Ok x) q position end known told next other default (one ∷ rest) before mid after a b
    c some asks is added first more =
    compares_next q position end known told next other one rest before mid after a b c asks is added
    first (subst (λ l. ComparesMore q position end next l mid after b c)
    (take_all (length (one ∷ rest) - 1) rest (omega arith)) more)
compares_more (Err e) q position end known told next other default (one ∷ rest) before mid after a b
    c some asks is added first more = tt

-- the last entries that all logs have were compared
pub compares_all : (q : Inquiry) (polled before after : List PolledDesk) (end from : ℕ)
    (old new : Option (List Dialed)) → end ≡ common_length polled → from ≡ end - 400
    → before ≡ [] → ComparesMore q from end None polled before after old new
    → ComparesAll q polled after old new
compares_all q polled before after end from old new shortest last none more =
    let all : after ≡ more.0 = more.2 ∙ ap (λ l. l ++ more.0) none in
    rw (all, ← shortest, ← last) more.1

-- all were asked at, and their logs were compared
pub polls_all : (q : Inquiry) (before told shown compared : List PolledDesk)
    (old mid new : Option (List Dialed)) → before ≡ []
    → PollsMore q 1 q.addresses.now before told old mid → shown ≡ told
    → ComparesAll q shown compared mid new → PollsAll q compared old new
polls_all q before told shown compared old mid new none h is alike =
    let here : told ≡ h.0 = h.1 ∙ ap (λ l. l ++ h.0) none in
    record { told = h.0; mid = mid; at = h.2; asked = h.3; compared = rw (is, here) at alike }

compares_length : (q : Inquiry) (position end : ℕ) (known : Option (List Entry))
    (polled compared : List PolledDesk) (old new : Option (List Dialed))
    → Compares q position end known polled compared old new → length compared ≡ length polled
compares_length q position end known [] compared old new h = ap length h.0
compares_length q position end known (p ∷ polled) compared old new h =
    ap length h.5 ∙ ap suc
    (compares_length q position end (first_told known h.0) polled h.2 h.1 new h.4)

-- they are as many as the addresses
pub polls_few : (q : Inquiry) (compared : List PolledDesk) (old new : Option (List Dialed))
    → PollsAll q compared old new → length compared ≡ length q.addresses.now
polls_few q compared old new h =
    compares_length q _ _ None h.told compared h.mid new h.compared
    ∙ sym (length-map h.told (λ (p : PolledDesk). p.address.now)) ∙ ap length h.at
    ∙ length-map q.addresses.now (λ (a : Bor (List ℕ)). a.now)

-- ---- again and again

pub watches_more : (form : Form) (q : Inquiry) (times : List (List PolledDesk))
    (polled : List PolledDesk) (a b c : Option (List Dialed)) (old mid new : Option (List ℕ))
    → Watches form q times a b old mid → PollsAll q polled b c
    → Appends mid new (report form q.hall polled)
    → Watches form q (times ++ polled ∷ []) a c old new
watches_more form q [] polled a b c old mid new h asked written = (
  c,
  new,
  subst (λ d. PollsAll q polled d c) (sym h.0) asked,
  subst (λ t. Appends t new (report form q.hall polled)) (sym h.1) written,
  (refl, refl),
)
watches_more form q (one ∷ times) polled a b c old mid new h asked written =
    (h.0, h.1, h.2, h.3, watches_more form q times polled h.0 b c h.1 mid new h.4 asked written)
