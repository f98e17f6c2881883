-- Desks that are asked until one answers.
use Rattle.std.proofs.Common.{◌≡◌, ◌≢◌, ◌⊎◌, ◌≤◌, ◌-◌, ◌∷◌, [], ◌∙◌, ℕ, zero, suc, List, Option}
use Rattle.std.proofs.Common.{None, Some, Result, Ok, Err, Bor, ap, arith, inl, inr, length}
use Rattle.std.proofs.Common.{option_map, refl, string_bytes, sym, vec_len}
use Rattle.std.proofs.lemmas.{List.length-map, Option.slice_get-get_or}
use Rattle.batch.specs.Dialing.{Adds, Dialed, asked_so}
use Rattle.batch.specs.declared.fault.BatchFault.{BatchFault}
use Rattle.client.specs.Standings.{status_request}
use Rattle.desk_requests.specs.declared.fault.DeskFault.{DeskFault}
use Rattle.hall_file.specs.{Halls.address_at, Halls.texts_of, declared.hall_file.HallFile.HallFile}
use Rattle.wire.specs.declared.frame.{Frame.Frame, FrameBody.FrameBody}
use Rattle.desk_choice.specs.Seeking.{AsksDesk, Seeking, Seeks, no_memory, place_in, seeking}
use Rattle.desk_choice.specs.Seeking.{why_not}

-- each desk up to the count of desks has an address
has_one : (texts : List (List ℕ)) (desk : ℕ) → 1 ≤ desk → desk ≤ length texts
    → address_at texts desk ≡ None → ⊥
has_one texts zero some there none = absurd (omega (arith, some))
has_one texts (suc n) some there none =
    let found = slice_get-get_or texts n [] (omega arith) in absurd (cc)

pub listens : (file : HallFile) (desk : ℕ) (r : Option (Bor (List ℕ))) → 1 ≤ desk
    → desk ≤ vec_len file.desks → option_map (λ s. s.now) r ≡ address_at (texts_of file) desk
    → r ≡ None → ⊥
listens file desk r some there is none =
    let count : desk ≤ length (texts_of file) =
    rw (length-map file.desks.items string_bytes) (omega (arith, file.desks.ok.0, there)) in
    has_one (texts_of file) desk some count
    (sym is ∙ ap (option_map (λ (s : Bor (List ℕ)). s.now)) none)

pub address_is : (file : HallFile) (desk : ℕ) (r : Option (Bor (List ℕ))) (a : Bor (List ℕ))
    → option_map (λ s. s.now) r ≡ address_at (texts_of file) desk → r ≡ Some a
    → address_at (texts_of file) desk ≡ Some a.now
address_is file desk r a is found = sym is ∙ ap (option_map (λ (s : Bor (List ℕ)). s.now)) found

-- a desk of the file was asked where the file says
pub asks_desk : (file : HallFile) (patience : ℕ) (key : Option (List ℕ)) (desk : ℕ)
    (r : Option (Bor (List ℕ))) (a : Bor (List ℕ)) (request : Frame)
    (answer : Result FrameBody BatchFault) (old new : Option (List Dialed))
    → option_map (λ s. s.now) r ≡ address_at (texts_of file) desk → r ≡ Some a
    → request ≡ status_request file.hall desk
    → Adds (place_in (seeking file patience key) a.now) old new (asked_so request answer ∷ [])
    → AsksDesk (seeking file patience key) desk answer old new
asks_desk file patience key desk r a request answer old new is found same told = record {
  address = a.now;
  listens = address_is file desk r a is found;
  asked = rw same at told;
}

-- the desk answered
pub seeks_here : (s : Seeking) (desk : ℕ) (answer : Result FrameBody BatchFault)
    (old new : Option (List Dialed)) → 1 ≤ desk → AsksDesk s desk answer old new
    → why_not answer ≡ None → Seeks s desk old new (Ok desk)
seeks_here s zero answer old new some asks none = absurd (omega (arith, some))
seeks_here s (suc n) answer old new some asks none = (answer, new, asks, inl (none, refl, refl))

-- it said nothing, and no further one is asked
pub seeks_no_more : (s : Seeking) (desk : ℕ) (answer : Result FrameBody BatchFault) (f : DeskFault)
    (old new : Option (List Dialed)) → 1 ≤ desk → AsksDesk s desk answer old new
    → why_not answer ≡ Some f → (desk ≡ 1) ⊎ (f ≡ no_memory) → Seeks s desk old new (Err f)
seeks_no_more s zero answer f old new some asks why last = absurd (omega (arith, some))
seeks_no_more s (suc n) answer f old new some asks why (inl first) =
    (answer, new, asks, inr (f, why, inl (inl (omega (arith, first)), refl, refl)))
seeks_no_more s (suc n) answer f old new some asks why (inr memory) =
    (answer, new, asks, inr (f, why, inl (inr memory, refl, refl)))

-- it said nothing, and those below it were asked
pub seeks_below : (s : Seeking) (desk : ℕ) (answer : Result FrameBody BatchFault) (f : DeskFault)
    (old mid new : Option (List Dialed)) (found : Result ℕ DeskFault) → 1 ≤ desk
    → AsksDesk s desk answer old mid → why_not answer ≡ Some f → desk ≢ 1 → f ≢ no_memory
    → Seeks s (desk - 1) mid new found → Seeks s desk old new found
seeks_below s zero answer f old mid new found some asks why more memory rest =
    absurd (omega (arith, some))
seeks_below s (suc n) answer f old mid new found some asks why more memory rest =
    let one : suc n - 1 ≡ n = omega arith in
    (answer, mid, asks, inr (f, why, inr ((λ none. more (ap suc none)), memory, rw one at rest)))
