-- What is told of each client, one after the other.
use Rattle.std.proofs.Common.{◌≡◌, refl, sym, ap, ◌∙◌, ℕ, List, [], ◌∷◌, ◌++◌, append_assoc, Option}
use Rattle.std.proofs.Common.{None, Some, Bool, true, false, cond, eqb}
use Rattle.serving.specs.TurnLaw.{Came as CameIn, Began, Rested, Took as TookOf, Turn, handed_out}
use Rattle.serving.specs.TurnLaw.{received}
use Rattle.connections.specs.Connections.{Served, served_of}
use Rattle.multiplex.specs.EachClient.{Deed, Frame, OwnTick, Settling, came_with, frames_in, gave}
use Rattle.multiplex.specs.{EachClient.took, declared.ends.EndReason.EndReason}
use Rattle.polled.specs.Happenings.{Happened, Round, Came, Full, Named, Gave, Took, Ended, Broke}
use Rattle.polled.specs.Happenings.{Closed, Failed}
use Rattle.multiplex.specs.Passing.{told_end, told_turns, told_why}
use Rattle.multiplex.specs.declared.ends.EndReason.TheVariants as why

-- ---- two lists, one after the other

more_bytes : (own : Bool) (bytes both first second : List ℕ) → both ≡ first ++ second
    → cond own (bytes ++ both) both ≡ cond own (bytes ++ first) first ++ second
more_bytes true bytes both first second is =
    ap (λ z. bytes ++ z) is ∙ sym (append_assoc bytes first second)
more_bytes false bytes both first second is = is

pub gave-both : (k : ℕ) (hs js : List Happened) → gave k (hs ++ js) ≡ gave k hs ++ gave k js
gave-both k [] js = refl
gave-both k (Gave j bytes ∷ hs) js =
    more_bytes (eqb j k) bytes (gave k (hs ++ js)) (gave k hs) (gave k js) (gave-both k hs js)
gave-both k (Took j bytes ∷ hs) js = gave-both k hs js
gave-both k (Round time ∷ hs) js = gave-both k hs js
gave-both k (Came j random ∷ hs) js = gave-both k hs js
gave-both k (Full ∷ hs) js = gave-both k hs js
gave-both k (Named j ∷ hs) js = gave-both k hs js
gave-both k (Ended j ∷ hs) js = gave-both k hs js
gave-both k (Broke j ∷ hs) js = gave-both k hs js
gave-both k (Closed j ∷ hs) js = gave-both k hs js
gave-both k (Failed ∷ hs) js = gave-both k hs js

pub took-both : (k : ℕ) (hs js : List Happened) → took k (hs ++ js) ≡ took k hs ++ took k js
took-both k [] js = refl
took-both k (Took j bytes ∷ hs) js =
    more_bytes (eqb j k) bytes (took k (hs ++ js)) (took k hs) (took k js) (took-both k hs js)
took-both k (Gave j bytes ∷ hs) js = took-both k hs js
took-both k (Round time ∷ hs) js = took-both k hs js
took-both k (Came j random ∷ hs) js = took-both k hs js
took-both k (Full ∷ hs) js = took-both k hs js
took-both k (Named j ∷ hs) js = took-both k hs js
took-both k (Ended j ∷ hs) js = took-both k hs js
took-both k (Broke j ∷ hs) js = took-both k hs js
took-both k (Closed j ∷ hs) js = took-both k hs js
took-both k (Failed ∷ hs) js = took-both k hs js

-- the first of two that is there
abbrev pub first_there : Option (List ℕ) → Option (List ℕ) → Option (List ℕ)
first_there None o = o
first_there (Some x) o = Some x

more_came : (own : Bool) (random : List ℕ) (both first second : Option (List ℕ))
    → both ≡ first_there first second
    → cond own (Some random) both ≡ first_there (cond own (Some random) first) second
more_came true random both first second is = refl
more_came false random both first second is = is

pub came_with-both : (k : ℕ) (hs js : List Happened)
    → came_with k (hs ++ js) ≡ first_there (came_with k hs) (came_with k js)
came_with-both k [] js = refl
came_with-both k (Came j random ∷ hs) js =
    more_came (eqb j k) random (came_with k (hs ++ js)) (came_with k hs) (came_with k js)
    (came_with-both k hs js)
came_with-both k (Gave j bytes ∷ hs) js = came_with-both k hs js
came_with-both k (Took j bytes ∷ hs) js = came_with-both k hs js
came_with-both k (Round time ∷ hs) js = came_with-both k hs js
came_with-both k (Full ∷ hs) js = came_with-both k hs js
came_with-both k (Named j ∷ hs) js = came_with-both k hs js
came_with-both k (Ended j ∷ hs) js = came_with-both k hs js
came_with-both k (Broke j ∷ hs) js = came_with-both k hs js
came_with-both k (Closed j ∷ hs) js = came_with-both k hs js
came_with-both k (Failed ∷ hs) js = came_with-both k hs js

pub frames-both : (ds es : List Deed) → frames_in (ds ++ es) ≡ frames_in ds ++ frames_in es
frames-both [] es = refl
frames-both (Frame false f ∷ ds) es = ap (λ z. f ∷ z) (frames-both ds es)
frames-both (Frame true f ∷ ds) es = frames-both ds es
frames-both (OwnTick starved ∷ ds) es = frames-both ds es
frames-both (Settling ok ∷ ds) es = frames-both ds es

more_served : (own : Bool) (f : Served) (both first second : List Served)
    → both ≡ first ++ second → cond own (f ∷ both) both ≡ cond own (f ∷ first) first ++ second
more_served true f both first second is = ap (λ z. f ∷ z) is
more_served false f both first second is = is

pub served-both : (k : ℕ) (fs gs : List Served)
    → served_of k (fs ++ gs) ≡ served_of k fs ++ served_of k gs
served-both k [] gs = refl
served-both k (f ∷ fs) gs =
    more_served (eqb f.number k) f (served_of k (fs ++ gs)) (served_of k fs) (served_of k gs)
    (served-both k fs gs)

-- ---- what a client gave and took in a step

-- these bytes of a client are told, and it did not come then
pub record Gives (k : ℕ) (hs : List Happened) (came sent : List ℕ) : Type 0 where
  pub gave : gave k hs ≡ came
  pub took : took k hs ≡ sent
  pub earlier : came_with k hs ≡ None

nothing : (own : Bool) (bytes : List ℕ) → bytes ≡ [] → bytes ≡ cond own [] []
nothing true bytes is = is
nothing false bytes is = is

piece_more : (own : Bool) (piece rest all : List ℕ) → rest ≡ cond own all []
    → cond own (piece ++ rest) rest ≡ cond own (piece ++ all) []
piece_more true piece rest all is = ap (λ z. piece ++ z) is
piece_more false piece rest all is = is

-- the turns of a client, and nothing behind them
pub turns_give : (k j : ℕ) (own : Bool) → eqb j k ≡ own → (ts : List Turn) (hs : List Happened)
    → Gives k hs [] []
    → Gives k (told_turns j ts ++ hs) (cond own (received ts) []) (cond own (handed_out ts) [])
turns_give k j own is [] hs none = record {
  gave = nothing own (gave k hs) none.gave;
  took = nothing own (took k hs) none.took;
  earlier = none.earlier;
}
turns_give k j own is (CameIn piece ∷ ts) hs none =
    let later = turns_give k j own is ts hs none in
    let rest = gave k (told_turns j ts ++ hs) in
    record {
      gave =
          ap (λ b. cond b (piece ++ rest) rest) is
          ∙ piece_more own piece rest (received ts) later.gave;
      took = later.took;
      earlier = later.earlier;
    }
turns_give k j own is (TookOf bytes ∷ ts) hs none =
    let later = turns_give k j own is ts hs none in
    let rest = took k (told_turns j ts ++ hs) in
    record {
      gave = later.gave;
      took =
          ap (λ b. cond b (bytes ++ rest) rest) is
          ∙ piece_more own bytes rest (handed_out ts) later.took;
      earlier = later.earlier;
    }
turns_give k j own is (Began one ∷ ts) hs none = turns_give k j own is ts hs none
turns_give k j own is (Rested ∷ ts) hs none = turns_give k j own is ts hs none

-- how a visit ends brings no bytes
pub end_gives : (k j : ℕ) (fate : Option EndReason)
    → Gives k (told_why j fate ++ told_end j fate) [] []
end_gives k j None = record { gave = refl; took = refl; earlier = refl }
end_gives k j (Some why.Done) = record { gave = refl; took = refl; earlier = refl }
end_gives k j (Some why.Ended) = record { gave = refl; took = refl; earlier = refl }
end_gives k j (Some why.Broke) = record { gave = refl; took = refl; earlier = refl }
end_gives k j (Some why.Silent) = record { gave = refl; took = refl; earlier = refl }
end_gives k j (Some why.Crowded) = record { gave = refl; took = refl; earlier = refl }
end_gives k j (Some why.NoSocket) = record { gave = refl; took = refl; earlier = refl }
end_gives k j (Some why.Over) = record { gave = refl; took = refl; earlier = refl }
