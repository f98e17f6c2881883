-- The first frame of what a reader of frames was fed.
use Rattle.std.proofs.Common.{◌≡◌, ◌++◌, ◌∙◌, ℕ, List, [], ◌∷◌, Option, None, Some, MatchOption, ap}
use Rattle.std.proofs.Common.{append_assoc, append-nil, arith, length, refl, subst, sym}
use Rattle.std.{proofs.KnownBytes.Consumes-trans, specs.Io.KnownBytes.Consumes, specs.List.flat_map}
use Rattle.std.specs.{Prelude.option_to_list, Global.Global, declared.vec.IntoIter.IntoIter}
use Rattle.std.specs.Vec.Iter.{into_iter_len, into_iter_steps}
use Rattle.wire.specs.{declared.frame.Frame.Frame, Spelling.spelling, Stream.keeps}
use Rattle.wire.specs.Stream.{Front, Reader, Waits, Begins, Breaks, Fed, IsBegun, front, holding}
use Rattle.client.specs.Hearing.{StandsFirst}

keeps_none : (at : Front) (rest : List ℕ) (reader : Reader) → (IsBegun at → ⊥)
    → reader ≡ keeps at rest → reader.fault ≡ None → (reader ≡ holding rest) × (at ≡ Waits)
keeps_none Waits rest reader other is h = (is, refl)
keeps_none (Begins f more) rest reader other is h = absurd (other tt)
keeps_none (Breaks d) rest reader other is h =
    let k : None ≡ Some d = sym h ∙ ap (λ (z : Reader). z.fault) is in absurd cc

nothing_first : (piece : List ℕ) (old new : Reader) → Fed piece old new []
    → (new ≡ holding (old.held ++ piece)) × (front (old.held ++ piece) ≡ Waits)
nothing_first piece old new fed =
    let r = fed.feeds in
    let kept = keeps_none (front r.rest) r.rest new r.ends r.keeps (fed.at_once refl) in
    let all : old.held ++ piece ≡ r.rest = r.whole in
    (kept.0 ∙ ap holding (sym all), ap front all ∙ kept.1)

frame_first : (piece : List ℕ) (old new : Reader) (f : Frame) (later : List Frame)
    → Fed piece old new (f ∷ later) → StandsFirst f (old.held ++ piece)
frame_first piece old new f later fed =
    let r = fed.feeds in
    record {
      rest = flat_map spelling later ++ r.rest;
      spelled = r.each.0;
      first = r.whole ∙ append_assoc (spelling f) (flat_map spelling later) r.rest;
    }

-- what the first of the frames that were given says
pub first_given : (piece : List ℕ) (old new : Reader) (frames later : List Frame)
    (first : Option Frame) → Fed piece old new frames → frames ≡ option_to_list first ++ later
    → (first ≡ None → frames ≡ []) → MatchOption first
    ((new ≡ holding (old.held ++ piece)) × (front (old.held ++ piece) ≡ Waits))
    (λ f. StandsFirst f (old.held ++ piece))
first_given piece old new frames later None fed parts none =
    nothing_first piece old new (subst (Fed piece old new) (none refl) fed)
first_given piece old new frames later (Some f) fed parts none =
    frame_first piece old new f later (subst (Fed piece old new) parts fed)

nothing_left : {X : Type 0} (l : List X) → length l ≡ 0 → l ≡ []
nothing_left [] h = refl
nothing_left (x ∷ xs) h = absurd (omega arith)

-- where an iterator gives nothing, nothing was left
pub none_left : (frames : List Frame) (s t : IntoIter Frame Global) (first : Option Frame)
    → into_iter_steps s first t → into_iter_len s ≡ length frames → first ≡ None → frames ≡ []
none_left frames s t None steps counts is = nothing_left frames (omega (arith, steps.0, counts))
none_left frames s t (Some f) steps counts is = let k : Some f ≡ None = is in absurd cc

pub front_none : front [] ≡ Waits
unfolding front
front_none = refl

-- bytes that waited wait still where the reader gave none
pub waits_still : (bytes none : List ℕ) (had before left : Option (List ℕ)) → none ≡ []
    → Consumes had before bytes → Consumes before left none → Consumes had left bytes
waits_still bytes none had before left is h k =
    subst (Consumes had left) (ap (λ z. bytes ++ z) is ∙ append-nil bytes)
    (Consumes-trans had before left bytes none h k)
