-- One more message is pushed.
use Rattle.std.proofs.Common.{◌≡◌, sym, ap, subst, ◌∙◌, ℕ, List, [], ◌∷◌, ◌++◌, Option}
use Rattle.std.proofs.lemmas.List.{append_assoc}
use Rattle.acceptor.specs.declared.message.Message.{Message}
use Rattle.wire.specs.declared.{values.Version.Version, frame.Frame.Frame}
use Rattle.serving.specs.{Adding.Push, Adding.Hands, Serving.framed, Serving.pushed}
use Rattle.serving.{specs.model.Pushing.PushesFront, proofs.Handing.Hands-map}
use Rattle.wire.specs.Spelling.{spelling}

-- a message that was framed and spelled, and handed over
pub pushed_so : (v : Version) (hall : ℕ) (m : Message) (f : Frame) (bytes slice : List ℕ)
    (a b : Option (List Push)) → f ≡ framed v hall m → bytes ≡ spelling f → slice ≡ bytes
    → Hands a b (record { to = m.to; bytes = slice } ∷ []) → Hands a b (pushed v hall m ∷ [])
pushed_so v hall m f bytes slice a b is spelled same h =
    subst (λ (z : List ℕ). Hands a b (record { to = m.to; bytes = z } ∷ []))
    (same ∙ spelled ∙ ap (λ (z : Frame). spelling z) is) h

pub pushed_more : (v : Version) (hall : ℕ) (all left rest front : List Message) (m : Message)
    (a b c : Option (List Push))
    → left ≡ m ∷ rest → PushesFront v hall all front left a b → Hands b c (pushed v hall m ∷ [])
    → PushesFront v hall all (front ++ m ∷ []) rest a c
pushed_more v hall all left rest front m a b c is h k = record {
  parts =
      h.parts ∙ ap (λ z. front ++ z) is ∙ sym (append_assoc front (m ∷ []) rest);
  handed = Hands-map (pushed v hall) a b c front (m ∷ []) h.handed k;
}
