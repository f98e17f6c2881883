-- The laws of spellings.
use Rattle.std.proofs.Common.{ℕ, List, [], sym, ap, ◌∙◌}
use Rattle.std.proofs.lemmas.List.{append-nil}
use Rattle.wire.specs.{declared.frame.Frame.Frame, Ranges.IsFrame, Spelling.spelling, Stream.front}
use Rattle.wire.specs.Laws.{AreBytes, IsReadWhereSpelled, BeginsNoOther}
use Rattle.wire.proofs.Streams.{front_takes, front_again, prefix_free}

pub read_where_spelled : (bytes : List ℕ) (f : Frame) (rest : List ℕ) → AreBytes bytes
    → IsReadWhereSpelled bytes f rest
read_where_spelled bytes f rest fits = (
  λ e. let begun = front_takes bytes f rest fits e in (begun.fits, begun.spelled),
  λ h. ap front h.1 ∙ front_again f rest h.0,
)

pub begins_no_other : (f g : Frame) (more : List ℕ) → IsFrame f → IsFrame g → BeginsNoOther f g more
begins_no_other f g more a b e =
    let both = prefix_free f g more [] a b (sym e ∙ sym (append-nil (spelling g))) in
    (both.0, both.1)
