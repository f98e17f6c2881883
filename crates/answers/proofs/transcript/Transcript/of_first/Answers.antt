use Rattle.std.proofs.Common.{◌≡◌, ℕ, ◌∙◌, ap, subst, take, length, arith}
use Rattle.std.{proofs.lemmas.List.take_min, specs.Prelude.min}
use Rattle.answers.{specs.Transcripts.IsTranscript, proofs.Transcripts.is_as_long}
use Rattle.answers.proofs.transcript.Transcript.of_first.Goals as goal

pub take_to-requires-clause-old : goal.take_to-requires-clause-old
take_to-requires-clause-old c = omega (arith, is_as_long _ _ c.in_ok-first.ensures.none)

pub returns : goal.returns
returns c =
    let log = c.args.log.now.entries in
    let all : length c.take_to.new.self.answers ≡ min c.args.count (length log) =
    omega (arith, c.in_ok-take_to.ensures.all, c.min.ensures, c.len.ensures.len) in
    subst (IsTranscript c.take_to.new.self)
    (ap (λ (k : ℕ). take k log) all ∙ take_min c.args.count log) c.take_to.ensures.front.first
