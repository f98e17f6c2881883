use Rattle.std.proofs.Common.{◌≡◌, true, length, refl, subst, sym, arith}
use Rattle.std.proofs.lemmas.Bool.Decides.{nat_tests}
use Rattle.formats.{specs.Results.has_average, proofs.Sums.sum-numbers}
use Rattle.formats.proofs.results.average.Goals as goal

pub trimmed-requires : goal.trimmed-requires
trimmed-requires c =
    let all = sum-numbers c.args.unit c.args.format c.args.values.now c.requires.format
    (subst (λ f. has_average f ≡ true) (sym c.in-Ao5.is) refl) c.requires.in_range in
    let count : length c.args.values.now ≡ 5 = grind (arith, nat_tests, c.if-values-eq5.true) in
    omega (arith, all, count)

pub mean-requires : goal.mean-requires
mean-requires c =
    let all = sum-numbers c.args.unit c.args.format c.args.values.now c.requires.format
    (subst (λ f. has_average f ≡ true) (sym c.in-Mo3.is) refl) c.requires.in_range in
    let count : length c.args.values.now ≡ 3 = grind (arith, nat_tests, c.if-values-eq3.true) in
    omega (arith, all, count)
