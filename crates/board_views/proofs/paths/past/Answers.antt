use Rattle.std.proofs.Common.{◌∙◌, ◌++◌, ◌∷◌, [], List, ℕ, ap, arith, codes, decimal, option_map}
use Rattle.std.proofs.{Common.refl, Common.sym, lemmas.List.append_cancel_left}
use Rattle.board_views.proofs.Names.{decimal_lacks, of_parts, parts_of}
use Rattle.board_views.proofs.paths.past.Goals as goal

pub returns-in_err-position-clause-none : goal.returns-in_err-position-clause-none
returns-in_err-position-clause-none c none position name h =
    let is = append_cancel_left (codes "/at/") c.in_ok-rest.rest.now
    ((decimal position ++ 47 ∷ []) ++ name) (sym c.in_ok-rest.ensures.some ∙ h.1) in
    let parts =
    parts_of 47 c.in_ok-rest.rest.now (decimal position) name _ c.cut.ensures
    (decimal_lacks position h.0) is in
    let some =
    (c.in_err-position.ensures.spelled position).1 (omega arith, omega arith, parts.0) in
    cc

pub returns-in_err-name-clause-none : goal.returns-in_err-name-clause-none
returns-in_err-name-clause-none c none position name h =
    let is = append_cancel_left (codes "/at/") c.in_ok-rest.rest.now
    ((decimal position ++ 47 ∷ []) ++ name) (sym c.in_ok-rest.ensures.some ∙ h.1) in
    let parts =
    parts_of 47 c.in_ok-rest.rest.now (decimal position) name _ c.cut.ensures
    (decimal_lacks position h.0) is in
    let e = parts.1 in
    let was = ap (option_map (λ s. s.now)) c.in_err-name.was in
    cc

pub returns-clause-some : goal.returns-clause-some
returns-clause-some c =
    let number = (c.in_ok-position.ensures.spelled c.in_ok-position.position).0 refl in
    let name = c.in_ok-name.field-0.now in
    let rest =
    of_parts 47 c.in_ok-rest.rest.now name _ c.cut.ensures
    (ap (option_map (λ s. s.now)) c.in_ok-name.was)
    ∙ ap (λ (y : List ℕ). (y ++ 47 ∷ []) ++ name) number.2 in
    (number.1, c.in_ok-rest.ensures.some ∙ ap (λ (y : List ℕ). codes "/at/" ++ y) rest)

pub returns-clause-other : goal.returns-clause-other
returns-clause-other c position name h =
    let is = append_cancel_left (codes "/at/") c.in_ok-rest.rest.now
    ((decimal position ++ 47 ∷ []) ++ name) (sym c.in_ok-rest.ensures.some ∙ h.1) in
    let parts =
    parts_of 47 c.in_ok-rest.rest.now (decimal position) name _ c.cut.ensures
    (decimal_lacks position h.0) is in
    let some =
    (c.in_ok-position.ensures.spelled position).1 (omega arith, omega arith, parts.0) in
    let e = parts.1 in
    let was = ap (option_map (λ s. s.now)) c.in_ok-name.was in
    (cc, cc)
