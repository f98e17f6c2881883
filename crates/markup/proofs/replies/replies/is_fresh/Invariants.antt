use Rattle.std.proofs.Common.{◌≡◌, codes}
use Rattle.std.specs.List.{list_any}
use Rattle.http_header.specs.HeaderMap.{get_all}
use Rattle.http.specs.Request.{head_of}
use Rattle.markup.specs.replies.Tags.{is_fresh, names}
use Rattle.markup.proofs.replies.replies.is_fresh.Given as goal

abbrev pub invariant-loop-value : goal.invariant-loop-value
invariant-loop-value l =
    (goal.iterator-loop-value).can_next l.value-iterator
    × (goal.iterator-loop-value).is_finite l.value-iterator
    × (list_any (λ v. names v.bytes l.tag.bytes) l.value-iterator
    ≡ is_fresh (get_all (head_of l.request).headers (codes "if-none-match")) l.tag.bytes)
