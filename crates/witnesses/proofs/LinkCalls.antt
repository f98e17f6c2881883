-- What the calls of a link lead to.
use Rattle.std.proofs.Common.{refl, [], ◌∷◌, arith}
use Rattle.links.specs.{Histories.Leads, Links.new_link, Links.with_waiting, Tellings.LeadsTo}
use Rattle.links.specs.Links.{LinkState, after_began, after_failed, after_opened, after_sent}
use Rattle.links.specs.Outages.{Telling, after_due, failing, new_telling}
use Rattle.witnesses.specs.LinkCalls.{WorksLink, one, sending, tale, told_after, two}

abbrev pushed_one : LinkState
pushed_one = with_waiting new_link (one ∷ [])

abbrev pushed_two : LinkState
pushed_two = with_waiting new_link (one ∷ two ∷ [])

abbrev began : LinkState
began = after_began pushed_two 10

abbrev opened : LinkState
opened = after_opened began 20

abbrev sent_one : LinkState
sent_one = after_sent opened 30 3

abbrev sent_byte : LinkState
sent_byte = after_sent sent_one 40 1

abbrev failed : LinkState
failed = after_failed sent_byte 50

sends : Leads sending sent_byte
sends = (
  sent_one,
  (
    opened,
    (
      began,
      (
        pushed_two,
        (pushed_one, (new_link, refl, (omega arith, refl)), (omega arith, refl)),
        (tt, refl),
      ),
      refl,
    ),
    (([], refl), refl),
  ),
  ((5 ∷ [], refl), refl),
)

once : Telling
once = after_due (failing new_telling 0) 0

twice : Telling
twice = after_due (failing (after_due (failing new_telling 0) 0) 500) 500

tells : LeadsTo tale told_after
unfolding once twice
tells = (twice, (once, (new_telling, refl, (refl, refl)), (refl, refl)), (refl, refl))

pub works : WorksLink
works = record {
  leads = (failed, (sent_byte, sends, refl), (omega arith, refl));
  waits = refl;
  pushes = refl;
  opened = refl;
  went = refl;
  failed = refl;
  tells = tells;
  lines = refl;
}
