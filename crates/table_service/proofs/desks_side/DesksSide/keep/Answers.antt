use Rattle.table_service.proofs.Steps.{amid, both}
use Rattle.table_service.proofs.desks_side.DesksSide.keep.Goals as goal

pub returns-in_err-keep_mirror-2-clause-keeps : goal.returns-in_err-keep_mirror-2-clause-keeps
returns-in_err-keep_mirror-2-clause-keeps g c =
    both c.args.service.now c.keep_mirror.new.service c.keep_mirror-2.new.service
    c.keep_mirror.ensures.keeps
    (both c.keep_mirror.new.service c.hand_out.new.service c.keep_mirror-2.new.service
    c.hand_out.ensures.keeps
    (both c.hand_out.new.service c.hurry.new.service c.keep_mirror-2.new.service
    c.hurry.ensures.keeps c.keep_mirror-2.ensures.keeps))

pub returns-then-not-branch-2-clause-keeps : goal.returns-then-not-branch-2-clause-keeps
returns-then-not-branch-2-clause-keeps g c =
    both c.args.service.now c.keep_mirror.new.service c.keep_mirror-2.new.service
    c.keep_mirror.ensures.keeps
    (both c.keep_mirror.new.service c.hand_out.new.service c.keep_mirror-2.new.service
    c.hand_out.ensures.keeps
    (both c.hand_out.new.service c.hurry.new.service c.keep_mirror-2.new.service
    c.hurry.ensures.keeps c.keep_mirror-2.ensures.keeps))

pub returns-in_err-tell-clause-keeps : goal.returns-in_err-tell-clause-keeps
returns-in_err-tell-clause-keeps g c =
    both c.args.service.now c.keep_mirror.new.service c.tell.new.service c.keep_mirror.ensures.keeps
    (both c.keep_mirror.new.service c.hand_out.new.service c.tell.new.service
    c.hand_out.ensures.keeps
    (both c.hand_out.new.service c.hurry.new.service c.tell.new.service c.hurry.ensures.keeps
    (both c.hurry.new.service c.keep_mirror-2.new.service c.tell.new.service
    c.keep_mirror-2.ensures.keeps c.tell.ensures.keeps)))

pub returns-clause-keeps : goal.returns-clause-keeps
returns-clause-keeps g c =
    both c.args.service.now c.keep_mirror.new.service c.tell.new.service c.keep_mirror.ensures.keeps
    (both c.keep_mirror.new.service c.hand_out.new.service c.tell.new.service
    c.hand_out.ensures.keeps
    (both c.hand_out.new.service c.hurry.new.service c.tell.new.service c.hurry.ensures.keeps
    (both c.hurry.new.service c.keep_mirror-2.new.service c.tell.new.service
    c.keep_mirror-2.ensures.keeps c.tell.ensures.keeps)))

pub returns-clause-hands : goal.returns-clause-hands
returns-clause-hands g c goes_on up =
    amid c.args.now c.args.service.now c.keep_mirror.new.service c.hand_out.new.service
    c.tell.new.service
    c.keep_mirror.ensures.keeps (c.hand_out.ensures.hands (c.keep_mirror.ensures.caught_up up))
    (both c.hand_out.new.service c.hurry.new.service c.tell.new.service c.hurry.ensures.keeps
    (both c.hurry.new.service c.keep_mirror-2.new.service c.tell.new.service
    c.keep_mirror-2.ensures.keeps c.tell.ensures.keeps))
