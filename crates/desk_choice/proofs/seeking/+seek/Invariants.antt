use Rattle.desk_choice.proofs.seeking.+seek.Given as goal

abbrev pub decreases-seek : goal.decreases-seek
decreases-seek g l = l.desk
