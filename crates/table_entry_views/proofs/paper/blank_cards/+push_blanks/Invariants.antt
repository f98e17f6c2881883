use Rattle.table_entry_views.proofs.paper.blank_cards.+push_blanks.Given as goal

abbrev pub decreases-push_blanks : goal.decreases-push_blanks
decreases-push_blanks l = l.count
