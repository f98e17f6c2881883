use Rattle.desk_file.proofs.mark.count_in.Goals as goal

pub returns-clause-bytes : goal.returns-clause-bytes
returns-clause-bytes c = c.fits-field
