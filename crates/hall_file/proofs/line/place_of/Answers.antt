use Rattle.hall_file.proofs.Places.{run_start}
use Rattle.hall_file.proofs.line.place_of.Goals as goal

pub loop-i-init : goal.loop-i-init
loop-i-init c = run_start c.args.bytes.now c.args.name.now
