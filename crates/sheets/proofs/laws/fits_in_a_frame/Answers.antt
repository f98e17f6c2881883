use Rattle.sheets.proofs.FrameRoom.{fits}
use Rattle.sheets.proofs.laws.fits_in_a_frame.Goals as goal

pub returns : goal.returns
returns c = fits
