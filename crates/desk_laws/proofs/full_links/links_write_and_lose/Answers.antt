use Rattle.desk_laws.proofs.FullLinks.{works}
use Rattle.desk_laws.proofs.full_links.links_write_and_lose.Goals as goal

pub returns : goal.returns
returns c = works
