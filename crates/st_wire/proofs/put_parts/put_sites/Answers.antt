-- Each site's quorum keeps its ranges.
use Rattle.st_wire.specs.Ranges.{first}
use Rattle.st_wire.proofs.Kept.{kept_sites}
use Rattle.st_wire.proofs.put_parts.put_sites.Goals as goal

pub put_site_list-requires : goal.put_site_list-requires
put_site_list-requires c = rw c.as_slice.ensures (kept_sites first c.args.sites.now c.requires.1)
