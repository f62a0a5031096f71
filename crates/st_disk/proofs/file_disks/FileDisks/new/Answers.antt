use Rattle.st_disk.proofs.Places.{new_count}
use Rattle.st_disk.proofs.file_disks.FileDisks.new.Goals as goal

pub returns : goal.returns
returns c = new_count
