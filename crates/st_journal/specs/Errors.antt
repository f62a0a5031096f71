-- Errors of a disk as those of a journal.
use Rattle.st_disk.specs.declared.error.DiskError.{DiskError}
use Rattle.st_disk.specs.declared.error.DiskError.TheVariants as disks
use Rattle.st_journal.specs.declared.error.JournalError.{JournalError}
use Rattle.st_journal.specs.declared.error.JournalError.TheVariants as journals

-- a fault of the disk, or want of memory
abbrev pub from_disk : DiskError → JournalError
from_disk disks.Failed = journals.DiskFault
from_disk disks.OutOfMemory = journals.OutOfMemory
