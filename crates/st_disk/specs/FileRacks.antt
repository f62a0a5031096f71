-- Files as the disks of servers.
use Rattle.std.specs.Prelude.{ℕ}
use Rattle.st_words.specs.declared.ids.ServerId.{ServerId}
use Rattle.st_disk.specs.declared.file_disks.FileDisks.{FileDisks}
use Rattle.st_disk.specs.Racks.{count_of}

-- a server's count of faults
abbrev pub rack_faults : FileDisks → ServerId → ℕ
rack_faults rack who = count_of rack.counts who
