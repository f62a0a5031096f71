-- Files of the operating system.
use Rattle.std.specs.Prelude.{ℕ}
use Rattle.st_disk.specs.declared.file.FileDisk.{FileDisk}

-- how many calls failed
abbrev pub file_faults : FileDisk → ℕ
file_faults d = d.faults
