-- The exit status of each way to end.
use Rattle.std.specs.Prelude.{ℕ}
use Rattle.st_run.specs.declared.status.Status.{Status}
use Rattle.st_run.specs.declared.status.Status.TheVariants as statuses

-- the exit status of the program
abbrev pub exit_code : Status → ℕ
exit_code statuses.Ok = 0
exit_code statuses.Usage = 1
exit_code statuses.ReadFault = 2
exit_code statuses.WriteFault = 3
exit_code statuses.BadInput = 4
exit_code statuses.OutOfMemory = 5
exit_code statuses.Forged = 6
exit_code statuses.DiskFault = 7
exit_code statuses.LinkFault = 8
exit_code statuses.NotJournal = 9
exit_code statuses.TooLarge = 10
exit_code statuses.JournalFull = 11
