-- A journal's file at rest.
use Rattle.std.specs.Prelude.{◌≡◌, ℕ, List, []}
use Rattle.st_disk.specs.Crashes.{Only}
use Rattle.st_journal.specs.Blocks.{IsFile}

-- a file with nothing behind the closed gate, all of it on the disk
pub record IsReady (bodies : List (List ℕ)) (end : ℕ) (file : List ℕ) (images : List ℕ → Type 0) : Type 0 where
  pub is : IsFile bodies end [] file
  pub durable : Only file images

-- these bytes are what reads give, and what a crash leaves
pub record IsOnDisk (bytes seen : List ℕ) (images : List ℕ → Type 0) : Type 0 where
  pub same : bytes ≡ seen
  pub durable : Only seen images
