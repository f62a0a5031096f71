-- Moves that are allowed are a run.
use Rattle.std.proofs.Common.{◌<◌, ◌++◌, List, [], ◌∷◌, length, refl, inl, inr, arith}
use Rattle.st_counts.specs.Counts.{Has}
use Rattle.st_registers.specs.Steps.{IsRun}
use Rattle.st_agreement.specs.ExampleMoves.{Move, Asks, Records, Hands, play, plays, after, joined}
use Rattle.st_agreement.specs.MiniSteps.{MiniStep, Invariant, records, hands, asks, Backed, IsCurrent}
use Rattle.st_agreement.specs.Records.{made_of}
use Rattle.st_agreement.specs.Rules.{Allowed}
use Rattle.st_agreement.specs.Sites.{Sites, AreSites}
use Rattle.st_agreement.specs.Worlds.{World}
use Rattle.st_agreement.proofs.KeptLaws.{step-invariant}

-- what a move needs in a world
abbrev pub CanPlay : Sites → World → Move → Type 0
CanPlay d w (Asks u) = Unit {0}
CanPlay d w (Records s k c) = (s < d.sites) × Has k (d.correct s) × Allowed d s c (w.records s k) × Backed d w s c
CanPlay d w (Hands s k t) = (s < d.sites) × Has k (d.correct s) × Has t (made_of (w.records s k)) × IsCurrent t (w.records s k)

-- what moves one after the other need
abbrev pub CanPlayAll : Sites → World → List Move → Type 0
CanPlayAll d w [] = Unit {0}
CanPlayAll d w (m ∷ ms) = CanPlay d w m × CanPlayAll d (play w m) ms

-- such a move is a mini-step
pub play-step : (d : Sites) (w : World) (m : Move) → CanPlay d w m → MiniStep d w (play w m)
play-step d w (Asks u) can = asks u refl
play-step d w (Records s k c) can =
    records (record { site = s; server = k; change = c; exists = can.0; correct = can.1; allowed = can.2; backed = can.3; next = refl })
play-step d w (Hands s k t) can =
    hands (record { site = s; server = k; statement = t; exists = can.0; correct = can.1; recorded = can.2; current = can.3; next = refl })

-- such moves are a run
pub plays-run : (d : Sites) (w : World) (ms : List Move) → CanPlayAll d w ms → IsRun (MiniStep d) w (plays w ms)
plays-run d w [] can = tt
plays-run d w (m ∷ ms) can = (play-step d w m can.0, plays-run d (play w m) ms can.1)

-- moves after moves
both : (d : Sites) (w : World) (ms ns : List Move) → CanPlayAll d w ms → CanPlayAll d (after w ms) ns → CanPlayAll d w (ms ++ ns)
both d w [] ns first_can then = then
both d w (m ∷ ms) ns first_can then = (first_can.0, both d (play w m) ms ns first_can.1 then)

-- what a run's parts need
abbrev pub CanPlayParts : Sites → World → List (List Move) → Type 0
CanPlayParts d w [] = Unit {0}
CanPlayParts d w (part ∷ parts) = CanPlayAll d w part × CanPlayParts d (after w part) parts

-- the whole needs no more
pub parts-can : (d : Sites) (w : World) (parts : List (List Move)) → CanPlayParts d w parts → CanPlayAll d w (joined parts)
parts-can d w [] can = tt
parts-can d w (part ∷ parts) can = both d w part (joined parts) can.0 (parts-can d (after w part) parts can.1)

-- the last world of moves is among their worlds
pub after-among : (w : World) (ms : List Move) → 0 < length ms → Has (after w ms) (plays w ms)
after-among w [] some = absurd (omega arith)
after-among w (m ∷ []) some = inl refl
after-among w (m ∷ n ∷ ms) some = inr (after-among (play w m) (n ∷ ms) (omega arith))

-- and keeps the invariant
pub after-invariant : (d : Sites) (w : World) (ms : List Move) → AreSites d → Invariant d w → CanPlayAll d w ms → Invariant d (after w ms)
after-invariant d w [] sites inv can = inv
after-invariant d w (m ∷ ms) sites inv can =
    after-invariant d (play w m) ms sites (step-invariant d w (play w m) sites inv (play-step d w m can.0)) can.1
