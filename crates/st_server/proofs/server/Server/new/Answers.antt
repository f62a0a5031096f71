-- All groups are empty.
use Rattle.std.proofs.Common.{sym, subst, ℕ, refl}
use Rattle.st_state.specs.HereView.{seat_of}
use Rattle.st_live.specs.Service.{list_serve}
use Rattle.st_server.specs.Bounds.{IsSeat}
use Rattle.st_server.proofs.FreshLaws.{stands_fresh}
use Rattle.st_server.proofs.server.Server.new.Goals as goal

pub returns-clause-stands : goal.returns-clause-stands
returns-clause-stands c =
    stands_fresh _ c.requires.fresh (subst (λ (k : ℕ). IsSeat (seat_of k list_serve c.args.here)) (sym c.in_ok-new-2.ensures.clients) c.requires.seat) (c.in_ok-new-3.ensures.empty _) c.in_ok-new.ensures.last
    c.in_ok-new.ensures.place (c.in_ok-new-2.ensures.empty _) (c.in_ok-new-4.ensures.empty _) (c.in_ok-new-5.ensures.empty _) refl c.new-6.ensures c.in_ok-new-6.ensures.empty
