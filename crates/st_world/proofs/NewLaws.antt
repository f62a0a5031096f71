-- A world before its first event.
use Rattle.std.proofs.Common.{◌≡◌, ◌∙◌, ap, sym, ℕ, ◌+◌, ◌*◌, ◌&&◌, nat_lt, Option, None, List, [], IsTrue, refl, arith}
use Rattle.st_words.specs.declared.deployment.Deployment.{Deployment}
use Rattle.st_seal.specs.Pen.{Pen}
use Rattle.st_seal.specs.Scheme.{Scheme, scheme_of, is_party}
use Rattle.st_hss_seal.specs.Sealing.{pen_in}
use Rattle.st_hss_seal.specs.Sealers.{scheme_in, pen_of}
use Rattle.st_tables.specs.Entries.{entry}
use Rattle.st_protocol.specs.Words.{server_at}
use Rattle.st_protocol.specs.Keeping.{joined, gathered}
use Rattle.st_protocol.specs.State.{Seat}
use Rattle.st_protocol.specs.World.{empty, fresh_node, fresh_customer, capacity_of, sent_size, seat_of}
use Rattle.st_protocol.specs.Plain.{ArePlain}
use Rattle.st_ranges.specs.Ranges.{ListsInRange}
use Rattle.st_state.specs.HereView as view
use Rattle.st_live.specs.Service.{list_serve}
use Rattle.st_client.specs.declared.client.Client.{Client}
use Rattle.st_config.specs.Taken.{IsTaken}
use Rattle.st_waiting.specs.Undelivered.{pairs_in, newest_in}
use Rattle.st_server.specs.Bounds.{IsSeat}
use Rattle.st_server.specs.Fresh.{IsFresh}
use Rattle.st_server.specs.Serving.{Stands, seat_by}
use Rattle.st_deployment.specs.Deployed.{world_deployment}
use Rattle.st_deployment.proofs.SetLaws.{capacity_same, capacity_few, choice_of}
use Rattle.st_sealers.specs.Keeping.{KeepsSealers}
use Rattle.st_world.specs.declared.world.World.{World}
use Rattle.st_world.specs.Customers.{customer_by, customer_in}
use Rattle.st_world.specs.First.{first_here}
use Rattle.st_world.specs.Standing.{IsWorld}

-- ---- the server's place

-- the server is a party
pub server_party : (d : Deployment) (scheme : Scheme) → IsTaken d → scheme ≡ scheme_of d → IsTrue (is_party scheme (server_at 0 0))
server_party d scheme taken same = ap (λ (s : Scheme). nat_lt 0 s.sites && nat_lt 0 (3 * s.f + 1)) same ∙ (λ i. nat_lt 0 (taken.sites i) && nat_lt 0 (3 * taken.f i + 1))

-- how many seals it has
pub capacity_first : (d : Deployment) (scheme : Scheme) (pen : Pen) (capacity : ℕ) → scheme ≡ scheme_of d → pen ≡ pen_in scheme (server_at 0 0) → capacity ≡ pen.capacity → capacity ≡ capacity_of d.seals
capacity_first d scheme pen capacity same is count =
    count ∙ (ap (λ (p : Pen). p.capacity) (is ∙ ap (λ (s : Scheme). pen_in s (server_at 0 0)) same) ∙ capacity_same d.seals)

-- its seat
pub seat_is : (d : Deployment) (capacity : ℕ) → capacity ≡ capacity_of d.seals → view.seat_of d.clients list_serve (first_here d (record { site = 0; index = 0 }) capacity) ≡ seat_of (world_deployment d) 0 0
unfolding world_deployment
seat_is d capacity is = λ i. record { site = 0; index = 0; sites = d.sites; f = d.f; clients = d.clients; capacity = is i; serve = list_serve }

pub is_seat : (d : Deployment) (capacity : ℕ) → IsTaken d → capacity ≡ capacity_of d.seals → IsSeat (view.seat_of d.clients list_serve (first_here d (record { site = 0; index = 0 }) capacity))
unfolding world_deployment
is_seat d capacity taken is =
    let f = taken.f in
    let sites = taken.sites in
    let most = capacity_few d.seals (choice_of d taken) in
    record { servers = omega (arith, f); sites = omega (arith, sites); capacity = omega (arith, is, most) }

-- it did nothing
pub is_fresh : (d : Deployment) (capacity : ℕ) → IsFresh (first_here d (record { site = 0; index = 0 }) capacity)
is_fresh d capacity = record { view = refl; local = refl; executed = refl; leaf = refl }

-- ---- nothing happened

empty_plain : (Wire : Type 0) → ArePlain {Wire = Wire} empty
unfolding empty ArePlain fresh_node
empty_plain Wire = λ s i. record { running = refl; no_stop = refl; not_apart = refl; empty_journal = refl }

no_customer : (clients : List (Option Client)) (c : ℕ) → entry clients c ≡ None → customer_in clients c ≡ fresh_customer
unfolding customer_in
no_customer clients c none = ap customer_by none

empty_in_range : (seat : Seat) → ListsInRange seat [] []
unfolding joined gathered
empty_in_range seat = record { changes = tt; messages = tt; stands = tt; home = tt; few = omega arith }

no_size : (d : Deployment) → sent_size (world_deployment d) [] ≡ 0
unfolding sent_size
no_size d = refl

pub first_world : (w : World) (d : Deployment) (capacity : ℕ) → IsTaken d → w.deployment ≡ d → scheme_in w.seals ≡ scheme_of d → pen_of w.sealer ≡ pen_in (scheme_of d) (server_at 0 0) → KeepsSealers (scheme_of d) w.sealers
    → capacity ≡ capacity_of d.seals → Stands w.server [] [] → seat_by w.server ≡ view.seat_of d.clients list_serve (first_here d (record { site = 0; index = 0 }) capacity) → ((c : ℕ) → entry w.customers c ≡ None)
    → w.sent ≡ [] → w.size ≡ 0 → pairs_in w.waiting ≡ [] → newest_in w.waiting ≡ 0 → w.made ≡ [] → IsWorld w d empty
unfolding empty fresh_node
first_world w d capacity taken own seals sealer sealers count stands seat customers sent size pairs newest made =
    record {
      set = record { taken = taken; deployment = own; seals = seals; sealer = sealer; sealers = sealers; seat = seat ∙ seat_is d capacity count };
      server = stands;
      kept = empty_in_range (seat_of (world_deployment d) 0 0);
      plain = empty_plain _;
      customers = λ c. no_customer w.customers c (customers c);
      sending =
          record {
            sent = sent;
            number = omega arith;
            size = size ∙ sym (no_size d);
            few = omega (arith, size);
            newest = omega (arith, newest);
            below = tt;
            waiting = pairs;
            made = made;
          };
      going = refl;
    }
