-- What holds of every deployment that is taken today.
use Rattle.std.proofs.Common.{◌≡◌, ◌∙◌, ap, sym, refl, arith, ℕ, ◌+◌, ◌*◌, ◌^◌, ◌<◌, ◌≤◌, ◌&&◌, ◌||◌, not, nat_eq, nat_lt, Bool, true, false, zero, suc, List, [], ◌∷◌, ◌++◌, length, subst}
use Rattle.std.specs.Int.{w32}
use Rattle.std.proofs.lemmas.Bool.{and_parts, eqb-true, ltb-true}
use Rattle.st_words.specs.declared.deployment.Deployment.{Deployment}
use Rattle.st_words.specs.declared.deployment.SealKind.{SealKind}
use Rattle.st_words.specs.declared.deployment.SealKind.TheVariants.{Keyed, Hss}
use Rattle.st_words.specs.declared.ids.ServerId.{ServerId}
use Rattle.st_words.specs.declared.ids.Who.{Who}
use Rattle.st_words.specs.declared.statement.Statement.{Statement}
use Rattle.st_seal.specs.Scheme.{scheme_of}
use Rattle.st_message.specs.declared.change.Change.{Change}
use Rattle.st_message.specs.declared.event.Scope.TheVariants as scopes
use Rattle.st_schedule.specs.declared.line.Dest.TheVariants as dests
use Rattle.st_hss.specs.declared.secret.HssSecret.{HssSecret}
use Rattle.st_hss_seal.specs.Keys.{is_choice, identifier_of}
use Rattle.st_hss_seal.specs.Sealing.{capacity_by}
use Rattle.st_hss_seal.specs.SealingLaws.{IsMade, party_key}
use Rattle.st_wire.specs.Ranges.{KeepsSeal}
use Rattle.st_protocol.specs.Words.{Bytes, a_server, client_at}
use Rattle.st_protocol.specs.Step.{all_below}
use Rattle.st_protocol.specs.World as model
use Rattle.st_protocol.specs.World.{capacity_of, is_listed, is_server, site_dests, dests_of, seat_of}
use Rattle.st_live.specs.Service.{list_serve}
use Rattle.st_ranges.specs.Ranges.{PenKeeps, ServeKeeps, SeatInRange}
use Rattle.st_config.specs.Taken.{IsTaken}
use Rattle.st_sealing.specs.Sealing.{sealed_bytes}
use Rattle.st_deployment.specs.Deployed.{statement_seal, world_deployment}
use Rattle.st_deployment.proofs.SealLengths.{seals_keep}

-- ---- its one server

-- below one is none
below_one : (n : ℕ) → nat_lt n 1 ≡ nat_eq n 0
below_one zero = refl
below_one (suc n) = by (nat_lt (suc n) 1) (nat_eq (suc n) 0) refl refl
  where
    by : (a b : Bool) → nat_lt (suc n) 1 ≡ a → nat_eq (suc n) 0 ≡ b → nat_lt (suc n) 1 ≡ nat_eq (suc n) 0
    by true b e f = absurd (let below = ltb-true (suc n) 1 e in omega (arith, below))
    by false true e f = absurd (let is = eqb-true (suc n) 0 f in omega (arith, is))
    by false false e f = e ∙ sym f

-- It runs its code,
pub runs_code : (d : Deployment) → IsTaken d → (world_deployment d).faulty 0 0 ≡ false
unfolding world_deployment is_listed
runs_code d taken = λ i. is_listed (taken.faulty i) 0 0 || not (nat_lt 0 (taken.sites i) && nat_lt 0 (3 * taken.f i + 1))

-- and no other is there.
pub others_faulty : (d : Deployment) (site index : ℕ) → IsTaken d → (nat_eq site 0 && nat_eq index 0) ≡ false → (world_deployment d).faulty site index ≡ true
unfolding world_deployment is_listed
others_faulty d site index taken is =
    (λ i. is_listed (taken.faulty i) site index || not (nat_lt site (taken.sites i) && nat_lt index (3 * taken.f i + 1)))
    ∙ ((λ i. not (below_one site i && below_one index i)) ∙ ap not is)

-- No server that the deployment has is faulty.
pub faulty_is_none : (d : Deployment) (site index : ℕ) → IsTaken d → (world_deployment d).faulty site index ≡ not (is_server (world_deployment d) site index)
unfolding world_deployment is_listed
faulty_is_none d site index taken = λ i. is_listed (taken.faulty i) site index || not (nat_lt site d.sites && nat_lt index (3 * d.f + 1))

-- ---- destinations

-- a site of one server
site_one : (d : Deployment) (site : ℕ) → IsTaken d → site_dests (world_deployment d) site ≡ dests.Server (a_server site 0) ∷ []
unfolding world_deployment all_below
site_one d site taken = ap (λ f. all_below (λ i. dests.Server (a_server site i) ∷ []) (3 * f + 1)) taken.f

-- All servers are one.
pub dest_all : (d : Deployment) → IsTaken d → dests_of (world_deployment d) scopes.All ≡ dests.Server (a_server 0 0) ∷ []
unfolding world_deployment all_below
dest_all d taken = ap (λ n. all_below (λ s. site_dests (world_deployment d) s) n) taken.sites ∙ site_one d 0 taken

-- So are those of a site.
pub dest_site : (d : Deployment) (site : ℕ) → IsTaken d → dests_of (world_deployment d) (scopes.Site (record { 0 = site })) ≡ dests.Server (a_server site 0) ∷ []
dest_site d site taken = site_one d site taken

-- ---- no journal

pub not_written : (d : Deployment) (changes : List Change) → (world_deployment d).formats.body_size changes ≡ 0
unfolding world_deployment
not_written d changes = refl

-- ---- ranges

-- both definitions count as many leaves
pub capacity_same : (kind : SealKind) → capacity_by kind ≡ capacity_of kind
capacity_same Keyed = refl
capacity_same (Hss height width levels) = refl

-- A result of the list service has four bytes.
pub list_serve_keeps : ServeKeeps list_serve
unfolding list_serve
list_serve_keeps ran op short = omega arith

-- Seals are as long as they may be.
pub pens_keep : (d : Deployment) (who : Who) → is_choice d.seals ≡ true → PenKeeps (statement_seal d who)
pens_keep d who choice leaf s inside = seals_keep d.seals (scheme_of d) who leaf (sealed_bytes d.id s) choice

-- a party's leaves are few
pub capacity_few : (kind : SealKind) → is_choice kind ≡ true → capacity_of kind ≤ 2 ^ 20
capacity_few Keyed choice = omega arith
capacity_few (Hss height width levels) choice =
    let key = party_key [] (client_at 0) height width levels choice in
    let secret : HssSecret = key.0 in
    let is : IsMade height levels (identifier_of [] (client_at 0)) secret = key.2 in
    let capacity = is.capacity in
    let few = is.few in
    omega (arith, capacity, few)

-- Seals are made as the deployment says.
pub choice_of : (d : Deployment) → IsTaken d → is_choice d.seals ≡ true
choice_of d taken = taken.seals

-- The server's numbers are of their widths.
pub seat_in_range : (d : Deployment) → IsTaken d → SeatInRange (seat_of (world_deployment d) 0 0)
unfolding world_deployment
seat_in_range d taken =
    let sites = taken.sites in
    let f = taken.f in
    let few = capacity_few d.seals (choice_of d taken) in
    record {
      site = omega arith;
      index = omega arith;
      sites = omega (arith, sites);
      servers = omega (arith, f);
      capacity = omega (arith, few);
      serve = list_serve_keeps;
    }
