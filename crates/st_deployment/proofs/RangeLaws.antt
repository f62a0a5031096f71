-- Deployments of files are in range, few of their servers are faulty, and those that are taken today are such.
use Rattle.std.proofs.Common.{◌≡◌, sym, refl, arith, ℕ, ◌+◌, ◌*◌, ◌<◌, ◌≤◌, ◌&&◌, ◌||◌, not, nat_lt, Bool, true, false, zero, suc, List, [], ◌∷◌, subst}
use Rattle.std.proofs.lemmas.Bool.{and_from, lt-ltb}
use Rattle.st_words.specs.declared.deployment.Deployment.{Deployment}
use Rattle.st_words.specs.declared.ids.ServerId.{ServerId}
use Rattle.st_words.specs.declared.ids.Who.{Who}
use Rattle.st_words.specs.declared.statement.Statement.{Statement}
use Rattle.st_counts.specs.Counts.{Has, count, numbers_below}
use Rattle.st_counts.proofs.CountLaws.{count-same}
use Rattle.st_counts.proofs.MemberLaws.{numbers_below-lt}
use Rattle.st_protocol.specs.Words.{Bytes}
use Rattle.st_protocol.specs.World.{is_listed}
use Rattle.st_ranges.specs.Ranges.{PenKeeps, ServeKeeps}
use Rattle.st_ranges.specs.Deployments.{DeploymentInRange}
use Rattle.st_config.specs.Taken.{IsTaken}
use Rattle.st_server.specs.Deployed.{runs_no_code}
use Rattle.st_deployment.specs.Deployed.{of_file}
use Rattle.st_deployment.specs.Deployable.{IsDeployable, three_sites}
use Rattle.st_deployment.proofs.SetLaws.{capacity_few}
use Rattle.st_deployment.proofs.FormatLaws.{sent_same}

-- ---- which servers run code

-- neither of two
neither : (a b : Bool) → (a || not b) ≡ false → b ≡ true
neither true b e = absurd (let no : true ≡ false = e in cc)
neither false true e = refl
neither false false e = absurd (let no : true ≡ false = e in cc)

-- a server that runs code is there
runs_there : (d : Deployment) (site index : ℕ) → runs_no_code d site index ≡ false → (nat_lt site d.sites && nat_lt index (3 * d.f + 1)) ≡ true
runs_there d site index e = neither (is_listed d.faulty site index) (nat_lt site d.sites && nat_lt index (3 * d.f + 1)) e

-- a server that is there runs no code where it is listed
listed_only : (d : Deployment) (s k : ℕ) → s < d.sites → Has k (numbers_below (3 * d.f + 1)) → runs_no_code d s k ≡ is_listed d.faulty s k
listed_only d s k exists has =
    by (is_listed d.faulty s k) (nat_lt s d.sites && nat_lt k (3 * d.f + 1))
    (and_from (nat_lt s d.sites) (nat_lt k (3 * d.f + 1)) (lt-ltb s d.sites exists) (lt-ltb k (3 * d.f + 1) (numbers_below-lt k (3 * d.f + 1) has)))
  where
    by : (a b : Bool) → b ≡ true → (a || not b) ≡ a
    by true b e = refl
    by false true e = refl
    by false false e = sym e

module _ (d : Deployment) (deployable : IsDeployable d) where
  -- At most f servers of a site run no code.
  pub few_faulty : (s : ℕ) → s < d.sites → count (runs_no_code d s) (numbers_below (3 * d.f + 1)) ≤ d.f
  few_faulty s exists =
      let same = count-same (runs_no_code d s) (is_listed d.faulty s) (numbers_below (3 * d.f + 1)) (λ k has. listed_only d s k exists has) in
      let few = deployable.few_faulty s exists in
      omega (arith, same, few)

  -- Whatever service and seals that keep their ranges.
  pub file_in_range : (serve : List Bytes → Bytes → Bytes) (seal : Who → ℕ → Statement → Bytes) → ServeKeeps serve → ((who : Who) → PenKeeps (seal who)) →
      DeploymentInRange (of_file d serve (runs_no_code d) seal)
  file_in_range serve seal serves seals =
      record {
        keeps =
            record {
              sites = deployable.sites;
              servers = deployable.servers;
              capacity = let few = capacity_few d.seals deployable.seals in omega (arith, few);
              serve = serves;
              seals = seals;
              runs = λ site index e. runs_there d site index e;
            };
        reads = λ m n inside e. sent_same d m n deployable.id inside e;
      }

-- ---- which deployments there are

-- There is such a deployment with faulty servers.
pub three_deployable : IsDeployable three_sites
unfolding is_listed
three_deployable =
    record {
      id = omega arith;
      some = omega arith;
      sites = omega arith;
      servers = omega arith;
      seals = refl;
      few_faulty = few;
    }
  where
    few : (s : ℕ) → s < 3 → count (is_listed three_sites.faulty s) (numbers_below 4) ≤ 1
    few zero below = omega arith
    few (suc zero) below = omega arith
    few (suc (suc zero)) below = omega arith
    few (suc (suc (suc s))) below = absurd (omega (arith, below))

-- of no list a server is faulty
none_listed : (s : ℕ) (ks : List ℕ) → count (is_listed [] s) ks ≡ 0
unfolding is_listed
none_listed s [] = refl
none_listed s (k ∷ ks) = let more = none_listed s ks in omega (arith, more)

-- What is taken today is such a deployment.
pub taken_deployable : (d : Deployment) → IsTaken d → IsDeployable d
taken_deployable d taken =
    let id = taken.id in
    let sites = taken.sites in
    let f = taken.f in
    record {
      id = omega (arith, id);
      some = omega (arith, sites);
      sites = omega (arith, sites);
      servers = omega (arith, f);
      seals = taken.seals;
      few_faulty = λ s exists. subst (λ (xs : List ServerId). count (is_listed xs s) (numbers_below (3 * d.f + 1)) ≤ d.f) (sym taken.faulty) (let none = none_listed s (numbers_below (3 * d.f + 1)) in omega (arith, none));
    }
