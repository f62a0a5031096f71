-- The sites, the states of their correct servers, and the two flat worlds that these are.
use Rattle.std.specs.Prelude.{ℕ, ◌+◌, ◌*◌, ◌&&◌, ◌||◌, not, nat_lt, nat_le, Bool, false, List, length}
use Rattle.std.specs.List.{list_any}
use Rattle.st_words.specs.declared.value.Update.{Update}
use Rattle.st_words.specs.declared.value.Value.{Value}
use Rattle.st_words.specs.declared.value.Value.TheVariants as values
use Rattle.st_words.specs.declared.statement.Statement.{Statement}
use Rattle.st_message.specs.declared.change.Change.{Change}
use Rattle.st_counts.specs.Counts.{count, Has, numbers_below}
use Rattle.st_registers.specs.Tests.{Tests}
use Rattle.st_agreement.specs.Records.{view_of, local_of}
use Rattle.st_agreement.specs.Sites.{Sites, leader}
use Rattle.st_agreement.specs.Statements.{is_prepare, is_proposal, is_proposal_at, is_accept, is_accept_at, view_in, local_in}

-- Of each correct server, by site and index, its records, newest first, and the statements that it has
-- handed out; and the updates that clients have handed out.
pub record World : Type 0 where
  pub records : ℕ → ℕ → List Change
  pub made : ℕ → ℕ → List Statement
  pub updates : List Update

-- the value is no update, or one that its client has handed out
abbrev pub IsOwn : World → Value → Type 0
IsOwn w values.Noop = Unit {0}
IsOwn w (values.Update u) = Has u w.updates

-- the server has handed out a statement that passes
abbrev pub has_made : World → ℕ → (Statement → Bool) → ℕ → Bool
has_made w site test server = list_any test (w.made site server)

-- all but as many correct servers of the site as may be faulty have handed out a statement that passes
unfoldable pub stands : Sites → World → ℕ → (Statement → Bool) → Bool
stands d w site test =
    nat_le (length (d.correct site)) (d.faults site + count (has_made w site test) (d.correct site))

-- The flat world inside the leader site of a view, at a number: its members are the site's correct
-- servers, its views the local views.
abbrev pub inside : Sites → World → ℕ → ℕ → Tests Value
inside d w g n =
    let s : ℕ = leader d g in
    record {
      members = d.correct s;
      proposed = λ l v. stands d w s (is_prepare s g l n v);
      accepted = λ k l v. has_made w s (is_proposal s g l n v) k;
      closed = λ k l.
          not (has_made w s (is_proposal_at s g l n) k) && (nat_lt l (local_of (w.records s k)) || nat_lt g (view_of (w.records s k)));
      logged = λ v. false;
    }

-- a correct server of the site may still accept in the view at the number, or has
abbrev pub may_accept : World → ℕ → ℕ → ℕ → ℕ → Bool
may_accept w s g n k = nat_le (view_of (w.records s k)) g || has_made w s (is_accept_at s g n) k

-- a Proposal of the value stands at the leader site of the view
abbrev pub is_proposed : Sites → World → ℕ → ℕ → Value → Bool
is_proposed d w n g v =
    let s : ℕ = leader d g in
    list_any (λ k. list_any (λ t. stands d w s (is_proposal s g (local_in t) n v)) (w.made s k)) (d.correct s)

-- a majority of sites have accepted the value in the view
abbrev pub are_accepting : Sites → World → ℕ → ℕ → Value → Bool
are_accepting d w n g v = nat_lt d.sites (2 * count (λ s. stands d w s (is_accept s g n v)) (numbers_below d.sites))

-- The flat world of the sites, at a number.
abbrev pub outside : Sites → World → ℕ → Tests Value
outside d w n =
    record {
      members = numbers_below d.sites;
      proposed = is_proposed d w n;
      accepted = λ s g v. stands d w s (is_accept s g n v);
      closed = λ s g. nat_lt (d.faults s + count (may_accept w s g n) (d.correct s)) (length (d.correct s));
      logged = λ v.
          list_any (λ s. list_any (λ k. list_any (λ t. are_accepting d w n (view_in t) v) (w.made s k)) (d.correct s)) (numbers_below d.sites);
    }
