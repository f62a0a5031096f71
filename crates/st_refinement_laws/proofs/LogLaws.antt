-- Logs agree entry by entry.
use Rattle.std.proofs.Common.{◌≡◌, ℕ, ◌+◌, ◌<◌, zero, suc, false, List, [], ◌∷◌, ◌++◌, refl, inl, inr, arith}
use Rattle.std.specs.Prelude.{Some, None, slice_get}
use Rattle.st_words.specs.declared.ids.Number.{Number}
use Rattle.st_words.specs.declared.value.Value.{Value}
use Rattle.st_message.specs.declared.message.Proof.{Proof}
use Rattle.st_message.specs.declared.change.Change.{Change}
use Rattle.st_message.specs.declared.change.Change.TheVariants.{EnterLocal, EnterGlobal, Made, Prepared, Accepted, Union, Executed}
use Rattle.st_counts.specs.Counts.{Has}
use Rattle.st_agreement.specs.MiniSteps.{HasExecuted, first}
use Rattle.st_agreement.specs.Records.{executed_of}
use Rattle.st_agreement.specs.Rules.{History}
use Rattle.st_agreement.specs.Sites.{Sites, AreSites}
use Rattle.st_protocol.specs.Keeping.{joined}
use Rattle.st_protocol.specs.Questions.{values_by, executed_in, executed_values}
use Rattle.st_protocol.specs.World.{Deployment, World}
use Rattle.st_ranges.specs.Deployments.{KeepsRanges}
use Rattle.st_answer_laws.specs.Fair.{HasFewFaulty}
use Rattle.st_answer_laws.specs.Plain.{onto, sites_in, plain_of, Refines}
use Rattle.st_answer_laws.proofs.ForcedLaws.{some-is}
use Rattle.st_answer_laws.proofs.RecordLaws.{has-onto}
use Rattle.st_refinement_laws.proofs.RunLaws.{leads-refl}
use Rattle.st_refinement_laws.proofs.WorldLaws.{refines-invariant, executed-agree, runs-exists, runs-correct}

-- An Executed change of this number and value.
record IsLogged (n : ℕ) (v : Value) (xs : List Change) : Type 0 where
  pub number : Number
  pub proof : Proof
  pub among : Has (Executed number proof) xs
  pub of_number : number.0 ≡ n
  pub of_value : proof.value ≡ v

-- the history of what was recorded before
history-before : (d : Sites) (s : ℕ) (xs rs : List Change) → History d s (onto xs rs) → History d s rs
history-before d s [] rs history = history
history-before d s (x ∷ xs) rs history = (history-before d s xs (x ∷ rs) history).1

-- entry i of what is recorded later is of the number i + 1 above what was executed
logged-at : (d : Sites) (s : ℕ) (xs rs : List Change) (i : ℕ) (v : Value) → History d s (onto xs rs) → slice_get (executed_in xs) i ≡ Some v → IsLogged (executed_of rs + i + 1) v xs
unfolding executed_in
logged-at d s [] rs i v history e = absurd (let none : None ≡ Some v = e in cc)
logged-at d s (x ∷ xs) rs i v history e = by_change x i (history-before d s xs (x ∷ rs) history) (λ j. logged-at d s xs (x ∷ rs) j v history) e
  where
    wider : (y : Change) (n : ℕ) → IsLogged n v xs → IsLogged n v (y ∷ xs)
    wider y n h = record { number = h.number; proof = h.proof; among = inr h.among; of_number = h.of_number; of_value = h.of_value }

    by_change : (y : Change) (j : ℕ) → History d s (y ∷ rs) → ((k : ℕ) → slice_get (executed_in xs) k ≡ Some v → IsLogged (executed_of (y ∷ rs) + k + 1) v xs) → slice_get (values_by y ++ executed_in xs) j ≡ Some v → IsLogged (executed_of rs + j + 1) v (y ∷ xs)
    by_change (Executed n p) zero h later f = record { number = n; proof = p; among = inl refl; of_number = omega (arith, h.0); of_value = some-is p.value v f }
    by_change (Executed n p) (suc j) h later f =
        let rest : IsLogged (executed_of rs + 1 + j + 1) v xs = later j f in
        record { number = rest.number; proof = rest.proof; among = inr rest.among; of_number = omega (arith, rest.of_number); of_value = rest.of_value }
    by_change (EnterLocal l q) j h later f = wider (EnterLocal l q) _ (later j f)
    by_change (EnterGlobal l q) j h later f = wider (EnterGlobal l q) _ (later j f)
    by_change (Made l q) j h later f = wider (Made l q) _ (later j f)
    by_change (Prepared l q) j h later f = wider (Prepared l q) _ (later j f)
    by_change (Accepted l q) j h later f = wider (Accepted l q) _ (later j f)
    by_change (Union l q) j h later f = wider (Union l q) _ (later j f)

module _ {Wire : Type 0} (d : Deployment Wire) (few : HasFewFaulty d) (ranges : KeepsRanges d) (sites : AreSites (sites_in d)) where
  -- an entry of a correct server's log was executed
  pub entry-executed : (world : World Wire) (s k i : ℕ) (v : Value) → d.faulty s k ≡ false → Refines d world → slice_get (executed_values (world.nodes s k).bodies) i ≡ Some v → HasExecuted (sites_in d) (plain_of d world) (i + 1) v
  unfolding executed_values
  entry-executed world s k i v runs go e =
      let exists : s < d.sites = runs-exists d few ranges sites s k runs in
      let correct : Has k ((sites_in d).correct s) = runs-correct d few ranges sites s k runs in
      let xs : List Change = joined (world.nodes s k).bodies in
      let logged : IsLogged (0 + i + 1) v xs = logged-at (sites_in d) s xs [] i v ((refines-invariant d few ranges sites first (leads-refl d first) world go).history s k exists correct) e in
      record {
        site = s;
        server = k;
        number = logged.number;
        proof = logged.proof;
        exists = exists;
        correct = correct;
        recorded = has-onto (Executed logged.number logged.proof) xs [] (inl logged.among);
        of_number = omega (arith, logged.of_number);
        of_value = logged.of_value;
      }

  -- The logs of two correct servers agree in each entry that both have.
  pub logs-agree : (world : World Wire) (s k s2 k2 i : ℕ) (u v : Value) → d.faulty s k ≡ false → d.faulty s2 k2 ≡ false → Refines d world →
      slice_get (executed_values (world.nodes s k).bodies) i ≡ Some u → slice_get (executed_values (world.nodes s2 k2).bodies) i ≡ Some v → u ≡ v
  logs-agree world s k s2 k2 i u v runs other go first second =
      executed-agree d few ranges sites world world go (leads-refl d (plain_of d world)) (i + 1) u v (entry-executed world s k i u runs go first) (entry-executed world s2 k2 i v other go second)
