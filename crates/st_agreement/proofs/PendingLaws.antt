-- What a server was to record stays allowed while others go on, and can be recorded.
use Rattle.std.proofs.Common.{◌≡◌, ℕ, ◌<◌, ◌==◌, cond, List, [], ◌∷◌, refl, ap, subst, sym}
use Rattle.std.proofs.lemmas.Bool.{and_from, eq-eqb}
use Rattle.st_message.specs.declared.change.Change.{Change}
use Rattle.st_counts.specs.Counts.{Has}
use Rattle.st_registers.specs.Steps.{IsRun}
use Rattle.st_agreement.specs.MiniSteps.{MiniStep, records, with_record}
use Rattle.st_agreement.specs.Runs.{MayRecord, recordings}
use Rattle.st_agreement.specs.Sites.{Sites, AreSites}
use Rattle.st_agreement.specs.Worlds.{World}
use Rattle.st_agreement.proofs.KeptLaws.{backed-kept}
use Rattle.st_agreement.proofs.WorldLaws.{Extends, with_record-extends}

-- changes that wait stay allowed
pub pending-kept : (d : Sites) (old new : World) (s : ℕ) (rs cs : List Change) → AreSites d → s < d.sites → Extends d old new → MayRecord d old s rs cs → MayRecord d new s rs cs
pending-kept d old new s rs [] sites exists step may = tt
pending-kept d old new s rs (c ∷ cs) sites exists step may =
    (may.0, (backed-kept d old new s c sites step exists may.1.0, pending-kept d old new s (c ∷ rs) cs sites exists step may.1.1))

-- a server's own records, one more
with_record-here : (w : World) (s k : ℕ) (c : Change) → (with_record w s k c).records s k ≡ c ∷ w.records s k
unfolding with_record
with_record-here w s k c = ap (λ b. cond b (c ∷ w.records s k) (w.records s k)) (and_from (s == s) (k == k) (eq-eqb s s refl) (eq-eqb k k refl))

-- and they can be recorded
pub pending-run : (d : Sites) (w : World) (s k : ℕ) (cs : List Change) → AreSites d → s < d.sites → Has k (d.correct s) → MayRecord d w s (w.records s k) cs → IsRun (MiniStep d) w (recordings w s k cs)
pending-run d w s k [] sites exists correct may = tt
pending-run d w s k (c ∷ cs) sites exists correct may =
    let next : World = with_record w s k c in
    let rest : MayRecord d next s (c ∷ w.records s k) cs =
    pending-kept d w next s (c ∷ w.records s k) cs sites exists (with_record-extends d w s k c may.0 may.1.0) may.1.1 in (
      records (record {
        site = s;
        server = k;
        change = c;
        exists = exists;
        correct = correct;
        allowed = may.0;
        backed = may.1.0;
        next = refl;
      }),
      pending-run d next s k cs sites exists correct (subst (λ (rs : List Change). MayRecord d next s rs cs) (sym (with_record-here w s k c)) rest),
    )
