-- The view that a server is in was entered, and its record has the proof.
use Rattle.std.proofs.Common.{◌≡◌, ℕ, ◌<◌, Bool, true, false, List, [], ◌∷◌, sym, subst, refl, inl, inr, arith}
use Rattle.std.specs.Prelude.{nat_lt, max}
use Rattle.std.specs.List.{AllByRecursion as Each}
use Rattle.st_message.specs.declared.message.SiteWord.{SiteWord}
use Rattle.st_message.specs.declared.change.Change.{Change}
use Rattle.st_message.specs.declared.change.Change.TheVariants.{EnterLocal, EnterGlobal, Made, Prepared, Accepted, Union, Executed}
use Rattle.st_schedule.specs.declared.line.Line.{Line}
use Rattle.st_counts.specs.Counts.{Has}
use Rattle.st_protocol.specs.Words.{Quorum}
use Rattle.st_protocol.specs.Keeping.{gathered, joined, most_of}
use Rattle.st_protocol.specs.Questions.{view_entered, local_entered}
use Rattle.st_protocol.specs.World.{Deployment, World, empty}
use Rattle.st_protocol.specs.Schedule.{steps}
use Rattle.st_protocol.specs.Certificates.{is_view_proof, is_local_proof}
use Rattle.st_ranges.specs.Ranges.{MessageInRange}
use Rattle.st_ranges.specs.Deployments.{DeploymentInRange, LineInRange}
use Rattle.st_honest_laws.specs.Honest.{SealsAreRead}
use Rattle.st_certificate_laws.specs.Certified.{record_is_certified}
use Rattle.st_certificate_laws.specs.Views.{view_at, local_at, IsLocalProved, IsViewProved}
use Rattle.st_certificate_laws.proofs.RiseLaws.{view_said, local_said}
use Rattle.st_certificate_laws.proofs.CertificateWorlds.{records_certified}

-- ---- the greatest that was entered is recorded

-- what holds of each of two above zero holds of the greater
greater : (a b : ℕ) (P : ℕ → Type 0) → (0 < a → P a) → (0 < b → P b) → 0 < max a b → P (max a b)
greater a b P first second above = by (nat_lt a b) refl
  where
    by : (t : Bool) → nat_lt a b ≡ t → P (max a b)
    by true e = let is : b ≡ max a b = grind (arith, e) in subst P is (second (omega (arith, above, is)))
    by false e = let is : a ≡ max a b = grind (arith, e) in subst P is (first (omega (arith, above, is)))

module _ (G : ℕ → Quorum → Type 0) (F : Change → Type 0) (give : (x : ℕ) (q : Quorum) → F (EnterLocal (record { 0 = x }) q) → G x q) where
  abbrev Local : List Change → ℕ → Type 0
  Local xs n = (q : Quorum) × (Has (EnterLocal (record { 0 = n }) q) xs × G n q)

  local_one : (y : Change) (ys : List Change) → F y → 0 < local_entered y → Local (y ∷ ys) (local_entered y)
  local_one (EnterLocal x q) ys h above = (q, (inl refl, give x.0 q h))
  local_one (EnterGlobal x q) ys h above = absurd (omega (arith, above))
  local_one (Made k s) ys h above = absurd (omega (arith, above))
  local_one (Prepared s q) ys h above = absurd (omega (arith, above))
  local_one (Accepted s q) ys h above = absurd (omega (arith, above))
  local_one (Union s q) ys h above = absurd (omega (arith, above))
  local_one (Executed n p) ys h above = absurd (omega (arith, above))

  pub local_recorded : (xs : List Change) → Each F xs → 0 < most_of local_entered xs → Local xs (most_of local_entered xs)
  unfolding gathered
  local_recorded [] h above = absurd (omega (arith, above))
  local_recorded (y ∷ ys) h above =
      greater (local_entered y) (most_of local_entered ys) (Local (y ∷ ys)) (local_one y ys h.0) (λ more. let rest = local_recorded ys h.1 more in (rest.0, (inr rest.1.0, rest.1.1))) above

module _ (G : ℕ → List SiteWord → Type 0) (F : Change → Type 0) (give : (y : ℕ) (ws : List SiteWord) → F (EnterGlobal (record { 0 = y }) ws) → G y ws) where
  abbrev Global : List Change → ℕ → Type 0
  Global xs n = (ws : List SiteWord) × (Has (EnterGlobal (record { 0 = n }) ws) xs × G n ws)

  view_one : (y : Change) (ys : List Change) → F y → 0 < view_entered y → Global (y ∷ ys) (view_entered y)
  view_one (EnterGlobal x q) ys h above = (q, (inl refl, give x.0 q h))
  view_one (EnterLocal x q) ys h above = absurd (omega (arith, above))
  view_one (Made k s) ys h above = absurd (omega (arith, above))
  view_one (Prepared s q) ys h above = absurd (omega (arith, above))
  view_one (Accepted s q) ys h above = absurd (omega (arith, above))
  view_one (Union s q) ys h above = absurd (omega (arith, above))
  view_one (Executed n p) ys h above = absurd (omega (arith, above))

  pub view_recorded : (xs : List Change) → Each F xs → 0 < most_of view_entered xs → Global xs (most_of view_entered xs)
  unfolding gathered
  view_recorded [] h above = absurd (omega (arith, above))
  view_recorded (y ∷ ys) h above =
      greater (view_entered y) (most_of view_entered ys) (Global (y ∷ ys)) (view_one y ys h.0) (λ more. let rest = view_recorded ys h.1 more in (rest.0, (inr rest.1.0, rest.1.1))) above

module _ {Wire : Type 0} (d : Deployment Wire) (h : DeploymentInRange d) (formats : SealsAreRead d MessageInRange) (all : List Line) (l : Each (LineInRange d) all) where
  -- the world of these lines
  abbrev last : World Wire
  last = steps d empty all

  -- A local view above 0 was entered by proof;
  pub local_proved : (s i : ℕ) → 0 < local_at d last s i → IsLocalProved d last s i
  local_proved s i above =
      let G : ℕ → Quorum → Type 0 = λ n q. is_local_proof d.formats.holds d.f d.sites s n q ≡ true in
      let fine : Change → Type 0 = λ x. record_is_certified d.formats.holds d.f d.sites s x ≡ true in
      let found = local_recorded G fine (λ x q is. is) (joined (last.nodes s i).bodies) (records_certified d h formats all l s i) (subst (λ n. 0 < n) (local_said d last s i) above) in
      let at = subst (λ n. (q : Quorum) × (Has (EnterLocal (record { 0 = n }) q) (joined (last.nodes s i).bodies) × G n q)) (sym (local_said d last s i)) found in
      record { quorum = at.0; recorded = at.1.0; stands = at.1.1 }

  -- and so was a view.
  pub view_proved : (s i : ℕ) → 0 < view_at d last s i → IsViewProved d last s i
  view_proved s i above =
      let G : ℕ → List SiteWord → Type 0 = λ n ws. is_view_proof d.formats.holds d.f d.sites n ws ≡ true in
      let fine : Change → Type 0 = λ x. record_is_certified d.formats.holds d.f d.sites s x ≡ true in
      let found = view_recorded G fine (λ y ws is. is) (joined (last.nodes s i).bodies) (records_certified d h formats all l s i) (subst (λ n. 0 < n) (view_said d last s i) above) in
      let at = subst (λ n. (ws : List SiteWord) × (Has (EnterGlobal (record { 0 = n }) ws) (joined (last.nodes s i).bodies) × G n ws)) (sym (view_said d last s i)) found in
      record { words = at.0; recorded = at.1.0; stands = at.1.1 }
