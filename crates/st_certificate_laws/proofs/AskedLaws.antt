-- Of the seals by which a view was entered, each that names a correct server was handed out by it.
use Rattle.std.proofs.Common.{ℕ, ◌+◌, List, [], ◌∷◌, ◌≡◌, true, length, nat_eq}
use Rattle.std.specs.List.{AllByRecursion as Each}
use Rattle.std.proofs.lemmas.Bool.{and_parts}
use Rattle.std.specs.Prelude.{◌/◌}
use Rattle.st_words.specs.declared.statement.Statement.{Statement}
use Rattle.st_message.specs.declared.message.SiteWord.{SiteWord}
use Rattle.st_message.specs.declared.change.Change.{Change}
use Rattle.st_message.specs.declared.change.Change.TheVariants.{EnterLocal, EnterGlobal}
use Rattle.st_message.specs.declared.made.MadeSeal.{MadeSeal}
use Rattle.st_schedule.specs.declared.line.Line.{Line}
use Rattle.st_protocol.specs.Words.{Quorum, a_local_vc, a_global_vc}
use Rattle.st_protocol.specs.Keeping.{joined}
use Rattle.st_protocol.specs.Known.{in_quorum, in_sites}
use Rattle.st_protocol.specs.World.{Deployment, World, empty}
use Rattle.st_protocol.specs.Schedule.{steps}
use Rattle.st_protocol.specs.Certificates.{seals_hold, words_hold, is_view_proof, is_local_proof}
use Rattle.st_ranges.specs.Ranges.{MessageInRange}
use Rattle.st_ranges.specs.Deployments.{DeploymentInRange, LineInRange}
use Rattle.st_ranges.proofs.WorldLaws.{WorldInRange, empty_in_range}
use Rattle.st_frame_laws.proofs.ChoiceLaws.{append_parts, joined_all, each_has}
use Rattle.st_honest_laws.specs.Honest.{in_change, SealsAreRead, IsHonest}
use Rattle.st_honest_laws.proofs.HonestWorlds.{records_honest}
use Rattle.st_honest_laws.proofs.RangedLaws.{ReadsInRange, ranged}
use Rattle.st_certificate_laws.specs.Views.{view_at, local_at, IsLocalProved, IsViewProved, HaveAsked}
use Rattle.st_certificate_laws.proofs.QuorumLaws.{seal_parts, certificate_holds, word_parts}

module _ {Wire : Type 0} (d : Deployment Wire) where
  -- the seals of a proof of a local view
  local_seals : (site local : ℕ) (q : Quorum) → is_local_proof d.formats.holds d.f d.sites site local q ≡ true → seals_hold d.formats.holds d.f d.sites site (a_local_vc site local) 0 q ≡ true
  unfolding is_local_proof
  local_seals site local q e = certificate_holds d.formats.holds d.f d.sites site (a_local_vc site local) q e

  -- the words of a proof of a view
  view_words : (view : ℕ) (ws : List SiteWord) → is_view_proof d.formats.holds d.f d.sites view ws ≡ true → words_hold d.formats.holds d.f d.sites (λ s. a_global_vc s view) 0 ws ≡ true
  unfolding is_view_proof
  view_words view ws e = (and_parts (nat_eq (length ws) (d.sites / 2 + 1)) (words_hold d.formats.holds d.f d.sites (λ s. a_global_vc s view) 0 ws) e).1

module _ {Wire : Type 0} (d : Deployment Wire) (made : List MadeSeal) where
  -- seals that check and are honest are of what was handed out
  asked_seals : (site : ℕ) (t : Statement) (first : ℕ) (q : Quorum) → seals_hold d.formats.holds d.f d.sites site t first q ≡ true → Each (IsHonest d made) (in_quorum site t q) → HaveAsked d made site t q
  unfolding in_quorum
  asked_seals site t first [] a h = tt
  asked_seals site t first (x ∷ xs) a h =
      let parts = seal_parts d.formats.holds d.f d.sites site t first x xs a in
      (λ correct. h.0 correct parts.1.1.0, asked_seals site t (x.index + 1) xs parts.1.1.1 h.1)

  -- so are those of each site's word
  asked_words : (view first : ℕ) (ws : List SiteWord) → words_hold d.formats.holds d.f d.sites (λ s. a_global_vc s view) first ws ≡ true → Each (IsHonest d made) (in_sites (λ s. a_global_vc s view) ws) →
      Each (λ (w : SiteWord). HaveAsked d made w.site.0 (a_global_vc w.site.0 view) w.quorum) ws
  unfolding in_sites
  asked_words view first [] a h = tt
  asked_words view first (w ∷ ws) a h =
      let word = word_parts d.formats.holds d.f d.sites (λ s. a_global_vc s view) first w ws a in
      let parts = append_parts (IsHonest d made) (in_quorum w.site.0 (a_global_vc w.site.0 view) w.quorum) (in_sites (λ s. a_global_vc s view) ws) h in (
        asked_seals w.site.0 (a_global_vc w.site.0 view) 0 w.quorum
            (certificate_holds d.formats.holds d.f d.sites w.site.0 (a_global_vc w.site.0 view) w.quorum word.1.1.0) parts.0,
        asked_words view (w.site.0 + 1) ws word.1.1.1 parts.1,
      )

module _ {Wire : Type 0} (d : Deployment Wire) (h : DeploymentInRange d) (formats : SealsAreRead d MessageInRange) (all : List Line) (l : Each (LineInRange d) all) where
  -- the world of these lines
  abbrev last : World Wire
  last = steps d empty all

  -- all seals in its records are honest
  honest : (s i : ℕ) → Each (λ (x : Change). Each (IsHonest d last.made) (in_change s x)) (joined (last.nodes s i).bodies)
  honest s i =
      joined_all (λ (x : Change). Each (IsHonest d last.made) (in_change s x)) (last.nodes s i).bodies
      (records_honest d (WorldInRange d) (ReadsInRange d h) (LineInRange d) MessageInRange formats (ranged d h) all l (empty_in_range d h) s i)

  -- Each correct server whose seal proves a local view has asked for it.
  pub local_asked : (s i : ℕ) (p : IsLocalProved d last s i) → HaveAsked d last.made s (a_local_vc s (local_at d last s i)) p.quorum
  local_asked s i p =
      asked_seals d last.made s (a_local_vc s (local_at d last s i)) 0 p.quorum
      (local_seals d s (local_at d last s i) p.quorum p.stands)
      (each_has (λ (x : Change). Each (IsHonest d last.made) (in_change s x)) (joined (last.nodes s i).bodies) (EnterLocal (record { 0 = local_at d last s i }) p.quorum) (honest s i) p.recorded)

  -- Each correct server whose seal proves a view has asked for it.
  pub view_asked : (s i : ℕ) (p : IsViewProved d last s i) → Each (λ (w : SiteWord). HaveAsked d last.made w.site.0 (a_global_vc w.site.0 (view_at d last s i)) w.quorum) p.words
  view_asked s i p =
      asked_words d last.made (view_at d last s i) 0 p.words
      (view_words d (view_at d last s i) p.words p.stands)
      (each_has (λ (x : Change). Each (IsHonest d last.made) (in_change s x)) (joined (last.nodes s i).bodies) (EnterGlobal (record { 0 = view_at d last s i }) p.words) (honest s i) p.recorded)
