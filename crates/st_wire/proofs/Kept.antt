-- What the ranges of a list say of each of its elements.
use Rattle.std.proofs.Common.{List, [], ◌∷◌, All}
use Rattle.std.proofs.lemmas.List.Elements.{All-nil, All-cons}
use Rattle.st_fields.specs.Spelling.{KeepsEach}
use Rattle.st_seal.specs.declared.quorum.Signed.{Signed}
use Rattle.st_message.specs.declared.message.SiteWord.{SiteWord}
use Rattle.st_message.specs.declared.message.ReportBody.{ReportBody}
use Rattle.st_wire.specs.declared.rising.Rising.{Rising}
use Rattle.st_wire.specs.declared.report.Bundled.{Bundled}
use Rattle.st_wire.specs.Ranges.{KeepsSeal, KeepsSigned, after_signed, KeepsQuorum, KeepsSite, after_site, KeepsBacked, KeepsReport, after_body}

-- what each state's rule says, each element keeps
each_all : {A S : Type 0} (Keeps : S → A → Type 0) (Kept : A → Type 0) (next : S → A → S) → ((s : S) (x : A) → Keeps s x → Kept x) → (s : S) (xs : List A) → KeepsEach Keeps next s xs → All Kept xs
each_all Keeps Kept next says s [] keeps = All-nil Kept
each_all Keeps Kept next says s (x ∷ xs) keeps = All-cons Kept x xs (says s x keeps.0) (each_all Keeps Kept next says (next s x) xs keeps.1)

-- each seal of a quorum keeps its length
pub kept_seals : (r : Rising) (shares : List Signed) → KeepsEach KeepsSigned after_signed r shares → All (λ (s : Signed). KeepsSeal s.seal) shares
kept_seals r shares keeps = each_all KeepsSigned (λ (s : Signed). KeepsSeal s.seal) after_signed (λ t s k. k.1) r shares keeps

-- each site's quorum keeps its ranges
pub kept_sites : (r : Rising) (sites : List SiteWord) → KeepsEach KeepsSite after_site r sites → All (λ (w : SiteWord). KeepsQuorum w.quorum) sites
kept_sites r sites keeps = each_all KeepsSite (λ (w : SiteWord). KeepsQuorum w.quorum) after_site (λ t w k. k.1) r sites keeps

-- each report of a bundle keeps its ranges
pub kept_reports : (b : Bundled) (reports : List ReportBody) → KeepsEach KeepsReport after_body b reports → All KeepsBacked reports
kept_reports b reports keeps = each_all KeepsReport KeepsBacked after_body (λ t r k. k.1) b reports keeps
