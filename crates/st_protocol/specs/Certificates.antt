-- When a site or a majority of sites has said something: certificates, and proofs of an order and of views.
use Rattle.std.specs.Prelude.{ℕ, ◌+◌, ◌*◌, ◌/◌, Bool, true, nat_eq, nat_lt, nat_le, ◌&&◌, List, [], ◌∷◌, length}
use Rattle.st_words.specs.declared.ids.Who.{Who}
use Rattle.st_words.specs.declared.value.Value.{Value}
use Rattle.st_words.specs.declared.statement.Statement.{Statement}
use Rattle.st_message.specs.declared.message.SiteWord.{SiteWord}
use Rattle.st_message.specs.declared.message.Proof.{Proof}
use Rattle.st_protocol.specs.Words.{Bytes, Quorum, server_at, an_accept, a_local_vc, a_global_vc, same_value}

-- by which seals hold, at sites of 3f+1 servers
module _ (holds : Who → Statement → Bytes → Bool) (f sites : ℕ) where
  -- with strictly rising indices, from `first` on, each seal over the statement
  unfoldable pub seals_hold : ℕ → Statement → ℕ → Quorum → Bool
  seals_hold site s first [] = true
  seals_hold site s first (x ∷ xs) =
      nat_le first x.index
      && nat_lt x.index (3 * f + 1)
      && holds (server_at site x.index) s x.seal
      && seals_hold site s (x.index + 1) xs

  -- Seals of exactly 2f+1 distinct servers of the site over the statement.
  unfoldable pub is_certificate : ℕ → Statement → Quorum → Bool
  is_certificate site s q = nat_eq (length q) (2 * f + 1) && seals_hold site s 0 q

  -- with strictly rising sites, from `first` on, each site's certificate for its statement
  unfoldable pub words_hold : (ℕ → Statement) → ℕ → List SiteWord → Bool
  words_hold of_site first [] = true
  words_hold of_site first (x ∷ xs) =
      nat_le first x.site.0
      && nat_lt x.site.0 sites
      && is_certificate x.site.0 (of_site x.site.0) x.quorum
      && words_hold of_site (x.site.0 + 1) xs

  -- exactly a majority of sites, each with its certificate
  abbrev pub are_sites : (ℕ → Statement) → List SiteWord → Bool
  are_sites of_site words = nat_eq (length words) (sites / 2 + 1) && words_hold of_site 0 words

  -- An order proof of the number and the value.
  unfoldable pub is_order_proof : ℕ → Value → Proof → Bool
  is_order_proof number value p = same_value p.value value && are_sites (λ site. an_accept site p.view.0 number value) p.sites

  -- A proof that the view was asked for.
  unfoldable pub is_view_proof : ℕ → List SiteWord → Bool
  is_view_proof view words = are_sites (λ site. a_global_vc site view) words

  -- A proof that the local view was asked for at a site.
  unfoldable pub is_local_proof : ℕ → ℕ → Quorum → Bool
  is_local_proof site local q = is_certificate site (a_local_vc site local) q
