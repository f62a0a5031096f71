-- How a local view and a view are asked for and entered.
use Rattle.std.specs.Prelude.{ℕ, ◌+◌, Bool, false, cond, nat_eq, nat_le, ◌||◌, Option, Some, None, is_some, List, [], ◌∷◌}
use Rattle.st_words.specs.declared.statement.Statement.{Statement}
use Rattle.st_seal.specs.declared.quorum.Signed.{Signed}
use Rattle.st_message.specs.declared.message.SiteWord.{SiteWord}
use Rattle.st_message.specs.declared.message.Message.TheVariants as messages
use Rattle.st_message.specs.declared.event.Scope.TheVariants as scopes
use Rattle.st_message.specs.declared.change.Change.TheVariants.{EnterLocal, EnterGlobal}
use Rattle.st_message.specs.declared.step.Form.TheVariants as forms
use Rattle.st_protocol.specs.Words.{Quorum, a_local_vc, a_global_vc, a_site_word}
use Rattle.st_protocol.specs.Keeping.{given}
use Rattle.st_protocol.specs.State.{Here, Sealing, Share, Vote, Asked, Votes}
use Rattle.st_protocol.specs.Step.{Answer, then, making, recording, keeping, when, decides, count_below, all_below, one_if, majority, to_rep, to_site, not_site, other_view, not_rep, bound, seen, spent, complete, completes, completed, certifies}

-- ---- the timeouts

-- `made` is the LocalVc of the next local view, if any
abbrev pub on_local_timeout : Here → Option Sealing → Answer
on_local_timeout here made =
    decides (bound (here.local + 1) ∷ seen (is_some made) ∷ spent here 1 ∷ [])
    (making here.leaf (a_local_vc here.seat.site (here.local + 1)) forms.Share (to_site here))

-- `made` is the GlobalVc of the next view, if any
abbrev pub on_global_timeout : Here → Option Sealing → Answer
on_global_timeout here made =
    decides (bound (here.view + 1) ∷ seen (is_some made) ∷ spent here 1 ∷ [])
    (making here.leaf (a_global_vc here.seat.site (here.view + 1)) forms.Share (to_rep here))

-- ---- local views

-- the kept votes for one view, as shares of it
abbrev pub votes_for : Statement → ℕ → (ℕ → Option Vote) → ℕ → Option Share
votes_for s view votes i = given (votes i) None (λ v. cond (nat_eq v.view view) (Some (record { statement = s; seal = v.seal })) None)

-- for this view or a greater
abbrev pub has_voted : ℕ → Option Vote → Bool
has_voted view vote = given vote false (λ v. nat_le view v.view)

-- A share that asks for a local view: it is kept, and with a quorum for it the local view is entered.
abbrev pub on_local_share : Here → Votes → ℕ → ℕ → Signed → Answer
on_local_share here votes site local signed =
    let statement : Statement = a_local_vc site local in
    let shares : (ℕ → Option Share) = votes_for statement local votes.local in
    let done : Bool = completes here shares statement signed in
    decides
    (not_site here site
    ∷ other_view here (nat_le local here.local)
    ∷ bound local
    ∷ seen (has_voted local (votes.local signed.index) || complete here shares)
    ∷ spent here (one_if done)
    ∷ [])
    (then (keeping (messages.Share statement signed))
    (when done (recording (EnterLocal (record { 0 = local }) (completed here shares statement signed)))))

-- A Quorum that asks for a higher local view: it is entered.
abbrev pub on_local_proof : Here → ℕ → ℕ → Quorum → Answer
on_local_proof here site local q =
    decides (not_site here site ∷ other_view here (nat_le local here.local) ∷ bound local ∷ spent here 1 ∷ [])
    (recording (EnterLocal (record { 0 = local }) q))

-- ---- views

-- A share that asks for a view, at the representative: with a quorum for it the site asks for the view.
abbrev pub on_global_share : Here → Votes → ℕ → ℕ → Signed → Answer
on_global_share here votes site view signed =
    let statement : Statement = a_global_vc site view in
    let shares : (ℕ → Option Share) = votes_for statement view votes.global in
    decides
    (not_site here site
    ∷ other_view here (nat_le view here.view)
    ∷ not_rep here
    ∷ bound view
    ∷ seen (has_voted view (votes.global signed.index) || complete here shares)
    ∷ [])
    (certifies here shares statement signed scopes.All)

-- the sites' kept certificates once this one is kept too
abbrev pub with_asked : (ℕ → Option Asked) → ℕ → ℕ → Quorum → ℕ → Option Asked
with_asked asked site view q s = cond (nat_eq site s) (Some (record { view = view; quorum = q })) (asked s)

-- a site that asks for this view
abbrev pub asks_for : ℕ → Option Asked → Bool
asks_for view x = given x false (λ a. nat_eq a.view view)

-- a site's word, if it asks for this view
abbrev pub word_for : ℕ → (ℕ → Option Asked) → ℕ → List SiteWord
word_for view asked s = given (asked s) [] (λ a. cond (nat_eq a.view view) (a_site_word s a.quorum ∷ []) [])

-- A site's certificate that asks for a view: it is kept, and with a majority of sites the view is entered.
abbrev pub on_global_vc : Here → Votes → ℕ → ℕ → Quorum → Answer
on_global_vc here votes site view q =
    let asked : (ℕ → Option Asked) = with_asked votes.asked site view q in
    let done : Bool = nat_le (majority here) (count_below (λ s. asks_for view (asked s)) here.seat.sites) in
    decides
    (other_view here (nat_le view here.view)
    ∷ bound view
    ∷ seen (given (votes.asked site) false (λ a. nat_le view a.view))
    ∷ spent here (one_if done)
    ∷ [])
    (then (keeping (messages.Certificate (a_global_vc site view) q))
    (when done (recording (EnterGlobal (record { 0 = view }) (all_below (word_for view asked) here.seat.sites)))))

-- Words of a majority of sites that ask for a higher view: it is entered.
abbrev pub on_view_proof : Here → ℕ → List SiteWord → Answer
on_view_proof here view sites =
    decides (other_view here (nat_le view here.view) ∷ bound view ∷ spent here 1 ∷ [])
    (recording (EnterGlobal (record { 0 = view }) sites))
