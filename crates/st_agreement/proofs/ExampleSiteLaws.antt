-- The example of one site is a run, and meets what the laws ask for.
use Rattle.std.proofs.Common.{◌≡◌, ℕ, ◌<◌, ◌≤◌, Bool, true, false, IsTrue, List, [], ◌∷◌, refl, sym, ◌∙◌, ap, subst, inl, inr, ⊎_elim, arith}
use Rattle.std.specs.Prelude.{◌==◌, ◌&&◌}
use Rattle.std.specs.List.{list_any}
use Rattle.std.proofs.lemmas.Bool.{and_from, eq-eqb}
use Rattle.st_words.specs.declared.statement.Item.{Item}
use Rattle.st_words.specs.declared.statement.Statement.{Statement}
use Rattle.st_words.specs.declared.statement.Statement.TheVariants.{Prepare, Proposal}
use Rattle.st_words.specs.declared.value.Value.{Value}
use Rattle.st_message.specs.declared.change.Change.{Change}
use Rattle.st_message.specs.declared.change.Change.TheVariants.{Made}
use Rattle.st_counts.specs.Counts.{Has, AllOf}
use Rattle.st_counts.proofs.MemberLaws.{any-from, AllOf-at}
use Rattle.st_registers.specs.Steps.{IsRun}
use Rattle.st_agreement.specs.Certificates.{IsQuorum, IsOrdered}
use Rattle.st_agreement.specs.ExampleMoves.{value, order_proof, Records, plays, after}
use Rattle.st_agreement.specs.ExampleSite.{again, faults, servers, is_correct, one_site, item, report, local_reports, global_reports, union_of_local, union_of_view, seals, accepts, executes, executed_in, proposed, waiting, asks_local, local_0, local_change, local_holds, local_1, view_change, view_holds, view_1, site_moves, site_world}
use Rattle.st_agreement.specs.MiniSteps.{HasExecuted, HasMaker, MiniStep, Invariant, with_record, with_made, first}
use Rattle.st_agreement.specs.Records.{made_of, prepared_of, accepted_of, unions_of, view_of, local_of}
use Rattle.st_agreement.specs.Reports.{Report, local_report, global_report, IsUnion, IsLocalBundle, IsGlobalBundle}
use Rattle.st_agreement.specs.Rules.{ReportsPrepared, ReportsAccepted, MakesPrepare, MakesAccept, HeldSites, SiteUnion, ForcedByLocal, FreeOfLocal, ForcedBySites}
use Rattle.st_agreement.specs.Runs.{HasServers, MayRecord}
use Rattle.st_agreement.specs.Sites.{AreSites, leader}
use Rattle.st_agreement.specs.Statements.{prepare, proposal, global_union, is_prepare, is_proposal, is_accept}
use Rattle.st_agreement.specs.Unions.{IsLocalUnion, IsGlobalUnion}
use Rattle.st_agreement.specs.Worlds.{World, has_made, stands}
use Rattle.st_agreement.proofs.MoveLaws.{CanPlayAll, play-step, plays-run, parts-can, after-among, after-invariant}
use Rattle.st_agreement.proofs.ReportLaws.{bundle-local_union, bundle-global_union}
use Rattle.st_agreement.proofs.RunLaws.{first-invariant}

-- ---- the site

-- four servers, one of them faulty
pub has-servers : HasServers 1 faults servers is_correct
has-servers = record { some = omega arith; many = λ s exists. refl; few_faulty = λ s exists. omega arith }

-- of which three are correct
pub are-sites : AreSites one_site
are-sites = record { some = omega arith; most = λ s exists. omega arith }

-- ---- what is reported

-- the view of a Prepare or a Proposal
abbrev view_at : Statement → ℕ
view_at (Prepare s g l n v) = g.0
view_at (Proposal s g l n v) = g.0
view_at _ = 0

-- its local view
abbrev local_at : Statement → ℕ
local_at (Prepare s g l n v) = l.0
local_at _ = 0

-- and its number
abbrev number_at : Statement → ℕ
number_at (Prepare s g l n v) = n.0
number_at (Proposal s g l n v) = n.0
number_at _ = 0

-- server 1 has prepared the item
reports-prepared : (rs : List Change) → prepared_of rs ≡ prepare 0 0 0 1 value ∷ [] → local_of rs ≡ 1 → ReportsPrepared 1 0 (item 0 ∷ []) rs
reports-prepared rs prepared entered =
    record {
      entered = sym entered;
      covers = λ s g l n v has above.
          ⊎_elim
          (λ (same : prepare s g l n v ≡ prepare 0 0 0 1 value).
          let view : g ≡ 0 = ap view_at same in
          let local : l ≡ 0 = ap local_at same in
          record { item = item 0; among = inl refl; of_number = sym (ap number_at same); high = inr (view, omega arith) })
          (λ no. absurd no)
          (subst (λ (ts : List Statement). Has (prepare s g l n v) ts) prepared has);
    }

-- server 2 has prepared nothing
reports-nothing : (rs : List Change) → prepared_of rs ≡ [] → local_of rs ≡ 1 → ReportsPrepared 1 0 [] rs
reports-nothing rs prepared entered =
    record {
      entered = sym entered;
      covers = λ s g l n v has above. absurd (subst (λ (ts : List Statement). Has (prepare s g l n v) ts) prepared has);
    }

-- both have accepted the item later
reports-accepted : (rs : List Change) → accepted_of rs ≡ proposal 0 0 1 1 value ∷ [] → view_of rs ≡ 1 → ReportsAccepted 1 0 (item 1 ∷ []) rs
reports-accepted rs accepted entered =
    record {
      entered = sym entered;
      covers = λ s g l n v has above.
          ⊎_elim
          (λ (same : proposal s g l n v ≡ proposal 0 0 1 1 value).
          let view : g ≡ 0 = ap view_at same in
          record { item = item 1; among = inl refl; of_number = sym (ap number_at same); high = omega arith })
          (λ no. absurd no)
          (subst (λ (ts : List Statement). Has (proposal s g l n v) ts) accepted has);
    }

-- ---- the bundles and their unions

-- a property of each item of each report
in-items : (P : Item → Type 0) (reports : List Report) → AllOf (λ (r : Report). AllOf P r.items) reports → (r : Report) (i : Item) → Has r reports → Has i r.items → P i
in-items P reports all r i in_r = AllOf-at P r.items (AllOf-at (λ (r : Report). AllOf P r.items) reports all r in_r) i

-- what a report of a correct server needs: it was made
abbrev Was : (Report → Statement) → World → Report → Type 0
Was statement w r = Has r.server (one_site.correct 0) → Has (statement r) (made_of (w.records 0 r.server))

-- one item alone is a union of the reports that have it or nothing
is-union : (reports : List Report) (i : Item) (r : Report) → Has r reports → Has i r.items → AllOf (λ (r : Report). r.base ≤ 0) reports → AllOf (λ (r : Report). AllOf (λ (j : Item). j ≡ i) r.items) reports → IsUnion reports 0 (i ∷ [])
is-union reports i r in_reports in_items based all =
    record {
      based = AllOf-at (λ (r : Report). r.base ≤ 0) reports based;
      each = AllOf-at (λ j. (r : Report) × (Has r reports × Has j r.items)) (i ∷ []) ((r, (in_reports, in_items)), tt);
      covers = λ r j in_r in_items above.
          let same : j ≡ i = in-items (λ j. j ≡ i) reports all r j in_r in_items in
          record { item = i; among = inl refl; of_number = ap (λ (x : Item). x.number.0) (sym same); high = inr (ap (λ (x : Item). x.view.0) same, omega (arith, ap (λ (x : Item). x.local.0) same)) };
      one = λ j k in_j in_k number. AllOf-at (λ j. j ≡ k) (i ∷ []) (AllOf-at (λ k. i ≡ k) (i ∷ []) (refl, tt) k in_k, tt) j in_j;
    }

-- the reports on local view 1
local-bundle : (w : World) → Has (local_report 0 1 (report 1 (item 0 ∷ []))) (made_of (w.records 0 1)) → Has (local_report 0 1 (report 2 [])) (made_of (w.records 0 2)) → IsTrue (stands one_site w 0 (is_prepare 0 0 0 1 value)) → IsLocalBundle one_site w 0 1 local_reports
local-bundle w one two stand =
    record {
      many = omega arith;
      made = AllOf-at (Was (local_report 0 1) w) local_reports ((λ correct. one), ((λ correct. two), ((λ correct. absurd (grind arith)), tt)));
      bounded = λ r i in_r in_items.
          let low : i.view.0 ≡ 0 = in-items (λ i. i.view.0 ≡ 0) local_reports ((refl, tt), (tt, (tt, tt))) r i in_r in_items in omega (arith, low);
      backed = in-items (λ i. IsTrue (stands one_site w 0 (is_prepare 0 i.view.0 i.local.0 i.number.0 i.value))) local_reports ((stand, tt), (tt, (tt, tt)));
    }

-- their union
pub local-items : IsUnion local_reports 0 (item 0 ∷ [])
local-items = is-union local_reports (item 0) (report 1 (item 0 ∷ [])) (inl refl) (inl refl) (omega arith, (omega arith, (omega arith, tt))) ((refl, tt), (tt, (tt, tt)))

-- and bounded by view 0
pub local-bounded : (r : Report) → Has r local_reports → r.view ≤ 0
local-bounded = AllOf-at (λ (r : Report). r.view ≤ 0) local_reports (omega arith, (omega arith, (omega arith, tt)))

-- so the union is backed
local-union : (w : World) → Invariant one_site w → IsLocalBundle one_site w 0 1 local_reports → IsLocalUnion one_site w 0 1 0 0 (item 0 ∷ [])
local-union w inv bundle = bundle-local_union one_site w 0 1 0 0 (item 0 ∷ []) local_reports inv (omega arith) bundle local-items local-bounded

-- the reports on view 1
global-bundle : (w : World) → Has (global_report 0 1 (report 1 (item 1 ∷ []))) (made_of (w.records 0 1)) → Has (global_report 0 1 (report 2 (item 1 ∷ []))) (made_of (w.records 0 2)) → IsTrue (stands one_site w 0 (is_proposal 0 0 1 1 value)) → IsGlobalBundle one_site w 0 1 global_reports
global-bundle w one two stand =
    record {
      many = omega arith;
      made = AllOf-at (Was (global_report 0 1) w) global_reports ((λ correct. one), ((λ correct. two), ((λ correct. absurd (grind arith)), tt)));
      backed = λ r i in_r in_items.
          let same : i ≡ item 1 = in-items (λ i. i ≡ item 1) global_reports ((refl, tt), ((refl, tt), (tt, tt))) r i in_r in_items in
          subst (λ (i : Item). IsTrue (stands one_site w (leader one_site i.view.0) (is_proposal (leader one_site i.view.0) i.view.0 i.local.0 i.number.0 i.value))) (sym same) stand;
    }

-- their union
pub global-items : IsUnion global_reports 0 (item 1 ∷ [])
global-items = is-union global_reports (item 1) (report 1 (item 1 ∷ [])) (inl refl) (inl refl) (omega arith, (omega arith, (omega arith, tt))) ((refl, tt), ((refl, tt), (tt, tt)))

-- so that union is backed
global-union : (w : World) → Invariant one_site w → IsGlobalBundle one_site w 0 1 global_reports → IsGlobalUnion one_site w 0 1 0 (item 1 ∷ [])
global-union w inv bundle = bundle-global_union one_site w 0 1 0 (item 1 ∷ []) global_reports inv (omega arith) bundle global-items

-- ---- what the unions force

-- the statement is a Prepare in these views
abbrev is_prepare_in : (view local : ℕ) → Statement → Bool
is_prepare_in g l (Prepare s2 g2 l2 n2 v2) = g2.0 == g && l2.0 == l
is_prepare_in g l _ = false

-- a list without one has no Prepare in them
none-yet : (g l : ℕ) (ts : List Statement) → list_any (is_prepare_in g l) ts ≡ false → (u : Value) → ¬ Has (prepare 0 g l 1 u) ts
none-yet g l ts none u has =
    let some : list_any (is_prepare_in g l) ts ≡ true = any-from (is_prepare_in g l) (prepare 0 g l 1 u) ts has (and_from (g == g) (l == l) (eq-eqb g g refl) (eq-eqb l l refl)) in
    let no : true ≡ false = sym some ∙ none in cc

-- in local view 1 the local union forces the value
forced-local : (rs : List Change) → Has union_of_local (unions_of rs) → ForcedByLocal 0 0 1 1 again rs
forced-local rs held =
    record {
      union = record { greatest = 0; base = 0; items = item 0 ∷ []; held = held; usable = omega arith; above = omega arith };
      item = item 0;
      among = inl refl;
      of_number = refl;
      of_view = refl;
      of_value = refl;
    }

-- in view 1 it leaves the number free
free-local : (rs : List Change) → Has union_of_local (unions_of rs) → FreeOfLocal 0 1 1 1 rs
free-local rs held =
    record {
      union = record { greatest = 0; base = 0; items = item 0 ∷ []; held = held; usable = omega arith; above = omega arith };
      free = AllOf-at (λ (i : Item). i.number.0 ≡ 1 → ¬ (i.view.0 ≡ 1)) (item 0 ∷ []) ((λ number view. omega arith), tt);
    }

-- and the union for the view forces it
forced-sites : (rs : List Change) → Has union_of_view (unions_of rs) → (held : HeldSites one_site 1 1 rs) × ForcedBySites 1 value held.unions
forced-sites rs held =
    let union : SiteUnion = record { site = 0; base = 0; items = item 1 ∷ [] } in (
      record {
        unions = union ∷ [];
        distinct = ((λ no. no), tt);
        within = AllOf-at (λ (u : SiteUnion). u.site < 1) (union ∷ []) (omega arith, tt);
        many = omega arith;
        held = AllOf-at (λ (u : SiteUnion). Has (global_union u.site 1 u.base u.items) (unions_of rs)) (union ∷ []) (held, tt);
        above = AllOf-at (λ (u : SiteUnion). u.base < 1) (union ∷ []) (omega arith, tt);
      },
      record {
        union = union;
        among = inl refl;
        item = item 1;
        item_among = inl refl;
        of_number = refl;
        of_value = refl;
        highest = λ u i in_u in_i number.
            AllOf-at (λ (u : SiteUnion). (i : Item) → Has i u.items → i.view.0 ≤ 0) (union ∷ []) (AllOf-at (λ (i : Item). i.view.0 ≤ 0) (item 1 ∷ []) (omega arith, tt), tt) u in_u i in_i;
      },
    )

-- so the Prepares may be made, the first in local view 0
makes-first : MakesPrepare one_site 0 0 0 1 value []
makes-first = record { leads = refl; view = refl; local = refl; first = λ u no. no; value = inr (inl refl, inl refl) }

-- in local view 1
makes-local : (rs : List Change) → view_of rs ≡ 0 → local_of rs ≡ 1 → list_any (is_prepare_in 0 1) (made_of rs) ≡ false → Has union_of_local (unions_of rs) → MakesPrepare one_site 0 0 1 1 again rs
makes-local rs view local none held =
    record { leads = refl; view = sym view; local = sym local; first = none-yet 0 1 (made_of rs) none; value = inl (forced-local rs held) }

-- and in view 1
makes-view : (rs : List Change) → view_of rs ≡ 1 → local_of rs ≡ 1 → list_any (is_prepare_in 1 1) (made_of rs) ≡ false → Has union_of_local (unions_of rs) → Has union_of_view (unions_of rs) → MakesPrepare one_site 0 1 1 1 value rs
makes-view rs view local none local_held view_held =
    record {
      leads = refl;
      view = sym view;
      local = sym local;
      first = none-yet 1 1 (made_of rs) none;
      value = (let sites = forced-sites rs view_held in inr (inr (free-local rs local_held), inr (sites.0, inl sites.1)));
    }

-- and so may the Accepts
makes-accept : (g : ℕ) (rs : List Change) → g ≡ view_of rs → Has (proposal (leader one_site g) g 1 1 value) (accepted_of rs) → MakesAccept one_site g 1 value rs
makes-accept g rs view accepted = record { view = view; local = 1; accepted = accepted }

-- ---- the run

-- the worlds between its parts
abbrev reported_local : World
reported_local = after proposed local_change

abbrev united_local : World
united_local = after reported_local (seals 1 union_of_local)

abbrev held_local : World
held_local = after united_local local_holds

abbrev proposed_1 : World
proposed_1 = after held_local local_1

abbrev accepted_0 : World
accepted_0 = after proposed_1 (accepts 1 2 0 1)

abbrev executed_0 : World
executed_0 = after accepted_0 (executes 0 0)

abbrev reported_view : World
reported_view = after executed_0 view_change

abbrev united_view : World
united_view = after reported_view (seals 1 union_of_view)

abbrev held_view : World
held_view = after united_view view_holds

abbrev proposed_2 : World
proposed_2 = after held_view view_1

abbrev accepted_1 : World
accepted_1 = after proposed_2 (accepts 1 2 1 1)

-- each part can be played, by computation and what is said above
local_0-can : CanPlayAll one_site first local_0
unfolding with_record with_made stands
local_0-can = search (inl, inr, refl, arith, makes-first) parts 40

local_change-can : CanPlayAll one_site proposed local_change
unfolding with_record with_made stands
local_change-can = search (inl, inr, refl, arith, reports-prepared, reports-nothing) parts 40

-- the invariant, from part to part
inv-reported_local : Invariant one_site reported_local
inv-reported_local =
    after-invariant one_site proposed local_change are-sites
    (after-invariant one_site first local_0 are-sites (first-invariant one_site) local_0-can) local_change-can

local_union-can : CanPlayAll one_site reported_local (seals 1 union_of_local)
unfolding with_record with_made stands
local_union-can =
    let backed : IsLocalUnion one_site reported_local 0 1 0 0 (item 0 ∷ []) = local-union reported_local inv-reported_local (local-bundle reported_local (inl refl) (inl refl) refl) in
    search (inl, inr, refl, arith, backed) parts 10

inv-united_local : Invariant one_site united_local
inv-united_local = after-invariant one_site reported_local (seals 1 union_of_local) are-sites inv-reported_local local_union-can

local_holds-can : CanPlayAll one_site united_local local_holds
unfolding with_record with_made stands
local_holds-can =
    let backed : IsLocalUnion one_site united_local 0 1 0 0 (item 0 ∷ []) = local-union united_local inv-united_local (local-bundle united_local (inr (inl refl)) (inl refl) refl) in
    let maker : HasMaker one_site united_local 0 union_of_local = record { exists = omega arith; server = 1; correct = inr (inl refl); recorded = inl refl } in
    search (inl, inr, arith, backed, maker) parts 20

local_1-can : CanPlayAll one_site held_local local_1
unfolding with_record with_made stands
local_1-can = search (inl, inr, refl, arith, makes-local) parts 40

accepts_0-can : CanPlayAll one_site proposed_1 (accepts 1 2 0 1)
unfolding with_record with_made stands
accepts_0-can = search (inl, inr, refl, arith, makes-accept) parts 40

executes_0-can : CanPlayAll one_site accepted_0 (executes 0 0)
unfolding with_record with_made stands
executes_0-can = ((omega arith, inl refl, refl, (0, omega arith)), tt)

view_change-can : CanPlayAll one_site executed_0 view_change
unfolding with_record with_made stands
view_change-can = search (inl, inr, refl, arith, reports-accepted) parts 40

inv-reported_view : Invariant one_site reported_view
inv-reported_view =
    after-invariant one_site executed_0 view_change are-sites
    (after-invariant one_site accepted_0 (executes 0 0) are-sites
    (after-invariant one_site proposed_1 (accepts 1 2 0 1) are-sites
    (after-invariant one_site held_local local_1 are-sites
    (after-invariant one_site united_local local_holds are-sites inv-united_local local_holds-can) local_1-can) accepts_0-can) executes_0-can) view_change-can

view_union-can : CanPlayAll one_site reported_view (seals 1 union_of_view)
unfolding with_record with_made stands
view_union-can =
    let backed : IsGlobalUnion one_site reported_view 0 1 0 (item 1 ∷ []) = global-union reported_view inv-reported_view (global-bundle reported_view (inl refl) (inl refl) refl) in
    search (inl, inr, refl, arith, backed) parts 10

view_holds-can : CanPlayAll one_site united_view view_holds
unfolding with_record with_made stands
view_holds-can =
    let inv : Invariant one_site united_view = after-invariant one_site reported_view (seals 1 union_of_view) are-sites inv-reported_view view_union-can in
    let backed : IsGlobalUnion one_site united_view 0 1 0 (item 1 ∷ []) = global-union united_view inv (global-bundle united_view (inr (inl refl)) (inl refl) refl) in
    let maker : HasMaker one_site united_view 0 union_of_view = record { exists = omega arith; server = 1; correct = inr (inl refl); recorded = inl refl } in
    search (inl, inr, arith, backed, maker) parts 20

view_1-can : CanPlayAll one_site held_view view_1
unfolding with_record with_made stands
view_1-can = search (inl, inr, refl, arith, makes-view) parts 40

accepts_1-can : CanPlayAll one_site proposed_2 (accepts 1 2 1 1)
unfolding with_record with_made stands
accepts_1-can = search (inl, inr, refl, arith, makes-accept) parts 40

executes_1-can : CanPlayAll one_site accepted_1 (executes 1 1)
unfolding with_record with_made stands
executes_1-can = ((omega arith, inr (inl refl), refl, (1, omega arith)), tt)

-- ---- the whole run, and its last world

-- its parts one after the other
site-can : CanPlayAll one_site first site_moves
site-can =
    parts-can one_site first
    (local_0 ∷ local_change ∷ seals 1 union_of_local ∷ local_holds ∷ local_1 ∷ accepts 1 2 0 1 ∷ executes 0 0 ∷
    view_change ∷ seals 1 union_of_view ∷ view_holds ∷ view_1 ∷ accepts 1 2 1 1 ∷ executes 1 1 ∷ []) (
      local_0-can,
      (
        local_change-can,
        (
          local_union-can,
          (
            local_holds-can,
            (
              local_1-can,
              (
                accepts_0-can,
                (
                  executes_0-can,
                  (view_change-can, (view_union-can, (view_holds-can, (view_1-can, (accepts_1-can, (executes_1-can, tt)))))),
                ),
              ),
            ),
          ),
        ),
      ),
    )

-- a run
pub site-run : IsRun (MiniStep one_site) first (plays first site_moves)
site-run = plays-run one_site first site_moves site-can

-- which ends in the world
pub site-last : Has site_world (plays first site_moves)
site-last = after-among first site_moves (omega arith)

-- it keeps the invariant
pub site-invariant : Invariant one_site site_world
site-invariant = after-invariant one_site first site_moves are-sites (first-invariant one_site) site-can

-- servers 0 and 1 have executed the value, by the two views' orders
pub site-executed : Has (executed_in 0) (site_world.records 0 0) × Has (executed_in 1) (site_world.records 0 1)
unfolding with_record with_made
site-executed = (inl refl, inl refl)

-- which is to say
pub site-has_executed : HasExecuted one_site site_world 1 value
site-has_executed =
    record {
      site = 0;
      server = 0;
      number = record { 0 = 1 };
      proof = order_proof 0;
      exists = omega arith;
      correct = inl refl;
      recorded = site-executed.0;
      of_number = refl;
      of_value = refl;
    }

-- Proposals of both local views stand
pub site-voices : IsTrue (stands one_site site_world 0 (is_proposal 0 0 0 1 value)) × IsTrue (stands one_site site_world 0 (is_proposal 0 0 1 1 value))
unfolding with_record with_made stands
site-voices = (refl, refl)

-- the bundle on the local view
pub site-local_bundle : IsLocalBundle one_site site_world 0 1 local_reports
unfolding with_record with_made stands
site-local_bundle = local-bundle site_world (search (inl, inr) depth 20) (search (inl, inr) depth 20) refl

-- that on the view
pub site-global_bundle : IsGlobalBundle one_site site_world 0 1 global_reports
unfolding with_record with_made stands
site-global_bundle = global-bundle site_world (search (inl, inr) depth 20) (search (inl, inr) depth 20) refl

-- with the faulty server's seal, servers 0 and 1 are a quorum for the first Prepare
pub site-prepare_quorum : IsQuorum (faults 0) (servers 0) (is_correct 0) (λ k. IsTrue (has_made site_world 0 (is_prepare 0 0 0 1 value) k)) (0 ∷ 1 ∷ 3 ∷ [])
unfolding with_record with_made
site-prepare_quorum =
    record {
      distinct = (grind arith, (grind arith, ((λ no. no), tt)));
      within = AllOf-at (λ k. Has k (servers 0)) (0 ∷ 1 ∷ 3 ∷ []) (inl refl, (inr (inl refl), (inr (inr (inr (inl refl))), tt)));
      many = omega arith;
      honest = AllOf-at (λ k. IsTrue (is_correct 0 k) → IsTrue (has_made site_world 0 (is_prepare 0 0 0 1 value) k)) (0 ∷ 1 ∷ 3 ∷ [])
          ((λ correct. refl), ((λ correct. refl), ((λ (correct : false ≡ true). absurd (cc)), tt)));
    }

-- and servers 1 and 2 for the union
pub site-union_quorum : IsQuorum (faults 0) (servers 0) (is_correct 0) (λ k. Has union_of_local (site_world.made 0 k)) (1 ∷ 2 ∷ 3 ∷ [])
unfolding with_record with_made
site-union_quorum =
    record {
      distinct = (grind arith, (grind arith, ((λ no. no), tt)));
      within = AllOf-at (λ k. Has k (servers 0)) (1 ∷ 2 ∷ 3 ∷ []) (inr (inl refl), (inr (inr (inl refl)), (inr (inr (inr (inl refl))), tt)));
      many = omega arith;
      honest = AllOf-at (λ k. IsTrue (is_correct 0 k) → Has union_of_local (site_world.made 0 k)) (1 ∷ 2 ∷ 3 ∷ [])
          ((λ correct. search (inl, inr) depth 20), ((λ correct. search (inl, inr) depth 20), ((λ (correct : false ≡ true). absurd (cc)), tt)));
    }

-- the only site is a majority of the sites
pub site-ordered : IsOrdered one_site site_world 1 0 value (0 ∷ [])
unfolding with_record with_made stands
site-ordered =
    record {
      distinct = ((λ no. no), tt);
      within = AllOf-at (λ s. s < 1) (0 ∷ []) (omega arith, tt);
      many = omega arith;
      accepted = AllOf-at (λ s. IsTrue (stands one_site site_world s (is_accept s 0 1 value))) (0 ∷ []) (refl, tt);
    }

-- server 1's records force the value in view 0, by the local union, and in view 1
pub site-forced : ForcedByLocal 0 0 1 1 again (site_world.records 0 1)
unfolding with_record with_made
site-forced = forced-local (site_world.records 0 1) (search (inl, inr) depth 20)

-- where the local union leaves the number free
pub site-free : FreeOfLocal 0 1 1 1 (site_world.records 0 1)
unfolding with_record with_made
site-free = free-local (site_world.records 0 1) (search (inl, inr) depth 20)

-- and the site's union forces it
pub site-forced_by_sites : (held : HeldSites one_site 1 1 (site_world.records 0 1)) × ForcedBySites 1 value held.unions
unfolding with_record with_made
site-forced_by_sites = forced-sites (site_world.records 0 1) (inl refl)

-- what server 2 is to record may wait, while server 1 goes on
pub site-waiting : MayRecord one_site proposed 0 (proposed.records 0 2) waiting
unfolding with_record with_made
site-waiting = search (inl, inr, refl, arith, reports-nothing) parts 10

-- by a mini-step
pub site-goes_on : MiniStep one_site proposed (with_record proposed 0 1 (Made 0 asks_local))
site-goes_on = play-step one_site proposed (Records 0 1 (Made 0 asks_local)) local_change-can.0
