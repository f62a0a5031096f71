-- Reports of what servers had prepared or accepted, bundles of them, and their unions.
use Rattle.std.specs.Prelude.{ℕ, ◌+◌, ◌%◌, max, Bool, true, false, cond, nat_eq, nat_lt, nat_le, ◌&&◌, ◌||◌, not, Option, Some, None, is_some, List, [], ◌∷◌}
use Rattle.st_words.specs.declared.deployment.TheConstants.{WINDOW}
use Rattle.st_words.specs.declared.statement.Item.{Item}
use Rattle.st_words.specs.declared.statement.Statement.{Statement}
use Rattle.st_words.specs.declared.statement.Statement.TheVariants.{LocalReport, GlobalReport, LocalUnion, GlobalUnion}
use Rattle.st_seal.specs.declared.quorum.Signed.{Signed}
use Rattle.st_message.specs.declared.message.Proof.{Proof}
use Rattle.st_message.specs.declared.message.ReportBody.{ReportBody}
use Rattle.st_message.specs.declared.message.Message.TheVariants as messages
use Rattle.st_message.specs.declared.event.Scope.{Scope}
use Rattle.st_message.specs.declared.change.Change.TheVariants.{Union}
use Rattle.st_message.specs.declared.reason.Reason.TheVariants.{NotMine}
use Rattle.st_message.specs.declared.step.Form.TheVariants as forms
use Rattle.st_message.specs.declared.step.Out.{Out}
use Rattle.st_message.specs.declared.step.Out.TheVariants.{Make, Send}
use Rattle.st_protocol.specs.Words.{Quorum, an_item, a_local_report, a_global_report, site_of, index_of, to_site_at}
use Rattle.st_protocol.specs.Keeping.{given}
use Rattle.st_protocol.specs.State.{Term, OfLocal, OfGlobal, report_of, union_of, Here, Sealing, Backed, Share, Slots, Held}
use Rattle.st_protocol.specs.Step.{Answer, Refused, then, making, recording, keeping, putting, when, decides, count_below, all_below, to_list, servers, quorum, to_rep, to_site, not_site, other_view, not_rep, seen, spent, complete, certifies}
use Rattle.st_protocol.specs.Forced.{item_at, item_view, item_local}

-- ---- a server's own report

-- what stood at n, as an item
abbrev pub item_of : ℕ → Backed → Item
item_of n b = an_item n b.view b.local b.value

-- what is kept of the window's numbers, from below
abbrev pub in_window : {A : Type 0} → Here → (ℕ → Option Backed) → (ℕ → Backed → A) → List A
in_window here kept f = all_below (λ k. given (kept (here.executed + 1 + k)) [] (λ b. f (here.executed + 1 + k) b ∷ [])) WINDOW

-- the LocalReport of the local view, or the GlobalReport of the view
abbrev pub report_statement : Here → Slots → Bool → Statement
report_statement here slots false =
    a_local_report here.seat.site here.local here.seat.index here.view here.executed (in_window here slots.prepared item_of)
report_statement here slots true = a_global_report here.seat.site here.view here.seat.index here.executed (in_window here slots.accepted item_of)

-- the Quorum behind each item of the report
abbrev pub report_quorums : Here → Slots → Bool → List Quorum
report_quorums here slots false = in_window here slots.prepared (λ n b. b.quorum)
report_quorums here slots true = in_window here slots.accepted (λ n b. b.quorum)

-- The report of the view that the server is in, for its representative.
abbrev pub make_report : Here → Slots → Option Proof → Bool → Out
make_report here slots base global = Make (report_statement here slots global) (forms.Report (report_quorums here slots global) base) (to_rep here)

-- ---- reports

-- whether a report or a union is of a present view
abbrev pub not_present : Here → Option Term → Bool
not_present here None = true
not_present here (Some (OfLocal x)) = not (nat_eq x here.local)
not_present here (Some (OfGlobal y)) = not (nat_eq y here.view)

-- how many reports are kept
abbrev pub reports_kept : Here → (ℕ → Option ReportBody) → ℕ
reports_kept here kept = count_below (λ i. is_some (kept i)) (servers here)

-- the reports once this one is kept too
abbrev pub with_report : (ℕ → Option ReportBody) → ReportBody → ℕ → Option ReportBody
with_report kept r i = cond (nat_eq (index_of r.statement) i) (Some r) (kept i)

-- `kept` are the reports of this one's kind, for its view
abbrev pub add_report : Here → (ℕ → Option ReportBody) → ReportBody → Answer
add_report here kept r =
    decides
    (not_site here (site_of r.statement)
    ∷ other_view here (not_present here (report_of r.statement))
    ∷ not_rep here
    ∷ seen (is_some (kept (index_of r.statement)) || nat_le (quorum here) (reports_kept here kept))
    ∷ [])
    (then (keeping (messages.Report r))
    (when (nat_le (quorum here) (reports_kept here (with_report kept r)))
    (putting (Send (messages.Bundle (all_below (λ i. to_list (with_report kept r i)) (servers here))) (to_site here)))))

-- ---- the union of reports: the highest item of each number above the greatest base, of the lowest index among equals

-- the view in which a local report was made
abbrev pub view_in : Statement → ℕ
view_in (LocalReport site local index view base items) = view.0
view_in _ = 0

-- the number up to which the reporter had executed
abbrev pub base_in : Statement → ℕ
base_in (LocalReport site local index view base items) = base
base_in (GlobalReport site view index base items) = base
base_in _ = 0

-- what the reporter had prepared or accepted
abbrev pub items_in : Statement → List Item
items_in (LocalReport site local index view base items) = items
items_in (GlobalReport site view index base items) = items
items_in _ = []

-- the greatest of what reports say
unfoldable pub most : (Statement → ℕ) → List ReportBody → ℕ
most f [] = 0
most f (r ∷ rs) = max (f r.statement) (most f rs)

-- An item of a report, and the index of the server that made the report.
pub record Found : Type 0 where
  pub item : Item
  pub index : ℕ

-- what the report has at n
abbrev pub found_in : ℕ → Statement → Option Found
found_in n s = given (item_at n (items_in s)) None (λ i. Some (record { item = i; index = index_of s }))

-- y is of a higher view than x; or of that view and a higher local view; or of both and a lower index
abbrev pub precedes : Found → Found → Bool
precedes y x =
    nat_lt (item_view x.item) (item_view y.item)
    || (nat_eq (item_view x.item) (item_view y.item)
    && (nat_lt (item_local x.item) (item_local y.item) || (nat_eq (item_local x.item) (item_local y.item) && nat_lt y.index x.index)))

-- the one that precedes the other
abbrev pub better : Option Found → Option Found → Option Found
better None y = y
better (Some x) None = Some x
better (Some x) (Some y) = cond (precedes y x) (Some y) (Some x)

-- the best that these reports have at n
unfoldable pub best_found : ℕ → List ReportBody → Option Found
best_found n [] = None
best_found n (r ∷ rs) = better (found_in n r.statement) (best_found n rs)

-- the highest item at n of these reports, of the lowest index among equals
abbrev pub best_item : ℕ → List ReportBody → Option Item
best_item n rs = given (best_found n rs) None (λ f. Some f.item)

-- the highest item of each number above the greatest base
abbrev pub union_items : List ReportBody → List Item
union_items rs = all_below (λ k. to_list (best_item (most base_in rs + 1 + k) rs)) WINDOW

-- the union of a report's kind, of its site and view
abbrev pub union_as : Statement → ℕ → ℕ → List Item → Statement
union_as (LocalReport site local index view base items) greatest least more = LocalUnion site local (record { 0 = greatest }) least more
union_as (GlobalReport site view index base items) greatest least more = GlobalUnion site view least more
union_as s greatest least more = s

-- The union of reports: it is of the first one's kind, site and view.
unfoldable pub union : List ReportBody → Statement
union [] = GlobalUnion (record { 0 = 0 }) (record { 0 = 0 }) 0 []
union (r ∷ rs) = union_as r.statement (most view_in (r ∷ rs)) (most base_in (r ∷ rs)) (union_items (r ∷ rs))

-- `made`: a union of that kind was made there
abbrev pub check_bundle : Here → Option Sealing → List ReportBody → Answer
check_bundle here made [] = Refused NotMine
check_bundle here made (r ∷ rs) =
    decides
    (not_site here (site_of r.statement)
    ∷ other_view here (not_present here (report_of r.statement))
    ∷ seen (is_some made)
    ∷ spent here 1
    ∷ [])
    (making here.leaf (union (r ∷ rs)) forms.Share (to_rep here))

-- ---- unions

-- to whom a union's certificate goes
abbrev pub union_to : Here → Statement → Scope
union_to here (GlobalUnion site view base items) = to_site_at (view.0 % here.seat.sites)
union_to here _ = to_site here

-- `shares` are those of the union's term
abbrev pub on_union_share : Here → (ℕ → Option Share) → Statement → Signed → Answer
on_union_share here shares s signed =
    decides
    (not_site here (site_of s)
    ∷ other_view here (not_present here (union_of s))
    ∷ not_rep here
    ∷ seen (is_some (shares signed.index) || complete here shares)
    ∷ [])
    (certifies here shares s signed (union_to here s))

-- the site that a union is for
abbrev pub union_site : Here → Statement → ℕ
union_site here (GlobalUnion site view base items) = view.0 % here.seat.sites
union_site here s = site_of s

-- `held` is the union of that kind and site that is held
abbrev pub on_union : Here → Option Held → Statement → Quorum → Answer
on_union here held s q =
    decides (not_site here (union_site here s) ∷ other_view here (not_present here (union_of s)) ∷ seen (is_some held) ∷ [])
    (recording (Union s q))
