-- Changes of views: a union's certificate is held, and a report covers what its server prepared or accepted.
use Rattle.std.proofs.Common.{◌≡◌, ℕ, ◌+◌, ◌<◌, ◌≤◌, ◌⊎◌, Bool, true, false, zero, suc, List, [], ◌∷◌, ◌++◌, refl, sym, ◌∙◌, ap, subst, inl, inr, arith}
use Rattle.std.specs.Prelude.{◌-◌, Option, Some, is_some}
use Rattle.std.proofs.lemmas.Bool.{eqb-true}
use Rattle.st_words.specs.declared.deployment.TheConstants.{WINDOW}
use Rattle.st_words.specs.declared.value.Value.{Value}
use Rattle.st_words.specs.declared.statement.Item.{Item}
use Rattle.st_words.specs.declared.statement.Statement.{Statement}
use Rattle.st_message.specs.declared.message.Message.TheVariants as messages
use Rattle.st_message.specs.declared.change.Change.{Change}
use Rattle.st_message.specs.declared.change.Change.TheVariants.{Union}
use Rattle.st_message.specs.declared.step.Step.{Step}
use Rattle.st_counts.specs.Counts.{Has}
use Rattle.st_counts.proofs.MemberLaws.{has-left, has-right}
use Rattle.st_agreement.specs.MiniSteps.{HasMaker}
use Rattle.st_agreement.specs.Records.{prepared_of, accepted_of, view_of, local_of}
use Rattle.st_agreement.specs.Rules.{Covers, CoversView, Makes}
use Rattle.st_agreement.specs.Sites.{Sites}
use Rattle.st_agreement.specs.Statements.{prepare, proposal, local_union, global_union}
use Rattle.st_agreement.specs.Worlds as plain
use Rattle.st_protocol.specs.Words.{Quorum, an_item, site_of}
use Rattle.st_protocol.specs.Keeping.{given}
use Rattle.st_protocol.specs.State.{OfLocal, OfGlobal, Held, Backed, Answers}
use Rattle.st_protocol.specs.Step.{Steps, all_below, recording, not_site, other_view, seen}
use Rattle.st_protocol.specs.Collecting.{item_of, in_window, report_statement, on_union, union_site, not_present}
use Rattle.st_protocol.specs.Known.{seals_of}
use Rattle.st_protocol.specs.World.{Deployment, World}
use Rattle.st_answer_laws.specs.Plain.{sites_in, plain_of}
use Rattle.st_answer_laws.specs.Sound.{indices, IsSound}
use Rattle.st_answer_laws.specs.Support.{Support, MayStep}
use Rattle.st_answer_laws.proofs.RangeLaws.{quorum-distinct}
use Rattle.st_answer_laws.proofs.SealLaws.{a-quorum, sealed-maker}
use Rattle.st_answer_laws.proofs.NormalLaws.{decides-steps, not-false, Context}

module _ {Wire : Type 0} (d : Deployment Wire) (world : World Wire) (s : ℕ) (q : Answers) (rs : List Change) (on : Context d world s q rs) where
  -- a union that was certified has a correct maker
  union-maker : (t : Statement) (w : Quorum) → site_of t < d.sites → IsSound d world (messages.Certificate t w) → HasMaker (sites_in d) (plain_of d world) (site_of t) t
  unfolding seals_of
  union-maker t w exists sound =
      sealed-maker d world on.few (site_of t) t (indices w) on.invariant exists
      (a-quorum d world on.few (site_of t) t w sound.exact.1 (quorum-distinct w sound.ranged.0.1) sound.honest)

  -- A local union's certificate: it is held.
  pub local_union-may : (site local greatest base : ℕ) (items : List Item) (held : Option Held) (w : Quorum) (step : Step) → IsSound d world (messages.Certificate (local_union site local greatest base items) w) →
      on_union q.here held (local_union site local greatest base items) w ≡ Steps step → MayStep (sites_in d) (plain_of d world) s rs step
  local_union-may site local greatest base items held w step sound e =
      let t : Statement = local_union site local greatest base items in
      let passed = decides-steps (not_site q.here (union_site q.here t) ∷ other_view q.here (not_present q.here (Some (OfLocal local))) ∷ seen (is_some held) ∷ []) (recording (Union t w)) step e in
      let of_site : site ≡ s = eqb-true site q.here.seat.site (not-false _ passed.0.0) ∙ on.support.site in
      let in_local : local ≡ local_of rs = eqb-true local q.here.local (not-false _ passed.0.1.0) ∙ on.support.tells.local in
      subst (λ (x : Step). MayStep (sites_in d) (plain_of d world) s rs x) passed.1
      (record { simple = (tt, tt); may = ((of_site, in_local), (union-maker t w (subst (λ z. z < d.sites) (sym of_site) on.exists) sound, tt)); puts = tt })

  -- A site's union's certificate: it is held.
  pub global_union-may : (site view base : ℕ) (items : List Item) (held : Option Held) (w : Quorum) (step : Step) → IsSound d world (messages.Certificate (global_union site view base items) w) →
      on_union q.here held (global_union site view base items) w ≡ Steps step → MayStep (sites_in d) (plain_of d world) s rs step
  global_union-may site view base items held w step sound e =
      let t : Statement = global_union site view base items in
      let passed = decides-steps (not_site q.here (union_site q.here t) ∷ other_view q.here (not_present q.here (Some (OfGlobal view))) ∷ seen (is_some held) ∷ []) (recording (Union t w)) step e in
      let in_view : view ≡ view_of rs = eqb-true view q.here.view (not-false _ passed.0.1.0) ∙ on.support.tells.view in
      let exists : site < d.sites = sound.exact.0.0 in
      subst (λ (x : Step). MayStep (sites_in d) (plain_of d world) s rs x) passed.1
      (record { simple = (tt, tt); may = ((exists, in_view), (union-maker t w exists sound, tt)); puts = tt })

-- ---- reports

-- what is gathered of a number below k is there
pub all_below-has : {A : Type 0} (f : ℕ → List A) (k i : ℕ) (x : A) → i < k → Has x (f i) → Has x (all_below f k)
unfolding all_below
all_below-has f zero i x less has = absurd (omega (arith, less))
all_below-has f (suc k) i x less has = by_place (up-to i k (omega (arith, less))) (λ lower. all_below-has f k i x lower has)
  where
    up-to : (a b : ℕ) → a ≤ b → (a ≡ b) ⊎ (a < b)
    up-to a b low = grind (arith, low)

    by_place : (i ≡ k) ⊎ (i < k) → (i < k → Has x (all_below f k)) → Has x (all_below f k ++ f k)
    by_place (inl same) later = has-right x (all_below f k) (f k) (subst (λ j. Has x (f j)) same has)
    by_place (inr lower) later = has-left x (all_below f k) (f k) (later lower)

-- A report on a local view is of what is prepared, one on a view of what is accepted: the statements of it that records
-- hold, and what the answers keep of a number.
abbrev pub held_by : Bool → List Change → List Statement
held_by false rs = prepared_of rs
held_by true rs = accepted_of rs

abbrev pub held_as : Bool → ℕ → ℕ → ℕ → ℕ → Value → Statement
held_as false s g l n v = prepare s g l n v
held_as true s g l n v = proposal s g l n v

abbrev pub kept_by : Bool → Answers → ℕ → Option Backed
kept_by false q = q.slots.prepared
kept_by true q = q.slots.accepted

-- What the answers keep of them: of each in the records with an open number a value at least as high.
pub record Keeps (global : Bool) (q : Answers) (rs : List Change) : Type 0 where
  pub kept : (s g l n : ℕ) (v : Value) → Has (held_as global s g l n v) (held_by global rs) → q.here.executed < n → (b : Backed) × ((kept_by global q n ≡ Some b) × ((g < b.view) ⊎ ((g ≡ b.view) × (l ≤ b.local))))
  -- and none is beyond the window
  pub window : (s g l n : ℕ) (v : Value) → Has (held_as global s g l n v) (held_by global rs) → n ≤ q.here.executed + WINDOW

-- a report covers them
covered : (global : Bool) (q : Answers) (rs : List Change) → Keeps global q rs → (s g l n : ℕ) (v : Value) → Has (held_as global s g l n v) (held_by global rs) → q.here.executed < n → Covers (in_window q.here (kept_by global q) item_of) n g l
covered global q rs keeps s g l n v has above =
    let kept = keeps.kept s g l n v has above in
    let low : n ≤ q.here.executed + WINDOW = keeps.window s g l n v has in
    let k : ℕ = n - (q.here.executed + 1) in
    let number : q.here.executed + 1 + k ≡ n = omega (arith, above) in
    let less : k < WINDOW = omega (arith, above, low) in
    let at : kept_by global q (q.here.executed + 1 + k) ≡ Some kept.0 = ap (kept_by global q) number ∙ kept.1.0 in
    let i : Item = an_item (q.here.executed + 1 + k) kept.0.view kept.0.local kept.0.value in
    record {
      item = i;
      among = all_below-has (λ j. given (kept_by global q (q.here.executed + 1 + j)) [] (λ b. item_of (q.here.executed + 1 + j) b ∷ [])) WINDOW k i less
          (subst (λ (o : Option Backed). Has i (given o [] (λ b. item_of (q.here.executed + 1 + k) b ∷ []))) (sym at) (inl refl));
      of_number = number;
      high = kept.1.1;
    }

-- A server may make its report on the view, or the local view, that it is in.
pub report-may : (global : Bool) (d : Sites) (w : plain.World) (s : ℕ) (q : Answers) (rs : List Change) → Support d w s q rs → Keeps global q rs → Makes d s (report_statement q.here q.slots global) rs
report-may false d w s q rs support keeps = (support.site, record { entered = support.tells.local; covers = covered false q rs keeps })
report-may true d w s q rs support keeps = (support.site, record { entered = support.tells.view; covers = in_view })
  where
    view_alone : {g l h m : ℕ} → (g < h) ⊎ ((g ≡ h) × (l ≤ m)) → g ≤ h
    view_alone (inl a) = omega (arith, a)
    view_alone (inr a) = omega (arith, a.0)

    in_view : (s2 g l n : ℕ) (v : Value) → Has (proposal s2 g l n v) (accepted_of rs) → q.here.executed < n → CoversView (in_window q.here q.slots.accepted item_of) n g
    in_view s2 g l n v has above =
        let item = covered true q rs keeps s2 g l n v has above in record { item = item.item; among = item.among; of_number = item.of_number; high = view_alone item.high }
