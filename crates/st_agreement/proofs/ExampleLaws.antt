-- The example is a run.
use Rattle.std.proofs.Common.{◌≡◌, ℕ, ◌<◌, ◌≤◌, ◌++◌, true, IsTrue, List, [], ◌∷◌, refl, sym, ◌∙◌, ap, subst, inl, inr, ⊎_elim, arith}
use Rattle.st_words.specs.declared.statement.Item.{Item}
use Rattle.st_words.specs.declared.statement.Statement.{Statement}
use Rattle.st_words.specs.declared.statement.Statement.TheVariants.{Accept}
use Rattle.st_message.specs.declared.change.Change.TheVariants.{EnterGlobal, Made}
use Rattle.st_counts.specs.Counts.{Has}
use Rattle.st_registers.specs.Steps.{IsRun}
use Rattle.st_agreement.specs.Example.{three, item, union, empty_union, view_0, change, view_1, executes, moves}
use Rattle.st_agreement.specs.ExampleMoves.{value, order_proof, Move, Records, plays, after}
use Rattle.st_agreement.specs.MiniSteps.{HasExecuted, HasMaker, MiniStep, with_record, with_made, first}
use Rattle.st_agreement.specs.Records.{made_of, unions_of, view_of}
use Rattle.st_agreement.specs.Rules.{MakesPrepare, SiteUnion, HeldSites, ForcedBySites}
use Rattle.st_agreement.specs.Sites.{AreSites, leader}
use Rattle.st_agreement.specs.Statements.{prepare, proposal, accept, global_union, is_proposal, view_in}
use Rattle.st_agreement.specs.Unions.{IsGlobalUnion}
use Rattle.st_agreement.specs.Worlds.{World, stands}
use Rattle.st_agreement.proofs.MoveLaws.{CanPlayAll, plays-run, parts-can, after-among}

-- the first Prepare
makes-first : MakesPrepare three 0 0 0 1 value []
makes-first = record { leads = refl; view = refl; local = refl; first = λ u no. no; value = inr (inl refl, inl refl) }

-- view 0
view_0-can : CanPlayAll three first view_0
unfolding with_record with_made stands
view_0-can = search (inl, inr, refl, arith, makes-first) parts 30

-- the number of an Accept; 0 for other statements
abbrev number_in : Statement → ℕ
number_in (Accept s g n v) = n.0
number_in _ = 0

-- the union of the first site, over its only server's records
union-backed : (w : World) → 1 ≤ view_of (w.records 0 0) → made_of (w.records 0 0) ≡ accept 0 0 1 value ∷ proposal 0 0 0 1 value ∷ prepare 0 0 0 1 value ∷ [] → IsTrue (stands three w 0 (is_proposal 0 0 0 1 value)) → IsGlobalUnion three w 0 1 0 (item ∷ [])
union-backed w entered made stand =
    record {
      reports = λ k. true;
      many = omega arith;
      entered = λ k correct reported. ⊎_elim (λ same. subst (λ x. 1 ≤ view_of (w.records 0 x)) (sym same) entered) (λ no. absurd no) correct;
      covers = λ k correct reported g n v has lower above.
          let here : Has (accept 0 g n v) (accept 0 0 1 value ∷ proposal 0 0 0 1 value ∷ prepare 0 0 0 1 value ∷ []) =
          ⊎_elim (λ same. subst (λ (ts : List Statement). Has (accept 0 g n v) ts) made (subst (λ x. Has (accept 0 g n v) (made_of (w.records 0 x))) same has)) (λ no. absurd no) correct in
          ⊎_elim
          (λ (is : accept 0 g n v ≡ accept 0 0 1 value). let view : g ≡ 0 = ap view_in is in let number : n ≡ 1 = ap number_in is in
          record { item = item; among = inl refl; of_number = sym number; high = omega (arith, view) })
          (⊎_elim (λ (is : accept 0 g n v ≡ proposal 0 0 0 1 value). absurd (cc))
          (⊎_elim (λ (is : accept 0 g n v ≡ prepare 0 0 0 1 value). absurd (cc)) (λ no. absurd no)))
          here;
      backed = λ i among. ⊎_elim (λ same. subst (λ (x : Item). IsTrue (stands three w (leader three x.view.0) (is_proposal (leader three x.view.0) x.view.0 x.local.0 x.number.0 x.value))) (sym same) stand) (λ no. absurd no) among;
      one = λ i j in_i in_j same. ⊎_elim (λ (a : i ≡ item). ⊎_elim (λ (b : j ≡ item). a ∙ sym b) (λ no. absurd no) in_j) (λ no. absurd no) in_i;
    }

-- the union of the second, which has accepted nothing
empty-backed : (w : World) → 1 ≤ view_of (w.records 1 0) → made_of (w.records 1 0) ≡ [] → IsGlobalUnion three w 1 1 0 []
empty-backed w entered made =
    record {
      reports = λ k. true;
      many = omega arith;
      entered = λ k correct reported. ⊎_elim (λ same. subst (λ x. 1 ≤ view_of (w.records 1 x)) (sym same) entered) (λ no. absurd no) correct;
      covers = λ k correct reported g n v has lower above.
          absurd (⊎_elim (λ same. subst (λ (ts : List Statement). Has (accept 1 g n v) ts) made (subst (λ x. Has (accept 1 g n v) (made_of (w.records 1 x))) same has)) (λ no. no) correct);
      backed = λ i among. absurd among;
      one = λ i j in_i in_j same. absurd in_i;
    }

-- the moves of the change before the second union
abbrev enter_both : List Move
enter_both =
    Records 0 0 (EnterGlobal (record { 0 = 1 }) []) ∷ Records 0 0 (Made 3 union) ∷ Records 1 0 (EnterGlobal (record { 0 = 1 }) []) ∷ []

-- the change of view
change-can : CanPlayAll three (after first view_0) change
unfolding with_record with_made stands
change-can =
    let backed = union-backed (after first (view_0 ++ Records 0 0 (EnterGlobal (record { 0 = 1 }) []) ∷ [])) (omega arith) refl refl in
    let empty = empty-backed (after first (view_0 ++ enter_both)) (omega arith) refl in
    let maker : HasMaker three (after first (view_0 ++ enter_both)) 0 union = record { exists = omega arith; server = 0; correct = inl refl; recorded = inl refl } in
    search (inl, inr, refl, arith, backed, empty, maker) parts 30

-- the unions that the new leader holds
held : (w : World) → Has union (unions_of (w.records 1 0)) → Has empty_union (unions_of (w.records 1 0)) → HeldSites three 1 1 (w.records 1 0)
held w first_held second_held =
    record {
      unions = record { site = 0; base = 0; items = item ∷ [] } ∷ record { site = 1; base = 0; items = [] } ∷ [];
      distinct = (⊎_elim (λ (same : 0 ≡ 1). omega arith) (λ no. no), (λ no. no, tt));
      within = λ u. ⊎_elim (λ same. subst (λ (x : SiteUnion). x.site < 3) (sym same) (omega arith)) (⊎_elim (λ same. subst (λ (x : SiteUnion). x.site < 3) (sym same) (omega arith)) (λ no. absurd no));
      many = omega arith;
      held = λ u. ⊎_elim (λ same. subst (λ (x : SiteUnion). Has (global_union x.site 1 x.base x.items) (unions_of (w.records 1 0))) (sym same) first_held)
          (⊎_elim (λ same. subst (λ (x : SiteUnion). Has (global_union x.site 1 x.base x.items) (unions_of (w.records 1 0))) (sym same) second_held) (λ no. absurd no));
      above = λ u. ⊎_elim (λ same. subst (λ (x : SiteUnion). x.base < 1) (sym same) (omega arith)) (⊎_elim (λ same. subst (λ (x : SiteUnion). x.base < 1) (sym same) (omega arith)) (λ no. absurd no));
    }

-- they force the value
forced : (w : World) (one : Has union (unions_of (w.records 1 0))) (other : Has empty_union (unions_of (w.records 1 0))) → ForcedBySites 1 value (held w one other).unions
unfolding held
forced w one other =
    record {
      union = record { site = 0; base = 0; items = item ∷ [] };
      among = inl refl;
      item = item;
      item_among = inl refl;
      of_number = refl;
      of_value = refl;
      highest = λ u i in_u in_i of_number.
          ⊎_elim
          (λ same. ⊎_elim (λ (is : i ≡ item). let view : i.view.0 ≡ 0 = ap (λ (x : Item). x.view.0) is in omega arith) (λ no. absurd no) (subst (λ (x : SiteUnion). Has i x.items) same in_i))
          (⊎_elim (λ same. absurd (subst (λ (x : SiteUnion). Has i x.items) same in_i)) (λ no. absurd no))
          in_u;
    }

-- view 1
view_1-can : CanPlayAll three (after (after first view_0) change) view_1
unfolding with_record with_made stands
view_1-can =
    let w : World = after (after first view_0) change in
    let again : MakesPrepare three 1 1 0 1 value (w.records 1 0) =
    record {
      leads = refl;
      view = refl;
      local = refl;
      first = λ u. ⊎_elim (λ (same : prepare 1 1 0 1 u ≡ empty_union). cc) (λ no. no);
      value = inr (inl refl, inr (held w (inr (inl refl)) (inl refl), inl (forced w (inr (inl refl)) (inl refl))));
    } in
    search (inl, inr, refl, arith, again) parts 40

-- the value is chosen then
executes-can : CanPlayAll three (after (after (after first view_0) change) view_1) executes
unfolding with_record with_made stands
executes-can = ((omega arith, inl refl, refl, (1, omega arith)), tt)

-- three sites of one correct server each
pub three-sites : AreSites three
three-sites = record { some = omega arith; most = λ s exists. omega arith }

-- the whole run
pub example-run : IsRun (MiniStep three) first (plays first moves)
example-run =
    plays-run three first moves
    (parts-can three first (view_0 ∷ change ∷ view_1 ∷ executes ∷ []) (view_0-can, (change-can, (view_1-can, (executes-can, tt)))))

-- the last world of the example
pub example-among : Has (after first moves) (plays first moves)
example-among = after-among first moves (omega arith)

-- and there the third site's server has executed the value
pub example-executed : HasExecuted three (after first moves) 1 value
unfolding with_record with_made
example-executed =
    record {
      site = 2;
      server = 0;
      number = record { 0 = 1 };
      proof = order_proof 1;
      exists = omega arith;
      correct = inl refl;
      recorded = inl refl;
      of_number = refl;
      of_value = refl;
    }
