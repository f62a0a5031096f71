-- Updates, values and items as fields: what is read is spelled so, and what is spelled so is read.
use Rattle.std.proofs.Common.{◌≡◌, ℕ, ◌^◌, ◌<◌, Option, Some, None, eqb, List, [], ◌∷◌, ◌++◌, Ok, refl, ap, subst, ◌∙◌, arith, inl, inr, lit<}
use Rattle.std.specs.Int.{w32}
use Rattle.std.specs.Prelude.{All}
use Rattle.std.proofs.lemmas.Bool.{eqb-true, eqb-false}
use Rattle.std.proofs.lemmas.List.Elements.{All-nil, All-cons, All-head, All-tail}
use Rattle.st_fields.specs.Spelling.{byte, number, text, KeepsEach}
use Rattle.st_fields.specs.Reading.{◌>>=◌}
use Rattle.st_fields.proofs.Fields.{Takes, IsField, ok_is, chosen, step, again_step, ◌▷◌, none, joined-append, kept_by}
use Rattle.st_fields.proofs.Leaves.{byte_field, byte_in_field, u32_field, u32_in_field, u32_above_field, positive_field, text_field, mark_field}
use Rattle.st_fields.proofs.Lists.{counted_field}
use Rattle.st_words.specs.declared.value.Update.{Update}
use Rattle.st_words.specs.declared.value.Value.{Value}
use Rattle.st_words.specs.declared.value.Value.TheVariants as values
use Rattle.st_words.specs.declared.statement.Item.{Item}
use Rattle.st_words.specs.declared.limits.ItemLimits.{ItemLimits}
use Rattle.st_words.specs.Ranges.{most_text, most_items, KeepsUpdate, KeepsValue, KeepsLimit, KeepsItem, KeepsItems, after_item, FitsUpdate, FitsValue, FitsItem}
use Rattle.st_words.specs.Spelling.{update_fields, update_spelling, value_spelling, item_spelling, items_spelling}
use Rattle.st_words.specs.Reading.{update_fields_at, update_at, value_at, limited_at, item_at, items_at}

-- an update's fields
pub update_fields_field : IsField update_fields_at update_fields (λ u. KeepsUpdate u × FitsUpdate u)
unfolding update_fields_at update_fields
update_fields_field = record {
  takes = λ bytes u rest fits e.
      step byte_field bytes (u, rest) fits e λ client r0 t0 k0 e0.
      step positive_field r0 (u, rest) t0.rest_fits e0 λ time r1 t1 k1 e1.
      step (text_field 0 most_text (lit< tt)) r1 (u, rest) t1.rest_fits e1 λ op r2 t2 k2 e2.
      subst (λ (p : Update × List ℕ). Takes bytes (update_fields p.0) p.1 × (KeepsUpdate p.0 × FitsUpdate p.0)) (ok_is _ (u, rest) e2)
      (t0 ▷ (t1 ▷ (t2 ▷ none t2.rest_fits)), ((k1.1, k2.1), (k0, k1.0)));
  again = λ u rest k.
      ap update_fields_at (joined-append (byte u.client.0 ∷ number w32 u.time ∷ text u.op ∷ []) rest)
      ∙ (again_step byte_field _ _ u.client.0 k.1.0
      (again_step positive_field _ _ u.time (k.1.1, k.0.0)
      (again_step (text_field 0 most_text (lit< tt)) _ _ u.op (omega arith, k.0.1) refl)));
}

-- a value that is an update
pub update_field : IsField update_at update_spelling (λ u. KeepsUpdate u × FitsUpdate u)
unfolding update_at update_spelling
update_field = record {
  takes = λ bytes u rest fits e.
      step (mark_field (byte 1)) bytes (u, rest) fits e λ mark r0 t0 k0 e0.
      let t = update_fields_field.takes r0 u rest t0.rest_fits e0 in
      (t0 ▷ (t.0 ▷ none t.0.rest_fits), t.1);
  again = λ u rest k.
      ap update_at (joined-append (byte 1 ∷ update_fields u ∷ []) rest)
      ∙ again_step (mark_field (byte 1)) _ _ tt tt (update_fields_field.again u rest k);
}

-- a value
pub value_field : IsField value_at value_spelling (λ v. KeepsValue v × FitsValue v)
unfolding value_at value_spelling update_spelling
value_field = record {
  takes = λ bytes v rest fits e.
      step (byte_in_field 0 1) bytes (v, rest) fits e λ mark r0 t0 k0 e0.
      elim (chosen (eqb mark 0) (Ok (values.Noop, r0)) (update_fields_at r0 >>= λ u r. Ok (values.Update u, r)) (Ok (v, rest)) e0) [
        | inl noop ↦
            (let is : mark ≡ 0 = eqb-true mark 0 noop.0 in
            subst (λ (p : Value × List ℕ). Takes bytes (value_spelling p.0) p.1 × (KeepsValue p.0 × FitsValue p.0)) (ok_is (values.Noop, r0) (v, rest) noop.1)
            (subst (λ (n : ℕ). Takes bytes (byte n) r0) is t0, (tt, tt)))
        | inr update ↦
            (let is-not : mark ≡ 0 → ⊥ = eqb-false mark 0 update.0 in
            let is : mark ≡ 1 = omega (arith, is-not) in
            step update_fields_field r0 (v, rest) t0.rest_fits update.1 λ u r1 t1 k1 e1.
            subst (λ (p : Value × List ℕ). Takes bytes (value_spelling p.0) p.1 × (KeepsValue p.0 × FitsValue p.0)) (ok_is (values.Update u, r1) (v, rest) e1)
            (subst (λ (n : ℕ). Takes bytes (byte n ++ (update_fields u ++ [])) r1) is (t0 ▷ (t1 ▷ none t1.rest_fits)), k1))
      ];
  again = value_again;
}
  where
    value_again : (v : Value) (rest : List ℕ) → KeepsValue v × FitsValue v → value_at (value_spelling v ++ rest) ≡ Ok (v, rest)
    value_again values.Noop rest k = again_step (byte_in_field 0 1) _ _ 0 (omega arith, (omega arith, omega arith)) refl
    value_again (values.Update u) rest k =
        ap value_at (joined-append (byte 1 ∷ update_fields u ∷ []) rest)
        ∙ again_step (byte_in_field 0 1) _ _ 1 (omega arith, (omega arith, omega arith))
        (again_step update_fields_field _ _ u k refl)

-- a number of four bytes, at most a limit where there is one
pub limited_field : (limit : Option ℕ) → IsField (limited_at limit) (number w32) (λ n. (n < 2 ^ 32) × KeepsLimit limit n)
unfolding limited_at
limited_field None = kept_by u32_field (λ n lt. (lt, tt)) (λ n keeps. keeps.0)
limited_field (Some most) = kept_by (u32_in_field 0 most) (λ n keeps. (keeps.0, keeps.1.1)) (λ n keeps. (keeps.0, (omega arith, keeps.1)))

-- an item within limits
pub item_field : (limits : ItemLimits) → IsField (item_at limits) item_spelling (λ i. KeepsItem limits i × FitsItem i)
unfolding item_at item_spelling
item_field limits = record {
  takes = λ bytes i rest fits e.
      step (u32_above_field limits.after limits.most) bytes (i, rest) fits e λ n r0 t0 k0 e0.
      step (u32_in_field 0 limits.most_view) r0 (i, rest) t0.rest_fits e0 λ view r1 t1 k1 e1.
      step (limited_field limits.most_local) r1 (i, rest) t1.rest_fits e1 λ local r2 t2 k2 e2.
      step value_field r2 (i, rest) t2.rest_fits e2 λ v r3 t3 k3 e3.
      subst (λ (p : Item × List ℕ). Takes bytes (item_spelling p.0) p.1 × (KeepsItem limits p.0 × FitsItem p.0)) (ok_is _ (i, rest) e3)
      (t0 ▷ (t1 ▷ (t2 ▷ (t3 ▷ none t3.rest_fits))), ((k0.1, k0.2, k1.1.1, k2.1, k3.0), (k0.0, k1.0, k2.0, k3.1)));
  again = λ i rest k.
      ap (item_at limits) (joined-append (number w32 i.number.0 ∷ number w32 i.view.0 ∷ number w32 i.local.0 ∷ value_spelling i.value ∷ []) rest)
      ∙ (again_step (u32_above_field limits.after limits.most) _ _ i.number.0 (k.1.0, k.0.0, k.0.1)
      (again_step (u32_in_field 0 limits.most_view) _ _ i.view.0 (k.1.1, (omega arith, k.0.2))
      (again_step (limited_field limits.most_local) _ _ i.local.0 (k.1.2, k.0.3)
      (again_step value_field _ _ i.value (k.0.4, k.1.3) refl))));
}

-- what the items of a list keep, the rule and the widths apart
KeepsEach-parts : (limits : ItemLimits) (items : List Item) → KeepsEach (λ l i. KeepsItem l i × FitsItem i) after_item limits items → KeepsEach KeepsItem after_item limits items × All FitsItem items
KeepsEach-parts limits [] k = (tt, All-nil FitsItem)
KeepsEach-parts limits (i ∷ items) k =
    let more = KeepsEach-parts (after_item limits i) items k.1 in
    ((k.0.0, more.0), All-cons FitsItem i items k.0.1 more.1)

-- and the two together
KeepsEach-from : (limits : ItemLimits) (items : List Item) → KeepsEach KeepsItem after_item limits items → All FitsItem items → KeepsEach (λ l i. KeepsItem l i × FitsItem i) after_item limits items
KeepsEach-from limits [] k fits = tt
KeepsEach-from limits (i ∷ items) k fits = ((k.0, All-head FitsItem i items fits), KeepsEach-from (after_item limits i) items k.1 (All-tail FitsItem i items fits))

-- items behind their number
pub items_field : (limits : ItemLimits) → IsField (items_at limits) items_spelling (λ items. KeepsItems limits items × All FitsItem items)
unfolding items_at items_spelling
items_field limits =
    kept_by (counted_field item_at after_item item_spelling (λ l i. KeepsItem l i × FitsItem i) item_field 0 most_items (lit< tt) limits)
    (λ items k. let parts = KeepsEach-parts limits items k.1 in ((k.0.1, parts.0), parts.1))
    (λ items k. ((omega arith, k.0.0), KeepsEach-from limits items k.0.1 k.1))
