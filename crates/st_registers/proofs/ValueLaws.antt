-- The test of equal values decides equality.
use Rattle.std.proofs.Common.{◌≡◌, true, false, IsTrue, refl, ap, subst}
use Rattle.std.specs.Bool.{Decides}
use Rattle.std.proofs.lemmas.Bool.{and_parts, and_from, eqb-true, eq-eqb}
use Rattle.std.proofs.lemmas.Slice.Eq.{bytes_eq-Decides}
use Rattle.st_words.specs.declared.value.Update.{Update}
use Rattle.st_words.specs.declared.value.Value.{Value}
use Rattle.st_words.specs.declared.value.Value.TheVariants as values
use Rattle.st_registers.specs.Values.{update_eq, value_eq}

-- updates that pass the test are equal
pub update_eq-true : (a b : Update) → IsTrue (update_eq a b) → a ≡ b
update_eq-true a b same =
    let outer = and_parts _ _ same in
    let inner = and_parts _ _ outer.0 in
    let client : a.client.0 ≡ b.client.0 = eqb-true _ _ inner.0 in
    let time : a.time ≡ b.time = eqb-true _ _ inner.1 in
    let op : a.op ≡ b.op = (bytes_eq-Decides a.op b.op).0 outer.1 in
    λ i. record { client = record { 0 = client i }; time = time i; op = op i }

-- an update passes it with itself
pub update_eq-refl : (a : Update) → IsTrue (update_eq a a)
update_eq-refl a =
    and_from _ _ (and_from _ _ (eq-eqb a.client.0 a.client.0 refl) (eq-eqb a.time a.time refl)) ((bytes_eq-Decides a.op a.op).1 refl)

-- values that pass the test are equal
pub value_eq-true : (u v : Value) → IsTrue (value_eq u v) → u ≡ v
value_eq-true values.Noop values.Noop same = refl
value_eq-true (values.Update a) (values.Update b) same = ap (λ x. values.Update x) (update_eq-true a b same)
value_eq-true values.Noop (values.Update b) same = absurd (let no : false ≡ true = same in cc)
value_eq-true (values.Update a) values.Noop same = absurd (let no : false ≡ true = same in cc)

-- a value passes it with itself
pub value_eq-refl : (u : Value) → IsTrue (value_eq u u)
value_eq-refl values.Noop = refl
value_eq-refl (values.Update a) = update_eq-refl a

-- so the test passes exactly where the values are equal
pub value_eq-Decides : (u v : Value) → Decides (value_eq u v) (u ≡ v)
value_eq-Decides u v = (value_eq-true u v, λ same. subst (λ x. IsTrue (value_eq u x)) same (value_eq-refl u))
