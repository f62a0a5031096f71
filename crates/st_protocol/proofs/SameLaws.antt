-- The tests of sameness are true exactly of equal things.
use Rattle.std.proofs.Common.{◌≡◌, Bool, nat_eq, List, [], ◌∷◌, refl, ap}
use Rattle.std.specs.Prelude.{◌&&◌}
use Rattle.std.specs.Prelude.{◌↔◌}
use Rattle.std.specs.Bool.{Decides, IsTrue}
use Rattle.std.proofs.lemmas.Bool.Decides.{Decides-and, Decides-like, Decides-eqb, same_from_decides}
use Rattle.std.proofs.lemmas.Slice.Eq.{bytes_eq-Decides}
use Rattle.st_words.specs.declared.ids.ServerId.{ServerId}
use Rattle.st_words.specs.declared.ids.Who.{Who}
use Rattle.st_words.specs.declared.ids.Who.TheVariants as parties
use Rattle.st_words.specs.declared.value.Update.{Update}
use Rattle.st_words.specs.declared.value.Value.{Value}
use Rattle.st_words.specs.declared.value.Value.TheVariants as values
use Rattle.st_words.specs.declared.statement.Item.{Item}
use Rattle.st_words.specs.declared.statement.Statement.{Statement}
use Rattle.st_words.specs.declared.statement.Statement.TheVariants.{Prepare, Proposal, Accept, LocalVc, GlobalVc, LocalReport, GlobalReport, LocalUnion, GlobalUnion, Reply, ClientUpdate}
use Rattle.st_protocol.specs.Words.{same_update, same_value, same_item, same_items, same_server, same_who, same_statement}

infixl 20 ◌⊗◌
-- two tests, each of its own fact
◌⊗◌ : {P Q : Type 0} {x y : Bool} → Decides x P → Decides y Q → Decides (x && y) (P × Q)
◌⊗◌ {x = x} {y = y} p q = Decides-and x y p q

-- Updates.
pub same_update-Decides : (a b : Update) → Decides (same_update a b) (a ≡ b)
same_update-Decides a b =
    Decides-like (same_update a b) (λ h i. record { client = record { 0 = h.0.0 i }; time = h.0.1 i; op = h.1 i })
    (λ e. ((ap (λ (u : Update). u.client.0) e, ap (λ (u : Update). u.time) e), ap (λ (u : Update). u.op) e))
    (Decides-eqb a.client.0 b.client.0 ⊗ Decides-eqb a.time b.time ⊗ bytes_eq-Decides a.op b.op)

-- Values.
pub same_value-Decides : (a b : Value) → Decides (same_value a b) (a ≡ b)
same_value-Decides values.Noop values.Noop = (λ e. refl, λ e. refl)
same_value-Decides (values.Update a) (values.Update b) = Decides-like (same_update a b) (ap values.Update) (λ e. cc) (same_update-Decides a b)
same_value-Decides _ _ = (λ e. cc, λ e. cc)

-- Items.
pub same_item-Decides : (a b : Item) → Decides (same_item a b) (a ≡ b)
same_item-Decides a b =
    Decides-like (same_item a b) (λ h i. record { number = record { 0 = h.0.0.0 i }; view = record { 0 = h.0.0.1 i }; local = record { 0 = h.0.1 i }; value = h.1 i })
    (λ e. (((ap (λ (u : Item). u.number.0) e, ap (λ (u : Item). u.view.0) e), ap (λ (u : Item). u.local.0) e), ap (λ (u : Item). u.value) e))
    (Decides-eqb a.number.0 b.number.0 ⊗ Decides-eqb a.view.0 b.view.0 ⊗ Decides-eqb a.local.0 b.local.0 ⊗ same_value-Decides a.value b.value)

-- Lists of items.
pub same_items-Decides : (a b : List Item) → Decides (same_items a b) (a ≡ b)
unfolding same_items
same_items-Decides [] [] = (λ e. refl, λ e. refl)
same_items-Decides (a ∷ as_) (b ∷ bs) =
    Decides-like (same_item a b && same_items as_ bs) (λ h i. h.0 i ∷ h.1 i) (λ e. (cc, cc)) (same_item-Decides a b ⊗ same_items-Decides as_ bs)
same_items-Decides _ _ = (λ e. cc, λ e. cc)

-- Servers.
pub same_server-Decides : (a b : ServerId) → Decides (same_server a b) (a ≡ b)
same_server-Decides a b =
    Decides-like (same_server a b) (λ h i. record { site = h.0 i; index = h.1 i }) (λ e. (ap (λ (s : ServerId). s.site) e, ap (λ (s : ServerId). s.index) e))
    (Decides-eqb a.site b.site ⊗ Decides-eqb a.index b.index)

-- Parties.
pub same_who-Decides : (a b : Who) → Decides (same_who a b) (a ≡ b)
same_who-Decides (parties.Server a) (parties.Server b) = Decides-like (same_server a b) (ap parties.Server) (λ e. cc) (same_server-Decides a b)
same_who-Decides (parties.Client a) (parties.Client b) =
    Decides-like (nat_eq a.0 b.0) (λ h i. parties.Client (record { 0 = h i })) (λ e. cc) (Decides-eqb a.0 b.0)
same_who-Decides _ _ = (λ e. cc, λ e. cc)

-- Statements, kind by kind.
pub same_statement-Decides : (a b : Statement) → Decides (same_statement a b) (a ≡ b)
unfolding same_statement
same_statement-Decides (Prepare s g l n v) (Prepare s2 g2 l2 n2 v2) =
    Decides-like _ (λ h i. Prepare (record { 0 = h.0.0.0.0 i }) (record { 0 = h.0.0.0.1 i }) (record { 0 = h.0.0.1 i }) (record { 0 = h.0.1 i }) (h.1 i))
    (λ e. ((((cc, cc), cc), cc), cc))
    (Decides-eqb s.0 s2.0 ⊗ Decides-eqb g.0 g2.0 ⊗ Decides-eqb l.0 l2.0 ⊗ Decides-eqb n.0 n2.0 ⊗ same_value-Decides v v2)
same_statement-Decides (Proposal s g l n v) (Proposal s2 g2 l2 n2 v2) =
    Decides-like _ (λ h j. Proposal (record { 0 = h.0.0.0.0 j }) (record { 0 = h.0.0.0.1 j }) (record { 0 = h.0.0.1 j }) (record { 0 = h.0.1 j }) (h.1 j))
    (λ e. ((((cc, cc), cc), cc), cc))
    (Decides-eqb s.0 s2.0 ⊗ Decides-eqb g.0 g2.0 ⊗ Decides-eqb l.0 l2.0 ⊗ Decides-eqb n.0 n2.0 ⊗ same_value-Decides v v2)
same_statement-Decides (Accept s g n v) (Accept s2 g2 n2 v2) =
    Decides-like _ (λ h j. Accept (record { 0 = h.0.0.0 j }) (record { 0 = h.0.0.1 j }) (record { 0 = h.0.1 j }) (h.1 j))
    (λ e. (((cc, cc), cc), cc))
    (Decides-eqb s.0 s2.0 ⊗ Decides-eqb g.0 g2.0 ⊗ Decides-eqb n.0 n2.0 ⊗ same_value-Decides v v2)
same_statement-Decides (LocalVc s x) (LocalVc s2 x2) =
    Decides-like _ (λ h j. LocalVc (record { 0 = h.0 j }) (record { 0 = h.1 j }))
    (λ e. (cc, cc))
    (Decides-eqb s.0 s2.0 ⊗ Decides-eqb x.0 x2.0)
same_statement-Decides (GlobalVc s y) (GlobalVc s2 y2) =
    Decides-like _ (λ h j. GlobalVc (record { 0 = h.0 j }) (record { 0 = h.1 j }))
    (λ e. (cc, cc))
    (Decides-eqb s.0 s2.0 ⊗ Decides-eqb y.0 y2.0)
same_statement-Decides (LocalReport s x i g b is) (LocalReport s2 x2 i2 g2 b2 is2) =
    Decides-like _ (λ h j. LocalReport (record { 0 = h.0.0.0.0.0 j }) (record { 0 = h.0.0.0.0.1 j }) (h.0.0.0.1 j) (record { 0 = h.0.0.1 j }) (h.0.1 j) (h.1 j))
    (λ e. (((((cc, cc), cc), cc), cc), cc))
    (Decides-eqb s.0 s2.0 ⊗ Decides-eqb x.0 x2.0 ⊗ Decides-eqb i i2 ⊗ Decides-eqb g.0 g2.0 ⊗ Decides-eqb b b2 ⊗ same_items-Decides is is2)
same_statement-Decides (GlobalReport s y i b is) (GlobalReport s2 y2 i2 b2 is2) =
    Decides-like _ (λ h j. GlobalReport (record { 0 = h.0.0.0.0 j }) (record { 0 = h.0.0.0.1 j }) (h.0.0.1 j) (h.0.1 j) (h.1 j))
    (λ e. ((((cc, cc), cc), cc), cc))
    (Decides-eqb s.0 s2.0 ⊗ Decides-eqb y.0 y2.0 ⊗ Decides-eqb i i2 ⊗ Decides-eqb b b2 ⊗ same_items-Decides is is2)
same_statement-Decides (LocalUnion s x g b is) (LocalUnion s2 x2 g2 b2 is2) =
    Decides-like _ (λ h j. LocalUnion (record { 0 = h.0.0.0.0 j }) (record { 0 = h.0.0.0.1 j }) (record { 0 = h.0.0.1 j }) (h.0.1 j) (h.1 j))
    (λ e. ((((cc, cc), cc), cc), cc))
    (Decides-eqb s.0 s2.0 ⊗ Decides-eqb x.0 x2.0 ⊗ Decides-eqb g.0 g2.0 ⊗ Decides-eqb b b2 ⊗ same_items-Decides is is2)
same_statement-Decides (GlobalUnion s y b is) (GlobalUnion s2 y2 b2 is2) =
    Decides-like _ (λ h j. GlobalUnion (record { 0 = h.0.0.0 j }) (record { 0 = h.0.0.1 j }) (h.0.1 j) (h.1 j))
    (λ e. (((cc, cc), cc), cc))
    (Decides-eqb s.0 s2.0 ⊗ Decides-eqb y.0 y2.0 ⊗ Decides-eqb b b2 ⊗ same_items-Decides is is2)
same_statement-Decides (Reply s c t n r) (Reply s2 c2 t2 n2 r2) =
    Decides-like _ (λ h j. Reply (record { 0 = h.0.0.0.0 j }) (record { 0 = h.0.0.0.1 j }) (h.0.0.1 j) (record { 0 = h.0.1 j }) (h.1 j))
    (λ e. ((((cc, cc), cc), cc), cc))
    (Decides-eqb s.0 s2.0 ⊗ Decides-eqb c.0 c2.0 ⊗ Decides-eqb t t2 ⊗ Decides-eqb n.0 n2.0 ⊗ bytes_eq-Decides r r2)
same_statement-Decides (ClientUpdate a) (ClientUpdate b) = Decides-like (same_update a b) (ap ClientUpdate) (λ e. cc) (same_update-Decides a b)
same_statement-Decides _ _ = (λ e. cc, λ e. cc)

-- ---- a bool that is true exactly of equal things is the test

-- Updates.
pub same_update_by : (a b : Update) (r : Bool) → (IsTrue r ↔ (a ≡ b)) → r ≡ same_update a b
same_update_by a b r h = same_from_decides r (same_update a b) h (same_update-Decides a b)

-- Values.
pub same_value_by : (a b : Value) (r : Bool) → (IsTrue r ↔ (a ≡ b)) → r ≡ same_value a b
same_value_by a b r h = same_from_decides r (same_value a b) h (same_value-Decides a b)

-- Lists of items.
pub same_items_by : (a b : List Item) (r : Bool) → (IsTrue r ↔ (a ≡ b)) → r ≡ same_items a b
same_items_by a b r h = same_from_decides r (same_items a b) h (same_items-Decides a b)

-- Servers.
pub same_server_by : (a b : ServerId) (r : Bool) → (IsTrue r ↔ (a ≡ b)) → r ≡ same_server a b
same_server_by a b r h = same_from_decides r (same_server a b) h (same_server-Decides a b)

-- Parties.
pub same_who_by : (a b : Who) (r : Bool) → (IsTrue r ↔ (a ≡ b)) → r ≡ same_who a b
same_who_by a b r h = same_from_decides r (same_who a b) h (same_who-Decides a b)

-- Statements.
pub same_statement_by : (a b : Statement) (r : Bool) → (IsTrue r ↔ (a ≡ b)) → r ≡ same_statement a b
same_statement_by a b r h = same_from_decides r (same_statement a b) h (same_statement-Decides a b)
