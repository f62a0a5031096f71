-- In every world one party's leaf is of one statement, what a server handed out it recorded, and its records have each key
-- once, each leaf in its turn, and nothing above where the server stands.
use Rattle.std.proofs.Common.{◌≡◌, ℕ, Bool, true, false, zero, suc, List, [], ◌∷◌, sym, subst, refl, ◌∙◌, ap, arith, inl, inr}
use Rattle.std.proofs.lemmas.Bool.{and_parts}
use Rattle.std.specs.Prelude.{◌&&◌, ◌||◌, Some, None, slice_get, take}
use Rattle.std.specs.List.{AllByRecursion as Each}
use Rattle.st_words.specs.declared.ids.Who.{Who}
use Rattle.st_words.specs.declared.statement.Statement.{Statement}
use Rattle.st_message.specs.declared.change.Change.{Change}
use Rattle.st_message.specs.declared.change.Change.TheVariants.{Made}
use Rattle.st_message.specs.declared.made.MadeSeal.{MadeSeal}
use Rattle.st_schedule.specs.declared.line.Line.{Line}
use Rattle.st_counts.specs.Counts.{Has}
use Rattle.st_protocol.specs.Words.{server_at, site_of, same_who, same_statement}
use Rattle.st_protocol.specs.Keeping.{count_of}
use Rattle.st_protocol.specs.State.{Here}
use Rattle.st_protocol.specs.Questions.{is_made}
use Rattle.st_protocol.specs.World.{Deployment, empty, has_made, seat_of}
use Rattle.st_protocol.specs.Schedule.{steps}
use Rattle.st_protocol.specs.Report.{answers_at}
use Rattle.st_protocol.proofs.SameLaws.{same_who-Decides, same_statement-Decides}
use Rattle.st_frame_laws.proofs.ChoiceLaws.{each_has, has_at}
use Rattle.st_frame_laws.proofs.NodeFrame.{same_here}
use Rattle.st_leaf_laws.specs.Records.{recorded_at, key_of, IsNotAbove}
use Rattle.st_leaf_laws.proofs.LeafFacts.{Agree, OneEach, some_is, one_place, leaf_counts}
use Rattle.st_leaf_laws.proofs.LeafWorlds.{EntryAt, EntryHas, worlds_count}
use Rattle.st_leaf_laws.proofs.OneLeaf.{Counts, leaves_count}

-- one of a list
there : {A : Type 0} (zs : List A) (j : ℕ) (y : A) (G : A → Type 0) → Each G zs → slice_get zs j ≡ Some y → G y
there {A} zs j y G h e = each_has G zs y h (has_at zs j y e)

-- two entries that are there
entries_agree : (made : List MadeSeal) → OneEach made → (i j : ℕ) (x y : MadeSeal) → slice_get made i ≡ Some x → slice_get made j ≡ Some y → x.who ≡ y.who → x.leaf ≡ y.leaf → x.statement ≡ y.statement
entries_agree [] o i j x y e f who leaf = absurd (let no : None ≡ Some x = e in cc)
entries_agree (z ∷ zs) o zero zero x y e f who leaf = let same : Some x ≡ Some y = sym e ∙ f in ap (λ (m : MadeSeal). m.statement) (some_is x y same)
entries_agree (z ∷ zs) o zero (suc j) x y e f who leaf =
    let is : z ≡ x = some_is z x e in
    subst (λ (m : MadeSeal). m.statement ≡ y.statement) is
    (there zs j y (Agree z) o.0 f (ap (λ (m : MadeSeal). m.who) is ∙ who) (ap (λ (m : MadeSeal). m.leaf) is ∙ leaf))
entries_agree (z ∷ zs) o (suc i) zero x y e f who leaf =
    let is : z ≡ y = some_is z y f in
    subst (λ (m : MadeSeal). x.statement ≡ m.statement) is
    (sym (there zs i x (Agree z) o.0 e (ap (λ (m : MadeSeal). m.who) is ∙ sym who) (ap (λ (m : MadeSeal). m.leaf) is ∙ sym leaf)))
entries_agree (z ∷ zs) o (suc i) (suc j) x y e f who leaf = entries_agree zs o.1 i j x y e f who leaf

-- Two entries of what was handed out that are of one party and one leaf are the same.
pub same_entry : {Wire : Type 0} (d : Deployment Wire) (all : List Line) (i j : ℕ) (x y : MadeSeal) → slice_get (steps d empty all).made i ≡ Some x → slice_get (steps d empty all).made j ≡ Some y →
    x.who ≡ y.who → x.leaf ≡ y.leaf → x ≡ y
same_entry d all i j x y e f who leaf = entry x y who leaf (entries_agree (steps d empty all).made (worlds_count d Counts leaves_count all).one i j x y e f who leaf)
  where
    entry : (x y : MadeSeal) → x.who ≡ y.who → x.leaf ≡ y.leaf → x.statement ≡ y.statement → x ≡ y
    entry x y who leaf s = λ i. record { who = who i; leaf = leaf i; statement = s i }

-- what the test finds was handed out
made_entry : (made : List MadeSeal) (who : Who) (s : Statement) → has_made made who s ≡ true → (x : MadeSeal) × (Has x made × ((x.who ≡ who) × (x.statement ≡ s)))
unfolding has_made
made_entry [] who s e = absurd (let no : false ≡ true = e in cc)
made_entry (x ∷ xs) who s e = by (same_who x.who who && same_statement x.statement s) refl e (made_entry xs who s)
  where
    by : (b : Bool) → (same_who x.who who && same_statement x.statement s) ≡ b → (b || has_made xs who s) ≡ true →
        (has_made xs who s ≡ true → (y : MadeSeal) × (Has y xs × ((y.who ≡ who) × (y.statement ≡ s)))) → (y : MadeSeal) × (Has y (x ∷ xs) × ((y.who ≡ who) × (y.statement ≡ s)))
    by true is f more =
        let parts = and_parts (same_who x.who who) (same_statement x.statement s) is in
        (x, (inl refl, ((same_who-Decides x.who who).0 parts.0, (same_statement-Decides x.statement s).0 parts.1)))
    by false is f more = let found = more f in (found.0, (inr found.1.0, found.1.1))

module _ {Wire : Type 0} (d : Deployment Wire) (all : List Line) where
  -- What a server handed out it recorded, with its leaf.
  pub made_recorded : (x : MadeSeal) (site index : ℕ) → Has x (steps d empty all).made → x.who ≡ server_at site index → Has (Made x.leaf x.statement) (recorded_at (steps d empty all) site index)
  made_recorded x site index among is =
      subst (λ (who : Who). EntryAt (steps d empty all).nodes (steps d empty all).customers who x.leaf x.statement) is
      (each_has (EntryHas (steps d empty all).nodes (steps d empty all).customers) (steps d empty all).made x (worlds_count d Counts leaves_count all).entries among)

  -- So it is of a statement that it handed out with some leaf.
  pub handed_recorded : (site index : ℕ) (s : Statement) → has_made (steps d empty all).made (server_at site index) s ≡ true → (leaf : ℕ) × Has (Made leaf s) (recorded_at (steps d empty all) site index)
  handed_recorded site index s e =
      let found = made_entry (steps d empty all).made (server_at site index) s e in
      let x : MadeSeal = found.0 in
      (x.leaf, subst (λ (t : Statement). Has (Made x.leaf t) (recorded_at (steps d empty all) site index)) found.1.1.1 (made_recorded x site index found.1.0 found.1.1.0))

  module _ (site index : ℕ) where
    -- all that was recorded at a server
    abbrev xs : List Change
    xs = recorded_at (steps d empty all) site index

    counts : Counts (seat_of d site index) ((steps d empty all).nodes site index).bodies
    counts = ((worlds_count d Counts leaves_count all).nodes site index).lists

    -- Of one key one statement is made, with one leaf, at one place.
    pub made_once : (i j leaf other : ℕ) (s t : Statement) → slice_get xs i ≡ Some (Made leaf s) → slice_get xs j ≡ Some (Made other t) → key_of s ≡ key_of t → (i ≡ j) × (leaf ≡ other) × (s ≡ t)
    made_once i j leaf other s t e f key =
        let same = counts.once leaf other s t (has_at xs i (Made leaf s) e) (has_at xs j (Made other t) f) key in
        (one_place 0 leaf s t xs i j counts.order e (subst (λ n. slice_get xs j ≡ Some (Made n t)) (sym same.0) f), same.0, same.1)

    -- Nothing is above where the server stands,
    pub not_above : (leaf : ℕ) (s : Statement) → Has (Made leaf s) xs → IsNotAbove (answers_at d (steps d empty all) site index).here s
    not_above leaf s among =
        subst (λ (here : Here). IsNotAbove here s) (same_here (seat_of d site index) ((steps d empty all).nodes site index).bodies [] ((steps d empty all).nodes site index).heard)
        (counts.below leaf s among)

    -- all is of its site,
    pub of_site : (leaf : ℕ) (s : Statement) → Has (Made leaf s) xs → site_of s ≡ site
    of_site leaf s among = counts.sited leaf s among

    -- and leaves count up from 0.
    pub counts_up : (i leaf : ℕ) (s : Statement) → slice_get xs i ≡ Some (Made leaf s) → leaf ≡ count_of is_made (take i xs)
    counts_up i leaf s e = let counted = leaf_counts 0 leaf s xs i counts.order e in omega (arith, counted)
