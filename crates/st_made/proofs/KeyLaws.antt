-- Two seals that can be kept have different keys, and what keeping a key leaves at every bytes.
use Rattle.std.proofs.Common.{ℕ, ◌≡◌, Bool, true, false, cond, Option, List, [], ◌∷◌, refl, sym, ap, subst, ◌∙◌, arith}
use Rattle.std.specs.Int.{w64}
use Rattle.std.specs.Str.{bytes_eq}
use Rattle.std.specs.Ordering.{is_eq, nat_cmp, eq_by_cmp}
use Rattle.std.specs.Cmp.{eq_by_cmp_equiv}
use Rattle.std.specs.Cmp.Lexicographic.{slice_cmp, nat_list_cmp_total, nat_list_eq_equiv}
use Rattle.std.specs.Prelude.{◌&&◌}
use Rattle.std.specs.Map.{IsKeyTest, AreApart, KeepsOthers, lookup}
use Rattle.std.specs.BTreeMap.{BTreeMap, get_by, UpdatesBy}
use Rattle.std.proofs.lemmas.Bool.Decides.{Decides-and, Decides-like, same_from_decides}
use Rattle.std.proofs.lemmas.Map.Text.{is_eq-slice_cmp}
use Rattle.std.proofs.lemmas.Slice.Eq.{bytes_eq-Decides}
use Rattle.st_fields.specs.Spelling.{joined, number}
use Rattle.st_fields.proofs.Fields.{one_spelling}
use Rattle.st_words.specs.declared.ids.Who.{Who}
use Rattle.st_words.specs.declared.ids.Who.TheVariants as parties
use Rattle.st_words.specs.declared.statement.Statement.{Statement}
use Rattle.st_words.specs.Ranges.{KeepsStatement, FitsStatement}
use Rattle.st_words.specs.Spelling.{core_spelling, statement_mark, statement_spelling}
use Rattle.st_words.proofs.Cores.{statement_field}
use Rattle.st_protocol.specs.Words.{same_who, same_statement}
use Rattle.st_protocol.proofs.SameLaws.{same_who-Decides, same_statement-Decides}
use Rattle.st_made.specs.Keys.{key_spelling}

-- ---- one seal a key

-- what a list begins with, and the others
head_of : {A : Type 0} {x y : A} {xs ys : List A} → x ∷ xs ≡ y ∷ ys → x ≡ y
head_of e = cc

tail_of : {A : Type 0} {x y : A} {xs ys : List A} → x ∷ xs ≡ y ∷ ys → xs ≡ ys
tail_of e = cc

-- statements of one core are one statement
one_core : (s t : Statement) → KeepsStatement s → FitsStatement s → KeepsStatement t → FitsStatement t → core_spelling s ≡ core_spelling t → s ≡ t
unfolding statement_spelling
one_core s t ks fs kt ft e =
    ap (λ (x : ℕ × Statement). x.1) (one_spelling statement_field (0, s) (0, t) (omega arith, (ks, fs)) (omega arith, (kt, ft)) same)
  where
    same : statement_spelling 0 s ≡ statement_spelling 0 t
    same = ap (λ (core : List ℕ). joined (statement_mark ∷ number w64 0 ∷ core ∷ [])) e

-- Keys of one spelling are one party's over one statement.
one_key : (w v : Who) (s t : Statement) → KeepsStatement s → FitsStatement s → KeepsStatement t → FitsStatement t → key_spelling w s ≡ key_spelling v t → (w ≡ v) × (s ≡ t)
unfolding key_spelling
one_key (parties.Server a) (parties.Server b) s t ks fs kt ft e = (
  λ i. parties.Server (record { site = head_of (tail_of e) i; index = head_of (tail_of (tail_of e)) i }),
  one_core s t ks fs kt ft (tail_of (tail_of (tail_of e))),
)
one_key (parties.Client a) (parties.Client b) s t ks fs kt ft e = (
  λ i. parties.Client (record { 0 = head_of (tail_of e) i }),
  one_core s t ks fs kt ft (tail_of (tail_of (tail_of e))),
)
one_key (parties.Server a) (parties.Client b) s t ks fs kt ft e = absurd (let no : 0 ≡ 1 = head_of e in omega (arith, no))
one_key (parties.Client a) (parties.Server b) s t ks fs kt ft e = absurd (let no : 1 ≡ 0 = head_of e in omega (arith, no))

-- The test of two keys is that of their parties and statements.
pub same_key : (w v : Who) (s t : Statement) → KeepsStatement s → FitsStatement s → KeepsStatement t → FitsStatement t →
    bytes_eq (key_spelling w s) (key_spelling v t) ≡ (same_who w v && same_statement s t)
same_key w v s t ks fs kt ft =
    same_from_decides (bytes_eq (key_spelling w s) (key_spelling v t)) (same_who w v && same_statement s t)
    (Decides-like (bytes_eq (key_spelling w s) (key_spelling v t)) (one_key w v s t ks fs kt ft) (λ e i. key_spelling (e.0 i) (e.1 i)) (bytes_eq-Decides (key_spelling w s) (key_spelling v t)))
    (Decides-and (same_who w v) (same_statement s t) (same_who-Decides w v) (same_statement-Decides s t))

-- ---- a map by keys that are read as bytes

-- bytes that differ from these, and are those of a key, tell that key from them
apart : (bs cs ks : List ℕ) → bytes_eq bs cs ≡ false → is_eq (slice_cmp nat_cmp bs ks) ≡ true → is_eq (slice_cmp nat_cmp cs ks) ≡ false
apart bs cs ks differ same =
    is_eq-slice_cmp cs ks ∙ (nat_list_eq_equiv.symm cs ks ∙ (sym (nat_list_eq_equiv.congr bs ks cs (sym (is_eq-slice_cmp bs ks) ∙ same)) ∙ differ))

-- what a change at one key leaves at each other
other_keys : {K X : Type 0} (eq : K → K → Bool) (test : K → Bool) (old new : List (K × X)) → KeepsOthers eq test old new →
    (other : K → Bool) → IsKeyTest eq other → AreApart test other → lookup other new ≡ lookup other old
unfolding KeepsOthers
other_keys eq test old new kept = kept

module _ {K X : Type 0} (read : K → List ℕ) where
  -- what stands under a key of these bytes
  abbrev pub at_bytes : BTreeMap K X → List ℕ → Option X
  at_bytes m bs = get_by (λ k. slice_cmp nat_cmp bs (read k)) m

  -- A map that is changed at the key of these bytes, at any bytes.
  pub updated : (bs : List ℕ) (old new : BTreeMap K X) (w : Option X) →
      UpdatesBy (λ x y. slice_cmp nat_cmp (read x) (read y)) (λ k. slice_cmp nat_cmp bs (read k)) old new w →
      (cs : List ℕ) → at_bytes new cs ≡ cond (bytes_eq bs cs) w (at_bytes old cs)
  updated bs old new w updates cs = by (bytes_eq bs cs) refl
    where
      by : (same : Bool) → bytes_eq bs cs ≡ same → at_bytes new cs ≡ cond same w (at_bytes old cs)
      by true is = subst (λ (ds : List ℕ). at_bytes new ds ≡ w) ((bytes_eq-Decides bs cs).0 is) updates.1
      by false is =
          other_keys (eq_by_cmp (λ x y. slice_cmp nat_cmp (read x) (read y))) _ old.entries new.entries updates.3 _
          (λ x y. (eq_by_cmp_equiv nat_list_cmp_total).congr cs (read x) (read y))
          (λ k. apart bs cs (read k) is)
