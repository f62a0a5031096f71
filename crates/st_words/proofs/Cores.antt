-- Cores, reports and statements as fields.
use Rattle.std.proofs.Common.{◌≡◌, ℕ, ◌^◌, ◌<◌, true, false, cond, eqb, List, [], ◌∷◌, ◌++◌, length, Option, Some, Ok, Err, refl, sym, ap, subst, ◌∙◌, arith, inl, inr}
use Rattle.std.specs.Int.{w64}
use Rattle.std.specs.Prelude.{IsTrue, find, ◌&&◌}
use Rattle.std.proofs.lemmas.Bool.{eqb-true, and_parts, and_from, and_right, cond-true, cond-false}
use Rattle.st_fields.specs.Spelling.{byte, number, is_among}
use Rattle.st_fields.proofs.Fields.{Takes, IsField, ok_is, guard_read, chosen, step, again_step, ◌▷◌, none, joined-append}
use Rattle.st_fields.proofs.Leaves.{byte_field, u64_field, mark_field}
use Rattle.st_fields.proofs.Numbers.{kind_field}
use Rattle.st_words.specs.declared.kind.StatementKind.{StatementKind}
use Rattle.st_words.specs.declared.kind.StatementKind.TheVariants as kinds
use Rattle.st_words.specs.declared.statement.Statement.{Statement}
use Rattle.st_words.specs.declared.statement.Statement.TheVariants.{LocalReport, GlobalReport}
use Rattle.st_words.specs.declared.limits.ReportBounds.{ReportBounds}
use Rattle.st_words.specs.Kind.{kind_number, kind_of}
use Rattle.st_words.specs.Ranges.{KeepsStatement, KeepsBounds, FitsStatement}
use Rattle.st_words.specs.Spelling.{fields_spelling, core_spelling, statement_mark, statement_spelling}
use Rattle.st_words.specs.Reading.{core_at, local_report_at, global_report_at, report_at, statement_at, all_kinds}
use Rattle.st_words.proofs.Statements.{IsRead, fields_field, local_report_takes, local_report_again, global_report_takes, global_report_again}

-- ---- a number has one kind

-- the kind of a number
named : ℕ → Option StatementKind
named n = find (λ k. eqb (kind_number k) n) all_kinds

-- each kind is the kind of its number
named-number : (kind : StatementKind) → named (kind_number kind) ≡ Some kind
unfolding named
named-number kinds.Prepare = refl
named-number kinds.Proposal = refl
named-number kinds.Accept = refl
named-number kinds.LocalVc = refl
named-number kinds.GlobalVc = refl
named-number kinds.LocalReport = refl
named-number kinds.GlobalReport = refl
named-number kinds.LocalUnion = refl
named-number kinds.GlobalUnion = refl
named-number kinds.Reply = refl
named-number kinds.ClientUpdate = refl

-- two kinds have two numbers
one_kind : (j k : StatementKind) → kind_number j ≡ kind_number k → j ≡ k
one_kind j k e = let same : Some j ≡ Some k = sym (named-number j) ∙ ap named e ∙ named-number k in cc

-- each kind is among them all
is_among-all : (kind : StatementKind) → IsTrue (is_among kind_number all_kinds kind)
is_among-all kinds.Prepare = refl
is_among-all kinds.Proposal = refl
is_among-all kinds.Accept = refl
is_among-all kinds.LocalVc = refl
is_among-all kinds.GlobalVc = refl
is_among-all kinds.LocalReport = refl
is_among-all kinds.GlobalReport = refl
is_among-all kinds.LocalUnion = refl
is_among-all kinds.GlobalUnion = refl
is_among-all kinds.Reply = refl
is_among-all kinds.ClientUpdate = refl

-- ---- cores

-- a kind and its fields are a core
of_kind : (bytes : List ℕ) (n : ℕ) (kind : StatementKind) (r : List ℕ) (s : Statement) (rest : List ℕ) → n ≡ kind_number kind → Takes bytes (byte n) r → IsRead kind r (s, rest) → Takes bytes (core_spelling s) rest
unfolding core_spelling
of_kind bytes n kind r s rest is t read =
    let number-is : n ≡ kind_number (kind_of s) = is ∙ ap kind_number (sym read.1.0) in
    subst (λ (k : ℕ). Takes bytes (byte k ++ (fields_spelling s ++ [])) rest) number-is (t ▷ (read.0 ▷ none read.0.rest_fits))

-- a core of one of the kinds
pub core_field : (among : List StatementKind) → IsField (core_at among) core_spelling (λ s. IsTrue (is_among kind_number among (kind_of s)) × (KeepsStatement s × FitsStatement s))
unfolding core_at core_spelling
core_field among = record {
  takes = λ bytes s rest fits e.
      step (kind_field kind_number one_kind among) bytes (s, rest) fits e λ kind r0 t0 k0 e0.
      let t = (fields_field kind).takes r0 s rest t0.rest_fits e0 in
      (of_kind bytes (kind_number kind) kind r0 s rest refl t0 t, (subst (λ (k : StatementKind). IsTrue (is_among kind_number among k)) (sym t.1.0) k0, t.1.1));
  again = λ s rest k.
      ap (core_at among) (joined-append (byte (kind_number (kind_of s)) ∷ fields_spelling s ∷ []) rest)
      ∙ again_step (kind_field kind_number one_kind among) _ _ (kind_of s) k.0 ((fields_field (kind_of s)).again s rest (refl, k.1));
}

-- a statement and its deployment's id
pub statement_field : IsField statement_at (λ x. statement_spelling x.0 x.1) (λ x. (x.0 < 2 ^ 64) × (KeepsStatement x.1 × FitsStatement x.1))
unfolding statement_at statement_spelling
statement_field = record {
  takes = λ bytes x rest fits e.
      step (mark_field statement_mark) bytes (x, rest) fits e λ mark r0 t0 k0 e0.
      step u64_field r0 (x, rest) t0.rest_fits e0 λ id r1 t1 k1 e1.
      step (core_field all_kinds) r1 (x, rest) t1.rest_fits e1 λ s r2 t2 k2 e2.
      subst (λ (p : (ℕ × Statement) × List ℕ). Takes bytes (statement_spelling p.0.0 p.0.1) p.1 × ((p.0.0 < 2 ^ 64) × (KeepsStatement p.0.1 × FitsStatement p.0.1))) (ok_is ((id, s), r2) (x, rest) e2)
      (t0 ▷ (t1 ▷ (t2 ▷ none t2.rest_fits)), (k1, k2.1));
  again = λ x rest k.
      ap statement_at (joined-append (statement_mark ∷ number w64 x.0 ∷ core_spelling x.1 ∷ []) rest)
      ∙ (again_step (mark_field statement_mark) _ _ tt tt
      (again_step u64_field _ _ x.0 k.0
      (again_step (core_field all_kinds) _ _ x.1 (is_among-all (kind_of x.1), k.1) refl)));
}

-- ---- reports

-- reads a report of the kind that stands first
report_again : (bounds : ReportBounds) (s : Statement) (rest : List ℕ) → KeepsBounds bounds s → KeepsStatement s × FitsStatement s → report_at bounds (byte (kind_number (kind_of s)) ++ (fields_spelling s ++ rest)) ≡ Ok (s, rest)
unfolding report_at
report_again bounds (LocalReport site local index view base items) rest b k =
    let s = LocalReport site local index view base items in
    again_step byte_field _ _ 6 (omega arith)
    (cond-true (bounds.local && true) _ _ (and_from bounds.local true b.0 refl)
    ∙ local_report_again bounds s rest b (refl, k))
report_again bounds (GlobalReport site view index base items) rest b k =
    let s = GlobalReport site view index base items in
    again_step byte_field _ _ 7 (omega arith)
    (cond-false (bounds.local && false) _ _ (and_right bounds.local false refl)
    ∙ cond-true (bounds.global && true) _ _ (and_from bounds.global true b.0 refl)
    ∙ global_report_again bounds s rest b (refl, k))
report_again bounds _ rest b k = absurd b

-- a report's core within the bounds
pub report_field : (bounds : ReportBounds) → IsField (report_at bounds) core_spelling (λ s. KeepsBounds bounds s × (KeepsStatement s × FitsStatement s))
unfolding report_at core_spelling
report_field bounds = record {
  takes = λ bytes s rest fits e.
      step byte_field bytes (s, rest) fits e λ kind r0 t0 k0 e0.
      elim (chosen (bounds.local && eqb kind 6) (local_report_at bounds r0) (cond (bounds.global && eqb kind 7) (global_report_at bounds r0) (Err (length bytes))) (Ok (s, rest)) e0) [
        | inl local ↦
            (let test = and_parts bounds.local (eqb kind 6) local.0 in
            let t = local_report_takes bounds test.0 r0 s rest t0.rest_fits local.1 in
            (of_kind bytes kind kinds.LocalReport r0 s rest (eqb-true kind 6 test.1) t0 t.0, (t.1, t.0.1.1)))
        | inr other ↦
            (let g = guard_read (bounds.global && eqb kind 7) (global_report_at bounds r0) (s, rest) (length bytes) other.1 in
            let test = and_parts bounds.global (eqb kind 7) g.0 in
            let t = global_report_takes bounds test.0 r0 s rest t0.rest_fits g.1 in
            (of_kind bytes kind kinds.GlobalReport r0 s rest (eqb-true kind 7 test.1) t0 t.0, (t.1, t.0.1.1)))
      ];
  again = λ s rest k.
      ap (report_at bounds) (joined-append (byte (kind_number (kind_of s)) ∷ fields_spelling s ∷ []) rest) ∙ report_again bounds s rest k.0 k.1;
}
