-- The path goes up one level at a time, from sibling to sibling.
use Rattle.std.proofs.Common.{◌≡◌, ℕ, ◌+◌, ◌-◌, ◌/◌, ◌<◌, List, ◌++◌, get_or, sym, ap, ◌∙◌, arith}
use Rattle.st_lms.specs.declared.secret.LmsSecret.{LmsSecret}
use Rattle.st_lms.specs.Kinds.{height_of}
use Rattle.st_lms.specs.Formulas.{tree_node, path_from, sibling}
use Rattle.st_lms.proofs.PathLaws.{path_end, path_step, level_up, sibling_within}
use Rattle.st_lms.proofs.tree.Tree.put_path.Goals as goal

pub loop-k-preserved : goal.loop-k-preserved
loop-k-preserved c =
    let s : LmsSecret = c.args.self.now.secret in
    let h : ℕ = height_of s.kind in
    let k : ℕ = c.loop-k.k in
    let r : ℕ = c.loop-k.r in
    let node : List ℕ = c.index.result.now in
    let below : k < h = omega arith in
    let level = level_up h k r below c.loop-k.invariant.low in
    let inside = sibling_within s.kind r level.0 c.loop-k.invariant.high in
    let at : node ≡ get_or c.args.self.now.nodes.items (sibling r) node = c.index.ensures ∙ ap (λ (i : ℕ). get_or c.args.self.now.nodes.items i node) c.sibling.ensures in
    let is : node ≡ tree_node s (sibling r) = at ∙ c.args.self.now.built.each (sibling r) node inside.0 inside.1 in
    let put : c.put_bytes.new.out.items ≡ c.loop-k.out.items ++ node = c.in_ok-put_bytes.ensures in
    record {
      low = level.1;
      high = omega (arith, c.loop-k.invariant.high);
      path = ap (λ (x : List ℕ). x ++ path_from s (h - (k + 1)) (r / 2)) put ∙ (sym (path_step s h k r c.loop-k.out.items node below is) ∙ c.loop-k.invariant.path);
    }

pub returns : goal.returns
returns c =
    let s : LmsSecret = c.args.self.now.secret in
    let h : ℕ = height_of s.kind in
    let done : h - c.loop-k.k ≡ 0 = omega arith in
    sym (path_end s (h - c.loop-k.k) c.loop-k.r c.loop-k.out.items done) ∙ c.loop-k.invariant.path
