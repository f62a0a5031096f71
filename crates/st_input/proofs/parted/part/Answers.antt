-- Line by line.
use Rattle.std.proofs.Common.{◌∙◌, [], rules, sym}
use Rattle.st_input.specs.Parted.{parts}
use Rattle.st_input.proofs.PartedLaws.{begun, goes_on, found, not_found}
use Rattle.st_input.proofs.parted.part.Goals as goal

pub loop-line-init : goal.loop-line-init
loop-line-init c = record { parting = begun c.args.text.now c.utf8.text; utf8 = c.utf8.text }

pub returns-then-is_separator-clause-value : goal.returns-then-is_separator-clause-value
returns-then-is_separator-clause-value c =
    let p = found c.args.text.now c.loop-line.header c.loop-line.number c.loop-line.rest.now c.in-Some.line.now (parts c.in-Some.more.now) c.loop-line.invariant.parting c.in-Some.ensures.parts (sym c.is_separator.ensures ∙ c.if-is_separator.true) in
    rw (c.parts_at.ensures.header, c.parts_at.ensures.first, c.parts_at.ensures.events) (sym p)

pub loop-line-preserved : goal.loop-line-preserved
loop-line-preserved c =
    record {
      parting =
          goes_on c.args.text.now c.loop-line.header c.loop-line.number c.loop-line.rest.now c.in-Some.line.now c.in-Some.more.now c.utf8.text c.loop-line.invariant.parting
          c.in-Some.ensures.parts c.in-Some.ensures.whole (sym c.is_separator.ensures ∙ c.if-is_separator.false);
      utf8 = search rules;
    }

pub returns-then-is_separator-2-clause-value : goal.returns-then-is_separator-2-clause-value
returns-then-is_separator-2-clause-value c =
    let p = found c.args.text.now c.loop-line.header c.loop-line.number c.loop-line.rest.now c.loop-line.rest.now [] c.loop-line.invariant.parting (search rules) (sym c.is_separator-2.ensures ∙ c.if-is_separator-2.true) in
    rw (c.parts_at-then-is_separator-2.ensures.header, c.parts_at-then-is_separator-2.ensures.first, c.parts_at-then-is_separator-2.ensures.events) (sym p)

pub returns-else-is_separator-2-clause-value : goal.returns-else-is_separator-2-clause-value
returns-else-is_separator-2-clause-value c =
    sym (not_found c.args.text.now c.loop-line.header c.loop-line.number c.loop-line.rest.now c.loop-line.invariant.parting (search rules) (sym c.is_separator-2.ensures ∙ c.if-is_separator-2.false))
