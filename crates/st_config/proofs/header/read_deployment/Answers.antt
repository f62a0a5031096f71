-- The lines are seven, or ten.
use Rattle.std.proofs.Common.{◌∙◌, ◌≤◌, ◌<◌, length}
use Rattle.std.specs.Str.Lines.{lines}
use Rattle.st_config.proofs.LineLaws.{deployment_of_lines-seven, deployment_of_lines-ten}
use Rattle.st_config.proofs.header.read_deployment.Goals as goal

pub returns-in-len7-clause-value : goal.returns-in-len7-clause-value
returns-in-len7-clause-value c =
    let same = c.as_slice.ensures.value in
    let least : 7 ≤ length c.in_ok-lines.lines.items = rw same at c.in-len7.len_at_least in
    let most : length c.in_ok-lines.lines.items < 8 = rw same at c.in-len7.len_below in
    c.in_ok-read_rest-in-len7.ensures.value
    ∙ rw (c.read_counts-counts.ensures.value, c.read_keyed-seals.ensures.value)
    (rw same (deployment_of_lines-seven (lines c.args.text.now) c.in_ok-lines.lines.items _ c.in_ok-lines.ensures least most))

pub returns-in-len10-clause-value : goal.returns-in-len10-clause-value
returns-in-len10-clause-value c =
    let same = c.as_slice.ensures.value in
    let least : 10 ≤ length c.in_ok-lines.lines.items = rw same at c.in-len10.len_at_least in
    let most : length c.in_ok-lines.lines.items < 11 = rw same at c.in-len10.len_below in
    c.in_ok-read_rest-in-len10.ensures.value
    ∙ rw (c.read_counts-counts-in-len10.ensures.value, c.read_hss-seals.ensures.value)
    (rw same (deployment_of_lines-ten (lines c.args.text.now) c.in_ok-lines.lines.items _ c.in_ok-lines.ensures least most))
