use Rattle.std.proofs.Common.{◌≡◌, ◌≤◌, List, ℕ, [], Ok, length, sym, ap, subst, ◌∙◌, arith}
use Rattle.st_journal.specs.Blocks.{bodies_of, IsFile}
use Rattle.st_journal.proofs.BlockLaws.{file_reads, short_reads}
use Rattle.st_journal.proofs.Runs.{weaker}
use Rattle.st_journal.proofs.journal.repair.Goals as goal

-- a short file
pub returns-in-Ok-clause-found : goal.returns-in-Ok-clause-found
returns-in-Ok-clause-found g c = short_reads c.args.file.now c.if-file-le-SHORT.true ∙ ap (λ (l : List (List ℕ)). Ok l) (sym c.new.ensures)

pub returns-in-Ok-clause-any_moment : goal.returns-in-Ok-clause-any_moment
returns-in-Ok-clause-any_moment g c told on_disk =
    let d = g.D.Disk in
    let short : length (d.seen c.args.disk.now) ≤ 9 = omega (arith, c.if-file-le-SHORT.true, ap length on_disk.same) in
    weaker d.moment d.left_since c.args.disk.now c.make_new.new.disk (λ c'. bodies_of c' ≡ Ok []) (λ c'. bodies_of c' ≡ bodies_of c.args.file.now) (c.make_new.ensures.any_moment told short on_disk.durable)
    (λ c' e. e ∙ sym (short_reads c.args.file.now c.if-file-le-SHORT.true))

pub returns-in-Err-clause-any_moment : goal.returns-in-Err-clause-any_moment
returns-in-Err-clause-any_moment g c told on_disk =
    let d = g.D.Disk in
    let short : length (d.seen c.args.disk.now) ≤ 9 = omega (arith, c.if-file-le-SHORT.true, ap length on_disk.same) in
    weaker d.moment d.left_since c.args.disk.now c.make_new.new.disk (λ c'. bodies_of c' ≡ Ok []) (λ c'. bodies_of c' ≡ bodies_of c.args.file.now) (c.make_new.ensures.any_moment told short on_disk.durable)
    (λ c' e. e ∙ sym (short_reads c.args.file.now c.if-file-le-SHORT.true))

-- a longer one
pub returns-in-Ok-trim-clause-found : goal.returns-in-Ok-trim-clause-found
returns-in-Ok-trim-clause-found g c = let found = c.in-Ok-read_file.ensures.found in file_reads c.in-Ok-read_file.bodies c.in-Ok-read_file.end found.0 c.args.file.now found.1

pub returns-in-Ok-trim-clause-ready : goal.returns-in-Ok-trim-clause-ready
returns-in-Ok-trim-clause-ready g c told on_disk =
    let found = c.in-Ok-read_file.ensures.found in
    let file = subst (λ (l : List ℕ). IsFile c.in-Ok-read_file.bodies c.in-Ok-read_file.end found.0 l) on_disk.same found.1 in
    c.in-Ok-trim.ensures.made told c.in-Ok-read_file.bodies found.0 file (ap length on_disk.same) on_disk.durable

pub returns-in-Ok-trim-clause-any_moment : goal.returns-in-Ok-trim-clause-any_moment
returns-in-Ok-trim-clause-any_moment g c told on_disk =
    let d = g.D.Disk in
    let found = c.in-Ok-read_file.ensures.found in
    let reads = file_reads c.in-Ok-read_file.bodies c.in-Ok-read_file.end found.0 c.args.file.now found.1 in
    let file = subst (λ (l : List ℕ). IsFile c.in-Ok-read_file.bodies c.in-Ok-read_file.end found.0 l) on_disk.same found.1 in
    weaker d.moment d.left_since c.args.disk.now c.trim.new.disk (λ c'. bodies_of c' ≡ Ok c.in-Ok-read_file.bodies) (λ c'. bodies_of c' ≡ bodies_of c.args.file.now)
    (c.trim.ensures.any_moment told c.in-Ok-read_file.bodies found.0 file on_disk.durable) (λ c' e. e ∙ sym reads)

pub returns-in-Err-trim-clause-any_moment : goal.returns-in-Err-trim-clause-any_moment
returns-in-Err-trim-clause-any_moment g c told on_disk =
    let d = g.D.Disk in
    let found = c.in-Ok-read_file.ensures.found in
    let reads = file_reads c.in-Ok-read_file.bodies c.in-Ok-read_file.end found.0 c.args.file.now found.1 in
    let file = subst (λ (l : List ℕ). IsFile c.in-Ok-read_file.bodies c.in-Ok-read_file.end found.0 l) on_disk.same found.1 in
    weaker d.moment d.left_since c.args.disk.now c.trim.new.disk (λ c'. bodies_of c' ≡ Ok c.in-Ok-read_file.bodies) (λ c'. bodies_of c' ≡ bodies_of c.args.file.now)
    (c.trim.ensures.any_moment told c.in-Ok-read_file.bodies found.0 file on_disk.durable) (λ c' e. e ∙ sym reads)
