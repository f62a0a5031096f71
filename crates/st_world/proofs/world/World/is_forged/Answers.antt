-- By what is wrong with the seal.
use Rattle.std.proofs.Common.{◌∙◌, ap, sym, true, false, List}
use Rattle.st_hss_seal.specs.Sealers.{scheme_in}
use Rattle.st_hss_seal.specs.Sealing.{holds_in}
use Rattle.st_message.specs.declared.made.MadeSeal.{MadeSeal}
use Rattle.st_protocol.specs.World.{has_made}
use Rattle.st_world.proofs.ForgedLaws.{not_correct, not_checked, checked, same_check}
use Rattle.st_world.proofs.world.World.is_forged.Goals as goal

pub returns-then-not-is_correct-clause-forged : goal.returns-then-not-is_correct-clause-forged
returns-then-not-is_correct-clause-forged c = λ d m stands. not_correct d m c.args.sealed.now (sym (c.is_correct.ensures d stands.set) ∙ c.if-not-is_correct.true)

pub returns-then-not-check-clause-forged : goal.returns-then-not-check-clause-forged
returns-then-not-check-clause-forged c =
    λ d m stands.
    not_checked c.args.self.now d m c.args.sealed.now stands.set (sym (c.is_correct.ensures d stands.set) ∙ c.if-not-is_correct.false)
    (same_check (holds_in (scheme_in c.args.self.now.seals)) c.args.sealed.now.who _ _ _ _ false (c.as_slice.ensures ∙ c.in_ok-bytes.ensures.spelled) c.as_slice-2.ensures (sym c.check.ensures ∙ c.if-not-check.true))

pub returns-clause-forged : goal.returns-clause-forged
returns-clause-forged c =
    λ d m stands.
    checked c.args.self.now d m c.args.sealed.now c.in_ok-made.made stands.set (sym (c.is_correct.ensures d stands.set) ∙ c.if-not-is_correct.false)
    (same_check (holds_in (scheme_in c.args.self.now.seals)) c.args.sealed.now.who _ _ _ _ true (c.as_slice.ensures ∙ c.in_ok-bytes.ensures.spelled) c.as_slice-2.ensures (sym c.check.ensures ∙ c.if-not-check.false))
    (c.in_ok-made.ensures.has ∙ ap (λ (list : List MadeSeal). has_made list c.args.sealed.now.who c.args.sealed.now.statement) stands.sending.made)
