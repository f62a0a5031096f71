-- Bytes in which no seal is forged are delivered.
use Rattle.std.proofs.Common.{◌∙◌, sym}
use Rattle.st_world.proofs.StepLaws.{raw_missing, raw_forged, raw_delivered, forged_some, forged_none}
use Rattle.st_world.proofs.world.World.step_raw.Goals as goal

pub returns-then-not-is_dest : goal.returns-then-not-is_dest
returns-then-not-is_dest c = λ d m stands. raw_missing c.args.self.now c.args.self.now d m c.args.to c.args.bytes.now stands (sym (c.is_dest.ensures d stands.set) ∙ c.if-not-is_dest.true)

pub returns-in-Some : goal.returns-in-Some
returns-in-Some c =
    λ d m stands.
    raw_forged c.args.self.now c.args.self.now d m c.args.to c.args.bytes.now c.as_slice-bytes.result.now c.in-Some.place c.as_slice-bytes.ensures stands (sym (c.is_dest.ensures d stands.set) ∙ c.if-not-is_dest.false)
    (forged_some c.in_ok-place.field-0 c.in-Some.place _ c.in-Some.is (c.in_ok-place.ensures.place d m stands))

pub returns-in-None : goal.returns-in-None
returns-in-None c =
    λ d m stands.
    raw_delivered c.deliver_bytes.result c.deliver_bytes.new.self d m c.args.to c.args.bytes.now c.as_slice-bytes.result.now c.as_slice-bytes.ensures (sym (c.is_dest.ensures d stands.set) ∙ c.if-not-is_dest.false)
    (forged_none c.in_ok-place.field-0 _ c.in-None.is (c.in_ok-place.ensures.place d m stands)) (c.deliver_bytes.ensures d m stands)
