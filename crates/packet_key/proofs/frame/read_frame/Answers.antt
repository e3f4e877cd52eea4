use Rattle.std.proofs.Common.{◌+◌, ◌∙◌, sym, ap, arith}
use Rattle.packet_key.specs.Frame.{is_tag, announced}
use Rattle.packet_key.proofs.Tags.{behind_addresses, tag_passed, no_tag_left, tag_cut, no_tag}
use Rattle.packet_key.proofs.frame.read_frame.Goals as goal

pub returns-then-tags_left-eq0 : goal.returns-then-tags_left-eq0
returns-then-tags_left-eq0 c =
    let tagged = sym (ap is_tag c.loop-at.invariant.told) ∙ sym c.is_tag.ensures ∙ c.loop-at-test.true in
    sym (no_tag_left _ _ _ tagged c.if-tags_left-eq0.true) ∙ c.loop-at.invariant.same ∙ behind_addresses _ c.if-frame-lt14.false

pub returns-then-frame-at : goal.returns-then-frame-at
returns-then-frame-at c =
    let tagged = sym (ap is_tag c.loop-at.invariant.told) ∙ sym c.is_tag.ensures ∙ c.loop-at-test.true in
    sym (tag_cut _ _ _ tagged (omega arith) c.if-frame-at.true) ∙ c.loop-at.invariant.same ∙ behind_addresses _ c.if-frame-lt14.false

pub loop-at-preserved : goal.loop-at-preserved
loop-at-preserved c =
    let tagged = sym (ap is_tag c.loop-at.invariant.told) ∙ sym c.is_tag.ensures ∙ c.loop-at-test.true in
    record {
      inside = omega arith;
      near = omega arith;
      told = c.u16_at-ethertype-in-loop-at.ensures;
      same = tag_passed _ _ _ tagged (omega arith) c.if-frame-at.false ∙ c.loop-at.invariant.same;
    }

pub returns : goal.returns
returns c =
    let plain = sym (ap is_tag c.loop-at.invariant.told) ∙ sym c.is_tag.ensures ∙ c.loop-at-test.false in
    c.read_announced.ensures ∙ ap (λ t. announced t c.args.frame.now (c.loop-at.at + 2)) c.loop-at.invariant.told
    ∙ sym (no_tag c.loop-at.tags_left _ _ plain) ∙ c.loop-at.invariant.same ∙ behind_addresses _ c.if-frame-lt14.false
